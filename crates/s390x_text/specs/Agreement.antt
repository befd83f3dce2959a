-- That an instruction has no row for its text exactly where emission has none for its bytes.
use Rattle.std.specs.Prelude.{◌≡◌, Bool, true, false, is_some, Option, Some, None}
use Rattle.s390x_inst.specs.Emission.{Emission}
use Rattle.s390x_inst.specs.declared.inst.Inst.{Inst}
use Rattle.s390x_typed_steps.specs.SingleInstruction.{single_instruction}
use Rattle.s390x_typed_steps.specs.Memory.{memory}
use Rattle.s390x_text_rows.specs.Texts.{Text}
use Rattle.s390x_text_rows.specs.Integer.{arithmetic_text, pair_instruction_text, compare_text, move_text}
use Rattle.s390x_text_rows.specs.Storage.{load_text, store_text, storage_operator_text}
use Rattle.s390x_text_rows.specs.declared.error.TextError.{TextError}
use Rattle.s390x_text_rows.specs.declared.error.TextError.TheVariants.{NoRow}

-- the cause isn't that there is no row
abbrev pub has_row_text : Option TextError → Bool
has_row_text (Some NoRow) = false
has_row_text c = true

-- a text has a row exactly where the bytes have one; where there is no text, nothing is said
abbrev pub Agrees : Option Text → Bool → Type 0
Agrees None has = Unit {0}
Agrees (Some t) has = has_row_text t.cause ≡ has

-- an instruction on registers and immediates, or with an operand in memory, has no row for its text exactly where it is neither one machine
-- instruction on registers nor one with an operand, so that emission has `BadOperator` for another cause than the address
pub record RowsAgree (has : Bool) (e : Emission) (i : Inst) : Type 0 where
  pub arithmetic : Agrees (arithmetic_text i) (is_some (single_instruction i))
  pub pairs : Agrees (pair_instruction_text i) (is_some (single_instruction i))
  pub comparisons : Agrees (compare_text i) (is_some (single_instruction i))
  pub moves : Agrees (move_text i) (is_some (single_instruction i))
  pub loads : Agrees (load_text has e i) (is_some (memory i))
  pub stores : Agrees (store_text has e i) (is_some (memory i))
  pub operators : Agrees (storage_operator_text has e i) (is_some (memory i))
