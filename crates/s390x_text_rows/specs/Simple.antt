-- The text of an instruction that is neither a loop nor a call (cranelift-codegen, `mod.rs`).
use Rattle.std.specs.Prelude.{[], Bool, Some}
use Rattle.s390x_inst.specs.Emission.{Emission}
use Rattle.s390x_inst.specs.declared.inst.Inst.{Inst}
use Rattle.s390x_inst.specs.declared.inst.Inst.TheVariants.{Vector}
use Rattle.s390x_text_rows.specs.Texts.{Text, text_or}
use Rattle.s390x_text_rows.specs.Integer.{arithmetic_text, pair_instruction_text, compare_text, move_text}
use Rattle.s390x_text_rows.specs.Storage.{load_text, store_text, storage_operator_text}
use Rattle.s390x_text_rows.specs.Control.{control_text}
use Rattle.s390x_text_rows.specs.Vector.{vector_text}
use Rattle.s390x_text_rows.specs.declared.error.TextError.TheVariants.{NoRow}

-- no text
abbrev pub unbuilt : Text
unbuilt = record { cause = Some NoRow; bytes = [] }

-- the text of an instruction that is none of the others
abbrev pub other_text : Emission → Inst → Text
other_text e (Vector v) = vector_text e v
other_text e i = unbuilt

-- the text of an instruction without an operand in memory, or of another one
abbrev pub register_text : Emission → Inst → Text
register_text e i =
    text_or (arithmetic_text i) (text_or (pair_instruction_text i) (text_or (compare_text i) (text_or (move_text i) (text_or (control_text i) (other_text e i)))))

-- the text of an instruction that is neither a loop nor a call, on a machine that has accesses relative to the instruction or lacks them
abbrev pub simple_text : (has_relative : Bool) → Emission → Inst → Text
simple_text has e i = text_or (load_text has e i) (text_or (store_text has e i) (text_or (storage_operator_text has e i) (register_text e i)))
