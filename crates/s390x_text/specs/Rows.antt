-- Which instructions have machine rows, as the causes of emission tell; and that a text is refused for want of a row just where there is none.
use Rattle.std.specs.Prelude.{◌≡◌, ℕ, ◌+◌, Bool, true, false, ◌&&◌, ◌||◌, is_some, nat_lt, Option, Some}
use Rattle.s390x_base.specs.declared.error.EmitError.{EmitError}
use Rattle.s390x_base.specs.declared.error.EmitError.TheVariants.{BadOperator}
use Rattle.s390x_inst.specs.Emission.{Emission}
use Rattle.s390x_inst.specs.declared.inst.Inst.{Inst}
use Rattle.s390x_inst.specs.declared.state.IsaFlags.{IsaFlags}
use Rattle.s390x_typed_steps.specs.Calls.{is_first_saved}
use Rattle.s390x_typed_steps.specs.Causes.{branch_cause}
use Rattle.s390x_typed_steps.specs.Memory.{memory}
use Rattle.s390x_typed_steps.specs.SingleInstruction.{single_instruction}
use Rattle.s390x_typed_steps.specs.Tree.{StepBody, Tree, Whole, NoLoad, TailOpening, empty, leaf, loop_node, prepend}
use Rattle.s390x_text_rows.specs.Simple.{simple_text}
use Rattle.s390x_text_rows.specs.declared.error.TextError.{TextError}
use Rattle.s390x_text.specs.Agreement.{has_row_text}
use Rattle.s390x_text.specs.Instructions.{inst_text}

-- the cause isn't that there is no row
abbrev pub names_row : Option EmitError → Bool
names_row (Some BadOperator) = false
names_row cause = true

-- An instruction that is neither a loop nor a call has machine rows: it is one machine instruction, it has those for its operand in memory, or it has causes of its
-- own, none of which is that there is no row. How many blocks there are and how many loops are around it makes no difference
abbrev pub has_rows : (blocks depth : ℕ) → Inst → Bool
has_rows blocks depth i = is_some (single_instruction i) || is_some (memory i) || names_row (branch_cause blocks depth i)

-- a step's body has machine rows. A result of a type without a load has none, nor has a tail call whose frame saves general registers from one outside 6 to 14 on
abbrev pub body_has_rows : (blocks depth : ℕ) → StepBody → Bool
body_has_rows blocks depth (Whole i) = has_rows blocks depth i
body_has_rows blocks depth NoLoad = false
body_has_rows blocks depth (TailOpening target first_saved is_lost) = is_first_saved first_saved
body_has_rows blocks depth b = true

-- all bodies inside so many loops, of which there are at most 8, have machine rows
abbrev pub tree_has_rows : (blocks depth : ℕ) → Tree → Bool
tree_has_rows blocks depth empty = true
tree_has_rows blocks depth (leaf b rest) = body_has_rows blocks depth b && tree_has_rows blocks depth rest
tree_has_rows blocks depth (loop_node mask members rest) = nat_lt depth 8 && tree_has_rows blocks (depth + 1) members && tree_has_rows blocks depth rest

-- A text is refused for want of a row only where there is none, and refused where there is none. Of several parts the first cause counts, which may be that of
-- an address before the part without a row
pub record AgreesInOrder (cause : Option TextError) (has : Bool) : Type 0 where
  pub only_there : has_row_text cause ≡ false → has ≡ false
  pub refused : has ≡ false → is_some cause ≡ true

-- each instruction that is neither a loop nor a call has a row for its text exactly where it has some for its bytes, on vectors too, whether the machine has
-- accesses relative to the instruction or lacks them
abbrev pub RowsAgreeExactly : Type 0
RowsAgreeExactly = (has_relative : Bool) (e : Emission) (blocks depth : ℕ) (i : Inst) → has_row_text (simple_text has_relative e i).cause ≡ has_rows blocks depth i

-- so have calls with the loads of their results, tail calls and loops, by all steps that emission makes of them in any state with the same layout of the frame
abbrev pub RowsAgreeInOrder : Type 0
RowsAgreeInOrder =
    (flags : IsaFlags) (e before : Emission) (blocks depth : ℕ) (i : Inst) → e.layout ≡ before.layout →
    AgreesInOrder (inst_text flags depth e i).cause (tree_has_rows blocks depth (prepend before i empty))
