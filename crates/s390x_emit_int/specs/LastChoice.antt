-- A block that ends with a choice whose second branch leads to the next block.
use Rattle.std.specs.Prelude.{◌≡◌, ◌-◌, List, length, slice_get, Some}
use Rattle.s390x_inst.specs.declared.inst.Inst.{Inst}
use Rattle.s390x_inst.specs.declared.inst.Inst.TheVariants.{CondBr}
use Rattle.s390x_emit_int.specs.declared.last_choice.LastChoice.{LastChoice}

-- the choice as an instruction
abbrev pub choice_of : LastChoice → Inst
choice_of c = CondBr c.taken c.not_taken c.cond

-- it is the last of some instructions
abbrev pub IsLastOf : List Inst → LastChoice → Type 0
IsLastOf is c = slice_get is (length is - 1) ≡ Some (choice_of c)
