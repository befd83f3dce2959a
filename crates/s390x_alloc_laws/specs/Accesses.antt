-- That the checker of a plan looks at the operand of each access.
use Rattle.std.specs.Prelude.{◌≡◌, Option, Some, None, ⊤}
use Rattle.s390x_inst.specs.declared.args.MemArg.{MemArg}
use Rattle.s390x_inst.specs.declared.inst.Inst.{Inst}
use Rattle.s390x_typed_steps.specs.Memory.{MemoryInstruction, memory}
use Rattle.s390x_alloc.specs.Shape.{memory_operand}

-- the operand in memory of a typed step, where it has one, is this
abbrev pub IsOperandOf : Option MemoryInstruction → Option MemArg → Type 0
IsOperandOf None seen = ⊤
IsOperandOf (Some x) seen = seen ≡ Some x.operand

-- the operand in which the checker looks for labels is that of the instruction's typed step
abbrev pub OperandsAreSeen : Type 0
OperandsAreSeen = (i : Inst) → IsOperandOf (memory i) (memory_operand i)
