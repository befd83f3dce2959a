-- The masks of `CondBr`, `JTSequence`, `CondBreak`, `TrapIf` and `Loop`, and the displacements of memory operands lie in their range; nothing is asked
-- of other numbers.
-- A value of the program always meets this; a value of a definition need not.
use Rattle.std.specs.Prelude.{ℕ, ◌≤◌, pos, negsuc, ◌≤ℤ◌, List, [], ◌∷◌, Option, Some, None}
use Rattle.s390x_inst.specs.declared.args.MemArg.{MemArg}
use Rattle.s390x_inst.specs.declared.args.MemArg.TheVariants.{BXD12, BXD20, InitialSPOffset, IncomingArgOffset, OutgoingArgOffset, SlotOffset, SpillOffset}
use Rattle.s390x_inst.specs.declared.inst.Inst.{Inst}
use Rattle.s390x_inst.specs.declared.inst.Inst.TheVariants.{CondBr, CondBreak, TrapIf, JTSequence}
use Rattle.s390x_typed_steps.specs.Memory.{MemoryInstruction, memory}
use Rattle.s390x_typed_steps.specs.Tree.{StepBody, Tree, Whole, Loaded, Folded, empty, leaf, loop_node}

-- the mask of a condition
abbrev pub IsConditionMask : ℕ → Type 0
IsConditionMask mask = (1 ≤ mask) × (mask ≤ 14)

-- the mask of a `CondBr`, a `JTSequence`, a `CondBreak` or a `TrapIf` is one of a condition
abbrev pub MaskInRange : Inst → Type 0
MaskInRange (CondBr taken not_taken mask) = IsConditionMask mask
MaskInRange (JTSequence ridx other mask targets) = IsConditionMask mask
MaskInRange (CondBreak mask) = IsConditionMask mask
MaskInRange (TrapIf mask code) = IsConditionMask mask
MaskInRange _ = Unit {0}

-- an unsigned displacement has 12 bits, a signed one 20; and no frame operand is left
abbrev pub OperandInRange : MemArg → Type 0
OperandInRange (BXD12 base index disp flags) = disp ≤ 4095
OperandInRange (BXD20 base index disp flags) = (negsuc 524287 ≤ℤ disp) × (disp ≤ℤ pos 524287)
OperandInRange (InitialSPOffset off) = ⊥
OperandInRange (IncomingArgOffset off) = ⊥
OperandInRange (OutgoingArgOffset off) = ⊥
OperandInRange (SlotOffset off) = ⊥
OperandInRange (SpillOffset off) = ⊥
OperandInRange _ = Unit {0}

-- the operand in memory of an instruction, where it has one, has its displacement in range
abbrev pub MemoryInRange : Option MemoryInstruction → Type 0
MemoryInRange None = Unit {0}
MemoryInRange (Some x) = OperandInRange x.operand

-- the mask and the operand of an instruction
abbrev pub InRange : Inst → Type 0
InRange i = MaskInRange i × MemoryInRange (memory i)

-- the mask and the operand of a step's body. None is folded before its block has ended
abbrev pub BodyInRange : StepBody → Type 0
BodyInRange (Whole i) = InRange i
BodyInRange (Folded r i) = ⊥
BodyInRange (Loaded i) = InRange i
BodyInRange _ = Unit {0}

-- in a tree each of these masks and displacements, and each loop's mask
abbrev pub AllInRange : Tree → Type 0
AllInRange empty = Unit {0}
AllInRange (leaf b rest) = BodyInRange b × AllInRange rest
AllInRange (loop_node mask members rest) = IsConditionMask mask × AllInRange members × AllInRange rest

-- in the blocks of a function each mask and displacement
abbrev pub BlocksInRange : List Tree → Type 0
BlocksInRange [] = Unit {0}
BlocksInRange (t ∷ ts) = AllInRange t × BlocksInRange ts
