-- Accesses of operands relative to the instruction: how many bytes they have, and the boundary on which they have to stand
-- (Principles of Operation, chapter 7, the instructions "RELATIVE LONG").
use Rattle.std.specs.Prelude.{◌≡◌, ℕ, ◌%◌, Bool, true, Option, Some, None}
use Rattle.s390x_inst.specs.declared.args.MemArg.{MemArg}
use Rattle.s390x_inst.specs.declared.args.MemArg.TheVariants.{Label, Constant}
use Rattle.s390x_typed_steps.specs.Memory.{StorageForm, RxForm, MemoryInstruction}
use Rattle.s390x_operations.specs.State.{Registers}
use Rattle.s390x_operations.specs.Access.{Access, Reads, Stores, fault}
use Rattle.s390x_operations.specs.Effects.{access}
use Rattle.s390x_operations.specs.declared.stop.StopKind.TheVariants.{Specification}
use Rattle.s390x_machine.specs.StepKinds.{Performed}
use Rattle.s390x_machine.specs.Storage.{OperandStep}

-- the operand is a block or a constant of the function itself
abbrev pub IsOwn : MemArg → Type 0
IsOwn (Label target) = Unit {0}
IsOwn (Constant constant) = Unit {0}
IsOwn m = ⊥

-- there is an address, and it is a multiple of a number whatever the registers hold
abbrev pub IsOnBoundary : Option (Registers → ℕ) → ℕ → Type 0
IsOnBoundary (Some address) n = (r : Registers) → address r % n ≡ 0
IsOnBoundary None n = ⊥

-- the opcode of the row that is relative to the instruction, where an access has one
abbrev pub relative_row : StorageForm → (accesses : Bool) → Option ℕ
relative_row (RxForm register rx_opcode rxy_opcode ril_opcode) true = ril_opcode
relative_row form accesses = None

-- that of an instruction
abbrev pub relative_row_of : Option MemoryInstruction → Option ℕ
relative_row_of (Some x) = relative_row x.form x.accesses
relative_row_of None = None

-- an access reads or stores so many bytes at an address
abbrev pub AccessesBytes : Access → (address size : ℕ) → Type 0
AccessesBytes (Reads aligned a n) address size = (a ≡ address) × (n ≡ size)
AccessesBytes (Stores aligned a n stored) address size = (a ≡ address) × (n ≡ size)
AccessesBytes access address size = ⊥

-- what an instruction does with its operand in memory reads or stores so many bytes at the operand's address, whatever the registers hold
abbrev pub StepAccesses : Option OperandStep → ℕ → Type 0
StepAccesses (Some x) size = (address : ℕ) (r : Registers) → AccessesBytes (access (x.operation address r).effect) address size
StepAccesses None size = ⊥

-- the operand of an instruction is a block or a constant
abbrev pub OwnOperand : Option MemoryInstruction → Type 0
OwnOperand (Some x) = IsOwn x.operand
OwnOperand None = ⊥

-- an instruction does something with memory, and never stops because its operand is misaligned
abbrev pub NeverMisaligned : Option Performed → Type 0
NeverMisaligned (Some p) = (r : Registers) (has : ℕ → Bool) → fault (access (p.operation r).effect) has ≡ Some Specification → ⊥
NeverMisaligned None = ⊥
