-- The fault of a plan that the cause of one edit is.
use Rattle.std.specs.Prelude.{◌≡◌, ℕ, ◌⊎◌}
use Rattle.s390x_alloc.specs.declared.fault.EditCause.{EditCause}
use Rattle.s390x_alloc.specs.declared.fault.EditCause.TheVariants.{Misplaced, Unreported, Miscounted, Unsuited, Immovable, Unheld, NoMemory as NoRoom}
use Rattle.s390x_alloc.specs.declared.fault.PlanFault.{PlanFault}
use Rattle.s390x_alloc.specs.declared.fault.PlanFault.TheVariants.{Order, Operands, Count, Constraint, Move, Value, NoMemory}

abbrev pub edit_fault : (block edit : ℕ) → EditCause → PlanFault
edit_fault block edit Misplaced = Order block edit
edit_fault block edit (Unreported cause) = Operands block edit cause
edit_fault block edit Miscounted = Count block edit
edit_fault block edit (Unsuited operand) = Constraint block edit operand
edit_fault block edit Immovable = Move block edit
edit_fault block edit (Unheld operand) = Value block edit operand
edit_fault block edit NoRoom = NoMemory

-- a fault as it is told; want of memory is free
abbrev pub IsTold : (fault told : PlanFault) → Type 0
IsTold fault told = (told ≡ NoMemory) ⊎ (told ≡ fault)
