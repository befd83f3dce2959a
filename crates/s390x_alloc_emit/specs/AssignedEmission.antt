-- What an instruction with an allocator's registers leaves of a buffer and of the state of emission, or why it isn't emitted.
use Rattle.std.specs.Prelude.{◌≡◌, List, length, Option, Some, None, Ok, Err, ◌⊎◌, IsTrue}
use Rattle.s390x_base.specs.declared.error.EmitError.{EmitError}
use Rattle.s390x_base.specs.declared.error.EmitError.TheVariants.{NoMemory}
use Rattle.s390x_base.specs.declared.regs.Reg.{Reg}
use Rattle.s390x_buffer.specs.State.{BufferState}
use Rattle.s390x_inst.specs.Emission.{Emission}
use Rattle.s390x_inst.specs.declared.inst.Inst.{Inst}
use Rattle.s390x_inst.specs.declared.state.IsaFlags.{IsaFlags}
use Rattle.s390x_typed_steps.specs.Causes.{declared_in}
use Rattle.s390x_typed_steps.specs.Stack.{state_after}
use Rattle.s390x_operands.specs.Meets.{Meets}
use Rattle.s390x_operands.specs.Operands.{operands}
use Rattle.s390x_assign.specs.Assignments.{IsAssignAnswer, replaced_operands}
use Rattle.s390x_alloc_laws.specs.Allocatable.{IsAllocatable, IsAssigned, Place, Spares}
use Rattle.s390x_alloc_laws.specs.Emitted.{ChangesOnlyOutputs}
use Rattle.s390x_emit_int.specs.Emission.{own_fragments}
use Rattle.s390x_emit_int.specs.Fragments.{apply_all}
use Rattle.s390x_emit_int.specs.Instruction.{emit_cause}
use Rattle.s390x_emit_int.specs.Members.{member_of}
use Rattle.s390x_alloc_emit.specs.declared.emitting.AssignedError.{AssignedError}
use Rattle.s390x_alloc_emit.specs.declared.emitting.AssignedError.TheVariants.{Assign, Emit}

-- where a machine with these flags has the next instruction of a buffer, outside every loop
abbrev pub place_in : IsaFlags → Emission → BufferState → Place
place_in flags before sink = record { flags = flags; declared = declared_in sink; depth = 0; state = before }

-- an allocator may give an instruction these registers there: it is allocatable, and they meet its constraints, and no virtual operand gets `%r0`, `%r1` or `%r15`
pub record MayBeGiven (flags : IsaFlags) (before : Emission) (sink : BufferState) (i : Inst) (registers : List Reg) : Type 0 where
  pub allocatable : IsAllocatable (place_in flags before sink) i
  pub meet : Meets (operands i) registers
  pub spare : Spares (operands i) registers

-- one instruction is another with these registers, as `assign` answers it
pub record IsGiven (i : Inst) (registers : List Reg) (j : Inst) : Type 0 where
  pub assigned : IsAssigned i registers j
  pub operands : operands j ≡ replaced_operands (operands i) registers
  pub answer : IsAssignAnswer i registers (Ok j)

-- why an instruction isn't emitted into a buffer
abbrev pub cause_of : IsaFlags → Emission → BufferState → Inst → Option EmitError
cause_of flags before sink j = emit_cause flags before.nominal sink (member_of flags before j)

-- an instruction with these registers was appended to a buffer
pub record IsEmitted (flags : IsaFlags) (before : Emission) (sink : BufferState) (i : Inst) (registers : List Reg) (after : Emission) (behind : BufferState) : Type 0 where
  pub instruction : Inst
  pub given : IsGiven i registers instruction
  pub uncaused : cause_of flags before sink instruction ≡ None
  pub appended : behind ≡ apply_all sink (own_fragments (length sink.labels) 0 (member_of flags before instruction))
  pub state : after ≡ record (state_after before instruction) { stack_map = None }

-- it was given its registers, and emission refused it by this error
pub record IsRefused (flags : IsaFlags) (before : Emission) (sink : BufferState) (i : Inst) (registers : List Reg) (behind : BufferState) (error : EmitError) : Type 0 where
  pub instruction : Inst
  pub given : IsGiven i registers instruction
  pub cause : (error ≡ NoMemory) ⊎ (cause_of flags before sink instruction ≡ Some error)
  pub poisoned : IsTrue behind.is_poisoned

-- why it wasn't appended, and what was left
abbrev pub IsNotEmitted : IsaFlags → (before : Emission) → (sink : BufferState) → Inst → List Reg → (after : Emission) → (behind : BufferState) → AssignedError → Type 0
IsNotEmitted flags before sink i registers after behind (Assign error) = IsAssignAnswer i registers (Err error) × (behind ≡ sink) × (after ≡ before)
IsNotEmitted flags before sink i registers after behind (Emit error) = IsRefused flags before sink i registers behind error × (after ≡ before)

-- an instruction with these registers was appended to a buffer, and changes nothing but what it reported: the registers that its outputs got, the range of a multiple
-- load, and `%r1` where that is reported
pub record IsEmittedForOutputs (flags : IsaFlags) (before : Emission) (sink : BufferState) (i : Inst) (registers : List Reg) (after : Emission) (behind : BufferState) : Type 0 where
  pub emitted : IsEmitted flags before sink i registers after behind
  pub changes : ChangesOnlyOutputs (place_in flags before sink) i registers emitted.instruction
