-- What a buffer adds to the causes of an instruction blames no register.
use Rattle.std.proofs.Common.{◌≡◌, ◌≢◌, ◌+◌, nat_lt, cond, Bool, true, false, List, length, Option, Some, inl, inr, ◌⊎◌}
use Rattle.s390x_base.specs.declared.error.EmitError.{EmitError}
use Rattle.s390x_base.specs.declared.error.EmitError.TheVariants.{BadRegister, ScratchConflict, LabelOutOfRange, Failed, NoMemory}
use Rattle.s390x_base.specs.declared.regs.Reg.{Reg}
use Rattle.s390x_buffer.specs.State.{BufferState, limit}
use Rattle.s390x_inst.specs.Emission.{Emission}
use Rattle.s390x_inst.specs.declared.inst.Inst.{Inst}
use Rattle.s390x_inst.specs.declared.state.IsaFlags.{IsaFlags}
use Rattle.s390x_typed_steps.specs.Causes.{unless}
use Rattle.s390x_typed_steps.specs.Sizes.{tree_size}
use Rattle.s390x_operands.specs.Meets.{Meets}
use Rattle.s390x_operands.specs.Operands.{operands}
use Rattle.s390x_alloc_laws.specs.Allocatable.{IsAllocatable, IsAssigned, IsNotBlamed, Spares, emission_refusal}
use Rattle.s390x_alloc_laws.proofs.Given.{unless_clear, first_clear}
use Rattle.s390x_alloc_laws.proofs.Laws.{emissions_suffice}
use Rattle.s390x_emit_int.specs.Members.{member_of}
use Rattle.s390x_alloc_emit.specs.AssignedEmission.{cause_of, place_in}
use Rattle.s390x_alloc_emit.specs.declared.emitting.AssignedError.TheVariants.{Emit}

marked_clear : (marked : Bool) (cause : Option EmitError) → IsNotBlamed cause → IsNotBlamed (cond marked (Some Failed) cause)
marked_clear true cause h = ((λ e. absurd (cc)), (λ e. absurd (cc)))
marked_clear false cause h = h

length_clear : (fits : Bool) → IsNotBlamed (unless fits LabelOutOfRange)
length_clear fits = unless_clear fits LabelOutOfRange ((λ e. absurd (cc)), (λ e. absurd (cc)))

cause_clear : (flags : IsaFlags) (before : Emission) (sink : BufferState) (j : Inst) → IsNotBlamed (emission_refusal (place_in flags before sink) (length sink.labels) j) → IsNotBlamed (cause_of flags before sink j)
cause_clear flags before sink j h =
    let size = tree_size (member_of flags before j) in
    let fits = nat_lt (length sink.bytes + size) limit in
    marked_clear sink.is_poisoned _ (first_clear (emission_refusal (place_in flags before sink) (length sink.labels) j) (unless fits LabelOutOfRange) h (length_clear fits))

-- an instruction that registers allocate has no cause in a buffer that blames them
pub given_clear : (flags : IsaFlags) (before : Emission) (sink : BufferState) (i j : Inst) (registers : List Reg) → IsAllocatable (place_in flags before sink) i → Meets (operands i) registers → Spares (operands i) registers → IsAssigned i registers j → IsNotBlamed (cause_of flags before sink j)
given_clear flags before sink i j registers allocatable meet spare is =
    cause_clear flags before sink j (emissions_suffice (place_in flags before sink) i allocatable (length sink.labels) registers j meet spare is)

-- an error that is want of memory or the first cause blames none either
error_clear : (cause : Option EmitError) (error : EmitError) → IsNotBlamed cause → (error ≡ NoMemory) ⊎ (cause ≡ Some error) → (error ≢ BadRegister) × (error ≢ ScratchConflict)
error_clear cause error h (inl memory) = ((λ e. absurd (cc)), (λ e. absurd (cc)))
error_clear cause error h (inr first) = ((λ e. absurd (h.0 cc)), (λ e. absurd (h.1 cc)))

pub answer_clear : (cause : Option EmitError) (error : EmitError) → IsNotBlamed cause → (error ≡ NoMemory) ⊎ (cause ≡ Some error) → (Emit error ≢ Emit BadRegister) × (Emit error ≢ Emit ScratchConflict)
answer_clear cause error h free =
    let clears = error_clear cause error h free in
    ((λ e. clears.0 cc), (λ e. clears.1 cc))
