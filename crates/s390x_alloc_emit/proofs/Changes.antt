-- An appended instruction isn't refused at its place, so that it changes only what it reported.
use Rattle.std.proofs.Common.{◌≡◌, ◌+◌, nat_lt, cond, Bool, true, false, List, length, None, Some, Option}
use Rattle.s390x_base.specs.declared.error.EmitError.{EmitError}
use Rattle.s390x_base.specs.declared.error.EmitError.TheVariants.{Failed, LabelOutOfRange}
use Rattle.s390x_base.specs.declared.regs.Reg.{Reg}
use Rattle.s390x_buffer.specs.State.{BufferState, limit}
use Rattle.s390x_inst.specs.Emission.{Emission}
use Rattle.s390x_inst.specs.declared.inst.Inst.{Inst}
use Rattle.s390x_inst.specs.declared.state.IsaFlags.{IsaFlags}
use Rattle.s390x_typed_steps.specs.Causes.{first_emit_cause, unless}
use Rattle.s390x_typed_steps.specs.Sizes.{tree_size}
use Rattle.s390x_typed_steps.proofs.Causes.{first_left}
use Rattle.s390x_alloc_laws.specs.Allocatable.{emission_refusal}
use Rattle.s390x_alloc_laws.proofs.Passed.{emitted_changes_outputs}
use Rattle.s390x_emit_int.specs.Members.{member_of}
use Rattle.s390x_alloc_emit.specs.AssignedEmission.{IsEmitted, IsEmittedForOutputs, MayBeGiven, cause_of, place_in}

unmarked : (marked : Bool) (cause : Option EmitError) → cond marked (Some Failed) cause ≡ None → cause ≡ None
unmarked true cause h = absurd (cc)
unmarked false cause h = h

unrefused : (flags : IsaFlags) (before : Emission) (sink : BufferState) (j : Inst) → cause_of flags before sink j ≡ None → emission_refusal (place_in flags before sink) (length sink.labels) j ≡ None
unrefused flags before sink j none =
    let own = emission_refusal (place_in flags before sink) (length sink.labels) j in
    let fits = unless (nat_lt (length sink.bytes + tree_size (member_of flags before j)) limit) LabelOutOfRange in
    first_left own fits (unmarked sink.is_poisoned (first_emit_cause own fits) none)

pub only_outputs : (flags : IsaFlags) (before : Emission) (sink : BufferState) (i : Inst) (registers : List Reg) (after : Emission) (behind : BufferState)
    → MayBeGiven flags before sink i registers → IsEmitted flags before sink i registers after behind → IsEmittedForOutputs flags before sink i registers after behind
only_outputs flags before sink i registers after behind may e = record {
  emitted = e;
  changes = emitted_changes_outputs (place_in flags before sink) i may.allocatable (length sink.labels) registers e.instruction may.meet may.spare e.given.assigned (unrefused flags before sink e.instruction e.uncaused);
}
