-- Emitting one instruction into a buffer of the caller's (cranelift-codegen, `emit.rs`).
use Rattle.std.specs.Prelude.{ℕ, ◌+◌, length, cond, nat_lt, Bool, true, false, Option, Some}
use Rattle.s390x_base.specs.declared.error.EmitError.{EmitError}
use Rattle.s390x_base.specs.declared.error.EmitError.TheVariants.{LabelOutOfRange, Failed}
use Rattle.s390x_inst.specs.declared.inst.Inst.{Inst}
use Rattle.s390x_inst.specs.declared.inst.Inst.TheVariants.{Loop', Call, ReturnCall, JTSequence}
use Rattle.s390x_inst.specs.declared.state.IsaFlags.{IsaFlags}
use Rattle.s390x_buffer.specs.State.{BufferState, limit}
use Rattle.s390x_typed_steps.specs.Tree.{Tree}
use Rattle.s390x_typed_steps.specs.Sizes.{tree_size}
use Rattle.s390x_typed_steps.specs.Causes.{first_emit_cause, unless, declared_in, tree_cause}

-- why an instruction isn't emitted into a buffer at a nominal size: it is poisoned, the first cause of the instruction's steps by the buffer's blocks and labels, and last the length
abbrev pub emit_cause : IsaFlags → (nominal : ℕ) → BufferState → Tree → Option EmitError
emit_cause flags nominal s t =
    cond s.is_poisoned (Some Failed) (first_emit_cause (tree_cause flags (declared_in s) (length s.labels) nominal 0 t) (unless (nat_lt (length s.bytes + tree_size t) limit) LabelOutOfRange))

-- neither members nor targets nor the instructions of a call come with it, so that its bytes are few
abbrev pub is_short : Inst → Bool
is_short (Loop' mask body all) = false
is_short (Call link info) = false
is_short (ReturnCall info) = false
is_short (JTSequence ridx default default_cond targets) = false
is_short _ = true
