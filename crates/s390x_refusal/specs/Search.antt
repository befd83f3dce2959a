-- What the steps of the search answer.
use Rattle.std.specs.Prelude.{◌≡◌, ◌≢◌, ℕ, ◌+◌, ◌≤◌, List, length, Option, Some, None, Vec}
use Rattle.std.specs.declared.alloc.Global.{Global}
use Rattle.s390x_base.specs.declared.error.EmitError.{EmitError}
use Rattle.s390x_buffer.specs.State.{BufferState, fresh_buffer, label_limit}
use Rattle.s390x_inst.specs.Emission.{Emission}
use Rattle.s390x_inst.specs.declared.function.AllocatedFunction.{AllocatedFunction}
use Rattle.s390x_inst.specs.declared.function.Block.{Block}
use Rattle.s390x_inst.specs.declared.inst.Inst.{Inst}
use Rattle.s390x_inst.specs.declared.state.IsaFlags.{IsaFlags}
use Rattle.s390x_typed_steps.specs.Causes.{Declared, block_cause, fresh_labels}
use Rattle.s390x_typed_steps.specs.Stack.{state_after}
use Rattle.s390x_emit_int.specs.Function.{constants_of, tree_of}
use Rattle.s390x_emit_int.specs.Members.{member_of}
use Rattle.s390x_refusal.specs.Members.{IsReached, IsRefusedAmong, IsRefusedAt, Point, with_safepoint, member_cause, members_cause, nth_member, nth_point}
use Rattle.s390x_refusal.specs.Refusal.{IsRefusedBy, emission_cause, opening_cause}
use Rattle.s390x_refusal.specs.declared.members.Checked.{Checked}
use Rattle.s390x_refusal.specs.declared.members.Checked.TheVariants.{Passed, Refused}
use Rattle.s390x_refusal.specs.declared.members.FirstMember.{FirstMember}
use Rattle.s390x_refusal.specs.declared.members.Scope.{Scope}
use Rattle.s390x_refusal.specs.declared.position.Position.{Position}

-- the point that these tell
abbrev pub point_of : Scope → Emission → Point
point_of s e = record { state = e; labels = s.labels; depth = s.depth }

-- a member has no cause, and this is left behind it; or it has this one in the state that is left
abbrev pub IsChecked : IsaFlags → Declared → Scope → (state state' : Emission) → Inst → Checked → Type 0
IsChecked flags D s state state' i (Passed labels) =
    (member_cause flags D (point_of s (with_safepoint s.depth state i)) i ≡ None)
    × (labels ≡ s.labels + fresh_labels (member_of flags (with_safepoint s.depth state i) i))
    × (labels ≤ label_limit)
    × (state' ≡ state_after state i)
IsChecked flags D s state state' i (Refused error) =
    (member_cause flags D (point_of s (with_safepoint s.depth state i)) i ≡ Some error) × (state' ≡ with_safepoint s.depth state i)

-- a block has no cause, and so many labels are in use behind it; or this is its first one
abbrev pub IsBlockChecked : IsaFlags → Declared → (labels : ℕ) → Emission → Block → Checked → Type 0
IsBlockChecked flags D n e v (Passed labels) =
    (block_cause flags D n (tree_of flags e v) ≡ None)
    × (labels ≡ n + fresh_labels (tree_of flags e v))
    × (labels ≤ label_limit)
IsBlockChecked flags D n e v (Refused error) = block_cause flags D n (tree_of flags e v) ≡ Some error

-- no member has a cause; or this one has one, and none before it
abbrev pub IsFirstMember : IsaFlags → Declared → Scope → (state state' : Emission) → List Inst → Option FirstMember → Type 0
IsFirstMember flags D s state state' is None = members_cause flags D (point_of s state) is ≡ None
IsFirstMember flags D s state state' is (Some m) =
    IsReached flags D (point_of s state) is m.index
    × (point_of (record { labels = m.labels; depth = s.depth }) state' ≡ nth_point flags (point_of s state) is m.index)
    × (m.labels ≤ label_limit)
    × (member_cause flags D (nth_point flags (point_of s state) is m.index) (nth_member is m.index) ≡ Some m.error)

-- the path inside an instruction to the one that has the cause itself, where there is a cause
abbrev pub IsPathTo : IsaFlags → Declared → Point → Inst → List ℕ → Type 0
IsPathTo flags D p i path = (error : EmitError) → member_cause flags D p i ≡ Some error → IsRefusedAt flags D p i error path

-- no member has a cause; or this is the path to the first one that has one itself
abbrev pub IsPathAmong : IsaFlags → Declared → Point → List Inst → Option (Vec ℕ Global) → Type 0
IsPathAmong flags D p is None = members_cause flags D p is ≡ None
IsPathAmong flags D p is (Some path) = (error : EmitError) × (members_cause flags D p is ≡ Some error) × IsRefusedAmong flags D p is error path.items

-- the function is refused before its blocks; or it isn't, and this is a buffer for its blocks and constants
abbrev pub IsOpened : Emission → AllocatedFunction → Option BufferState → Type 0
IsOpened e f None = opening_cause e f ≢ None
IsOpened e f (Some sink) = (opening_cause e f ≡ None) × (sink ≡ fresh_buffer (length f.blocks.items) (constants_of f))

-- where the function has a first cause, it stands there
abbrev pub IsPositionIn : IsaFlags → Emission → AllocatedFunction → Position → Type 0
IsPositionIn flags e f position = (error : EmitError) → emission_cause flags e f ≡ Some error → IsRefusedBy flags e f error position
