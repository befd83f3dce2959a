-- The first cause among the members of a block or of a loop, by a path from outside in.
use Rattle.std.specs.Prelude.{◌≡◌, ℕ, zero, suc, ◌+◌, ◌<◌, List, [], ◌∷◌, take, length, get_or, Option, Some, None}
use Rattle.s390x_base.specs.declared.error.EmitError.{EmitError}
use Rattle.s390x_inst.specs.Emission.{Emission}
use Rattle.s390x_inst.specs.declared.inst.Inst.{Inst, items-the_row-Inst}
use Rattle.s390x_inst.specs.declared.inst.Inst.TheVariants.{Loop', Nop0}
use Rattle.s390x_inst.specs.declared.state.IsaFlags.{IsaFlags}
use Rattle.s390x_typed_steps.specs.Calls.{safepoint, without_map}
use Rattle.s390x_typed_steps.specs.Causes.{Declared, first_emit_cause, fresh_labels, nesting_cause, numbers_cause, tree_cause}
use Rattle.s390x_typed_steps.specs.Stack.{state_after}
use Rattle.s390x_typed_steps.specs.Tree.{Tree}
use Rattle.s390x_emit_int.specs.Members.{member_of, members_of, block_members_of}

-- emission before an instruction: its state, how many labels are in use, and how many loops stand around
pub record Point : Type 0 where
  pub state : Emission
  pub labels : ℕ
  pub depth : ℕ

-- the state of emission behind instructions
abbrev pub state_behind : Emission → List Inst → Emission
state_behind e [] = e
state_behind e (i ∷ is) = state_behind (state_after e i) is

-- a call that stands in a block itself is a safepoint, one inside of loops is none
abbrev pub with_safepoint : (depth : ℕ) → Emission → Inst → Emission
with_safepoint zero e i = safepoint e i
with_safepoint (suc depth) e i = e

-- the members of a block, or of a loop, as a tree
abbrev pub members_at : IsaFlags → (depth : ℕ) → Emission → List Inst → Tree
members_at flags zero e is = block_members_of flags e is
members_at flags (suc depth) e is = members_of flags e is

-- the first cause of members that begin at this point
abbrev pub members_cause : IsaFlags → Declared → Point → List Inst → Option EmitError
members_cause flags D p is = tree_cause flags D p.labels p.state.nominal p.depth (members_at flags p.depth p.state is)

-- the first cause of an instruction, and of its members, at this point
abbrev pub member_cause : IsaFlags → Declared → Point → Inst → Option EmitError
member_cause flags D p i = tree_cause flags D p.labels p.state.nominal p.depth (member_of flags p.state i)

-- the cause of an instruction itself: that of a loop is its nesting or its labels, and none of its members'
abbrev pub own_cause : IsaFlags → Declared → Point → Inst → Option EmitError
own_cause flags D p (Loop' mask body all) = first_emit_cause (nesting_cause p.depth) (numbers_cause p.labels 2)
own_cause flags D p i = member_cause flags D p i

-- the members of a loop, which has them twice: `all` is read, and `body` is ignored
abbrev pub members_in : Inst → List Inst
members_in (Loop' mask body all) = items-the_row-Inst _ all
members_in i = []

-- where the members of a loop begin
abbrev pub point_inside : Point → Point
point_inside p = record { state = without_map p.state; labels = p.labels + 2; depth = p.depth + 1 }

-- member number k
abbrev pub nth_member : List Inst → ℕ → Inst
nth_member is k = get_or is k Nop0

-- where member number k stands
abbrev pub nth_point : IsaFlags → Point → List Inst → ℕ → Point
nth_point flags p is k = record {
  state = with_safepoint p.depth (state_behind p.state (take k is)) (nth_member is k);
  labels = p.labels + fresh_labels (members_at flags p.depth p.state (take k is));
  depth = p.depth;
}

-- there is a member number k, and none before it has a cause
pub record IsReached (flags : IsaFlags) (D : Declared) (p : Point) (is : List Inst) (k : ℕ) : Type 0 where
  pub there : k < length is
  pub before : members_cause flags D p (take k is) ≡ None

-- An instruction is refused by this error: the one at the end of this path inside of it has the cause itself, none of the loops on the path has one, and no member before
-- them has one.
abbrev pub IsRefusedAt : IsaFlags → Declared → Point → Inst → EmitError → List ℕ → Type 0
IsRefusedAt flags D p i error [] = own_cause flags D p i ≡ Some error
IsRefusedAt flags D p i error (k ∷ path) =
    (own_cause flags D p i ≡ None)
    × IsReached flags D (point_inside p) (members_in i) k
    × IsRefusedAt flags D (nth_point flags (point_inside p) (members_in i) k) (nth_member (members_in i) k) error path

-- an instruction is refused at this path among the members of a block or of a loop, of which the path's first number names one
abbrev pub IsRefusedAmong : IsaFlags → Declared → Point → List Inst → EmitError → List ℕ → Type 0
IsRefusedAmong flags D p is error [] = ⊥
IsRefusedAmong flags D p is error (k ∷ path) =
    IsReached flags D p is k × IsRefusedAt flags D (nth_point flags p is k) (nth_member is k) error path
