-- The search among members, one after another.
use Rattle.std.proofs.Common.{◌≡◌, ℕ, ◌+◌, ◌<◌, ◌≤◌, List, None, length, take, get_or, refl, sym, ap, ap₂, ◌∙◌, arith}
use Rattle.std.proofs.lemmas.List.{get_or_default}
use Rattle.s390x_buffer.specs.State.{label_limit}
use Rattle.s390x_inst.specs.Emission.{Emission}
use Rattle.s390x_inst.specs.declared.inst.Inst.{Inst}
use Rattle.s390x_inst.specs.declared.inst.Inst.TheVariants.{Nop0}
use Rattle.s390x_inst.specs.declared.state.IsaFlags.{IsaFlags}
use Rattle.s390x_typed_steps.specs.Causes.{Declared, fresh_labels}
use Rattle.s390x_typed_steps.specs.Stack.{state_after}
use Rattle.s390x_emit_int.specs.Members.{member_of}
use Rattle.s390x_refusal.specs.Members.{Point, with_safepoint, member_cause, members_at, members_cause, nth_member, nth_point, state_behind}
use Rattle.s390x_refusal.specs.Search.{IsChecked, point_of}
use Rattle.s390x_refusal.specs.declared.members.Checked.TheVariants.{Passed}
use Rattle.s390x_refusal.specs.declared.members.Scope.{Scope}
use Rattle.s390x_refusal.proofs.Walking.{cause_none, labels_more, labels_none, one_more, state_more}

-- so many members have no cause, and this is what is left behind them
pub record Walked (flags : IsaFlags) (D : Declared) (s : Scope) (e : Emission) (is : List Inst) (k : ℕ) (state : Emission) (labels depth : ℕ) : Type 0 where
  pub around : depth ≡ s.depth
  pub state_is : state ≡ state_behind e (take k is)
  pub labels_are : labels ≡ s.labels + fresh_labels (members_at flags s.depth e (take k is))
  pub few : labels ≤ label_limit
  pub none : members_cause flags D (point_of s e) (take k is) ≡ None

pub walk_start : (flags : IsaFlags) (D : Declared) (s : Scope) (e : Emission) (is : List Inst) → s.labels ≤ label_limit → Walked flags D s e is 0 e s.labels s.depth
walk_start flags D s e is few = record { around = refl; state_is = refl; labels_are = labels_none flags s.depth e s.labels; few = few; none = cause_none flags D (point_of s e) }

pub same_member : (is : List Inst) (k : ℕ) (i : Inst) → k < length is → i ≡ get_or is k i → i ≡ nth_member is k
same_member is k i lt at = at ∙ get_or_default is k i Nop0 lt

-- where the next one stands
next_point : (flags : IsaFlags) (D : Declared) (s : Scope) (e : Emission) (is : List Inst) (k : ℕ) (state : Emission) (labels depth : ℕ) (i : Inst) → Walked flags D s e is k state labels depth → i ≡ nth_member is k
    → (d : ℕ) → d ≡ s.depth → point_of (record { labels = labels; depth = d }) (with_safepoint depth state i) ≡ nth_point flags (point_of s e) is k
next_point flags D s e is k state labels depth i w same d around =
    ap (λ r. point_of (record { labels = labels; depth = r }) (with_safepoint depth state i)) around
    ∙ ap (λ r. point_of (record { labels = labels; depth = s.depth }) (with_safepoint r state i)) w.around
    ∙ ap (λ t. point_of (record { labels = labels; depth = s.depth }) (with_safepoint s.depth t i)) w.state_is
    ∙ ap (λ j. point_of (record { labels = labels; depth = s.depth }) (with_safepoint s.depth (state_behind e (take k is)) j)) same
    ∙ ap (λ n. point_of (record { labels = n; depth = s.depth }) (with_safepoint s.depth (state_behind e (take k is)) (nth_member is k))) w.labels_are

pub walk_on : (flags : IsaFlags) (D : Declared) (s : Scope) (e : Emission) (is : List Inst) (k : ℕ) (state state' : Emission) (labels depth behind : ℕ) (i : Inst) → k < length is → i ≡ get_or is k i → Walked flags D s e is k state labels depth
    → IsChecked flags D (record { labels = labels; depth = depth }) state state' i (Passed behind) → Walked flags D s e is (k + 1) state' behind depth
walk_on flags D s e is k state state' labels depth behind i lt at w checked =
    let same = same_member is k i lt at in
    let point = next_point flags D s e is k state labels depth i w same depth w.around in
    let own : fresh_labels (member_of flags (with_safepoint depth state i) i) ≡ fresh_labels (member_of flags (with_safepoint s.depth (state_behind e (take k is)) (nth_member is k)) (nth_member is k)) = ap₂ (λ (q : Point) j. fresh_labels (member_of flags q.state j)) point same in
    record {
      around = w.around;
      state_is = checked.3 ∙ ap₂ state_after w.state_is same ∙ sym (state_more e is k lt);
      labels_are = omega (arith, checked.1, w.labels_are, labels_more flags s.depth e is k lt, own);
      few = checked.2;
      none = one_more flags D (point_of s e) is k lt w.none ∙ sym (ap₂ (member_cause flags D) point same) ∙ checked.0;
    }
