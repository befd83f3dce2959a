-- Transitions one after another: what they store, and typed runs that grow.
use Rattle.std.proofs.Common.{◌≡◌, ℕ, List, [], ◌∷◌, ◌++◌, refl, sym, ap, ◌∙◌, subst₂, append_assoc, append-nil}
use Rattle.s390x_operations.specs.State.{Core, core_after_writes, CodeImage}
use Rattle.s390x_machine.specs.Layout.{Layout}
use Rattle.s390x_machine.specs.Machine.{Event, Transition, all_writes}
use Rattle.s390x_machine.specs.Match.{concatenation, StoreNothing, IsGroup, TypedRun}
use Rattle.s390x_machine.specs.Typed.{Position, At, Ended, TypedStep}
use Rattle.s390x_schedule.specs.Schedule.{Goes, LeavesImage}
use Rattle.s390x_interference.specs.Retry.{event_list, stored_in, stores_of}

-- ---- what is stored

pub stores_append : (g h : List Transition) → stores_of (g ++ h) ≡ stores_of g ++ stores_of h
stores_append [] h = refl
stores_append (t ∷ g) h = ap (λ l. event_list (stored_in t.event) ++ l) (stores_append g h) ∙ sym (append_assoc (event_list (stored_in t.event)) (stores_of g) (stores_of h))

pub quiet_stores : (g : List Transition) → StoreNothing g → stores_of g ≡ []
quiet_stores [] q = refl
quiet_stores (t ∷ g) q = ap (λ e. event_list (stored_in e) ++ stores_of g) q.0 ∙ quiet_stores g q.1

pub stores_none : (g h : List Transition) → stores_of g ≡ [] → stores_of h ≡ [] → stores_of (g ++ h) ≡ []
stores_none g h a b = stores_append g h ∙ ap (λ l. l ++ stores_of h) a ∙ b

pub first_stores : (t : Transition) (e : Event) (rest : List Transition) → t.event ≡ e → stores_of rest ≡ [] → stores_of (t ∷ rest) ≡ event_list (stored_in e)
first_stores t e rest a b = ap (λ x. event_list (stored_in x) ++ stores_of rest) a ∙ ap (λ l. event_list (stored_in e) ++ l) b ∙ append-nil (event_list (stored_in e))

-- ---- groups

pub concatenated_snoc : (gs : List (List Transition)) (g : List Transition) → concatenation (gs ++ g ∷ []) ≡ concatenation gs ++ g
concatenated_snoc [] g = append-nil g
concatenated_snoc (x ∷ gs) g = ap (λ l. x ++ l) (concatenated_snoc gs g) ∙ sym (append_assoc x (concatenation gs) g)

pub typed_snoc : (L : Layout) (gs : List (List Transition)) (position : Position) (c : Core) (k : ℕ) (x : Core) → TypedRun L position c gs (At k) x → (g : List Transition) (to : Position) (t : Core) → TypedStep L k (core_after_writes (all_writes g) x) to t → IsGroup L k x g to t → TypedRun L position c (gs ++ g ∷ []) to t
typed_snoc L [] position c k x run g to t step group = subst₂ (λ p q. TypedRun L p q (g ∷ []) to t) run.0 run.1 (to, t, step, group, (refl, refl))
typed_snoc L (y ∷ gs) (Ended e) c k x run g to t step group = absurd run
typed_snoc L (y ∷ gs) (At j) c k x run g to t step group = (run.0, run.1, run.2, run.3, typed_snoc L gs run.0 run.1 k x run.4 g to t step group)

-- ---- a transition that stops is the last one, and none stores into the image

abbrev pub StopLast : List Transition → Type 0
StopLast [] = Unit {0}
StopLast (t ∷ trace) = ((Goes t.event → ⊥) → trace ≡ []) × StopLast trace

abbrev pub TraceLeavesImage : CodeImage → List Transition → Type 0
TraceLeavesImage image [] = Unit {0}
TraceLeavesImage image (t ∷ trace) = LeavesImage image t.event × TraceLeavesImage image trace

pub stop_append : (g h : List Transition) → StopLast (g ++ h) → StopLast h
stop_append [] h s = s
stop_append (t ∷ g) h s = stop_append g h s.1

pub leaves_append : (image : CodeImage) (g h : List Transition) → TraceLeavesImage image (g ++ h) → TraceLeavesImage image h
leaves_append image [] h s = s
leaves_append image (t ∷ g) h s = leaves_append image g h s.1

pub stop_is_last : (h rest : List Transition) (t : Transition) → StopLast (h ++ t ∷ rest) → (Goes t.event → ⊥) → rest ≡ []
stop_is_last [] rest t s stops = s.0 stops
stop_is_last (x ∷ h) rest t s stops = stop_is_last h rest t s.1 stops

pub transition_leaves : (image : CodeImage) (h rest : List Transition) (t : Transition) → TraceLeavesImage image (h ++ t ∷ rest) → LeavesImage image t.event
transition_leaves image [] rest t s = s.0
transition_leaves image (x ∷ h) rest t s = transition_leaves image h rest t s.1
