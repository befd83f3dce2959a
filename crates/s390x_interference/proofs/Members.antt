-- The members of a retry loop: register work goes on to the next step, stores nothing and is never wrong.
use Rattle.std.proofs.Common.{◌≡◌, ℕ, suc, inl, inr, Option, Some, None, Bool, true, false, sym, ap, ◌∙◌, subst, true≢false, slice_get}
use Rattle.s390x_base.specs.declared.trap.TrapKind.{TrapKind}
use Rattle.s390x_typed_steps.specs.Steps.{Step, Plain, Break}
use Rattle.s390x_operations.specs.State.{Core, CodeImage}
use Rattle.s390x_operations.specs.Access.{fault, store_event, stores_into}
use Rattle.s390x_operations.specs.Effects.{access, MayInterrupt}
use Rattle.s390x_operations.specs.declared.effect.Operation.{Operation}
use Rattle.s390x_operations.specs.declared.stop.StopKind.{StopKind}
use Rattle.s390x_machine.specs.Layout.{Layout}
use Rattle.s390x_machine.specs.StepKinds.{StepKind, Performs, PerformsWhere, ComparesWide, Silent, instruction_kind}
use Rattle.s390x_machine.specs.Typed.{Position, At, goes_on, traps, OperationStep, OperationWrong, faults_uncoded, touches_image, WhereStep, KindStep, KindWrong, TypedStep, Wrong, kind_at, kind_of_step, store_event_of_kind, typed_store_event}
use Rattle.s390x_interference.specs.Retry.{StaysInRegisters, IsRegisterWork, IsMember}

-- ---- register work

no_stop : (op : Operation) (has : ℕ → Bool) (kind : StopKind) → StaysInRegisters op → MayInterrupt op has kind → ⊥
no_stop op has kind s (inl e) = let none : fault (access op.effect) has ≡ None = ap (λ x. fault x has) s.untouched in absurd (cc)
no_stop op has kind s (inr (e, inl r)) = let none = s.allowed in absurd (cc)
no_stop op has kind s (inr (e, inr r)) = s.certain kind r

operation_stays : (needs : Bool) (op : Operation) (code : StopKind → Option TrapKind) (k : ℕ) (c : Core) (position : Position) (t : Core) → StaysInRegisters op → OperationStep needs op code k c position t → position ≡ At (suc k)
operation_stays needs op code k c position t s (goes_on v may e) = e
operation_stays needs op code k c position t s (traps v kind n may some same e) = absurd (no_stop op c.memory.has kind s may)

operation_right : (image : CodeImage) (op : Operation) (code : StopKind → Option TrapKind) (c : Core) → StaysInRegisters op → OperationWrong image op code c → ⊥
operation_right image op code c s (faults_uncoded kind e none) = no_stop op c.memory.has kind s (inl e)
operation_right image op code c s (touches_image e) = true≢false (sym e ∙ ap (λ x. stores_into image x) s.untouched)

where_stays : (selected : Bool) (op : Operation) (k : ℕ) (c : Core) (position : Position) (t : Core) → WhereStep selected op k c position t → position ≡ At (suc k)
where_stays true op k c position t h = h.0
where_stays false op k c position t h = h.0

-- a step that goes on to the next one, stores nothing and is never wrong
pub record WorkStep (L : Layout) (k : ℕ) : Type 0 where
  pub stays : (y : Core) (position : Position) (t : Core) → TypedStep L k y position t → position ≡ At (suc k)
  pub none : (y : Core) → typed_store_event L k y ≡ None
  pub right : (y : Core) → Wrong L k y → ⊥

work_of : (L : Layout) (k : ℕ) (f : StepKind) → kind_at L k ≡ Some f → IsRegisterWork f → WorkStep L k
work_of L k (Performs needs operation code) is work = record {
  stays = λ y position t step. operation_stays needs (operation y.registers) code k y position t (work y.registers) (subst (λ f. KindStep L f k y position t) is step);
  none = λ y. ap (λ f. store_event_of_kind f y) is ∙ ap (λ x. store_event x y.memory) (work y.registers).untouched;
  right = λ y wrong. operation_right L.image (operation y.registers) code y (work y.registers) (subst (λ f. KindWrong L f y) is wrong);
}
work_of L k (PerformsWhere mask operation) is work = record {
  stays = λ y position t step. where_stays _ (operation y.registers) k y position t (subst (λ f. KindStep L f k y position t) is step);
  none = λ y. ap (λ f. store_event_of_kind f y) is;
  right = λ y wrong. subst (λ f. KindWrong L f y) is wrong;
}
work_of L k (ComparesWide sign tmp n m) is work = record {
  stays = λ y position t step. (subst (λ f. KindStep L f k y position t) is step).1;
  none = λ y. ap (λ f. store_event_of_kind f y) is;
  right = λ y wrong. subst (λ f. KindWrong L f y) is wrong;
}
work_of L k Silent is work = record {
  stays = λ y position t step. (subst (λ f. KindStep L f k y position t) is step).0;
  none = λ y. ap (λ f. store_event_of_kind f y) is;
  right = λ y wrong. subst (λ f. KindWrong L f y) is wrong;
}
work_of L k _ is work = absurd work

-- ---- both kinds of members

pub data MemberStep (L : Layout) (k end : ℕ) : Type 0 where
  works : WorkStep L k → MemberStep L k end
  breaks : (mask : ℕ) → slice_get L.steps k ≡ Some (Break mask end) → MemberStep L k end

pub member_step : (L : Layout) (k end : ℕ) (s : Step) → slice_get L.steps k ≡ Some s → IsMember L end s → MemberStep L k end
member_step L k end (Plain i) e h = works (work_of L k (instruction_kind L i) (ap (kind_of_step L) e) h)
member_step L k end (Break mask target) e h = breaks mask (e ∙ ap (λ x. Some (Break mask x)) h)
member_step L k end _ e h = absurd h
