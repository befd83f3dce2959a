-- Emission of an instruction that is one step makes steps of it alone.
use Rattle.std.proofs.Common.{ℕ, zero, suc, Bool, true, false, [], ◌∷◌, Option, Some, None, refl, sym, subst, arith}
use Rattle.std.specs.List.{All}
use Rattle.s390x_inst.specs.Portions.{first_portion}
use Rattle.s390x_inst.specs.declared.inst.Inst.{Inst}
use Rattle.s390x_inst.specs.declared.inst.Inst.TheVariants.{Call, CondBreak, Loop', ReturnCall}
use Rattle.s390x_typed_steps.specs.Baseline.{tree_for, whole_or_loaded}
use Rattle.s390x_typed_steps.specs.Folding.{branches_of, fold, folded_members, remainder, body_with_remainder}
use Rattle.s390x_typed_steps.specs.Resolved.{resolved_instruction}
use Rattle.s390x_typed_steps.specs.StepBody.{Remainder, Whole}
use Rattle.s390x_typed_steps.specs.Steps.{Step, step_of, steps_of}
use Rattle.s390x_typed_steps.specs.Tree.{empty, leaf, prepend}
use Rattle.s390x_alloc_laws.specs.Allocatable.{IsAllocatable, Place, lacks_row}
use Rattle.s390x_alloc_laws.proofs.Laws.{IsOneStep, assigned_portion, one_step}
use Rattle.s390x_alloc_laws.specs.Outputs.{IsStepOf, EmitsItsSteps}

whole_step : (after : ℕ) (r : Inst) → IsStepOf r (step_of after (Whole r))
whole_step after (CondBreak mask) = refl
whole_step after r = refl

body_step : (after : ℕ) (lacks : Bool) (r : Inst) → IsStepOf r (step_of after (whole_or_loaded lacks r))
body_step after false r = whole_step after r
body_step after true r = refl

shortened_step : (after : ℕ) (left : Option Remainder) (r : Inst) → IsStepOf r (step_of after (body_with_remainder left r))
shortened_step after None r = whole_step after r
shortened_step after (Some x) r = refl

folded_step : (after next : ℕ) (lacks : Bool) (r : Inst) → IsStepOf r (step_of after (fold next (whole_or_loaded lacks r)))
folded_step after next false r = shortened_step after (remainder next (branches_of r)) r
folded_step after next true r = refl

one_alone : (Q : Step → Type 0) (s : Step) → Q s → All Q (s ∷ [])
one_alone Q s q zero d lt = q
one_alone Q s q (suc k) d lt = absurd (omega arith)

-- a tree of this body alone
whole_alone : (P : Place) (r : Inst) (k after : ℕ) → All (IsStepOf r) (steps_of k after (tree_for P.flags (leaf (Whole r) empty)))
whole_alone P r k after = one_alone (IsStepOf r) (step_of after (whole_or_loaded (lacks_row P r) r)) (body_step after (lacks_row P r) r)

folded_alone : (P : Place) (r : Inst) (k after next : ℕ) → All (IsStepOf r) (steps_of k after (folded_members next (tree_for P.flags (leaf (Whole r) empty))))
folded_alone P r k after next = one_alone (IsStepOf r) (step_of after (fold next (whole_or_loaded (lacks_row P r) r))) (folded_step after next (lacks_row P r) r)

emitted_steps : (P : Place) (j : Inst) → IsOneStep (first_portion j) → (k after : ℕ) → All (IsStepOf (resolved_instruction P.state j)) (steps_of k after (tree_for P.flags (prepend P.state j empty)))
emitted_steps P (Loop' mask body all) one k after = absurd one
emitted_steps P (Call link info) one k after = absurd one
emitted_steps P (ReturnCall info) one k after = absurd one
emitted_steps P j one k after = whole_alone P (resolved_instruction P.state j) k after

folded_steps : (P : Place) (j : Inst) → IsOneStep (first_portion j) → (k after next : ℕ) → All (IsStepOf (resolved_instruction P.state j)) (steps_of k after (folded_members next (tree_for P.flags (prepend P.state j empty))))
folded_steps P (Loop' mask body all) one k after next = absurd one
folded_steps P (Call link info) one k after next = absurd one
folded_steps P (ReturnCall info) one k after next = absurd one
folded_steps P j one k after next = folded_alone P (resolved_instruction P.state j) k after next

pub emits_its_steps : (P : Place) (i : Inst) → IsAllocatable P i → EmitsItsSteps P i
emits_its_steps P i a s j is k after =
    let one : IsOneStep (first_portion j) = subst (λ p. IsOneStep p) (sym (assigned_portion i j s a.stands is)) (one_step i s a.stands) in
    (emitted_steps P j one k after, λ next. folded_steps P j one k after next)
