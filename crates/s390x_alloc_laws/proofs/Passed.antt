-- What emission lets pass has a step without a cause, so that it changes only what it reported.
use Rattle.std.proofs.Common.{◌≡◌, ℕ, Bool, true, false, None, sym, subst}
use Rattle.s390x_inst.specs.Portions.{first_portion}
use Rattle.s390x_inst.specs.declared.inst.Inst.{Inst}
use Rattle.s390x_inst.specs.declared.inst.Inst.TheVariants.{Call, Loop', ReturnCall}
use Rattle.s390x_typed_steps.specs.Baseline.{tree_for, whole_or_loaded}
use Rattle.s390x_typed_steps.specs.Causes.{body_cause, instruction_fresh_labels, numbers_cause, tree_cause}
use Rattle.s390x_typed_steps.specs.Resolved.{resolved_instruction}
use Rattle.s390x_typed_steps.specs.Tree.{Whole, empty, leaf}
use Rattle.s390x_typed_steps.proofs.Causes.{first_left}
use Rattle.s390x_alloc_laws.specs.Allocatable.{IsAllocatable, Place, emission_refusal, lacks_row, own_refusal, refusal}
use Rattle.s390x_alloc_laws.proofs.Laws.{IsOneStep, assigned_portion, one_step}
use Rattle.s390x_alloc_laws.specs.Emitted.{EmittedChangesOutputs}
use Rattle.s390x_alloc_laws.proofs.Emitted.{emits_its_steps}
use Rattle.s390x_alloc_laws.proofs.OutputLaws.{changes_outputs}
use Rattle.s390x_alloc_laws.proofs.Machine.{machine_changes_outputs}

body_alone : (P : Place) (n : ℕ) (lacks : Bool) (r : Inst) → body_cause P.flags P.declared n P.state.nominal P.depth (whole_or_loaded lacks r) ≡ None → own_refusal P lacks r ≡ None
body_alone P n false r h = first_left (own_refusal P false r) (numbers_cause n (instruction_fresh_labels r)) h
body_alone P n true r h = first_left (own_refusal P true r) (numbers_cause n 0) h

-- a tree of this body alone
step_alone : (P : Place) (n : ℕ) (r : Inst) → tree_cause P.flags P.declared n P.state.nominal P.depth (tree_for P.flags (leaf (Whole r) empty)) ≡ None → own_refusal P (lacks_row P r) r ≡ None
step_alone P n r h = body_alone P n (lacks_row P r) r (first_left (body_cause P.flags P.declared n P.state.nominal P.depth (whole_or_loaded (lacks_row P r) r)) None h)

-- the last clause is a copy for each
unrefused : (P : Place) (n : ℕ) (j : Inst) → IsOneStep (first_portion j) → emission_refusal P n j ≡ None → refusal P j ≡ None
unrefused P n (Loop' mask body all) one h = absurd one
unrefused P n (Call link info) one h = absurd one
unrefused P n (ReturnCall info) one h = absurd one
unrefused P n j one h = step_alone P n (resolved_instruction P.state j) h

pub emitted_changes_outputs : (P : Place) (i : Inst) → IsAllocatable P i → EmittedChangesOutputs P i
emitted_changes_outputs P i a n registers j meet spare is none =
    let one : IsOneStep (first_portion j) = subst (λ p. IsOneStep p) (sym (assigned_portion i j registers a.stands is)) (one_step i registers a.stands) in
    let passes : refusal P j ≡ None = unrefused P n j one none in
    record {
      steps = λ k after. (emits_its_steps P i a registers j is k after).0;
      folds = λ k after. (emits_its_steps P i a registers j is k after).1;
      typed = changes_outputs P i a registers j meet spare is passes;
      machine = machine_changes_outputs P i a registers j meet spare is passes;
    }
