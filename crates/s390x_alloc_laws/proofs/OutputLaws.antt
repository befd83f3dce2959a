-- From an instruction's portions to its steps.
use Rattle.std.proofs.Common.{◌≡◌, List, ◌++◌, None, sym, ap, subst, ◌∙◌}
use Rattle.s390x_base.specs.declared.regs.Reg.{Reg}
use Rattle.s390x_inst.specs.Emission.{Emission}
use Rattle.s390x_inst.specs.Portions.{Portion, first_portion}
use Rattle.s390x_inst.specs.declared.inst.Inst.{Inst}
use Rattle.s390x_operands.specs.Meets.{Meets}
use Rattle.s390x_operands.specs.Operands.{operands, leaf_requests}
use Rattle.s390x_operands.specs.Requests.{items_of}
use Rattle.s390x_assign.specs.Assignments.{portion_at}
use Rattle.s390x_typed_steps.specs.Resolved.{resolved_instruction}
use Rattle.s390x_typed_steps.specs.Steps.{Step, Plain, Shortened, LoadedStep, Break}
use Rattle.s390x_machine.specs.Layout.{Layout}
use Rattle.s390x_machine.specs.StepKinds.{step_kind, instruction_kind, loaded_kind}
use Rattle.s390x_machine.specs.Typed.{KindStep, kind_of_step}
use Rattle.s390x_alloc_laws.specs.Allocatable.{Place, IsAllocatable}
use Rattle.s390x_alloc_laws.proofs.Control.{portion_refusal}
use Rattle.s390x_alloc_laws.proofs.Laws.{requests_leaf, assigned_portion, refused_alone}
use Rattle.s390x_alloc_laws.specs.Outputs.{IsStepOf, loaded_range, changeable, outputs, ChangesOutputs}
use Rattle.s390x_alloc_laws.proofs.StepKinds.{KindKeeps, lead_keeps}
use Rattle.s390x_alloc_laws.proofs.Shapes.{BothKeep, InstKeeps}
use Rattle.s390x_alloc_laws.proofs.Portions.{portion_kind, portion_loaded_kind, kind_as_portion, loaded_as_portion}
use Rattle.s390x_alloc_laws.proofs.Forms.{kept}

by_step : (L : Layout) (changed : List Reg) (j : Inst) (s : Step) → IsStepOf j s → InstKeeps L changed j → KindKeeps L changed (step_kind L s)
by_step L changed j (Plain i) e keeps = subst (λ x. KindKeeps L changed (instruction_kind L x)) (sym e) keeps.0
by_step L changed j (Shortened r i) e keeps = subst (λ x. KindKeeps L changed (instruction_kind L x)) (sym e) keeps.0
by_step L changed j (LoadedStep i) e keeps = subst (λ x. KindKeeps L changed (loaded_kind L x)) (sym e) keeps.1
by_step L changed j (Break mask target) e keeps = lead_keeps L changed mask target
by_step L changed j s e keeps = absurd e

both_portions : (L : Layout) (e : Emission) (changed : List Reg) (j : Inst) (p : Portion) → first_portion j ≡ p → BothKeep L changed (portion_kind L e p) (portion_loaded_kind L e p) → InstKeeps L changed (resolved_instruction e j)
both_portions L e changed j p is keeps =
    let both : BothKeep L changed (portion_kind L e (first_portion j)) (portion_loaded_kind L e (first_portion j)) = subst (λ q. BothKeep L changed (portion_kind L e q) (portion_loaded_kind L e q)) (sym is) keeps in
    (subst (λ z. KindKeeps L changed z) (sym (kind_as_portion L e j)) both.0, subst (λ z. KindKeeps L changed z) (sym (loaded_as_portion L e j)) both.1)

pub changes_outputs : (P : Place) (i : Inst) → IsAllocatable P i → ChangesOutputs P i
changes_outputs P i a s j meet spare is unrefused L k step at own c position t typed =
    let items : operands i ≡ items_of (leaf_requests i) = ap items_of (requests_leaf i a.stands) in
    let p : Portion = (portion_at (first_portion i) s).0 in
    let accepted : portion_refusal P p ≡ None = sym (refused_alone P i j s a.stands is) ∙ unrefused in
    let both : BothKeep L (loaded_range i ++ outputs (items_of (leaf_requests i)) s) (portion_kind L P.state p) (portion_loaded_kind L P.state p) = kept P L i s a.stands (subst (λ xs. Meets xs s) items meet) accepted in
    let listed : BothKeep L (changeable i s) (portion_kind L P.state p) (portion_loaded_kind L P.state p) = subst (λ xs. BothKeep L (loaded_range i ++ outputs xs s) (portion_kind L P.state p) (portion_loaded_kind L P.state p)) (sym items) both in
    let keeps : InstKeeps L (changeable i s) (resolved_instruction P.state j) = both_portions L P.state (changeable i s) j p (assigned_portion i j s a.stands is) listed in
    by_step L (changeable i s) (resolved_instruction P.state j) step own keeps k c position t (subst (λ o. KindStep L (kind_of_step L o) k c position t) at typed)
