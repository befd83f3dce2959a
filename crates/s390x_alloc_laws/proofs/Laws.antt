-- From an instruction's portions to the instruction itself.
use Rattle.std.proofs.Common.{◌≡◌, ℕ, Bool, true, false, List, [], ◌∷◌, None, refl, sym, ap, subst, ◌∙◌}
use Rattle.std.specs.Prelude.{⊤}
use Rattle.s390x_base.specs.declared.regs.Reg.{Reg}
use Rattle.s390x_inst.specs.declared.inst.Inst.{Inst}
use Rattle.s390x_operands.specs.Requests.{items_of}
use Rattle.s390x_typed_steps.specs.Resolved.{resolved_instruction}
use Rattle.s390x_alloc_laws.specs.Allocatable.{Spares, IsNotBlamed, Place, refusal, MayStand, emission_refusal, EmissionsSuffice, own_refusal, lacks_row, IsAssigned, IsAllocatable, AssignmentsSuffice}
use Rattle.s390x_operands.specs.Operands.{leaf_requests, operands, requests}
use Rattle.s390x_inst.specs.Portions.{Portion, calling, tail_calling, opening, portions, first_portion}
use Rattle.s390x_inst.specs.declared.inst.Inst.TheVariants.{Call, ReturnCall, Loop'}
use Rattle.s390x_typed_steps.specs.Causes.{tree_cause, numbers_cause, instruction_fresh_labels, body_cause}
use Rattle.s390x_typed_steps.specs.Baseline.{tree_for, whole_or_loaded}
use Rattle.s390x_typed_steps.specs.Tree.{Whole, leaf, empty}
use Rattle.s390x_operands.specs.Meets.{Meets}
use Rattle.s390x_assign.specs.Assignments.{assigned_portions, portion_at}
use Rattle.s390x_alloc_laws.proofs.Given.{clear, first_clear, numbers_clear, Gives}
use Rattle.s390x_alloc_laws.proofs.Control.{portion_refusal, refused_as_portion}
use Rattle.s390x_alloc_laws.proofs.Blame.{blames}

pub requests_leaf : (i : Inst) → MayStand i → requests i ≡ leaf_requests i
requests_leaf (Loop' mask body all) m = absurd m
requests_leaf i m = refl

alone : (i : Inst) → MayStand i → portions i ≡ first_portion i ∷ []
alone (Loop' mask body all) m = absurd m
alone i m = refl

same_first : (a b : Portion) (ps qs : List Portion) → ◌≡◌ {A = List Portion} (a ∷ ps) (b ∷ qs) → a ≡ b
same_first a b ps qs h = cc

-- an instruction that is one portion is refused as that portion is
portion_alone : (i : Inst) (p : Portion) → portions i ≡ p ∷ [] → first_portion i ≡ p
portion_alone (Loop' mask body all) p h = same_first (opening mask) p _ [] h
portion_alone i p h = same_first (first_portion i) p [] [] h

pub assigned_portion : (i j : Inst) (s : List Reg) → MayStand i → IsAssigned i s j → first_portion j ≡ (portion_at (first_portion i) s).0
assigned_portion i j s m h = portion_alone j (portion_at (first_portion i) s).0 (h ∙ ap (λ ps. (assigned_portions ps s).0) (alone i m))

pub refused_alone : (P : Place) (i j : Inst) (s : List Reg) → MayStand i → IsAssigned i s j → refusal P j ≡ portion_refusal P (portion_at (first_portion i) s).0
refused_alone P i j s m h = refused_as_portion P j ∙ ap (portion_refusal P) (assigned_portion i j s m h)

pub assignments_suffice : (P : Place) (i : Inst) → IsAllocatable P i → AssignmentsSuffice P i
assignments_suffice P i a s j meet spare is =
    let s' : List Reg = a.possible.registers in
    let items : operands i ≡ items_of (leaf_requests i) = ap items_of (requests_leaf i a.stands) in
    let gives : Gives s s' s s' (items_of (leaf_requests i)) =
    record {
      meet = subst (λ xs. Meets xs s) items meet;
      spare = subst (λ xs. Spares xs s) items spare;
      possible = subst (λ xs. Meets xs s') items a.possible.meet;
    } in
    let unrefused : portion_refusal P (portion_at (first_portion i) s').0 ≡ None = sym (refused_alone P i a.possible.instruction s' a.stands a.possible.assigned) ∙ a.possible.unrefused in
    subst (λ c. IsNotBlamed c) (sym (refused_alone P i j s a.stands is)) (blames P i s s' a.stands gives unrefused)

-- ---- emission

-- an instruction of this portion is one step
abbrev pub IsOneStep : Portion → Type 0
IsOneStep (calling link dest uses defs terms) = ⊥
IsOneStep (tail_calling dest uses popped) = ⊥
IsOneStep (opening mask) = ⊥
IsOneStep p = ⊤

body_alone : (P : Place) (n : ℕ) (lacks : Bool) (r : Inst) → IsNotBlamed (own_refusal P lacks r) → IsNotBlamed (body_cause P.flags P.declared n P.state.nominal P.depth (whole_or_loaded lacks r))
body_alone P n false r h = first_clear (own_refusal P false r) (numbers_cause n (instruction_fresh_labels r)) h (numbers_clear n (instruction_fresh_labels r))
body_alone P n true r h = first_clear (own_refusal P true r) (numbers_cause n 0) h (numbers_clear n 0)

-- a tree of this body alone
step_alone : (P : Place) (n : ℕ) (r : Inst) → IsNotBlamed (own_refusal P (lacks_row P r) r) → IsNotBlamed (tree_cause P.flags P.declared n P.state.nominal P.depth (tree_for P.flags (leaf (Whole r) empty)))
step_alone P n r h = first_clear (body_cause P.flags P.declared n P.state.nominal P.depth (whole_or_loaded (lacks_row P r) r)) None (body_alone P n (lacks_row P r) r h) clear

emitted_alone : (P : Place) (n : ℕ) (j : Inst) → IsOneStep (first_portion j) → IsNotBlamed (refusal P j) → IsNotBlamed (emission_refusal P n j)
emitted_alone P n (Loop' mask body all) h clears = absurd h
emitted_alone P n (Call link info) h clears = absurd h
emitted_alone P n (ReturnCall info) h clears = absurd h
emitted_alone P n j h clears = step_alone P n (resolved_instruction P.state j) clears

pub one_step : (i : Inst) (s : List Reg) → MayStand i → IsOneStep (portion_at (first_portion i) s).0
one_step (Loop' mask body all) s m = absurd m
one_step (Call link info) s m = absurd m
one_step (ReturnCall info) s m = absurd m
one_step i s m = tt

pub emissions_suffice : (P : Place) (i : Inst) → IsAllocatable P i → EmissionsSuffice P i
emissions_suffice P i a n s j meet spare is =
    let one : IsOneStep (first_portion j) = subst (λ p. IsOneStep p) (sym (assigned_portion i j s a.stands is)) (one_step i s a.stands) in
    emitted_alone P n j one (assignments_suffice P i a s j meet spare is)
