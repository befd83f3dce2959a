-- In blocks whose branches are folded, each step that has lost branches leads on to the next step.
use Rattle.std.proofs.Common.{◌≡◌, ℕ, zero, suc, ◌+◌, ◌-◌, inl, inr, List, [], ◌∷◌, ◌++◌, length, Some, None, Bool, true, false, cond, nat_eq, refl, sym, ap, ◌∙◌, subst, arith, slice_get, eqb-true, add-zero}
use Rattle.s390x_base.specs.declared.ir.MachLabel.{MachLabel}
use Rattle.s390x_inst.specs.declared.inst.Inst.TheVariants.{Jump, CondBr, CondBreak}
use Rattle.s390x_typed_steps.specs.Folding.{body_with_remainder, fold, folded_members, folded_before, next_block, folded_from, folded_trees}
use Rattle.s390x_typed_steps.specs.Ranges.{BodyInRange, AllInRange, BlocksInRange}
use Rattle.s390x_typed_steps.specs.Rows.{LinkEnvironment}
use Rattle.s390x_typed_steps.specs.Steps.{Step, Opening, Back, step_count, step_of, steps_of, steps_from, function_steps, first_step}
use Rattle.s390x_typed_steps.specs.Tree.{NothingLeft, BranchLeft, StepBody, Tree, empty, leaf, loop_node, Whole, Folded}
use Rattle.s390x_typed_steps.proofs.Folding.{before_count, folded_first_step}
use Rattle.s390x_operations.specs.State.{CodeImage}
use Rattle.s390x_machine.specs.CodeAt.{IsFoldedRight}
use Rattle.s390x_machine.specs.Functions.{function_layout}
use Rattle.s390x_machine.specs.Layout.{Layout}
use Rattle.s390x_machine.proofs.Functions.{count_of}

module _ (L : Layout) where
  -- steps from number k on, each of which leads on where it has lost branches
  abbrev AllLead : (k : ℕ) → List Step → Type 0
  AllLead k ss = (j : ℕ) (s : Step) → slice_get ss j ≡ Some s → IsFoldedRight L (k + j) s

  lead_cons : (k : ℕ) (x : Step) (ss : List Step) → IsFoldedRight L k x → AllLead (k + 1) ss → AllLead k (x ∷ ss)
  lead_cons k x ss h all zero s e =
      let same : x ≡ s = cc in
      let here : k ≡ k + 0 = omega arith in
      subst (λ n. IsFoldedRight L n s) here (subst (λ y. IsFoldedRight L k y) same h)
  lead_cons k x ss h all (suc j) s e = let here : k + 1 + j ≡ k + suc j = omega arith in subst (λ n. IsFoldedRight L n s) here (all j s e)

  lead_rest : (k : ℕ) (x : Step) (ss : List Step) → AllLead k (x ∷ ss) → AllLead (k + 1) ss
  lead_rest k x ss all j s e = let here : k + suc j ≡ k + 1 + j = omega arith in subst (λ n. IsFoldedRight L n s) here (all (suc j) s e)

  lead_at : (m n : ℕ) (ss : List Step) → m ≡ n → AllLead m ss → AllLead n ss
  lead_at m n ss same all = subst (λ k. AllLead k ss) same all

  lead_append : (k : ℕ) (xs ys : List Step) → AllLead k xs → AllLead (k + length xs) ys → AllLead k (xs ++ ys)
  lead_append k [] ys a b = lead_at (k + 0) k ys (add-zero k) b
  lead_append k (x ∷ xs) ys a b =
      let first : k ≡ k + 0 = omega arith in
      let behind : k + suc (length xs) ≡ k + 1 + length xs = omega arith in
      lead_cons k x (xs ++ ys) (subst (λ n. IsFoldedRight L n x) (sym first) (a zero x refl)) (lead_append (k + 1) xs ys (lead_rest k x xs a) (lead_at (k + suc (length xs)) (k + 1 + length xs) ys behind b))

  -- ---- where nothing is folded

  whole_body : (k after : ℕ) (b : StepBody) → BodyInRange b → IsFoldedRight L k (step_of after b)
  whole_body k after (Folded r i) h = absurd h
  whole_body k after (Whole (CondBreak mask)) h = tt
  whole_body k after (Whole i) h = tt
  whole_body k after b h = tt

  -- the steps of a loop before others
  loop_lead : (k mask after : ℕ) (members rest : Tree) → AllLead (k + 1) (steps_of (k + 1) (k + 2 + step_count members) members) → AllLead (k + 2 + step_count members) (steps_of (k + 2 + step_count members) after rest) → AllLead k (steps_of k after (loop_node mask members rest))
  loop_lead k mask after members rest inside behind =
      let end = k + 2 + step_count members in
      let m = steps_of (k + 1) end members in
      let r = steps_of end after rest in
      let next : end ≡ k + 1 + step_count members + 1 = omega arith in
      let counted : k + 1 + step_count members ≡ k + 1 + length m = ap (λ n. k + 1 + n) (sym (count_of (k + 1) end members)) in
      lead_cons k Opening (m ++ (Back mask (k + 1) ∷ r)) tt
      (lead_append (k + 1) m (Back mask (k + 1) ∷ r) inside
      (lead_at (k + 1 + step_count members) (k + 1 + length m) (Back mask (k + 1) ∷ r) counted
      (lead_cons (k + 1 + step_count members) (Back mask (k + 1)) r tt (lead_at end (k + 1 + step_count members + 1) r next behind))))

  whole_tree : (k after : ℕ) (t : Tree) → AllInRange t → AllLead k (steps_of k after t)
  whole_tree k after empty h = λ j s e. absurd (cc)
  whole_tree k after (leaf b rest) h = lead_cons k (step_of after b) (steps_of (k + 1) after rest) (whole_body k after b h.0) (whole_tree (k + 1) after rest h.1)
  whole_tree k after (loop_node mask members rest) h =
      loop_lead k mask after members rest (whole_tree (k + 1) (k + 2 + step_count members) members h.1) (whole_tree (k + 2 + step_count members) after rest h.2)

  whole_blocks : (k : ℕ) (ts : List Tree) → BlocksInRange ts → AllLead k (steps_from k ts)
  whole_blocks k [] h = λ j s e. absurd (cc)
  whole_blocks k (t ∷ ts) h =
      let counted : k + step_count t ≡ k + length (steps_of k 0 t) = ap (λ n. k + n) (sym (count_of k 0 t)) in
      let r = steps_from (k + step_count t) ts in
      lead_append k (steps_of k 0 t) r (whole_tree k 0 t h.0) (lead_at (k + step_count t) (k + length (steps_of k 0 t)) r counted (whole_blocks (k + step_count t) ts h.1))

  -- ---- the last step of a block

  leads_there : (k next b : ℕ) → nat_eq b next ≡ true → L.first_step next ≡ suc k → L.first_step b ≡ suc k
  leads_there k next b same e = ap L.first_step (eqb-true b next same) ∙ e

  jump_leads : (k next : ℕ) (dest : MachLabel) (t : Bool) → nat_eq dest.0 next ≡ t → L.first_step next ≡ suc k → IsFoldedRight L k (step_of 0 (body_with_remainder (cond t (Some NothingLeft) None) (Jump dest)))
  jump_leads k next dest true same e = leads_there k next dest.0 same e
  jump_leads k next dest false same e = tt

  choice_leads : (k next : ℕ) (taken not_taken : MachLabel) (mask : ℕ) (n t : Bool) → nat_eq not_taken.0 next ≡ n → nat_eq taken.0 next ≡ t → L.first_step next ≡ suc k →
      IsFoldedRight L k (step_of 0 (body_with_remainder (cond n (cond t (Some NothingLeft) (Some (BranchLeft mask taken.0))) (cond t (Some (BranchLeft (15 - mask) not_taken.0)) None)) (CondBr taken not_taken mask)))
  choice_leads k next taken not_taken mask true true other same e = (leads_there k next taken.0 same e, leads_there k next not_taken.0 other e)
  choice_leads k next taken not_taken mask true false other same e = inl (refl, refl, leads_there k next not_taken.0 other e)
  choice_leads k next taken not_taken mask false true other same e = inr (refl, refl, leads_there k next taken.0 same e)
  choice_leads k next taken not_taken mask false false other same e = tt

  fold_leads : (k next : ℕ) (b : StepBody) → BodyInRange b → L.first_step next ≡ suc k → IsFoldedRight L k (step_of 0 (fold next b))
  fold_leads k next (Whole (Jump dest)) h e = jump_leads k next dest (nat_eq dest.0 next) refl e
  fold_leads k next (Whole (CondBr taken not_taken mask)) h e = choice_leads k next taken not_taken mask (nat_eq not_taken.0 next) (nat_eq taken.0 next) refl refl e
  fold_leads k next (Folded r i) h e = absurd h
  fold_leads k next b h e = tt

  -- ---- the members of a block

  folded_tree : (k next : ℕ) (t : Tree) → AllInRange t → L.first_step next ≡ k + step_count t → AllLead k (steps_of k 0 (folded_members next t))
  folded_tree k next empty h e = λ j s at. absurd (cc)
  folded_tree k next (leaf b empty) h e =
      let last : k + (1 + 0) ≡ suc k = omega arith in
      lead_cons k (step_of 0 (fold next b)) [] (fold_leads k next b h.0 (e ∙ last)) (λ j s at. absurd (cc))
  folded_tree k next (leaf b (leaf c rest)) h e =
      let behind : k + (1 + step_count (leaf c rest)) ≡ k + 1 + step_count (leaf c rest) = omega arith in
      lead_cons k (step_of 0 b) (steps_of (k + 1) 0 (folded_members next (leaf c rest))) (whole_body k 0 b h.0) (folded_tree (k + 1) next (leaf c rest) h.1 (e ∙ behind))
  folded_tree k next (leaf b (loop_node mask members rest)) h e =
      let behind : k + (1 + step_count (loop_node mask members rest)) ≡ k + 1 + step_count (loop_node mask members rest) = omega arith in
      lead_cons k (step_of 0 b) (steps_of (k + 1) 0 (folded_members next (loop_node mask members rest))) (whole_body k 0 b h.0) (folded_tree (k + 1) next (loop_node mask members rest) h.1 (e ∙ behind))
  folded_tree k next (loop_node mask members rest) h e =
      let end = k + 2 + step_count members in
      let behind : k + (2 + step_count members + step_count rest) ≡ end + step_count rest = omega arith in
      loop_lead k mask 0 members (folded_members next rest) (whole_tree (k + 1) end members h.1) (folded_tree end next rest h.2 (e ∙ behind))

  before_leads : (k b : ℕ) (ts : List Tree) (t : Tree) → AllInRange t → L.first_step (b + 1) ≡ k + step_count t → AllLead k (steps_of k 0 (folded_before (next_block b ts) t))
  before_leads k b [] t h e = whole_tree k 0 t h
  before_leads k b (u ∷ ts) t h e = folded_tree k (b + 1) t h e

  -- ---- the blocks from number b on

  first_zero : (ts : List Tree) → first_step ts 0 ≡ 0
  first_zero [] = refl
  first_zero (t ∷ ts) = refl

  folded_blocks : (k b : ℕ) (ts : List Tree) → BlocksInRange ts → ((j : ℕ) → L.first_step (b + j) ≡ k + first_step ts j) → AllLead k (steps_from k (folded_from b ts))
  folded_blocks k b [] h starts = λ j s e. absurd (cc)
  folded_blocks k b (t ∷ ts) h starts =
      let u = folded_before (next_block b ts) t in
      let same = before_count (next_block b ts) t in
      let next : L.first_step (b + 1) ≡ k + step_count t = starts 1 ∙ omega (arith, first_zero ts) in
      let r = steps_from (k + step_count u) (folded_from (b + 1) ts) in
      let counted : k + step_count u ≡ k + length (steps_of k 0 u) = ap (λ n. k + n) (sym (count_of k 0 u)) in
      let later : (j : ℕ) → L.first_step (b + 1 + j) ≡ k + step_count u + first_step ts j =
      λ j. let number : b + 1 + j ≡ b + suc j = omega arith in ap L.first_step number ∙ starts (suc j) ∙ omega (arith, same) in
      lead_append k (steps_of k 0 u) r (before_leads k b ts t h.0 next) (lead_at (k + step_count u) (k + length (steps_of k 0 u)) r counted (folded_blocks (k + step_count u) (b + 1) ts h.1 later))

none_before : (n : ℕ) → 0 + n ≡ n
none_before n = omega arith

-- the steps of a function whose blocks are folded
pub folded_right : (environment : LinkEnvironment) (ts : List Tree) (image : CodeImage) → BlocksInRange ts → (k : ℕ) (s : Step) → slice_get (function_steps (folded_trees ts)) k ≡ Some s → IsFoldedRight (function_layout environment (folded_trees ts) image) k s
folded_right environment ts image range k s e =
    let L = function_layout environment (folded_trees ts) image in
    let starts : (j : ℕ) → L.first_step (0 + j) ≡ 0 + first_step ts j = λ j. ap L.first_step (none_before j) ∙ folded_first_step 0 ts j ∙ sym (none_before (first_step ts j)) in
    subst (λ n. IsFoldedRight L n s) (none_before k) (folded_blocks L 0 0 ts range starts k s e)

-- those of one whose blocks aren't
pub whole_right : (L : Layout) (ts : List Tree) → BlocksInRange ts → (k : ℕ) (s : Step) → slice_get (function_steps ts) k ≡ Some s → IsFoldedRight L k s
whole_right L ts range k s e = subst (λ n. IsFoldedRight L n s) (none_before k) (whole_blocks L 0 ts range k s e)
