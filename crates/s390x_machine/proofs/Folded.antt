-- Steps that the end of a block left without bytes, or with one branch: they do what they did with all their branches.
use Rattle.std.proofs.Common.{◌≡◌, ℕ, suc, ◌+◌, ◌-◌, ◌<◌, ◌≤◌, List, [], ◌∷◌, length, Some, None, Bool, true, false, cond, not, refl, sym, ap, ◌∙◌, subst, arith, ap₂, inl, inr}
use Rattle.s390x_format.specs.Formats.{length_of}
use Rattle.s390x_inst.specs.declared.inst.Inst.{Inst}
use Rattle.s390x_inst.specs.declared.inst.Inst.TheVariants.{Jump, CondBr}
use Rattle.s390x_typed_steps.specs.Parts.{ToBlock, Branch as BranchPart, step_parts}
use Rattle.s390x_typed_steps.specs.StepBody.{Remainder, NothingLeft, BranchLeft}
use Rattle.s390x_typed_steps.specs.Steps.{Step, Shortened}
use Rattle.s390x_operations.specs.State.{Registers, Core, core_after_writes, wrapping_add64}
use Rattle.s390x_operations.specs.Effects.{is_selected}
use Rattle.s390x_machine.specs.declared.action_type.Action.TheVariants.{Branch}
use Rattle.s390x_machine.specs.Machine.{Executed, Transition, all_writes}
use Rattle.s390x_machine.specs.StepKinds.{GoesTo, Chooses}
use Rattle.s390x_machine.specs.Typed.{At, KindStep, TypedStep, kind_at, typed_store_event}
use Rattle.s390x_machine.specs.Match.{HasNoBytes}
use Rattle.s390x_machine.specs.OneStep.{Runs, silent, StepRuns}
use Rattle.s390x_machine.specs.Layout.{Layout, step_address, block_address, InStep}
use Rattle.s390x_machine.specs.CodeAt.{IsBlock, IsValidInstruction, LeadsOn}
use Rattle.s390x_machine.proofs.Built.{StepAt, step_within, step_even, step_small, step_form, stand_as, size_as}
use Rattle.s390x_machine.proofs.RegisterNumbers.{small_mask}
use Rattle.s390x_machine.proofs.Rows.{brcl_at}
use Rattle.s390x_machine.proofs.Standing.{block_begins, next_place, inside_first}
use Rattle.s390x_machine.proofs.Simulation.{RowAt, mid, Inside, at_start, Turned, branch, done}
use Rattle.s390x_machine.proofs.Branches.{stores_none}
use Rattle.s390x_machine.proofs.VectorComposites.{inverts}

-- ---- no bytes: every target is the next step

pub cut_jump_runs : (L : Layout) (k b : ℕ) → kind_at L k ≡ Some (GoesTo b) → L.first_step b ≡ suc k → suc k ≤ length L.steps → HasNoBytes L k → StepRuns L k
cut_jump_runs L k b is next within size c is_loaded trace run =
    silent (subst (λ f. KindStep L f k c (At (suc k)) c) (sym is) (ap (λ j. At j) (sym next), refl)) within size

both_places : (t : Bool) (a b n : ℕ) → a ≡ n → b ≡ n → At n ≡ At (cond t a b)
both_places true a b n p q = ap (λ j. At j) (sym p)
both_places false a b n p q = ap (λ j. At j) (sym q)

pub cut_choice_runs : (L : Layout) (k mask a b : ℕ) → kind_at L k ≡ Some (Chooses mask a b) → L.first_step a ≡ suc k → L.first_step b ≡ suc k → suc k ≤ length L.steps → HasNoBytes L k → StepRuns L k
cut_choice_runs L k mask a b is first second within size c is_loaded trace run =
    silent (subst (λ f. KindStep L f k c (At (suc k)) c) (sym is) (both_places (is_selected mask c.registers.code) (L.first_step a) (L.first_step b) (suc k) first second, refl)) within size

-- ---- one branch under a mask to a step, and behind it the next step

-- what the typed step does, as that branch tells
abbrev AsBranch : (L : Layout) (k m j : ℕ) → Type 0
AsBranch L k m j = (c : Core) (taken : Bool) → is_selected m c.registers.code ≡ taken → (x : Core) → x.registers ≡ c.registers → TypedStep L k x (cond taken (At j) (At (suc k))) x

one_taken : (L : Layout) (k m j target size : ℕ) → ((y : Core) → typed_store_event L k y ≡ None) → AsBranch L k m j → target ≡ step_address L j → wrapping_add64 (step_address L k) size ≡ step_address L (suc k) → (c : Core) (t : Transition) (rest : List Transition) → Inside L k c [] c.registers (step_address L k) →
    Turned L c [] c.registers (step_address L k) (λ r. Branch m target) size t → t.event ≡ Executed None → (taken : Bool) → is_selected m c.registers.code ≡ taken → t.after ≡ mid c c.registers (all_writes (t ∷ [])) (cond taken target (wrapping_add64 (step_address L k) size)) → Runs L k c (t ∷ rest)
one_taken L k m j target size none step there next c t rest i u e true sel at =
    let y = core_after_writes (all_writes (t ∷ [])) c in
    done L k c [] c.registers (step_address L k) (λ r. Branch m target) size t rest j y i u (e ∙ ap Executed (sym (none y))) (at ∙ ap (λ q. mid c c.registers (all_writes (t ∷ [])) q) there) (λ out. u.is_loaded) (step c true sel y refl)
one_taken L k m j target size none step there next c t rest i u e false sel at =
    let y = core_after_writes (all_writes (t ∷ [])) c in
    done L k c [] c.registers (step_address L k) (λ r. Branch m target) size t rest (suc k) y i u (e ∙ ap Executed (sym (none y))) (at ∙ ap (λ q. mid c c.registers (all_writes (t ∷ [])) q) next) (λ out. u.is_loaded) (step c false sel y refl)

one_branch_runs : (L : Layout) (k m j target size : ℕ) → ((y : Core) → typed_store_event L k y ≡ None) → AsBranch L k m j → RowAt L (step_address L k) (λ r. Branch m target) size → target ≡ step_address L j → wrapping_add64 (step_address L k) size ≡ step_address L (suc k) → InStep L k (step_address L k) → StepRuns L k
one_branch_runs L k m j target size none step row there next here c is_loaded =
    let i = at_start L k c here is_loaded in
    branch L k c [] c.registers (step_address L k) (λ r. Branch m target) size m target i row refl (λ t rest u e at run.
    one_taken L k m j target size none step there next c t rest i u e (is_selected m c.registers.code) refl at)

-- the second target is the next step: the branch under the mask to the first one is left
first_place : (t : Bool) (a b n : ℕ) → b ≡ n → cond t (At a) (At n) ≡ At (cond t a b)
first_place true a b n e = refl
first_place false a b n e = ap (λ j. At j) (sym e)

first_step_of : (L : Layout) (k mask a b : ℕ) → kind_at L k ≡ Some (Chooses mask a b) → L.first_step b ≡ suc k → AsBranch L k mask (L.first_step a)
first_step_of L k mask a b is second c taken sel x same =
    subst (λ f. KindStep L f k x (cond taken (At (L.first_step a)) (At (suc k))) x) (sym is) (
      first_place taken (L.first_step a) (L.first_step b) (suc k) second
          ∙ ap (λ t. At (cond t (L.first_step a) (L.first_step b))) (sym sel ∙ ap (λ (r : Registers). is_selected mask r.code) (sym same)),
      refl,
    )

pub first_alone_runs : (L : Layout) (k mask a b size : ℕ) → kind_at L k ≡ Some (Chooses mask a b) → L.first_step b ≡ suc k → RowAt L (step_address L k) (λ r. Branch mask (block_address L a)) size → block_address L a ≡ step_address L (L.first_step a) →
    wrapping_add64 (step_address L k) size ≡ step_address L (suc k) → InStep L k (step_address L k) → StepRuns L k
first_alone_runs L k mask a b size is second row there next here =
    one_branch_runs L k mask (L.first_step a) (block_address L a) size (stores_none L k (Chooses mask a b) (λ z. refl) is) (first_step_of L k mask a b is second) row there next here

-- the first target is the next step: the branch under the inverse mask to the second one is left
second_place : (t : Bool) (a b n : ℕ) → a ≡ n → cond (not t) (At b) (At n) ≡ At (cond t a b)
second_place true a b n e = ap (λ j. At j) (sym e)
second_place false a b n e = refl

second_step_of : (L : Layout) (k mask a b : ℕ) → mask < 16 → kind_at L k ≡ Some (Chooses mask a b) → L.first_step a ≡ suc k → AsBranch L k (15 - mask) (L.first_step b)
second_step_of L k mask a b lt is first c taken sel x same =
    let inverse : taken ≡ not (is_selected mask x.registers.code) = sym sel ∙ ap (λ (r : Registers). is_selected (15 - mask) r.code) (sym same) ∙ inverts mask lt x.registers.code in
    subst (λ f. KindStep L f k x (cond taken (At (L.first_step b)) (At (suc k))) x) (sym is) (
      ap (λ t. cond t (At (L.first_step b)) (At (suc k))) inverse
          ∙ second_place (is_selected mask x.registers.code) (L.first_step a) (L.first_step b) (suc k) first,
      refl,
    )

pub second_alone_runs : (L : Layout) (k mask a b size : ℕ) → mask < 16 → kind_at L k ≡ Some (Chooses mask a b) → L.first_step a ≡ suc k → RowAt L (step_address L k) (λ r. Branch (15 - mask) (block_address L b)) size → block_address L b ≡ step_address L (L.first_step b) →
    wrapping_add64 (step_address L k) size ≡ step_address L (suc k) → InStep L k (step_address L k) → StepRuns L k
second_alone_runs L k mask a b size lt is first row there next here =
    one_branch_runs L k (15 - mask) (L.first_step b) (block_address L b) size (stores_none L k (Chooses mask a b) (λ z. refl) is) (second_step_of L k mask a b lt is first) row there next here

-- ---- the step whose bytes stand at its place

shortened_row : {L : Layout} {k : ℕ} {s : Step} (x : StepAt L k s) (m a : ℕ) → step_parts s ≡ BranchPart m (ToBlock a) ∷ [] → m < 16 → IsBlock L a → RowAt L (step_address L k) (λ r. Branch m (block_address L a)) 6
unfolding length_of
shortened_row {L} {k} x m a parts lm known =
    let rows = stand_as x _ parts in
    brcl_at L x.image (L.offsets.step k) (step_even x) m (L.offsets.block a) lm (step_small x) (x.image.block_places a known).0 (x.image.block_places a known).1 rows.0

shortened_size : {L : Layout} {k : ℕ} {s : Step} (x : StepAt L k s) (m a : ℕ) → step_parts s ≡ BranchPart m (ToBlock a) ∷ [] → L.offsets.step (suc k) ≡ L.offsets.step k + 6
shortened_size x m a parts = size_as x _ parts

cut_size : {L : Layout} {k : ℕ} {s : Step} (x : StepAt L k s) → step_parts s ≡ [] → HasNoBytes L k
cut_size x parts = size_as x _ parts ∙ omega arith

pub shortened_runs : (L : Layout) (k : ℕ) (r : Remainder) (i : Inst) → StepAt L k (Shortened r i) → IsValidInstruction L i → LeadsOn L k r i → StepRuns L k
shortened_runs L k NothingLeft (Jump dest) x valid on = cut_jump_runs L k dest.0 (step_form x (GoesTo dest.0) refl) on (step_within x) (cut_size x refl)
shortened_runs L k NothingLeft (CondBr taken not_taken mask) x valid on =
    cut_choice_runs L k mask taken.0 not_taken.0 (step_form x (Chooses mask taken.0 not_taken.0) refl) on.0 on.1 (step_within x) (cut_size x refl)
shortened_runs L k (BranchLeft m b) (CondBr taken not_taken mask) x valid (inl on) =
    let parts : step_parts (Shortened (BranchLeft m b) (CondBr taken not_taken mask)) ≡ BranchPart mask (ToBlock taken.0) ∷ [] = ap₂ (λ n t. BranchPart n (ToBlock t) ∷ []) on.0 on.1 in
    let size = shortened_size x mask taken.0 parts in
    first_alone_runs L k mask taken.0 not_taken.0 6 (step_form x (Chooses mask taken.0 not_taken.0) refl) on.2 (shortened_row x mask taken.0 parts (small_mask mask valid.2) valid.0)
    (block_begins L x.image taken.0 valid.0) (next_place L k 6 size) (inside_first L k 6 size (omega arith))
shortened_runs L k (BranchLeft m b) (CondBr taken not_taken mask) x valid (inr on) =
    let inverse = 15 - mask in
    let parts : step_parts (Shortened (BranchLeft m b) (CondBr taken not_taken mask)) ≡ BranchPart inverse (ToBlock not_taken.0) ∷ [] = ap₂ (λ n t. BranchPart n (ToBlock t) ∷ []) on.0 on.1 in
    let size = shortened_size x inverse not_taken.0 parts in
    second_alone_runs L k mask taken.0 not_taken.0 6 (small_mask mask valid.2) (step_form x (Chooses mask taken.0 not_taken.0) refl) on.2 (shortened_row x inverse not_taken.0 parts (omega arith) valid.1)
    (block_begins L x.image not_taken.0 valid.1) (next_place L k 6 size) (inside_first L k 6 size (omega arith))
shortened_runs L k r i x valid on = absurd on
