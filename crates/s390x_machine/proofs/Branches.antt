-- Steps that are branches.
use Rattle.std.proofs.Common.{◌≡◌, ℕ, zero, suc, ◌+◌, inl, inr, ◌⊎◌, List, [], ◌∷◌, ◌++◌, Some, None, Bool, true, false, cond, ◌==◌, refl, sym, ap, ◌∙◌, subst, arith, slice_get, eqb-true}
use Rattle.s390x_base.specs.declared.ir.MachLabel.{MachLabel}
use Rattle.s390x_operations.specs.State.{Registers, Core, core_after_writes, wrapping_add64}
use Rattle.s390x_operations.specs.Effects.{is_selected}
use Rattle.s390x_operations.specs.declared.stop.ConditionCode.{ConditionCode}
use Rattle.s390x_operations.specs.declared.stop.ConditionCode.TheVariants.{Code0}
use Rattle.s390x_machine.specs.declared.action_type.Action.{Action}
use Rattle.s390x_machine.specs.declared.action_type.Action.TheVariants.{Branch}
use Rattle.s390x_machine.specs.Machine.{Executed, Transition, Run, all_writes}
use Rattle.s390x_machine.specs.StepKinds.{StepKind, GoesTo, Chooses, GoesByAddress, Leads, Returns, TailCalls}
use Rattle.s390x_machine.specs.Typed.{Returned, TailCalled, At, Ended, IsTarget, KindStep, KindWrong, TypedStep, kind_at, store_event_of_kind, typed_store_event}
use Rattle.s390x_machine.specs.Match.{start}
use Rattle.s390x_machine.specs.OneStep.{Runs, stuck, Loses, StepRuns}
use Rattle.s390x_machine.specs.Layout.{Layout, step_address, block_address, InStep}
use Rattle.s390x_machine.specs.CodeAt.{ImageAt, IsBlock, AreBlocks}
use Rattle.s390x_machine.proofs.Simulation.{RowAt, mid, Inside, Simulates, at_start, Turned, further, resume, branch, done, ended}
use Rattle.s390x_machine.proofs.Standing.{block_begins}

pub selected_always : (code : ConditionCode) → is_selected 15 code ≡ true
selected_always Code0 = refl
selected_always code = refl

-- a step of this form stores nothing
pub stores_none : (L : Layout) (k : ℕ) (f : StepKind) → ((y : Core) → store_event_of_kind (Some f) y ≡ None) → kind_at L k ≡ Some f → (y : Core) → typed_store_event L k y ≡ None
stores_none L k f none is y = ap (λ o. store_event_of_kind o y) is ∙ none y

-- a branch that is always taken, at the end of a step
pub jumps : (L : Layout) (k : ℕ) (c : Core) (g : List Transition) (r : Registers) (p j : ℕ) (act : Registers → Action) (size target : ℕ) → Inside L k c g r p → RowAt L p act size → act r ≡ Branch 15 target → target ≡ step_address L j → ((y : Core) → typed_store_event L k y ≡ None) →
    ((h : List Transition) → TypedStep L k (core_after_writes (all_writes h) c) (At j) (mid c r (all_writes h) 0).core) → Simulates L k c g r p
jumps L k c g r p j act size target i row does there none step =
    branch L k c g r p act size 15 target i row does (λ t rest u e lands run.
    let x = (mid c r (all_writes (g ++ t ∷ [])) 0).core in
    let at : t.after ≡ start L j x = lands ∙ ap (λ b. mid c r (all_writes (g ++ t ∷ [])) (cond b target (wrapping_add64 p size))) (selected_always r.code) ∙ ap (λ q. mid c r (all_writes (g ++ t ∷ [])) q) there in
    done L k c g r p act size t rest j x i u (e ∙ ap Executed (sym (none _))) at (λ out. u.is_loaded) (step (g ++ t ∷ [])))

pub jump_runs : (L : Layout) (k b : ℕ) (act : Registers → Action) (size target : ℕ) → kind_at L k ≡ Some (GoesTo b) → RowAt L (step_address L k) act size → ((r : Registers) → act r ≡ Branch 15 target) → target ≡ step_address L (L.first_step b) → InStep L k (step_address L k) → StepRuns L k
jump_runs L k b act size target is row does there here c is_loaded =
    jumps L k c [] c.registers (step_address L k) (L.first_step b) act size target (at_start L k c here is_loaded) row (does c.registers) there (stores_none L k (GoesTo b) (λ y. refl) is) (λ h.
    subst (λ f. KindStep L f k (core_after_writes (all_writes h) c) (At (L.first_step b)) (core_after_writes (all_writes h) c)) (sym is) (refl, refl))

-- ---- one branch, or else the other

choose_step : (L : Layout) (k mask a b : ℕ) → kind_at L k ≡ Some (Chooses mask a b) → (c : Core) (taken : Bool) → is_selected mask c.registers.code ≡ taken → (h : List Transition) →
    TypedStep L k (core_after_writes (all_writes h) c) (At (cond taken (L.first_step a) (L.first_step b))) (core_after_writes (all_writes h) c)
choose_step L k mask a b is c taken e h =
    subst (λ f. KindStep L f k (core_after_writes (all_writes h) c) (At (cond taken (L.first_step a) (L.first_step b))) (core_after_writes (all_writes h) c)) (sym is) (ap (λ t. At (cond t (L.first_step a) (L.first_step b))) (sym e), refl)

-- the two rows of such a step
pub record TwoBranches (L : Layout) (k mask a b : ℕ) : Type 0 where
  pub size : ℕ
  pub second_size : ℕ
  pub first : RowAt L (step_address L k) (λ r. Branch mask (block_address L a)) size
  pub second : RowAt L (wrapping_add64 (step_address L k) size) (λ r. Branch 15 (block_address L b)) second_size
  pub here : InStep L k (step_address L k)
  pub here_second : InStep L k (wrapping_add64 (step_address L k) size)
  pub first_target : block_address L a ≡ step_address L (L.first_step a)
  pub second_target : block_address L b ≡ step_address L (L.first_step b)

chosen : (L : Layout) (k mask a b : ℕ) → kind_at L k ≡ Some (Chooses mask a b) → (two : TwoBranches L k mask a b) → (c : Core) (t : Transition) (rest : List Transition) → Inside L k c [] c.registers (step_address L k) → Turned L c [] c.registers (step_address L k) (λ r. Branch mask (block_address L a)) two.size t →
    t.event ≡ Executed None → (taken : Bool) → is_selected mask c.registers.code ≡ taken → t.after ≡ mid c c.registers (all_writes (t ∷ [])) (cond taken (block_address L a) (wrapping_add64 (step_address L k) two.size)) → Run L.image t.after rest → Runs L k c (t ∷ rest)
chosen L k mask a b is two c t rest i u e true sel lands run =
    let y = core_after_writes (all_writes (t ∷ [])) c in
    let at : t.after ≡ start L (L.first_step a) y = lands ∙ ap (λ q. mid c c.registers (all_writes (t ∷ [])) q) two.first_target in
    done L k c [] c.registers (step_address L k) _ two.size t rest (L.first_step a) y i u (e ∙ ap Executed (sym (stores_none L k (Chooses mask a b) (λ z. refl) is y))) at (λ out. u.is_loaded) (choose_step L k mask a b is c true sel (t ∷ []))
chosen L k mask a b is two c t rest i u e false sel lands run =
    let p = wrapping_add64 (step_address L k) two.size in
    let i' : Inside L k c (t ∷ []) c.registers p = further L k c [] c.registers (step_address L k) _ two.size t c.registers p i u (omega arith) two.here_second e lands in
    resume L k c [] t c.registers p rest lands run
    (jumps L k c (t ∷ []) c.registers p (L.first_step b) (λ r. Branch 15 (block_address L b)) two.second_size (block_address L b) i' two.second refl two.second_target (stores_none L k (Chooses mask a b) (λ z. refl) is) (choose_step L k mask a b is c false sel))

pub choose_runs : (L : Layout) (k mask a b : ℕ) → kind_at L k ≡ Some (Chooses mask a b) → TwoBranches L k mask a b → StepRuns L k
choose_runs L k mask a b is two c is_loaded =
    let i = at_start L k c two.here is_loaded in
    branch L k c [] c.registers (step_address L k) (λ r. Branch mask (block_address L a)) two.size mask (block_address L a) i two.first refl (λ t rest u e lands run.
    chosen L k mask a b is two c t rest i u e (is_selected mask c.registers.code) refl lands run)

-- ---- the branches of a loop

leads_step : (L : Layout) (k mask j : ℕ) → kind_at L k ≡ Some (Leads mask j) → (c : Core) (taken : Bool) → is_selected mask c.registers.code ≡ taken → (x : Core) → x.registers ≡ c.registers → TypedStep L k x (cond taken (At j) (At (suc k))) x
leads_step L k mask j is c taken e x same =
    subst (λ f. KindStep L f k x (cond taken (At j) (At (suc k))) x) (sym is) (ap (λ b. cond b (At j) (At (suc k))) (sym e) ∙ ap (λ (r : Registers). cond (is_selected mask r.code) (At j) (At (suc k))) (sym same), refl)

led : (L : Layout) (k mask j target size : ℕ) (act : Registers → Action) → kind_at L k ≡ Some (Leads mask j) → target ≡ step_address L j → wrapping_add64 (step_address L k) size ≡ step_address L (suc k) → (c : Core) (t : Transition) (rest : List Transition) → Inside L k c [] c.registers (step_address L k) →
    Turned L c [] c.registers (step_address L k) act size t → t.event ≡ Executed None → (taken : Bool) → is_selected mask c.registers.code ≡ taken → t.after ≡ mid c c.registers (all_writes (t ∷ [])) (cond taken target (wrapping_add64 (step_address L k) size)) → Runs L k c (t ∷ rest)
led L k mask j target size act is there next c t rest i u e true sel at =
    let y = core_after_writes (all_writes (t ∷ [])) c in
    done L k c [] c.registers (step_address L k) act size t rest j y i u (e ∙ ap Executed (sym (stores_none L k (Leads mask j) (λ z. refl) is y))) (at ∙ ap (λ q. mid c c.registers (all_writes (t ∷ [])) q) there) (λ out. u.is_loaded) (leads_step L k mask j is c true sel y refl)
led L k mask j target size act is there next c t rest i u e false sel at =
    let y = core_after_writes (all_writes (t ∷ [])) c in
    done L k c [] c.registers (step_address L k) act size t rest (suc k) y i u (e ∙ ap Executed (sym (stores_none L k (Leads mask j) (λ z. refl) is y))) (at ∙ ap (λ q. mid c c.registers (all_writes (t ∷ [])) q) next) (λ out. u.is_loaded) (leads_step L k mask j is c false sel y refl)

pub leads_runs : (L : Layout) (k mask j size : ℕ) → kind_at L k ≡ Some (Leads mask j) → RowAt L (step_address L k) (λ r. Branch mask (step_address L j)) size → wrapping_add64 (step_address L k) size ≡ step_address L (suc k) → InStep L k (step_address L k) → StepRuns L k
leads_runs L k mask j size is row next here c is_loaded =
    let i = at_start L k c here is_loaded in
    branch L k c [] c.registers (step_address L k) (λ r. Branch mask (step_address L j)) size mask (step_address L j) i row refl (λ t rest u e at run.
    led L k mask j (step_address L j) size (λ r. Branch mask (step_address L j)) is refl next c t rest i u e (is_selected mask c.registers.code) refl at)

-- ---- a return, and a tail call

pub returns_runs : (L : Layout) (k n size : ℕ) → kind_at L k ≡ Some (Returns n) → RowAt L (step_address L k) (λ r. Branch 15 (r.general n)) size → InStep L k (step_address L k) → StepRuns L k
returns_runs L k n size is row here c is_loaded =
    branch L k c [] c.registers (step_address L k) (λ r. Branch 15 (r.general n)) size 15 (c.registers.general n) (at_start L k c here is_loaded) row refl (λ t rest u e lands run.
    let x = core_after_writes (all_writes (t ∷ [])) c in
    let target = c.registers.general n in
    ended L k c (t ∷ []) rest (Returned target) x (omega arith) (e, tt) (omega arith) (subst (λ f. KindStep L f k x (Ended (Returned target)) x) (sym is) (refl, refl))
    (lands ∙ ap (λ b. mid c c.registers (all_writes (t ∷ [])) (cond b target (wrapping_add64 (step_address L k) size))) (selected_always c.registers.code)))

pub tail_runs : (L : Layout) (k size : ℕ) (target : Registers → ℕ) → kind_at L k ≡ Some (TailCalls target) → RowAt L (step_address L k) (λ r. Branch 15 (target r)) size → InStep L k (step_address L k) → StepRuns L k
tail_runs L k size target is row here c is_loaded =
    let to = target c.registers in
    branch L k c [] c.registers (step_address L k) (λ r. Branch 15 (target r)) size 15 to (at_start L k c here is_loaded) row refl (λ t rest u e lands run.
    let x = core_after_writes (all_writes (t ∷ [])) c in
    ended L k c (t ∷ []) rest (TailCalled to) x (omega arith) (e, tt) (omega arith) (subst (λ f. KindStep L f k x (Ended (TailCalled to)) x) (sym is) (refl, refl))
    (lands ∙ ap (λ b. mid c c.registers (all_writes (t ∷ [])) (cond b to (wrapping_add64 (step_address L k) size))) (selected_always c.registers.code)))

-- ---- a branch to the address in a register

-- the address is that of a listed block, or of none
abbrev Search : Layout → List MachLabel → ℕ → Type 0
Search L targets held = ((b : ℕ) × IsTarget L targets held b × IsBlock L b) ⊎ ((b : ℕ) → IsTarget L targets held b → ⊥)

later_target : (L : Layout) (l : MachLabel) (ls : List MachLabel) (held b : ℕ) → IsTarget L ls held b → IsTarget L (l ∷ ls) held b
later_target L l ls held b t = record { index = suc t.index; label = t.label; listed = t.listed; number = t.number; address = t.address }

first_or_later : (L : Layout) (l : MachLabel) (ls : List MachLabel) (held b : ℕ) → IsTarget L (l ∷ ls) held b → (held ≡ block_address L l.0) ⊎ IsTarget L ls held b
first_or_later L l ls held b t = go t.index t.listed
  where
    go : (i : ℕ) → slice_get (l ∷ ls) i ≡ Some t.label → (held ≡ block_address L l.0) ⊎ IsTarget L ls held b
    go zero e = let same : l ≡ t.label = cc in inl (t.address ∙ ap (λ n. block_address L n) (sym t.number ∙ ap (λ (x : MachLabel). x.0) (sym same)))
    go (suc i) e = inr (record { index = i; label = t.label; listed = e; number = t.number; address = t.address })

search_targets : (L : Layout) (targets : List MachLabel) (held : ℕ) → AreBlocks L targets → Search L targets held
search_targets L [] held are = inr (λ b t. none t.index t.label t.listed)
  where
    none : (i : ℕ) (l : MachLabel) → slice_get [] i ≡ Some l → ⊥
    none zero l e = absurd (cc)
    none (suc i) l e = absurd (cc)
search_targets L (l ∷ ls) held are = go (held == block_address L l.0) refl (search_targets L ls held are.1)
  where
    same_eq : (a b : ℕ) → a ≡ b → (a == b) ≡ true
    same_eq a b h = grind arith

    go : (n : Bool) → (held == block_address L l.0) ≡ n → Search L ls held → Search L (l ∷ ls) held
    go true e rest = inl (l.0, record { index = 0; label = l; listed = refl; number = refl; address = eqb-true held (block_address L l.0) e }, are.0)
    go false e (inl (b, t, is)) = inl (b, later_target L l ls held b t, is)
    go false e (inr none) = inr (λ b t. elim (first_or_later L l ls held b t) [
      | inl same ↦ Rattle.std.proofs.Common.true≢false (sym (same_eq held (block_address L l.0) same) ∙ e)
      | inr later ↦ none b later
    ])

pub address_runs : (L : Layout) → ImageAt L → (k n size : ℕ) (targets : List MachLabel) → kind_at L k ≡ Some (GoesByAddress n targets) → AreBlocks L targets → RowAt L (step_address L k) (λ r. Branch 15 (r.general n)) size → InStep L k (step_address L k) → StepRuns L k
address_runs L image k n size targets is are row here c is_loaded = go (search_targets L targets (c.registers.general n) are)
  where
    go : Search L targets (c.registers.general n) → (trace : List Transition) → Run L.image (start L k c) trace → Runs L k c trace
    go (inl (b, t, known)) =
        jumps L k c [] c.registers (step_address L k) (L.first_step b) (λ r. Branch 15 (r.general n)) size (c.registers.general n) (at_start L k c here is_loaded) row refl (t.address ∙ block_begins L image b known) (stores_none L k (GoesByAddress n targets) (λ y. refl) is) (λ h.
        subst (λ f. KindStep L f k (core_after_writes (all_writes h) c) (At (L.first_step b)) (core_after_writes (all_writes h) c)) (sym is) (b, t, refl, refl))
    go (inr none) = λ trace run. stuck (subst (λ f. KindWrong L f c) (sym is) none) (subst Loses (sym is) tt)
