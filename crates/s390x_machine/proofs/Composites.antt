-- Steps of several rows, and steps that end a run.
use Rattle.std.proofs.Common.{◌≡◌, ℕ, suc, ◌≤◌, inl, inr, List, [], ◌∷◌, ◌++◌, length, Option, Some, None, Bool, true, false, cond, not, IsTrue, refl, sym, ap, ◌∙◌, subst, arith, length-append}
use Rattle.s390x_base.specs.declared.trap.TrapKind.{TrapKind}
use Rattle.s390x_lanes.specs.declared.operators.Signedness.{Signedness}
use Rattle.s390x_operations.specs.State.{Registers, Memory, Core, State, CodeImage, with_code, set_general, Write, core_after_writes, wrapping_add64, IsLoaded, is_within, after_store}
use Rattle.s390x_operations.specs.Access.{Untouched, fault, store_event}
use Rattle.s390x_operations.specs.Values.{value, operand_value}
use Rattle.s390x_operations.specs.Effects.{access, stop_of_effect, MayRefuse, is_selected, MayExecute, set_sized}
use Rattle.s390x_operations.specs.declared.size.Size.{Size}
use Rattle.s390x_operations.specs.declared.size.Width.{Width}
use Rattle.s390x_operations.specs.declared.operand.Source.TheVariants.{Value}
use Rattle.s390x_operations.specs.declared.operator.Operator.{Operator}
use Rattle.s390x_operations.specs.declared.effect.Effect.TheVariants.{Compute}
use Rattle.s390x_operations.specs.declared.effect.CodeRule.TheVariants.{Kept}
use Rattle.s390x_operations.specs.declared.effect.Operation.{Operation}
use Rattle.s390x_operations.specs.declared.stop.StopKind.{StopKind}
use Rattle.s390x_operations.specs.declared.stop.StopKind.TheVariants.{Operation as OperationStop}
use Rattle.s390x_machine.specs.declared.action_type.Action.{Action}
use Rattle.s390x_machine.specs.declared.action_type.Action.TheVariants.{Perform, Branch, BranchAndSave}
use Rattle.s390x_machine.specs.Machine.{Event, Executed, Interrupted, ActionStep, MachineStep, Transition, after_writes, Run, after_all, all_writes}
use Rattle.s390x_machine.specs.StepKinds.{PerformsWhere, TrapsAlways, TrapsWhere, DebugStops, Calls}
use Rattle.s390x_machine.specs.Computations.{with_rule}
use Rattle.s390x_machine.specs.Typed.{Ending, Trapped, DebugStopped, Called, At, Ended, KindStep, WhereStep, TypedStep, kind_at, typed_store_event}
use Rattle.s390x_machine.specs.Codes.{trap_code_at}
use Rattle.s390x_machine.specs.Match.{EndsAt, start, EndsMatch}
use Rattle.s390x_machine.specs.OneStep.{Runs, StepRuns}
use Rattle.s390x_machine.specs.Layout.{Layout, step_address, InStep}
use Rattle.s390x_machine.proofs.Frame.{lies_written}
use Rattle.s390x_machine.proofs.Simulation.{RowAt, mid, Inside, Simulates, at_start, peel, Turned, turned, further, resume, branch, done, ended, inside_lands, DoesAs, acts_as}
use Rattle.s390x_machine.proofs.Branches.{stores_none}

-- ---- a row that changes registers, and what follows it

-- a row at a place changes registers, and neither stores nor stops
abbrev pub ChangesTo : Action → ℕ → Registers → ℕ → Registers → Type 0
ChangesTo a size r p r' = (m : Memory) (event : Event) (t : State) → ActionStep a size (record { core = record { registers = r; memory = m }; address = p }) event t →
    (event ≡ Executed None) × (t ≡ record { core = record { registers = r'; memory = m }; address = wrapping_add64 p size })

-- the same, where an image lies in memory
abbrev pub ChangesOver : CodeImage → Action → ℕ → Registers → ℕ → Registers → Type 0
ChangesOver image a size r p r' = (m : Memory) (event : Event) (t : State) → IsLoaded image m → ActionStep a size (record { core = record { registers = r; memory = m }; address = p }) event t →
    (event ≡ Executed None) × (t ≡ record { core = record { registers = r'; memory = m }; address = wrapping_add64 p size })

pub row_over_then : (L : Layout) (k : ℕ) (c : Core) (g : List Transition) (r : Registers) (p : ℕ) (act : Registers → Action) (size : ℕ) (r' : Registers) → Inside L k c g r p → length g ≤ 2 → InStep L k (wrapping_add64 p size) → RowAt L p act size → ChangesOver L.image (act r) size r p r' →
    ((h : List Transition) → length h ≡ suc (length g) → Inside L k c h r' (wrapping_add64 p size) → Simulates L k c h r' (wrapping_add64 p size)) → Simulates L k c g r p
row_over_then L k c g r p act size r' i few here row changes go =
    peel L k c g r p i (λ t s rest run.
    let u = turned L k c g r p act size t i row s in
    let m = changes (core_after_writes (all_writes (g ++ t ∷ [])) c).memory t.event t.after u.is_loaded u.acts in
    resume L k c g t r' (wrapping_add64 p size) rest m.1 run (go (g ++ t ∷ []) (omega (arith, length-append g (t ∷ []))) (further L k c g r p act size t r' (wrapping_add64 p size) i u few here m.0 m.1)))

-- the same of the last row of a step
pub row_over_last : (L : Layout) (k : ℕ) (c : Core) (g : List Transition) (r : Registers) (p : ℕ) (act : Registers → Action) (size : ℕ) (r' : Registers) (j : ℕ) → Inside L k c g r p → RowAt L p act size → ChangesOver L.image (act r) size r p r' → wrapping_add64 p size ≡ step_address L j → ((y : Core) → typed_store_event L k y ≡ None) →
    ((h : List Transition) → TypedStep L k (core_after_writes (all_writes h) c) (At j) (mid c r' (all_writes h) 0).core) → Simulates L k c g r p
row_over_last L k c g r p act size r' j i row changes next none step =
    peel L k c g r p i (λ t s rest run.
    let h = g ++ t ∷ [] in
    let u = turned L k c g r p act size t i row s in
    let m = changes (core_after_writes (all_writes h) c).memory t.event t.after u.is_loaded u.acts in
    done L k c g r p act size t rest j (mid c r' (all_writes h) 0).core i u (m.0 ∙ ap Executed (sym (none (core_after_writes (all_writes h) c)))) (m.1 ∙ ap (λ q. mid c r' (all_writes h) q) next) (λ out. u.is_loaded) (step h))

pub row_then : (L : Layout) (k : ℕ) (c : Core) (g : List Transition) (r : Registers) (p : ℕ) (act : Registers → Action) (size : ℕ) (r' : Registers) → Inside L k c g r p → length g ≤ 2 → InStep L k (wrapping_add64 p size) → RowAt L p act size → ChangesTo (act r) size r p r' →
    ((h : List Transition) → length h ≡ suc (length g) → Inside L k c h r' (wrapping_add64 p size) → Simulates L k c h r' (wrapping_add64 p size)) → Simulates L k c g r p
row_then L k c g r p act size r' i few here row changes go = row_over_then L k c g r p act size r' i few here row (λ m event t is_loaded. changes m event t) go

-- an operator on values that leaves the condition code
pub compute_changes : (operator : Operator) (size : Size) (d x y : ℕ) (width : Width) (sign : Signedness) (backwards : Bool) (bytes p : ℕ) (r : Registers) (m : Memory) →
    ChangesTo (Perform (with_rule Kept (Compute operator size d x (record { source = Value y; width = width; sign = sign; reversed = backwards })))) bytes r p (set_sized size r d (value operator size x (operand_value size (record { source = Value y; width = width; sign = sign; reversed = backwards }) m)))
compute_changes operator size d x y width sign backwards bytes p r m' m (Executed e) t h =
    (ap Executed h.2, λ i. record { core = record { registers = (h.0.results ∙ ap (λ code. with_code code (set_sized size r d (value operator size x (operand_value size (record { source = Value y; width = width; sign = sign; reversed = backwards }) m)))) h.0.code) i; memory = h.0.memory i }; address = h.1 i })
compute_changes operator size d x y width sign backwards bytes p r m' m (Interrupted kind) t (inl e, same) = absurd (cc)
compute_changes operator size d x y width sign backwards bytes p r m' m (Interrupted kind) t (inr (e, inl f), same) = absurd (cc)
compute_changes operator size d x y width sign backwards bytes p r m' m (Interrupted kind) t (inr (e, inr f), same) = absurd f

-- ---- an operation that is skipped

-- an operation on registers alone, which can't stop, goes and stores nothing
pub register_executes : (op : Operation) (size : ℕ) (s : State) (event : Event) (t : State) → access op.effect ≡ Untouched → stop_of_effect op.effect ≡ None → ((kind : StopKind) → MayRefuse op.effect kind → ⊥) → ActionStep (Perform op) size s event t → (event ≡ Executed None) × MayExecute op s.core t.core × (t.address ≡ wrapping_add64 s.address size)
register_executes op size s (Executed x) t a n f h = (ap Executed (h.2 ∙ ap (λ y. store_event y s.core.memory) a), h.0, h.1)
register_executes op size s (Interrupted kind) t a n f (inl e, same) = let none : fault (access op.effect) s.core.memory.has ≡ None = ap (λ y. fault y s.core.memory.has) a in absurd (cc)
register_executes op size s (Interrupted kind) t a n f (inr (e, inl r), same) = absurd (cc)
register_executes op size s (Interrupted kind) t a n f (inr (e, inr y), same) = absurd (f kind y)

-- a branch over a row: the row is done where the mask selects the condition code
pub record Skipping (L : Layout) (k mask : ℕ) (operation : Registers → Operation) : Type 0 where
  pub inverse : ℕ
  pub size : ℕ
  pub row_size : ℕ
  pub act : Registers → Action
  pub branch_row : RowAt L (step_address L k) (λ r. Branch inverse (step_address L (suc k))) size
  pub row : RowAt L (wrapping_add64 (step_address L k) size) act row_size
  pub here : InStep L k (step_address L k)
  pub here_row : InStep L k (wrapping_add64 (step_address L k) size)
  pub next : wrapping_add64 (wrapping_add64 (step_address L k) size) row_size ≡ step_address L (suc k)
  pub inverts : (r : Registers) → is_selected inverse r.code ≡ not (is_selected mask r.code)
  pub does : (r : Registers) → DoesAs (act r) (operation r)
  pub untouched : (r : Registers) → access (operation r).effect ≡ Untouched
  pub never_refused : (r : Registers) → stop_of_effect (operation r).effect ≡ None
  pub never_stops : (r : Registers) (kind : StopKind) → MayRefuse (operation r).effect kind → ⊥

skipped : (L : Layout) (k mask : ℕ) (operation : Registers → Operation) → kind_at L k ≡ Some (PerformsWhere mask operation) → (s : Skipping L k mask operation) → (c : Core) (t : Transition) (rest : List Transition) → Inside L k c [] c.registers (step_address L k) →
    Turned L c [] c.registers (step_address L k) (λ r. Branch s.inverse (step_address L (suc k))) s.size t → t.event ≡ Executed None → (moved : Bool) → is_selected mask c.registers.code ≡ moved → t.after ≡ mid c c.registers (all_writes (t ∷ [])) (cond (not moved) (step_address L (suc k)) (wrapping_add64 (step_address L k) s.size)) → Run L.image t.after rest → Runs L k c (t ∷ rest)
skipped L k mask operation is s c t rest i u e false sel at run =
    let y = core_after_writes (all_writes (t ∷ [])) c in
    let step : TypedStep L k y (At (suc k)) y = subst (λ f. KindStep L f k y (At (suc k)) y) (sym is) (subst (λ m. WhereStep m (operation c.registers) k y (At (suc k)) y) (sym sel) (refl, refl)) in
    done L k c [] c.registers (step_address L k) _ s.size t rest (suc k) y i u (e ∙ ap Executed (sym (stores_none L k (PerformsWhere mask operation) (λ z. refl) is y))) at (λ out. u.is_loaded) step
skipped L k mask operation is s c t rest i u e true sel at run =
    let p = wrapping_add64 (step_address L k) s.size in
    let r = c.registers in
    let i2 : Inside L k c (t ∷ []) r p = further L k c [] r (step_address L k) _ s.size t r p i u (omega arith) s.here_row e at in
    resume L k c [] t r p rest at run
    (peel L k c (t ∷ []) r p i2 (λ t2 s2 rest2 run2.
    let u2 = turned L k c (t ∷ []) r p s.act s.row_size t2 i2 s.row s2 in
    let y = core_after_writes (all_writes (t ∷ t2 ∷ [])) c in
    let w = register_executes (operation r) s.row_size (mid c r (all_writes (t ∷ t2 ∷ [])) p) t2.event t2.after (s.untouched r) (s.never_refused r) (s.never_stops r) (acts_as (s.act r) (operation r) s.row_size (mid c r (all_writes (t ∷ t2 ∷ [])) p) t2.event t2.after (s.does r) u2.acts) in
    let step : TypedStep L k y (At (suc k)) t2.after.core = subst (λ f. KindStep L f k y (At (suc k)) t2.after.core) (sym is) (subst (λ m. WhereStep m (operation r) k y (At (suc k)) t2.after.core) (sym sel) (refl, w.1)) in
    let memory : t2.after.core.memory ≡ y.memory = w.1.memory ∙ ap (λ a. after_store (store_event a y.memory) y.memory) (s.untouched r) in
    done L k c (t ∷ []) r p s.act s.row_size t2 rest2 (suc k) t2.after.core i2 u2 (w.0 ∙ ap Executed (sym (stores_none L k (PerformsWhere mask operation) (λ z. refl) is y))) (λ j. record { core = t2.after.core; address = (w.2 ∙ s.next) j }) (λ out. subst (λ m. IsLoaded L.image m) (sym memory) u2.is_loaded) step))

pub where_runs : (L : Layout) (k mask : ℕ) (operation : Registers → Operation) → kind_at L k ≡ Some (PerformsWhere mask operation) → Skipping L k mask operation → StepRuns L k
where_runs L k mask operation is s c is_loaded =
    branch L k c [] c.registers (step_address L k) (λ r. Branch s.inverse (step_address L (suc k))) s.size s.inverse (step_address L (suc k)) (at_start L k c s.here is_loaded) s.branch_row refl (λ t rest u e at run.
    skipped L k mask operation is s c t rest (at_start L k c s.here is_loaded) u e (is_selected mask c.registers.code) refl (at ∙ ap (λ b. mid c c.registers (all_writes (t ∷ [])) (cond b (step_address L (suc k)) (wrapping_add64 (step_address L k) s.size))) (s.inverts c.registers)) run)

-- ---- traps

-- wherever the image lies in memory, the machine stops at this place of it by Operation, and the table has this code for it, if any
pub record StopsAt (L : Layout) (p : ℕ) (code : Option TrapKind) : Type 0 where
  pub stops : (s : State) → s.address ≡ p → IsLoaded L.image s.core.memory → (event : Event) (t : State) → MachineStep s event t → event ≡ Interrupted OperationStop
  pub within : IsTrue (is_within L.image p)
  pub with_code : trap_code_at L.image L.traps p OperationStop ≡ code

-- how a run ends at such a stop: by a trap, or where it has no code by a debug stop
abbrev stopped : Option TrapKind → Ending
stopped None = DebugStopped
stopped (Some n) = Trapped n

closes_there : (L : Layout) (code : Option TrapKind) (x : Core) (s : State) (t : Transition) (rest : List Transition) → s.core ≡ x → t.event ≡ Interrupted OperationStop → IsTrue (is_within L.image s.address) → trap_code_at L.image L.traps s.address OperationStop ≡ code → EndsMatch L (Ended (stopped code)) x s (t ∷ rest)
closes_there L None x s t rest same e within with_code = (same, (e, within, with_code))
closes_there L (Some n) x s t rest same e within with_code = (same, (OperationStop, e, with_code))

stops_inside : (L : Layout) (k : ℕ) (code : Option TrapKind) (g : List Transition) (s : State) → InStep L k s.address → EndsAt L k (stopped code) g s
stops_inside L k None g s here = here
stops_inside L k (Some n) g s here = here

stop_there : (L : Layout) (k : ℕ) (code : Option TrapKind) (c : Core) (g : List Transition) (p : ℕ) → Inside L k c g c.registers p → StopsAt L p code → ((h : List Transition) → TypedStep L k (core_after_writes (all_writes h) c) (Ended (stopped code)) (core_after_writes (all_writes h) c)) → Simulates L k c g c.registers p
stop_there L k code c g p i at step =
    peel L k c g c.registers p i (λ t s rest run.
    let l = lies_written L.image _ _ t.writes i.is_loaded s.may in
    let e = at.stops (after_writes (mid c c.registers (all_writes g) p) t) refl l t.event t.after s.goes in
    ended L k c g (t ∷ rest) (stopped code) (core_after_writes (all_writes g) c) (omega (arith, i.few)) i.quiet (stops_inside L k code g (after_all (start L k c) g) (inside_lands i)) (step g)
    (closes_there L code (core_after_writes (all_writes g) c) (after_all (start L k c) g) t rest (ap (λ (x : State). x.core) i.lands) e (subst (λ (x : State). IsTrue (is_within L.image x.address)) (sym i.lands) at.within) (subst (λ (x : State). trap_code_at L.image L.traps x.address OperationStop ≡ code) (sym i.lands) at.with_code)))

pub trap_runs : (L : Layout) (k : ℕ) (code : TrapKind) → kind_at L k ≡ Some (TrapsAlways code) → StopsAt L (step_address L k) (Some code) → InStep L k (step_address L k) → StepRuns L k
trap_runs L k code is at here c is_loaded =
    stop_there L k (Some code) c [] (step_address L k) (at_start L k c here is_loaded) at (λ h. subst (λ f. KindStep L f k (core_after_writes (all_writes h) c) (Ended (Trapped code)) (core_after_writes (all_writes h) c)) (sym is) (refl, refl))

pub debug_runs : (L : Layout) (k : ℕ) → kind_at L k ≡ Some DebugStops → StopsAt L (step_address L k) None → InStep L k (step_address L k) → StepRuns L k
debug_runs L k is at here c is_loaded =
    stop_there L k None c [] (step_address L k) (at_start L k c here is_loaded) at (λ h. subst (λ f. KindStep L f k (core_after_writes (all_writes h) c) (Ended DebugStopped) (core_after_writes (all_writes h) c)) (sym is) (refl, refl))

trap_step : (L : Layout) (k mask : ℕ) (code : TrapKind) → kind_at L k ≡ Some (TrapsWhere mask code) → (c : Core) (taken : Bool) → is_selected mask c.registers.code ≡ taken → (h : List Transition) → TypedStep L k (core_after_writes (all_writes h) c) (cond taken (Ended (Trapped code)) (At (suc k))) (core_after_writes (all_writes h) c)
trap_step L k mask code is c taken e h =
    subst (λ f. KindStep L f k (core_after_writes (all_writes h) c) (cond taken (Ended (Trapped code)) (At (suc k))) (core_after_writes (all_writes h) c)) (sym is) (ap (λ b. cond b (Ended (Trapped code)) (At (suc k))) (sym e), refl)

-- a branch into its own bytes, which are no instruction
pub record BranchesInto (L : Layout) (k mask : ℕ) (code : TrapKind) : Type 0 where
  pub size : ℕ
  pub target : ℕ
  pub row : RowAt L (step_address L k) (λ r. Branch mask target) size
  pub stops : StopsAt L target (Some code)
  pub here : InStep L k (step_address L k)
  pub here_target : InStep L k target
  pub next : wrapping_add64 (step_address L k) size ≡ step_address L (suc k)

trapped : (L : Layout) (k mask : ℕ) (code : TrapKind) → kind_at L k ≡ Some (TrapsWhere mask code) → (b : BranchesInto L k mask code) → (c : Core) (t : Transition) (rest : List Transition) → Inside L k c [] c.registers (step_address L k) → Turned L c [] c.registers (step_address L k) (λ r. Branch mask b.target) b.size t →
    t.event ≡ Executed None → (taken : Bool) → is_selected mask c.registers.code ≡ taken → t.after ≡ mid c c.registers (all_writes (t ∷ [])) (cond taken b.target (wrapping_add64 (step_address L k) b.size)) → Run L.image t.after rest → Runs L k c (t ∷ rest)
trapped L k mask code is b c t rest i u e false sel at run =
    let y = core_after_writes (all_writes (t ∷ [])) c in
    done L k c [] c.registers (step_address L k) _ b.size t rest (suc k) y i u (e ∙ ap Executed (sym (stores_none L k (TrapsWhere mask code) (λ z. refl) is y))) (at ∙ ap (λ q. mid c c.registers (all_writes (t ∷ [])) q) b.next) (λ out. u.is_loaded) (trap_step L k mask code is c false sel (t ∷ []))
trapped L k mask code is b c t rest i u e true sel at run =
    resume L k c [] t c.registers b.target rest at run
    (stop_there L k (Some code) c (t ∷ []) b.target (further L k c [] c.registers (step_address L k) _ b.size t c.registers b.target i u (omega arith) b.here_target e at) b.stops (trap_step L k mask code is c true sel))

pub trap_where_runs : (L : Layout) (k mask : ℕ) (code : TrapKind) → kind_at L k ≡ Some (TrapsWhere mask code) → BranchesInto L k mask code → StepRuns L k
trap_where_runs L k mask code is b c is_loaded =
    branch L k c [] c.registers (step_address L k) (λ r. Branch mask b.target) b.size mask b.target (at_start L k c b.here is_loaded) b.row refl (λ t rest u e at run.
    trapped L k mask code is b c t rest (at_start L k c b.here is_loaded) u e (is_selected mask c.registers.code) refl at run)

-- ---- calls

pub saves : (c : Core) (r : Registers) (ws : List Write) (p link target size : ℕ) (event : Event) (t : State) → ActionStep (BranchAndSave link target) size (mid c r ws p) event t → (event ≡ Executed None) × (t ≡ mid c (set_general r link (wrapping_add64 p size)) ws target)
saves c r ws p link target size (Executed x) t h = (ap Executed h.1, h.0)
saves c r ws p link target size (Interrupted kind) t h = absurd h

pub call_runs : (L : Layout) (k link size : ℕ) (target : Registers → ℕ) → kind_at L k ≡ Some (Calls link target) → RowAt L (step_address L k) (λ r. BranchAndSave link (target r)) size → wrapping_add64 (step_address L k) size ≡ step_address L (suc k) → InStep L k (step_address L k) → StepRuns L k
call_runs L k link size target is row next here c is_loaded =
    let i = at_start L k c here is_loaded in
    peel L k c [] c.registers (step_address L k) i (λ t s rest run.
    let u = turned L k c [] c.registers (step_address L k) (λ r. BranchAndSave link (target r)) size t i row s in
    let y = core_after_writes (all_writes (t ∷ [])) c in
    let x : Core = record { registers = set_general c.registers link (step_address L (suc k)); memory = y.memory } in
    let went = saves c c.registers (all_writes (t ∷ [])) (step_address L k) link (target c.registers) size t.event t.after u.acts in
    let at = went.1 ∙ ap (λ q. mid c (set_general c.registers link q) (all_writes (t ∷ [])) (target c.registers)) next in
    ended L k c (t ∷ []) rest (Called (target c.registers)) x (omega arith) (went.0, tt) (omega arith) (subst (λ f. KindStep L f k y (Ended (Called (target c.registers))) x) (sym is) (refl, refl)) at)
