-- Inside one step: the machine's transitions, one row after another.
use Rattle.std.proofs.Common.{◌≡◌, ℕ, suc, ◌≤◌, ◌⊎◌, inl, inr, List, [], ◌∷◌, ◌++◌, length, Option, Some, None, Bool, if◌then◌else◌, refl, sym, ap, ◌∙◌, subst, arith, append_assoc, append-nil, length-append}
use Rattle.s390x_base.specs.declared.trap.TrapKind.{TrapKind}
use Rattle.s390x_operations.specs.State.{Registers, Memory, Core, with_code, State, Write, core_after_writes, wrapping_add64, IsLoaded, IsDisjoint}
use Rattle.s390x_operations.specs.Access.{fault, store_event}
use Rattle.s390x_operations.specs.Effects.{access, stop_of_effect, MayRefuse, is_selected, MayExecute, MayInterrupt, Refines}
use Rattle.s390x_operations.specs.declared.effect.Operation.{Operation}
use Rattle.s390x_operations.specs.declared.stop.StopKind.{StopKind}
use Rattle.s390x_machine.specs.declared.action_type.Action.{Action}
use Rattle.s390x_machine.specs.declared.action_type.Action.TheVariants.{Perform, Branch, BranchAndSave}
use Rattle.s390x_machine.specs.Machine.{Event, Executed, Interrupted, ActionStep, MachineStep, Transition, after_writes, TransitionStep, Run, after_all, all_writes}
use Rattle.s390x_machine.specs.StepKinds.{Performs}
use Rattle.s390x_machine.specs.Typed.{Ending, Trapped, At, Ended, with_scratch_value, loosen, goes_on, traps, OperationWrong, faults_uncoded, KindStep, KindWrong, TypedStep, kind_at, store_event_of_kind, typed_store_event}
use Rattle.s390x_machine.specs.Codes.{trap_code_at}
use Rattle.s390x_machine.specs.Match.{StoreNothing, EndsAt, start, EndsMatch}
use Rattle.s390x_machine.specs.OneStep.{Runs, waits, goes, ends, stops}
use Rattle.s390x_machine.specs.Layout.{Layout, step_address, InStep}
use Rattle.s390x_machine.proofs.Frame.{lies_written, loaded_after_store, written_append}
use Rattle.s390x_machine.proofs.Induction.{after_append, some_bytes_in}

-- wherever the image lies in memory, a step of the machine at this place does this action, of an instruction of so many bytes
abbrev pub RowAt : Layout → ℕ → (Registers → Action) → ℕ → Type 0
RowAt L p act size = (s : State) → s.address ≡ p → IsLoaded L.image s.core.memory → (event : Event) (t : State) → MachineStep s event t → ActionStep (act s.core.registers) size s event t

-- the state inside a step that began at c: these registers, the memory after these writes
abbrev pub mid : Core → Registers → List Write → ℕ → State
mid c r ws p = record { core = record { registers = r; memory = (core_after_writes ws c).memory }; address = p }

-- after these transitions of step k the machine is inside the step, at an address, with these registers
pub record Inside (L : Layout) (k : ℕ) (c : Core) (g : List Transition) (r : Registers) (p : ℕ) : Type 0 where
  pub few : length g ≤ 3
  pub quiet : StoreNothing g
  pub here : InStep L k p
  pub lands : after_all (start L k c) g ≡ mid c r (all_writes g) p
  pub is_loaded : IsLoaded L.image (core_after_writes (all_writes g) c).memory

-- whatever transitions follow, the step runs
abbrev pub Simulates : Layout → ℕ → Core → List Transition → Registers → ℕ → Type 0
Simulates L k c g r p = (trace : List Transition) → Run L.image (mid c r (all_writes g) p) trace → Runs L k c (g ++ trace)

pub at_start : (L : Layout) (k : ℕ) (c : Core) → InStep L k (step_address L k) → IsLoaded L.image c.memory → Inside L k c [] c.registers (step_address L k)
at_start L k c here is_loaded = record { few = omega arith; quiet = tt; here = here; lands = refl; is_loaded = is_loaded }

-- one more transition, or none
pub peel : (L : Layout) (k : ℕ) (c : Core) (g : List Transition) (r : Registers) (p : ℕ) → Inside L k c g r p → ((t : Transition) → TransitionStep L.image (mid c r (all_writes g) p) t → (rest : List Transition) → Run L.image t.after rest → Runs L k c (g ++ t ∷ rest)) → Simulates L k c g r p
peel L k c g r p i go [] run = subst (λ l. Runs L k c l) (sym (append-nil g)) (waits i.few i.quiet (subst (λ (s : State). InStep L k s.address) (sym i.lands) i.here))
peel L k c g r p i go (t ∷ rest) run = go t run.0 rest run.1

all_writes_append : (g h : List Transition) → all_writes (g ++ h) ≡ all_writes g ++ all_writes h
all_writes_append [] h = refl
all_writes_append (t ∷ g) h = ap (λ l. t.writes ++ l) (all_writes_append g h) ∙ sym (append_assoc t.writes (all_writes g) (all_writes h))

one_more : (g : List Transition) (t : Transition) → all_writes g ++ t.writes ≡ all_writes (g ++ t ∷ [])
one_more g t = sym (all_writes_append g (t ∷ []) ∙ ap (λ l. all_writes g ++ l) (append-nil t.writes))

-- what a transition inside a step does
pub record Turned (L : Layout) (c : Core) (g : List Transition) (r : Registers) (p : ℕ) (act : Registers → Action) (size : ℕ) (t : Transition) : Type 0 where
  pub is_loaded : IsLoaded L.image (core_after_writes (all_writes (g ++ t ∷ [])) c).memory
  pub acts : ActionStep (act r) size (mid c r (all_writes (g ++ t ∷ [])) p) t.event t.after
  pub memory : (core_after_writes (all_writes (g ++ t ∷ [])) c).memory ≡ (after_writes (mid c r (all_writes g) p) t).core.memory

pub turned : (L : Layout) (k : ℕ) (c : Core) (g : List Transition) (r : Registers) (p : ℕ) (act : Registers → Action) (size : ℕ) (t : Transition) → Inside L k c g r p → RowAt L p act size → TransitionStep L.image (mid c r (all_writes g) p) t → Turned L c g r p act size t
turned L k c g r p act size t i row s =
    let e : core_after_writes t.writes (core_after_writes (all_writes g) c) ≡ core_after_writes (all_writes (g ++ t ∷ [])) c = written_append (all_writes g) t.writes c ∙ ap (λ ws. core_after_writes ws c) (one_more g t) in
    let l : IsLoaded L.image (core_after_writes t.writes (core_after_writes (all_writes g) c)).memory = lies_written L.image _ _ t.writes i.is_loaded s.may in
    let a : ActionStep (act r) size (after_writes (mid c r (all_writes g) p) t) t.event t.after = row (after_writes (mid c r (all_writes g) p) t) refl l t.event t.after s.goes in
    record {
      is_loaded = subst (λ (x : Core). IsLoaded L.image x.memory) e l;
      acts = subst (λ (x : Core). ActionStep (act r) size (record { core = record { registers = r; memory = x.memory }; address = p }) t.event t.after) e a;
      memory = ap (λ (x : Core). x.memory) (sym e);
    }

quiet_snoc : (g : List Transition) (t : Transition) → StoreNothing g → t.event ≡ Executed None → StoreNothing (g ++ t ∷ [])
quiet_snoc [] t q e = (e, tt)
quiet_snoc (x ∷ g) t q e = (q.0, quiet_snoc g t q.1 e)

-- the transition ends inside the step again
pub further : (L : Layout) (k : ℕ) (c : Core) (g : List Transition) (r : Registers) (p : ℕ) (act : Registers → Action) (size : ℕ) (t : Transition) (r' : Registers) (p' : ℕ) → Inside L k c g r p → Turned L c g r p act size t → length g ≤ 2 → InStep L k p' → t.event ≡ Executed None → t.after ≡ mid c r' (all_writes (g ++ t ∷ [])) p' → Inside L k c (g ++ t ∷ []) r' p'
further L k c g r p act size t r' p' i u few here e lands = record {
  here = here;
  few = omega (arith, length-append g (t ∷ []));
  quiet = quiet_snoc g t i.quiet e;
  lands = after_append (start L k c) g (t ∷ []) ∙ lands;
  is_loaded = u.is_loaded;
}

-- and what follows it
pub resume : (L : Layout) (k : ℕ) (c : Core) (g : List Transition) (t : Transition) (r' : Registers) (p' : ℕ) (rest : List Transition) → t.after ≡ mid c r' (all_writes (g ++ t ∷ [])) p' → Run L.image t.after rest → Simulates L k c (g ++ t ∷ []) r' p' → Runs L k c (g ++ t ∷ rest)
resume L k c g t r' p' rest lands run sim =
    subst (λ l. Runs L k c l) (append_assoc g (t ∷ []) rest) (sim rest (subst (λ s. Run L.image s rest) lands run))

-- ---- a branch

pub branch_executes : (c : Core) (r : Registers) (ws : List Write) (p mask target size : ℕ) (event : Event) (t : State) → ActionStep (Branch mask target) size (mid c r ws p) event t → (event ≡ Executed None) × (t ≡ mid c r ws (if is_selected mask r.code then target else wrapping_add64 p size))
branch_executes c r ws p mask target size (Executed x) t h = (ap Executed h.2, λ i. record { core = h.0 i; address = h.1 i })
branch_executes c r ws p mask target size (Interrupted kind) t h = absurd h

-- the step is done, at another step
pub done : (L : Layout) (k : ℕ) (c : Core) (g : List Transition) (r : Registers) (p : ℕ) (act : Registers → Action) (size : ℕ) (t : Transition) (rest : List Transition) (j : ℕ) (x : Core) → Inside L k c g r p → Turned L c g r p act size t →
    t.event ≡ Executed (typed_store_event L k (core_after_writes (all_writes (g ++ t ∷ [])) c)) → t.after ≡ start L j x → (IsDisjoint L.image (typed_store_event L k (core_after_writes (all_writes (g ++ t ∷ [])) c)) → IsLoaded L.image x.memory) →
    TypedStep L k (core_after_writes (all_writes (g ++ t ∷ [])) c) (At j) x → Runs L k c (g ++ t ∷ rest)
done L k c g r p act size t rest j x i u e lands is_loaded step =
    goes g rest t refl i.few (some_bytes_in L k i.here) i.quiet j x step e (ap (λ (s : State). (after_writes s t).core.memory) i.lands ∙ sym u.memory) lands is_loaded

-- the step ends the run
pub ended : (L : Layout) (k : ℕ) (c : Core) (g rest : List Transition) (e : Ending) (x : Core) → length g ≤ 4 → StoreNothing g → EndsAt L k e g (after_all (start L k c) g) → TypedStep L k (core_after_writes (all_writes g) c) (Ended e) x →
    EndsMatch L (Ended e) x (after_all (start L k c) g) rest → Runs L k c (g ++ rest)
ended L k c g rest e x few quiet at step ends_match = ends g rest refl e x step (few, quiet, at) ends_match

-- inside a step the machine stands at one of its bytes
pub inside_lands : {L : Layout} {k : ℕ} {c : Core} {g : List Transition} {r : Registers} {p : ℕ} → Inside L k c g r p → InStep L k (after_all (start L k c) g).address
inside_lands {L = L} {k = k} i = subst (λ (s : State). InStep L k s.address) (sym i.lands) i.here

-- a branch: what follows when it is taken, and when it isn't
pub branch : (L : Layout) (k : ℕ) (c : Core) (g : List Transition) (r : Registers) (p : ℕ) (act : Registers → Action) (size mask target : ℕ) → Inside L k c g r p → RowAt L p act size → act r ≡ Branch mask target →
    ((t : Transition) (rest : List Transition) → Turned L c g r p act size t → t.event ≡ Executed None → t.after ≡ mid c r (all_writes (g ++ t ∷ [])) (if is_selected mask r.code then target else wrapping_add64 p size) → Run L.image t.after rest → Runs L k c (g ++ t ∷ rest)) → Simulates L k c g r p
branch L k c g r p act size mask target i row does go =
    peel L k c g r p i (λ t s rest run.
    let u = turned L k c g r p act size t i row s in
    let m = branch_executes c r (all_writes (g ++ t ∷ [])) p mask target size t.event t.after (subst (λ a. ActionStep a size (mid c r (all_writes (g ++ t ∷ [])) p) t.event t.after) does u.acts) in
    go t rest u m.0 m.1 run)

-- ---- the general step

-- a row's action is this operation, or leaves less free
abbrev pub DoesAs : Action → Operation → Type 0
DoesAs (Perform m) op = Refines m op
DoesAs (Branch mask target) op = ⊥
DoesAs (BranchAndSave link target) op = ⊥

goes_as : (m op : Operation) (c t : Core) → Refines m op → MayExecute m c t → MayExecute op c t
goes_as m op c t f h = record {
  reached = ap (λ a. fault a c.memory.has) (sym f.access) ∙ h.reached;
  allowed = sym f.refused ∙ h.allowed;
  results = f.results c t.registers h.results;
  code = f.code c t.registers.code h.code;
  memory = h.memory ∙ ap (λ a. Rattle.s390x_operations.specs.State.after_store (store_event a c.memory) c.memory) f.access;
}

stops_as : (m op : Operation) (has : ℕ → Bool) (kind : StopKind) → Refines m op → MayInterrupt m has kind → MayInterrupt op has kind
stops_as m op has kind f (inl e) = inl (ap (λ a. fault a has) (sym f.access) ∙ e)
stops_as m op has kind f (inr (e, inl r)) = inr (ap (λ a. fault a has) (sym f.access) ∙ e, inl (sym f.refused ∙ r))
stops_as m op has kind f (inr (e, inr y)) = inr (ap (λ a. fault a has) (sym f.access) ∙ e, inr (f.may_refuse kind y))

pub acts_as : (a : Action) (op : Operation) (size : ℕ) (s : State) (event : Event) (t : State) → DoesAs a op → ActionStep a size s event t → ActionStep (Perform op) size s event t
acts_as (Perform m) op size s (Executed x) t f h = (goes_as m op s.core t.core f h.0, h.1, h.2 ∙ ap (λ a. store_event a s.core.memory) f.access)
acts_as (Perform m) op size s (Interrupted kind) t f h = (stops_as m op s.core.memory.has kind f h.0, h.1)
acts_as (Branch mask target) op size s event t f h = absurd f
acts_as (BranchAndSave link target) op size s event t f h = absurd f

-- the tables have an operation's codes at a place
abbrev pub Coded : Layout → ℕ → (StopKind → Option TrapKind) → Type 0
Coded L p code = (kind : StopKind) (n : TrapKind) → code kind ≡ Some n → trap_code_at L.image L.traps p kind ≡ Some n

-- each stop that the operation's values may bring about has a code; a fault of its access may have none
abbrev pub ValuesCoded : Operation → (StopKind → Option TrapKind) → Type 0
ValuesCoded op code = (kind : StopKind) → (stop_of_effect op.effect ≡ Some kind) ⊎ MayRefuse op.effect kind → (n : TrapKind) × (code kind ≡ Some n)

-- a stop without a code is the access's
uncoded_wrong : (L : Layout) (op : Operation) (code : StopKind → Option TrapKind) (c : Core) (kind : StopKind) → ValuesCoded op code → code kind ≡ None → MayInterrupt op c.memory.has kind → OperationWrong L.image op code c
uncoded_wrong L op code c kind with_code none (inl e) = faults_uncoded kind e none
uncoded_wrong L op code c kind with_code none (inr (e, by)) = let x = with_code kind by in absurd (some_none x.0 (sym x.1 ∙ none))
  where
    some_none : (n : TrapKind) → Some n ≡ None → ⊥
    some_none n h = cc

stop_ends : (L : Layout) (k : ℕ) (c : Core) (g rest : List Transition) (t : Transition) (p : ℕ) (needs : Bool) (v : ℕ) (operation : Registers → Operation) (code : StopKind → Option TrapKind) (o : Option TrapKind) (kind : StopKind) →
    kind_at L k ≡ Some (Performs needs operation code) → Inside L k c g (with_scratch_value needs v c.registers) p → Coded L p code → ValuesCoded (operation c.registers) code → t.event ≡ Interrupted kind →
    MayInterrupt (operation c.registers) c.memory.has kind → code kind ≡ o → Runs L k c (g ++ t ∷ rest)
stop_ends L k c g rest t p needs v operation code None kind is i at with_code e h none =
    stops g rest t kind refl i.quiet e (subst (λ f. KindWrong L f c) (sym is) (uncoded_wrong L (operation c.registers) code c kind with_code none h))
stop_ends L k c g rest t p needs v operation code (Some n) kind is i at with_code e h some =
    let x = loosen needs v (core_after_writes (all_writes g) c) in
    let step : TypedStep L k (core_after_writes (all_writes g) c) (Ended (Trapped n)) x = subst (λ f. KindStep L f k (core_after_writes (all_writes g) c) (Ended (Trapped n)) x) (sym is) (traps v kind n h some refl refl) in
    let few : length g ≤ 4 = omega (arith, i.few) in
    ended L k c g (t ∷ rest) (Trapped n) x few i.quiet (inside_lands i) step (ap (λ (s : State). s.core) i.lands, (kind, e, subst (λ (s : State). trap_code_at L.image L.traps s.address kind ≡ Some n) (sym i.lands) (at kind n some)))

row_transition : (L : Layout) (k : ℕ) (c : Core) (g rest : List Transition) (t : Transition) (p : ℕ) (act : Registers → Action) (size : ℕ) (needs : Bool) (v : ℕ) (operation : Registers → Operation) (code : StopKind → Option TrapKind) →
    kind_at L k ≡ Some (Performs needs operation code) → Inside L k c g (with_scratch_value needs v c.registers) p → Turned L c g (with_scratch_value needs v c.registers) p act size t → wrapping_add64 p size ≡ step_address L (suc k) → Coded L p code →
    ValuesCoded (operation c.registers) code → (event : Event) → t.event ≡ event → ActionStep (Perform (operation c.registers)) size (mid c (with_scratch_value needs v c.registers) (all_writes (g ++ t ∷ [])) p) event t.after →
    Runs L k c (g ++ t ∷ rest)
row_transition L k c g rest t p act size needs v operation code is i u next at with_code (Executed x) e acts =
    let w = core_after_writes (all_writes (g ++ t ∷ [])) c in
    let op = operation c.registers in
    let step : TypedStep L k w (At (suc k)) t.after.core = subst (λ f. KindStep L f k w (At (suc k)) t.after.core) (sym is) (goes_on v acts.0 refl) in
    let same : typed_store_event L k w ≡ store_event (access op.effect) w.memory = ap (λ f. store_event_of_kind f w) is in
    done L k c g (with_scratch_value needs v c.registers) p act size t rest (suc k) t.after.core i u (e ∙ ap Executed (acts.2 ∙ sym same)) (λ j. record { core = t.after.core; address = (acts.1 ∙ next) j }) (λ out.
    subst (λ (m : Memory). IsLoaded L.image m) (sym acts.0.memory) (loaded_after_store L.image (store_event (access op.effect) w.memory) w.memory u.is_loaded (subst (λ x. IsDisjoint L.image x) same out))) step
row_transition L k c g rest t p act size needs v operation code is i u next at with_code (Interrupted kind) e acts =
    stop_ends L k c g rest t p needs v operation code (code kind) kind is i at with_code e acts.0 refl

-- A step whose last row does its operation runs as that step: a row on registers alone, one with a memory access, which may fault with or
-- without a code, or one that stops by its values, with a code.
pub general_step : (L : Layout) (k : ℕ) (c : Core) (g : List Transition) (p : ℕ) (act : Registers → Action) (size : ℕ) (needs : Bool) (v : ℕ) (operation : Registers → Operation) (code : StopKind → Option TrapKind) →
    kind_at L k ≡ Some (Performs needs operation code) → Inside L k c g (with_scratch_value needs v c.registers) p → RowAt L p act size → DoesAs (act (with_scratch_value needs v c.registers)) (operation c.registers) →
    wrapping_add64 p size ≡ step_address L (suc k) → Coded L p code → ValuesCoded (operation c.registers) code → Simulates L k c g (with_scratch_value needs v c.registers) p
general_step L k c g p act size needs v operation code is i row does next at with_code =
    let r = with_scratch_value needs v c.registers in
    peel L k c g r p i (λ t s rest run.
    let u = turned L k c g r p act size t i row s in
    row_transition L k c g rest t p act size needs v operation code is i u next at with_code t.event refl (acts_as (act r) (operation c.registers) size (mid c r (all_writes (g ++ t ∷ [])) p) t.event t.after does u.acts))
