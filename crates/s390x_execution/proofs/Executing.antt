-- Steps of the machine: a stop leaves the state as it was, and no step changes what is accessible.
use Rattle.std.proofs.Common.{◌≡◌, ℕ, zero, suc, ◌+◌, ◌<◌, Bool, true, false, Option, Some, None, refl, sym, ap, ◌∙◌, subst, arith}
use Rattle.s390x_format.specs.Formats.{length_of}
use Rattle.s390x_format.specs.declared.fields.Fields.{Fields}
use Rattle.s390x_operations.specs.State.{State, Memory, Core, StoreEvent}
use Rattle.s390x_operations.specs.declared.stop.StopKind.{StopKind}
use Rattle.s390x_machine.specs.declared.instruction_fetch.Fetched.{Fetched}
use Rattle.s390x_machine.specs.declared.instruction_fetch.Fetched.TheVariants.{Found}
use Rattle.s390x_machine.specs.Machine.{Executed, Interrupted, ActionStep, OddPairStep, RowStep, FetchedStep}
use Rattle.s390x_machine.specs.Semantics.{action, is_odd_pair, semantics_of}
use Rattle.s390x_machine.specs.Step.{Steps}
use Rattle.s390x_format.specs.declared.semantics.RowSemantics.{RowSemantics}
use Rattle.s390x_machine.specs.declared.action_type.Action.{Action}
use Rattle.s390x_machine.specs.declared.action_type.Action.TheVariants.{Perform, Branch, BranchAndSave}
use Rattle.s390x_machine.specs.declared.step.StepEnd.TheVariants.{Went, Stopped as Stops, NoRow as HasNoRow}
use Rattle.s390x_execution.specs.Execution.{Walks, Ends, IsExecution, IsStepped}
use Rattle.s390x_execution.specs.declared.execution.End.{End}
use Rattle.s390x_execution.specs.declared.execution.End.TheVariants.{Limit, Stopped, NoRow}

-- ---- a stop

action_keeps : (a : Action) (size : ℕ) (s : State) (kind : StopKind) (t : State) → ActionStep a size s (Interrupted kind) t → t ≡ s
action_keeps (Perform op) size s kind t h = h.1
action_keeps a size s kind t h = absurd h

pair_keeps : (odd : Bool) (a : Action) (size : ℕ) (s : State) (kind : StopKind) (t : State) → OddPairStep odd a size s (Interrupted kind) t → t ≡ s
pair_keeps true a size s kind t h = h.1
pair_keeps false a size s kind t h = action_keeps a size s kind t h

row_keeps : (m : Option RowSemantics) (f : Fields) (size : ℕ) (s : State) (kind : StopKind) (t : State) → RowStep m f size s (Interrupted kind) t → t ≡ s
row_keeps None f size s kind t h = absurd h
row_keeps (Some m) f size s kind t h = pair_keeps (is_odd_pair m f) (action m f s.core.registers s.address) size s kind t h

fetched_keeps : (f : Fetched) (s : State) (kind : StopKind) (t : State) → FetchedStep f s (Interrupted kind) t → t ≡ s
fetched_keeps (Found d) s kind t h = row_keeps (semantics_of d.row.opcode) d.fields (length_of d.row.format) s kind t h
fetched_keeps f s kind t h = h.1

-- a step that stops leaves the state as it was
pub stop_keeps : (s : State) (kind : StopKind) (place : ℕ) (t : State) → Steps s (Stops kind place) t → t ≡ s
stop_keeps s kind place t h = fetched_keeps h.1.fetched s kind t h.1.acts

-- ---- what is accessible

same_has : (s t : State) → t ≡ s → t.core.memory.has ≡ s.core.memory.has
same_has s t e = ap (λ (u : State). u.core.memory.has) e

action_has : (a : Action) (size : ℕ) (s : State) (x : Option StoreEvent) (t : State) → ActionStep a size s (Executed x) t → t.core.memory.has ≡ s.core.memory.has
action_has (Perform op) size s x t h = ap (λ (m : Memory). m.has) h.0.memory
action_has (Branch mask target) size s x t h = ap (λ (c : Core). c.memory.has) h.0
action_has (BranchAndSave link target) size s x t h = ap (λ (u : State). u.core.memory.has) h.0

pair_has : (odd : Bool) (a : Action) (size : ℕ) (s : State) (x : Option StoreEvent) (t : State) → OddPairStep odd a size s (Executed x) t → t.core.memory.has ≡ s.core.memory.has
pair_has true a size s x t h = same_has s t h.1
pair_has false a size s x t h = action_has a size s x t h

row_has : (m : Option RowSemantics) (f : Fields) (size : ℕ) (s : State) (x : Option StoreEvent) (t : State) → RowStep m f size s (Executed x) t → t.core.memory.has ≡ s.core.memory.has
row_has None f size s x t h = absurd h
row_has (Some m) f size s x t h = pair_has (is_odd_pair m f) (action m f s.core.registers s.address) size s x t h

fetched_has : (f : Fetched) (s : State) (x : Option StoreEvent) (t : State) → FetchedStep f s (Executed x) t → t.core.memory.has ≡ s.core.memory.has
fetched_has (Found d) s x t h = row_has (semantics_of d.row.opcode) d.fields (length_of d.row.format) s x t h
fetched_has f s x t h = same_has s t h.1

pub step_has : (s t : State) → Steps s Went t → t.core.memory.has ≡ s.core.memory.has
step_has s t h = fetched_has h.1.goes.fetched s h.1.stored t h.1.goes.acts

pub walk_has : (n : ℕ) (s t : State) → Walks n s t → t.core.memory.has ≡ s.core.memory.has
walk_has zero s t h = same_has s t h
walk_has (suc n) s t h = step_has h.before t h.goes ∙ walk_has n s h.before h.reached

-- ---- executions

-- where one step was to go and didn't, more were to go
pub ends_before : (steps went : ℕ) (t : State) (e : End) → went < steps → Ends 1 0 t e → Ends steps went t e
ends_before steps went t Limit lt h = absurd (omega (arith, h))
ends_before steps went t (Stopped kind place) lt h = (lt, h.1)
ends_before steps went t (NoRow place) lt h = (lt, h.1, h.2)

-- the step behind those that went isn't one of them
pub broken_off : (steps went : ℕ) (s before t : State) (e : End) → went < steps → Walks went s before → IsStepped before t (Some e) → IsExecution steps s t (record { went = went; end = e })
broken_off steps went s before t e lt walked h = record {
  walked = subst (λ (u : State). Walks went s u) (sym h.0) walked;
  ended = ends_before steps went t e lt h.1;
}

pub walks_further : (went : ℕ) (s before t : State) → Walks went s before → Steps before Went t → Walks (went + 1) s t
walks_further went s before t walked goes =
    let next : suc went ≡ went + 1 = omega arith in
    subst (λ n. Walks n s t) next (record { before = before; reached = walked; goes = goes })

-- a stop, and a row that isn't computed
pub stopped_at : (s : State) (kind : StopKind) (place : ℕ) (t : State) → Steps s (Stops kind place) t → IsStepped s t (Some (Stopped kind place))
stopped_at s kind place t h =
    let same = stop_keeps s kind place t h in
    (same, (omega arith, subst (λ (u : State). Steps u (Stops kind place) t) (sym same) h))

pub no_row_at : (s t : State) → Steps s HasNoRow t → IsStepped s t (Some (NoRow t.address))
no_row_at s t h = (h.1, (omega arith, subst (λ (u : State). Steps u HasNoRow t) (sym h.1) h, refl))
