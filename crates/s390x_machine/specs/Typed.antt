-- The typed steps: where they may go, and when they are wrong (cranelift-codegen, `emit.rs`).
use Rattle.std.specs.Prelude.{◌≡◌, ℕ, suc, ◌/◌, ◌%◌, List, Option, Some, None, Bool, true, false, ◌==◌, if◌then◌else◌, slice_get, IsTrue, nat_lt}
use Rattle.s390x_base.specs.declared.ir.MachLabel.{MachLabel}
use Rattle.s390x_base.specs.declared.trap.TrapKind.{TrapKind}
use Rattle.s390x_typed_steps.specs.Steps.{Step}
use Rattle.s390x_lanes.specs.Elements.{is_lower}
use Rattle.s390x_lanes.specs.Lanes.{lane}
use Rattle.s390x_lanes.specs.declared.operators.Signedness.{Signedness}
use Rattle.s390x_operations.specs.State.{Registers, Core, set_general, set_vector, with_code, CodeImage, StoreEvent}
use Rattle.s390x_operations.specs.Access.{store_event, fault, stores_into}
use Rattle.s390x_operations.specs.Effects.{access, is_selected, MayExecute, MayInterrupt}
use Rattle.s390x_operations.specs.declared.stop.StopKind.{StopKind}
use Rattle.s390x_operations.specs.declared.stop.ConditionCode.{ConditionCode}
use Rattle.s390x_operations.specs.declared.stop.ConditionCode.TheVariants.{Code1, Code2, Code3}
use Rattle.s390x_operations.specs.declared.effect.Operation.{Operation}
use Rattle.s390x_machine.specs.Layout.{Layout, step_address, block_address}
use Rattle.s390x_machine.specs.StepKinds.{StepKind, Performs, GoesTo, Chooses, GoesByAddress, Leads, GoesByTable, PerformsWhere, ComparesWide, Returns, Calls, TailCalls, TrapsAlways, TrapsWhere, DebugStops, Silent, Unsupported, step_kind}

-- how a run ends
pub data Ending : Type 0 where
  Returned : (address : ℕ) → Ending
  Called : (address : ℕ) → Ending
  TailCalled : (address : ℕ) → Ending
  Trapped : (code : TrapKind) → Ending
  DebugStopped : Ending

-- where a typed run stands: at a step, or past its end
pub data Position : Type 0 where
  At : (step : ℕ) → Position
  Ended : Ending → Position

-- `%r1` may have any value where it is needed
abbrev pub with_scratch_value : Bool → ℕ → Registers → Registers
with_scratch_value false v r = r
with_scratch_value true v r = set_general r 1 v

-- a core whose `%r1` may have any value where it is needed
abbrev pub loosen : Bool → ℕ → Core → Core
loosen needs v c = record { registers = with_scratch_value needs v c.registers; memory = c.memory }

-- an operation goes on to the next step, or it stops and ends by a trap with its code; a trap changes nothing but a needed `%r1`
pub data OperationStep (needs : Bool) (op : Operation) (code : StopKind → Option TrapKind) (k : ℕ) (c : Core) (position : Position) (t : Core) : Type 0 where
  goes_on : (v : ℕ) → MayExecute op (loosen needs v c) t → position ≡ At (suc k) → OperationStep needs op code k c position t
  traps : (v : ℕ) (kind : StopKind) (n : TrapKind) → MayInterrupt op c.memory.has kind → code kind ≡ Some n → t ≡ loosen needs v c → position ≡ Ended (Trapped n) → OperationStep needs op code k c position t

-- a listed block whose address this is
pub record IsTarget (L : Layout) (targets : List MachLabel) (held b : ℕ) : Type 0 where
  pub index : ℕ
  pub label : MachLabel
  pub listed : slice_get targets index ≡ Some label
  pub number : label.0 ≡ b
  pub address : held ≡ block_address L b

-- the j of a table index 4j, where there is a target j
abbrev pub table_target : ℕ → List MachLabel → Option MachLabel
table_target index targets = if index % 4 == 0 then slice_get targets (index / 4) else None

-- a jump by a table goes to the other block where the mask selects the code, else to its target, if there is one; `%r1` may be any then, and after a target the code too
abbrev pub TableStep : Layout → Bool → Option MachLabel → (other : ℕ) → Core → Position → Core → Type 0
TableStep L true o other c position t = (v : ℕ) × (position ≡ At (L.first_step other)) × (t ≡ loosen true v c)
TableStep L false None other c position t = ⊥
TableStep L false (Some l) other c position t =
    (v : ℕ) × (code : ConditionCode) × (position ≡ At (L.first_step l.0)) × (t ≡ record { registers = with_code code (set_general c.registers 1 v); memory = c.memory })

-- an operation under a mask is done where the mask selects the code; else nothing changes
abbrev pub WhereStep : Bool → Operation → ℕ → Core → Position → Core → Type 0
WhereStep true op k c position t = (position ≡ At (suc k)) × MayExecute op c t
WhereStep false op k c position t = (position ≡ At (suc k)) × (t ≡ c)

-- the condition code of a comparison of x with y, of 128 bits: 1 where the left doubleword of x is greater, 2 where it is lower. Where the left ones are
-- equal the right ones, without a sign, tell: 1 where that of x is greater, else 3
abbrev pub wide_order : Signedness → (x y : ℕ) → ConditionCode
wide_order sign x y =
    if is_lower sign 64 (lane 64 y 0) (lane 64 x 0) then Code1 else (if is_lower sign 64 (lane 64 x 0) (lane 64 y 0) then Code2
    else (if nat_lt (lane 64 y 1) (lane 64 x 1) then Code1 else Code3))

-- a step of number k of a kind
abbrev pub KindStep : Layout → Option StepKind → ℕ → Core → Position → Core → Type 0
KindStep L None k c position t = ⊥
KindStep L (Some (Performs needs operation code)) k c position t = OperationStep needs (operation c.registers) code k c position t
KindStep L (Some (GoesTo b)) k c position t = (position ≡ At (L.first_step b)) × (t ≡ c)
KindStep L (Some (Chooses mask a b)) k c position t = (position ≡ At (if is_selected mask c.registers.code then L.first_step a else L.first_step b)) × (t ≡ c)
KindStep L (Some (GoesByAddress r targets)) k c position t = (b : ℕ) × IsTarget L targets (c.registers.general r) b × (position ≡ At (L.first_step b)) × (t ≡ c)
KindStep L (Some (Leads mask j)) k c position t = (position ≡ (if is_selected mask c.registers.code then At j else At (suc k))) × (t ≡ c)
KindStep L (Some (GoesByTable index mask other targets)) k c position t =
    TableStep L (is_selected mask c.registers.code) (table_target (c.registers.general index) targets) other c position t
KindStep L (Some (PerformsWhere mask operation)) k c position t = WhereStep (is_selected mask c.registers.code) (operation c.registers) k c position t
KindStep L (Some (ComparesWide sign tmp n m)) k c position t =
    (v : ℕ) × (position ≡ At (suc k)) × (t ≡ record { registers = with_code (wide_order sign (c.registers.vector n) (c.registers.vector m)) (set_vector c.registers tmp v); memory = c.memory })
KindStep L (Some (Returns r)) k c position t = (position ≡ Ended (Returned (c.registers.general r))) × (t ≡ c)
KindStep L (Some (Calls link target)) k c position t =
    (position ≡ Ended (Called (target c.registers))) × (t ≡ record { registers = set_general c.registers link (step_address L (suc k)); memory = c.memory })
KindStep L (Some (TailCalls target)) k c position t = (position ≡ Ended (TailCalled (target c.registers))) × (t ≡ c)
KindStep L (Some (TrapsAlways code)) k c position t = (position ≡ Ended (Trapped code)) × (t ≡ c)
KindStep L (Some (TrapsWhere mask code)) k c position t = (position ≡ (if is_selected mask c.registers.code then Ended (Trapped code) else At (suc k))) × (t ≡ c)
KindStep L (Some DebugStops) k c position t = (position ≡ Ended DebugStopped) × (t ≡ c)
KindStep L (Some Silent) k c position t = (position ≡ At (suc k)) × (t ≡ c)
KindStep L (Some Unsupported) k c position t = ⊥

-- the kind of a step, if there is one
abbrev pub kind_of_step : Layout → Option Step → Option StepKind
kind_of_step L None = None
kind_of_step L (Some s) = Some (step_kind L s)

-- the kind of step k; none past the last step
abbrev pub kind_at : Layout → ℕ → Option StepKind
kind_at L k = kind_of_step L (slice_get L.steps k)

-- step k may go from this core to this position and core
abbrev pub TypedStep : Layout → ℕ → Core → Position → Core → Type 0
TypedStep L k c position t = KindStep L (kind_at L k) k c position t

-- a fault of an access that has no code; or a store, or a locked access, whose operand has a byte of the image
pub data OperationWrong (image : CodeImage) (op : Operation) (code : StopKind → Option TrapKind) (c : Core) : Type 0 where
  faults_uncoded : (kind : StopKind) → fault (access op.effect) c.memory.has ≡ Some kind → code kind ≡ None → OperationWrong image op code c
  touches_image : IsTrue (stores_into image (access op.effect)) → OperationWrong image op code c

-- a jump by a table is wrong where the mask doesn't select the code and there is no target
abbrev pub TableWrong : Bool → Option MachLabel → Type 0
TableWrong true o = ⊥
TableWrong false None = Unit {0}
TableWrong false (Some l) = ⊥

-- past the last step; at an address or an index of no target; at a wrong operation
abbrev pub KindWrong : Layout → Option StepKind → Core → Type 0
KindWrong L None c = Unit {0}
KindWrong L (Some (Performs needs operation code)) c = OperationWrong L.image (operation c.registers) code c
KindWrong L (Some (GoesByAddress r targets)) c = (b : ℕ) → IsTarget L targets (c.registers.general r) b → ⊥
KindWrong L (Some (GoesByTable index mask other targets)) c = TableWrong (is_selected mask c.registers.code) (table_target (c.registers.general index) targets)
KindWrong L (Some _) c = ⊥

-- step k is wrong at this core
abbrev pub Wrong : Layout → ℕ → Core → Type 0
Wrong L k c = KindWrong L (kind_at L k) c

-- what a typed step stores
abbrev pub store_event_of_kind : Option StepKind → Core → Option StoreEvent
store_event_of_kind (Some (Performs needs operation code)) c = store_event (access (operation c.registers).effect) c.memory
store_event_of_kind _ c = None

-- what step k stores, from this core
abbrev pub typed_store_event : Layout → ℕ → Core → Option StoreEvent
typed_store_event L k c = store_event_of_kind (kind_at L k) c
