-- Several functions side by side in one image, which call each other and return to each other.
use Rattle.std.specs.Prelude.{◌≡◌, ℕ, suc, ◌≤◌, List, length, Option, Some, slice_get}
use Rattle.s390x_typed_steps.specs.StepBody.{Calling}
use Rattle.s390x_typed_steps.specs.Steps.{CallingStep}
use Rattle.s390x_operations.specs.State.{Core, CodeImage}
use Rattle.s390x_machine.specs.CodeAt.{AllCodeAt}
use Rattle.s390x_machine.specs.Layout.{Layout}
use Rattle.s390x_machine.specs.Match.{return_address}
use Rattle.s390x_machine.specs.StepKinds.{StepKind, Performs}
use Rattle.s390x_machine.specs.Typed.{Ending, Returned, Called, TailCalled, Position, At, Ended, TypedStep, OperationWrong, KindWrong, kind_at}
use Rattle.s390x_schedule.specs.Parts.{IsPart}

-- ---- the members

-- A function in an image of several: its own image is a part of the whole one and has bytes, and its code lies there
pub record IsMember (whole : CodeImage) (L : Layout) : Type 0 where
  pub part : IsPart whole L.image
  pub some : 1 ≤ length L.image.bytes
  pub placed : AllCodeAt L

-- each of these layouts is a member's
abbrev pub AreMembers : CodeImage → List Layout → Type 0
AreMembers whole members = (m : ℕ) (L : Layout) → slice_get members m ≡ Some L → IsMember whole L

-- ---- the joint typed run

-- where a joint run stands: at a step of a member, or past its end, which this member's step brought about
pub data JointPosition : Type 0 where
  Running : (member step : ℕ) → JointPosition
  Finished : (member : ℕ) → Ending → JointPosition

-- the address is a member's start
pub record IsStart (members : List Layout) (address member : ℕ) : Type 0 where
  pub layout : Layout
  pub listed : slice_get members member ≡ Some layout
  pub is : address ≡ layout.image.base

-- the address is the return place of a call, which is this step of a member
pub record IsReturnPlace (members : List Layout) (address member call : ℕ) : Type 0 where
  pub layout : Layout
  pub listed : slice_get members member ≡ Some layout
  pub calling : Calling
  pub calls : slice_get layout.steps call ≡ Some (CallingStep calling)
  pub is : address ≡ return_address layout call calling

-- Where another member, or the same one, goes on behind an ending: a call or a tail call of a member's start at that member's first step, a return to the return place
-- of a call at the step behind that call. So where an address is both, a call goes on at the start, and a return behind the call. Where several members have one
-- start, any of them may go on
abbrev pub GoesOn : List Layout → Ending → (member step : ℕ) → Type 0
GoesOn members (Called a) m k = IsStart members a m × (k ≡ 0)
GoesOn members (TailCalled a) m k = IsStart members a m × (k ≡ 0)
GoesOn members (Returned a) m k = (call : ℕ) × IsReturnPlace members a m call × (k ≡ suc call)
GoesOn members _ m k = ⊥

-- where a member's own step leads the joint run: on in the member; behind an ending to where the run goes on, and past the end only where it goes on nowhere
abbrev pub Continues : List Layout → (member : ℕ) → Position → JointPosition → Type 0
Continues members m (At j) position = position ≡ Running m j
Continues members m (Ended e) (Running m' k) = GoesOn members e m' k
Continues members m (Ended e) (Finished m' e') = (m' ≡ m) × (e' ≡ e) × ((n k : ℕ) → GoesOn members e n k → ⊥)

-- step k of a member may lead the joint run from this core to this position and core: as the member's own typed step does
pub record JointStep (members : List Layout) (m k : ℕ) (c : Core) (position : JointPosition) (t : Core) : Type 0 where
  pub layout : Layout
  pub listed : slice_get members m ≡ Some layout
  pub own : Position
  pub steps : TypedStep layout k c own t
  pub continues : Continues members m own position

-- a step is wrong as in the member alone, where a store touches the code of any member, or what lies between them, too
abbrev pub KindWrongIn : CodeImage → Layout → Option StepKind → Core → Type 0
KindWrongIn whole L (Some (Performs needs operation code)) c = OperationWrong whole (operation c.registers) code c
KindWrongIn whole L kind c = KindWrong L kind c

-- step k of a member is wrong at this core
abbrev pub WrongIn : CodeImage → Layout → ℕ → Core → Type 0
WrongIn whole L k c = KindWrongIn whole L (kind_at L k) c
