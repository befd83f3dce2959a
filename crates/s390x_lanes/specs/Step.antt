-- How a step of a vector row may end.
use Rattle.std.specs.Prelude.{◌≡◌, ℕ, List, slice_index, Option, None, Some}
use Rattle.s390x_lanes.specs.Relation.{Gives, MayStop}
use Rattle.s390x_lanes.specs.declared.operators.VectorOperation.{VectorOperation}
use Rattle.s390x_lanes.specs.declared.step.LaneEnd.{LaneEnd}
use Rattle.s390x_lanes.specs.declared.step.LaneEnd.TheVariants.{Value, Divide, NoRow}

-- the operation allows the end, on the values of its vector operands in the order of the row's format
abbrev pub MayEnd : VectorOperation → List ℕ → LaneEnd → Type 0
MayEnd operation regs (Value value code) = Gives operation (slice_index regs 0) (slice_index regs 1) (slice_index regs 2) (slice_index regs 3) value code
MayEnd operation regs Divide = MayStop operation (slice_index regs 1) (slice_index regs 2)
MayEnd operation regs NoRow = ⊥

-- a step ends as its operation allows, and without one there is no row
abbrev pub StepEnds : Option VectorOperation → List ℕ → LaneEnd → Type 0
StepEnds None regs end = end ≡ NoRow
StepEnds (Some operation) regs end = MayEnd operation regs end

-- a value is one that the operation gives
abbrev pub ValueIsGiven : Option VectorOperation → List ℕ → LaneEnd → Type 0
ValueIsGiven (Some operation) regs (Value value code) = MayEnd operation regs (Value value code)
ValueIsGiven None regs (Value value code) = ⊥
ValueIsGiven operation regs Divide = Unit {0}
ValueIsGiven operation regs NoRow = Unit {0}

-- a stop is one that the operation may make
abbrev pub StopIsAllowed : Option VectorOperation → List ℕ → LaneEnd → Type 0
StopIsAllowed (Some operation) regs Divide = MayEnd operation regs Divide
StopIsAllowed None regs Divide = ⊥
StopIsAllowed operation regs (Value value code) = Unit {0}
StopIsAllowed operation regs NoRow = Unit {0}
