-- The numbers of errors.
use Rattle.std.specs.Prelude.{ℕ}
use Rattle.s390x_base.specs.declared.error.EmitError.{EmitError}
use Rattle.s390x_base.specs.declared.error.EmitError.TheVariants.{MissingFacility, BadOperator, BadRegister, ScratchConflict, OffsetOutOfRange, BreakOutsideLoop, BadStackState, UnboundLabel, BadAlignment, LabelOutOfRange, Failed, NoMemory}

-- the number of an error of emission, 1 to 12
abbrev pub number_of_error : EmitError → ℕ
number_of_error MissingFacility = 1
number_of_error BadOperator = 2
number_of_error BadRegister = 3
number_of_error ScratchConflict = 4
number_of_error OffsetOutOfRange = 5
number_of_error BreakOutsideLoop = 6
number_of_error BadStackState = 7
number_of_error UnboundLabel = 8
number_of_error BadAlignment = 9
number_of_error LabelOutOfRange = 10
number_of_error Failed = 11
number_of_error NoMemory = 12
