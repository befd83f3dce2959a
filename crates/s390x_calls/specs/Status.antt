-- The numbers by which C knows how a call ends.
use Rattle.std.specs.Prelude.{ℕ}
use Rattle.s390x_calls.specs.declared.status.Status.{Status}
use Rattle.s390x_calls.specs.declared.status.Status.TheVariants as status

-- the number of a status: that with which the program ends too, and 13 for a buffer that is too small
abbrev pub number_of_status : Status → ℕ
number_of_status status.Done = 0
number_of_status status.Syntax = 3
number_of_status status.Refused = 4
number_of_status status.LinkRefused = 5
number_of_status status.TooLong = 8
number_of_status status.NoMemory = 9
number_of_status status.PlanRefused = 11
number_of_status status.BundleRefused = 12
number_of_status status.TooSmall = 13
