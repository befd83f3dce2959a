-- How the program ends: the numbers of the statuses.
use Rattle.std.specs.Prelude.{ℕ}
use Rattle.s390x_tool.specs.declared.status.Status.{Status}
use Rattle.s390x_tool.specs.declared.status.Status.TheVariants as status

-- the number with which the program ends
abbrev pub number_of_status : Status → ℕ
number_of_status status.Ok = 0
number_of_status status.Usage = 2
number_of_status status.Syntax = 3
number_of_status status.Refused = 4
number_of_status status.LinkRefused = 5
number_of_status status.ReadFault = 6
number_of_status status.WriteFault = 7
number_of_status status.InputTooLong = 8
number_of_status status.NoMemory = 9
number_of_status status.BadWord = 10
number_of_status status.PlanRefused = 11
number_of_status status.BundleRefused = 12
