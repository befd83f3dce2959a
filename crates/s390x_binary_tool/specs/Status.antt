-- How the second program ends: the numbers of the statuses.
use Rattle.std.specs.Prelude.{ℕ}
use Rattle.s390x_tool.specs.Status.{number_of_status}
use Rattle.s390x_binary_tool.specs.declared.status.BinaryStatus.{BinaryStatus}
use Rattle.s390x_binary_tool.specs.declared.status.BinaryStatus.TheVariants.{Shared, Differs, ObjectRefused}

-- the number with which the program ends
abbrev pub number_of_binary_status : BinaryStatus → ℕ
number_of_binary_status (Shared s) = number_of_status s
number_of_binary_status Differs = 13
number_of_binary_status ObjectRefused = 14
