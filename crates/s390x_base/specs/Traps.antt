-- Trap codes.
use Rattle.std.specs.Prelude.{ℕ, ◌≤◌, Option, Some, None}
use Rattle.s390x_base.specs.declared.trap.TrapKind.{TrapKind}
use Rattle.s390x_base.specs.declared.trap.TrapKind.TheVariants.{StackOverflow, IntegerOverflow, HeapOutOfBounds, IntegerDivisionByZero, BadConversionToInteger, User}

-- a user code has a number of 1 to 250
abbrev pub IsKind : TrapKind → Type 0
IsKind StackOverflow = Unit {0}
IsKind IntegerOverflow = Unit {0}
IsKind HeapOutOfBounds = Unit {0}
IsKind IntegerDivisionByZero = Unit {0}
IsKind BadConversionToInteger = Unit {0}
IsKind (User n) = (1 ≤ n) × (n ≤ 250)

-- the number of a user code; none of another code
abbrev pub user_of : TrapKind → Option ℕ
user_of StackOverflow = None
user_of IntegerOverflow = None
user_of HeapOutOfBounds = None
user_of IntegerDivisionByZero = None
user_of BadConversionToInteger = None
user_of (User n) = Some n
