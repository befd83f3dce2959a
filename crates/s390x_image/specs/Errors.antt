-- The numbers of errors.
use Rattle.std.specs.Prelude.{ℕ}
use Rattle.s390x_image.specs.declared.error.LinkError.{LinkError}
use Rattle.s390x_image.specs.declared.error.LinkError.TheVariants.{MisalignedBase, ImageTooHigh, UndefinedSymbol, AddressOverflow, OddSymbol, TooFar, NoMemory}

-- the number of an error of linking, 1 to 7
abbrev pub number_of_link_error : LinkError → ℕ
number_of_link_error MisalignedBase = 1
number_of_link_error ImageTooHigh = 2
number_of_link_error UndefinedSymbol = 3
number_of_link_error AddressOverflow = 4
number_of_link_error OddSymbol = 5
number_of_link_error TooFar = 6
number_of_link_error NoMemory = 7
