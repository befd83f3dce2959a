-- Errors of joining that tell a member by its name.
use Rattle.std.specs.Prelude.{List, Option, Some, None, slice_get}
use Rattle.s390x_base.specs.declared.ir.ExternalName.{ExternalName}
use Rattle.s390x_bundle.specs.declared.error.BundleError.{BundleError}
use Rattle.s390x_bundle.specs.declared.error.BundleError.TheVariants.{EmptyMember as HasNoBytes, TooLong as EndsTooLate, AddressTooHigh as StartsTooHigh, Link as LinkRefused, NoMemory}
use Rattle.s390x_bundle.specs.declared.joining.JoinError.{JoinError}
use Rattle.s390x_bundle.specs.declared.joining.JoinError.TheVariants.{Misplaced as MisplacedMember, Unlinked as UnlinkedMember, NoMemory as JoinNoMemory}
use Rattle.s390x_bundle.specs.declared.member.Member.{Member}
use Rattle.s390x_bundle.specs.declared.places.PlaceCause.{PlaceCause}
use Rattle.s390x_bundle.specs.declared.places.PlaceCause.TheVariants.{EmptyMember, TooLong, AddressTooHigh}
use Rattle.s390x_bundle.specs.Names.{names_of}

-- the error of a place by a member's name
abbrev pub place_error : PlaceCause → ExternalName → BundleError
place_error EmptyMember name = HasNoBytes name
place_error TooLong name = EndsTooLate name
place_error AddressTooHigh name = StartsTooHigh name

-- the same error, which tells the member by its name
abbrev pub named_error : Option ExternalName → JoinError → Option BundleError
named_error (Some name) (MisplacedMember n cause) = Some (place_error cause name)
named_error (Some name) (UnlinkedMember n error) = Some (LinkRefused name error)
named_error name JoinNoMemory = Some NoMemory
named_error None (MisplacedMember n cause) = None
named_error None (UnlinkedMember n error) = None

-- the member that an error tells
abbrev pub member_in_error : List Member → JoinError → Option ExternalName
member_in_error members (MisplacedMember n cause) = slice_get (names_of members) n
member_in_error members (UnlinkedMember n error) = slice_get (names_of members) n
member_in_error members JoinNoMemory = None
