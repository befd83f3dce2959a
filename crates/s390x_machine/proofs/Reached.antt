-- An access without a fault is accessible.
use Rattle.std.proofs.Common.{◌≡◌, ℕ, Bool, true, false, if◌then◌else◌, Option, Some, None, IsTrue, refl}
use Rattle.std.specs.Option.{is_some}
use Rattle.s390x_operations.specs.State.{reaches}
use Rattle.s390x_operations.specs.Access.{Access, Untouched, Reads, Stores, Locks, is_misaligned, fault}
use Rattle.s390x_operations.specs.declared.stop.StopKind.{StopKind}
use Rattle.s390x_operations.specs.declared.stop.StopKind.TheVariants.{Specification, Access as AccessStop}
use Rattle.s390x_machine.specs.Sound.{is_reached}

pub none_of : (o : Option StopKind) → is_some o ≡ false → o ≡ None
none_of None h = refl
none_of (Some kind) h = cc

within : (misaligned reached : Bool) → (if misaligned then Some Specification else (if reached then None else Some AccessStop)) ≡ None → IsTrue reached
within true reached h = cc
within false true h = refl
within false false h = cc

pub reached_of : (x : Access) (has : ℕ → Bool) → fault x has ≡ None → IsTrue (is_reached x has)
reached_of Untouched has h = refl
reached_of (Reads aligned a n) has h = within (is_misaligned aligned a n) (reaches has a n) h
reached_of (Stores aligned a n v) has h = within (is_misaligned aligned a n) (reaches has a n) h
reached_of (Locks a n change) has h = within (is_misaligned true a n) (reaches has a n) h
