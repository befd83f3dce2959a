-- Data accesses: what an instruction reads or stores, when that faults, and what is stored. Each access is one step of the machine.
use Rattle.std.specs.Prelude.{ℕ, ◌%◌, Option, Some, None, Bool, true, false, ◌==◌, not, ◌&&◌, if◌then◌else◌}
use Rattle.s390x_operations.specs.State.{Memory, number_at, reaches, CodeImage, overlaps, StoreEvent}
use Rattle.s390x_operations.specs.Values.{value}
use Rattle.s390x_operations.specs.declared.size.Size.{Size}
use Rattle.s390x_operations.specs.declared.operator.Operator.{Operator}
use Rattle.s390x_operations.specs.declared.stop.StopKind.{StopKind}
use Rattle.s390x_operations.specs.declared.stop.StopKind.TheVariants.{Access as AccessStop, Specification}

-- how a locked access changes what it finds
pub data Change : Type 0 where
  Swaps : (expected replacement : ℕ) → Change
  Operates : Operator → Size → (second : ℕ) → Change

-- what is stored where this number is found; none where the swap finds another number
abbrev pub change_result : Change → ℕ → Option ℕ
change_result (Swaps expected replacement) x = if x == expected then Some replacement else None
change_result (Operates operator size second) x = Some (value operator size x second)

-- size bytes from an address; a locked access reads and stores them with no other access between
pub data Access : Type 0 where
  Untouched : Access
  Reads : (aligned : Bool) → (address size : ℕ) → Access
  Stores : (aligned : Bool) → (address size stored : ℕ) → Access
  Locks : (address size : ℕ) → Change → Access

-- an operand that has to be aligned stands at a multiple of its size (Principles of Operation, chapter 3, "Integral Boundaries")
abbrev pub is_misaligned : Bool → ℕ → ℕ → Bool
is_misaligned aligned a n = aligned && not (a % n == 0)

-- the fault of n bytes: they are misaligned, or else one isn't accessible
abbrev pub reach_fault : Bool → (ℕ → Bool) → ℕ → ℕ → Option StopKind
reach_fault misaligned has a n = if misaligned then Some Specification else (if reaches has a n then None else Some AccessStop)

-- the fault of an access: alignment first, then accessibility. It depends on the accessible addresses alone
abbrev pub fault : Access → (ℕ → Bool) → Option StopKind
fault Untouched has = None
fault (Reads aligned a n) has = reach_fault (is_misaligned aligned a n) has a n
fault (Stores aligned a n v) has = reach_fault (is_misaligned aligned a n) has a n
fault (Locks a n change) has = reach_fault (is_misaligned true a n) has a n

-- the store of a number in n bytes from a, if there is one
abbrev pub store_event_at : ℕ → ℕ → Option ℕ → Option StoreEvent
store_event_at a n None = None
store_event_at a n (Some v) = Some (record { address = a; size = n; value = v })

-- what the access stores, if it stores: an event, also where it changes no byte
abbrev pub store_event : Access → Memory → Option StoreEvent
store_event Untouched m = None
store_event (Reads aligned a n) m = None
store_event (Stores aligned a n v) m = store_event_at a n (Some v)
store_event (Locks a n change) m = store_event_at a n (change_result change (number_at m.get a n))

-- the operand of a store or of a locked access has a byte of the image
abbrev pub stores_into : CodeImage → Access → Bool
stores_into image Untouched = false
stores_into image (Reads aligned a n) = false
stores_into image (Stores aligned a n v) = overlaps image a n
stores_into image (Locks a n change) = overlaps image a n
