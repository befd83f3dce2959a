-- Parts of what a source has: the first bytes of a buffer, which were read to it.
use Rattle.std.proofs.Common.{◌≡◌, ℕ, ◌+◌, ◌≤◌, ◌<◌, List, length, take, drop, sym, subst, arith, length-take, take-add}
use Rattle.std.specs.Prelude.{Option}
use Rattle.std.specs.Io.KnownBytes.{Consumes, Keeps}
use Rattle.std.proofs.KnownBytes.{Consumes-kept, Consumes-trans}
use Rattle.s390x_tool.specs.Ends.{IsPartRead, IsTooLong, most_bytes, too_many}

-- so many were read
pub front_read : (before after : Option (List ℕ)) (held most : ℕ) (buf : List ℕ) → Consumes before after (take held buf) → held ≤ most → IsPartRead before after most
front_read before after held most buf consumed few = record { taken = take held buf; consumed = consumed; few = omega (arith, few, length-take held buf) }

-- so many were read before a read that failed
pub front_kept : (before here after : Option (List ℕ)) (held most : ℕ) (buf : List ℕ) → Consumes before here (take held buf) → Keeps here after → held ≤ most → IsPartRead before after most
front_kept before here after held most buf consumed kept few = front_read before after held most buf (Consumes-kept before here after (take held buf) consumed kept) few

-- too many were read
pub front_too_long : (before after : Option (List ℕ)) (held : ℕ) (buf : List ℕ) → Consumes before after (take held buf) → held ≤ length buf → length buf ≤ too_many → most_bytes < held → IsTooLong before after
front_too_long before after held buf consumed within bound long =
    record { taken = take held buf; consumed = consumed; long = omega (arith, length-take held buf, within, bound, long) }

-- one more read put bytes behind those
pub front_grows : (before here after : Option (List ℕ)) (held count : ℕ) (old new : List ℕ) → Consumes before here (take held old) → take held new ≡ take held old
    → Consumes here after (take count (drop held new)) → Consumes before after (take (held + count) new)
front_grows before here after held count old new first kept second =
    rw (take-add held count new) (Consumes-trans before here after (take held new) (take count (drop held new)) (subst (Consumes before here) (sym kept) first) second)
