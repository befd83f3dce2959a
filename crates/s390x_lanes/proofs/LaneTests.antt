-- Tests of the lanes, one by one.
use Rattle.std.proofs.Common.{◌≡◌, ℕ, ◌+◌, Bool, true, false, refl, add-one, ◌||◌, ◌&&◌}
use Rattle.s390x_lanes.specs.Lanes.{some_lane, every_lane}

pub some_none : (p : ℕ → Bool) → some_lane 0 p ≡ false
unfolding some_lane
some_none p = refl

pub some_more : (i : ℕ) (p : ℕ → Bool) → some_lane (i + 1) p ≡ some_lane i p || p i
unfolding some_lane
some_more i p = rw (add-one i) refl

pub every_none : (p : ℕ → Bool) → every_lane 0 p ≡ true
unfolding every_lane
every_none p = refl

pub every_more : (i : ℕ) (p : ℕ → Bool) → every_lane (i + 1) p ≡ every_lane i p && p i
unfolding every_lane
every_more i p = rw (add-one i) refl
