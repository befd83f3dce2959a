-- A number of 128 bits as its lanes, numbered from the left.
use Rattle.std.specs.Prelude.{ℕ, zero, suc, ◌+◌, ◌-◌, ◌*◌, ◌/◌, ◌%◌, ◌^◌, Bool, true, false, ◌||◌, ◌&&◌}

-- lane i of w bits: lane 0 is the leftmost
unfoldable pub lane : ℕ → ℕ → ℕ → ℕ
lane w x i = x / 2 ^ (128 - w * (i + 1)) % 2 ^ w

-- the number whose n lanes of w bits are f 0, f 1 and so on, from the left
unfoldable pub from_lanes : ℕ → ℕ → (ℕ → ℕ) → ℕ
from_lanes w zero f = 0
from_lanes w (suc n) f = from_lanes w n f * 2 ^ w + f n

-- a test holds of some of the lanes 0 to n - 1
unfoldable pub some_lane : ℕ → (ℕ → Bool) → Bool
some_lane zero holds = false
some_lane (suc n) holds = some_lane n holds || holds n

-- a test holds of each of the lanes 0 to n - 1
unfoldable pub every_lane : ℕ → (ℕ → Bool) → Bool
every_lane zero holds = true
every_lane (suc n) holds = every_lane n holds && holds n
