-- Counts of faults, and what a failed call says of them.
use Rattle.std.specs.Prelude.{ℕ, ◌≡◌, ◌+◌, ◌-◌, ◌^◌, ◌≤◌, min, Result, OnOk, OnErr}

-- one more, where the count doesn't stand at its last value
abbrev pub next_count : ℕ → ℕ
next_count n = min (n + 1) (2 ^ 64 - 1)

-- the count rose, or stands at its last value
abbrev pub FaultCountRose : ℕ → ℕ → Type 0
FaultCountRose before now = next_count before ≤ now

-- the count never falls; it stays at Ok, and a failure comes only where it rose or stands at its last value
pub record HasCause {T E : Type 0} (before now : ℕ) (result : Result T E) : Type 0 where
  pub later : before ≤ now
  pub same : OnOk result (now ≡ before)
  pub failed : OnErr result (FaultCountRose before now)
