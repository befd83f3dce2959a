-- Entries in the caller's buffer.
use Rattle.std.specs.Prelude.{◌≡◌, ◌<◌, ℕ, List, length}
use Rattle.s390x_tables.specs.Tables.{overwritten}
use Rattle.s390x_calls.specs.declared.status.Status.{Status}
use Rattle.s390x_calls.specs.declared.status.Status.TheVariants as status

-- the buffer begins with these entries and is behind them as it was, and they are so many
pub record HoldsEntries {A : Type 0} (entries old new : List A) (count : ℕ) : Type 0 where
  pub holds : new ≡ overwritten old entries
  pub counted : count ≡ length entries

-- the buffer has no room for these entries and is as it was, and they are so many
pub record HasNoRoom {A : Type 0} (entries old new : List A) (count : ℕ) : Type 0 where
  pub lacks : length old < length entries
  pub kept : new ≡ old
  pub counted : count ≡ length entries

-- how a call ends that writes these entries
abbrev pub PutsEntries : {A : Type 0} → (entries old new : List A) → (count : ℕ) → Status → Type 0
PutsEntries entries old new count status.Done = HoldsEntries entries old new count
PutsEntries entries old new count status.TooSmall = HasNoRoom entries old new count
PutsEntries entries old new count s = ⊥

-- neither the buffer nor the count is written
pub record NoEntryIsWritten {A : Type 0} (old new : List A) (count count' : ℕ) : Type 0 where
  pub buffer : new ≡ old
  pub count_kept : count' ≡ count
