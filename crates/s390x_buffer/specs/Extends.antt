-- What stood in a buffer still stands, whatever a call answers.
use Rattle.std.specs.Prelude.{◌≡◌, ◌≢◌, ℕ, ◌<◌, ◌≤◌, List, length, take, get_or, None}
use Rattle.s390x_buffer.specs.State.{BufferState}

-- the second list begins with the first one
abbrev pub IsPrefix : {A : Type 0} → List A → List A → Type 0
IsPrefix xs ys = take (length xs) ys ≡ xs

-- every list of the first buffer begins that of the second, none of its labels is gone, and the count of blocks and the constants are the same
pub record ExtendsEntries (s t : BufferState) : Type 0 where
  pub bytes : IsPrefix s.bytes t.bytes
  pub uses : IsPrefix s.uses t.uses
  pub traps : IsPrefix s.traps t.traps
  pub relocs : IsPrefix s.relocs t.relocs
  pub call_sites : IsPrefix s.call_sites t.call_sites
  pub try_call_sites : IsPrefix s.try_call_sites t.try_call_sites
  pub patchable_sites : IsPrefix s.patchable_sites t.patchable_sites
  pub stack_maps : IsPrefix s.stack_maps t.stack_maps
  pub starts : IsPrefix s.starts t.starts
  pub label_count : length s.labels ≤ length t.labels
  pub block_count : t.block_count ≡ s.block_count
  pub constants : t.constants ≡ s.constants

-- and each label of the first buffer stays bound where it was, or unbound
pub record Extends (s t : BufferState) : Type 0 where
  pub entries : ExtendsEntries s t
  pub labels : (l : ℕ) → l < length s.labels → get_or t.labels l None ≡ get_or s.labels l None

-- the first buffer's entries stay, and so do all its labels but one, which the call may bind
pub record ExtendsExcept (label : ℕ) (s t : BufferState) : Type 0 where
  pub entries : ExtendsEntries s t
  pub labels : (l : ℕ) → l < length s.labels → l ≢ label → get_or t.labels l None ≡ get_or s.labels l None
