-- What patching adds to words, and which bytes it leaves.
use Rattle.std.specs.Prelude.{◌≡◌, ℕ, ◌+◌, ◌%◌, ◌<◌, ◌≤◌, List, ◌∷◌, ◌++◌, ◌⊎◌, All, length, slice_index}
use Rattle.s390x_buffer.specs.State.{BufferState}
use Rattle.s390x_buffer.specs.Patch.{word_from, distance_between, half_between, offset_of_label}
use Rattle.s390x_buffer.specs.Finish.{final_labels, unpatched_bytes}
use Rattle.s390x_buffer.specs.Branches.{field_start, field_end, IsApart}
use Rattle.s390x_buffer.specs.declared.entries.LabelFixup.{LabelFixup}
use Rattle.s390x_buffer.specs.declared.label_use.LabelUse.{LabelUse}
use Rattle.s390x_buffer.specs.declared.label_use.LabelUse.TheVariants.{BranchRI, BranchRIL, PCRel32, PCRel32Dbl}

-- the word at an offset became the old word plus the distance, or plus half of it and 1, modulo 2 ^ 32; a branch's field is no sum
abbrev pub IsSum : LabelUse → ℕ → ℕ → List ℕ → List ℕ → Type 0
IsSum BranchRI o target old new = Unit {0}
IsSum BranchRIL o target old new = Unit {0}
IsSum PCRel32 o target old new = word_from new o ≡ (word_from old o + distance_between o target) % 4294967296
IsSum PCRel32Dbl o target old new = word_from new o ≡ (word_from old o + half_between o target + 1) % 4294967296

-- each patched word that shares no byte with another use is the sum of what was put there and the distance
abbrev pub SumsStand : BufferState → List ℕ → Type 0
SumsStand s bs = (before after : List LabelFixup) (u : LabelFixup) → s.uses ≡ before ++ u ∷ after → All (IsApart u) before → All (IsApart u) after → IsSum u.kind u.offset (offset_of_label (final_labels s) u.label.0) (unpatched_bytes s) bs

-- a use leaves the byte with this index
abbrev pub Leaves : ℕ → LabelFixup → Type 0
Leaves i u = (i < field_start u.kind u.offset) ⊎ (field_end u.kind u.offset ≤ i)

-- there are as many bytes as were put and the constants take, and each that no use patches is the one that was put, or a constant's
abbrev pub OthersStand : BufferState → List ℕ → Type 0
OthersStand s bs = (length bs ≡ length (unpatched_bytes s)) × ((i : ℕ) → All (Leaves i) s.uses → slice_index bs i ≡ slice_index (unpatched_bytes s) i)
