-- Patching: what the uses of labels make of the bytes.
use Rattle.std.specs.Prelude.{ℕ, ◌+◌, ◌-◌, ◌*◌, ◌/◌, ◌%◌, List, [], ◌∷◌, length, Option, Some, None, Bool, true, cond, ◌&&◌, nat_lt, nat_le, nat_eq, set, get_or, is_some, slice_index}
use Rattle.s390x_buffer.specs.declared.entries.LabelFixup.{LabelFixup}
use Rattle.s390x_buffer.specs.declared.label_use.LabelUse.{LabelUse}
use Rattle.s390x_buffer.specs.declared.label_use.LabelUse.TheVariants.{BranchRI, BranchRIL, PCRel32, PCRel32Dbl}
use Rattle.s390x_base.specs.declared.error.EmitError.{EmitError}
use Rattle.s390x_base.specs.declared.error.EmitError.TheVariants.{UnboundLabel, LabelOutOfRange}

-- two bytes of a list become a number's lowest, the most significant first
abbrev pub set2 : List ℕ → ℕ → ℕ → List ℕ
set2 bs o v = set (set bs o (v / 256 % 256)) (o + 1) (v % 256)

-- four bytes of a list become a number's lowest, the most significant first
abbrev pub set4 : List ℕ → ℕ → ℕ → List ℕ
set4 bs o v = set (set (set (set bs o (v / 16777216 % 256)) (o + 1) (v / 65536 % 256)) (o + 2) (v / 256 % 256)) (o + 3) (v % 256)

-- the number of two bytes of a list
abbrev pub halfword_from : List ℕ → ℕ → ℕ
halfword_from bs o = slice_index bs o * 256 + slice_index bs (o + 1)

-- the number of four bytes of a list
abbrev pub word_from : List ℕ → ℕ → ℕ
word_from bs o = slice_index bs o * 16777216 + slice_index bs (o + 1) * 65536 + slice_index bs (o + 2) * 256 + slice_index bs (o + 3)

-- the distance from an offset to a target, modulo 2 ^ 32
abbrev pub distance_between : ℕ → ℕ → ℕ
distance_between offset target = (4294967296 + target - offset) % 4294967296

-- half of the distance, modulo 2 ^ 32. 8589934592 is 2 ^ 33, added so that the subtraction doesn't stop at 0
abbrev pub half_between : ℕ → ℕ → ℕ
half_between offset target = (8589934592 + target - offset) / 2 % 4294967296

-- the greatest distance of a use
abbrev pub max_pos_range : LabelUse → ℕ
max_pos_range BranchRI = 65534
max_pos_range BranchRIL = 4294967294
max_pos_range PCRel32 = 2147483647
max_pos_range PCRel32Dbl = 4294967292

-- the size of the least distance of a use
abbrev pub max_neg_range : LabelUse → ℕ
max_neg_range BranchRI = 65536
max_neg_range BranchRIL = 4294967295
max_neg_range PCRel32 = 2147483648
max_neg_range PCRel32Dbl = 4294967295

-- how many bytes a use has
abbrev pub patch_size : LabelUse → ℕ
patch_size BranchRI = 4
patch_size BranchRIL = 6
patch_size PCRel32 = 4
patch_size PCRel32Dbl = 4

-- what a use of a target makes of a list in which it begins at an index; the offset is its offset in the code
abbrev pub patch : LabelUse → ℕ → ℕ → ℕ → List ℕ → List ℕ
patch BranchRI at offset target bs = set2 bs (at + 2) (half_between offset target)
patch BranchRIL at offset target bs = set4 bs (at + 2) (half_between offset target)
patch PCRel32 at offset target bs = set4 bs at ((word_from bs at + distance_between offset target) % 4294967296)
patch PCRel32Dbl at offset target bs = set4 bs at ((word_from bs at + half_between offset target + 1) % 4294967296)

-- the distance from an offset to a target is even and in the range of a use
abbrev pub is_in_reach : LabelUse → ℕ → ℕ → Bool
is_in_reach k offset target = nat_eq ((offset + target) % 2) 0 && (nat_le target (offset + max_pos_range k) && nat_le offset (target + max_neg_range k))

-- a word as a signed number, plus 2 ^ 31
abbrev pub biased_word : ℕ → ℕ
biased_word w = (w + 2147483648) % 4294967296

-- a signed word plus the distance is a signed word again; only PCRel32 asks for it
abbrev pub sum_fits : LabelUse → ℕ → ℕ → ℕ → Bool
sum_fits BranchRI w offset target = true
sum_fits BranchRIL w offset target = true
sum_fits PCRel32 w offset target = nat_le offset (biased_word w + target) && nat_lt (biased_word w + target) (offset + 4294967296)
sum_fits PCRel32Dbl w offset target = true

-- a label's place; 0 for one that isn't bound
abbrev pub bound_offset : Option ℕ → ℕ
bound_offset None = 0
bound_offset (Some p) = p

-- the offset of the label of a number
abbrev pub offset_of_label : List (Option ℕ) → ℕ → ℕ
offset_of_label labels l = bound_offset (get_or labels l None)

-- whether the label of a number is bound
abbrev pub is_bound : List (Option ℕ) → ℕ → Bool
is_bound labels l = is_some (get_or labels l None)

-- bytes with a use patched, where the labels have these places
abbrev pub patch_use : (ℕ → ℕ) → LabelFixup → List ℕ → List ℕ
patch_use off u bs = patch u.kind u.offset u.offset (off u.label.0) bs

-- each use in the order of the calls
abbrev pub patch_all : (ℕ → ℕ) → List LabelFixup → List ℕ → List ℕ
patch_all off [] bs = bs
patch_all off (u ∷ us) bs = patch_all off us (patch_use off u bs)

-- whether a use of a target can be patched into bytes: in reach, with a sum that fits, and within the bytes
abbrev pub can_patch : LabelUse → ℕ → ℕ → List ℕ → Bool
can_patch k offset target bs = is_in_reach k offset target && (sum_fits k (word_from bs offset) offset target && nat_le (offset + patch_size k) (length bs))

-- why a use can't be patched into bytes
abbrev pub use_cause : List (Option ℕ) → List ℕ → LabelFixup → Option EmitError
use_cause labels bs u = cond (is_bound labels u.label.0) (cond (can_patch u.kind u.offset (offset_of_label labels u.label.0) bs) None (Some LabelOutOfRange)) (Some UnboundLabel)

-- the first of two causes
abbrev pub first_use_cause : Option EmitError → Option EmitError → Option EmitError
first_use_cause None o = o
first_use_cause (Some e) o = Some e

-- the first use that can't be patched, each judged on the bytes that the earlier ones left
abbrev pub uses_cause : List (Option ℕ) → List LabelFixup → List ℕ → Option EmitError
uses_cause labels [] bs = None
uses_cause labels (u ∷ us) bs = first_use_cause (use_cause labels bs u) (uses_cause labels us (patch_use (offset_of_label labels) u bs))
