-- Where patched branches lead.
use Rattle.std.specs.Prelude.{◌≡◌, ℕ, ◌+◌, ◌≤◌, List, ◌∷◌, ◌++◌, ◌⊎◌, All, ℤ, pos, ◌+ℤ◌, ◌*ℤ◌}
use Rattle.std.specs.Int.{cast_signed, w16, w32}
use Rattle.s390x_buffer.specs.State.{BufferState}
use Rattle.s390x_buffer.specs.Patch.{halfword_from, word_from, offset_of_label}
use Rattle.s390x_buffer.specs.Finish.{final_labels}
use Rattle.s390x_buffer.specs.declared.entries.LabelFixup.{LabelFixup}
use Rattle.s390x_buffer.specs.declared.label_use.LabelUse.{LabelUse}
use Rattle.s390x_buffer.specs.declared.label_use.LabelUse.TheVariants.{BranchRI, BranchRIL, PCRel32, PCRel32Dbl}

-- the index of the first byte that a use at an offset patches
abbrev pub field_start : LabelUse → ℕ → ℕ
field_start BranchRI o = o + 2
field_start BranchRIL o = o + 2
field_start PCRel32 o = o
field_start PCRel32Dbl o = o

-- the index behind the last one
abbrev pub field_end : LabelUse → ℕ → ℕ
field_end BranchRI o = o + 4
field_end BranchRIL o = o + 6
field_end PCRel32 o = o + 4
field_end PCRel32Dbl o = o + 4

-- two uses share no patched byte
abbrev pub IsApart : LabelFixup → LabelFixup → Type 0
IsApart u v = (field_end u.kind u.offset ≤ field_start v.kind v.offset) ⊎ (field_end v.kind v.offset ≤ field_start u.kind u.offset)

-- a branch's field, a signed number, doubled and added to the use's offset, is the target
abbrev pub BranchLeadsTo : LabelUse → ℕ → ℕ → List ℕ → Type 0
BranchLeadsTo BranchRI o target bs = (pos o +ℤ (pos 2 *ℤ cast_signed w16 (halfword_from bs (o + 2)))) ≡ pos target
BranchLeadsTo BranchRIL o target bs = (pos o +ℤ (pos 2 *ℤ cast_signed w32 (word_from bs (o + 2)))) ≡ pos target
BranchLeadsTo PCRel32 o target bs = Unit {0}
BranchLeadsTo PCRel32Dbl o target bs = Unit {0}

-- each branch leads to its label where no later use patches a byte of its field
abbrev pub BranchesLead : BufferState → List ℕ → Type 0
BranchesLead s bs = (before after : List LabelFixup) (u : LabelFixup) → s.uses ≡ before ++ u ∷ after → All (IsApart u) after → BranchLeadsTo u.kind u.offset (offset_of_label (final_labels s) u.label.0) bs
