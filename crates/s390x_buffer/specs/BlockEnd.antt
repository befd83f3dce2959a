-- Branches that are recorded, and what the end of a block makes of them.
use Rattle.std.specs.Prelude.{◌≡◌, ℕ, ◌+◌, ◌-◌, List, [], ◌∷◌, ◌++◌, length, take, Option, Some, None, Bool, true, false, cond, ◌||◌, ◌&&◌, nat_eq}
use Rattle.s390x_base.specs.declared.ir.MachLabel.{MachLabel}
use Rattle.s390x_buffer.specs.State.{BufferState}
use Rattle.s390x_buffer.specs.Extends.{IsPrefix}
use Rattle.s390x_buffer.specs.declared.entries.LabelFixup.{LabelFixup}
use Rattle.s390x_buffer.specs.declared.entries.RecordedBranches.{RecordedBranches}
use Rattle.s390x_buffer.specs.declared.entries.RecordedBranches.TheVariants.{NoBranch, LoneJump, LoneConditional, ConditionalThenJump, OtherBranches}
use Rattle.s390x_buffer.specs.declared.label_use.LabelUse.{LabelUse}
use Rattle.s390x_buffer.specs.declared.label_use.LabelUse.TheVariants.{BranchRI, BranchRIL, PCRel32, PCRel32Dbl}

-- the kind of use that a folded branch has
abbrev pub is_long : LabelUse → Bool
is_long BranchRI = false
is_long BranchRIL = true
is_long PCRel32 = false
is_long PCRel32Dbl = false

-- whether a use is that of a branch at an offset to a label
abbrev pub is_branch_use : ℕ → ℕ → LabelFixup → Bool
is_branch_use start l u = is_long u.kind && (nat_eq u.offset start && nat_eq u.label.0 l)

-- whether one of the uses is
abbrev pub has_use : ℕ → ℕ → List LabelFixup → Bool
has_use start l [] = false
has_use start l (u ∷ us) = is_branch_use start l u || has_use start l us

-- the uses less the last one that is
abbrev pub without_use : ℕ → ℕ → List LabelFixup → List LabelFixup
without_use start l [] = []
without_use start l (u ∷ us) = cond (has_use start l us) (u ∷ without_use start l us) (cond (is_branch_use start l u) us (u ∷ us))

-- whether the recorded branches end at an offset
abbrev pub end_at : RecordedBranches → ℕ → Bool
end_at NoBranch n = false
end_at (LoneJump start target) n = nat_eq (start + 6) n
end_at (LoneConditional start target inverted) n = nat_eq (start + 6) n
end_at (ConditionalThenJump start taken not_taken inverted) n = nat_eq (start + 12) n
end_at (OtherBranches stop) n = nat_eq stop n

-- branches, and one that is always taken right behind them
abbrev pub jump_behind : RecordedBranches → ℕ → MachLabel → RecordedBranches
jump_behind NoBranch start l = OtherBranches (start + 6)
jump_behind (LoneJump s target) start l = OtherBranches (start + 6)
jump_behind (LoneConditional s target inverted) start l = ConditionalThenJump s target l inverted
jump_behind (ConditionalThenJump s taken not_taken inverted) start l = OtherBranches (start + 6)
jump_behind (OtherBranches stop) start l = OtherBranches (start + 6)

-- what is recorded with one more that is always taken
abbrev pub with_jump : RecordedBranches → ℕ → MachLabel → RecordedBranches
with_jump bs start l = cond (end_at bs start) (jump_behind bs start l) (LoneJump start l)

-- what is recorded with one more that is conditional
abbrev pub with_conditional : RecordedBranches → ℕ → MachLabel → List ℕ → RecordedBranches
with_conditional bs start l inverted = cond (end_at bs start) (OtherBranches (start + 6)) (LoneConditional start l inverted)

-- the buffer without a branch: its bytes from the start on are cut, and its use is gone
abbrev pub cut : ℕ → ℕ → BufferState → BufferState
cut start l s = record s { bytes = take start s.bytes; uses = without_use start l s.uses; branches = NoBranch }

-- the buffer with the inverted branch in place of both
abbrev pub inverted_alone : ℕ → ℕ → MachLabel → List ℕ → BufferState → BufferState
inverted_alone start taken not_taken inverted s = record s {
  bytes = take start s.bytes ++ inverted;
  uses = without_use start taken (without_use (start + 6) not_taken.0 s.uses) ++ record { kind = BranchRIL; offset = start; label = not_taken } ∷ [];
  branches = NoBranch;
}

-- a conditional branch and the one behind it where one of their labels is the next block: the second one is cut
-- where it leads there, the first one too where both do; where the first one alone does, the inverted one stands for both
abbrev pub both_ended : ℕ → ℕ → MachLabel → MachLabel → List ℕ → BufferState → BufferState
both_ended next start taken not_taken inverted s = cond (nat_eq not_taken.0 next)
    (cond (nat_eq taken.0 next) (cut start taken.0 (cut (start + 6) not_taken.0 s)) (cut (start + 6) not_taken.0 s))
    (cond (nat_eq taken.0 next) (inverted_alone start taken.0 not_taken inverted s) s)

-- the buffer at the end of a block, by the branches that are recorded: only such count as end where the bytes do
abbrev pub ended_by : RecordedBranches → ℕ → BufferState → BufferState
ended_by NoBranch next s = s
ended_by (LoneJump start target) next s = cond (nat_eq (start + 6) (length s.bytes) && nat_eq target.0 next) (cut start target.0 s) s
ended_by (LoneConditional start target inverted) next s = s
ended_by (ConditionalThenJump start taken not_taken inverted) next s = cond (nat_eq (start + 12) (length s.bytes)) (both_ended next start taken not_taken inverted s) s
ended_by (OtherBranches stop) next s = s

-- the buffer at the end of a block, before the block of this label, if any
abbrev pub at_block_end : Option MachLabel → BufferState → BufferState
at_block_end None s = s
at_block_end (Some next) s = ended_by s.branches next.0 s

-- all bytes stay but the last twelve at most, and all tables but the uses
pub record KeepsTables (s t : BufferState) : Type 0 where
  pub bytes : IsPrefix (take (length s.bytes - 12) s.bytes) t.bytes
  pub labels : t.labels ≡ s.labels
  pub traps : t.traps ≡ s.traps
  pub relocs : t.relocs ≡ s.relocs
  pub call_sites : t.call_sites ≡ s.call_sites
  pub try_call_sites : t.try_call_sites ≡ s.try_call_sites
  pub patchable_sites : t.patchable_sites ≡ s.patchable_sites
  pub stack_maps : t.stack_maps ≡ s.stack_maps
  pub starts : t.starts ≡ s.starts
  pub block_count : t.block_count ≡ s.block_count
  pub constants : t.constants ≡ s.constants
