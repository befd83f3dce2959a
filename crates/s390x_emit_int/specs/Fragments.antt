-- What emission does to a buffer, fragment by fragment.
use Rattle.s390x_base.specs.declared.ir.ExternalName.{ExternalName}
use Rattle.s390x_base.specs.declared.ir.Reloc.{Reloc}
use Rattle.std.specs.Prelude.{ℕ, ℤ, ◌+◌, List, [], ◌∷◌, ◌++◌, length, Some, None, set}
use Rattle.s390x_base.specs.declared.trap.TrapKind.{TrapKind}
use Rattle.s390x_buffer.specs.State.{BufferState, constant_label}
use Rattle.s390x_typed_steps.specs.Sites.{call_of, try_of, patch_of, map_of}
use Rattle.s390x_typed_steps.specs.StepBody.{Site}
use Rattle.s390x_buffer.specs.BlockEnd.{with_jump, with_conditional}
use Rattle.s390x_buffer.specs.declared.entries.RecordedBranches.{RecordedBranches}
use Rattle.s390x_buffer.specs.declared.entries.RecordedBranches.TheVariants.{NoBranch}
use Rattle.s390x_buffer.specs.declared.label_use.LabelUse.{LabelUse}
use Rattle.s390x_buffer.specs.declared.label_use.LabelUse.TheVariants.{BranchRIL}

-- a branch that the end of its block may fold: one that is always taken, or a conditional one, with the bytes of that under the inverse condition
pub data FoldableBranch : Type 0 where
  AlwaysTaken : (label : ℕ) → FoldableBranch
  TakenWhere : (label : ℕ) → (inverted : List ℕ) → FoldableBranch

-- one thing that emission does to a buffer
pub data Fragment : Type 0 where
  -- bytes
  Put : List ℕ → Fragment
  -- bytes, with a trap recorded at one of them
  PutTrapping : List ℕ → (byte : ℕ) → TrapKind → Fragment
  -- bytes, with a relocation recorded at one of them
  PutReloc : List ℕ → (byte : ℕ) → Reloc → ExternalName → (addend : ℤ) → Fragment
  -- bytes that a use of a label patches from their beginning on
  Link : LabelUse → (label : ℕ) → List ℕ → Fragment
  -- bytes that a use of a constant's label patches, by a distance like that of a branch
  LinkConstant : (constant : ℕ) → List ℕ → Fragment
  -- the offset of the next step
  StartStep : Fragment
  -- a label is drawn
  Draw : Fragment
  -- a label is bound here
  Bind : (label : ℕ) → Fragment
  -- what is recorded here of a call
  AddSite : Site → Fragment
  -- the branch whose bytes are put next is recorded
  RecordBranch : FoldableBranch → Fragment

-- the buffer with a site at an offset, in the table of its kind
abbrev pub with_site : BufferState → (offset : ℕ) → Site → BufferState
with_site s p site = record s { call_sites = s.call_sites ++ call_of p site; try_call_sites = s.try_call_sites ++ try_of p site; patchable_sites = s.patchable_sites ++ patch_of p site; stack_maps = s.stack_maps ++ map_of p site }

-- what is recorded with one more branch at an offset
abbrev pub with_branch : RecordedBranches → (offset : ℕ) → FoldableBranch → RecordedBranches
with_branch bs p (AlwaysTaken l) = with_jump bs p (record { 0 = l })
with_branch bs p (TakenWhere l inverted) = with_conditional bs p (record { 0 = l }) inverted

-- the buffer after a fragment
abbrev pub apply : BufferState → Fragment → BufferState
apply s (Put bs) = record s { bytes = s.bytes ++ bs }
apply s (PutTrapping bs byte code) = record s { bytes = s.bytes ++ bs; traps = s.traps ++ record { offset = length s.bytes + byte; code = code } ∷ [] }
apply s (PutReloc bs byte kind name addend) = record s { bytes = s.bytes ++ bs; relocs = s.relocs ++ record { offset = length s.bytes + byte; kind = kind; name = name; addend = addend } ∷ [] }
apply s (Link kind l bs) = record s { bytes = s.bytes ++ bs; uses = s.uses ++ record { kind = kind; offset = length s.bytes; label = record { 0 = l } } ∷ [] }
apply s (LinkConstant c bs) = record s { bytes = s.bytes ++ bs; uses = s.uses ++ record { kind = BranchRIL; offset = length s.bytes; label = record { 0 = constant_label s c } } ∷ [] }
apply s StartStep = record s { starts = s.starts ++ length s.bytes ∷ []; branches = NoBranch }
apply s Draw = record s { labels = s.labels ++ None ∷ [] }
apply s (Bind l) = record s { labels = set s.labels l (Some (length s.bytes)); branches = NoBranch }
apply s (AddSite site) = with_site s (length s.bytes) site
apply s (RecordBranch branch) = record s { branches = with_branch s.branches (length s.bytes) branch }

-- the buffer after fragments, one after another
abbrev pub apply_all : BufferState → List Fragment → BufferState
apply_all s [] = s
apply_all s (p ∷ ps) = apply_all (apply s p) ps
