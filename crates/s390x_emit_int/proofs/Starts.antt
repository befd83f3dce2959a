-- Where emission's fragments leave the offsets of steps, and what they leave as it was.
use Rattle.std.proofs.Common.{◌≡◌, ℕ, ◌+◌, List, [], ◌∷◌, ◌++◌, length, refl, sym, ap, append-nil}
use Rattle.s390x_buffer.specs.State.{BufferState}
use Rattle.s390x_inst.specs.declared.inst.Inst.{Inst}
use Rattle.s390x_inst.specs.declared.inst.Inst.TheVariants.{CondBreak, JTSequence}
use Rattle.s390x_typed_steps.specs.Tree.{Tree, Whole, StepBody}
use Rattle.s390x_typed_steps.specs.Steps.{Step as TypedStep, step_of, steps_from}
use Rattle.s390x_typed_steps.specs.Parts.{CodePart, Branch, Relative, TableWord, ToBlock, ToStep, table_words, instruction_parts, step_parts}
use Rattle.s390x_typed_steps.specs.Image.{step_offsets}
use Rattle.s390x_emit_int.specs.Fragments.{Fragment, Put, PutTrapping, PutReloc, Link, LinkConstant, StartStep, Draw, Bind, apply, apply_all, AddSite, RecordBranch}
use Rattle.s390x_emit_int.specs.Emission.{part_fragment, part_fragments, leaf_fragments, fragments, body_fragments, function_fragments}
use Rattle.s390x_emit_int.specs.Bound.{StepsFollow}
use Rattle.s390x_emit_int.proofs.Collecting.{Collects, collected, collected_run, parts_collected, function_collected}

-- the offset that a fragment records
abbrev pub fragment_marks : ℕ → Fragment → List ℕ
fragment_marks p StartStep = p ∷ []
fragment_marks p x = []

-- the offsets of steps in fragments that begin at an offset
abbrev pub marks : ℕ → List Fragment → List ℕ
marks p xs = collected fragment_marks p xs

starts_applied : (x : Fragment) (s : BufferState) → (apply s x).starts ≡ s.starts ++ fragment_marks (length s.bytes) x
starts_applied StartStep s = refl
starts_applied x s = sym (append-nil s.starts)

pub starts_run : (ps : List Fragment) (s : BufferState) → (apply_all s ps).starts ≡ s.starts ++ marks (length s.bytes) ps
starts_run ps s = collected_run (λ s. s.starts) fragment_marks starts_applied ps s

part_unmarked : (x : CodePart) (p : ℕ) → fragment_marks p (part_fragment x) ≡ []
part_unmarked (Branch mask (ToBlock b)) p = refl
part_unmarked (Branch mask (ToStep k)) p = refl
part_unmarked (Relative opcode register (ToBlock b)) p = refl
part_unmarked (Relative opcode register (ToStep k)) p = refl
part_unmarked (TableWord before (ToBlock b)) p = refl
part_unmarked (TableWord before (ToStep k)) p = refl
part_unmarked x p = refl

parts_unmarked : (parts : List CodePart) (p : ℕ) → marks p (part_fragments parts) ≡ []
parts_unmarked = parts_collected fragment_marks (λ p x. []) (λ p xs. []) (record { none = λ p. refl; first = λ x xs p. refl; each = part_unmarked })

leaf_unmarked : (n after : ℕ) (i : Inst) (p : ℕ) → marks p (leaf_fragments n after i) ≡ []
leaf_unmarked n after (CondBreak mask) p = refl
leaf_unmarked n after (JTSequence ridx other mask targets) p = parts_unmarked (table_words 0 targets.items) _
leaf_unmarked n after i p = parts_unmarked (instruction_parts i) p

body_unmarked : (n after : ℕ) (b : StepBody) (p : ℕ) → marks p (body_fragments n after b) ≡ []
body_unmarked n after (Whole i) p = leaf_unmarked n after i p
body_unmarked n after b p = parts_unmarked (step_parts (step_of 0 b)) p

-- a step has its own offset
abbrev own_offset : ℕ → TypedStep → List ℕ
own_offset p s = p ∷ []

collects_marks : Collects fragment_marks own_offset step_offsets
collects_marks = record { none = λ at k. refl; first = λ at k s ss. refl; body = λ n after end b p. ap (λ l. p ∷ l) (body_unmarked n after b p); opening = λ n p. refl; back = λ n mask k p. refl; bound = λ b p. refl }

pub function_marks : (ts : List Tree) (at : ℕ → ℕ) (n b k : ℕ) → StepsFollow at k (steps_from k ts) → marks (at k) (function_fragments n b ts) ≡ step_offsets at k (steps_from k ts)
function_marks = function_collected fragment_marks own_offset step_offsets collects_marks

-- what fragments leave as it was
pub record Same (s t : BufferState) : Type 0 where
  pub block_count : t.block_count ≡ s.block_count
  pub constants : t.constants ≡ s.constants
  pub is_poisoned : t.is_poisoned ≡ s.is_poisoned

pub same_run : (ps : List Fragment) (s : BufferState) → Same s (apply_all s ps)
same_run [] s = record { block_count = refl; constants = refl; is_poisoned = refl }
same_run (Put bs ∷ ps) s = let r = same_run ps (apply s (Put bs)) in record { block_count = r.block_count; constants = r.constants; is_poisoned = r.is_poisoned }
same_run (PutReloc bs byte kind name addend ∷ ps) s = let r = same_run ps (apply s (PutReloc bs byte kind name addend)) in record { block_count = r.block_count; constants = r.constants; is_poisoned = r.is_poisoned }
same_run (PutTrapping bs byte code ∷ ps) s = let r = same_run ps (apply s (PutTrapping bs byte code)) in record { block_count = r.block_count; constants = r.constants; is_poisoned = r.is_poisoned }
same_run (Link k l bs ∷ ps) s = let r = same_run ps (apply s (Link k l bs)) in record { block_count = r.block_count; constants = r.constants; is_poisoned = r.is_poisoned }
same_run (LinkConstant c bs ∷ ps) s = let r = same_run ps (apply s (LinkConstant c bs)) in record { block_count = r.block_count; constants = r.constants; is_poisoned = r.is_poisoned }
same_run (StartStep ∷ ps) s = let r = same_run ps (apply s StartStep) in record { block_count = r.block_count; constants = r.constants; is_poisoned = r.is_poisoned }
same_run (Draw ∷ ps) s = let r = same_run ps (apply s Draw) in record { block_count = r.block_count; constants = r.constants; is_poisoned = r.is_poisoned }
same_run (Bind l ∷ ps) s = let r = same_run ps (apply s (Bind l)) in record { block_count = r.block_count; constants = r.constants; is_poisoned = r.is_poisoned }
same_run (AddSite site ∷ ps) s = let r = same_run ps (apply s (AddSite site)) in record { block_count = r.block_count; constants = r.constants; is_poisoned = r.is_poisoned }
same_run (RecordBranch noted ∷ ps) s = let r = same_run ps (apply s (RecordBranch noted)) in record { block_count = r.block_count; constants = r.constants; is_poisoned = r.is_poisoned }
