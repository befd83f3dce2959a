-- The relocations that emission's fragments record are those of the typed steps.
use Rattle.std.proofs.Common.{◌≡◌, ℕ, ◌+◌, List, [], ◌∷◌, ◌++◌, length, refl, sym, ap, ◌∙◌, append-nil, add-zero}
use Rattle.s390x_buffer.specs.State.{BufferState}
use Rattle.s390x_buffer.specs.declared.entries.RelocEntry.{RelocEntry}
use Rattle.s390x_inst.specs.declared.inst.Inst.{Inst}
use Rattle.s390x_inst.specs.declared.inst.Inst.TheVariants.{CondBreak, JTSequence}
use Rattle.s390x_base.specs.declared.ir.MachLabel.{MachLabel}
use Rattle.s390x_base.specs.declared.ir.Reloc.TheVariants.{Abs8}
use Rattle.s390x_typed_steps.specs.Tree.{Tree, Whole, StepBody}
use Rattle.s390x_typed_steps.specs.Steps.{step_of, steps_from}
use Rattle.s390x_typed_steps.specs.Parts.{CodePart, Branch, Relative, SymbolValue, TableWord, ToBlock, ToStep, table_words, instruction_parts, step_parts}
use Rattle.s390x_typed_steps.specs.Relocs.{part_relocs, parts_relocs, step_relocs, relocs_from}
use Rattle.s390x_emit_int.specs.Fragments.{Fragment, PutReloc, apply, apply_all}
use Rattle.s390x_emit_int.specs.Emission.{part_fragment, part_fragments, leaf_fragments, function_fragments, body_fragments}
use Rattle.s390x_emit_int.specs.Bound.{StepsFollow}
use Rattle.s390x_emit_int.proofs.Collecting.{Collects, collected, collected_run, parts_collected, function_collected}

-- the relocation that a fragment records
abbrev pub fragment_relocs : ℕ → Fragment → List RelocEntry
fragment_relocs p (PutReloc bs byte kind name addend) = record { offset = p + byte; kind = kind; name = name; addend = addend } ∷ []
fragment_relocs p x = []

-- the relocations in fragments that begin at an offset
abbrev pub relocated : ℕ → List Fragment → List RelocEntry
relocated p xs = collected fragment_relocs p xs

relocs_applied : (x : Fragment) (s : BufferState) → (apply s x).relocs ≡ s.relocs ++ fragment_relocs (length s.bytes) x
relocs_applied (PutReloc bs byte kind name addend) s = refl
relocs_applied x s = sym (append-nil s.relocs)

pub relocs_run : (ps : List Fragment) (s : BufferState) → (apply_all s ps).relocs ≡ s.relocs ++ relocated (length s.bytes) ps
relocs_run ps s = collected_run (λ s. s.relocs) fragment_relocs relocs_applied ps s

part_relocated : (x : CodePart) (p : ℕ) → fragment_relocs p (part_fragment x) ≡ part_relocs p x
part_relocated (SymbolValue name offset) p = ap (λ n. record { offset = n; kind = Abs8; name = name; addend = offset } ∷ []) (add-zero p)
part_relocated (Branch mask (ToBlock b)) p = refl
part_relocated (Branch mask (ToStep k)) p = refl
part_relocated (Relative opcode register (ToBlock b)) p = refl
part_relocated (Relative opcode register (ToStep k)) p = refl
part_relocated (TableWord before (ToBlock b)) p = refl
part_relocated (TableWord before (ToStep k)) p = refl
part_relocated x p = refl

parts_relocated : (parts : List CodePart) (p : ℕ) → relocated p (part_fragments parts) ≡ parts_relocs p parts
parts_relocated = parts_collected fragment_relocs part_relocs parts_relocs (record { none = λ p. refl; first = λ x xs p. refl; each = part_relocated })

-- the words of a table have none
words_relocated : (ls : List MachLabel) (before p q : ℕ) → parts_relocs p (table_words before ls) ≡ parts_relocs q (table_words before ls)
words_relocated [] before p q = refl
words_relocated (l ∷ ls) before p q = words_relocated ls (before + 4) (p + 4) (q + 4)

leaf_relocated : (n after end : ℕ) (i : Inst) (p : ℕ) → relocated p (leaf_fragments n after i) ≡ step_relocs p (step_of end (Whole i))
leaf_relocated n after end (CondBreak mask) p = refl
leaf_relocated n after end (JTSequence ridx other mask targets) p = parts_relocated (table_words 0 targets.items) _ ∙ words_relocated targets.items 0 _ _
leaf_relocated n after end i p = parts_relocated (instruction_parts i) p

body_relocated : (n after end : ℕ) (b : StepBody) (p : ℕ) → relocated p (body_fragments n after b) ≡ step_relocs p (step_of end b)
body_relocated n after end (Whole i) p = leaf_relocated n after end i p
body_relocated n after end b p = parts_relocated (step_parts (step_of 0 b)) p

collects_relocs : Collects fragment_relocs step_relocs relocs_from
collects_relocs = record { none = λ at k. refl; first = λ at k s ss. refl; body = body_relocated; opening = λ n p. refl; back = λ n mask k p. refl; bound = λ b p. refl }

pub function_relocated : (ts : List Tree) (at : ℕ → ℕ) (n b k : ℕ) → StepsFollow at k (steps_from k ts) → relocated (at k) (function_fragments n b ts) ≡ relocs_from at k (steps_from k ts)
function_relocated = function_collected fragment_relocs step_relocs relocs_from collects_relocs
