-- The traps that emission's fragments record are those of the typed steps.
use Rattle.std.proofs.Common.{◌≡◌, ℕ, ◌+◌, List, [], ◌∷◌, ◌++◌, length, refl, sym, ap, ◌∙◌, append-nil, add-zero}
use Rattle.s390x_buffer.specs.State.{BufferState}
use Rattle.s390x_buffer.specs.declared.entries.TrapEntry.{TrapEntry}
use Rattle.s390x_inst.specs.declared.inst.Inst.{Inst}
use Rattle.s390x_inst.specs.declared.inst.Inst.TheVariants.{CondBreak, JTSequence}
use Rattle.s390x_base.specs.declared.ir.MachLabel.{MachLabel}
use Rattle.s390x_typed_steps.specs.Tree.{Tree, Whole, StepBody}
use Rattle.s390x_typed_steps.specs.Steps.{step_of, steps_from}
use Rattle.s390x_typed_steps.specs.Parts.{CodePart, Branch, Relative, TrapHere, TableWord, ToBlock, ToStep, table_words, instruction_parts, step_parts}
use Rattle.s390x_typed_steps.specs.Traps.{part_traps, parts_traps, step_traps, traps_from}
use Rattle.s390x_emit_int.specs.Fragments.{Fragment, PutTrapping, apply, apply_all}
use Rattle.s390x_emit_int.specs.Emission.{part_fragment, part_fragments, leaf_fragments, function_fragments, body_fragments}
use Rattle.s390x_emit_int.specs.Bound.{StepsFollow}
use Rattle.s390x_emit_int.proofs.Collecting.{Collects, collected, collected_run, parts_collected, function_collected}

-- the trap that a fragment records
abbrev pub fragment_traps : ℕ → Fragment → List TrapEntry
fragment_traps p (PutTrapping bs byte code) = record { offset = p + byte; code = code } ∷ []
fragment_traps p x = []

-- the traps in fragments that begin at an offset
abbrev pub recorded : ℕ → List Fragment → List TrapEntry
recorded p xs = collected fragment_traps p xs

traps_applied : (x : Fragment) (s : BufferState) → (apply s x).traps ≡ s.traps ++ fragment_traps (length s.bytes) x
traps_applied (PutTrapping bs byte code) s = refl
traps_applied x s = sym (append-nil s.traps)

pub traps_run : (ps : List Fragment) (s : BufferState) → (apply_all s ps).traps ≡ s.traps ++ recorded (length s.bytes) ps
traps_run ps s = collected_run (λ s. s.traps) fragment_traps traps_applied ps s

part_recorded : (x : CodePart) (p : ℕ) → fragment_traps p (part_fragment x) ≡ part_traps p x
part_recorded (TrapHere code) p = ap (λ n. record { offset = n; code = code } ∷ []) (add-zero p)
part_recorded (Branch mask (ToBlock b)) p = refl
part_recorded (Branch mask (ToStep k)) p = refl
part_recorded (Relative opcode register (ToBlock b)) p = refl
part_recorded (Relative opcode register (ToStep k)) p = refl
part_recorded (TableWord before (ToBlock b)) p = refl
part_recorded (TableWord before (ToStep k)) p = refl
part_recorded x p = refl

parts_recorded : (parts : List CodePart) (p : ℕ) → recorded p (part_fragments parts) ≡ parts_traps p parts
parts_recorded = parts_collected fragment_traps part_traps parts_traps (record { none = λ p. refl; first = λ x xs p. refl; each = part_recorded })

-- the words of a table record none
words_recorded : (ls : List MachLabel) (before p q : ℕ) → parts_traps p (table_words before ls) ≡ parts_traps q (table_words before ls)
words_recorded [] before p q = refl
words_recorded (l ∷ ls) before p q = words_recorded ls (before + 4) (p + 4) (q + 4)

leaf_recorded : (n after end : ℕ) (i : Inst) (p : ℕ) → recorded p (leaf_fragments n after i) ≡ step_traps p (step_of end (Whole i))
leaf_recorded n after end (CondBreak mask) p = refl
leaf_recorded n after end (JTSequence ridx other mask targets) p = parts_recorded (table_words 0 targets.items) _ ∙ words_recorded targets.items 0 _ _
leaf_recorded n after end i p = parts_recorded (instruction_parts i) p

body_recorded : (n after end : ℕ) (b : StepBody) (p : ℕ) → recorded p (body_fragments n after b) ≡ step_traps p (step_of end b)
body_recorded n after end (Whole i) p = leaf_recorded n after end i p
body_recorded n after end b p = parts_recorded (step_parts (step_of 0 b)) p

collects_traps : Collects fragment_traps step_traps traps_from
collects_traps = record { none = λ at k. refl; first = λ at k s ss. refl; body = body_recorded; opening = λ n p. refl; back = λ n mask k p. refl; bound = λ b p. refl }

pub function_recorded : (ts : List Tree) (at : ℕ → ℕ) (n b k : ℕ) → StepsFollow at k (steps_from k ts) → recorded (at k) (function_fragments n b ts) ≡ traps_from at k (steps_from k ts)
function_recorded = function_collected fragment_traps step_traps traps_from collects_traps
