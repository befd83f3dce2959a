-- Emitting a jump by a table.
use Rattle.std.proofs.Common.{◌≡◌, ℕ, suc, ◌+◌, ◌*◌, ◌<◌, ◌≤◌, List, [], ◌∷◌, length, get_or, drop, drop-cons, None, refl, sym, ap, ◌∙◌, subst, arith, nat_lt, ltb-true, length-append, not, ◌&&◌, true, Vec, Global}
use Rattle.std.proofs.lemmas.Bool.{and_parts}
use Rattle.s390x_base.specs.declared.error.EmitError.TheVariants.{BadRegister, ScratchConflict, UnboundLabel, LabelOutOfRange}
use Rattle.s390x_base.specs.declared.ir.MachLabel.{MachLabel}
use Rattle.s390x_base.specs.declared.regs.Reg.{Reg}
use Rattle.s390x_base.specs.Regs.{number_of}
use Rattle.s390x_inst.specs.declared.inst.Inst.{Inst}
use Rattle.s390x_inst.specs.declared.inst.Inst.TheVariants.{JTSequence}
use Rattle.s390x_buffer.specs.State.{BufferState, put_cause, draw_cause}
use Rattle.s390x_format.specs.Formats.{length_of}
use Rattle.s390x_rows.specs.declared.opcodes.TheConstants as opcodes
use Rattle.s390x_typed_steps.specs.MachineInstruction.{rxy}
use Rattle.s390x_typed_steps.specs.Parts.{CodePart, Row, Relative, ToBlock, table_words, table_parts, parts_size}
use Rattle.s390x_typed_steps.specs.Causes.{unless, target_label_cause as block_cause, labels_cause, table_cause, numbers_cause, branch_cause, instruction_fresh_labels}
use Rattle.s390x_typed_steps.specs.General.{is_general, is_nonzero, is_scratch}
use Rattle.s390x_typed_steps.proofs.Causes.{first_left, first_right, unless_true}
use Rattle.s390x_emit_int.specs.Fragments.{Draw, Bind, apply, apply_all}
use Rattle.s390x_emit_int.specs.Emission.{branch_size, branch, table_word, table_rows, part_fragments}
use Rattle.s390x_emit_int.specs.Room.{FitsWithoutCause, MembersFit}
use Rattle.s390x_emit_int.proofs.OnlyMemory.{put_none, draw_none}
use Rattle.s390x_emit_int.proofs.Passing.{Turns, bind_turns, branch_turns, turns_on}
use Rattle.s390x_emit_int.proofs.Runs.{parts_grow, table_size, begun_grows}
use Rattle.s390x_emit_int.proofs.Starts.{same_run}

-- ---- sizes

words_size : (before : ℕ) (ls : List MachLabel) → parts_size (table_words before ls) ≡ 4 * length ls
words_size before [] = refl
words_size before (l ∷ ls) = omega (arith, words_size (before + 4) ls)

pub table_bytes : (index mask other : ℕ) (targets : List MachLabel) → parts_size (table_parts index mask other targets) ≡ 20 + 4 * length targets
table_bytes index mask other targets = table_size index mask other targets ∙ ap (λ n. 20 + n) (words_size 0 targets)

-- ---- room

pub parts_turns : (s t : BufferState) (parts : List CodePart) → t ≡ apply_all s (part_fragments parts) → Turns s t 0 (parts_size parts)
parts_turns s t parts e =
    let g = parts_grow parts s in
    let same = same_run (part_fragments parts) s in
    record { unpoisoned = ap (λ x. x.is_poisoned) e ∙ same.is_poisoned; blocks = ap (λ x. x.block_count) e ∙ same.block_count; constants = ap (λ x. x.constants) e ∙ same.constants; labels = ap (λ x. length x.labels) e ∙ g.labels; bytes = ap (λ x. length x.bytes) e ∙ g.bytes }

-- what still fits after some bytes
passed_on : (s t : BufferState) (after l n k m r : ℕ) → FitsWithoutCause s after n None → Turns s t k m → m + r ≤ n → l < length t.labels → FitsWithoutCause t l r None
passed_on s t after l n k m r p u le lt = record {
  unpoisoned = u.unpoisoned ∙ p.unpoisoned;
  blocks = omega (arith, u.blocks, u.labels, p.blocks);
  label = lt;
  short = omega (arith, u.bytes, p.short);
  passed = refl;
}

room_of : (s : BufferState) (after n : ℕ) → FitsWithoutCause s after n None → put_cause s n ≡ None
room_of s after n p = put_none s n p.unpoisoned p.short

-- behind each of the machine instructions before a table
pub first_passed : (s s1 : BufferState) (mask other table : ℕ) → FitsWithoutCause s other 20 None → table < length s.labels → s1 ≡ apply s (branch mask other) → FitsWithoutCause s1 table 6 None
first_passed s s1 mask other table p lt e =
    let u = branch_turns s s1 mask other e in
    passed_on s s1 other table 20 0 6 6 p u (omega arith) (omega (arith, u.labels))

second_turns : (s s1 s2 : BufferState) (mask other table d : ℕ) → s1 ≡ apply s (branch mask other) → s2 ≡ apply_all s1 (part_fragments (Relative opcodes.LARL d (ToBlock table) ∷ [])) → Turns s s2 0 12
second_turns s s1 s2 mask other table d e1 e2 = turns_on s s1 s2 0 6 0 6 (branch_turns s s1 mask other e1) (parts_turns s1 s2 (Relative opcodes.LARL d (ToBlock table) ∷ []) e2)

pub second_passed : (s s1 s2 : BufferState) (mask other table d : ℕ) → FitsWithoutCause s other 20 None → s1 ≡ apply s (branch mask other) → s2 ≡ apply_all s1 (part_fragments (Relative opcodes.LARL d (ToBlock table) ∷ [])) → put_cause s2 6 ≡ None
second_passed s s1 s2 mask other table d p e1 e2 =
    let u = second_turns s s1 s2 mask other table d e1 e2 in
    room_of s2 other 6 (passed_on s s2 other other 20 0 12 6 p u (omega arith) (omega (arith, u.labels, p.label)))

sum_turns : (s t : BufferState) (index : ℕ) → t ≡ apply_all s (part_fragments (Row (rxy opcodes.AGF 1 1 index 0) ∷ [])) → Turns s t 0 6
unfolding length_of
sum_turns s t index e = parts_turns s t (Row (rxy opcodes.AGF 1 1 index 0) ∷ []) e

pub third_passed : (s s1 s2 s3 : BufferState) (mask other table d index : ℕ) → FitsWithoutCause s other 20 None → s1 ≡ apply s (branch mask other) → s2 ≡ apply_all s1 (part_fragments (Relative opcodes.LARL d (ToBlock table) ∷ [])) → s3 ≡ apply_all s2 (part_fragments (Row (rxy opcodes.AGF 1 1 index 0) ∷ [])) → put_cause s3 2 ≡ None
third_passed s s1 s2 s3 mask other table d index p e1 e2 e3 =
    let u = turns_on s s2 s3 0 12 0 6 (second_turns s s1 s2 mask other table d e1 e2) (sum_turns s2 s3 index e3) in
    room_of s3 other 2 (passed_on s s3 other other 20 0 18 2 p u (omega arith) (omega (arith, u.labels, p.label)))

-- ---- the words

split_at : (ls : List MachLabel) (k : ℕ) (v d : MachLabel) → k < length ls → v ≡ get_or ls k d → drop k ls ≡ v ∷ drop (k + 1) ls
split_at ls k v d lt at =
    let k1 : suc k ≡ k + 1 = omega arith in
    drop-cons ls k d lt ∙ ap (λ x. x ∷ drop (suc k) ls) (sym at) ∙ ap (λ m. v ∷ drop m ls) k1

-- one more word
pub words_more : (ls : List MachLabel) (k before : ℕ) (v d : MachLabel) (s s1 r : BufferState) → k < length ls → v ≡ get_or ls k d → before ≡ 4 * k → s1 ≡ apply s (table_word before v.0) → apply_all s (part_fragments (table_words (4 * k) (drop k ls))) ≡ r → apply_all s1 (part_fragments (table_words (4 * (k + 1)) (drop (k + 1) ls))) ≡ r
words_more ls k before v d s s1 r lt at place e h =
    let next : 4 * (k + 1) ≡ 4 * k + 4 = omega arith in
    ap (λ n. apply_all s1 (part_fragments (table_words n (drop (k + 1) ls)))) next
    ∙ ap (λ x. apply_all x (part_fragments (table_words (4 * k + 4) (drop (k + 1) ls)))) (e ∙ ap (λ n. apply s (table_word n v.0)) place)
    ∙ ap (λ l. apply_all s (part_fragments (table_words (4 * k) l))) (sym (split_at ls k v d lt at))
    ∙ h

word_turns : (s t : BufferState) (before l : ℕ) → t ≡ apply s (table_word before l) → Turns s t 0 4
word_turns s t before l e = record { unpoisoned = ap (λ x. x.is_poisoned) e; blocks = ap (λ x. x.block_count) e; constants = ap (λ x. x.constants) e; labels = omega (arith, ap (λ x. length x.labels) e); bytes = ap (λ x. length x.bytes) e ∙ length-append s.bytes _ }

pub word_length : (s t : BufferState) (before l : ℕ) → t ≡ apply s (table_word before l) → length t.bytes ≡ length s.bytes + 4
word_length s t before l e = (word_turns s t before l e).bytes

-- the words that are left, after the first k
abbrev pub WordsPassed : BufferState → (after : ℕ) → List MachLabel → Type 0
WordsPassed s after ls = FitsWithoutCause s after (4 * length ls) (labels_cause s.block_count ls)

pub word_passed : (s : BufferState) (after : ℕ) (ls : List MachLabel) (k : ℕ) (v d : MachLabel) → k < length ls → v ≡ get_or ls k d → WordsPassed s after (drop k ls) → FitsWithoutCause s v.0 4 None
word_passed s after ls k v d lt at p =
    let q : WordsPassed s after (v ∷ drop (k + 1) ls) = subst (WordsPassed s after) (split_at ls k v d lt at) p in
    let below : v.0 < s.block_count = ltb-true v.0 s.block_count (unless_true (nat_lt v.0 s.block_count) UnboundLabel (first_left _ _ q.passed)) in
    record { unpoisoned = q.unpoisoned; blocks = q.blocks; label = omega (arith, below, q.blocks); short = omega (arith, q.short); passed = refl }

pub words_passed : (s s1 : BufferState) (after before : ℕ) (ls : List MachLabel) (k : ℕ) (v d : MachLabel) → k < length ls → v ≡ get_or ls k d → s1 ≡ apply s (table_word before v.0) → WordsPassed s after (drop k ls) → WordsPassed s1 after (drop (k + 1) ls)
words_passed s s1 after before ls k v d lt at e p =
    let q : WordsPassed s after (v ∷ drop (k + 1) ls) = subst (WordsPassed s after) (split_at ls k v d lt at) p in
    let u = word_turns s s1 before v.0 e in
    record {
      unpoisoned = u.unpoisoned ∙ q.unpoisoned;
      blocks = omega (arith, u.blocks, u.labels, q.blocks);
      label = omega (arith, u.labels, q.label);
      short = omega (arith, u.bytes, q.short);
      passed = ap (λ b. labels_cause b (drop (k + 1) ls)) u.blocks ∙ first_right (block_cause s.block_count v) _ q.passed;
    }

-- ---- the whole

-- what the check let pass of such a jump
pub record TablePassed (s : BufferState) (index : Reg) (other : MachLabel) (targets : List MachLabel) : Type 0 where
  pub drawn : draw_cause s ≡ None
  pub register : is_general index ≡ true
  pub known : other.0 < s.block_count
  pub listed : labels_cause s.block_count targets ≡ None

pub table_passed : (s : BufferState) (after : ℕ) (index : Reg) (other : MachLabel) (targets : List MachLabel) → FitsWithoutCause s after (20 + 4 * length targets) (table_cause s.block_count index other targets) → numbers_cause (length s.labels) 1 ≡ None → TablePassed s index other targets
table_passed s after index other targets p numbers =
    let registers = unless_true (is_general index && is_nonzero index) BadRegister (first_left _ _ p.passed) in
    let named = first_right (unless (not (is_scratch index)) ScratchConflict) _ (first_right (unless (is_general index && is_nonzero index) BadRegister) _ p.passed) in
    let few : length s.labels + 1 < 4294967297 = ltb-true (length s.labels + 1) 4294967297 (unless_true (nat_lt (length s.labels + 1) 4294967297) LabelOutOfRange numbers) in
    record {
      drawn = draw_none s p.unpoisoned (omega arith);
      register = (and_parts (is_general index) (is_nonzero index) registers).0;
      known = ltb-true other.0 s.block_count (unless_true (nat_lt other.0 s.block_count) UnboundLabel (first_left _ _ named));
      listed = first_right (block_cause s.block_count other) _ named;
    }

rows_turns : (s sa sb : BufferState) (table index mask other : ℕ) → sa ≡ apply s Draw → sb ≡ apply_all sa (table_rows table index mask other) → Turns s sb 1 20
rows_turns s sa sb table index mask other ea eb =
    let e : sb ≡ apply_all s (Draw ∷ table_rows table index mask other) = eb ∙ ap (λ x. apply_all x (table_rows table index mask other)) ea in
    let g = begun_grows s table index mask other in
    let same = same_run (Draw ∷ table_rows table index mask other) s in
    record { unpoisoned = ap (λ x. x.is_poisoned) e ∙ same.is_poisoned; blocks = ap (λ x. x.block_count) e ∙ same.block_count; constants = ap (λ x. x.constants) e ∙ same.constants; labels = ap (λ x. length x.labels) e ∙ g.labels; bytes = ap (λ x. length x.bytes) e ∙ g.bytes }

-- behind the bound label
pub words_begin_passed : (s sa sb sc : BufferState) (after table i mask : ℕ) (index : Reg) (other : MachLabel) (targets : List MachLabel) → FitsWithoutCause s after (20 + 4 * length targets) (table_cause s.block_count index other targets) → TablePassed s index other targets → sa ≡ apply s Draw → sb ≡ apply_all sa (table_rows table i mask other.0) → sc ≡ apply sb (Bind table) → WordsPassed sc after targets
words_begin_passed s sa sb sc after table i mask index other targets p t ea eb ec =
    let u = turns_on s sb sc 1 20 0 0 (rows_turns s sa sb table i mask other.0 ea eb) (bind_turns sb sc table ec) in
    record {
      unpoisoned = u.unpoisoned ∙ p.unpoisoned;
      blocks = omega (arith, u.blocks, u.labels, p.blocks);
      label = omega (arith, u.labels, p.label);
      short = omega (arith, u.bytes, p.short);
      passed = ap (λ b. labels_cause b targets) u.blocks ∙ t.listed;
    }

-- the other block is there
known_block : (blocks : ℕ) (index : Reg) (other : MachLabel) (targets : List MachLabel) → table_cause blocks index other targets ≡ None → other.0 < blocks
known_block blocks index other targets h =
    let named = first_right (unless (not (is_scratch index)) ScratchConflict) _ (first_right (unless (is_general index && is_nonzero index) BadRegister) _ h) in
    ltb-true other.0 blocks (unless_true (nat_lt other.0 blocks) UnboundLabel (first_left _ _ named))

-- what the check let pass of the instruction
pub jump_passed : (s : BufferState) (after depth : ℕ) (i : Inst) (index : Reg) (other : MachLabel) (mask : ℕ) (targets : Vec MachLabel Global) → i ≡ JTSequence index other mask targets → MembersFit s after depth (branch_size i) (branch_cause s.block_count depth i) →
    numbers_cause (length s.labels) (instruction_fresh_labels i) ≡ None → FitsWithoutCause s other.0 (20 + 4 * length targets.items) (table_cause s.block_count index other targets.items) × (numbers_cause (length s.labels) 1 ≡ None)
jump_passed s after depth i index other mask targets e p drawn =
    let size : branch_size i ≡ 20 + 4 * length targets.items = ap branch_size e ∙ table_bytes (number_of index) mask other.0 targets.items in
    let cause : table_cause s.block_count index other targets.items ≡ None = sym (ap (branch_cause s.block_count depth) e) ∙ p.passed in
    let known = known_block s.block_count index other targets.items cause in
    (record { unpoisoned = p.unpoisoned; blocks = p.blocks; label = omega (arith, known, p.blocks); short = omega (arith, size, p.short); passed = cause }, sym (ap (λ x. numbers_cause (length s.labels) (instruction_fresh_labels x)) e) ∙ drawn)
