-- At the end of a block the buffer is as if of the block's last branches only what is left of them had been put.
use Rattle.std.proofs.Common.{◌≡◌, ◌≢◌, ℕ, ◌+◌, ◌-◌, List, [], ◌∷◌, ◌++◌, Option, Some, None, Bool, true, false, cond, nat_eq, refl, sym, ap, ◌∙◌, append-nil, eq-eqb, eqb-true, true≢false, Result, Ok, Err, MatchResult, OnOk}
use Rattle.s390x_base.specs.declared.ir.MachLabel.{MachLabel}
use Rattle.s390x_base.specs.declared.error.EmitError.{EmitError}
use Rattle.s390x_buffer.specs.BlockEnd.{at_block_end, ended_by}
use Rattle.s390x_buffer.specs.State.{BufferState}
use Rattle.s390x_buffer.specs.declared.entries.RecordedBranches.TheVariants.{NoBranch}
use Rattle.s390x_buffer.proofs.Ended.{jump_cut, jump_stays, second_cut, both_cut, first_inverted, both_stay}
use Rattle.s390x_inst.specs.declared.inst.Inst.TheVariants.{Jump, CondBr, CondBreak, JTSequence}
use Rattle.s390x_rows.specs.declared.opcodes.TheConstants as opcodes
use Rattle.s390x_typed_steps.specs.Causes.{body_fresh_labels, fresh_labels}
use Rattle.s390x_typed_steps.specs.Folding.{body_with_remainder, fold, folded_members, folded_before}
use Rattle.s390x_typed_steps.specs.MachineInstruction.{ril_c, bytes_of}
use Rattle.s390x_typed_steps.specs.Parts.{CodePart, Branch, Relative, TableWord, ToBlock, ToStep, instruction_parts, table_words, step_parts}
use Rattle.s390x_typed_steps.specs.Steps.{step_of}
use Rattle.s390x_typed_steps.specs.Tree.{NothingLeft, BranchLeft, StepBody, Tree, Whole, empty, leaf, loop_node}
use Rattle.s390x_emit_int.specs.Emission.{part_fragments, jump_fragments, choice_fragments, body_fragments, back_fragments, branch, fragments}
use Rattle.s390x_emit_int.specs.Fragments.{Fragment, StartStep, Draw, Bind, RecordBranch, apply, apply_all}
use Rattle.s390x_emit_int.specs.Function.{number_of_next}
use Rattle.s390x_emit_int.proofs.Runs.{run-append, length-branch}

-- ---- where no branch is recorded

abbrev Quiet : List Fragment → Type 0
Quiet [] = Unit {0}
Quiet (RecordBranch noted ∷ ps) = ⊥
Quiet (p ∷ ps) = Quiet ps

quiet_run : (ps : List Fragment) (s : BufferState) → Quiet ps → s.branches ≡ NoBranch → (apply_all s ps).branches ≡ NoBranch
quiet_run [] s h none = none
quiet_run (RecordBranch noted ∷ ps) s h none = absurd h
quiet_run (StartStep ∷ ps) s h none = quiet_run ps (apply s StartStep) h refl
quiet_run (Bind l ∷ ps) s h none = quiet_run ps (apply s (Bind l)) h refl
quiet_run (p ∷ ps) s h none = quiet_run ps (apply s p) h none

quiet_parts : (parts : List CodePart) → Quiet (part_fragments parts)
quiet_parts [] = tt
quiet_parts (Branch mask (ToBlock b) ∷ parts) = quiet_parts parts
quiet_parts (Branch mask (ToStep k) ∷ parts) = quiet_parts parts
quiet_parts (Relative opcode register (ToBlock b) ∷ parts) = quiet_parts parts
quiet_parts (Relative opcode register (ToStep k) ∷ parts) = quiet_parts parts
quiet_parts (TableWord before (ToBlock b) ∷ parts) = quiet_parts parts
quiet_parts (TableWord before (ToStep k) ∷ parts) = quiet_parts parts
quiet_parts (part ∷ parts) = quiet_parts parts

ended_none : (s : BufferState) (next : MachLabel) → s.branches ≡ NoBranch → at_block_end (Some next) s ≡ s
ended_none s next none = ap (λ b. ended_by b next.0 s) none

quiet_ended : (s : BufferState) (ps : List Fragment) (next : MachLabel) → Quiet ps → s.branches ≡ NoBranch → at_block_end (Some next) (apply_all s ps) ≡ apply_all s ps
quiet_ended s ps next h none = ended_none (apply_all s ps) next (quiet_run ps s h none)

-- ---- the last body of a block

differs : (a b : ℕ) → nat_eq a b ≡ false → a ≢ b
differs a b e = λ same. true≢false (sym (eq-eqb a b same) ∙ e)

jump_ended : (s : BufferState) (n after : ℕ) (dest next : MachLabel) (t : Bool) → nat_eq dest.0 next.0 ≡ t → s.branches ≡ NoBranch →
    at_block_end (Some next) (apply_all s (jump_fragments dest.0)) ≡ apply_all s (body_fragments n after (body_with_remainder (cond t (Some NothingLeft) None) (Jump dest)))
jump_ended s n after dest next true e none =
    ap (λ m. at_block_end (Some (record { 0 = m })) (apply_all s (jump_fragments dest.0))) (sym (eqb-true dest.0 next.0 e))
    ∙ jump_cut s dest (bytes_of (ril_c opcodes.BRCL 15 0)) none (length-branch 15)
jump_ended s n after dest next false e none = jump_stays s dest next (bytes_of (ril_c opcodes.BRCL 15 0)) none (length-branch 15) (differs dest.0 next.0 e)

choice_ended : (s : BufferState) (n after : ℕ) (taken not_taken : MachLabel) (mask : ℕ) (next : MachLabel) (u t : Bool) → nat_eq not_taken.0 next.0 ≡ u → nat_eq taken.0 next.0 ≡ t → s.branches ≡ NoBranch →
    at_block_end (Some next) (apply_all s (choice_fragments mask taken.0 not_taken.0))
    ≡ apply_all s (body_fragments n after (body_with_remainder (cond u (cond t (Some NothingLeft) (Some (BranchLeft mask taken.0))) (cond t (Some (BranchLeft (15 - mask) not_taken.0)) None)) (CondBr taken not_taken mask)))
choice_ended s n after taken not_taken mask next true true e f none =
    both_cut s taken not_taken (bytes_of (ril_c opcodes.BRCL mask 0)) (bytes_of (ril_c opcodes.BRCL 15 0)) (bytes_of (ril_c opcodes.BRCL (15 - mask) 0)) none (length-branch mask) (length-branch 15) next (eqb-true not_taken.0 next.0 e) (eqb-true taken.0 next.0 f)
choice_ended s n after taken not_taken mask next true false e f none =
    second_cut s taken not_taken (bytes_of (ril_c opcodes.BRCL mask 0)) (bytes_of (ril_c opcodes.BRCL 15 0)) (bytes_of (ril_c opcodes.BRCL (15 - mask) 0)) none (length-branch mask) (length-branch 15) next (eqb-true not_taken.0 next.0 e) (differs taken.0 next.0 f)
choice_ended s n after taken not_taken mask next false true e f none =
    first_inverted s taken not_taken (bytes_of (ril_c opcodes.BRCL mask 0)) (bytes_of (ril_c opcodes.BRCL 15 0)) (bytes_of (ril_c opcodes.BRCL (15 - mask) 0)) none (length-branch mask) (length-branch 15) next (differs not_taken.0 next.0 e) (eqb-true taken.0 next.0 f)
choice_ended s n after taken not_taken mask next false false e f none =
    both_stay s taken not_taken (bytes_of (ril_c opcodes.BRCL mask 0)) (bytes_of (ril_c opcodes.BRCL 15 0)) (bytes_of (ril_c opcodes.BRCL (15 - mask) 0)) none (length-branch mask) (length-branch 15) next (differs not_taken.0 next.0 e) (differs taken.0 next.0 f)

body_ended : (s : BufferState) (n after : ℕ) (next : MachLabel) (b : StepBody) → s.branches ≡ NoBranch → at_block_end (Some next) (apply_all s (body_fragments n after b)) ≡ apply_all s (body_fragments n after (fold next.0 b))
body_ended s n after next (Whole (Jump dest)) none = jump_ended s n after dest next (nat_eq dest.0 next.0) refl none
body_ended s n after next (Whole (CondBr taken not_taken mask)) none =
    choice_ended s n after taken not_taken mask next (nat_eq not_taken.0 next.0) (nat_eq taken.0 next.0) refl refl none
body_ended s n after next (Whole (CondBreak mask)) none = quiet_ended s (branch mask after ∷ []) next tt none
body_ended s n after next (Whole (JTSequence ridx other mask targets)) none =
    quiet_ended s (body_fragments n after (Whole (JTSequence ridx other mask targets))) next (quiet_parts (table_words 0 targets.items)) none
body_ended s n after next (Whole i) none = quiet_ended s (part_fragments (instruction_parts i)) next (quiet_parts (instruction_parts i)) none
body_ended s n after next b none = quiet_ended s (part_fragments (step_parts (step_of 0 b))) next (quiet_parts (step_parts (step_of 0 b))) none

-- ---- the members of a block

-- a tree without members is emitted where no branch is recorded; the first step of another one forgets them
abbrev pub Starts : BufferState → Tree → Type 0
Starts s empty = s.branches ≡ NoBranch
Starts s t = Unit {0}

starts_cleared : (s : BufferState) (t : Tree) → s.branches ≡ NoBranch → Starts s t
starts_cleared s empty none = none
starts_cleared s (leaf b rest) none = tt
starts_cleared s (loop_node mask members rest) none = tt

-- fragments, and then those of other members
behind_ended : (s : BufferState) (ps qs rs : List Fragment) (next : MachLabel) → at_block_end (Some next) (apply_all (apply_all s ps) qs) ≡ apply_all (apply_all s ps) rs → at_block_end (Some next) (apply_all s (ps ++ qs)) ≡ apply_all s (ps ++ rs)
behind_ended s ps qs rs next h = ap (λ x. at_block_end (Some next) x) (run-append s ps qs) ∙ h ∙ sym (run-append s ps rs)

pub tree_ended : (t : Tree) (s : BufferState) (n after : ℕ) (next : MachLabel) → Starts s t → at_block_end (Some next) (apply_all s (fragments n after t)) ≡ apply_all s (fragments n after (folded_members next.0 t))
tree_ended empty s n after next h = ended_none s next h
tree_ended (leaf b empty) s n after next h =
    let s1 = apply s StartStep in
    ap (λ ps. at_block_end (Some next) (apply_all s1 ps)) (append-nil (body_fragments n after b))
    ∙ body_ended s1 n after next b refl
    ∙ ap (λ ps. apply_all s1 ps) (sym (append-nil (body_fragments n after (fold next.0 b))))
tree_ended (leaf b (leaf c rest)) s n after next h =
    let s1 = apply s StartStep in
    let m = n + body_fresh_labels b in
    behind_ended s1 (body_fragments n after b) (fragments m after (leaf c rest)) (fragments m after (folded_members next.0 (leaf c rest))) next
    (tree_ended (leaf c rest) (apply_all s1 (body_fragments n after b)) m after next tt)
tree_ended (leaf b (loop_node mask members rest)) s n after next h =
    let s1 = apply s StartStep in
    let m = n + body_fresh_labels b in
    behind_ended s1 (body_fragments n after b) (fragments m after (loop_node mask members rest)) (fragments m after (folded_members next.0 (loop_node mask members rest))) next
    (tree_ended (loop_node mask members rest) (apply_all s1 (body_fragments n after b)) m after next tt)
tree_ended (loop_node mask members rest) s n after next h =
    let s1 = apply_all s (StartStep ∷ Draw ∷ Draw ∷ Bind n ∷ []) in
    let inner = fragments (n + 2) (n + 1) members in
    let back = back_fragments n mask in
    let m = n + 2 + fresh_labels members in
    let later = fragments m after rest in
    let left = fragments m after (folded_members next.0 rest) in
    let s2 = apply_all s1 inner in
    behind_ended s1 inner (back ++ later) (back ++ left) next
    (behind_ended s2 back later left next (tree_ended rest (apply_all s2 back) m after next (starts_cleared (apply_all s2 back) rest refl)))

-- the same before the next block, if there is one
pub block_ended : (t : Tree) (s : BufferState) (n : ℕ) (next : Option MachLabel) → s.branches ≡ NoBranch → at_block_end next (apply_all s (fragments n 0 t)) ≡ apply_all s (fragments n 0 (folded_before (number_of_next next) t))
block_ended t s n None none = refl
block_ended t s n (Some next) none = tree_ended t s n 0 next (starts_cleared s t none)

-- what is told of an answer that is there
pub if_ok : {T : Type 0} (r : Result T EmitError) (P : T → Type 0) (Q : EmitError → Type 0) (R : Type 0) → MatchResult r P Q → ((x : T) → P x → R) → OnOk r R
if_ok (Ok x) P Q R m f = f x m
if_ok (Err e) P Q R m f = tt
