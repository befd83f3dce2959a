-- Running fragments: how the lists of a buffer grow.
use Rattle.s390x_rows.specs.declared.opcodes.TheConstants as opcodes
use Rattle.s390x_typed_steps.specs.Steps.{step_of}
use Rattle.std.proofs.Common.{◌≡◌, ℕ, ◌+◌, ◌-◌, ◌<◌, ◌≢◌, Option, Some, None, List, [], ◌∷◌, ◌++◌, length, get_or, refl, sym, ap, ◌∙◌, subst, arith, length-append, length-set}
use Rattle.std.proofs.lemmas.List.{get_or_append_left, get_or-set_other, get_or-set_same}
use Rattle.s390x_buffer.specs.State.{BufferState}
use Rattle.s390x_inst.specs.declared.inst.Inst.{Inst}
use Rattle.s390x_inst.specs.declared.inst.Inst.TheVariants.{Jump, CondBr, CondBreak, JTSequence}
use Rattle.s390x_base.specs.Regs.{number_of}
use Rattle.s390x_base.specs.declared.ir.MachLabel.{MachLabel}
use Rattle.s390x_typed_steps.specs.Tree.{Tree, empty, leaf, loop_node, Whole, StepBody}
use Rattle.s390x_typed_steps.specs.Sizes.{instruction_size, tree_size, body_size}
use Rattle.s390x_typed_steps.specs.Causes.{instruction_fresh_labels, fresh_labels, body_fresh_labels}
use Rattle.s390x_typed_steps.specs.MachineInstruction.{rr, ril_b, ril_c, rxy, bytes_of, size_of}
use Rattle.std.specs.Int.{w64, to_be_bytes}
use Rattle.s390x_typed_steps.specs.Rows.{symbol_call, word_bytes}
use Rattle.s390x_typed_steps.specs.Parts.{CodePart, Row, Trapping, Branch, Relative, RelativeConstant, RelativeSymbol, SymbolValue, TrapHere, TableWord, ToBlock, ToStep, table_words, table_parts, instruction_parts, part_size, parts_size, CallSymbol, SiteHere, step_parts}
use Rattle.s390x_emit_int.specs.Fragments.{Fragment, FoldableBranch, AlwaysTaken, TakenWhere, apply, apply_all, Put, StartStep, Draw, Bind, RecordBranch}
use Rattle.s390x_emit_int.specs.Emission.{branch, jump_fragments, where_fragments, choice_fragments, relative_fragment, table_word, part_fragment, part_fragments, table_rows, table_head, table_fragments, leaf_fragments, back_fragments, fragments, body_fragments}
use Rattle.s390x_format.specs.Formats.{length_of}
pub use Rattle.s390x_address.proofs.OnlyMemory.{length-bytes}

pub size-branch : (mask half : ℕ) → size_of (ril_c opcodes.BRCL mask half) ≡ 6
unfolding length_of
size-branch mask half = refl

pub length-branch : (mask : ℕ) → length (bytes_of (ril_c opcodes.BRCL mask 0)) ≡ 6
length-branch mask = length-bytes (ril_c opcodes.BRCL mask 0) ∙ size-branch mask 0

pub size-relative : (opcode register half : ℕ) → size_of (ril_b opcode register half) ≡ 6
unfolding length_of
size-relative opcode register half = refl

pub length-relative : (opcode register : ℕ) → length (bytes_of (ril_b opcode register 0)) ≡ 6
length-relative opcode register = length-bytes (ril_b opcode register 0) ∙ size-relative opcode register 0

-- those of a call of a symbol, or of a jump to it
pub length-call : (link : Option ℕ) → length (bytes_of (symbol_call link 0)) ≡ 6
length-call (Some link) = length-relative opcodes.BRASL link
length-call None = length-branch 15

pub run-append : (s : BufferState) (a b : List Fragment) → apply_all s (a ++ b) ≡ apply_all (apply_all s a) b
run-append s [] b = refl
run-append s (p ∷ a) b = run-append (apply s p) a b

-- from s to t so many labels were drawn and so many bytes put, and the labels before stand as they were
pub record Grows (s t : BufferState) (k m : ℕ) : Type 0 where
  pub labels : length t.labels ≡ length s.labels + k
  pub kept : (l : ℕ) → l < length s.labels → get_or t.labels l None ≡ get_or s.labels l None
  pub bytes : length t.bytes ≡ length s.bytes + m

pub grows_on : (s t u : BufferState) (k m k' m' : ℕ) → Grows s t k m → Grows t u k' m' → Grows s u (k + k') (m + m')
grows_on s t u k m k' m' a b = record {
  labels = omega (arith, a.labels, b.labels);
  kept = λ l h. let h' : l < length t.labels = omega (arith, a.labels) in b.kept l h' ∙ a.kept l h;
  bytes = omega (arith, a.bytes, b.bytes);
}

branch_grows : (s : BufferState) (mask l : ℕ) → Grows s (apply s (branch mask l)) 0 6
branch_grows s mask l = record {
  labels = omega arith;
  kept = λ l h. refl;
  bytes = length-append s.bytes (bytes_of (ril_c opcodes.BRCL mask 0)) ∙ ap (λ m. length s.bytes + m) (length-branch mask);
}

relative_grows : (s : BufferState) (opcode register l : ℕ) → Grows s (apply s (relative_fragment opcode register l)) 0 6
relative_grows s opcode register l = record {
  labels = omega arith;
  kept = λ l h. refl;
  bytes = length-append s.bytes (bytes_of (ril_b opcode register 0)) ∙ ap (λ m. length s.bytes + m) (length-relative opcode register);
}

-- an address relative to the instruction, put in some way
bare_grows : (s : BufferState) (opcode register : ℕ) (t : BufferState) → t.labels ≡ s.labels → t.bytes ≡ s.bytes ++ bytes_of (ril_b opcode register 0) → Grows s t 0 6
bare_grows s opcode register t labels bytes = record {
  labels = omega (arith, ap length labels);
  kept = λ l h. ap (λ x. get_or x l None) labels;
  bytes = ap length bytes ∙ length-append s.bytes (bytes_of (ril_b opcode register 0)) ∙ ap (λ m. length s.bytes + m) (length-relative opcode register);
}

word_grows : (s : BufferState) (before l : ℕ) → Grows s (apply s (table_word before l)) 0 4
word_grows s before l = record {
  labels = omega arith;
  kept = λ l h. refl;
  bytes = length-append s.bytes (word_bytes before);
}

part_grows : (part : CodePart) (s : BufferState) → Grows s (apply s (part_fragment part)) 0 (part_size part)
part_grows (Row m) s = record {
  labels = omega arith;
  kept = λ l h. refl;
  bytes = length-append s.bytes (bytes_of m) ∙ ap (λ n. length s.bytes + n) (length-bytes m);
}
part_grows (Trapping m byte code) s = record {
  labels = omega arith;
  kept = λ l h. refl;
  bytes = length-append s.bytes (bytes_of m) ∙ ap (λ n. length s.bytes + n) (length-bytes m);
}
part_grows (Branch mask (ToBlock b)) s = branch_grows s mask b
part_grows (Branch mask (ToStep k)) s = branch_grows s mask k
part_grows (Relative opcode register (ToBlock b)) s = relative_grows s opcode register b
part_grows (Relative opcode register (ToStep k)) s = relative_grows s opcode register k
part_grows (RelativeConstant opcode register c) s = bare_grows s opcode register (apply s (part_fragment (RelativeConstant opcode register c))) refl refl
part_grows (RelativeSymbol opcode register name offset) s = bare_grows s opcode register (apply s (part_fragment (RelativeSymbol opcode register name offset))) refl refl
part_grows (SymbolValue name offset) s = record { labels = omega arith; kept = λ l h. refl; bytes = length-append s.bytes (to_be_bytes w64 0) }
part_grows (TrapHere code) s = record { labels = omega arith; kept = λ l h. refl; bytes = length-append s.bytes [] }
part_grows (TableWord before (ToBlock b)) s = word_grows s before b
part_grows (TableWord before (ToStep k)) s = word_grows s before k
part_grows (CallSymbol link name) s = record { labels = omega arith; kept = λ l h. refl; bytes = length-append s.bytes (bytes_of (symbol_call link 0)) ∙ ap (λ m. length s.bytes + m) (length-call link) }
part_grows (SiteHere site) s = record { labels = omega arith; kept = λ l h. refl; bytes = omega arith }

pub parts_grow : (parts : List CodePart) (s : BufferState) → Grows s (apply_all s (part_fragments parts)) 0 (parts_size parts)
parts_grow [] s = record { labels = omega arith; kept = λ l h. refl; bytes = omega arith }
parts_grow (part ∷ parts) s = grows_on s (apply s (part_fragment part)) _ 0 (part_size part) 0 (parts_size parts) (part_grows part s) (parts_grow parts (apply s (part_fragment part)))

draw_grows : (s : BufferState) → Grows s (apply s Draw) 1 0
draw_grows s = record {
  labels = length-append s.labels (None ∷ []);
  kept = λ l h. get_or_append_left s.labels (None ∷ []) None l h;
  bytes = omega arith;
}

-- what stands before the words of a table, up to its label
abbrev pub table_begun : BufferState → (n index mask other : ℕ) → BufferState
table_begun s n index mask other = apply_all s (Draw ∷ table_rows n index mask other)

pub begun_grows : (s : BufferState) (n index mask other : ℕ) → Grows s (table_begun s n index mask other) 1 20
unfolding length_of
begun_grows s n index mask other =
    let s1 = apply s Draw in
    let s2 = apply s1 (branch mask other) in
    let s3 = apply s2 (relative_fragment opcodes.LARL 1 n) in
    let s4 = apply s3 (Put (bytes_of (rxy opcodes.AGF 1 1 index 0))) in
    let a = draw_grows s in
    let b = branch_grows s1 mask other in
    let d = relative_grows s2 opcodes.LARL 1 n in
    let e = part_grows (Row (rxy opcodes.AGF 1 1 index 0)) s3 in
    let f = part_grows (Row (rr opcodes.BCR 15 1)) s4 in
    let r = grows_on s s1 _ _ _ _ _ a (grows_on s1 s2 _ _ _ _ _ b (grows_on s2 s3 _ _ _ _ _ d (grows_on s3 s4 _ _ _ _ _ e f))) in
    record { labels = omega (arith, r.labels); kept = r.kept; bytes = omega (arith, r.bytes) }

head_grows : (s : BufferState) (n index mask other : ℕ) → n ≡ length s.labels → Grows s (apply_all s (table_head n index mask other)) 1 20
head_grows s n index mask other e =
    let t = table_begun s n index mask other in
    let g = begun_grows s n index mask other in
    record {
      labels = omega (arith, g.labels, length-set t.labels n (Some (length t.bytes)));
      kept = λ l h. let ne : l ≢ n = omega arith in get_or-set_other t.labels n l (Some (length t.bytes)) None ne ∙ g.kept l h;
      bytes = g.bytes;
    }

pub table_size : (index mask other : ℕ) (targets : List MachLabel) → parts_size (table_parts index mask other targets) ≡ 20 + parts_size (table_words 0 targets)
unfolding length_of
table_size index mask other targets = omega arith

table_grows : (s : BufferState) (n index mask other : ℕ) (targets : List MachLabel) → n ≡ length s.labels → Grows s (apply_all s (table_fragments n index mask other targets)) 1 (parts_size (table_parts index mask other targets))
table_grows s n index mask other targets e =
    let t = apply_all s (table_head n index mask other) in
    let r = grows_on s t (apply_all t (part_fragments (table_words 0 targets))) _ _ _ _ (head_grows s n index mask other e) (parts_grow (table_words 0 targets) t) in
    record { labels = omega (arith, r.labels); kept = r.kept; bytes = omega (arith, r.bytes, table_size index mask other targets) }

-- where the table's label stands
pub table_label : (s : BufferState) (n index mask other : ℕ) (targets : List MachLabel) → n ≡ length s.labels → get_or (apply_all s (table_fragments n index mask other targets)).labels n None ≡ Some (length s.bytes + 20)
table_label s n index mask other targets e =
    let t = table_begun s n index mask other in
    let g = begun_grows s n index mask other in
    let u = apply_all s (table_head n index mask other) in
    let inside : n < length t.labels = omega (arith, g.labels) in
    let inside' : n < length u.labels = omega (arith, inside, length-set t.labels n (Some (length t.bytes))) in
    (parts_grow (table_words 0 targets) u).kept n inside' ∙ get_or-set_same t.labels n (Some (length t.bytes)) None inside ∙ ap Some g.bytes

-- a record of a branch changes no list
noted_grows : (s t : BufferState) (noted : FoldableBranch) (k m : ℕ) → Grows (apply s (RecordBranch noted)) t k m → Grows s t k m
noted_grows s t noted k m g = record { labels = g.labels; kept = g.kept; bytes = g.bytes }

jump_grows : (s : BufferState) (l : ℕ) → Grows s (apply_all s (jump_fragments l)) 0 6
jump_grows s l = noted_grows s _ (AlwaysTaken l) 0 6 (branch_grows (apply s (RecordBranch (AlwaysTaken l))) 15 l)

where_grows : (s : BufferState) (mask l : ℕ) → Grows s (apply_all s (where_fragments mask l)) 0 6
where_grows s mask l =
    let noted = TakenWhere l (bytes_of (ril_c opcodes.BRCL (15 - mask) 0)) in
    noted_grows s _ noted 0 6 (branch_grows (apply s (RecordBranch noted)) mask l)

choice_grows : (s : BufferState) (mask taken not_taken : ℕ) → Grows s (apply_all s (choice_fragments mask taken not_taken)) 0 12
choice_grows s mask taken not_taken =
    let s1 = apply_all s (where_fragments mask taken) in
    grows_on s s1 (apply_all s1 (jump_fragments not_taken)) 0 6 0 6 (where_grows s mask taken) (jump_grows s1 not_taken)

pub leaf_grows : (i : Inst) (s : BufferState) (n after : ℕ) → n ≡ length s.labels → Grows s (apply_all s (leaf_fragments n after i)) (instruction_fresh_labels i) (instruction_size i)
leaf_grows (Jump dest) s n after e = jump_grows s dest.0
leaf_grows (CondBr taken not_taken mask) s n after e = choice_grows s mask taken.0 not_taken.0
leaf_grows (CondBreak mask) s n after e = branch_grows s mask after
leaf_grows (JTSequence ridx other mask targets) s n after e = table_grows s n (number_of ridx) mask other.0 targets.items e
leaf_grows i s n after e = parts_grow (instruction_parts i) s

-- a loop's beginning
abbrev pub opened : BufferState → BufferState
opened s = apply_all s (Draw ∷ Draw ∷ Bind (length s.labels) ∷ [])

pub opened_labels : (s : BufferState) → length (opened s).labels ≡ length s.labels + 2
opened_labels s = omega (arith, length-set ((s.labels ++ None ∷ []) ++ None ∷ []) (length s.labels) (Some (length s.bytes)), length-append (s.labels ++ None ∷ []) (None ∷ []), length-append s.labels (None ∷ []))

pub opened_kept : (s : BufferState) (l : ℕ) → l < length s.labels → get_or (opened s).labels l None ≡ get_or s.labels l None
opened_kept s l h =
    let ne : l ≢ length s.labels = omega arith in
    let h' : l < length (s.labels ++ None ∷ []) = omega (arith, length-append s.labels (None ∷ [])) in
    get_or-set_other ((s.labels ++ None ∷ []) ++ None ∷ []) (length s.labels) l (Some (length s.bytes)) None ne ∙ get_or_append_left (s.labels ++ None ∷ []) (None ∷ []) None l h' ∙ get_or_append_left s.labels (None ∷ []) None l h

pub opened_grows : (s : BufferState) → Grows s (opened s) 2 0
opened_grows s = record { labels = opened_labels s; kept = opened_kept s; bytes = omega arith }

-- a label that was drawn since has the next number, and may be bound
pub end_grows : (s t : BufferState) (mask k m : ℕ) → Grows s t (2 + k) m → Grows s (apply_all t (back_fragments (length s.labels) mask)) (2 + k) (m + 6)
end_grows s t mask k m g = record {
  labels = omega (arith, g.labels, length-set t.labels (length s.labels + 1) (Some (length (t.bytes ++ bytes_of (ril_c opcodes.BRCL mask 0)))));
  kept = λ l h. let ne : l ≢ length s.labels + 1 = omega arith in get_or-set_other t.labels (length s.labels + 1) l _ None ne ∙ g.kept l h;
  bytes = omega (arith, g.bytes, length-append t.bytes (bytes_of (ril_c opcodes.BRCL mask 0)), length-branch mask);
}

pub step_grows : (s t : BufferState) (k m : ℕ) → Grows (apply s StartStep) t k m → Grows s t k m
step_grows s t k m g = record { labels = g.labels; kept = g.kept; bytes = g.bytes }

abbrev pub body_run : BufferState → Tree → BufferState
body_run s members = apply_all (opened s) (fragments (length s.labels + 2) (length s.labels + 1) members)

abbrev pub loop_run : BufferState → ℕ → Tree → BufferState
loop_run s mask members = apply_all (body_run s members) (back_fragments (length s.labels) mask)

-- the fragments of a step's body
pub body_grows : (b : StepBody) (s : BufferState) (n after : ℕ) → n ≡ length s.labels → Grows s (apply_all s (body_fragments n after b)) (body_fresh_labels b) (body_size b)
body_grows (Whole i) s n after e = leaf_grows i s n after e
body_grows b s n after e = parts_grow (step_parts (step_of 0 b)) s

pub tree_grows : (t : Tree) (s : BufferState) (n after : ℕ) → n ≡ length s.labels → Grows s (apply_all s (fragments n after t)) (fresh_labels t) (tree_size t)
tree_grows empty s n after e = record { labels = omega arith; kept = λ l h. refl; bytes = omega arith }
tree_grows (leaf b rest) s n after e =
    let s1 = apply s StartStep in
    let s2 = apply_all s1 (body_fragments n after b) in
    let d = body_fresh_labels b in
    let g : Grows s s2 d (body_size b) = step_grows s s2 _ _ (body_grows b s1 n after e) in
    let n2 : n + d ≡ length s2.labels = omega (arith, g.labels) in
    let h = tree_grows rest s2 (n + d) after n2 in
    let r = grows_on s s2 (apply_all s2 (fragments (n + d) after rest)) d (body_size b) (fresh_labels rest) (tree_size rest) g h in
    subst (λ x. Grows s x (d + fresh_labels rest) (body_size b + tree_size rest)) (sym (run-append s1 (body_fragments n after b) (fragments (n + d) after rest))) r
tree_grows (loop_node mask members rest) s n after e =
    let n0 = length s.labels in
    let s1 = apply s StartStep in
    let s2 = body_run s1 members in
    let s3 = loop_run s1 mask members in
    let g2 = grows_on s1 (opened s1) s2 _ _ _ _ (opened_grows s1) (tree_grows members (opened s1) (n0 + 2) (n0 + 1) (sym (opened_labels s1))) in
    let g3 = step_grows s s3 _ _ (end_grows s1 s2 mask (fresh_labels members) (0 + tree_size members) g2) in
    let h = tree_grows rest s3 (n0 + 2 + fresh_labels members) after (omega (arith, g3.labels)) in
    let r = grows_on s s3 _ _ _ _ _ g3 h in
    let whole : apply_all s (fragments n0 after (loop_node mask members rest)) ≡ apply_all s3 (fragments (n0 + 2 + fresh_labels members) after rest) = run-append (opened s1) (fragments (n0 + 2) (n0 + 1) members) (back_fragments n0 mask ++ fragments (n0 + 2 + fresh_labels members) after rest) ∙ run-append s2 (back_fragments n0 mask) (fragments (n0 + 2 + fresh_labels members) after rest) in
    let done : Grows s (apply_all s3 (fragments (n0 + 2 + fresh_labels members) after rest)) (fresh_labels (loop_node mask members rest)) (tree_size (loop_node mask members rest)) = record { labels = r.labels; kept = r.kept; bytes = omega (arith, r.bytes) } in
    subst (λ x. Grows s (apply_all s (fragments x after (loop_node mask members rest))) (fresh_labels (loop_node mask members rest)) (tree_size (loop_node mask members rest))) (sym e) (subst (λ x. Grows s x (fresh_labels (loop_node mask members rest)) (tree_size (loop_node mask members rest))) (sym whole) done)
