-- The fragments, resolved, are the code of the typed steps.
use Rattle.std.proofs.Common.{◌≡◌, ℕ, suc, ◌+◌, ◌<◌, List, [], ◌∷◌, ◌++◌, length, refl, sym, ap, ◌∙◌, subst, arith, length-append, append_assoc, append-nil, add-zero, add_assoc}
use Rattle.std.specs.Prelude.{ℤ, pos}
use Rattle.std.specs.Int.{w64, to_be_bytes}
use Rattle.s390x_base.specs.declared.ir.ExternalName.{ExternalName}
use Rattle.s390x_buffer.specs.Patch.{patch}
use Rattle.s390x_buffer.specs.declared.label_use.LabelUse.TheVariants.{BranchRIL}
use Rattle.s390x_inst.specs.declared.inst.Inst.{Inst}
use Rattle.s390x_inst.specs.declared.inst.Inst.TheVariants.{CondBreak, JTSequence}
use Rattle.s390x_base.specs.Regs.{number_of}
use Rattle.s390x_base.specs.declared.ir.MachLabel.{MachLabel}
use Rattle.s390x_rows.specs.declared.opcodes.TheConstants as opcodes
use Rattle.s390x_typed_steps.specs.Tree.{Tree, empty, leaf, loop_node, Whole, StepBody}
use Rattle.s390x_typed_steps.specs.Steps.{Step as TypedStep, Back, step_count, step_of, steps_of}
use Rattle.s390x_typed_steps.specs.MachineInstruction.{rr, ril_b, ril_c, rxy, bytes_of, size_of}
use Rattle.s390x_typed_steps.specs.Parts.{CodePart, Row, Trapping, Branch, Relative, RelativeConstant, RelativeSymbol, SymbolValue, TrapHere, TableWord, ToBlock, ToStep, table_words, table_parts, instruction_parts, parts_size, step_size, CallSymbol, SiteHere, step_parts}
use Rattle.s390x_typed_steps.specs.Rows.{Offsets, symbol_call, half_distance, table_distance, word_bytes, parts_bytes, step_bytes}
use Rattle.s390x_typed_steps.specs.Image.{code}
use Rattle.s390x_typed_steps.specs.Sizes.{instruction_size, tree_size, body_size}
use Rattle.s390x_typed_steps.specs.Causes.{fresh_labels, body_fresh_labels}
use Rattle.s390x_emit_int.specs.Fragments.{Fragment, Put, PutTrapping, PutReloc, Link, LinkConstant, StartStep, Draw, Bind, AddSite, RecordBranch}
use Rattle.s390x_emit_int.specs.Emission.{part_fragments, table_fragments, leaf_fragments, back_fragments, fragments, body_fragments}
use Rattle.s390x_emit_int.specs.Resolve.{resolve, put_length}
use Rattle.s390x_emit_int.specs.Bound.{LeafBound, Bound, StepsFollow, PartsName, TreeNames, BodyBound, BodyNames}
use Rattle.s390x_emit_int.proofs.Branches.{patched_branch, patched_relative, patched_word}
use Rattle.s390x_emit_int.proofs.Runs.{length-bytes, length-branch, size-relative, length-relative, length-call}

pub resolve-append : (blocks : ℕ) (off : ℕ → ℕ) (a b : List Fragment) (p : ℕ) → resolve blocks off p (a ++ b) ≡ resolve blocks off p a ++ resolve blocks off (p + put_length a) b
resolve-append blocks off [] b p = ap (λ m. resolve blocks off m b) (sym (add-zero p))
resolve-append blocks off (Put bs ∷ a) b p = ap (λ l. bs ++ l) (resolve-append blocks off a b (p + length bs)) ∙ sym (append_assoc bs _ _) ∙ ap (λ m. (bs ++ resolve blocks off (p + length bs) a) ++ resolve blocks off m b) (add_assoc p (length bs) (put_length a))
resolve-append blocks off (PutReloc bs byte kind name addend ∷ a) b p = ap (λ l. bs ++ l) (resolve-append blocks off a b (p + length bs)) ∙ sym (append_assoc bs _ _) ∙ ap (λ m. (bs ++ resolve blocks off (p + length bs) a) ++ resolve blocks off m b) (add_assoc p (length bs) (put_length a))
resolve-append blocks off (PutTrapping bs byte code ∷ a) b p = ap (λ l. bs ++ l) (resolve-append blocks off a b (p + length bs)) ∙ sym (append_assoc bs _ _) ∙ ap (λ m. (bs ++ resolve blocks off (p + length bs) a) ++ resolve blocks off m b) (add_assoc p (length bs) (put_length a))
resolve-append blocks off (Link k l bs ∷ a) b p = ap (λ x. patch k 0 p (off l) bs ++ x) (resolve-append blocks off a b (p + length bs)) ∙ sym (append_assoc (patch k 0 p (off l) bs) _ _) ∙ ap (λ m. (patch k 0 p (off l) bs ++ resolve blocks off (p + length bs) a) ++ resolve blocks off m b) (add_assoc p (length bs) (put_length a))
resolve-append blocks off (LinkConstant c bs ∷ a) b p = ap (λ x. patch BranchRIL 0 p (off (blocks + c)) bs ++ x) (resolve-append blocks off a b (p + length bs)) ∙ sym (append_assoc (patch BranchRIL 0 p (off (blocks + c)) bs) _ _) ∙ ap (λ m. (patch BranchRIL 0 p (off (blocks + c)) bs ++ resolve blocks off (p + length bs) a) ++ resolve blocks off m b) (add_assoc p (length bs) (put_length a))
resolve-append blocks off (StartStep ∷ a) b p = resolve-append blocks off a b p
resolve-append blocks off (Draw ∷ a) b p = resolve-append blocks off a b p
resolve-append blocks off (Bind l ∷ a) b p = resolve-append blocks off a b p
resolve-append blocks off (AddSite site ∷ a) b p = resolve-append blocks off a b p
resolve-append blocks off (RecordBranch noted ∷ a) b p = resolve-append blocks off a b p

pub put_append : (a b : List Fragment) → put_length (a ++ b) ≡ put_length a + put_length b
put_append [] b = omega arith
put_append (Put bs ∷ a) b = omega (arith, put_append a b)
put_append (PutReloc bs byte kind name addend ∷ a) b = omega (arith, put_append a b)
put_append (PutTrapping bs byte code ∷ a) b = omega (arith, put_append a b)
put_append (Link k l bs ∷ a) b = omega (arith, put_append a b)
put_append (LinkConstant c bs ∷ a) b = omega (arith, put_append a b)
put_append (StartStep ∷ a) b = put_append a b
put_append (Draw ∷ a) b = put_append a b
put_append (Bind l ∷ a) b = put_append a b
put_append (AddSite site ∷ a) b = put_append a b
put_append (RecordBranch noted ∷ a) b = put_append a b

parts_put : (parts : List CodePart) → put_length (part_fragments parts) ≡ parts_size parts
parts_put [] = refl
parts_put (Row m ∷ parts) = omega (arith, length-bytes m, parts_put parts)
parts_put (Trapping m byte code ∷ parts) = omega (arith, length-bytes m, parts_put parts)
parts_put (Branch mask (ToBlock b) ∷ parts) = omega (arith, length-branch mask, parts_put parts)
parts_put (Branch mask (ToStep k) ∷ parts) = omega (arith, length-branch mask, parts_put parts)
parts_put (Relative opcode register (ToBlock b) ∷ parts) = omega (arith, length-relative opcode register, parts_put parts)
parts_put (Relative opcode register (ToStep k) ∷ parts) = omega (arith, length-relative opcode register, parts_put parts)
parts_put (RelativeConstant opcode register c ∷ parts) = omega (arith, length-relative opcode register, parts_put parts)
parts_put (RelativeSymbol opcode register name offset ∷ parts) = omega (arith, length-relative opcode register, parts_put parts)
parts_put (SymbolValue name offset ∷ parts) = omega (arith, parts_put parts)
parts_put (TrapHere code ∷ parts) = omega (arith, parts_put parts)
parts_put (TableWord before (ToBlock b) ∷ parts) = omega (arith, parts_put parts)
parts_put (TableWord before (ToStep k) ∷ parts) = omega (arith, parts_put parts)
parts_put (CallSymbol link name ∷ parts) = omega (arith, length-call link, parts_put parts)
parts_put (SiteHere site ∷ parts) = omega (arith, parts_put parts)

table_put : (n index mask other : ℕ) (targets : List MachLabel) → put_length (table_fragments n index mask other targets) ≡ parts_size (table_parts index mask other targets)
table_put n index mask other targets =
    omega (arith, length-branch mask, length-relative opcodes.LARL 1, length-bytes (rxy opcodes.AGF 1 1 index 0), length-bytes (rr opcodes.BCR 15 1), parts_put (table_words 0 targets), length-bytes (ril_b opcodes.LARL 1 7), size-relative opcodes.LARL 1 7)

pub leaf_put : (n after : ℕ) (i : Inst) → put_length (leaf_fragments n after i) ≡ instruction_size i
leaf_put n after (CondBreak mask) = omega (arith, length-branch mask)
leaf_put n after (JTSequence ridx other mask targets) = table_put n (number_of ridx) mask other.0 targets.items
leaf_put n after i = parts_put (instruction_parts i)

pub body_put : (n after : ℕ) (b : StepBody) → put_length (body_fragments n after b) ≡ body_size b
body_put n after (Whole i) = leaf_put n after i
body_put n after b = parts_put (step_parts (step_of 0 b))

pub tree_put : (n after : ℕ) (t : Tree) → put_length (fragments n after t) ≡ tree_size t
tree_put n after empty = refl
tree_put n after (leaf b rest) = put_append (body_fragments n after b) (fragments (n + body_fresh_labels b) after rest) ∙ omega (arith, body_put n after b, tree_put (n + body_fresh_labels b) after rest)
tree_put n after (loop_node mask members rest) =
    let r = fragments (n + 2 + fresh_labels members) after rest in
    put_append (fragments (n + 2) (n + 1) members) (back_fragments n mask ++ r) ∙ omega (arith, length-branch mask, tree_put (n + 2) (n + 1) members, tree_put (n + 2 + fresh_labels members) after rest)

-- labels of blocks and of constants stand at their places, and nothing is linked
abbrev pub Agrees : (ℕ → ℕ) → Offsets → (count constants : ℕ) → Type 0
Agrees off P count constants =
    ((l : ℕ) → l < count → off l ≡ P.block l) × ((c : ℕ) → c < constants → off (count + c) ≡ P.environment.constant c)
    × ((name : ExternalName) (offset : ℤ) → P.environment.symbol_value name offset ≡ 0) × ((p : ℕ) (name : ExternalName) (offset : ℤ) → P.environment.symbol_distance p name offset ≡ 0)

-- the parts of an instruction, at an offset
parts_join : (parts : List CodePart) (off : ℕ → ℕ) (P : Offsets) (count constants p : ℕ) → Agrees off P count constants → PartsName count constants parts → resolve count off p (part_fragments parts) ≡ parts_bytes P p parts
parts_join [] off P count constants p agree names = refl
parts_join (Row m ∷ parts) off P count constants p agree names =
    ap (λ n. bytes_of m ++ resolve count off (p + n) (part_fragments parts)) (length-bytes m) ∙ ap (λ l. bytes_of m ++ l) (parts_join parts off P count constants (p + size_of m) agree names.1)
parts_join (Trapping m byte code ∷ parts) off P count constants p agree names =
    ap (λ n. bytes_of m ++ resolve count off (p + n) (part_fragments parts)) (length-bytes m) ∙ ap (λ l. bytes_of m ++ l) (parts_join parts off P count constants (p + size_of m) agree names.1)
parts_join (Branch mask (ToBlock b) ∷ parts) off P count constants p agree names =
    ap (λ l. l ++ resolve count off (p + length (bytes_of (ril_c opcodes.BRCL mask 0))) (part_fragments parts)) (patched_branch mask p (off b))
    ∙ ap (λ x. bytes_of (ril_c opcodes.BRCL mask (half_distance p x)) ++ resolve count off (p + length (bytes_of (ril_c opcodes.BRCL mask 0))) (part_fragments parts)) (agree.0 b names.0)
    ∙ ap (λ n. bytes_of (ril_c opcodes.BRCL mask (half_distance p (P.block b))) ++ resolve count off (p + n) (part_fragments parts)) (length-branch mask)
    ∙ ap (λ l. bytes_of (ril_c opcodes.BRCL mask (half_distance p (P.block b))) ++ l) (parts_join parts off P count constants (p + 6) agree names.1)
parts_join (Branch mask (ToStep k) ∷ parts) off P count constants p agree names = absurd names.0
parts_join (Relative opcode register (ToBlock b) ∷ parts) off P count constants p agree names =
    let bare = bytes_of (ril_b opcode register 0) in
    ap (λ l. l ++ resolve count off (p + length bare) (part_fragments parts)) (patched_relative opcode register p (off b))
    ∙ ap (λ x. bytes_of (ril_b opcode register (half_distance p x)) ++ resolve count off (p + length bare) (part_fragments parts)) (agree.0 b names.0)
    ∙ ap (λ n. bytes_of (ril_b opcode register (half_distance p (P.block b))) ++ resolve count off (p + n) (part_fragments parts)) (length-relative opcode register)
    ∙ ap (λ l. bytes_of (ril_b opcode register (half_distance p (P.block b))) ++ l) (parts_join parts off P count constants (p + 6) agree names.1)
parts_join (Relative opcode register (ToStep k) ∷ parts) off P count constants p agree names = absurd names.0
parts_join (RelativeConstant opcode register c ∷ parts) off P count constants p agree names =
    let bare = bytes_of (ril_b opcode register 0) in
    let full = bytes_of (ril_b opcode register (half_distance p (P.environment.constant c))) in
    ap (λ l. l ++ resolve count off (p + length bare) (part_fragments parts)) (patched_relative opcode register p (off (count + c)))
    ∙ ap (λ x. bytes_of (ril_b opcode register (half_distance p x)) ++ resolve count off (p + length bare) (part_fragments parts)) (agree.1 c names.0)
    ∙ ap (λ n. full ++ resolve count off (p + n) (part_fragments parts)) (length-relative opcode register)
    ∙ ap (λ l. full ++ l) (parts_join parts off P count constants (p + 6) agree names.1)
parts_join (RelativeSymbol opcode register name offset ∷ parts) off P count constants p agree names =
    let full = bytes_of (ril_b opcode register (P.environment.symbol_distance p name offset)) in
    ap (λ h. bytes_of (ril_b opcode register h) ++ resolve count off (p + length (bytes_of (ril_b opcode register 0))) (part_fragments parts)) (sym (agree.3 p name offset))
    ∙ ap (λ n. full ++ resolve count off (p + n) (part_fragments parts)) (length-relative opcode register)
    ∙ ap (λ l. full ++ l) (parts_join parts off P count constants (p + 6) agree names.1)
parts_join (SymbolValue name offset ∷ parts) off P count constants p agree names =
    ap (λ v. to_be_bytes w64 v ++ resolve count off (p + 8) (part_fragments parts)) (sym (agree.2 name offset)) ∙ ap (λ l. to_be_bytes w64 (P.environment.symbol_value name offset) ++ l) (parts_join parts off P count constants (p + 8) agree names.1)
parts_join (TrapHere code ∷ parts) off P count constants p agree names = parts_join parts off P count constants (p + 0) agree names.1
parts_join (TableWord before (ToBlock b) ∷ parts) off P count constants p agree names =
    ap (λ l. l ++ resolve count off (p + 4) (part_fragments parts)) (patched_word before p (off b))
    ∙ ap (λ x. word_bytes (table_distance p before x) ++ resolve count off (p + 4) (part_fragments parts)) (agree.0 b names.0)
    ∙ ap (λ l. word_bytes (table_distance p before (P.block b)) ++ l) (parts_join parts off P count constants (p + 4) agree names.1)
parts_join (TableWord before (ToStep k) ∷ parts) off P count constants p agree names = absurd names.0
parts_join (CallSymbol link name ∷ parts) off P count constants p agree names =
    let full = bytes_of (symbol_call link (P.environment.symbol_distance p name (pos 0))) in
    ap (λ h. bytes_of (symbol_call link h) ++ resolve count off (p + length (bytes_of (symbol_call link 0))) (part_fragments parts)) (sym (agree.3 p name (pos 0)))
    ∙ ap (λ n. full ++ resolve count off (p + n) (part_fragments parts)) (length-call link)
    ∙ ap (λ l. full ++ l) (parts_join parts off P count constants (p + 6) agree names.1)
parts_join (SiteHere site ∷ parts) off P count constants p agree names = ap (λ n. resolve count off n (part_fragments parts)) (sym (add-zero p)) ∙ parts_join parts off P count constants (p + 0) agree names.1

-- from the second row of a table to the table
seven_halfwords : (p : ℕ) → half_distance (p + 6) (p + 20) ≡ 7
seven_halfwords p = omega arith

table_join : (off : ℕ → ℕ) (P : Offsets) (count constants n p index mask other : ℕ) (targets : List MachLabel) → Agrees off P count constants → PartsName count constants (table_parts index mask other targets) → off n ≡ p + 20 →
    resolve count off p (table_fragments n index mask other targets) ≡ parts_bytes P p (table_parts index mask other targets)
table_join off P count constants n p index mask other targets agree names at =
    let words = table_words 0 targets in
    let agf = rxy opcodes.AGF 1 1 index 0 in
    let bcr = rr opcodes.BCR 15 1 in
    let bare = bytes_of (ril_c opcodes.BRCL mask 0) in
    let relative = bytes_of (ril_b opcodes.LARL 1 0) in
    let sizes : p + 6 + size_of (ril_b opcodes.LARL 1 7) + size_of agf + size_of bcr ≡ p + length bare + length relative + length (bytes_of agf) + length (bytes_of bcr) = omega (arith, length-branch mask, length-relative opcodes.LARL 1, size-relative opcodes.LARL 1 7, length-bytes agf, length-bytes bcr) in
    let behind : ℕ → List ℕ = λ q. bytes_of agf ++ (bytes_of bcr ++ resolve count off q (part_fragments words)) in
    let q = p + length bare + length relative + length (bytes_of agf) + length (bytes_of bcr) in
    let q' = p + 6 + size_of (ril_b opcodes.LARL 1 7) + size_of agf + size_of bcr in
    ap (λ l. l ++ (patch BranchRIL 0 (p + length bare) (off n) relative ++ behind q)) (patched_branch mask p (off other) ∙ ap (λ x. bytes_of (ril_c opcodes.BRCL mask (half_distance p x))) (agree.0 other names.0))
    ∙ ap (λ l. bytes_of (ril_c opcodes.BRCL mask (half_distance p (P.block other))) ++ (l ++ behind q)) (
    ap (λ m. patch BranchRIL 0 (p + m) (off n) relative) (length-branch mask)
    ∙ patched_relative opcodes.LARL 1 (p + 6) (off n)
    ∙ ap (λ x. bytes_of (ril_b opcodes.LARL 1 (half_distance (p + 6) x))) at
    ∙ ap (λ h. bytes_of (ril_b opcodes.LARL 1 h)) (seven_halfwords p)
    )
    ∙ ap (λ m. bytes_of (ril_c opcodes.BRCL mask (half_distance p (P.block other))) ++ (bytes_of (ril_b opcodes.LARL 1 7) ++ behind m)) (sym sizes)
    ∙ ap (λ l. bytes_of (ril_c opcodes.BRCL mask (half_distance p (P.block other))) ++ (bytes_of (ril_b opcodes.LARL 1 7) ++ (bytes_of agf ++ (bytes_of bcr ++ l)))) (parts_join words off P count constants q' agree names.1.1.1.1)

pub leaf_join : (i : Inst) (off : ℕ → ℕ) (P : Offsets) (count constants n after end p : ℕ) → Agrees off P count constants → PartsName count constants (instruction_parts i) → LeafBound off n p i → off after ≡ P.step end → resolve count off p (leaf_fragments n after i) ≡ step_bytes P p (step_of end (Whole i))
leaf_join (JTSequence ridx other mask targets) off P count constants n after end p agree names at e = table_join off P count constants n p (number_of ridx) mask other.0 targets.items agree names at
leaf_join (CondBreak mask) off P count constants n after end p agree names at e =
    append-nil (patch BranchRIL 0 p (off after) (bytes_of (ril_c opcodes.BRCL mask 0))) ∙ patched_branch mask p (off after) ∙ ap (λ x. bytes_of (ril_c opcodes.BRCL mask (half_distance p x))) e ∙ sym (append-nil (bytes_of (ril_c opcodes.BRCL mask (half_distance p (P.step end)))))
leaf_join i off P count constants n after end p agree names at e = parts_join (instruction_parts i) off P count constants p agree names

-- the sizes of typed steps
abbrev pub total : List TypedStep → ℕ
total [] = 0
total (s ∷ ss) = step_size s + total ss

pub total_append : (a b : List TypedStep) → total (a ++ b) ≡ total a + total b
total_append [] b = omega arith
total_append (s ∷ a) b = omega (arith, total_append a b)

pub size_of_step : (e : ℕ) (i : Inst) → step_size (step_of e (Whole i)) ≡ instruction_size i
size_of_step e (CondBreak mask) = refl
size_of_step e i = refl

pub size_of_body : (e : ℕ) (b : StepBody) → step_size (step_of e b) ≡ body_size b
size_of_body e (Whole i) = size_of_step e i
size_of_body e b = refl

pub steps_total : (t : Tree) (k e : ℕ) → total (steps_of k e t) ≡ tree_size t
steps_total empty k e = refl
steps_total (leaf b rest) k e = omega (arith, size_of_body e b, steps_total rest (k + 1) e)
steps_total (loop_node mask members rest) k e =
    let r = steps_of (k + 2 + step_count members) e rest in
    omega (arith, total_append (steps_of (k + 1) (k + 2 + step_count members) members) (Back mask (k + 1) ∷ r), steps_total members (k + 1) (k + 2 + step_count members), steps_total rest (k + 2 + step_count members) e)

pub steps_length : (t : Tree) (k e : ℕ) → length (steps_of k e t) ≡ step_count t
steps_length empty k e = refl
steps_length (leaf b rest) k e = omega (arith, steps_length rest (k + 1) e)
steps_length (loop_node mask members rest) k e =
    let r = steps_of (k + 2 + step_count members) e rest in
    let l = length-append (steps_of (k + 1) (k + 2 + step_count members) members) (Back mask (k + 1) ∷ r) in
    omega (arith, l, steps_length members (k + 1) (k + 2 + step_count members), steps_length rest (k + 2 + step_count members) e)

pub code_append : (P : Offsets) (a b : List TypedStep) (k : ℕ) → code P k (a ++ b) ≡ code P k a ++ code P (k + length a) b
code_append P [] b k = ap (λ m. code P m b) (sym (add-zero k))
code_append P (s ∷ a) b k =
    let e : k + 1 + length a ≡ k + suc (length a) = omega arith in
    ap (λ l. step_bytes P (P.step k) s ++ l) (code_append P a b (k + 1)) ∙ sym (append_assoc (step_bytes P (P.step k) s) _ _) ∙ ap (λ m. (step_bytes P (P.step k) s ++ code P (k + 1) a) ++ code P m b) e

pub follows_left : (at : ℕ → ℕ) (a b : List TypedStep) (k : ℕ) → StepsFollow at k (a ++ b) → StepsFollow at k a
follows_left at [] b k h = tt
follows_left at (s ∷ a) b k h = (h.0, follows_left at a b (k + 1) h.1)

pub follows_right : (at : ℕ → ℕ) (a b : List TypedStep) (k m : ℕ) → k + length a ≡ m → StepsFollow at k (a ++ b) → StepsFollow at m b
follows_right at [] b k m e h = subst (λ x. StepsFollow at x b) (sym (add-zero k) ∙ e) h
follows_right at (s ∷ a) b k m e h = follows_right at a b (k + 1) m (omega arith) h.1

pub follows_end : (at : ℕ → ℕ) (a : List TypedStep) (k m : ℕ) → k + length a ≡ m → StepsFollow at k a → at m ≡ at k + total a
follows_end at [] k m e h = ap at (sym e ∙ add-zero k) ∙ sym (add-zero (at k))
follows_end at (s ∷ a) k m e h = follows_end at a (k + 1) m (omega arith) h.1 ∙ omega (arith, h.0)

-- what is known of a loop's places
pub record LoopPlaces (at : ℕ → ℕ) (k e : ℕ) (members rest : Tree) : Type 0 where
  pub start : at (k + 1) ≡ at k
  pub turn : at (k + 1 + step_count members) ≡ at k + tree_size members
  pub next : at (k + 2 + step_count members) ≡ at k + tree_size members + 6
  pub inner : StepsFollow at (k + 1) (steps_of (k + 1) (k + 2 + step_count members) members)
  pub outer : StepsFollow at (k + 2 + step_count members) (steps_of (k + 2 + step_count members) e rest)

pub loop_places : (at : ℕ → ℕ) (k e mask : ℕ) (members rest : Tree) → StepsFollow at k (steps_of k e (loop_node mask members rest)) → LoopPlaces at k e members rest
loop_places at k e mask members rest follow =
    let fb = steps_of (k + 1) (k + 2 + step_count members) members in
    let fr = steps_of (k + 2 + step_count members) e rest in
    let lb = steps_length members (k + 1) (k + 2 + step_count members) in
    let start : at (k + 1) ≡ at k = omega (arith, follow.0) in
    let inner = follows_left at fb (Back mask (k + 1) ∷ fr) (k + 1) follow.1 in
    let turn : at (k + 1 + step_count members) ≡ at k + tree_size members = follows_end at fb (k + 1) (k + 1 + step_count members) (ap (λ m. k + 1 + m) lb) inner ∙ omega (arith, start, steps_total members (k + 1) (k + 2 + step_count members)) in
    let right = follows_right at fb (Back mask (k + 1) ∷ fr) (k + 1) (k + 1 + step_count members) (ap (λ m. k + 1 + m) lb) follow.1 in
    let k2 : k + 1 + step_count members + 1 ≡ k + 2 + step_count members = omega arith in
    record {
      start = start;
      turn = turn;
      next = ap at (sym k2) ∙ right.0 ∙ ap (λ m. m + 6) turn;
      inner = inner;
      outer = subst (λ m. StepsFollow at m fr) k2 right.1;
    }

body_join : (b : StepBody) (off : ℕ → ℕ) (P : Offsets) (count constants n after end p : ℕ) → Agrees off P count constants → BodyNames count constants b → BodyBound off n p b → off after ≡ P.step end → resolve count off p (body_fragments n after b) ≡ step_bytes P p (step_of end b)
body_join (Whole i) off P count constants n after end p agree names bound oe = leaf_join i off P count constants n after end p agree names bound oe
body_join b off P count constants n after end p agree names bound oe = parts_join (step_parts (step_of 0 b)) off P count constants p agree names

pub tree_join : (t : Tree) (off : ℕ → ℕ) (P : Offsets) (blocks constants n after k e : ℕ) → Agrees off P blocks constants → TreeNames blocks constants t → Bound off n (P.step k) t → StepsFollow P.step k (steps_of k e t) → off after ≡ P.step e → resolve blocks off (P.step k) (fragments n after t) ≡ code P k (steps_of k e t)
tree_join empty off P blocks constants n after k e agree names bound follow oe = refl
tree_join (leaf b rest) off P blocks constants n after k e agree names bound follow oe =
    let p = P.step k in
    let next : P.step (k + 1) ≡ p + body_size b = follow.0 ∙ ap (λ m. p + m) (size_of_body e b) in
    let n' = n + body_fresh_labels b in
    let ps = fragments n' after rest in
    let here = body_join b off P blocks constants n after e p agree names.0 bound.0 oe in
    let there = tree_join rest off P blocks constants n' after (k + 1) e agree names.1 (subst (λ m. Bound off n' m rest) (sym next) bound.1) follow.1 oe in
    resolve-append blocks off (body_fragments n after b) ps p
    ∙ ap (λ m. resolve blocks off p (body_fragments n after b) ++ resolve blocks off (p + m) ps) (body_put n after b)
    ∙ ap (λ m. resolve blocks off p (body_fragments n after b) ++ resolve blocks off m ps) (sym next)
    ∙ ap (λ l. l ++ resolve blocks off (P.step (k + 1)) ps) here
    ∙ ap (λ l. step_bytes P p (step_of e b) ++ l) there
tree_join (loop_node mask members rest) off P blocks constants n after k e agree names bound follow oe =
    let at = P.step in
    let p = at k in
    let k1 = k + 1 + step_count members in
    let k2 = k + 2 + step_count members in
    let fb = steps_of (k + 1) k2 members in
    let fr = steps_of k2 e rest in
    let pb = fragments (n + 2) (n + 1) members in
    let pr = fragments (n + 2 + fresh_labels members) after rest in
    let b0 = bytes_of (ril_c opcodes.BRCL mask 0) in
    let w : LoopPlaces at k e members rest = loop_places at k e mask members rest follow in
    let inner = tree_join members off P blocks constants (n + 2) (n + 1) (k + 1) k2 agree names.0 (subst (λ m. Bound off (n + 2) m members) (sym w.start) bound.2) w.inner (bound.1 ∙ sym w.next) in
    let outer = tree_join rest off P blocks constants (n + 2 + fresh_labels members) after k2 e agree names.1 (subst (λ m. Bound off (n + 2 + fresh_labels members) m rest) (sym w.next) bound.3) w.outer oe in
    let back_off : off n ≡ at (k + 1) = bound.0 ∙ sym w.start in
    let lb : k + 1 + length fb ≡ k1 = ap (λ m. k + 1 + m) (steps_length members (k + 1) k2) in
    let k12 : k1 + 1 ≡ k2 = omega arith in
    let after_back : p + tree_size members + length b0 ≡ at k2 = ap (λ m. p + tree_size members + m) (length-branch mask) ∙ sym w.next in
    let tail : resolve blocks off (p + tree_size members) (back_fragments n mask ++ pr) ≡ bytes_of (ril_c opcodes.BRCL mask (half_distance (at k1) (at (k + 1)))) ++ code P k2 fr =
    ap (λ l. l ++ resolve blocks off (p + tree_size members + length b0) pr) (patched_branch mask (p + tree_size members) (off n))
    ∙ ap (λ m. bytes_of (ril_c opcodes.BRCL mask (half_distance m (off n))) ++ resolve blocks off (p + tree_size members + length b0) pr) (sym w.turn)
    ∙ ap (λ m. bytes_of (ril_c opcodes.BRCL mask (half_distance (at k1) m)) ++ resolve blocks off (p + tree_size members + length b0) pr) back_off
    ∙ ap (λ m. bytes_of (ril_c opcodes.BRCL mask (half_distance (at k1) (at (k + 1)))) ++ resolve blocks off m pr) after_back
    ∙ ap (λ l. bytes_of (ril_c opcodes.BRCL mask (half_distance (at k1) (at (k + 1)))) ++ l) outer in
    let left : resolve blocks off p (fragments n after (loop_node mask members rest)) ≡ code P (k + 1) fb ++ (bytes_of (ril_c opcodes.BRCL mask (half_distance (at k1) (at (k + 1)))) ++ code P k2 fr) =
    resolve-append blocks off pb (back_fragments n mask ++ pr) p
    ∙ ap (λ m. resolve blocks off p pb ++ resolve blocks off (p + m) (back_fragments n mask ++ pr)) (tree_put (n + 2) (n + 1) members)
    ∙ ap (λ l. resolve blocks off p pb ++ l) tail
    ∙ ap (λ l. l ++ (bytes_of (ril_c opcodes.BRCL mask (half_distance (at k1) (at (k + 1)))) ++ code P k2 fr)) (ap (λ m. resolve blocks off m pb) (sym w.start) ∙ inner) in
    let right : code P (k + 1) (fb ++ Back mask (k + 1) ∷ fr) ≡ code P (k + 1) fb ++ (bytes_of (ril_c opcodes.BRCL mask (half_distance (at k1) (at (k + 1)))) ++ code P k2 fr) =
    code_append P fb (Back mask (k + 1) ∷ fr) (k + 1)
    ∙ ap (λ m. code P (k + 1) fb ++ code P m (Back mask (k + 1) ∷ fr)) lb
    ∙ ap (λ l. code P (k + 1) fb ++ (l ++ code P (k1 + 1) fr)) (append-nil (bytes_of (ril_c opcodes.BRCL mask (half_distance (at k1) (at (k + 1))))))
    ∙ ap (λ m. code P (k + 1) fb ++ (bytes_of (ril_c opcodes.BRCL mask (half_distance (at k1) (at (k + 1)))) ++ code P m fr)) k12 in
    left ∙ sym right
