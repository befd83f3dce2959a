-- Blocks, one after another.
use Rattle.std.proofs.Common.{◌≡◌, ℕ, zero, suc, ◌+◌, ◌<◌, ◌≤◌, ◌≢◌, ◌⊎◌, inl, inr, List, [], ◌∷◌, ◌++◌, length, map, get_or, take, drop, refl, sym, ap, ◌∙◌, subst, arith, length-set, add-zero, zero-add, drop-cons, Option, None, Some}
use Rattle.std.proofs.lemmas.List.{get_or-set_other, get_or-set_same}
use Rattle.s390x_buffer.specs.State.{BufferState}
use Rattle.s390x_buffer.specs.Patch.{offset_of_label, bound_offset}
use Rattle.s390x_inst.specs.declared.inst.Inst.{Inst}
use Rattle.s390x_inst.specs.declared.inst.Inst.TheVariants.{CondBreak, JTSequence}
use Rattle.s390x_rows.specs.declared.opcodes.TheConstants as opcodes
use Rattle.s390x_typed_steps.specs.Tree.{Tree, empty, leaf, loop_node, Whole, StepBody}
use Rattle.s390x_typed_steps.specs.Steps.{Step as TypedStep, step_count, steps_of, steps_from, first_step, step_of}
use Rattle.s390x_typed_steps.specs.MachineInstruction.{ril_b, ril_c, bytes_of}
use Rattle.s390x_typed_steps.specs.Parts.{CodePart, Row, Trapping, Branch, Relative, RelativeConstant, RelativeSymbol, SymbolValue, TrapHere, TableWord, ToBlock, ToStep, table_words, instruction_parts, step_size, CallSymbol, SiteHere, step_parts}
use Rattle.s390x_typed_steps.specs.Rows.{Offsets}
use Rattle.s390x_typed_steps.specs.Image.{step_offset, code, block_offsets}
use Rattle.s390x_typed_steps.specs.Sizes.{tree_size, blocks_size}
use Rattle.s390x_typed_steps.specs.Causes.{fresh_labels, body_fresh_labels}
use Rattle.s390x_emit_int.specs.Fragments.{Fragment, apply, apply_all, Put, PutTrapping, PutReloc, Link, LinkConstant, StartStep, Draw, Bind, AddSite, RecordBranch}
use Rattle.s390x_emit_int.specs.Emission.{part_fragments, leaf_fragments, back_fragments, fragments, function_fragments, body_fragments}
use Rattle.s390x_emit_int.specs.Resolve.{resolve, put_length, Wide}
use Rattle.s390x_emit_int.specs.Bound.{StepsFollow, TreesName, AllBound}
use Rattle.s390x_emit_int.proofs.Runs.{Grows, run-append, tree_grows, length-branch, length-relative}
use Rattle.s390x_emit_int.proofs.Joining.{Agrees, resolve-append, put_append, tree_put, steps_total, steps_length, code_append, follows_left, follows_right, follows_end, tree_join}
use Rattle.s390x_emit_int.proofs.Binding.{Tells, tree_bound}

-- each use has its bytes
wide_append : (a b : List Fragment) → Wide a → Wide b → Wide (a ++ b)
wide_append [] b v w = w
wide_append (Put bs ∷ a) b v w = wide_append a b v w
wide_append (PutReloc bs byte kind name addend ∷ a) b v w = wide_append a b v w
wide_append (PutTrapping bs byte code ∷ a) b v w = wide_append a b v w
wide_append (Link k l bs ∷ a) b v w = (v.0, wide_append a b v.1 w)
wide_append (LinkConstant c bs ∷ a) b v w = (v.0, wide_append a b v.1 w)
wide_append (StartStep ∷ a) b v w = wide_append a b v w
wide_append (Draw ∷ a) b v w = wide_append a b v w
wide_append (Bind l ∷ a) b v w = wide_append a b v w
wide_append (AddSite site ∷ a) b v w = wide_append a b v w
wide_append (RecordBranch noted ∷ a) b v w = wide_append a b v w

wide_branch : (mask : ℕ) → 6 ≤ length (bytes_of (ril_c opcodes.BRCL mask 0))
wide_branch mask = omega (arith, length-branch mask)

wide_relative : (opcode register : ℕ) → 6 ≤ length (bytes_of (ril_b opcode register 0))
wide_relative opcode register = omega (arith, length-relative opcode register)

parts_wide : (parts : List CodePart) → Wide (part_fragments parts)
parts_wide [] = tt
parts_wide (Row m ∷ parts) = parts_wide parts
parts_wide (Trapping m byte code ∷ parts) = parts_wide parts
parts_wide (Branch mask (ToBlock b) ∷ parts) = (wide_branch mask, parts_wide parts)
parts_wide (Branch mask (ToStep k) ∷ parts) = (wide_branch mask, parts_wide parts)
parts_wide (Relative opcode register (ToBlock b) ∷ parts) = (wide_relative opcode register, parts_wide parts)
parts_wide (Relative opcode register (ToStep k) ∷ parts) = (wide_relative opcode register, parts_wide parts)
parts_wide (RelativeConstant opcode register c ∷ parts) = (wide_relative opcode register, parts_wide parts)
parts_wide (RelativeSymbol opcode register name offset ∷ parts) = parts_wide parts
parts_wide (SymbolValue name offset ∷ parts) = parts_wide parts
parts_wide (TrapHere code ∷ parts) = parts_wide parts
parts_wide (TableWord before (ToBlock b) ∷ parts) = (omega arith, parts_wide parts)
parts_wide (TableWord before (ToStep k) ∷ parts) = (omega arith, parts_wide parts)
parts_wide (CallSymbol link name ∷ parts) = parts_wide parts
parts_wide (SiteHere site ∷ parts) = parts_wide parts

leaf_wide : (i : Inst) (n after : ℕ) → Wide (leaf_fragments n after i)
leaf_wide (CondBreak mask) n after = (wide_branch mask, tt)
leaf_wide (JTSequence ridx other mask targets) n after = (wide_branch mask, (wide_relative opcodes.LARL 1, parts_wide (table_words 0 targets.items)))
leaf_wide i n after = parts_wide (instruction_parts i)

body_wide : (b : StepBody) (n after : ℕ) → Wide (body_fragments n after b)
body_wide (Whole i) n after = leaf_wide i n after
body_wide b n after = parts_wide (step_parts (step_of 0 b))

pub tree_wide : (t : Tree) (n after : ℕ) → Wide (fragments n after t)
tree_wide empty n after = tt
tree_wide (leaf b rest) n after = wide_append (body_fragments n after b) (fragments (n + body_fresh_labels b) after rest) (body_wide b n after) (tree_wide rest (n + body_fresh_labels b) after)
tree_wide (loop_node mask members rest) n after =
    let r = fragments (n + 2 + fresh_labels members) after rest in
    wide_append (fragments (n + 2) (n + 1) members) (back_fragments n mask ++ r) (tree_wide members (n + 2) (n + 1)) (wide_branch mask, tree_wide rest (n + 2 + fresh_labels members) after)

pub function_wide : (ts : List Tree) (n b : ℕ) → Wide (function_fragments n b ts)
function_wide [] n b = tt
function_wide (t ∷ ts) n b = wide_append (fragments n 0 t) (function_fragments (n + fresh_labels t) (b + 1) ts) (tree_wide t n 0) (function_wide ts (n + fresh_labels t) (b + 1))

-- after a block
abbrev pub bound_state : BufferState → ℕ → BufferState
bound_state s b = apply s (Bind b)

abbrev pub block_state : BufferState → ℕ → ℕ → Tree → BufferState
block_state s n b t = apply_all (bound_state s b) (fragments n 0 t)

pub block_grows : (t : Tree) (s : BufferState) (n b : ℕ) → n ≡ length s.labels → Grows (bound_state s b) (block_state s n b t) (fresh_labels t) (tree_size t)
block_grows t s n b e = tree_grows t (bound_state s b) n 0 (e ∙ sym (length-set s.labels b (Some (length s.bytes))))

pub block_labels : (t : Tree) (s : BufferState) (n b : ℕ) → n ≡ length s.labels → n + fresh_labels t ≡ length (block_state s n b t).labels
block_labels t s n b e = let g = block_grows t s n b e in omega (arith, g.labels, length-set s.labels b (Some (length s.bytes)))

-- a block leaves all labels but its own
pub block_kept : (t : Tree) (s : BufferState) (n b l : ℕ) → n ≡ length s.labels → l < n → l ≢ b → get_or (block_state s n b t).labels l None ≡ get_or s.labels l None
block_kept t s n b l e lt ne =
    let h : l < length (bound_state s b).labels = omega (arith, length-set s.labels b (Some (length s.bytes))) in
    (block_grows t s n b e).kept l h ∙ get_or-set_other s.labels b l (Some (length s.bytes)) None ne

pub later : (ts : List Tree) (s : BufferState) (n b l : ℕ) → n ≡ length s.labels → l < n → (l < b) ⊎ (b + length ts ≤ l) → get_or (apply_all s (function_fragments n b ts)).labels l None ≡ get_or s.labels l None
later [] s n b l e lt out = refl
later (t ∷ ts) s n b l e lt out =
    let s2 = block_state s n b t in
    let n2 = block_labels t s n b e in
    let ne : l ≢ b = elim out [ inl a ↦ omega arith | inr a ↦ omega arith ] in
    let out2 : (l < b + 1) ⊎ (b + 1 + length ts ≤ l) = elim out [ inl a ↦ inl (omega arith) | inr a ↦ inr (omega arith) ] in
    ap (λ x. get_or x.labels l None) (run-append (bound_state s b) (fragments n 0 t) (function_fragments (n + fresh_labels t) (b + 1) ts))
    ∙ later ts s2 (n + fresh_labels t) (b + 1) l n2 (omega arith) out2
    ∙ block_kept t s n b l e lt ne

pub longer : (ts : List Tree) (s : BufferState) (n b : ℕ) → n ≡ length s.labels → n ≤ length (apply_all s (function_fragments n b ts)).labels
longer [] s n b e = omega arith
longer (t ∷ ts) s n b e =
    let s2 = block_state s n b t in
    let n2 = block_labels t s n b e in
    let r = longer ts s2 (n + fresh_labels t) (b + 1) n2 in
    let a = ap (λ x. length x.labels) (run-append (bound_state s b) (fragments n 0 t) (function_fragments (n + fresh_labels t) (b + 1) ts)) in
    omega (arith, r, a)

-- the labels of the blocks from b on, so many, stand as this state has them
abbrev pub TellsBlocks : (ℕ → ℕ) → (b count : ℕ) → BufferState → Type 0
TellsBlocks off b count u = (l : ℕ) → b ≤ l → l < b + count → off l ≡ offset_of_label u.labels l

pub all_bound : (ts : List Tree) (s : BufferState) (n b : ℕ) (off : ℕ → ℕ) → n ≡ length s.labels → b + length ts ≤ n → TellsBlocks off b (length ts) (apply_all s (function_fragments n b ts)) → Tells off n (apply_all s (function_fragments n b ts)) → AllBound off n b (length s.bytes) ts
all_bound [] s n b off e room blocks tells = tt
all_bound (t ∷ ts) s n b off e room blocks tells =
    let s1 = bound_state s b in
    let s2 = block_state s n b t in
    let rest = function_fragments (n + fresh_labels t) (b + 1) ts in
    let u = apply_all s2 rest in
    let n2 = block_labels t s n b e in
    let g = block_grows t s n b e in
    let long = length-set s.labels b (Some (length s.bytes)) in
    let whole = run-append s1 (fragments n 0 t) rest in
    let tellsu : Tells off n u = subst (Tells off n) whole tells in
    let blocksu : TellsBlocks off b (length (t ∷ ts)) u = subst (TellsBlocks off b (length (t ∷ ts))) whole blocks in
    let longu = longer ts s2 (n + fresh_labels t) (b + 1) n2 in
    let inb : b < length s.labels = omega arith in
    let inb1 : b < length s1.labels = omega (arith, long) in
    let inb2 : b < n + fresh_labels t = omega arith in
    let here : off b ≡ length s.bytes = blocksu b (omega arith) (omega arith) ∙ ap bound_offset (later ts s2 (n + fresh_labels t) (b + 1) b n2 inb2 (inl (omega arith)) ∙ g.kept b inb1 ∙ get_or-set_same s.labels b (Some (length s.bytes)) None inb) in
    let tells2 : Tells off n s2 = λ l lo hi. let hi2 : l < n + fresh_labels t = omega arith in let hiu : l < length u.labels = omega (arith, longu) in tellsu l lo hiu ∙ ap bound_offset (later ts s2 (n + fresh_labels t) (b + 1) l n2 hi2 (inr (omega arith))) in
    let inner = tree_bound t s1 n 0 off (e ∙ sym long) tells2 in
    let outer = all_bound ts s2 (n + fresh_labels t) (b + 1) off n2 (omega arith) (λ l lo hi. blocksu l (omega arith) (omega arith)) (λ l lo hi. tellsu l (omega arith) hi) in
    (here, inner, subst (λ m. AllBound off (n + fresh_labels t) (b + 1) m ts) g.bytes outer)

-- where the next block's steps stand
pub next_block : (t : Tree) (ts : List Tree) (at : ℕ → ℕ) (k : ℕ) → StepsFollow at k (steps_from k (t ∷ ts)) → (at (k + step_count t) ≡ at k + tree_size t) × StepsFollow at (k + step_count t) (steps_from (k + step_count t) ts)
next_block t ts at k follow =
    let e : k + length (steps_of k 0 t) ≡ k + step_count t = ap (λ m. k + m) (steps_length t k 0) in
    (follows_end at (steps_of k 0 t) k (k + step_count t) e (follows_left at (steps_of k 0 t) (steps_from (k + step_count t) ts) k follow) ∙ ap (λ m. at k + m) (steps_total t k 0), follows_right at (steps_of k 0 t) (steps_from (k + step_count t) ts) k (k + step_count t) e follow)

pub function_join : (ts : List Tree) (off : ℕ → ℕ) (P : Offsets) (blocks constants n b k : ℕ) → Agrees off P blocks constants → TreesName blocks constants ts → AllBound off n b (P.step k) ts → StepsFollow P.step k (steps_from k ts) → off 0 ≡ P.step 0 → resolve blocks off (P.step k) (function_fragments n b ts) ≡ code P k (steps_from k ts)
function_join [] off P blocks constants n b k agree names bound follow zero_at = refl
function_join (t ∷ ts) off P blocks constants n b k agree names bound follow zero_at =
    let at = P.step in
    let f = next_block t ts at k follow in
    let rest = function_fragments (n + fresh_labels t) (b + 1) ts in
    let k2 = k + step_count t in
    let here = tree_join t off P blocks constants n 0 k 0 agree names.0 bound.1 (follows_left at (steps_of k 0 t) (steps_from k2 ts) k follow) zero_at in
    let there = function_join ts off P blocks constants (n + fresh_labels t) (b + 1) k2 agree names.1 (subst (λ m. AllBound off (n + fresh_labels t) (b + 1) m ts) (sym f.0) bound.2) f.1 zero_at in
    resolve-append blocks off (fragments n 0 t) rest (at k)
    ∙ ap (λ m. resolve blocks off (at k) (fragments n 0 t) ++ resolve blocks off (at k + m) rest) (tree_put n 0 t)
    ∙ ap (λ m. resolve blocks off (at k) (fragments n 0 t) ++ resolve blocks off m rest) (sym f.0)
    ∙ ap (λ l. l ++ resolve blocks off (at k2) rest) here
    ∙ ap (λ l. code P k (steps_of k 0 t) ++ l) there
    ∙ ap (λ m. code P k (steps_of k 0 t) ++ code P m (steps_from k2 ts)) (sym (ap (λ m. k + m) (steps_length t k 0)))
    ∙ sym (code_append P (steps_of k 0 t) (steps_from k2 ts) k)

-- a block's label is at its first step
pub block_at : (ts : List Tree) (off at : ℕ → ℕ) (n b k j : ℕ) → AllBound off n b (at k) ts → StepsFollow at k (steps_from k ts) → j < length ts → off (b + j) ≡ at (k + first_step ts j)
block_at [] off at n b k j bound follow lt = absurd (omega arith)
block_at (t ∷ ts) off at n b k zero bound follow lt = ap off (add-zero b) ∙ bound.0 ∙ ap at (sym (add-zero k))
block_at (t ∷ ts) off at n b k (suc j) bound follow lt =
    let v = next_block t ts at k follow in
    let e : b + suc j ≡ b + 1 + j = omega arith in
    let e2 : k + step_count t + first_step ts j ≡ k + (step_count t + first_step ts j) = omega arith in
    ap off e ∙ block_at ts off at (n + fresh_labels t) (b + 1) (k + step_count t) j (subst (λ m. AllBound off (n + fresh_labels t) (b + 1) m ts) (sym v.0) bound.2) v.1 (omega arith) ∙ ap at e2

-- the numbers from here on
abbrev pub upto : ℕ → ℕ → List ℕ
upto b zero = []
upto b (suc n) = b ∷ upto (b + 1) n

pub blocks_upto : (ts : List Tree) (off at : ℕ → ℕ) (n b k : ℕ) → AllBound off n b (at k) ts → StepsFollow at k (steps_from k ts) → map off (upto b (length ts)) ≡ block_offsets at k ts
blocks_upto [] off at n b k bound follow = refl
blocks_upto (t ∷ ts) off at n b k bound follow =
    let v = next_block t ts at k follow in
    ap (λ x. x ∷ map off (upto (b + 1) (length ts))) bound.0
    ∙ ap (λ l. at k ∷ l) (blocks_upto ts off at (n + fresh_labels t) (b + 1) (k + step_count t) (subst (λ m. AllBound off (n + fresh_labels t) (b + 1) m ts) (sym v.0) bound.2) v.1)

pub places_upto : (n b : ℕ) (labels : List (Option ℕ)) (off : ℕ → ℕ) → b + n ≤ length labels → ((l : ℕ) → b ≤ l → l < b + n → off l ≡ offset_of_label labels l) → map bound_offset (take n (drop b labels)) ≡ map off (upto b n)
places_upto zero b labels off h agree = refl
places_upto (suc n) b labels off h agree =
    let lt : b < length labels = omega arith in
    let e : suc b ≡ b + 1 = omega arith in
    ap (λ l. map bound_offset (take (suc n) l)) (drop-cons labels b None lt)
    ∙ ap (λ m. offset_of_label labels b ∷ map bound_offset (take n (drop m labels))) e
    ∙ ap (λ x. x ∷ map bound_offset (take n (drop (b + 1) labels))) (sym (agree b (omega arith) (omega arith)))
    ∙ ap (λ l. off b ∷ l) (places_upto n (b + 1) labels off (omega arith) (λ l lo hi. agree l (omega arith) (omega arith)))

pub place_zero : (ss : List TypedStep) → step_offset ss 0 ≡ 0
place_zero [] = refl
place_zero (s ∷ ss) = refl

-- each step ends where the next one starts
follows_of : (ss : List TypedStep) (at : ℕ → ℕ) (k : ℕ) → ((j : ℕ) → at (k + j) ≡ at k + step_offset ss j) → StepsFollow at k ss
follows_of [] at k h = tt
follows_of (s ∷ ss) at k h =
    let here : at (k + 1) ≡ at k + step_size s = h 1 ∙ omega (arith, place_zero ss) in
    (here, follows_of ss at (k + 1) (λ j. let e : k + 1 + j ≡ k + suc j = omega arith in ap at e ∙ h (suc j) ∙ omega (arith, here)))

pub place_follows : (ss : List TypedStep) → StepsFollow (step_offset ss) 0 ss
place_follows ss = follows_of ss (step_offset ss) 0 (λ j. ap (step_offset ss) (zero-add j) ∙ omega (arith, place_zero ss))

pub function_put : (ts : List Tree) (n b : ℕ) → put_length (function_fragments n b ts) ≡ blocks_size ts
function_put [] n b = refl
function_put (t ∷ ts) n b = omega (arith, put_append (fragments n 0 t) (function_fragments (n + fresh_labels t) (b + 1) ts), tree_put n 0 t, function_put ts (n + fresh_labels t) (b + 1))
