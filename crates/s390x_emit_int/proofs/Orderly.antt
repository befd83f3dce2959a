-- Emission's fragments keep a buffer in order: its length is even, each bound label stands at an even offset, and each use, of a label that may be used,
-- stands at an even offset behind those before it.
use Rattle.s390x_base.specs.declared.regs.Reg.{Reg}
use Rattle.s390x_inst.specs.declared.calls.CallInstDest.TheVariants.{Direct, Indirect}
use Rattle.s390x_inst.specs.declared.calls.CallInstDest.{CallInstDest}
use Rattle.s390x_rows.specs.declared.opcodes.TheConstants as opcodes
use Rattle.s390x_typed_steps.specs.StepBody.{Site, AtCall}
use Rattle.s390x_typed_steps.specs.Steps.{LoadedStep, CallingStep, TailJumpStep}
use Rattle.std.proofs.Common.{◌≡◌, ℕ, ◌+◌, ◌%◌, ◌<◌, ◌≤◌, List, [], ◌∷◌, ◌++◌, length, get_or, Bool, true, false, cond, Option, refl, sym, ap, ◌∙◌, subst, arith, length-append, None, Some}
use Rattle.std.specs.List.{All}
use Rattle.std.proofs.lemmas.List.{get_or_append_left}
use Rattle.std.proofs.lemmas.List.Elements.{All-push, All-set, All-weaker}
use Rattle.s390x_base.specs.Regs.{number_of}
use Rattle.s390x_base.specs.declared.ir.MachLabel.{MachLabel}
use Rattle.s390x_base.specs.declared.trap.TrapKind.{TrapKind}
use Rattle.s390x_buffer.specs.State.{BufferState, constant_label}
use Rattle.s390x_buffer.specs.Patch.{word_from, patch_size}
use Rattle.s390x_buffer.specs.declared.entries.LabelFixup.{LabelFixup}
use Rattle.s390x_buffer.specs.declared.label_use.LabelUse.{LabelUse}
use Rattle.s390x_buffer.specs.declared.label_use.LabelUse.TheVariants.{BranchRI, BranchRIL, PCRel32, PCRel32Dbl}
use Rattle.s390x_buffer.proofs.Sums.{same_word}
use Rattle.s390x_inst.specs.declared.inst.Inst.{Inst}
use Rattle.s390x_inst.specs.declared.args.MemArg.{MemArg}
use Rattle.s390x_inst.specs.declared.args.MemArg.TheVariants.{Label, Constant, Symbol}
use Rattle.s390x_inst.specs.declared.inst.Inst.TheVariants as I
use Rattle.s390x_typed_steps.specs.Tree.{Tree, empty, leaf, loop_node, NothingLeft, BranchLeft, Whole, Loaded, Folded, StepBody, CallStep, NoLoad, TailOpening, TailJump}
use Rattle.s390x_typed_steps.specs.Causes.{instruction_fresh_labels, fresh_labels, body_fresh_labels}
use Rattle.s390x_typed_steps.specs.SingleInstruction.{SingleInstruction, single_instruction, stop_code}
use Rattle.s390x_typed_steps.specs.MachineInstruction.{MachineInstruction, rr, rxy, bytes_of, size_of}
use Rattle.s390x_typed_steps.specs.Rows.{word_bytes}
use Rattle.s390x_typed_steps.specs.VectorComposite.{composite_rows}
use Rattle.s390x_typed_steps.specs.Parts.{CodePart, Row, Trapping, Branch, Relative, RelativeConstant, RelativeSymbol, TableWord, ToBlock, ToStep, table_words, branch_parts, row_part, parts_or, instruction_parts, memory_or, memory_parts}
use Rattle.s390x_typed_steps.specs.Parts.{trap_here, relative_part, relative_parts, access_parts, operand_parts, helper_parts, helpers_parts, SymbolValue, TrapHere, row_parts, CallSymbol, SiteHere, step_parts, call_part, tail_part, site_parts}
use Rattle.s390x_typed_steps.specs.Memory.{StorageForm, RxForm, MemoryInstruction, memory, loaded_memory, type_of, storage_row, address_form, fault_code}
use Rattle.s390x_typed_steps.specs.Operands.{is_relative, finalized_operand}
use Rattle.s390x_emit_int.specs.Fragments.{Fragment, apply, apply_all, Put, PutTrapping, Link, LinkConstant, StartStep, Draw, Bind, PutReloc, AddSite, RecordBranch}
use Rattle.s390x_emit_int.specs.Emission.{part_fragments, leaf_fragments, back_fragments, fragments, function_fragments, body_fragments}
use Rattle.s390x_emit_int.specs.Resolve.{put_length}
use Rattle.s390x_emit_int.specs.Bound.{PartsName, TreeNames, TreesName, BodyNames}
use Rattle.s390x_emit_int.proofs.Patching.{word_right}
use Rattle.s390x_emit_int.proofs.Runs.{length-bytes, length-branch, length-relative, length-call}
use Rattle.s390x_machine.proofs.Fetching.{size_even}

even_bytes : (m : MachineInstruction) → length (bytes_of m) % 2 ≡ 0
even_bytes m = ap (λ n. n % 2) (length-bytes m) ∙ size_even m.format

-- a use of a label has its bytes; a word of a table has at most the value of its place, so that the sum with a distance has a sign
abbrev pub LinkSound : LabelUse → (place : ℕ) → List ℕ → Type 0
LinkSound BranchRI p bs = ⊥
LinkSound BranchRIL p bs = length bs ≡ 6
LinkSound PCRel32 p bs = (length bs ≡ 4) × (word_from bs 0 ≤ p)
LinkSound PCRel32Dbl p bs = ⊥

-- a fragment at an offset or behind it, whose bytes come in pairs, and whose use is one of a label that may be used. So many blocks have labels before
-- the constants
abbrev pub Sound : (ℕ → Type 0) → (blocks place : ℕ) → Fragment → Type 0
Sound May blocks p (Put bs) = length bs % 2 ≡ 0
Sound May blocks p (PutReloc bs byte kind name addend) = length bs % 2 ≡ 0
Sound May blocks p (PutTrapping bs byte code) = length bs % 2 ≡ 0
Sound May blocks p (Link kind l bs) = LinkSound kind p bs × May l
Sound May blocks p (LinkConstant c bs) = LinkSound BranchRIL p bs × May (blocks + c)
Sound May blocks p StartStep = Unit {0}
Sound May blocks p Draw = Unit {0}
Sound May blocks p (Bind l) = Unit {0}
Sound May blocks p (AddSite site) = Unit {0}
Sound May blocks p (RecordBranch noted) = Unit {0}

abbrev pub AllSound : (ℕ → Type 0) → (blocks place : ℕ) → List Fragment → Type 0
AllSound May blocks p [] = Unit {0}
AllSound May blocks p (x ∷ xs) = Sound May blocks p x × AllSound May blocks (p + put_length (x ∷ [])) xs

link_later : (kind : LabelUse) (p q : ℕ) (bs : List ℕ) → p ≤ q → LinkSound kind p bs → LinkSound kind q bs
link_later BranchRI p q bs le h = h
link_later BranchRIL p q bs le h = h
link_later PCRel32 p q bs le h = (h.0, omega (arith, h.1))
link_later PCRel32Dbl p q bs le h = h

later_sound : (May : ℕ → Type 0) (blocks p q : ℕ) (x : Fragment) → p ≤ q → Sound May blocks p x → Sound May blocks q x
later_sound May blocks p q (Put bs) le h = h
later_sound May blocks p q (PutReloc bs byte kind name addend) le h = h
later_sound May blocks p q (PutTrapping bs byte code) le h = h
later_sound May blocks p q (Link kind l bs) le h = (link_later kind p q bs le h.0, h.1)
later_sound May blocks p q (LinkConstant c bs) le h = (link_later BranchRIL p q bs le h.0, h.1)
later_sound May blocks p q StartStep le h = h
later_sound May blocks p q Draw le h = h
later_sound May blocks p q (Bind l) le h = h
later_sound May blocks p q (AddSite site) le h = h
later_sound May blocks p q (RecordBranch noted) le h = h

all_later : (May : ℕ → Type 0) (xs : List Fragment) (blocks p q : ℕ) → p ≤ q → AllSound May blocks p xs → AllSound May blocks q xs
all_later May [] blocks p q le h = h
all_later May (x ∷ xs) blocks p q le h = (later_sound May blocks p q x le h.0, all_later May xs blocks (p + put_length (x ∷ [])) (q + put_length (x ∷ [])) (omega arith) h.1)

sound_append : (May : ℕ → Type 0) (a b : List Fragment) (blocks p : ℕ) → AllSound May blocks p a → AllSound May blocks 0 b → AllSound May blocks p (a ++ b)
sound_append May [] b blocks p h k = all_later May b blocks 0 p (omega arith) k
sound_append May (x ∷ a) b blocks p h k = (h.0, sound_append May a b blocks (p + put_length (x ∷ [])) h.1 k)

-- no table begins before the first of the parts, which stands at an offset
abbrev pub TablesBegin : (place : ℕ) → List CodePart → Type 0
TablesBegin p [] = Unit {0}
TablesBegin p (TableWord before target ∷ parts) = (before ≤ p) × TablesBegin (p + 4) parts
TablesBegin p (SymbolValue name offset ∷ parts) = TablesBegin (p + 8) parts
TablesBegin p (TrapHere code ∷ parts) = TablesBegin (p + 0) parts
TablesBegin p (Row m ∷ parts) = TablesBegin (p + size_of m) parts
TablesBegin p (Trapping m byte code ∷ parts) = TablesBegin (p + size_of m) parts
TablesBegin p (Branch mask target ∷ parts) = TablesBegin (p + 6) parts
TablesBegin p (Relative opcode register target ∷ parts) = TablesBegin (p + 6) parts
TablesBegin p (RelativeConstant opcode register c ∷ parts) = TablesBegin (p + 6) parts
TablesBegin p (RelativeSymbol opcode register name offset ∷ parts) = TablesBegin (p + 6) parts
TablesBegin p (CallSymbol link name ∷ parts) = TablesBegin (p + 6) parts
TablesBegin p (SiteHere site ∷ parts) = TablesBegin (p + 0) parts

word_sound : (before p : ℕ) → before ≤ p → LinkSound PCRel32 p (word_bytes before)
word_sound before p le = (refl, omega arith)

parts_sound : (May : ℕ → Type 0) (parts : List CodePart) (blocks constants p : ℕ) → PartsName blocks constants parts → TablesBegin p parts → ((l : ℕ) → l < blocks → May l) → ((c : ℕ) → c < constants → May (blocks + c)) → AllSound May blocks p (part_fragments parts)
parts_sound May [] blocks constants p names begin may held = tt
parts_sound May (Row m ∷ parts) blocks constants p names begin may held = (even_bytes m, all_later May (part_fragments parts) blocks (p + size_of m) _ (omega (arith, length-bytes m)) (parts_sound May parts blocks constants (p + size_of m) names.1 begin may held))
parts_sound May (Trapping m byte code ∷ parts) blocks constants p names begin may held = (even_bytes m, all_later May (part_fragments parts) blocks (p + size_of m) _ (omega (arith, length-bytes m)) (parts_sound May parts blocks constants (p + size_of m) names.1 begin may held))
parts_sound May (Branch mask (ToBlock b) ∷ parts) blocks constants p names begin may held = ((length-branch mask, may b names.0), all_later May (part_fragments parts) blocks (p + 6) _ (omega (arith, length-branch mask)) (parts_sound May parts blocks constants (p + 6) names.1 begin may held))
parts_sound May (Branch mask (ToStep k) ∷ parts) blocks constants p names begin may held = absurd names.0
parts_sound May (Relative opcode register (ToBlock b) ∷ parts) blocks constants p names begin may held =
    ((length-relative opcode register, may b names.0), all_later May (part_fragments parts) blocks (p + 6) _ (omega (arith, length-relative opcode register)) (parts_sound May parts blocks constants (p + 6) names.1 begin may held))
parts_sound May (Relative opcode register (ToStep k) ∷ parts) blocks constants p names begin may held = absurd names.0
parts_sound May (RelativeConstant opcode register c ∷ parts) blocks constants p names begin may held =
    ((length-relative opcode register, held c names.0), all_later May (part_fragments parts) blocks (p + 6) _ (omega (arith, length-relative opcode register)) (parts_sound May parts blocks constants (p + 6) names.1 begin may held))
parts_sound May (RelativeSymbol opcode register name offset ∷ parts) blocks constants p names begin may held =
    (omega (arith, length-relative opcode register), all_later May (part_fragments parts) blocks (p + 6) _ (omega (arith, length-relative opcode register)) (parts_sound May parts blocks constants (p + 6) names.1 begin may held))
parts_sound May (SymbolValue name offset ∷ parts) blocks constants p names begin may held = (refl, all_later May (part_fragments parts) blocks (p + 8) _ (omega arith) (parts_sound May parts blocks constants (p + 8) names.1 begin may held))
parts_sound May (TrapHere code ∷ parts) blocks constants p names begin may held = (refl, all_later May (part_fragments parts) blocks (p + 0) _ (omega arith) (parts_sound May parts blocks constants (p + 0) names.1 begin may held))
parts_sound May (TableWord before (ToBlock b) ∷ parts) blocks constants p names begin may held = ((word_sound before p begin.0, may b names.0), all_later May (part_fragments parts) blocks (p + 4) _ (omega arith) (parts_sound May parts blocks constants (p + 4) names.1 begin.1 may held))
parts_sound May (TableWord before (ToStep k) ∷ parts) blocks constants p names begin may held = absurd names.0
parts_sound May (CallSymbol link name ∷ parts) blocks constants p names begin may held =
    (omega (arith, length-call link), all_later May (part_fragments parts) blocks (p + 6) _ (omega (arith, length-call link)) (parts_sound May parts blocks constants (p + 6) names.1 begin may held))
parts_sound May (SiteHere site ∷ parts) blocks constants p names begin may held = (tt, all_later May (part_fragments parts) blocks (p + 0) _ (omega arith) (parts_sound May parts blocks constants (p + 0) names.1 begin may held))

row_begins : (m : MachineInstruction) (code : Option TrapKind) → TablesBegin 0 (row_part m code ∷ [])
row_begins m None = tt
row_begins m (Some code) = tt

begins_or : (o : Option SingleInstruction) (code : Option TrapKind) (others : List CodePart) → TablesBegin 0 others → TablesBegin 0 (parts_or o code others)
begins_or None code others h = h
begins_or (Some x) code others h = row_begins x.row code

words_begin : (ls : List MachLabel) (before p : ℕ) → before ≤ p → TablesBegin p (table_words before ls)
words_begin [] before p le = tt
words_begin (l ∷ ls) before p le = (le, words_begin ls (before + 4) (p + 4) (omega arith))

rows_begin : (ms : List MachineInstruction) (p : ℕ) → TablesBegin p (row_parts ms)
rows_begin [] p = tt
rows_begin (m ∷ ms) p = rows_begin ms (p + size_of m)

branch_begins : (i : Inst) → TablesBegin 0 (branch_parts i)
branch_begins (I.JTSequence ridx other mask targets) = words_begin targets.items 0 _ (omega arith)
branch_begins (I.Vector v) = rows_begin (composite_rows v) 0
branch_begins i = tt

-- ---- an instruction with a memory operand has no words of a table

-- no word of a table
unfoldable NoWords : List CodePart → Type 0
NoWords [] = Unit {0}
NoWords (TableWord before target ∷ parts) = ⊥
NoWords (_ ∷ parts) = NoWords parts

wordless_append : (a b : List CodePart) → NoWords a → NoWords b → NoWords (a ++ b)
unfolding NoWords
wordless_append [] b h k = k
wordless_append (TableWord before target ∷ a) b h k = absurd h
wordless_append (part ∷ a) b h k = wordless_append a b h k

access_wordless : (o : Option MachineInstruction) (code : Option TrapKind) → NoWords (access_parts o code)
unfolding NoWords
access_wordless None code = tt
access_wordless (Some m) None = tt
access_wordless (Some m) (Some code) = tt

trap_wordless : (code : Option TrapKind) → NoWords (trap_here code)
unfolding NoWords
trap_wordless None = tt
trap_wordless (Some code) = tt

part_wordless : (opcode register : ℕ) (m : MemArg) → NoWords (relative_part opcode register m)
unfolding NoWords
part_wordless opcode register (Label target) = tt
part_wordless opcode register (Constant c) = tt
part_wordless opcode register (Symbol name offset flags) = tt
part_wordless opcode register m = tt

relative_wordless : (form : StorageForm) (code : Option TrapKind) (m : MemArg) → NoWords (relative_parts form code m)
unfolding NoWords
relative_wordless (RxForm register rx_opcode rxy_opcode (Some opcode)) code m = wordless_append (trap_here code) (relative_part opcode register m) (trap_wordless code) (part_wordless opcode register m)
relative_wordless form code m = tt

either_wordless : (b : Bool) (x y : List CodePart) → NoWords x → NoWords y → NoWords (cond b x y)
either_wordless true x y h k = h
either_wordless false x y h k = k

operand_wordless : (form : StorageForm) (code : Option TrapKind) (m : MemArg) → NoWords (operand_parts form code m)
operand_wordless form code m = either_wordless (is_relative m) _ _ (relative_wordless form code m) (access_wordless (storage_row form m) code)

helper_wordless : (i : Inst) → NoWords (helper_parts i)
unfolding NoWords
helper_wordless (I.Mov64SImm32 rd imm) = tt
helper_wordless (I.LoadAddr rd mem) = operand_wordless (address_form rd) None mem
helper_wordless i = tt

helpers_wordless : (is : List Inst) → NoWords (helpers_parts is)
unfolding NoWords
helpers_wordless [] = tt
helpers_wordless (i ∷ is) = wordless_append (helper_parts i) (helpers_parts is) (helper_wordless i) (helpers_wordless is)

memory_wordless : (x : MemoryInstruction) → NoWords (memory_parts x)
memory_wordless x =
    let f = finalized_operand (type_of x.form x.accesses) x.operand in
    wordless_append (helpers_parts f.helpers) (operand_parts x.form (fault_code x) f.operand) (helpers_wordless f.helpers) (operand_wordless x.form (fault_code x) f.operand)

all_begin : (n : ℕ) (parts : List CodePart) → NoWords parts → TablesBegin n parts
unfolding NoWords
all_begin n [] h = tt
all_begin n (TableWord before target ∷ parts) h = absurd h
all_begin n (SymbolValue name offset ∷ parts) h = all_begin (n + 8) parts h
all_begin n (TrapHere code ∷ parts) h = all_begin (n + 0) parts h
all_begin n (Row m ∷ parts) h = all_begin (n + size_of m) parts h
all_begin n (Trapping m byte code ∷ parts) h = all_begin (n + size_of m) parts h
all_begin n (Branch mask target ∷ parts) h = all_begin (n + 6) parts h
all_begin n (Relative opcode register target ∷ parts) h = all_begin (n + 6) parts h
all_begin n (RelativeConstant opcode register c ∷ parts) h = all_begin (n + 6) parts h
all_begin n (RelativeSymbol opcode register name offset ∷ parts) h = all_begin (n + 6) parts h
all_begin n (CallSymbol link name ∷ parts) h = all_begin (n + 6) parts h
all_begin n (SiteHere site ∷ parts) h = all_begin (n + 0) parts h

memory_begins : (o : Option MemoryInstruction) (others : List CodePart) → TablesBegin 0 others → TablesBegin 0 (memory_or o others)
memory_begins None others h = h
memory_begins (Some x) others h = all_begin 0 (memory_parts x) (memory_wordless x)

leaf_sound : (May : ℕ → Type 0) (i : Inst) (n after blocks constants : ℕ) → PartsName blocks constants (instruction_parts i) → ((l : ℕ) → l < blocks → May l) → ((c : ℕ) → c < constants → May (blocks + c)) → ((l : ℕ) → n ≤ l → l < n + instruction_fresh_labels i → May l) → May after → AllSound May blocks 0 (leaf_fragments n after i)
leaf_sound May (I.Jump dest) n after blocks constants names may held drawn here = (tt, ((length-branch 15, may dest.0 names.0), tt))
leaf_sound May (I.CondBr taken not_taken mask) n after blocks constants names may held drawn here =
    (tt, ((length-branch mask, may taken.0 names.0), (tt, ((length-branch 15, may not_taken.0 names.1.0), tt))))
leaf_sound May (I.CondBreak mask) n after blocks constants names may held drawn here = ((length-branch mask, here), tt)
leaf_sound May (I.JTSequence ridx other mask targets) n after blocks constants names may held drawn here = (
  tt,
  (
    (length-branch mask, may other.0 names.0),
    (
      (length-relative opcodes.LARL 1, drawn n (omega arith) (omega arith)),
      (even_bytes (rxy opcodes.AGF 1 1 (number_of ridx) 0), (even_bytes (rr opcodes.BCR 15 1), (tt, parts_sound May (table_words 0 targets.items) blocks constants _ names.1.1.1.1 (words_begin targets.items 0 _ (omega arith)) may held))),
    ),
  ),
)
leaf_sound May i n after blocks constants names may held drawn here = parts_sound May (instruction_parts i) blocks constants 0 names (begins_or (single_instruction i) (stop_code i) (memory_or (memory i) (branch_parts i)) (memory_begins (memory i) (branch_parts i) (branch_begins i))) may held

sites_begin : (n : ℕ) (ss : List Site) → TablesBegin n (site_parts ss)
sites_begin n [] = tt
sites_begin n (s ∷ ss) = sites_begin (n + 0) ss

call_begins : (link : Reg) (target : CallInstDest) (ss : List Site) → TablesBegin 0 (call_part link target ∷ site_parts ss)
call_begins link (Direct name) ss = sites_begin 6 ss
call_begins link (Indirect reg) ss = sites_begin _ ss

jump_begins : (target : CallInstDest) → TablesBegin 0 (tail_part target ∷ site_parts (AtCall ∷ []))
jump_begins (Direct name) = tt
jump_begins (Indirect reg) = tt

body_sound : (May : ℕ → Type 0) (b : StepBody) (n after blocks constants : ℕ) → BodyNames blocks constants b → ((l : ℕ) → l < blocks → May l) → ((c : ℕ) → c < constants → May (blocks + c)) → ((l : ℕ) → n ≤ l → l < n + body_fresh_labels b → May l) → May after → AllSound May blocks 0 (body_fragments n after b)
body_sound May (Whole i) n after blocks constants names may held drawn here = leaf_sound May i n after blocks constants names may held drawn here
body_sound May (Loaded i) n after blocks constants names may held drawn here = parts_sound May (step_parts (LoadedStep i)) blocks constants 0 names (memory_begins (loaded_memory i) [] tt) may held
body_sound May (Folded NothingLeft i) n after blocks constants names may held drawn here = tt
body_sound May (Folded (BranchLeft mask b) i) n after blocks constants names may held drawn here = ((length-branch mask, may b names.0), tt)
body_sound May (CallStep c) n after blocks constants names may held drawn here = parts_sound May (step_parts (CallingStep c)) blocks constants 0 names (call_begins c.link c.target c.sites) may held
body_sound May NoLoad n after blocks constants names may held drawn here = tt
body_sound May (TailOpening target first_saved is_lost) n after blocks constants names may held drawn here = tt
body_sound May (TailJump target) n after blocks constants names may held drawn here = parts_sound May (step_parts (TailJumpStep target)) blocks constants 0 names (jump_begins target) may held

pub tree_sound : (May : ℕ → Type 0) (t : Tree) (n after blocks constants : ℕ) → TreeNames blocks constants t → ((l : ℕ) → l < blocks → May l) → ((c : ℕ) → c < constants → May (blocks + c)) → ((l : ℕ) → n ≤ l → l < n + fresh_labels t → May l) → May after → AllSound May blocks 0 (fragments n after t)
tree_sound May empty n after blocks constants names may held drawn here = tt
tree_sound May (leaf b rest) n after blocks constants names may held drawn here = (
  tt,
  sound_append May (body_fragments n after b) (fragments (n + body_fresh_labels b) after rest) blocks 0
      (body_sound May b n after blocks constants names.0 may held (λ l lo hi. drawn l lo (omega arith)) here)
      (tree_sound May rest (n + body_fresh_labels b) after blocks constants names.1 may held (λ l lo hi. drawn l (omega arith) (omega arith)) here),
)
tree_sound May (loop_node mask members rest) n after blocks constants names may held drawn here =
    let r = fragments (n + 2 + fresh_labels members) after rest in
    let inner = tree_sound May members (n + 2) (n + 1) blocks constants names.0 may held (λ l lo hi. drawn l (omega arith) (omega arith)) (drawn (n + 1) (omega arith) (omega arith)) in
    let outer = tree_sound May rest (n + 2 + fresh_labels members) after blocks constants names.1 may held (λ l lo hi. drawn l (omega arith) (omega arith)) here in
    let back : AllSound May blocks 0 (back_fragments n mask ++ r) = (tt, ((length-branch mask, drawn n (omega arith) (omega arith)), (tt, all_later May r blocks 0 _ (omega arith) outer))) in
    (tt, (tt, (tt, (tt, sound_append May (fragments (n + 2) (n + 1) members) (back_fragments n mask ++ r) blocks 0 inner back))))

-- how many labels the blocks draw
abbrev pub all_fresh_labels : List Tree → ℕ
all_fresh_labels [] = 0
all_fresh_labels (t ∷ ts) = fresh_labels t + all_fresh_labels ts

pub function_sound : (May : ℕ → Type 0) (ts : List Tree) (n b blocks constants : ℕ) → TreesName blocks constants ts → ((l : ℕ) → l < blocks → May l) → ((c : ℕ) → c < constants → May (blocks + c)) → ((l : ℕ) → n ≤ l → l < n + all_fresh_labels ts → May l) → b + length ts ≤ blocks → AllSound May blocks 0 (function_fragments n b ts)
function_sound May [] n b blocks constants names may held drawn room = tt
function_sound May (t ∷ ts) n b blocks constants names may held drawn room =
    let here = tree_sound May t n 0 blocks constants names.0 may held (λ l lo hi. drawn l (omega arith) (omega arith)) (may 0 (omega arith)) in
    let there = function_sound May ts (n + fresh_labels t) (b + 1) blocks constants names.1 may held (λ l lo hi. drawn l (omega arith) (omega arith)) (omega arith) in
    (tt, sound_append May (fragments n 0 t) (function_fragments (n + fresh_labels t) (b + 1) ts) blocks 0 here there)

-- where a label stands, if it does: at an even offset in so many bytes
abbrev pub Stands : ℕ → Option ℕ → Type 0
Stands n None = Unit {0}
Stands n (Some p) = (p % 2 ≡ 0) × (p ≤ n)

-- the bytes that a use patches bear it
abbrev pub BearsUse : LabelUse → (offset : ℕ) → List ℕ → Type 0
BearsUse BranchRI o bs = ⊥
BearsUse BranchRIL o bs = Unit {0}
BearsUse PCRel32 o bs = word_from bs o ≤ o
BearsUse PCRel32Dbl o bs = ⊥

-- a use from an offset on that can be patched once its label stands
pub record IsUse (May : ℕ → Type 0) (bs : List ℕ) (from : ℕ) (u : LabelFixup) : Type 0 where
  pub behind : from ≤ u.offset
  pub even : u.offset % 2 ≡ 0
  pub within : u.offset + patch_size u.kind ≤ length bs
  pub bears : BearsUse u.kind u.offset bs
  pub label : May u.label.0

-- such uses, one behind another
abbrev pub UsesStand : (ℕ → Type 0) → List ℕ → (from : ℕ) → List LabelFixup → Type 0
UsesStand May bs n [] = Unit {0}
UsesStand May bs n (u ∷ us) = IsUse May bs n u × UsesStand May bs (u.offset + patch_size u.kind) us

-- the bytes from an index on are the same
abbrev pub SameFrom : ℕ → (old new : List ℕ) → Type 0
SameFrom n old new = (length old ≤ length new) × ((i : ℕ) → n ≤ i → i < length old → get_or new i 0 ≡ get_or old i 0)

bears_still : (kind : LabelUse) (n o : ℕ) (old new : List ℕ) → SameFrom n old new → n ≤ o → o + patch_size kind ≤ length old → BearsUse kind o old → BearsUse kind o new
bears_still BranchRI n o old new same le within h = h
bears_still BranchRIL n o old new same le within h = h
bears_still PCRel32 n o old new same le within h =
    let e : word_from new o ≡ word_from old o = same_word o new old (λ i lo hi. same.1 i (omega arith) (omega arith)) in
    omega (arith, e, h)
bears_still PCRel32Dbl n o old new same le within h = h

use_still : (May : ℕ → Type 0) (n from : ℕ) (old new : List ℕ) (u : LabelFixup) → SameFrom n old new → n ≤ from → IsUse May old from u → IsUse May new from u
use_still May n from old new u same le h = record {
  behind = h.behind;
  even = h.even;
  within = omega (arith, h.within, same.0);
  bears = bears_still u.kind n u.offset old new same (omega (arith, h.behind)) h.within h.bears;
  label = h.label;
}

pub uses_still : (May : ℕ → Type 0) (us : List LabelFixup) (n from : ℕ) (old new : List ℕ) → SameFrom n old new → n ≤ from → UsesStand May old from us → UsesStand May new from us
uses_still May [] n from old new same le h = tt
uses_still May (u ∷ us) n from old new same le h =
    (use_still May n from old new u same le h.0, uses_still May us n (u.offset + patch_size u.kind) old new same (omega (arith, h.0.behind)) h.1)

-- one more, behind all bytes that stood there
one_more_use : (May : ℕ → Type 0) (us : List LabelFixup) (from : ℕ) (old new : List ℕ) (u : LabelFixup) → SameFrom 0 old new → from ≤ length old → UsesStand May old from us → IsUse May new (length old) u → UsesStand May new from (us ++ u ∷ [])
one_more_use May [] from old new u same le h last = (record { behind = omega (arith, last.behind); even = last.even; within = last.within; bears = last.bears; label = last.label }, tt)
one_more_use May (v ∷ us) from old new u same le h last =
    (use_still May 0 from old new v same (omega arith) h.0, one_more_use May us (v.offset + patch_size v.kind) old new u same h.0.within h.1 last)

pub record Orderly (May : ℕ → Type 0) (s : BufferState) : Type 0 where
  pub even : length s.bytes % 2 ≡ 0
  pub labels : All (Stands (length s.bytes)) s.labels
  pub uses : UsesStand May s.bytes 0 s.uses

stands_more : (n m : ℕ) → n ≤ m → (o : Option ℕ) → Stands n o → Stands m o
stands_more n m le None h = tt
stands_more n m le (Some p) h = (h.0, omega (arith, h.1))

pub same_append : (n : ℕ) (old more : List ℕ) → SameFrom n old (old ++ more)
same_append n old more = (omega (arith, length-append old more), λ i lo hi. get_or_append_left old more 0 i hi)

-- what a use puts bears it
link_bears : (kind : LabelUse) (p : ℕ) (old bs : List ℕ) → p ≤ length old → LinkSound kind p bs → BearsUse kind (length old) (old ++ bs)
link_bears BranchRI p old bs le h = h
link_bears BranchRIL p old bs le h = tt
link_bears PCRel32 p old bs le h = omega (arith, word_right old bs, h.1)
link_bears PCRel32Dbl p old bs le h = h

-- and has its bytes, which come in pairs
link_size : (kind : LabelUse) (p : ℕ) (bs : List ℕ) → LinkSound kind p bs → (length bs ≡ patch_size kind) × (length bs % 2 ≡ 0)
link_size BranchRI p bs h = absurd h
link_size BranchRIL p bs h = (h, omega (arith, h))
link_size PCRel32 p bs h = (h.0, omega (arith, h.0))
link_size PCRel32Dbl p bs h = absurd h

orderly_step : (May : ℕ → Type 0) (x : Fragment) (s : BufferState) (blocks p : ℕ) → s.block_count ≡ blocks → p ≤ length s.bytes → Sound May blocks p x → Orderly May s → Orderly May (apply s x)
orderly_step May (Put bs) s blocks p count le sound h =
    let n = length-append s.bytes bs in
    record {
      even = omega (arith, n, sound, h.even);
      labels = All-weaker _ _ (stands_more (length s.bytes) (length (s.bytes ++ bs)) (omega (arith, n))) s.labels h.labels;
      uses = uses_still May s.uses 0 0 s.bytes (s.bytes ++ bs) (same_append 0 s.bytes bs) (omega arith) h.uses;
    }
orderly_step May (PutReloc bs byte kind name addend) s blocks p count le sound h =
    let n = length-append s.bytes bs in
    record {
      even = omega (arith, n, sound, h.even);
      labels = All-weaker _ _ (stands_more (length s.bytes) (length (s.bytes ++ bs)) (omega (arith, n))) s.labels h.labels;
      uses = uses_still May s.uses 0 0 s.bytes (s.bytes ++ bs) (same_append 0 s.bytes bs) (omega arith) h.uses;
    }
orderly_step May (PutTrapping bs byte code) s blocks p count le sound h =
    let n = length-append s.bytes bs in
    record {
      even = omega (arith, n, sound, h.even);
      labels = All-weaker _ _ (stands_more (length s.bytes) (length (s.bytes ++ bs)) (omega (arith, n))) s.labels h.labels;
      uses = uses_still May s.uses 0 0 s.bytes (s.bytes ++ bs) (same_append 0 s.bytes bs) (omega arith) h.uses;
    }
orderly_step May (Link kind l bs) s blocks p count le sound h =
    let n = length-append s.bytes bs in
    let size = link_size kind p bs sound.0 in
    let u : LabelFixup = record { kind = kind; offset = length s.bytes; label = record { 0 = l } } in
    record {
      even = omega (arith, n, size.1, h.even);
      labels = All-weaker _ _ (stands_more (length s.bytes) (length (s.bytes ++ bs)) (omega (arith, n))) s.labels h.labels;
      uses = one_more_use May s.uses 0 s.bytes (s.bytes ++ bs) u (same_append 0 s.bytes bs) (omega arith) h.uses (record {
        behind = omega arith;
        even = h.even;
        within = omega (arith, n, size.0);
        bears = link_bears kind p s.bytes bs le sound.0;
        label = sound.1;
      });
    }
orderly_step May (LinkConstant c bs) s blocks p count le sound h =
    let n = length-append s.bytes bs in
    let size = link_size BranchRIL p bs sound.0 in
    let u : LabelFixup = record { kind = BranchRIL; offset = length s.bytes; label = record { 0 = constant_label s c } } in
    record {
      even = omega (arith, n, size.1, h.even);
      labels = All-weaker _ _ (stands_more (length s.bytes) (length (s.bytes ++ bs)) (omega (arith, n))) s.labels h.labels;
      uses = one_more_use May s.uses 0 s.bytes (s.bytes ++ bs) u (same_append 0 s.bytes bs) (omega arith) h.uses (record {
        behind = omega arith;
        even = h.even;
        within = omega (arith, n, size.0);
        bears = link_bears BranchRIL p s.bytes bs le sound.0;
        label = subst (λ n. May (n + c)) (sym count) sound.1;
      });
    }
orderly_step May StartStep s blocks p count le sound h = record { even = h.even; labels = h.labels; uses = h.uses }
orderly_step May Draw s blocks p count le sound h = record { even = h.even; labels = All-push (Stands (length s.bytes)) s.labels None h.labels tt; uses = h.uses }
orderly_step May (Bind l) s blocks p count le sound h = record { even = h.even; labels = All-set (Stands (length s.bytes)) s.labels l (Some (length s.bytes)) (h.even, omega arith) h.labels; uses = h.uses }
orderly_step May (AddSite site) s blocks p count le sound h = record { even = h.even; labels = h.labels; uses = h.uses }
orderly_step May (RecordBranch noted) s blocks p count le sound h = record { even = h.even; labels = h.labels; uses = h.uses }

applied_length : (x : Fragment) (s : BufferState) → length (apply s x).bytes ≡ length s.bytes + put_length (x ∷ [])
applied_length (Put bs) s = omega (arith, length-append s.bytes bs)
applied_length (PutReloc bs byte kind name addend) s = omega (arith, length-append s.bytes bs)
applied_length (PutTrapping bs byte code) s = omega (arith, length-append s.bytes bs)
applied_length (Link kind l bs) s = omega (arith, length-append s.bytes bs)
applied_length (LinkConstant c bs) s = omega (arith, length-append s.bytes bs)
applied_length StartStep s = omega arith
applied_length Draw s = omega arith
applied_length (Bind l) s = omega arith
applied_length (AddSite site) s = omega arith
applied_length (RecordBranch noted) s = omega arith

applied_count : (x : Fragment) (s : BufferState) → (apply s x).block_count ≡ s.block_count
applied_count (Put bs) s = refl
applied_count (PutReloc bs byte kind name addend) s = refl
applied_count (PutTrapping bs byte code) s = refl
applied_count (Link kind l bs) s = refl
applied_count (LinkConstant c bs) s = refl
applied_count StartStep s = refl
applied_count Draw s = refl
applied_count (Bind l) s = refl
applied_count (AddSite site) s = refl
applied_count (RecordBranch noted) s = refl

pub orderly_run : (May : ℕ → Type 0) (xs : List Fragment) (s : BufferState) (blocks p : ℕ) → s.block_count ≡ blocks → p ≤ length s.bytes → AllSound May blocks p xs → Orderly May s → Orderly May (apply_all s xs)
orderly_run May [] s blocks p count le sound h = h
orderly_run May (x ∷ xs) s blocks p count le sound h =
    orderly_run May xs (apply s x) blocks (p + put_length (x ∷ [])) (applied_count x s ∙ count) (omega (arith, applied_length x s)) sound.1 (orderly_step May x s blocks p count le sound.0 h)
