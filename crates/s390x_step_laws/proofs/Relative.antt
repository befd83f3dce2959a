-- On a machine that lacks rows relative to the instruction no step accesses an operand so.
use Rattle.std.proofs.Common.{◌≡◌, ℕ, zero, suc, ◌+◌, List, [], ◌∷◌, ◌++◌, map, Bool, true, false, not, ◌&&◌, Option, Some, None, option_map, cond, ◌⊎◌, inl, inr, refl, sym, ◌∙◌, subst, true≢false, slice_get}
use Rattle.s390x_base.specs.Regs.{number_of}
use Rattle.s390x_base.specs.declared.ir.MachLabel.{MachLabel}
use Rattle.s390x_base.specs.declared.regs.Reg.{Reg}
use Rattle.s390x_base.specs.declared.trap.TrapKind.{TrapKind}
use Rattle.s390x_inst.specs.Emission.{Emission}
use Rattle.s390x_inst.specs.Loads.{as_load, by_load}
use Rattle.s390x_inst.specs.Stores.{as_store, by_store}
use Rattle.s390x_inst.specs.declared.args.MemArg.{MemArg}
use Rattle.s390x_inst.specs.declared.args.MemArg.TheVariants.{BXD12, Label, Constant, Symbol, RegOffset}
use Rattle.s390x_inst.specs.declared.calls.CallInstDest.{CallInstDest}
use Rattle.s390x_inst.specs.declared.calls.CallInstDest.TheVariants.{Direct, Indirect}
use Rattle.s390x_inst.specs.declared.function.Block.{Block}
use Rattle.s390x_inst.specs.declared.inst.Inst.{Inst}
use Rattle.s390x_inst.specs.declared.inst.Inst.TheVariants as I
use Rattle.s390x_inst.specs.declared.load.Load.{Load}
use Rattle.s390x_inst.specs.declared.store.Store.{Store}
use Rattle.s390x_inst.specs.declared.state.IsaFlags.{IsaFlags}
use Rattle.s390x_typed_steps.specs.Baseline.{whole_or_loaded, body_for, tree_for}
use Rattle.s390x_typed_steps.specs.Folding.{folded_members, fold, body_with_remainder, remainder, branches_of, folded_before, folded_from, next_block}
use Rattle.s390x_typed_steps.specs.MachineInstruction.{MachineInstruction}
use Rattle.s390x_typed_steps.proofs.RelativeRows.{IsUnrelated, rest_unrelated}
use Rattle.s390x_typed_steps.specs.Memory.{StorageForm, RxForm, MemoryInstruction, memory, load_memory, store_memory, rest_memory, other_memory, accesses_relative, has_relative_row, other_rows, with_rows, without_relative, address_form, storage_row, type_of, fault_code}
use Rattle.s390x_typed_steps.specs.Operands.{Finalized, finalized_operand, with_displacement, with_address_loaded, with_long_displacement, needs_address, is_relative, fits_12, fits_20, fits_32}
use Rattle.s390x_typed_steps.specs.Parts.{CodePart, step_parts, instruction_parts, parts_or, row_part, memory_or, memory_parts, helpers_parts, helper_parts, operand_parts, relative_parts, relative_part, access_parts, trap_here, branch_parts, table_words, row_parts, site_parts, call_part, tail_part, remainder_parts}
use Rattle.s390x_typed_steps.specs.SingleInstruction.{SingleInstruction, single_instruction, stop_code}
use Rattle.s390x_typed_steps.specs.StepBody.{Site, AtCall, Remainder, NothingLeft, BranchLeft}
use Rattle.s390x_typed_steps.specs.Steps.{Step, Plain, Back, step_of, steps_of, steps_from, step_count, function_steps}
use Rattle.s390x_typed_steps.specs.Tree.{StepBody, Tree, Whole, Loaded, Folded, CallStep, NoLoad, TailOpening, TailJump, empty, leaf, loop_node, prepend}
use Rattle.s390x_typed_steps.specs.VectorComposite.{composite_rows}
use Rattle.s390x_typed_steps.specs.declared.mem_inst_type.MemInstType.{MemInstType}
use Rattle.s390x_step_laws.specs.Given.{given_tree, flagged_tree, emitted_trees, emitted_alone}
use Rattle.s390x_step_laws.specs.Relative.{larl, AccessNothingRelative}

-- ---- lists of parts

both : (ps qs : List CodePart) → AccessNothingRelative ps → AccessNothingRelative qs → AccessNothingRelative (ps ++ qs)
both [] qs h k = k
both (p ∷ ps) qs h k = (h.0, both ps qs h.1 k)

rows_fine : (ms : List MachineInstruction) → AccessNothingRelative (row_parts ms)
rows_fine [] = tt
rows_fine (m ∷ ms) = (tt, rows_fine ms)

words_fine : (before : ℕ) (ls : List MachLabel) → AccessNothingRelative (table_words before ls)
words_fine before [] = tt
words_fine before (l ∷ ls) = (tt, words_fine (before + 4) ls)

sites_fine : (ss : List Site) → AccessNothingRelative (site_parts ss)
sites_fine [] = tt
sites_fine (s ∷ ss) = (tt, sites_fine ss)

trap_fine : (code : Option TrapKind) → AccessNothingRelative (trap_here code)
trap_fine None = tt
trap_fine (Some code) = (tt, tt)

access_fine : (o : Option MachineInstruction) (code : Option TrapKind) → AccessNothingRelative (access_parts o code)
access_fine None code = tt
access_fine (Some m) None = (tt, tt)
access_fine (Some m) (Some code) = (tt, tt)

-- ---- an operand in memory

-- by LOAD ADDRESS
address_fine : (register : ℕ) (m : MemArg) → AccessNothingRelative (relative_part larl register m)
address_fine register (Label target) = (refl, tt)
address_fine register (Constant c) = (refl, tt)
address_fine register (Symbol name offset flags) = (refl, tt)
address_fine register _ = tt

-- by rows of which none is relative
unrelated_fine : (form : StorageForm) (code : Option TrapKind) (m : MemArg) → has_relative_row form ≡ false → AccessNothingRelative (relative_parts form code m)
unrelated_fine (RxForm register rx_opcode rxy_opcode (Some opcode)) code m e = absurd (true≢false e)
unrelated_fine (RxForm register rx_opcode rxy_opcode None) code m e = tt
unrelated_fine form code m e = tt

by_operand : (form : StorageForm) (code : Option TrapKind) (m : MemArg) → (is_relative m ≡ true → AccessNothingRelative (relative_parts form code m)) → AccessNothingRelative (operand_parts form code m)
by_operand form code m h = go (is_relative m) h
  where
    go : (t : Bool) → (t ≡ true → AccessNothingRelative (relative_parts form code m)) → AccessNothingRelative (cond t (relative_parts form code m) (access_parts (storage_row form m) code))
    go true h = h refl
    go false h = access_fine (storage_row form m) code

address_parts_fine : (rd : Reg) (code : Option TrapKind) (m : MemArg) → AccessNothingRelative (operand_parts (address_form rd) code m)
address_parts_fine rd code m = by_operand (address_form rd) code m (λ e. both (trap_here code) (relative_part larl (number_of rd) m) (trap_fine code) (address_fine (number_of rd) m))

helper_fine : (i : Inst) → AccessNothingRelative (helper_parts i)
helper_fine (I.Mov64SImm32 rd imm) = (tt, tt)
helper_fine (I.LoadAddr rd mem) = address_parts_fine rd None mem
helper_fine _ = tt

helpers_fine : (is : List Inst) → AccessNothingRelative (helpers_parts is)
helpers_fine [] = tt
helpers_fine (i ∷ is) = both (helper_parts i) (helpers_parts is) (helper_fine i) (helpers_fine is)

-- an operand that isn't relative stays so in the access
one_of_four : (a b c : Bool) (f g h k : Finalized) → is_relative f.operand ≡ false → is_relative g.operand ≡ false → is_relative h.operand ≡ false → is_relative k.operand ≡ false → is_relative (cond {A = Finalized} a f (cond b g (cond c h k))).operand ≡ false
one_of_four true b c f g h k p q r s = p
one_of_four false true c f g h k p q r s = q
one_of_four false false true f g h k p q r s = r
one_of_four false false false f g h k p q r s = s

displaced_stays : (m : MemArg) → is_relative m ≡ false → is_relative (with_displacement m).operand ≡ false
displaced_stays (RegOffset reg off flags) e = one_of_four (fits_12 off) (fits_20 off) (fits_32 off) _ _ _ _ refl refl refl refl
displaced_stays m e = e

either_operand : (t : Bool) (m n : MemArg) → is_relative m ≡ false → is_relative n ≡ false → is_relative (cond t m n) ≡ false
either_operand true m n p q = p
either_operand false m n p q = q

widened_stays : (mi : MemInstType) (m : MemArg) → is_relative m ≡ false → is_relative (with_long_displacement mi m) ≡ false
widened_stays mi (BXD12 base index disp flags) e = either_operand (not mi.have_d12 && mi.have_d20) _ _ refl refl
widened_stays mi m e = e

either_stays : (t : Bool) (f g : Finalized) → is_relative f.operand ≡ false → is_relative g.operand ≡ false → is_relative (cond {A = Finalized} t f g).operand ≡ false
either_stays true f g p q = p
either_stays false f g p q = q

addressed_stays : (mi : MemInstType) (f : Finalized) → is_relative f.operand ≡ false → is_relative (with_address_loaded mi f).operand ≡ false
addressed_stays mi f e = either_stays (needs_address mi f.operand) _ f refl e

finalized_stays : (mi : MemInstType) (m : MemArg) → is_relative m ≡ false → is_relative (finalized_operand mi m).operand ≡ false
finalized_stays mi m e = widened_stays mi (with_address_loaded mi (with_displacement m)).operand (addressed_stays mi (with_displacement m) (displaced_stays m e))

-- an instruction that accesses its operand, or whose row is LOAD ADDRESS
abbrev MayAccess : Option MemoryInstruction → Type 0
MayAccess None = Unit {0}
MayAccess (Some x) = (x.accesses ≡ true) ⊎ ((rd : Reg) × (x.form ≡ address_form rd))

-- where it isn't by a row relative to it
accessing_fine : (x : MemoryInstruction) → MayAccess (Some x) → accesses_relative (Some x) ≡ false → AccessNothingRelative (memory_parts x)
accessing_fine x (inr h) e =
    let f = finalized_operand (type_of x.form x.accesses) x.operand in
    both (helpers_parts f.helpers) (operand_parts x.form (fault_code x) f.operand) (helpers_fine f.helpers) (subst (λ form. AccessNothingRelative (operand_parts form (fault_code x) f.operand)) (sym h.1) (address_parts_fine h.0 (fault_code x) f.operand))
accessing_fine x (inl does) e =
    let f = finalized_operand (type_of x.form x.accesses) x.operand in
    both (helpers_parts f.helpers) (operand_parts x.form (fault_code x) f.operand) (helpers_fine f.helpers)
    (by_operand x.form (fault_code x) f.operand (λ is. unrelated_fine x.form (fault_code x) f.operand (go (has_relative_row x.form) x.accesses (is_relative x.operand) does e (λ not_so. true≢false (sym is ∙ finalized_stays (type_of x.form x.accesses) x.operand not_so)))))
  where
    go : (a b c : Bool) → b ≡ true → (a && b && c) ≡ false → (c ≡ false → ⊥) → a ≡ false
    go false b c does e h = refl
    go true true true does e h = absurd (true≢false e)
    go true true false does e h = absurd (h refl)
    go true false c does e h = absurd (true≢false (sym does))

memory_fine : (o : Option MemoryInstruction) (others : List CodePart) → MayAccess o → accesses_relative o ≡ false → AccessNothingRelative others → AccessNothingRelative (memory_or o others)
memory_fine None others m e h = h
memory_fine (Some x) others m e h = accessing_fine x m e

-- ---- which instructions access their operands

may_be : (o : Option MemoryInstruction) → IsUnrelated o → MayAccess o
may_be None h = tt
may_be (Some x) h = inl h.0

-- the last clause is a copy for each other instruction
rest_accesses : (i : Inst) → MayAccess (rest_memory i)
rest_accesses (I.CmpRX op rn mem) = inl refl
rest_accesses (I.LoadAddr rd mem) = inr (rd, refl)
rest_accesses i = may_be (rest_memory i) (rest_unrelated i)

other_accesses : (rest : Option MemoryInstruction) → MayAccess rest → (o : Option Store) → MayAccess (by_store store_memory rest o)
other_accesses rest h None = h
other_accesses rest h (Some s) = inl refl

may_access : (i : Inst) → MayAccess (memory i)
may_access i = go (as_load i)
  where
    go : (o : Option Load) → MayAccess (by_load load_memory (other_memory i) o)
    go None = other_accesses (rest_memory i) (rest_accesses i) (as_store i)
    go (Some l) = inl refl

-- ---- instructions

-- the last clause is a copy for each whose parts are known
branch_fine : (i : Inst) → AccessNothingRelative (branch_parts i)
branch_fine (I.JTSequence ridx other mask targets) = (tt, (tt, (tt, (tt, words_fine 0 targets.items))))
branch_fine (I.Vector v) = rows_fine (composite_rows v)
branch_fine i = assumption

row_fine : (m : MachineInstruction) (code : Option TrapKind) → AccessNothingRelative (row_part m code ∷ [])
row_fine m None = (tt, tt)
row_fine m (Some code) = (tt, tt)

single_or : (o : Option SingleInstruction) (code : Option TrapKind) (others : List CodePart) → AccessNothingRelative others → AccessNothingRelative (parts_or o code others)
single_or None code others h = h
single_or (Some x) code others h = row_fine x.row code

whole_fine : (i : Inst) → accesses_relative (memory i) ≡ false → AccessNothingRelative (instruction_parts i)
whole_fine i e = single_or (single_instruction i) (stop_code i) (memory_or (memory i) (branch_parts i)) (memory_fine (memory i) (branch_parts i) (may_access i) e (branch_fine i))

-- one whose operand's address is loaded first
loaded_fine : (o : Option MemoryInstruction) → AccessNothingRelative (memory_or (without_relative o) [])
loaded_fine None = tt
loaded_fine (Some x) = go x.form x.accesses
  where
    go : (form : StorageForm) (accesses : Bool) → AccessNothingRelative (memory_or (option_map (with_rows x) (other_rows form accesses)) [])
    go (RxForm register rx_opcode rxy_opcode (Some opcode)) true =
        let y = with_rows x (RxForm register rx_opcode rxy_opcode None) in
        let f = finalized_operand (type_of y.form y.accesses) y.operand in
        both (helpers_parts f.helpers) (operand_parts y.form (fault_code y) f.operand) (helpers_fine f.helpers) (by_operand y.form (fault_code y) f.operand (λ is. tt))
    go (RxForm register rx_opcode rxy_opcode (Some opcode)) false = tt
    go (RxForm register rx_opcode rxy_opcode None) accesses = tt
    go form accesses = tt

-- ---- bodies

abbrev BodyFine : StepBody → Type 0
BodyFine b = (after : ℕ) → AccessNothingRelative (step_parts (step_of after b))

plain_fine : (flags : IsaFlags) (i : Inst) → flags.no_relative_memory ≡ true → (after : ℕ) → step_of after (Whole i) ≡ Plain i → AccessNothingRelative (step_parts (step_of after (body_for flags (Whole i))))
plain_fine flags i lacks after plain = go (accesses_relative (memory i)) flags.no_relative_memory refl lacks
  where
    go : (a n : Bool) → accesses_relative (memory i) ≡ a → n ≡ true → AccessNothingRelative (step_parts (step_of after (whole_or_loaded (a && n) i)))
    go true true is lacks = loaded_fine (memory i)
    go true false is lacks = absurd (true≢false (sym lacks))
    go false n is lacks = subst (λ s. AccessNothingRelative (step_parts s)) (sym plain) (whole_fine i is)

remainder_fine : (r : Remainder) → AccessNothingRelative (remainder_parts r)
remainder_fine NothingLeft = tt
remainder_fine (BranchLeft mask b) = (tt, tt)

call_fine : (link : Reg) (target : CallInstDest) (ss : List Site) → AccessNothingRelative (call_part link target ∷ site_parts ss)
call_fine link (Direct name) ss = (tt, sites_fine ss)
call_fine link (Indirect reg) ss = (tt, sites_fine ss)

tail_fine : (target : CallInstDest) → AccessNothingRelative (tail_part target ∷ site_parts (AtCall ∷ []))
tail_fine (Direct name) = (tt, sites_fine (AtCall ∷ []))
tail_fine (Indirect reg) = (tt, sites_fine (AtCall ∷ []))

-- the last clause on instructions is a copy for each
body_fine : (flags : IsaFlags) (b : StepBody) → flags.no_relative_memory ≡ true → BodyFine (body_for flags b)
body_fine flags (Whole (I.CondBreak mask)) lacks after = (tt, tt)
body_fine flags (Whole i) lacks after = plain_fine flags i lacks after refl
body_fine flags (Loaded i) lacks after = loaded_fine (memory i)
body_fine flags (Folded r i) lacks after = remainder_fine r
body_fine flags (CallStep c) lacks after = call_fine c.link c.target c.sites
body_fine flags NoLoad lacks after = tt
body_fine flags (TailOpening target first_saved is_lost) lacks after = tt
body_fine flags (TailJump target) lacks after = tail_fine target

fold_fine : (next : ℕ) (b : StepBody) → BodyFine b → BodyFine (fold next b)
fold_fine next (Whole i) h = go (remainder next (branches_of i))
  where
    go : (o : Option Remainder) → BodyFine (body_with_remainder o i)
    go None = h
    go (Some r) = λ after. remainder_fine r
fold_fine next b h = h

-- ---- trees

abbrev TreeFine : Tree → Type 0
TreeFine empty = Unit {0}
TreeFine (leaf b rest) = BodyFine b × TreeFine rest
TreeFine (loop_node mask members rest) = TreeFine members × TreeFine rest

for_fine : (flags : IsaFlags) (t : Tree) → flags.no_relative_memory ≡ true → TreeFine (tree_for flags t)
for_fine flags empty lacks = tt
for_fine flags (leaf b rest) lacks = (body_fine flags b lacks, for_fine flags rest lacks)
for_fine flags (loop_node mask members rest) lacks = (for_fine flags members lacks, for_fine flags rest lacks)

folded_fine : (next : ℕ) (t : Tree) → TreeFine t → TreeFine (folded_members next t)
folded_fine next empty h = tt
folded_fine next (leaf b empty) h = (fold_fine next b h.0, tt)
folded_fine next (leaf b (leaf c rest)) h = (h.0, folded_fine next (leaf c rest) h.1)
folded_fine next (leaf b (loop_node mask members rest)) h = (h.0, folded_fine next (loop_node mask members rest) h.1)
folded_fine next (loop_node mask members rest) h = (h.0, folded_fine next rest h.1)

before_fine : (next : Option ℕ) (t : Tree) → TreeFine t → TreeFine (folded_before next t)
before_fine None t h = h
before_fine (Some next) t h = folded_fine next t h

-- ---- steps

abbrev StepsFine : List Step → Type 0
StepsFine [] = Unit {0}
StepsFine (s ∷ ss) = AccessNothingRelative (step_parts s) × StepsFine ss

steps_both : (ss ts : List Step) → StepsFine ss → StepsFine ts → StepsFine (ss ++ ts)
steps_both [] ts h k = k
steps_both (s ∷ ss) ts h k = (h.0, steps_both ss ts h.1 k)

steps_fine : (k after : ℕ) (t : Tree) → TreeFine t → StepsFine (steps_of k after t)
steps_fine k after empty h = tt
steps_fine k after (leaf b rest) h = (h.0 after, steps_fine (k + 1) after rest h.1)
steps_fine k after (loop_node mask members rest) h =
    let end = k + 2 + step_count members in
    (tt, steps_both (steps_of (k + 1) end members) (Back mask (k + 1) ∷ steps_of end after rest) (steps_fine (k + 1) end members h.0) ((tt, tt), steps_fine end after rest h.1))

blocks_fine : (flags : IsaFlags) (e : Emission) (b k : ℕ) (bs : List Block) → flags.no_relative_memory ≡ true → StepsFine (steps_from k (folded_from b (map (flagged_tree flags e) bs)))
blocks_fine flags e b k [] lacks = tt
blocks_fine flags e b k (x ∷ bs) lacks =
    let u = folded_before (next_block b (map (flagged_tree flags e) bs)) (flagged_tree flags e x) in
    steps_both (steps_of k 0 u) (steps_from (k + step_count u) (folded_from (b + 1) (map (flagged_tree flags e) bs)))
    (steps_fine k 0 u (before_fine (next_block b (map (flagged_tree flags e) bs)) (flagged_tree flags e x) (for_fine flags (given_tree e x) lacks))) (blocks_fine flags e (b + 1) (k + step_count u) bs lacks)

at_step : (ss : List Step) → StepsFine ss → (k : ℕ) (s : Step) → slice_get ss k ≡ Some s → AccessNothingRelative (step_parts s)
at_step [] h k s at = absurd (cc)
at_step (x ∷ ss) h zero s at = let same : x ≡ s = cc in subst (λ y. AccessNothingRelative (step_parts y)) same h.0
at_step (x ∷ ss) h (suc k) s at = at_step ss h.1 k s at

pub function_accesses : (flags : IsaFlags) (e : Emission) (bs : List Block) → flags.no_relative_memory ≡ true → (k : ℕ) (s : Step) → slice_get (function_steps (emitted_trees flags e bs)) k ≡ Some s → AccessNothingRelative (step_parts s)
function_accesses flags e bs lacks = at_step (function_steps (emitted_trees flags e bs)) (blocks_fine flags e 0 0 bs lacks)

pub instruction_accesses : (flags : IsaFlags) (e : Emission) (i : Inst) → flags.no_relative_memory ≡ true → (k : ℕ) (s : Step) → slice_get (function_steps (emitted_alone flags e i)) k ≡ Some s → AccessNothingRelative (step_parts s)
instruction_accesses flags e i lacks =
    let t = tree_for flags (prepend e i empty) in
    at_step (function_steps (emitted_alone flags e i)) (steps_both (steps_of 0 0 t) [] (steps_fine 0 0 t (for_fine flags (prepend e i empty) lacks)) tt)
