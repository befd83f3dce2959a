-- Inside the bytes of a step the table of traps has the step's entries and no others.
use Rattle.std.proofs.Common.{◌≡◌, ℕ, zero, suc, ◌+◌, ◌<◌, ◌≤◌, ◌≢◌, List, [], ◌∷◌, ◌++◌, Option, Some, None, Bool, true, false, cond, ◌==◌, refl, sym, ap, ◌∙◌, subst, arith, slice_get, add-zero, eqb-true}
use Rattle.s390x_base.specs.declared.ir.MachLabel.{MachLabel}
use Rattle.s390x_base.specs.declared.trap.TrapKind.{TrapKind}
use Rattle.s390x_buffer.specs.declared.entries.TrapEntry.{TrapEntry}
use Rattle.s390x_format.specs.Formats.{length_of}
use Rattle.s390x_format.proofs.FormatFacts.{length_some}
use Rattle.s390x_base.specs.declared.regs.Reg.{Reg}
use Rattle.s390x_inst.specs.declared.calls.CallInstDest.{CallInstDest}
use Rattle.s390x_inst.specs.declared.calls.CallInstDest.TheVariants.{Direct, Indirect}
use Rattle.s390x_inst.specs.declared.inst.Inst.{Inst}
use Rattle.s390x_inst.specs.declared.inst.Inst.TheVariants as I
use Rattle.s390x_typed_steps.specs.MachineInstruction.{MachineInstruction, size_of}
use Rattle.s390x_typed_steps.specs.Tree.{Tree}
use Rattle.s390x_typed_steps.specs.SingleInstruction.{SingleInstruction, single_instruction, stop_code}
use Rattle.s390x_inst.specs.declared.args.MemArg.{MemArg}
use Rattle.s390x_inst.specs.declared.args.MemArg.TheVariants.{Label, Constant, Symbol}
use Rattle.s390x_typed_steps.specs.Operands.{finalized_operand, is_relative}
use Rattle.s390x_typed_steps.specs.Memory.{StorageForm, RxForm, MemoryInstruction, memory, loaded_memory, type_of, storage_row, address_form, fault_code}
use Rattle.s390x_typed_steps.specs.Steps.{Step, Plain, LoadedStep, Shortened, CallingStep, TailJumpStep, function_steps}
use Rattle.s390x_typed_steps.specs.StepBody.{Site, AtCall, NothingLeft}
use Rattle.s390x_typed_steps.specs.VectorComposite.{composite_rows}
use Rattle.s390x_typed_steps.specs.Parts.{CodePart, Row, Trapping, TableWord, part_size, parts_size, branch_parts, row_part, row_parts, access_parts, trap_here, relative_part, relative_parts, operand_parts, helper_parts, helpers_parts, memory_or, parts_or}
use Rattle.s390x_typed_steps.specs.Parts.{step_parts, step_size, table_words, SymbolValue, TrapHere, SiteHere, call_part, tail_part, site_parts}
use Rattle.s390x_typed_steps.specs.Image.{step_offset}
use Rattle.s390x_typed_steps.specs.Traps.{part_traps, parts_traps, step_traps, traps_from, function_traps, first_code}

-- the entries stand at a place or behind it
abbrev Above : ℕ → List TrapEntry → Type 0
Above low [] = Unit {0}
Above low (e ∷ es) = (low ≤ e.offset) × Above low es

-- they stand before a place
abbrev Below : ℕ → List TrapEntry → Type 0
Below high [] = Unit {0}
Below high (e ∷ es) = (e.offset < high) × Below high es

-- each trap of the parts stands at a byte of its part, or at the first one of those behind it
abbrev Inside : List CodePart → Type 0
Inside [] = Unit {0}
Inside (Trapping m byte code ∷ parts) = (byte < size_of m) × Inside parts
Inside (TrapHere code ∷ parts) = (0 < parts_size parts) × Inside parts
Inside (_ ∷ parts) = Inside parts

above_append : (low : ℕ) (a b : List TrapEntry) → Above low a → Above low b → Above low (a ++ b)
above_append low [] b h k = k
above_append low (e ∷ a) b h k = (h.0, above_append low a b h.1 k)

above_more : (low lower : ℕ) (es : List TrapEntry) → lower ≤ low → Above low es → Above lower es
above_more low lower [] le h = tt
above_more low lower (e ∷ es) le h = (omega (arith, h.0), above_more low lower es le h.1)

-- ---- looking up

other_code : (n o : ℕ) (found rest : Option TrapKind) → n ≢ o → cond (n == o) found rest ≡ rest
other_code n o found rest ne = go (n == o) refl
  where
    go : (t : Bool) → (n == o) ≡ t → cond t found rest ≡ rest
    go true e = absurd (ne (eqb-true n o e))
    go false e = refl

above_none : (low o : ℕ) (es : List TrapEntry) → o < low → Above low es → first_code es o ≡ None
above_none low o [] lt h = refl
above_none low o (e ∷ es) lt h = other_code e.offset o (Some e.code) (first_code es o) (λ same. omega (arith, same, h.0)) ∙ above_none low o es lt h.1

below_none : (high o : ℕ) (es : List TrapEntry) → high ≤ o → Below high es → first_code es o ≡ None
below_none high o [] le h = refl
below_none high o (e ∷ es) le h = other_code e.offset o (Some e.code) (first_code es o) (λ same. omega (arith, same, h.0)) ∙ below_none high o es le h.1

-- where the first entries have none, those behind them are asked
none_before : (a b : List TrapEntry) (o : ℕ) → first_code a o ≡ None → first_code (a ++ b) o ≡ first_code b o
none_before [] b o none = refl
none_before (e ∷ a) b o none = go (e.offset == o) (none_before a b o) none
  where
    go : (t : Bool) → (first_code a o ≡ None → first_code (a ++ b) o ≡ first_code b o) → cond t (Some e.code) (first_code a o) ≡ None → cond t (Some e.code) (first_code (a ++ b) o) ≡ first_code b o
    go true on h = absurd (cc)
    go false on h = on h

none_behind : (a b : List TrapEntry) (o : ℕ) → first_code b o ≡ None → first_code (a ++ b) o ≡ first_code a o
none_behind [] b o none = none
none_behind (e ∷ a) b o none = ap (λ rest. cond (e.offset == o) (Some e.code) rest) (none_behind a b o none)

-- ---- where the traps of a step stand

part_above : (p : ℕ) (part : CodePart) → Above p (part_traps p part)
part_above p (Trapping m byte code) = (omega arith, tt)
part_above p (TrapHere code) = (omega arith, tt)
part_above p part = tt

parts_above : (p : ℕ) (parts : List CodePart) → Above p (parts_traps p parts)
parts_above p [] = tt
parts_above p (part ∷ parts) =
    above_append p (part_traps p part) (parts_traps (p + part_size part) parts) (part_above p part) (above_more (p + part_size part) p (parts_traps (p + part_size part) parts) (omega arith) (parts_above (p + part_size part) parts))

parts_below : (p high : ℕ) (parts : List CodePart) → p + parts_size parts ≤ high → Inside parts → Below high (parts_traps p parts)
parts_below p high [] le h = tt
parts_below p high (Trapping m byte code ∷ parts) le h = (omega (arith, h.0), parts_below (p + size_of m) high parts (omega arith) h.1)
parts_below p high (Row m ∷ parts) le h = parts_below (p + size_of m) high parts (omega arith) h
parts_below p high (SymbolValue name offset ∷ parts) le h = parts_below (p + 8) high parts (omega arith) h
parts_below p high (TrapHere code ∷ parts) le h = (omega (arith, h.0), parts_below (p + 0) high parts (omega arith) h.1)
parts_below p high (TableWord before target ∷ parts) le h = parts_below (p + 4) high parts (omega arith) h
parts_below p high (SiteHere site ∷ parts) le h = parts_below (p + 0) high parts (omega arith) h
parts_below p high (part ∷ parts) le h = parts_below (p + 6) high parts (omega arith) h

words_inside : (before : ℕ) (ls : List MachLabel) → Inside (table_words before ls)
words_inside before [] = tt
words_inside before (l ∷ ls) = words_inside (before + 4) ls

rows_inside : (ms : List MachineInstruction) → Inside (row_parts ms)
rows_inside [] = tt
rows_inside (m ∷ ms) = rows_inside ms

branch_inside : (i : Inst) → Inside (branch_parts i)
unfolding length_of
branch_inside (I.JTSequence ridx other mask targets) = words_inside 0 targets.items
branch_inside (I.Trap code) = (omega arith, tt)
branch_inside (I.TrapIf mask code) = (omega arith, tt)
branch_inside (I.Vector v) = rows_inside (composite_rows v)
branch_inside i = tt

stopping_inside : (m : MachineInstruction) (code : Option TrapKind) → Inside (row_part m code ∷ [])
stopping_inside m None = tt
stopping_inside m (Some code) = let some = length_some m.format in (omega (arith, some), tt)

more_parts : (a b : List CodePart) → parts_size a ≤ parts_size (a ++ b)
more_parts [] b = omega arith
more_parts (part ∷ a) b = omega (arith, more_parts a b)

inside_append : (a b : List CodePart) → Inside a → Inside b → Inside (a ++ b)
inside_append [] b h k = k
inside_append (Trapping m byte code ∷ a) b h k = (h.0, inside_append a b h.1 k)
inside_append (TrapHere code ∷ a) b h k = (omega (arith, h.0, more_parts a b), inside_append a b h.1 k)
inside_append (part ∷ a) b h k = inside_append a b h k

access_inside : (m : Option MachineInstruction) (code : Option TrapKind) → Inside (access_parts m code)
access_inside None code = tt
access_inside (Some m) None = tt
access_inside (Some m) (Some code) = let some = length_some m.format in (omega (arith, some), tt)

relative_part_inside : (opcode register : ℕ) (code : Option TrapKind) (m : MemArg) → is_relative m ≡ true → Inside (trap_here code ++ relative_part opcode register m)
relative_part_inside opcode register None (Label target) e = tt
relative_part_inside opcode register None (Constant c) e = tt
relative_part_inside opcode register None (Symbol name offset flags) e = tt
relative_part_inside opcode register (Some code) (Label target) e = (omega arith, tt)
relative_part_inside opcode register (Some code) (Constant c) e = (omega arith, tt)
relative_part_inside opcode register (Some code) (Symbol name offset flags) e = (omega arith, tt)
relative_part_inside opcode register code m e = absurd (cc)

relative_inside : (form : StorageForm) (code : Option TrapKind) (m : MemArg) → is_relative m ≡ true → Inside (relative_parts form code m)
relative_inside (RxForm register short long (Some opcode)) code m e = relative_part_inside opcode register code m e
relative_inside form code m e = tt

operand_inside : (form : StorageForm) (code : Option TrapKind) (m : MemArg) → Inside (operand_parts form code m)
operand_inside form code m = go (is_relative m) refl
  where
    go : (t : Bool) → is_relative m ≡ t → Inside (cond t (relative_parts form code m) (access_parts (storage_row form m) code))
    go true e = relative_inside form code m e
    go false e = access_inside (storage_row form m) code

helper_inside : (i : Inst) → Inside (helper_parts i)
helper_inside (I.Mov64SImm32 rd imm) = tt
helper_inside (I.LoadAddr rd mem) = operand_inside (address_form rd) None mem
helper_inside i = tt

helpers_inside : (is : List Inst) → Inside (helpers_parts is)
helpers_inside [] = tt
helpers_inside (i ∷ is) = inside_append (helper_parts i) (helpers_parts is) (helper_inside i) (helpers_inside is)

memory_inside : (o : Option MemoryInstruction) (others : List CodePart) → Inside others → Inside (memory_or o others)
memory_inside None others h = h
memory_inside (Some x) others h =
    let f = finalized_operand (type_of x.form x.accesses) x.operand in
    inside_append (helpers_parts f.helpers) (operand_parts x.form (fault_code x) f.operand) (helpers_inside f.helpers) (operand_inside x.form (fault_code x) f.operand)

instruction_inside : (o : Option SingleInstruction) (code : Option TrapKind) (others : List CodePart) → Inside others → Inside (parts_or o code others)
instruction_inside None code others h = h
instruction_inside (Some x) code others h = stopping_inside x.row code

sites_inside : (ss : List Site) → Inside (site_parts ss)
sites_inside [] = tt
sites_inside (s ∷ ss) = sites_inside ss

call_inside : (link : Reg) (target : CallInstDest) (ss : List Site) → Inside (call_part link target ∷ site_parts ss)
call_inside link (Direct name) ss = sites_inside ss
call_inside link (Indirect reg) ss = sites_inside ss

tail_inside : (target : CallInstDest) → Inside (tail_part target ∷ site_parts (AtCall ∷ []))
tail_inside (Direct name) = tt
tail_inside (Indirect reg) = tt

step_inside : (s : Step) → Inside (step_parts s)
step_inside (Plain i) = instruction_inside (single_instruction i) (stop_code i) (memory_or (memory i) (branch_parts i)) (memory_inside (memory i) (branch_parts i) (branch_inside i))
step_inside (Shortened NothingLeft i) = tt
step_inside (LoadedStep i) = memory_inside (loaded_memory i) [] tt
step_inside (CallingStep c) = call_inside c.link c.target c.sites
step_inside (TailJumpStep target) = tail_inside target
step_inside s = tt

step_below : (p : ℕ) (s : Step) → Below (p + step_size s) (step_traps p s)
step_below p s = parts_below p (p + step_size s) (step_parts s) (omega arith) (step_inside s)

-- ---- the table

-- from number k on the steps stand one behind another, from a place on
abbrev Chained : (ℕ → ℕ) → (k p : ℕ) → List Step → Type 0
Chained at k p ss = (j : ℕ) → at (k + j) ≡ p + step_offset ss j

pub place_first : (ss : List Step) → step_offset ss 0 ≡ 0
place_first [] = refl
place_first (s ∷ ss) = refl

first_at : (at : ℕ → ℕ) (k p : ℕ) (ss : List Step) → Chained at k p ss → at k ≡ p
first_at at k p ss h = ap at (sym (add-zero k)) ∙ h 0 ∙ omega (arith, place_first ss)

rest_chained : (at : ℕ → ℕ) (k p : ℕ) (s : Step) (ss : List Step) → Chained at k p (s ∷ ss) → Chained at (k + 1) (p + step_size s) ss
rest_chained at k p s ss h = λ j. let e : k + 1 + j ≡ k + suc j = omega arith in ap at e ∙ h (suc j) ∙ omega arith

traps_above : (at : ℕ → ℕ) (k p : ℕ) (ss : List Step) → Chained at k p ss → Above p (traps_from at k ss)
traps_above at k p [] h = tt
traps_above at k p (s ∷ ss) h =
    let here : Above p (step_traps (at k) s) = subst (λ q. Above p (step_traps q s)) (sym (first_at at k p (s ∷ ss) h)) (parts_above p (step_parts s)) in
    above_append p (step_traps (at k) s) (traps_from at (k + 1) ss) here (above_more (p + step_size s) p (traps_from at (k + 1) ss) (omega arith) (traps_above at (k + 1) (p + step_size s) ss (rest_chained at k p s ss h)))

found : (at : ℕ → ℕ) (k p : ℕ) (ss : List Step) → Chained at k p ss → (j : ℕ) (s : Step) → slice_get ss j ≡ Some s → (o : ℕ) → at (k + j) ≤ o → o < at (k + suc j) → first_code (traps_from at k ss) o ≡ first_code (step_traps (at (k + j)) s) o
found at k p [] h j s e o low high = absurd (cc)
found at k p (x ∷ ss) h zero s e o low high =
    let same : x ≡ s = cc in
    let below : o < p + step_size x = omega (arith, high, h 1, place_first ss) in
    none_behind (step_traps (at k) x) (traps_from at (k + 1) ss) o (above_none (p + step_size x) o (traps_from at (k + 1) ss) below (traps_above at (k + 1) (p + step_size x) ss (rest_chained at k p x ss h)))
    ∙ ap (λ y. first_code (step_traps (at k) y) o) same
    ∙ ap (λ n. first_code (step_traps (at n) s) o) (sym (add-zero k))
found at k p (x ∷ ss) h (suc j) s e o low high =
    let n1 : k + suc j ≡ k + 1 + j = omega arith in
    let n2 : k + suc (suc j) ≡ k + 1 + suc j = omega arith in
    let before : at k + step_size x ≤ o = omega (arith, low, h (suc j), first_at at k p (x ∷ ss) h) in
    none_before (step_traps (at k) x) (traps_from at (k + 1) ss) o (below_none (at k + step_size x) o (step_traps (at k) x) before (step_below (at k) x))
    ∙ found at (k + 1) (p + step_size x) ss (rest_chained at k p x ss h) j s e o (subst (λ n. at n ≤ o) n1 low) (subst (λ n. o < at n) n2 high)
    ∙ ap (λ n. first_code (step_traps (at n) s) o) (sym n1)

-- inside the bytes of step k the table has the traps of that step and no others
pub step_codes : (ts : List Tree) (k : ℕ) (s : Step) → slice_get (function_steps ts) k ≡ Some s → (o : ℕ) → step_offset (function_steps ts) k ≤ o → o < step_offset (function_steps ts) (suc k) → first_code (function_traps ts) o ≡ first_code (step_traps (step_offset (function_steps ts) k) s) o
step_codes ts k s e o low high =
    let at = step_offset (function_steps ts) in
    let z : 0 + k ≡ k = omega arith in
    let z1 : 0 + suc k ≡ suc k = omega arith in
    found at 0 0 (function_steps ts) (λ j. let y : 0 + j ≡ j = omega arith in ap at y ∙ omega arith) k s e o (subst (λ n. at n ≤ o) (sym z) low) (subst (λ n. o < at n) (sym z1) high)
    ∙ ap (λ n. first_code (step_traps (at n) s) o) z
