-- How many bytes an instruction has at most, and that emission fails by want of memory alone where no cause stands.
use Rattle.std.proofs.Common.{ℕ, ◌*◌, ◌++◌, ◌&&◌, append-nil, length-append, ◌≡◌, ◌+◌, ◌≤◌, Bool, true, false, cond, nat_eq, nat_lt, List, [], ◌∷◌, Option, Some, None, length, refl, ap, ◌∙◌, arith, ltb-true, ◌<◌, ◌⊎◌, inl, inr, sym, unwrap_or}
use Rattle.std.proofs.lemmas.Bool.{lt-ltb}
use Rattle.s390x_base.specs.declared.trap.TrapKind.{TrapKind}
use Rattle.s390x_base.specs.declared.error.EmitError.{EmitError}
use Rattle.s390x_base.specs.declared.error.EmitError.TheVariants.{LabelOutOfRange, Failed, NoMemory}
use Rattle.s390x_format.specs.Formats.{length_of}
use Rattle.s390x_format.proofs.FormatFacts.{length_small}
use Rattle.s390x_inst.specs.declared.inst.Inst.{Inst}
use Rattle.s390x_inst.specs.Emission.{Emission}
use Rattle.s390x_inst.specs.declared.args.MemArg.{MemArg}
use Rattle.s390x_inst.specs.declared.args.MemArg.TheVariants.{Label, RegOffset}
use Rattle.s390x_inst.specs.declared.inst.Inst.TheVariants as I
use Rattle.s390x_base.specs.Regs.{number_of}
use Rattle.s390x_inst.specs.declared.vec_inst.VecInst.{VecInst}
use Rattle.s390x_inst.specs.declared.vec_inst.VecInst.TheVariants.{VecEltRev, VecInt128SCmpHi, VecInt128UCmpHi}
use Rattle.s390x_inst.specs.declared.state.IsaFlags.{IsaFlags}
use Rattle.s390x_buffer.specs.State.{BufferState, limit}
use Rattle.s390x_typed_steps.specs.SingleInstruction.{SingleInstruction, single_instruction, stop_code}
use Rattle.s390x_typed_steps.specs.MachineInstruction.{MachineInstruction}
use Rattle.s390x_typed_steps.specs.Memory.{StorageForm, RxForm, MemoryInstruction, accesses_relative, loaded_memory, memory, type_of, storage_row, address_form, fault_code}
use Rattle.s390x_typed_steps.specs.Operands.{Finalized, finalized_operand, is_relative, with_displacement, needs_address, fits_12, fits_20, fits_32}
use Rattle.s390x_typed_steps.specs.Resolved.{resolved_instruction}
use Rattle.s390x_typed_steps.specs.VectorComposite.{MoveUnder, composite_rows, exchanges_doublewords, exchanges_halves, move_under, rows_or_none, rows_under}
use Rattle.s390x_typed_steps.specs.Parts.{CodePart, branch_parts, row_part, access_parts, trap_here, relative_part, relative_parts, operand_parts, helper_parts, helpers_parts, memory_parts, memory_or, parts_or, parts_size, row_parts}
use Rattle.s390x_typed_steps.specs.Sizes.{body_size, instruction_size, tree_size}
use Rattle.s390x_typed_steps.specs.Tree.{Tree, empty, leaf, Whole}
use Rattle.s390x_typed_steps.specs.Baseline.{whole_or_loaded, body_for}
use Rattle.s390x_typed_steps.specs.Causes.{Declared, first_emit_cause, unless, declared_in, tree_cause}
use Rattle.s390x_typed_steps.proofs.Causes.{first_left, first_right, unless_true}
use Rattle.s390x_address.proofs.OnlyMemory.{size_append}
use Rattle.s390x_emit_int.specs.Fragments.{StartStep, apply, apply_all}
use Rattle.s390x_emit_int.specs.Emission.{body_fragments, fragments, own_fragments}
use Rattle.s390x_emit_int.specs.Instruction.{emit_cause, is_short}
use Rattle.s390x_emit_int.specs.Room.{HasRoom, TreeFits}
use Rattle.s390x_emit_int.proofs.Runs.{body_grows, tree_grows}
use Rattle.s390x_emit_int.specs.Members.{member_of}
use Rattle.s390x_emit_int.proofs.Trees.{member_begins, own_run}
use Rattle.s390x_emit_int.proofs.Imaging.{bytes_run}

row_few : (x : SingleInstruction) (code : Option TrapKind) → parts_size (row_part x.row code ∷ []) ≤ 44
row_few x None = let small = length_small x.row.format in omega (arith, small)
row_few x (Some code) = let small = length_small x.row.format in omega (arith, small)

few_or : (o : Option SingleInstruction) (code : Option TrapKind) (others : List CodePart) → parts_size others ≤ 44 → parts_size (parts_or o code others) ≤ 44
few_or None code others h = h
few_or (Some x) code others h = row_few x code

access_few : (o : Option MachineInstruction) (code : Option TrapKind) → parts_size (access_parts o code) ≤ 6
access_few None code = omega arith
access_few (Some m) None = let small = length_small m.format in omega (arith, small)
access_few (Some m) (Some code) = let small = length_small m.format in omega (arith, small)

trapping_few : (code : Option TrapKind) (parts : List CodePart) → parts_size (trap_here code ++ parts) ≡ parts_size parts
trapping_few None parts = refl
trapping_few (Some code) parts = omega arith

relative_few : (opcode register : ℕ) (m : MemArg) → parts_size (relative_part opcode register m) ≤ 6
relative_few opcode register (Label target) = omega arith
relative_few opcode register m = omega arith

form_few : (form : StorageForm) (code : Option TrapKind) (m : MemArg) → parts_size (relative_parts form code m) ≤ 6
form_few (RxForm register rx_opcode rxy_opcode (Some opcode)) code m = let few = relative_few opcode register m in omega (arith, trapping_few code (relative_part opcode register m), few)
form_few form code m = omega arith

either_few : (t : Bool) (a b : List CodePart) → parts_size a ≤ 6 → parts_size b ≤ 6 → parts_size (cond t a b) ≤ 6
either_few true a b h k = h
either_few false a b h k = k

operand_few : (form : StorageForm) (code : Option TrapKind) (m : MemArg) → parts_size (operand_parts form code m) ≤ 6
operand_few form code m = either_few (is_relative m) (relative_parts form code m) (access_parts (storage_row form m) code) (form_few form code m) (access_few (storage_row form m) code)

helper_few : (i : Inst) → parts_size (helper_parts i) ≤ 6
unfolding length_of
helper_few (I.Mov64SImm32 rd imm) = omega arith
helper_few (I.LoadAddr rd mem) = operand_few (address_form rd) None mem
helper_few i = omega arith

helpers_few : (is : List Inst) → parts_size (helpers_parts is) ≤ 6 * length is
helpers_few [] = omega arith
helpers_few (i ∷ is) =
    let one = helper_few i in
    let others = helpers_few is in
    let both = size_append (helper_parts i) (helpers_parts is) in
    omega (arith, one, others, both)

one_of : (a b c : Bool) (w x y z : Finalized) → length w.helpers ≤ 1 → length x.helpers ≤ 1 → length y.helpers ≤ 1 → length z.helpers ≤ 1 → length (cond a w (cond b x (cond c y z))).helpers ≤ 1
one_of true b c w x y z hw hx hy hz = hw
one_of false true c w x y z hw hx hy hz = hx
one_of false false true w x y z hw hx hy hz = hy
one_of false false false w x y z hw hx hy hz = hz

displaced_few : (m : MemArg) → length (with_displacement m).helpers ≤ 1
displaced_few (RegOffset reg off flags) = one_of (fits_12 off) (fits_20 off) (fits_32 off) _ _ _ _ (omega arith) (omega arith) (omega arith) (omega arith)
displaced_few m = omega arith

one_more : (b : Bool) (f : Finalized) (i : Inst) (m : MemArg) → length f.helpers ≤ 1 → length (cond b (record { helpers = f.helpers ++ i ∷ []; operand = m }) f).helpers ≤ 2
one_more true f i m h = let both = length-append f.helpers (i ∷ []) in omega (arith, both, h)
one_more false f i m h = omega (arith, h)

-- at most two helpers and an access
memory_few : (x : MemoryInstruction) → parts_size (memory_parts x) ≤ 44
memory_few x =
    let mi = type_of x.form x.accesses in
    let f = with_displacement x.operand in
    let two : length (finalized_operand mi x.operand).helpers ≤ 2 = one_more (needs_address mi f.operand) f _ _ (displaced_few x.operand) in
    let helpers = helpers_few (finalized_operand mi x.operand).helpers in
    let access = operand_few x.form (fault_code x) (finalized_operand mi x.operand).operand in
    let both = size_append (helpers_parts (finalized_operand mi x.operand).helpers) (operand_parts x.form (fault_code x) (finalized_operand mi x.operand).operand) in
    omega (arith, two, helpers, access, both)

memory_few_or : (o : Option MemoryInstruction) (others : List CodePart) → parts_size others ≤ 44 → parts_size (memory_or o others) ≤ 44
memory_few_or None others h = h
memory_few_or (Some x) others h = memory_few x

-- a branch and a move
move_few : (o : Option MoveUnder) → parts_size (row_parts (rows_under o)) ≤ 44
unfolding length_of
move_few None = omega arith
move_few (Some x) = let small = length_small x.row.format in omega (arith, small)

-- elements in reverse order
reversal_few : (a b c e : Bool) (d n : ℕ) →
    parts_size (row_parts (rows_or_none (cond a (Some (exchanges_doublewords d n ∷ [])) (cond b (Some (exchanges_doublewords d n ∷ exchanges_halves d 3 32 ∷ [])) (cond c (Some (exchanges_doublewords d n ∷ exchanges_halves d 3 32 ∷ exchanges_halves d 2 16 ∷ []))
    (cond e (Some (exchanges_doublewords d n ∷ exchanges_halves d 3 32 ∷ exchanges_halves d 2 16 ∷ exchanges_halves d 1 8 ∷ [])) None)))))) ≤ 44
unfolding length_of
reversal_few true b c e d n = omega arith
reversal_few false true c e d n = omega arith
reversal_few false false true e d n = omega arith
reversal_few false false false true d n = omega arith
reversal_few false false false false d n = omega arith

composite_few : (v : VecInst) → parts_size (row_parts (composite_rows v)) ≤ 44
unfolding length_of
composite_few (VecEltRev count rd rn) = reversal_few (nat_eq count 2) (nat_eq count 4) (nat_eq count 8) (nat_eq count 16) (number_of rd) (number_of rn)
composite_few (VecInt128SCmpHi tmp rn rm) = omega arith
composite_few (VecInt128UCmpHi tmp rn rm) = omega arith
composite_few v = move_few (move_under v)

branch_few : (i : Inst) → is_short i ≡ true → parts_size (branch_parts i) ≤ 44
unfolding length_of
branch_few (I.JTSequence ridx other mask targets) h = absurd (cc)
branch_few (I.Vector v) h = composite_few v
branch_few i h = omega arith

instruction_few : (i : Inst) → is_short i ≡ true → instruction_size i ≤ 44
instruction_few (I.CondBreak mask) h = omega arith
instruction_few i h = few_or (single_instruction i) (stop_code i) (memory_or (memory i) (branch_parts i)) (memory_few_or (memory i) (branch_parts i) (branch_few i h))

short_resolved : (state : Emission) (i : Inst) → is_short (resolved_instruction state i) ≡ is_short i
short_resolved state (I.CondBreak mask) = refl
short_resolved state i = refl

-- an instruction that is no loop
short_leaf : (flags : IsaFlags) (state : Emission) (i : Inst) → is_short i ≡ true → member_of flags state i ≡ leaf (body_for flags (Whole (resolved_instruction state i))) empty
short_leaf flags state (I.Loop' mask body all) h = absurd (cc)
short_leaf flags state (I.Call link info) h = absurd (cc)
short_leaf flags state (I.ReturnCall info) h = absurd (cc)
short_leaf flags state i h = refl

-- a load of the address and an access have few bytes
loaded_few : (o : Option MemoryInstruction) → parts_size (memory_or o []) ≤ 44
loaded_few o = memory_few_or o [] (omega arith)

body_few : (flags : IsaFlags) (i : Inst) → is_short i ≡ true → body_size (body_for flags (Whole i)) ≤ 44
body_few flags i h = go (accesses_relative (memory i) && flags.no_relative_memory)
  where
    go : (t : Bool) → body_size (whole_or_loaded t i) ≤ 44
    go false = instruction_few i h
    go true = loaded_few (loaded_memory i)

-- a short instruction puts few bytes
pub puts_few : (flags : IsaFlags) (state : Emission) (i : Inst) (s t : BufferState) → is_short i ≡ true → t ≡ apply_all s (own_fragments (length s.labels) 0 (member_of flags state i)) → length t.bytes ≤ length s.bytes + 44
puts_few flags state i s t h e =
    let j = resolved_instruction state i in
    let b = body_for flags (Whole j) in
    let n = length s.labels in
    let is : t ≡ apply_all s (own_fragments n 0 (leaf b empty)) = e ∙ ap (λ x. apply_all s (own_fragments n 0 x)) (short_leaf flags state i h) in
    let alone : t ≡ apply_all s (body_fragments n 0 b) = is ∙ ap (apply_all s) (append-nil (body_fragments n 0 b)) in
    let g = body_grows b s n 0 refl in
    let few = body_few flags j (short_resolved state i ∙ h) in
    let bytes = ap (λ x. length x.bytes) alone in
    omega (arith, g.bytes, few, bytes)

three_tests : (f : Bool) (c : Option EmitError) (b : Bool) → cond f (Some Failed) (first_emit_cause c (unless b LabelOutOfRange)) ≡ None → (f ≡ false) × (c ≡ None) × (b ≡ true)
three_tests true c b h = absurd (cc)
three_tests false c b h = (refl, first_left c _ h, unless_true b LabelOutOfRange (first_right c _ h))

-- where no cause stands, the instruction passes
pub emit_passed : (flags : IsaFlags) (nominal : ℕ) (s : BufferState) (x : Tree) → HasRoom s → emit_cause flags nominal s x ≡ None → TreeFits flags s 0 nominal 0 x
emit_passed flags nominal s x room h =
    let t = three_tests s.is_poisoned (tree_cause flags (declared_in s) (length s.labels) nominal 0 x) (nat_lt (length s.bytes + tree_size x) limit) h in
    record {
      unpoisoned = t.0;
      blocks = omega (arith, room);
      label = λ d. omega (arith, d);
      short = ltb-true (length s.bytes + tree_size x) limit t.2;
      passed = t.1;
    }

-- an instruction has the bytes that were counted
own_size : (flags : IsaFlags) (state : Emission) (i : Inst) (s : BufferState) (n after : ℕ) → n ≡ length s.labels → length (apply_all s (own_fragments n after (member_of flags state i))).bytes ≡ length s.bytes + tree_size (member_of flags state i)
own_size flags state i s n after e =
    let step = member_of flags state i in
    let own = own_fragments n after step in
    let s1 = apply s StartStep in
    let same : length s1.bytes ≡ length s.bytes = refl in
    let whole = (tree_grows step s n after e).bytes in
    let run : length (apply_all s (fragments n after step)).bytes ≡ length (apply_all s1 own).bytes = ap (λ x. length x.bytes) (own_run step s n after (member_begins flags state i)) in
    omega (arith, whole, run, same, bytes_run own s1, bytes_run own s)

-- the first cause, by what is declared and was counted
pub counted_cause : (flags : IsaFlags) (state next : Emission) (i : Inst) (s : BufferState) (D : Declared) (labels bytes : ℕ) → next ≡ state → s.is_poisoned ≡ false → D ≡ declared_in s → labels ≡ length s.labels → bytes ≡ length s.bytes →
    first_emit_cause (tree_cause flags D labels next.nominal 0 (member_of flags next i)) (unless (nat_lt (bytes + tree_size (member_of flags next i)) limit) LabelOutOfRange) ≡ emit_cause flags state.nominal s (member_of flags state i)
counted_cause flags state next i s D labels bytes on unpoisoned declared l b =
    let of : Emission → Declared → ℕ → ℕ → Option EmitError = λ e E n m. first_emit_cause (tree_cause flags E n e.nominal 0 (member_of flags e i)) (unless (nat_lt (m + tree_size (member_of flags e i)) limit) LabelOutOfRange) in
    ap (λ e. of e D labels bytes) on
    ∙ ap (λ E. of state E labels bytes) declared
    ∙ ap (λ n. of state (declared_in s) n bytes) l
    ∙ ap (λ m. of state (declared_in s) (length s.labels) m) b
    ∙ sym (ap (λ f. cond f (Some Failed) (of state (declared_in s) (length s.labels) (length s.bytes))) unpoisoned)

-- what was emitted without a cause, and ends below the limit, has none
pub emit_none : (flags : IsaFlags) (state : Emission) (i : Inst) (s t : BufferState) (n : ℕ) → s.is_poisoned ≡ false → tree_cause flags (declared_in s) (length s.labels) state.nominal 0 (member_of flags state i) ≡ None →
    t ≡ apply_all s (own_fragments (length s.labels) 0 (member_of flags state i)) → n ≡ length t.bytes → n < limit → emit_cause flags state.nominal s (member_of flags state i) ≡ None
emit_none flags state i s t n unpoisoned cause is end below =
    let step = member_of flags state i in
    let size : length t.bytes ≡ length s.bytes + tree_size step = ap (λ x. length x.bytes) is ∙ own_size flags state i s (length s.labels) 0 refl in
    let short : length s.bytes + tree_size step < limit = omega (arith, end, size, below) in
    sym (counted_cause flags state state i s (declared_in s) (length s.labels) (length s.bytes) refl unpoisoned refl refl refl)
    ∙ ap (λ o. first_emit_cause o (unless (nat_lt (length s.bytes + tree_size step) limit) LabelOutOfRange)) cause
    ∙ ap (λ b. unless b LabelOutOfRange) (lt-ltb (length s.bytes + tree_size step) limit short)

answered_by : (c d : Option EmitError) (error result : EmitError) → c ≡ d → (c ≡ None → error ≡ NoMemory) → result ≡ unwrap_or c error → (result ≡ NoMemory) ⊎ (d ≡ Some result)
answered_by None d error result same only_memory is = inl (is ∙ only_memory refl)
answered_by (Some e) d error result same only_memory is = inr (sym same ∙ ap Some (sym is))

-- what emission is refused by: the first cause where one is found, else its error, which is want of memory
pub refused_by : (c d found : Option EmitError) (error result : EmitError) → c ≡ d → (found ≡ Some NoMemory) ⊎ (c ≡ found) → (c ≡ None → error ≡ NoMemory) → result ≡ unwrap_or found error → (result ≡ NoMemory) ⊎ (d ≡ Some result)
refused_by c d found error result same h only_memory is =
    elim h [ inl m ↦ inl (is ∙ ap (λ o. unwrap_or o error) m) | inr x ↦ answered_by c d error result same only_memory (is ∙ ap (λ o. unwrap_or o error) (sym x)) ]
