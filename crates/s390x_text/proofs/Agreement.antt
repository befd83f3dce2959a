-- Texts and bytes have rows for the same operators.
use Rattle.std.proofs.Common.{◌≡◌, ℕ, ◌+◌, Bool, true, false, Option, Some, None, List, [], ◌∷◌, refl, sym, ◌∙◌, is_some, ◌||◌, ◌&&◌}
use Rattle.std.specs.Prelude.{cond, nat_eq, nat_lt}
use Rattle.s390x_base.specs.declared.error.EmitError.{EmitError}
use Rattle.s390x_base.specs.declared.regs.Reg.{Reg}
use Rattle.s390x_inst.specs.Emission.{Emission}
use Rattle.s390x_inst.specs.declared.args.MemArg.{MemArg}
use Rattle.s390x_inst.specs.declared.ops.ALUOp.{ALUOp}
use Rattle.s390x_inst.specs.declared.ops.ALUOp.TheVariants.{Add32}
use Rattle.s390x_inst.specs.declared.ops.CmpOp.{CmpOp}
use Rattle.s390x_inst.specs.declared.ops.RxSBGOp.TheVariants.{Insert, And}
use Rattle.s390x_inst.specs.declared.ops.UnaryOp.TheVariants.{Abs32}
use Rattle.s390x_inst.specs.declared.load.Load.{Load}
use Rattle.s390x_inst.specs.declared.load.LoadOp.{LoadOp}
use Rattle.s390x_inst.specs.declared.load.LoadOp.TheVariants as LoadOps
use Rattle.s390x_inst.specs.Loads.{as_load, by_load}
use Rattle.s390x_inst.specs.declared.store.Store.{Store}
use Rattle.s390x_inst.specs.declared.store.StoreOp.{StoreOp}
use Rattle.s390x_inst.specs.declared.store.StoreOp.TheVariants as StoreOps
use Rattle.s390x_inst.specs.Stores.{as_store, by_store}
use Rattle.s390x_job_fields.specs.Atoms.{reg_text}
use Rattle.s390x_inst.specs.declared.inst.Inst.{Inst}
use Rattle.s390x_inst.specs.declared.inst.Inst.TheVariants as I
use Rattle.s390x_typed_steps.specs.MachineInstruction.{MachineInstruction}
use Rattle.s390x_typed_steps.specs.SingleInstruction.{single_instruction, single_with, two_row, three_row, halfword_row, word_row, three_halfword_row, masked_row, masked_halfword_row, indexed_row}
use Rattle.s390x_typed_steps.specs.Opcodes.{alu_three, alu_two, cmp_two, cmp_trap, cmp_trap_signed, cmp_trap_unsigned, alu_halfword, alu_three_halfword, alu_signed_word, alu_unsigned_word, cmp_halfword, cmp_signed_word, cmp_unsigned_word, alu_part, alu_half, load_part}
use Rattle.s390x_typed_steps.specs.Opcodes.{load_half, insert_part, insert_half, extend_two, indexed_opcode, logical_indexed_opcode}
use Rattle.s390x_typed_steps.specs.Storage.{alu_rx, alu_rxy, atomic_rsy}
use Rattle.s390x_typed_steps.specs.Memory.{MemoryInstruction, load_memory, store_memory, other_memory, operate, load_and_operate, memory}
use Rattle.s390x_text_rows.specs.Texts.{Text, row}
use Rattle.s390x_base.specs.declared.regs.Reg.TheVariants.{Real}
use Rattle.std.specs.Option.{option_map}
use Rattle.s390x_text_rows.specs.Operands.{is_reg, pair_cause}
use Rattle.s390x_text_rows.specs.Mnemonics.{alu_three_name, alu_two_name, alu_halfword_name, alu_three_halfword_name, alu_signed_word_name, alu_unsigned_word_name, alu_short_name, alu_long_name, atomic_name, cmp_short_name, cmp_long_name, cmp_relative_name, cmp_two_name, cmp_halfword_name}
use Rattle.s390x_text_rows.specs.Mnemonics.{cmp_signed_word_name, cmp_unsigned_word_name, cmp_trap_name, cmp_trap_signed_name, cmp_trap_unsigned_name, rotate_name, rotate_test_name}
use Rattle.s390x_text_rows.specs.Integer.{three_text, conditional_row, alu_part_name, alu_half_name, load_part_name, load_half_name, insert_part_name, insert_half_name, extend_name, indexed_name, logical_indexed_name, arithmetic_text, pair_instruction_text, compare_text, move_text}
use Rattle.s390x_text_rows.specs.Storage.{rx, rs, has_row, access_where, address_cause, load_mnemonics, load_text, store_mnemonics, store_text, storage_operator_text}
use Rattle.s390x_text.specs.Agreement.{has_row_text, Agrees, RowsAgree}
use Rattle.s390x_text_rows.specs.declared.error.TextError.TheVariants.{NoRow, BadPair}

-- ---- tables

-- a mnemonic is there where the row is
stem_same : (stem : ℕ → List ℕ) (o : Option ℕ) → is_some (option_map stem o) ≡ is_some o
stem_same stem None = refl
stem_same stem (Some opcode) = refl

alu_three_same : (op : ALUOp) → is_some (alu_three_name op) ≡ is_some (alu_three op)
unfolding alu_three_name
alu_three_same op = stem_same _ (alu_three op)

alu_two_same : (op : ALUOp) → is_some (alu_two_name op) ≡ is_some (alu_two op)
unfolding alu_two_name
alu_two_same op = stem_same _ (alu_two op)

alu_halfword_same : (op : ALUOp) → is_some (alu_halfword_name op) ≡ is_some (alu_halfword op)
unfolding alu_halfword_name
alu_halfword_same op = stem_same _ (alu_halfword op)

alu_three_halfword_same : (op : ALUOp) → is_some (alu_three_halfword_name op) ≡ is_some (alu_three_halfword op)
unfolding alu_three_halfword_name
alu_three_halfword_same op = stem_same _ (alu_three_halfword op)

alu_signed_word_same : (op : ALUOp) → is_some (alu_signed_word_name op) ≡ is_some (alu_signed_word op)
unfolding alu_signed_word_name
alu_signed_word_same op = stem_same _ (alu_signed_word op)

alu_unsigned_word_same : (op : ALUOp) → is_some (alu_unsigned_word_name op) ≡ is_some (alu_unsigned_word op)
unfolding alu_unsigned_word_name
alu_unsigned_word_same op = stem_same _ (alu_unsigned_word op)

cmp_two_same : (op : CmpOp) → is_some (cmp_two_name op) ≡ is_some (cmp_two op)
unfolding cmp_two_name
cmp_two_same op = stem_same _ (cmp_two op)

cmp_halfword_same : (op : CmpOp) → is_some (cmp_halfword_name op) ≡ is_some (cmp_halfword op)
unfolding cmp_halfword_name
cmp_halfword_same op = stem_same _ (cmp_halfword op)

cmp_signed_word_same : (op : CmpOp) → is_some (cmp_signed_word_name op) ≡ is_some (cmp_signed_word op)
unfolding cmp_signed_word_name
cmp_signed_word_same op = stem_same _ (cmp_signed_word op)

cmp_unsigned_word_same : (op : CmpOp) → is_some (cmp_unsigned_word_name op) ≡ is_some (cmp_unsigned_word op)
unfolding cmp_unsigned_word_name
cmp_unsigned_word_same op = stem_same _ (cmp_unsigned_word op)

cmp_trap_same : (op : CmpOp) → is_some (cmp_trap_name op) ≡ is_some (cmp_trap op)
unfolding cmp_trap_name
cmp_trap_same op = stem_same _ (cmp_trap op)

cmp_trap_signed_same : (op : CmpOp) → is_some (cmp_trap_signed_name op) ≡ is_some (cmp_trap_signed op)
unfolding cmp_trap_signed_name
cmp_trap_signed_same op = stem_same _ (cmp_trap_signed op)

cmp_trap_unsigned_same : (op : CmpOp) → is_some (cmp_trap_unsigned_name op) ≡ is_some (cmp_trap_unsigned op)
unfolding cmp_trap_unsigned_name
cmp_trap_unsigned_same op = stem_same _ (cmp_trap_unsigned op)

atomic_same : (op : ALUOp) → is_some (atomic_name op) ≡ is_some (atomic_rsy op)
unfolding atomic_name
atomic_same op = stem_same _ (atomic_rsy op)

storage_same : (op : ALUOp) → has_row (rx (alu_short_name op) (alu_long_name op) None) ≡ (is_some (alu_rx op) || is_some (alu_rxy op))
unfolding alu_short_name alu_long_name
storage_same Add32 = refl
storage_same op = refl

part_same : (op : ALUOp) (n : ℕ) → is_some (alu_part_name op n) ≡ is_some (alu_part op n)
part_same op n = stem_same _ (alu_part op n)

half_same : (op : ALUOp) (n : ℕ) → is_some (alu_half_name op n) ≡ is_some (alu_half op n)
half_same op n = stem_same _ (alu_half op n)

extend_same : (signed : Bool) (from to : ℕ) → is_some (extend_name signed from to) ≡ is_some (extend_two signed from to)
extend_same signed from to = stem_same _ (extend_two signed from to)

indexed_same : (n : ℕ) → is_some (indexed_name n) ≡ is_some (indexed_opcode n)
indexed_same n = stem_same _ (indexed_opcode n)

logical_same : (n : ℕ) → is_some (logical_indexed_name n) ≡ is_some (logical_indexed_opcode n)
logical_same n = stem_same _ (logical_indexed_opcode n)

-- ---- rows

two_agrees : (n : Option (List ℕ)) (o : Option ℕ) (xs : List (List ℕ)) (fine : Bool) (d m : ℕ) → is_some n ≡ is_some o → has_row_text (row n xs).cause ≡ is_some (single_with fine (two_row o d m))
two_agrees None (Some o) xs fine d m h = h
two_agrees (Some n) None xs fine d m h = h
two_agrees n o xs fine d m h = refl

halfword_agrees : (n : Option (List ℕ)) (o : Option ℕ) (xs : List (List ℕ)) (fine : Bool) (d bits : ℕ) → is_some n ≡ is_some o → has_row_text (row n xs).cause ≡ is_some (single_with fine (halfword_row o d bits))
halfword_agrees None (Some o) xs fine d bits h = h
halfword_agrees (Some n) None xs fine d bits h = h
halfword_agrees n o xs fine d bits h = refl

word_agrees : (n : Option (List ℕ)) (o : Option ℕ) (xs : List (List ℕ)) (fine : Bool) (d bits : ℕ) → is_some n ≡ is_some o → has_row_text (row n xs).cause ≡ is_some (single_with fine (word_row o d bits))
word_agrees None (Some o) xs fine d bits h = h
word_agrees (Some n) None xs fine d bits h = h
word_agrees n o xs fine d bits h = refl

indexed_agrees : (n : Option (List ℕ)) (o : Option ℕ) (xs : List (List ℕ)) (fine : Bool) (d base index displacement : ℕ) → is_some n ≡ is_some o → has_row_text (row n xs).cause ≡ is_some (single_with fine (indexed_row o d base index displacement))
indexed_agrees None (Some o) xs fine d base index displacement h = h
indexed_agrees (Some n) None xs fine d base index displacement h = h
indexed_agrees n o xs fine d base index displacement h = refl

masked_agrees : (n : Option (List ℕ)) (o : Option ℕ) (xs : List (List ℕ)) (fine : Bool) (a m k : ℕ) (mask : ℕ) → is_some n ≡ is_some o → has_row_text (conditional_row n mask xs).cause ≡ is_some (single_with fine (masked_row o a m k))
masked_agrees None (Some o) xs fine a m k mask h = h
masked_agrees (Some n) None xs fine a m k mask h = h
masked_agrees n o xs fine a m k mask h = refl

masked_halfword_agrees : (n : Option (List ℕ)) (o : Option ℕ) (xs : List (List ℕ)) (fine : Bool) (a bits k : ℕ) (mask : ℕ) → is_some n ≡ is_some o → has_row_text (conditional_row n mask xs).cause ≡ is_some (single_with fine (masked_halfword_row o a bits k))
masked_halfword_agrees None (Some o) xs fine a bits k mask h = h
masked_halfword_agrees (Some n) None xs fine a bits k mask h = h
masked_halfword_agrees n o xs fine a bits k mask h = refl

chosen : (b : Bool) (t u : Text) → has_row_text t.cause ≡ true → has_row_text u.cause ≡ true → has_row_text (cond b t u).cause ≡ true
chosen true t u p q = p
chosen false t u p q = q

three_named : (n w : Option (List ℕ)) (rd rn : Reg) (last : List ℕ) → has_row_text (three_text n w rd rn last).cause ≡ is_some n
three_named None w rd rn last = refl
three_named (Some n) None rd rn last = refl
three_named (Some n) (Some w) rd rn last = chosen (is_reg rd rn) _ _ refl refl

three_some : (o p : Option ℕ) (fine : Bool) (d k m : ℕ) → is_some o ≡ is_some (single_with fine (three_row o p d k m))
three_some None p fine d k m = refl
three_some (Some o) None fine d k m = refl
three_some (Some o) (Some p) fine d k m = refl

three_agrees : (n w : Option (List ℕ)) (o p : Option ℕ) (rd rn : Reg) (last : List ℕ) (fine : Bool) (d k m : ℕ) → is_some n ≡ is_some o → has_row_text (three_text n w rd rn last).cause ≡ is_some (single_with fine (three_row o p d k m))
three_agrees n w o p rd rn last fine d k m h = three_named n w rd rn last ∙ h ∙ three_some o p fine d k m

three_halfword_some : (o p : Option ℕ) (fine : Bool) (d k bits : ℕ) → is_some o ≡ is_some (single_with fine (three_halfword_row o p d k bits))
three_halfword_some None p fine d k bits = refl
three_halfword_some (Some o) None fine d k bits = refl
three_halfword_some (Some o) (Some p) fine d k bits = refl

three_halfword_agrees : (n w : Option (List ℕ)) (o p : Option ℕ) (rd rn : Reg) (last : List ℕ) (fine : Bool) (d k bits : ℕ) → is_some n ≡ is_some o → has_row_text (three_text n w rd rn last).cause ≡ is_some (single_with fine (three_halfword_row o p d k bits))
three_halfword_agrees n w o p rd rn last fine d k bits h = three_named n w rd rn last ∙ h ∙ three_halfword_some o p fine d k bits

-- selected bits, by whether they lie below 64
picked : (b : Bool) (n : Option (List ℕ)) (xs : List (List ℕ)) (fine : Bool) (m : MachineInstruction) → is_some n ≡ true → has_row_text (row (cond b n None) xs).cause ≡ is_some (single_with fine (cond b (Some m) None))
picked true None xs fine m h = h
picked true (Some n) xs fine m h = refl
picked false n xs fine m h = refl

unpicked : (b : Bool) (xs : List (List ℕ)) → has_row_text (row (cond b None None) xs).cause ≡ false
unpicked true xs = refl
unpicked false xs = refl

-- one with an operand in memory, by whether there is a row
pub address_row : (c : Option EmitError) → has_row_text (address_cause c) ≡ true
address_row None = refl
address_row (Some e) = refl

access_row : (b : Bool) (c : Option EmitError) → has_row_text (cond b (address_cause c) (Some NoRow)) ≡ b
access_row true c = address_row c
access_row false c = refl

operate_some : (b : Bool) (x y : Option ℕ) (rd ri : Reg) (m : MemArg) → is_some (operate b x y rd ri m) ≡ b
operate_some true x y rd ri m = refl
operate_some false x y rd ri m = refl

atomic_row : (n : Option (List ℕ)) (o : Option ℕ) (rd rn : Reg) (m : MemArg) (c : Option EmitError) → is_some n ≡ is_some o → has_row_text (cond (has_row (rs None n)) (address_cause c) (Some NoRow)) ≡ is_some (load_and_operate o rd rn m)
atomic_row None None rd rn m c h = refl
atomic_row None (Some o) rd rn m c h = h
atomic_row (Some n) None rd rn m c h = address_row c ∙ h
atomic_row (Some n) (Some o) rd rn m c h = address_row c

-- a comparison has a relative row
compared : (a b : Option (List ℕ)) (r : List ℕ) (c : Option EmitError) → has_row_text (cond (has_row (rx a b (Some r))) (address_cause c) (Some NoRow)) ≡ true
compared None None r c = address_row c
compared None (Some b) r c = address_row c
compared (Some a) None r c = address_row c
compared (Some a) (Some b) r c = address_row c

chosen_cause : (b : Bool) → has_row_text (cond b None (Some BadPair)) ≡ true
chosen_cause true = refl
chosen_cause false = refl

-- ---- instructions

arithmetic : (i : Inst) → Agrees (arithmetic_text i) (is_some (single_instruction i))
arithmetic (I.AluRRR op rd rn rm) = three_agrees (alu_three_name op) (alu_two_name op) (alu_three op) (alu_two op) _ _ _ _ _ _ _ (alu_three_same op)
arithmetic (I.AluRRSImm16 op rd rn imm) = three_halfword_agrees (alu_three_halfword_name op) (alu_halfword_name op) (alu_three_halfword op) (alu_halfword op) _ _ _ _ _ _ _ (alu_three_halfword_same op)
arithmetic (I.AluRR op rd ri rm) = two_agrees (alu_two_name op) (alu_two op) _ _ _ _ (alu_two_same op)
arithmetic (I.AluRSImm16 op rd ri imm) = halfword_agrees (alu_halfword_name op) (alu_halfword op) _ _ _ _ (alu_halfword_same op)
arithmetic (I.AluRSImm32 op rd ri imm) = word_agrees (alu_signed_word_name op) (alu_signed_word op) _ _ _ _ (alu_signed_word_same op)
arithmetic (I.AluRUImm32 op rd ri imm) = word_agrees (alu_unsigned_word_name op) (alu_unsigned_word op) _ _ _ _ (alu_unsigned_word_same op)
arithmetic (I.AluRUImm16Shifted op rd ri imm) = halfword_agrees (alu_part_name op imm.shift) (alu_part op imm.shift) _ _ _ _ (part_same op imm.shift)
arithmetic (I.AluRUImm32Shifted op rd ri imm) = word_agrees (alu_half_name op imm.shift) (alu_half op imm.shift) _ _ _ _ (half_same op imm.shift)
arithmetic (I.UnaryRR Abs32 rd rn) = refl
arithmetic (I.UnaryRR op rd rn) = refl
arithmetic (I.RxSBG op rd ri rn start end amount) = picked (nat_lt start 64 && nat_lt end 64) (Some (rotate_name op)) _ _ _ refl
arithmetic (I.RxSBGTest Insert rd rn start end amount) = unpicked (nat_lt start 64 && nat_lt end 64) _
arithmetic (I.RxSBGTest And rd rn start end amount) = picked (nat_lt start 64 && nat_lt end 64) (rotate_test_name And) _ _ _ refl
arithmetic (I.RxSBGTest op rd rn start end amount) = picked (nat_lt start 64 && nat_lt end 64) (rotate_test_name op) _ _ _ refl
arithmetic i = assumption

is_row_pair : (hi lo : Reg) → has_row_text (pair_cause hi lo) ≡ true
is_row_pair (Real h) (Real l) = chosen_cause (nat_eq l.number (h.number + 1))
is_row_pair hi lo = refl

pairs : (i : Inst) → Agrees (pair_instruction_text i) (is_some (single_instruction i))
pairs (I.SMulWide rd rn rm) = is_row_pair rd.hi rd.lo
pairs (I.Flogr rd rn) = is_row_pair rd.hi rd.lo
pairs i = assumption

comparisons : (i : Inst) → Agrees (compare_text i) (is_some (single_instruction i))
comparisons (I.CmpRR op rn rm) = two_agrees (cmp_two_name op) (cmp_two op) _ _ _ _ (cmp_two_same op)
comparisons (I.CmpRSImm16 op rn imm) = halfword_agrees (cmp_halfword_name op) (cmp_halfword op) _ _ _ _ (cmp_halfword_same op)
comparisons (I.CmpRSImm32 op rn imm) = word_agrees (cmp_signed_word_name op) (cmp_signed_word op) _ _ _ _ (cmp_signed_word_same op)
comparisons (I.CmpRUImm32 op rn imm) = word_agrees (cmp_unsigned_word_name op) (cmp_unsigned_word op) _ _ _ _ (cmp_unsigned_word_same op)
comparisons (I.CmpTrapRR op rn rm mask code) = masked_agrees (cmp_trap_name op) (cmp_trap op) _ _ _ _ _ mask (cmp_trap_same op)
comparisons (I.CmpTrapRSImm16 op rn imm mask code) = masked_halfword_agrees (cmp_trap_signed_name op) (cmp_trap_signed op) _ _ _ _ _ mask (cmp_trap_signed_same op)
comparisons (I.CmpTrapRUImm16 op rn imm mask code) = masked_halfword_agrees (cmp_trap_unsigned_name op) (cmp_trap_unsigned op) _ _ _ _ _ mask (cmp_trap_unsigned_same op)
comparisons i = tt

moves : (i : Inst) → Agrees (move_text i) (is_some (single_instruction i))
moves (I.Mov64UImm16Shifted rd imm) = halfword_agrees (load_part_name imm.shift) (load_part imm.shift) _ _ _ _ (stem_same _ (load_part imm.shift))
moves (I.Mov64UImm32Shifted rd imm) = word_agrees (load_half_name imm.shift) (load_half imm.shift) _ _ _ _ (stem_same _ (load_half imm.shift))
moves (I.Insert64UImm16Shifted rd ri imm) = halfword_agrees (insert_part_name imm.shift) (insert_part imm.shift) _ _ _ _ (stem_same _ (insert_part imm.shift))
moves (I.Insert64UImm32Shifted rd ri imm) = word_agrees (insert_half_name imm.shift) (insert_half imm.shift) _ _ _ _ (stem_same _ (insert_half imm.shift))
moves (I.Extend rd rn signed from to) = two_agrees (extend_name signed from to) (extend_two signed from to) _ _ _ _ (extend_same signed from to)
moves (I.LoadIndexedAddr rd base index offset size) = indexed_agrees (indexed_name size) (indexed_opcode size) _ _ _ _ _ _ (indexed_same size)
moves (I.LoadLogicalIndexedAddr rd base index offset size) = indexed_agrees (logical_indexed_name size) (logical_indexed_opcode size) _ _ _ _ _ _ (logical_same size)
moves i = assumption

-- each load has a row: the last clause is a copy for each
load_has_row : (op : LoadOp) → has_row (load_mnemonics op) ≡ true
load_has_row LoadOps.Load64 = refl
load_has_row op = refl

load_agrees : (has : Bool) (e : Emission) (o : Option Load) (other : Option MemoryInstruction) → Agrees (by_load (λ l. Some (access_where has (load_mnemonics l.op) e (reg_text l.rd ∷ []) l.mem [])) None o) (is_some (by_load load_memory other o))
load_agrees has e None other = tt
load_agrees has e (Some l) other = access_row (has_row (load_mnemonics l.op)) _ ∙ load_has_row l.op

loads : (has : Bool) (e : Emission) (i : Inst) → Agrees (load_text has e i) (is_some (memory i))
loads has e i = load_agrees has e (as_load i) (other_memory i)

store_has_row : (op : StoreOp) → has_row (store_mnemonics op) ≡ true
store_has_row StoreOps.Store64 = refl
store_has_row op = refl

store_agrees : (has : Bool) (e : Emission) (o : Option Store) (other : Option MemoryInstruction) → Agrees (by_store (λ s. Some (access_where has (store_mnemonics s.op) e (reg_text s.rd ∷ []) s.mem [])) None o) (is_some (by_store store_memory other o))
store_agrees has e None other = tt
store_agrees has e (Some s) other = access_row (has_row (store_mnemonics s.op)) _ ∙ store_has_row s.op

stores : (has : Bool) (e : Emission) (i : Inst) → Agrees (store_text has e i) (is_some (memory i))
stores has e (I.StoreImm8 imm mem) = address_row _
stores has e (I.StoreImm16 imm mem) = address_row _
stores has e (I.StoreImm32SExt16 imm mem) = address_row _
stores has e (I.StoreImm64SExt16 imm mem) = address_row _
stores has e i = store_agrees has e (as_store i) (memory i)

operators : (has : Bool) (e : Emission) (i : Inst) → Agrees (storage_operator_text has e i) (is_some (memory i))
operators has e (I.AluRX op rd ri mem) =
    access_row (has_row (rx (alu_short_name op) (alu_long_name op) None)) _ ∙ storage_same op ∙ sym (operate_some (is_some (alu_rx op) || is_some (alu_rxy op)) (alu_rx op) (alu_rxy op) rd ri mem)
operators has e (I.CmpRX op rn mem) = compared (cmp_short_name op) (cmp_long_name op) (cmp_relative_name op) _
operators has e (I.AtomicRmw op rd rn mem) = atomic_row (atomic_name op) (atomic_rsy op) rd rn mem _ (atomic_same op)
operators has e (I.LoadMultiple64 rt rt2 mem) = address_row _
operators has e (I.StoreMultiple64 rt rt2 mem) = address_row _
operators has e (I.LoadAddr rd mem) = address_row _
operators has e (I.AtomicCas32 rd ri rn mem) = address_row _
operators has e (I.AtomicCas64 rd ri rn mem) = address_row _
operators has e i = tt

pub rows_agree : (has : Bool) (e : Emission) (i : Inst) → RowsAgree has e i
rows_agree has e i = record {
  arithmetic = arithmetic i;
  pairs = pairs i;
  comparisons = comparisons i;
  moves = moves i;
  loads = loads has e i;
  stores = stores has e i;
  operators = operators has e i;
}
