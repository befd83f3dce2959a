-- Each instruction with a memory operand, whose registers may stand there, is that of the emitter of its rows' format.
use Rattle.std.proofs.Common.{◌≡◌, ℕ, Bool, true, false, ◌&&◌, ◌||◌, not, cond, nat_eq, nat_lt, nat_le, is_some, Option, Some, None, refl, sym, ap, ◌∙◌, subst}
use Rattle.std.proofs.lemmas.Bool.{and_parts, and_from, eqb-true}
use Rattle.s390x_base.specs.Regs.{is_int, number_of}
use Rattle.s390x_base.specs.declared.regs.Reg.{Reg}
use Rattle.s390x_base.specs.declared.regs.Reg.TheVariants.{Real, Virtual}
use Rattle.s390x_inst.specs.declared.args.MemArg.{MemArg}
use Rattle.s390x_inst.specs.declared.inst.Inst.{Inst}
use Rattle.s390x_inst.specs.declared.inst.Inst.TheVariants as I
use Rattle.s390x_inst.specs.declared.load.LoadOp.{LoadOp}
use Rattle.s390x_inst.specs.declared.load.LoadOp.TheVariants as LoadOps
use Rattle.s390x_inst.specs.declared.store.StoreOp.{StoreOp}
use Rattle.s390x_inst.specs.declared.store.StoreOp.TheVariants as StoreOps
use Rattle.s390x_inst.specs.declared.whole.WholeAccess.{WholeAccess}
use Rattle.s390x_inst.specs.Wholes.{as_whole, by_whole}
use Rattle.s390x_inst.proofs.Transfers.{Transfer, LoadOf, StoreOf, as_transfer, by_transfer}
use Rattle.s390x_inst.specs.declared.vec_inst.VecInst.{VecInst}
use Rattle.s390x_inst.specs.declared.vec_inst.VecInst.TheVariants as V
use Rattle.s390x_inst.specs.declared.ops.ALUOp.{ALUOp}
use Rattle.s390x_inst.specs.declared.ops.ALUOp.TheVariants.{Add32}
use Rattle.s390x_inst.specs.declared.ops.CmpOp.{CmpOp}
use Rattle.s390x_inst.specs.declared.ops.CmpOp.TheVariants.{CmpS32}
use Rattle.s390x_rows.specs.declared.opcodes.TheConstants as opcodes
use Rattle.s390x_typed_steps.specs.General.{is_general, reuses}
use Rattle.s390x_typed_steps.specs.Memory.{MemoryInstruction, StorageForm, RxForm, RsForm, VrxForm, FloatForm, load_memory, store_memory, whole_memory, memory, operate, access_vector, access_elements, access_lane, reversed_code, is_left_lane, load_left, store_left, load_lane_opcode, store_lane_opcode, load_reversed_opcode, store_reversed_opcode, vector_memory, load_and_operate, holds_scratch}
use Rattle.s390x_typed_steps.specs.VectorInstruction.{element_code, is_lane, is_vector, reuses_vector}
use Rattle.s390x_typed_steps.specs.Operands.{is_numbered}
use Rattle.s390x_typed_steps.specs.Storage.{alu_rx, alu_rxy, atomic_rsy, cmp_rx, cmp_rxy, cmp_ril}
use Rattle.s390x_address.specs.Emitters.{reads_register, reads_registers, is_multiple, one_register, two_registers}
use Rattle.s390x_emit_int.specs.Emitters.{IsEmitted}
use Rattle.s390x_emit_vec.proofs.Encoding.{reused_real}

-- what is built is what was found
told : (y x : MemoryInstruction) → Some y ≡ Some x → y ≡ x
told y x e = cc

as_found : (y x : MemoryInstruction) → IsEmitted y → Some y ≡ Some x → IsEmitted x
as_found y x p e = subst IsEmitted (told y x e) p

valid_of : (y x : MemoryInstruction) → Some y ≡ Some x → x.operands_valid ≡ true → y.operands_valid ≡ true
valid_of y x e v = ap (λ (z : MemoryInstruction). z.operands_valid) (told y x e) ∙ v

-- a register that reuses another has its number
numbered_as : (n : ℕ) (r : Reg) → is_general r ≡ true → is_numbered n r ≡ nat_eq (number_of r) n
numbered_as n (Real r) g = ap (λ t. t && nat_eq r.number n) (and_parts (is_int r.class) (nat_lt r.number 16) g).0
numbered_as n (Virtual num class) g = absurd (cc)

reused : (n : ℕ) (rd ri : Reg) → reuses rd ri ≡ true → (is_general rd ≡ true) × (is_numbered n ri ≡ is_numbered n rd)
reused n rd ri h =
    let outer = and_parts (is_general rd && is_general ri) (nat_eq (number_of rd) (number_of ri)) h in
    let both = and_parts (is_general rd) (is_general ri) outer.0 in
    let same : number_of rd ≡ number_of ri = eqb-true (number_of rd) (number_of ri) outer.1 in
    (both.0, numbered_as n ri both.1 ∙ ap (λ m. nat_eq m n) (sym same) ∙ sym (numbered_as n rd both.0))

-- comparisons and operators read their register
cmp_reads : (op : CmpOp) → reads_register (cmp_rxy op) ≡ true
cmp_reads CmpS32 = refl
cmp_reads op = refl

alu_reads : (op : ALUOp) → reads_register (alu_rxy op) ≡ true
alu_reads Add32 = refl
alu_reads op = refl

-- an instruction on one register, by what its emitter says of the register
one_as : (rd : Reg) (rx rxy ril : Option ℕ) (accesses valid reads : Bool) (mem : MemArg) → valid ≡ is_general rd → reads ≡ (reads_register rxy && is_numbered 1 rd) →
    record { form = RxForm (number_of rd) rx rxy ril; operand = mem; accesses = accesses; operands_valid = valid; reads_scratch = reads } ≡ one_register rd rx rxy ril accesses mem
one_as rd rx rxy ril accesses valid reads mem v r =
    let of : Bool → Bool → MemoryInstruction = λ a b. record { form = RxForm (number_of rd) rx rxy ril; operand = mem; accesses = accesses; operands_valid = a; reads_scratch = b } in
    ap (λ a. of a reads) v ∙ ap (λ b. of (is_general rd) b) r

two_as : (rd rn : Reg) (rs rsy : Option ℕ) (accesses valid reads : Bool) (mem : MemArg) → valid ≡ (two_registers rd rn rs rsy accesses mem).operands_valid → reads ≡ (two_registers rd rn rs rsy accesses mem).reads_scratch →
    record { form = RsForm (number_of rd) (number_of rn) rs rsy; operand = mem; accesses = accesses; operands_valid = valid; reads_scratch = reads } ≡ two_registers rd rn rs rsy accesses mem
two_as rd rn rs rsy accesses valid reads mem v r =
    let of : Bool → Bool → MemoryInstruction = λ a b. record { form = RsForm (number_of rd) (number_of rn) rs rsy; operand = mem; accesses = accesses; operands_valid = a; reads_scratch = b } in
    ap (λ a. of a reads) v ∙ ap (λ b. of (two_registers rd rn rs rsy accesses mem).operands_valid b) r

operator_as : (t : Bool) (rx rxy : Option ℕ) (rd ri : Reg) (mem : MemArg) (x : MemoryInstruction) → reads_register rxy ≡ true → operate t rx rxy rd ri mem ≡ Some x → x.operands_valid ≡ true → IsEmitted x
operator_as false rx rxy rd ri mem x reads e v = absurd (cc)
operator_as true rx rxy rd ri mem x reads e v =
    let valid : reuses rd ri ≡ true = valid_of _ x e v in
    let r = reused 1 rd ri valid in
    let same = one_as rd rx rxy None true (reuses rd ri) (is_numbered 1 ri) mem (valid ∙ sym r.0) (r.1 ∙ ap (λ t. t && is_numbered 1 rd) (sym reads)) in
    as_found _ x (rd, refl, same) e

-- two general registers of rows that are no multiple ones
pair_of : (rd rn : Reg) (t : Bool) → (is_general rd && is_general rn) ≡ true → t ≡ true → (is_general rd && is_general rn) ≡ (is_general rd && is_general rn && t)
pair_of rd rn t h ht =
    h ∙ sym (and_from (is_general rd && is_general rn) t h ht)

-- rows that change memory in one access
abbrev ReadsSecond : ℕ → (rd rn : Reg) → Type 0
ReadsSecond opcode rd rn = reads_registers (Some opcode) rd rn ≡ is_numbered 1 rn

atomic_as : (opcode : ℕ) (rd rn : Reg) (mem : MemArg) (x : MemoryInstruction) → is_multiple (Some opcode) ≡ false → ReadsSecond opcode rd rn →
    Some (record { form = RsForm (number_of rd) (number_of rn) None (Some opcode); operand = mem; accesses = true; operands_valid = is_general rd && is_general rn; reads_scratch = is_numbered 1 rn }) ≡ Some x → x.operands_valid ≡ true → IsEmitted x
atomic_as opcode rd rn mem x other reads e v =
    let valid : (is_general rd && is_general rn) ≡ true = valid_of _ x e v in
    let more : (not (is_multiple (Some opcode)) || nat_le (number_of rd) (number_of rn)) ≡ true = ap (λ t. not t || nat_le (number_of rd) (number_of rn)) other in
    let same = two_as rd rn None (Some opcode) true (is_general rd && is_general rn) (is_numbered 1 rn) mem (pair_of rd rn _ valid more) (sym reads) in
    as_found _ x (rd, rn, same) e

-- neither a multiple row nor a compare and swap
abbrev changes_alone : Option ℕ → Bool
changes_alone None = true
changes_alone (Some opcode) = not (nat_eq opcode opcodes.LMG) && (not (nat_eq opcode opcodes.STMG) && not (nat_eq opcode opcodes.CSY || nat_eq opcode opcodes.CSG))

by_tests : (a b c : Bool) → (not a && (not b && not c)) ≡ true → ((a || b) ≡ false) × ((s t u : Bool) → cond a false (cond b s (cond c t u)) ≡ u)
by_tests true b c h = absurd (cc)
by_tests false true c h = absurd (cc)
by_tests false false true h = absurd (cc)
by_tests false false false h = (refl, λ s t u. refl)

atomic_from : (o : Option ℕ) (rd rn : Reg) (mem : MemArg) (x : MemoryInstruction) → changes_alone o ≡ true → load_and_operate o rd rn mem ≡ Some x → x.operands_valid ≡ true → IsEmitted x
atomic_from None rd rn mem x h e v = absurd (cc)
atomic_from (Some opcode) rd rn mem x h e v =
    let t = by_tests (nat_eq opcode opcodes.LMG) (nat_eq opcode opcodes.STMG) (nat_eq opcode opcodes.CSY || nat_eq opcode opcodes.CSG) h in
    atomic_as opcode rd rn mem x t.0 (t.1 (holds_scratch rd rn) (is_numbered 1 rd || is_numbered 1 rn) (is_numbered 1 rn)) e v

atomic_reads : (op : ALUOp) → changes_alone (atomic_rsy op) ≡ true
atomic_reads Add32 = refl
atomic_reads op = refl

-- a compare and swap
swap_as : (rs : Option ℕ) (opcode : ℕ) (rd ri rn : Reg) (mem : MemArg) (x : MemoryInstruction) → is_multiple (Some opcode) ≡ false → reads_registers (Some opcode) rd rn ≡ (is_numbered 1 rd || is_numbered 1 rn) →
    Some (record { form = RsForm (number_of rd) (number_of rn) rs (Some opcode); operand = mem; accesses = true; operands_valid = reuses rd ri && is_general rn; reads_scratch = is_numbered 1 ri || is_numbered 1 rn }) ≡ Some x → x.operands_valid ≡ true → IsEmitted x
swap_as rs opcode rd ri rn mem x other reads e v =
    let valid : (reuses rd ri && is_general rn) ≡ true = valid_of _ x e v in
    let both = and_parts (reuses rd ri) (is_general rn) valid in
    let r = reused 1 rd ri both.0 in
    let general : (is_general rd && is_general rn) ≡ true = and_from (is_general rd) (is_general rn) r.0 both.1 in
    let more : (not (is_multiple (Some opcode)) || nat_le (number_of rd) (number_of rn)) ≡ true = ap (λ t. not t || nat_le (number_of rd) (number_of rn)) other in
    let same = two_as rd rn rs (Some opcode) true (reuses rd ri && is_general rn) (is_numbered 1 ri || is_numbered 1 rn) mem (valid ∙ sym general ∙ pair_of rd rn _ general more) (ap (λ t. t || is_numbered 1 rn) r.1 ∙ sym reads) in
    as_found _ x (rd, rn, same) e

-- ---- vector registers

elements_as : (opcode : ℕ) (rd : Reg) (code : Option ℕ) (mem : MemArg) (x : MemoryInstruction) → access_elements opcode rd code mem ≡ Some x → IsEmitted x
elements_as opcode rd None mem x e = absurd (cc)
elements_as opcode rd (Some code) mem x e = as_found _ x (rd, refl, refl) e

lane_as : (valid : Bool) (opcode : ℕ → ℕ) (rd : Reg) (code : Option ℕ) (size lane : ℕ) (mem : MemArg) (x : MemoryInstruction) → (valid ≡ true → is_vector rd ≡ true) → access_lane valid opcode (number_of rd) code size lane mem ≡ Some x → x.operands_valid ≡ true → IsEmitted x
lane_as valid opcode rd None size lane mem x h e v = absurd (cc)
lane_as valid opcode rd (Some code) size lane mem x h e v = go (is_lane size lane) e
  where
    go : (t : Bool) → cond t (access_vector valid (VrxForm (number_of rd) (opcode code) lane) mem) None ≡ Some x → IsEmitted x
    go true e = let is : valid ≡ true = valid_of _ x e v in as_found _ x (rd, refl, ap (λ t. let y : MemoryInstruction = record { form = VrxForm (number_of rd) (opcode code) lane; operand = mem; accesses = true; operands_valid = t; reads_scratch = false } in y) (is ∙ sym (h is))) e
    go false e = absurd (cc)

float_as : (rd : Reg) (rx rxy : ℕ) (mem : MemArg) (x : MemoryInstruction) → nat_lt (number_of rd) 16 ≡ true → access_vector (is_vector rd) (FloatForm (number_of rd) rx rxy) mem ≡ Some x → IsEmitted x
float_as rd rx rxy mem x low e = as_found _ x (rd, refl, ap (λ t. let y : MemoryInstruction = record { form = FloatForm (number_of rd) rx rxy; operand = mem; accesses = true; operands_valid = t; reads_scratch = false } in y) (low_float (is_vector rd) (nat_lt (number_of rd) 16) low)) e
  where
    low_float : (a b : Bool) → b ≡ true → a ≡ (a && b)
    low_float true b h = sym h
    low_float false b h = refl

-- a float register, where the leftmost element is accessed, or a vector register
left_as : (size lane : ℕ) (rd : Reg) (rows : ℕ → ℕ → StorageForm) (a b c d : ℕ) (opcode : ℕ → ℕ) (mem : MemArg) (x : MemoryInstruction) → ((n r : ℕ) → rows n r ≡ cond (nat_eq n 32) (FloatForm r a b) (FloatForm r c d)) →
    cond (is_left_lane size lane (number_of rd)) (access_vector (is_vector rd) (rows size (number_of rd)) mem) (access_lane (is_vector rd) opcode (number_of rd) (element_code size) size lane mem) ≡ Some x → x.operands_valid ≡ true → IsEmitted x
left_as size lane rd rows a b c d opcode mem x is e v = go (is_left_lane size lane (number_of rd)) refl e
  where
    chosen : nat_lt (number_of rd) 16 ≡ true → (t : Bool) → access_vector (is_vector rd) (cond t (FloatForm (number_of rd) a b) (FloatForm (number_of rd) c d)) mem ≡ Some x → IsEmitted x
    chosen low true e = float_as rd a b mem x low e
    chosen low false e = float_as rd c d mem x low e

    go : (t : Bool) → is_left_lane size lane (number_of rd) ≡ t → cond t (access_vector (is_vector rd) (rows size (number_of rd)) mem) (access_lane (is_vector rd) opcode (number_of rd) (element_code size) size lane mem) ≡ Some x → IsEmitted x
    go true h e = chosen (and_parts ((nat_eq size 32 || nat_eq size 64) && nat_eq lane 0) (nat_lt (number_of rd) 16) h).1 (nat_eq size 32) (sym (ap (λ f. access_vector (is_vector rd) f mem) (is size (number_of rd))) ∙ e)
    go false h e = lane_as (is_vector rd) opcode rd (element_code size) size lane mem x (λ k. k) e v

-- a whole register, or no access
whole_emitter_or : (o : Option WholeAccess) (x : MemoryInstruction) → by_whole whole_memory None o ≡ Some x → IsEmitted x
whole_emitter_or None x e = absurd (cc)
whole_emitter_or (Some w) x e = as_found _ x (w.rd, refl, refl) e

vector_emitter : (w : VecInst) (x : MemoryInstruction) → vector_memory w ≡ Some x → x.operands_valid ≡ true → IsEmitted x
vector_emitter (V.VecLoadReplicate size rd mem) x e v = elements_as opcodes.VLREP rd (element_code size) mem x e
vector_emitter (V.VecLoadReplicateRev size rd mem) x e v = elements_as opcodes.VLBRREP rd (reversed_code size) mem x e
vector_emitter (V.VecLoadLane size rd ri mem lane) x e v = lane_as (reuses_vector rd ri) load_lane_opcode rd (element_code size) size lane mem x (reused_real rd ri) e v
vector_emitter (V.VecLoadLaneRev size rd ri mem lane) x e v = lane_as (reuses_vector rd ri) load_reversed_opcode rd (reversed_code size) size lane mem x (reused_real rd ri) e v
vector_emitter (V.VecLoadLaneUndef size rd mem lane) x e v = left_as size lane rd load_left opcodes.LE opcodes.LEY opcodes.LD opcodes.LDY load_lane_opcode mem x (λ n r. refl) e v
vector_emitter (V.VecLoadLaneRevUndef size rd mem lane) x e v = lane_as (is_vector rd) load_reversed_opcode rd (reversed_code size) size lane mem x (λ k. k) e v
vector_emitter (V.VecStoreLane size rd mem lane) x e v = left_as size lane rd store_left opcodes.STE opcodes.STEY opcodes.STD opcodes.STDY store_lane_opcode mem x (λ n r. refl) e v
vector_emitter (V.VecStoreLaneRev size rd mem lane) x e v = lane_as (is_vector rd) store_reversed_opcode rd (reversed_code size) size lane mem x (λ k. k) e v
vector_emitter w x e v = whole_emitter_or (as_whole w) x e

abbrev Emits : Option MemoryInstruction → Type 0
Emits (Some x) = IsEmitted x
Emits None = Unit {0}

-- a load, and a store: the last clause is a copy for each
load_is_emitted : (op : LoadOp) (rd : Reg) (mem : MemArg) → Emits (load_memory (record { op = op; rd = rd; mem = mem }))
load_is_emitted LoadOps.Load64 rd mem = (rd, refl, refl)
load_is_emitted op rd mem = (rd, refl, refl)

store_is_emitted : (op : StoreOp) (rd : Reg) (mem : MemArg) → Emits (store_memory (record { op = op; rd = rd; mem = mem }))
store_is_emitted StoreOps.Store64 rd mem = (rd, refl, refl)
store_is_emitted op rd mem = (rd, refl, refl)

transfer_emitter_or : (o : Option Transfer) (x : MemoryInstruction) → by_transfer load_memory store_memory None o ≡ Some x → IsEmitted x
transfer_emitter_or None x e = absurd (cc)
transfer_emitter_or (Some (LoadOf l)) x e = subst Emits e (load_is_emitted l.op l.rd l.mem)
transfer_emitter_or (Some (StoreOf s)) x e = subst Emits e (store_is_emitted s.op s.rd s.mem)

pub each_emitter : (i : Inst) (x : MemoryInstruction) → memory i ≡ Some x → x.operands_valid ≡ true → IsEmitted x
each_emitter (I.AluRX op rd ri mem) x e v = operator_as (is_some (alu_rx op) || is_some (alu_rxy op)) (alu_rx op) (alu_rxy op) rd ri mem x (alu_reads op) e v
each_emitter (I.CmpRX op rn mem) x e v = as_found _ x (rn, refl, one_as rn (cmp_rx op) (cmp_rxy op) (Some (cmp_ril op)) true (is_general rn) (is_numbered 1 rn) mem refl (ap (λ t. t && is_numbered 1 rn) (sym (cmp_reads op)))) e
each_emitter (I.StoreImm8 imm mem) x e v = as_found _ x refl e
each_emitter (I.StoreImm16 imm mem) x e v = as_found _ x (imm, refl) e
each_emitter (I.StoreImm32SExt16 imm mem) x e v = as_found _ x (imm, refl) e
each_emitter (I.StoreImm64SExt16 imm mem) x e v = as_found _ x (imm, refl) e
each_emitter (I.LoadMultiple64 rt rt2 mem) x e v = as_found _ x (rt, rt2, refl) e
each_emitter (I.StoreMultiple64 rt rt2 mem) x e v = as_found _ x (rt, rt2, refl) e
each_emitter (I.LoadAddr rd mem) x e v = as_found _ x (rd, refl, refl) e
each_emitter (I.AtomicRmw op rd rn mem) x e v = atomic_from (atomic_rsy op) rd rn mem x (atomic_reads op) e v
each_emitter (I.AtomicCas32 rd ri rn mem) x e v = swap_as (Some opcodes.CS) opcodes.CSY rd ri rn mem x refl refl e v
each_emitter (I.AtomicCas64 rd ri rn mem) x e v = swap_as None opcodes.CSG rd ri rn mem x refl refl e v
each_emitter (I.Vector w) x e v = vector_emitter w x e v
each_emitter i x e v = transfer_emitter_or (as_transfer i) x e
