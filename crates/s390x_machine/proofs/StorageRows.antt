-- The rows of the instructions with an operand in memory: each is listed, and does its instruction's operation.
use Rattle.std.proofs.Common.{◌≡◌, ℕ, Option, Some, None, true, ◌||◌, is_some, refl, cond, subst}
use Rattle.s390x_inst.specs.declared.ops.ALUOp.{ALUOp}
use Rattle.s390x_inst.specs.declared.ops.ALUOp.TheVariants as A
use Rattle.s390x_inst.specs.declared.ops.CmpOp.{CmpOp}
use Rattle.s390x_inst.specs.declared.ops.CmpOp.TheVariants as C
use Rattle.s390x_inst.specs.declared.load.LoadOp.{LoadOp}
use Rattle.s390x_inst.specs.declared.load.LoadOp.TheVariants as LoadOps
use Rattle.s390x_inst.specs.declared.store.StoreOp.{StoreOp}
use Rattle.s390x_inst.specs.declared.store.StoreOp.TheVariants as StoreOps
use Rattle.s390x_format.specs.declared.kind.FormatKind.TheVariants.{Rx, Rxy, Rs, Rsy, Si, Siy, Sil}
use Rattle.s390x_format.specs.declared.row.Allowed.TheVariants.{Any}
use Rattle.s390x_format.specs.Lookup.{row_for}
use Rattle.s390x_format.specs.Fetch.{machine_rows}
use Rattle.s390x_rows.specs.declared.opcodes.TheConstants as opcodes
use Rattle.s390x_typed_steps.specs.Storage.{alu_rx, alu_rxy, cmp_rx, cmp_rxy, cmp_ril, atomic_rsy}
use Rattle.s390x_typed_steps.specs.Memory.{load_rows, store_rows, RxForm, type_of}
use Rattle.s390x_operations.specs.declared.size.Size.{Size}
use Rattle.s390x_operations.specs.declared.size.Size.TheVariants.{Word, Doubleword}
use Rattle.s390x_operations.specs.declared.size.Width.TheVariants.{Bits16, Bits32, Bits64}
use Rattle.s390x_operations.specs.declared.operator.Operator.TheVariants.{Move}
use Rattle.s390x_operations.specs.declared.effect.CodeRule.TheVariants.{Kept}
use Rattle.s390x_format.specs.declared.semantics.RowSemantics.{RowSemantics}
use Rattle.s390x_format.specs.declared.semantics.RowSemantics.TheVariants.{Compute, Store, StoreByte, StoreImmediate, LoadMultiple, StoreMultiple, LoadAndOperate, CompareAndSwap}
use Rattle.s390x_format.specs.declared.semantics.OperandSource.TheVariants.{Indexed, IndexedAddress}
use Rattle.s390x_machine.specs.Computations.{Second, doubleword, alu_computation, alu_two_rule, comparison}
use Rattle.s390x_machine.specs.Storage.{loaded_value, stored_value, alu_forms, cmp_forms}
use Rattle.s390x_machine.specs.Semantics.{semantics_in, semantics_of}
use Rattle.s390x_machine.proofs.Listing.{Agrees, rows, OpcodeRow, OpcodeRows}
use Rattle.s390x_machine.proofs.SingleInstruction.{computed, compared_with, second_register}

-- the rows of 12 and of 20 bits of an instruction with a register
abbrev pub IndexedRows : (short long : Option ℕ) → RowSemantics → Type 0
IndexedRows short long semantics = OpcodeRows Rx 256 short semantics × OpcodeRows Rxy 65536 long semantics

-- the same with two registers and no index
abbrev pub BasedRows : (short long : Option ℕ) → RowSemantics → Type 0
BasedRows short long semantics = OpcodeRows Rs 256 short semantics × OpcodeRows Rsy 65536 long semantics

-- what a load and a store do
abbrev pub loading : Size → Second → RowSemantics
loading size s = Compute Move size (second_register Indexed s) Kept

abbrev pub storing : Second → RowSemantics
storing s = Store (second_register Indexed s)

-- ---- loads

pub load_indexed_rows : (op : LoadOp) → IndexedRows (load_rows op).rx (load_rows op).rxy (loading (loaded_value op).size (loaded_value op).second)
unfolding machine_rows row_for semantics_in semantics_of
load_indexed_rows op =
    let semantics : RowSemantics = loading (loaded_value op).size (loaded_value op).second in
    (rows (λ n. Rx) Any 256 (load_rows op).rx semantics refl (short op), rows (λ n. Rxy) Any 65536 (load_rows op).rxy semantics refl (long op))
  where
    short : (op : LoadOp) → Agrees (λ n. Rx) Any 256 (load_rows op).rx (loading (loaded_value op).size (loaded_value op).second)
    short LoadOps.Load64 = refl
    short _ = refl

    long : (op : LoadOp) → Agrees (λ n. Rxy) Any 65536 (load_rows op).rxy (loading (loaded_value op).size (loaded_value op).second)
    long LoadOps.Load64 = refl
    long _ = refl

pub load_address : IndexedRows (Some opcodes.LA) (Some opcodes.LAY) (Compute Move Doubleword (second_register IndexedAddress doubleword) Kept)
unfolding machine_rows row_for semantics_in semantics_of
load_address = ((record { is = refl }, refl), (record { is = refl }, refl))

-- ---- stores

pub store_indexed_rows : (op : StoreOp) → IndexedRows (store_rows op).rx (store_rows op).rxy (storing (stored_value op).second)
unfolding machine_rows row_for semantics_in semantics_of
store_indexed_rows op =
    let semantics : RowSemantics = storing (stored_value op).second in
    (rows (λ n. Rx) Any 256 (store_rows op).rx semantics refl (short op), rows (λ n. Rxy) Any 65536 (store_rows op).rxy semantics refl (long op))
  where
    short : (op : StoreOp) → Agrees (λ n. Rx) Any 256 (store_rows op).rx (storing (stored_value op).second)
    short StoreOps.Store64 = refl
    short _ = refl

    long : (op : StoreOp) → Agrees (λ n. Rxy) Any 65536 (store_rows op).rxy (storing (stored_value op).second)
    long StoreOps.Store64 = refl
    long _ = refl

pub store_byte : OpcodeRow Si 256 opcodes.MVI StoreByte × OpcodeRow Siy 65536 opcodes.MVIY StoreByte
unfolding machine_rows row_for semantics_in semantics_of
store_byte = ((record { is = refl }, refl), (record { is = refl }, refl))

pub store_immediate_16 : OpcodeRow Sil 65536 opcodes.MVHHI (StoreImmediate Bits16)
unfolding machine_rows row_for semantics_in semantics_of
store_immediate_16 = (record { is = refl }, refl)

pub store_immediate_32 : OpcodeRow Sil 65536 opcodes.MVHI (StoreImmediate Bits32)
unfolding machine_rows row_for semantics_in semantics_of
store_immediate_32 = (record { is = refl }, refl)

pub store_immediate_64 : OpcodeRow Sil 65536 opcodes.MVGHI (StoreImmediate Bits64)
unfolding machine_rows row_for semantics_in semantics_of
store_immediate_64 = (record { is = refl }, refl)

-- ---- two registers

pub load_multiple : BasedRows None (Some opcodes.LMG) LoadMultiple
unfolding machine_rows row_for semantics_in semantics_of
load_multiple = (tt, (record { is = refl }, refl))

pub store_multiple : BasedRows None (Some opcodes.STMG) StoreMultiple
unfolding machine_rows row_for semantics_in semantics_of
store_multiple = (tt, (record { is = refl }, refl))

pub swap_32 : BasedRows (Some opcodes.CS) (Some opcodes.CSY) (CompareAndSwap Word)
unfolding machine_rows row_for semantics_in semantics_of
swap_32 = ((record { is = refl }, refl), (record { is = refl }, refl))

pub swap_64 : BasedRows None (Some opcodes.CSG) (CompareAndSwap Doubleword)
unfolding machine_rows row_for semantics_in semantics_of
swap_64 = (tt, (record { is = refl }, refl))

-- ---- operators

pub alu_short_rows : (op : ALUOp) → OpcodeRows Rx 256 (alu_rx op) (computed (alu_computation op) Indexed (alu_two_rule op))
unfolding machine_rows row_for semantics_in semantics_of
alu_short_rows op = rows (λ n. Rx) Any 256 (alu_rx op) (computed (alu_computation op) Indexed (alu_two_rule op)) refl (agrees op)
  where
    agrees : (op : ALUOp) → Agrees (λ n. Rx) Any 256 (alu_rx op) (computed (alu_computation op) Indexed (alu_two_rule op))
    agrees A.Add32 = refl
    agrees _ = refl

pub alu_long_rows : (op : ALUOp) → OpcodeRows Rxy 65536 (alu_rxy op) (computed (alu_computation op) Indexed (alu_two_rule op))
unfolding machine_rows row_for semantics_in semantics_of
alu_long_rows op = rows (λ n. Rxy) Any 65536 (alu_rxy op) (computed (alu_computation op) Indexed (alu_two_rule op)) refl (agrees op)
  where
    agrees : (op : ALUOp) → Agrees (λ n. Rxy) Any 65536 (alu_rxy op) (computed (alu_computation op) Indexed (alu_two_rule op))
    agrees A.Add32 = refl
    agrees _ = refl

pub cmp_short_rows : (op : CmpOp) → OpcodeRows Rx 256 (cmp_rx op) (compared_with Indexed (comparison op))
unfolding machine_rows row_for semantics_in semantics_of
cmp_short_rows op = rows (λ n. Rx) Any 256 (cmp_rx op) (compared_with Indexed (comparison op)) refl (agrees op)
  where
    agrees : (op : CmpOp) → Agrees (λ n. Rx) Any 256 (cmp_rx op) (compared_with Indexed (comparison op))
    agrees C.CmpS32 = refl
    agrees _ = refl

pub cmp_long_rows : (op : CmpOp) → OpcodeRows Rxy 65536 (cmp_rxy op) (compared_with Indexed (comparison op))
unfolding machine_rows row_for semantics_in semantics_of
cmp_long_rows op = rows (λ n. Rxy) Any 65536 (cmp_rxy op) (compared_with Indexed (comparison op)) refl (agrees op)
  where
    agrees : (op : CmpOp) → Agrees (λ n. Rxy) Any 65536 (cmp_rxy op) (compared_with Indexed (comparison op))
    agrees C.CmpS32 = refl
    agrees _ = refl

pub atomic_rows : (op : ALUOp) → OpcodeRows Rsy 65536 (atomic_rsy op) (LoadAndOperate (alu_computation op).operator (alu_computation op).size)
unfolding machine_rows row_for semantics_in semantics_of
atomic_rows op = rows (λ n. Rsy) Any 65536 (atomic_rsy op) (LoadAndOperate (alu_computation op).operator (alu_computation op).size) refl (agrees op)
  where
    agrees : (op : ALUOp) → Agrees (λ n. Rsy) Any 65536 (atomic_rsy op) (LoadAndOperate (alu_computation op).operator (alu_computation op).size)
    agrees A.Add32 = refl
    agrees _ = refl

-- ---- the forms of an operand that the step knows are those of the rows

pub alu_same : (op : ALUOp) (d : ℕ) → (is_some (alu_rx op) || is_some (alu_rxy op)) ≡ true → alu_forms op ≡ type_of (RxForm d (alu_rx op) (alu_rxy op) None) true
alu_same op d e = subst (λ b. cond b (alu_forms op) (alu_forms op) ≡ cond b (type_of (RxForm d (alu_rx op) (alu_rxy op) None) true) (alu_forms op)) e (same op)
  where
    same : (op : ALUOp) → cond (is_some (alu_rx op) || is_some (alu_rxy op)) (alu_forms op) (alu_forms op) ≡ cond (is_some (alu_rx op) || is_some (alu_rxy op)) (type_of (RxForm d (alu_rx op) (alu_rxy op) None) true) (alu_forms op)
    same A.Add32 = refl
    same _ = refl

pub cmp_same : (op : CmpOp) (n : ℕ) → cmp_forms op ≡ type_of (RxForm n (cmp_rx op) (cmp_rxy op) (Some (cmp_ril op))) true
cmp_same C.CmpS32 n = refl
cmp_same _ n = refl
