-- The rows that are relative to the instruction: each is listed, and does its instruction's operation.
use Rattle.std.proofs.Common.{ℕ, Option, Some, refl}
use Rattle.s390x_inst.specs.declared.ops.CmpOp.{CmpOp}
use Rattle.s390x_inst.specs.declared.ops.CmpOp.TheVariants as C
use Rattle.s390x_inst.specs.declared.load.LoadOp.{LoadOp}
use Rattle.s390x_inst.specs.declared.load.LoadOp.TheVariants as LoadOps
use Rattle.s390x_inst.specs.declared.store.StoreOp.{StoreOp}
use Rattle.s390x_inst.specs.declared.store.StoreOp.TheVariants as StoreOps
use Rattle.s390x_format.specs.declared.kind.FormatKind.TheVariants.{RilB}
use Rattle.s390x_format.specs.declared.row.Allowed.TheVariants.{Any}
use Rattle.s390x_format.specs.Lookup.{row_for}
use Rattle.s390x_format.specs.Fetch.{machine_rows}
use Rattle.s390x_rows.specs.declared.opcodes.TheConstants as opcodes
use Rattle.s390x_typed_steps.specs.Memory.{load_rows, store_rows}
use Rattle.s390x_typed_steps.specs.Storage.{cmp_ril}
use Rattle.s390x_operations.specs.declared.size.Size.{Size}
use Rattle.s390x_operations.specs.declared.size.Size.TheVariants.{Doubleword}
use Rattle.s390x_operations.specs.declared.operator.Operator.TheVariants.{Move}
use Rattle.s390x_operations.specs.declared.effect.CodeRule.TheVariants.{Kept}
use Rattle.s390x_format.specs.declared.semantics.RowSemantics.{RowSemantics}
use Rattle.s390x_format.specs.declared.semantics.RowSemantics.TheVariants.{Compute, Store}
use Rattle.s390x_format.specs.declared.semantics.OperandSource.TheVariants.{Relative, RelativeAddress}
use Rattle.s390x_machine.specs.Computations.{Second, doubleword, comparison}
use Rattle.s390x_machine.specs.Semantics.{semantics_in, semantics_of}
use Rattle.s390x_machine.specs.Storage.{loaded_value, stored_value}
use Rattle.s390x_machine.proofs.Listing.{Agrees, rows, OpcodeRows}
use Rattle.s390x_machine.proofs.SingleInstruction.{compared_with, second_register}

-- the row of an instruction, where it has one
abbrev pub RelativeRows : Option ℕ → RowSemantics → Type 0
RelativeRows opcode semantics = OpcodeRows RilB 4096 opcode semantics

-- what a load and a store do
abbrev pub relative_loading : Size → Second → RowSemantics
relative_loading size s = Compute Move size (second_register Relative s) Kept

abbrev pub relative_storing : Second → RowSemantics
relative_storing s = Store (second_register Relative s)

pub relative_load_rows : (op : LoadOp) → RelativeRows (load_rows op).ril (relative_loading (loaded_value op).size (loaded_value op).second)
unfolding machine_rows row_for semantics_in semantics_of
relative_load_rows op = rows (λ n. RilB) Any 4096 (load_rows op).ril (relative_loading (loaded_value op).size (loaded_value op).second) refl (agrees op)
  where
    agrees : (op : LoadOp) → Agrees (λ n. RilB) Any 4096 (load_rows op).ril (relative_loading (loaded_value op).size (loaded_value op).second)
    agrees LoadOps.Load64 = refl
    agrees _ = refl

pub relative_address_row : RelativeRows (Some opcodes.LARL) (Compute Move Doubleword (second_register RelativeAddress doubleword) Kept)
unfolding machine_rows row_for semantics_in semantics_of
relative_address_row = (record { is = refl }, refl)

pub relative_store_rows : (op : StoreOp) → RelativeRows (store_rows op).ril (relative_storing (stored_value op).second)
unfolding machine_rows row_for semantics_in semantics_of
relative_store_rows op = rows (λ n. RilB) Any 4096 (store_rows op).ril (relative_storing (stored_value op).second) refl (agrees op)
  where
    agrees : (op : StoreOp) → Agrees (λ n. RilB) Any 4096 (store_rows op).ril (relative_storing (stored_value op).second)
    agrees StoreOps.Store64 = refl
    agrees _ = refl

pub cmp_relative_rows : (op : CmpOp) → RelativeRows (Some (cmp_ril op)) (compared_with Relative (comparison op))
unfolding machine_rows row_for semantics_in semantics_of
cmp_relative_rows op = rows (λ n. RilB) Any 4096 (Some (cmp_ril op)) (compared_with Relative (comparison op)) refl (agrees op)
  where
    agrees : (op : CmpOp) → Agrees (λ n. RilB) Any 4096 (Some (cmp_ril op)) (compared_with Relative (comparison op))
    agrees C.CmpS32 = refl
    agrees _ = refl
