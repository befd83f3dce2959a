-- The rows on vector registers and immediates: each is listed, allows its masks, and its operation is its instruction's. One equation an operator.
use Rattle.std.proofs.Common.{◌≡◌, ℕ, suc, ◌+◌, ◌*◌, ◌<◌, ◌^◌, ◌==◌, ◌&&◌, [], ◌∷◌, slice_index, ◌⊎◌, inl, inr, Option, Some, None, Bool, true, false, cond, pos, ◌-ℤ◌, refl, sym, ap, ◌∙◌, subst, arith, nat_lt, nat_le, nat_eq, ltb-true, eqb-true}
use Rattle.std.proofs.lemmas.Bool.{lt-ltb, le-leb}
use Rattle.s390x_inst.specs.declared.vec_ops.VecBinaryOp.{VecBinaryOp}
use Rattle.s390x_inst.specs.declared.vec_ops.VecBinaryOp.TheVariants as B
use Rattle.s390x_inst.specs.declared.vec_ops.VecUnaryOp.{VecUnaryOp}
use Rattle.s390x_inst.specs.declared.vec_ops.VecUnaryOp.TheVariants as U
use Rattle.s390x_inst.specs.declared.vec_ops.VecShiftOp.{VecShiftOp}
use Rattle.s390x_inst.specs.declared.vec_ops.VecShiftOp.TheVariants as S
use Rattle.s390x_inst.specs.declared.vec_ops.VecIntCmpOp.{VecIntCmpOp}
use Rattle.s390x_inst.specs.declared.vec_ops.VecIntCmpOp.TheVariants as C
use Rattle.s390x_inst.specs.declared.vec_ops.VecIntEltCmpOp.{VecIntEltCmpOp}
use Rattle.s390x_inst.specs.declared.vec_ops.VecIntEltCmpOp.TheVariants as E
use Rattle.s390x_format.specs.declared.kind.FormatKind.TheVariants.{Rr, Rre, VriA, VriB, VriC, VriK, VrrA, VrrB, VrrC, VrrD, VrrE, VrrF, VrsA, VrsB, VrsC}
use Rattle.s390x_format.specs.declared.row.Allowed.{Allowed}
use Rattle.s390x_format.specs.declared.row.Allowed.TheVariants.{Any, FirstMask}
use Rattle.s390x_format.specs.Rows.{is_allowed}
use Rattle.s390x_format.specs.Lookup.{row_for}
use Rattle.s390x_format.specs.Fetch.{machine_rows}
use Rattle.s390x_format.specs.Fits.{fields_from}
use Rattle.s390x_format.specs.Formats.{layout_of}
use Rattle.s390x_format.specs.Layout.{SlotsFit}
use Rattle.s390x_format.specs.View.{fields_of, disp_of}
use Rattle.s390x_lanes.specs.Rows.{operation_of, with_immediate, immediate_bits, no_vector_row}
use Rattle.s390x_lanes.specs.declared.operators.VectorOperation.{VectorOperation}
use Rattle.s390x_lanes.specs.declared.operators.VectorOperation.TheVariants.{Select, Permute, Blend, Move, Evaluate, PermuteDoublewords, ByteMask, ReplicateImmediate, BitMask, Replicate, InsertImmediate, CompareElement}
use Rattle.s390x_lanes.specs.declared.operators.VectorOperation.TheVariants as O
use Rattle.s390x_lanes.specs.declared.operators.Signedness.TheVariants.{Signed, Unsigned}
use Rattle.s390x_lanes.specs.declared.row.VectorRow.{VectorRow}
use Rattle.s390x_lanes.specs.declared.size.ElementSize.{ElementSize}
use Rattle.s390x_lanes.specs.declared.size.ElementSize.TheVariants.{Byte, Halfword, Word, Doubleword, Quadword}
use Rattle.s390x_rows.specs.declared.opcodes.TheConstants as opcodes
use Rattle.s390x_typed_steps.specs.MachineInstruction.{MachineInstruction, vri_a, vri_b, vri_c, vri_k, vrr_a, vrr_b, vrr_c, vrr_d, vrr_e, vrr_f, vrs_a, vrs_b, vrs_c}
use Rattle.s390x_lanes.specs.Size.{element_bits, lane_count}
use Rattle.s390x_typed_steps.specs.VectorInstruction.{element_code, is_lane, insert_immediate_opcode}
use Rattle.s390x_typed_steps.specs.VectorOpcodes.{binary_row, unary_row, shift_row, comparison_row, element_comparison_row}
use Rattle.s390x_format.specs.declared.semantics.RowSemantics.{RowSemantics}
use Rattle.s390x_format.specs.declared.semantics.RowSemantics.TheVariants.{Elements, JoinRegisters, MoveLeft, RegisterToLeft, LeftToRegister, InsertElement, ExtractElement}
use Rattle.s390x_format.specs.declared.semantics.RowSemantics.TheVariants as Row
use Rattle.s390x_machine.specs.Semantics.{semantics_in, semantics_of}
use Rattle.s390x_machine.specs.VectorOperations.{binary_operation, unary_operation, shift_operator, shifted_elements, comparison_operation, element_comparison}
use Rattle.s390x_machine.specs.VectorSteps.{elements_of}
use Rattle.s390x_machine.proofs.Listing.{Entry, entry, wanted, Listed, Meant, Agrees, rows}

abbrev pub opcode_in : MachineInstruction → ℕ
opcode_in x = slice_index x.slots 0

abbrev pub allowed_in : MachineInstruction → Allowed
allowed_in x = (row_for machine_rows (opcode_in x)).allowed

-- what the semantics say of vector registers
abbrev row_in : Option RowSemantics → VectorRow
row_in (Some (Elements row)) = row
row_in (Some (Row.ShiftElements row)) = row
row_in _ = no_vector_row

-- the same of an opcode; unfoldable, so that goals don't hold the table
unfoldable pub vector_row_of : ℕ → VectorRow
vector_row_of opcode = row_in (semantics_of opcode)

-- what the table says of a machine instruction on vectors
pub record VectorEntry : Type 0 where
  pub listed : Entry
  pub allows : Bool
  pub operation : Option VectorOperation
  pub few : Bool

abbrev pub vector_entry : (code : ℕ) → MachineInstruction → VectorEntry
vector_entry code x = record {
  listed = entry 65536 (opcode_in x);
  allows = is_allowed (allowed_in x) x.slots;
  operation = operation_of (vector_row_of (opcode_in x)) (fields_of x.format x.slots).masks (fields_of x.format x.slots).imm;
  few = nat_lt code 16;
}

abbrev pub wanted_entry : MachineInstruction → VectorOperation → VectorEntry
wanted_entry x o = record {
  listed = wanted x.format (allowed_in x) (opcode_in x) (Elements (vector_row_of (opcode_in x)));
  allows = true;
  operation = Some o;
  few = true;
}

-- it is listed as a row on vector registers, which allows its masks and does this operation; its code of the elements' size has four bits
pub record ElementsRow (code : ℕ) (x : MachineInstruction) (o : VectorOperation) : Type 0 where
  pub is : vector_entry code x ≡ wanted_entry x o

pub elements_listed : {code : ℕ} {x : MachineInstruction} {o : VectorOperation} → ElementsRow code x o → Listed x.format (allowed_in x) 65536 (opcode_in x) (Elements (vector_row_of (opcode_in x)))
elements_listed row = record { is = ap (λ (e : VectorEntry). e.listed) row.is }

pub elements_allowed : {code : ℕ} {x : MachineInstruction} {o : VectorOperation} → ElementsRow code x o → is_allowed (allowed_in x) x.slots ≡ true
elements_allowed row = ap (λ (e : VectorEntry). e.allows) row.is

pub elements_operation : {code : ℕ} {x : MachineInstruction} {o : VectorOperation} → ElementsRow code x o → operation_of (vector_row_of (opcode_in x)) (fields_of x.format x.slots).masks (fields_of x.format x.slots).imm ≡ Some o
elements_operation row = ap (λ (e : VectorEntry). e.operation) row.is

pub elements_few : {code : ℕ} {x : MachineInstruction} {o : VectorOperation} → ElementsRow code x o → code < 16
elements_few {code = code} row = ltb-true code 16 (ap (λ (e : VectorEntry). e.few) row.is)

-- by its parts
entry_of : (code : ℕ) (x : MachineInstruction) (o : VectorOperation) → entry 65536 (opcode_in x) ≡ wanted x.format (allowed_in x) (opcode_in x) (Elements (vector_row_of (opcode_in x))) → is_allowed (allowed_in x) x.slots ≡ true → operation_of (vector_row_of (opcode_in x)) (fields_of x.format x.slots).masks (fields_of x.format x.slots).imm ≡ Some o → nat_lt code 16 ≡ true → ElementsRow code x o
entry_of code x o listed allows operation few = record { is = λ i. record { listed = listed i; allows = allows i; operation = operation i; few = few i } }

-- an immediate of 16 bits is read as it is
sixteen_bits : (bits : ℕ) → bits < 65536 → immediate_bits (pos bits) ≡ Some bits
sixteen_bits bits lt = ap (λ t. cond t (Some bits) None) (lt-ltb bits 65536 lt)

-- a displacement of 12 bits is read as it is
pub small_displacement : (d : ℕ) → d < 4096 → disp_of d ≡ pos d
small_displacement d lt = ap (λ t. cond t (pos d) (pos d -ℤ pos (2 ^ 20))) (lt-ltb d (2 ^ 19) (omega (arith, lt)))

-- ---- sizes of 8 to 64 bits

abbrev pub code_of_size : ElementSize → ℕ
code_of_size Byte = 0
code_of_size Halfword = 1
code_of_size Word = 2
code_of_size Doubleword = 3
code_of_size Quadword = 4

abbrev pub IsNarrow : ElementSize → Type 0
IsNarrow Quadword = ⊥
IsNarrow _ = Unit {0}

-- the size's elements, and their code
pub record Sized (size : ℕ) (e : ElementSize) : Type 0 where
  pub code : element_code size ≡ Some (code_of_size e)
  pub elements : elements_of size ≡ e
  pub bits : size ≡ element_bits e
  pub narrow : IsNarrow e

abbrev pub HasSize : ℕ → Type 0
HasSize size = (element_code size ≡ None) ⊎ ((e : ElementSize) × Sized size e)

-- a lane's number is below their count
pub lane_within : {size : ℕ} {e : ElementSize} → Sized size e → (lane : ℕ) → is_lane size lane ≡ true → lane < lane_count e
lane_within {size = size} {e = e} z lane h = go e z.narrow (subst (λ w. lane * w < 128) z.bits (ltb-true (lane * size) 128 h))
  where
    go : (e : ElementSize) → IsNarrow e → lane * element_bits e < 128 → lane < lane_count e
    go Byte narrow lt = omega (arith, lt)
    go Halfword narrow lt = omega (arith, lt)
    go Word narrow lt = omega (arith, lt)
    go Doubleword narrow lt = omega (arith, lt)
    go Quadword narrow lt = absurd narrow

pub size_of_elements : (size : ℕ) → HasSize size
size_of_elements size = go (nat_eq size 8) refl (nat_eq size 16) refl (nat_eq size 32) refl (nat_eq size 64) refl
  where
    go : (a : Bool) → nat_eq size 8 ≡ a → (b : Bool) → nat_eq size 16 ≡ b → (c : Bool) → nat_eq size 32 ≡ c → (d : Bool) → nat_eq size 64 ≡ d → HasSize size
    go true e b f c g d h = subst HasSize (sym (eqb-true size 8 e)) (inr (Byte, record { code = refl; elements = refl; bits = refl; narrow = tt }))
    go false e true f c g d h = subst HasSize (sym (eqb-true size 16 f)) (inr (Halfword, record { code = refl; elements = refl; bits = refl; narrow = tt }))
    go false e false f true g d h = subst HasSize (sym (eqb-true size 32 g)) (inr (Word, record { code = refl; elements = refl; bits = refl; narrow = tt }))
    go false e false f false g true h = subst HasSize (sym (eqb-true size 64 h)) (inr (Doubleword, record { code = refl; elements = refl; bits = refl; narrow = tt }))
    go false e false f false g false h =
        inl (ap (λ t. cond t (Some 0) (cond (nat_eq size 16) (Some 1) (cond (nat_eq size 32) (Some 2) (cond (nat_eq size 64) (Some 3) None)))) e
        ∙ ap (λ t. cond t (Some 1) (cond (nat_eq size 32) (Some 2) (cond (nat_eq size 64) (Some 3) None))) f
        ∙ ap (λ t. cond t (Some 2) (cond (nat_eq size 64) (Some 3) None)) g
        ∙ ap (λ t. cond t (Some 3) None) h)

-- ---- the tables of operators

abbrev pub binary_instruction : VecBinaryOp → (d n m : ℕ) → MachineInstruction
binary_instruction op d n m = vrr_c (binary_row op).opcode d n m (binary_row op).code

pub binary_rows : (op : VecBinaryOp) (d n m : ℕ) → ElementsRow (binary_row op).code (binary_instruction op d n m) (binary_operation op)
unfolding machine_rows row_for semantics_in semantics_of operation_of vector_row_of
binary_rows op d n m = record { is = agrees op }
  where
    agrees : (op : VecBinaryOp) → vector_entry (binary_row op).code (binary_instruction op d n m) ≡ wanted_entry (binary_instruction op d n m) (binary_operation op)
    agrees B.Add8x16 = refl
    agrees _ = refl

abbrev pub unary_instruction : VecUnaryOp → (d n : ℕ) → MachineInstruction
unary_instruction op d n = vrr_a (unary_row op).opcode d n (unary_row op).code

pub unary_rows : (op : VecUnaryOp) (d n : ℕ) → ElementsRow (unary_row op).code (unary_instruction op d n) (unary_operation op)
unfolding machine_rows row_for semantics_in semantics_of operation_of vector_row_of
unary_rows op d n = record { is = agrees op }
  where
    agrees : (op : VecUnaryOp) → vector_entry (unary_row op).code (unary_instruction op d n) ≡ wanted_entry (unary_instruction op d n) (unary_operation op)
    agrees U.Abs8x16 = refl
    agrees _ = refl

abbrev pub comparison_instruction : VecIntCmpOp → (d n m asks : ℕ) → MachineInstruction
comparison_instruction op d n m asks = vrr_b (comparison_row op).opcode d n m (comparison_row op).code asks

pub comparison_rows : (op : VecIntCmpOp) (d n m : ℕ) → ElementsRow (comparison_row op).code (comparison_instruction op d n m 0) (comparison_operation op false)
unfolding machine_rows row_for semantics_in semantics_of operation_of vector_row_of
comparison_rows op d n m = record { is = agrees op }
  where
    agrees : (op : VecIntCmpOp) → vector_entry (comparison_row op).code (comparison_instruction op d n m 0) ≡ wanted_entry (comparison_instruction op d n m 0) (comparison_operation op false)
    agrees C.CmpEq8x16 = refl
    agrees _ = refl

pub asking_rows : (op : VecIntCmpOp) (d n m : ℕ) → ElementsRow (comparison_row op).code (comparison_instruction op d n m 1) (comparison_operation op true)
unfolding machine_rows row_for semantics_in semantics_of operation_of vector_row_of
asking_rows op d n m = record { is = agrees op }
  where
    agrees : (op : VecIntCmpOp) → vector_entry (comparison_row op).code (comparison_instruction op d n m 1) ≡ wanted_entry (comparison_instruction op d n m 1) (comparison_operation op true)
    agrees C.CmpEq8x16 = refl
    agrees _ = refl

abbrev pub element_instruction : VecIntEltCmpOp → (n m : ℕ) → MachineInstruction
element_instruction op n m = vrr_a (element_comparison_row op).opcode n m (element_comparison_row op).code

pub element_rows : (op : VecIntEltCmpOp) (n m : ℕ) → ElementsRow (element_comparison_row op).code (element_instruction op n m) (element_comparison op)
unfolding machine_rows row_for semantics_in semantics_of operation_of vector_row_of
element_rows op n m = record { is = agrees op }
  where
    agrees : (op : VecIntEltCmpOp) → vector_entry (element_comparison_row op).code (element_instruction op n m) ≡ wanted_entry (element_instruction op n m) (element_comparison op)
    agrees E.SCmp128 = refl
    agrees E.UCmp128 = refl

-- ---- rows of one opcode

-- a comparison of the leftmost doublewords, with a sign or without
pub compare_signed_row : (n m : ℕ) → ElementsRow 3 (vrr_a opcodes.VEC n m 3) (CompareElement Signed Doubleword)
unfolding machine_rows row_for semantics_in semantics_of operation_of vector_row_of
compare_signed_row n m = record { is = refl }

pub compare_unsigned_row : (n m : ℕ) → ElementsRow 3 (vrr_a opcodes.VECL n m 3) (CompareElement Unsigned Doubleword)
unfolding machine_rows row_for semantics_in semantics_of operation_of vector_row_of
compare_unsigned_row n m = record { is = refl }

pub select_row : (d n m a : ℕ) → ElementsRow 0 (vrr_e opcodes.VSEL d n m a) Select
unfolding machine_rows row_for semantics_in semantics_of operation_of vector_row_of
select_row d n m a = record { is = refl }

pub permute_row : (d n m a : ℕ) → ElementsRow 0 (vrr_e opcodes.VPERM d n m a) Permute
unfolding machine_rows row_for semantics_in semantics_of operation_of vector_row_of
permute_row d n m a = record { is = refl }

pub blend_row : (d n m a : ℕ) → ElementsRow 0 (vrr_d opcodes.VBLEND d n m a 0) Blend
unfolding machine_rows row_for semantics_in semantics_of operation_of vector_row_of
blend_row d n m a = record { is = refl }

pub move_row : (d n : ℕ) → ElementsRow 0 (vrr_a opcodes.VLR d n 0) Move
unfolding machine_rows row_for semantics_in semantics_of operation_of vector_row_of
move_row d n = record { is = refl }

pub evaluate_row : (imm d n m a : ℕ) → imm < 256 → ElementsRow 0 (vri_k opcodes.VEVAL imm d n m a) (Evaluate imm)
unfolding machine_rows row_for semantics_in semantics_of operation_of vector_row_of
evaluate_row imm d n m a lt =
    entry_of 0 (vri_k opcodes.VEVAL imm d n m a) (Evaluate imm) refl refl
    (ap (λ t. cond ((t && nat_le imm 255) && (0 == 0) && (0 == 0) && (0 == 0)) (Some (Evaluate imm)) None) (le-leb 0 imm (omega arith))
    ∙ ap (λ t. cond ((true && t) && (0 == 0) && (0 == 0) && (0 == 0)) (Some (Evaluate imm)) None) (le-leb imm 255 (omega (arith, lt)))) refl

-- two doublewords, each by its number 0 or 1
pub doublewords_rows : (d n m first second : ℕ) → first < 2 → second < 2 → ElementsRow (4 * first + second) (vrr_c opcodes.VPDI d n m (4 * first + second)) (PermuteDoublewords first second)
unfolding machine_rows row_for semantics_in semantics_of operation_of vector_row_of
doublewords_rows d n m (suc (suc i)) second lf ls = absurd (omega (arith, lf))
doublewords_rows d n m first (suc (suc i)) lf ls = absurd (omega (arith, ls))
doublewords_rows d n m first second lf ls = record { is = refl }

pub byte_mask_row : (d mask : ℕ) → mask < 65536 → ElementsRow 0 (vri_a opcodes.VGBM d mask 0) (ByteMask mask)
unfolding machine_rows row_for semantics_in semantics_of operation_of vector_row_of
byte_mask_row d mask lt = entry_of 0 (vri_a opcodes.VGBM d mask 0) (ByteMask mask) refl refl (ap (λ k. with_immediate (vector_row_of opcodes.VGBM) (0 ∷ 0 ∷ 0 ∷ []) k) (sixteen_bits mask lt)) refl

-- an immediate in each element
pub replicate_rows : (e : ElementSize) → IsNarrow e → (d bits : ℕ) → bits < 65536 → ElementsRow (code_of_size e) (vri_a opcodes.VREPI d bits (code_of_size e)) (ReplicateImmediate e bits)
unfolding machine_rows row_for semantics_in semantics_of operation_of vector_row_of
replicate_rows Byte narrow d bits lt = entry_of 0 (vri_a opcodes.VREPI d bits 0) (ReplicateImmediate Byte bits) refl refl (ap (λ k. with_immediate (vector_row_of opcodes.VREPI) (0 ∷ 0 ∷ 0 ∷ []) k) (sixteen_bits bits lt)) refl
replicate_rows Halfword narrow d bits lt = entry_of 1 (vri_a opcodes.VREPI d bits 1) (ReplicateImmediate Halfword bits) refl refl (ap (λ k. with_immediate (vector_row_of opcodes.VREPI) (1 ∷ 0 ∷ 0 ∷ []) k) (sixteen_bits bits lt)) refl
replicate_rows Word narrow d bits lt = entry_of 2 (vri_a opcodes.VREPI d bits 2) (ReplicateImmediate Word bits) refl refl (ap (λ k. with_immediate (vector_row_of opcodes.VREPI) (2 ∷ 0 ∷ 0 ∷ []) k) (sixteen_bits bits lt)) refl
replicate_rows Doubleword narrow d bits lt = entry_of 3 (vri_a opcodes.VREPI d bits 3) (ReplicateImmediate Doubleword bits) refl refl (ap (λ k. with_immediate (vector_row_of opcodes.VREPI) (3 ∷ 0 ∷ 0 ∷ []) k) (sixteen_bits bits lt)) refl
replicate_rows Quadword narrow d bits lt = absurd narrow

-- one element for all
pub lane_rows : (e : ElementSize) → IsNarrow e → (d n lane : ℕ) → lane < lane_count e → ElementsRow (code_of_size e) (vri_c opcodes.VREP d n lane (code_of_size e)) (Replicate e lane)
unfolding machine_rows row_for semantics_in semantics_of operation_of vector_row_of
lane_rows Byte narrow d n lane lt =
    entry_of 0 (vri_c opcodes.VREP d n lane 0) (Replicate Byte lane) refl (lt-ltb lane 16 lt)
    (ap (λ k. with_immediate (vector_row_of opcodes.VREP) (0 ∷ 0 ∷ 0 ∷ []) k) (sixteen_bits lane (omega (arith, lt))) ∙ ap (λ t. cond t (Some (Replicate Byte lane)) None) (lt-ltb lane 16 lt)) refl
lane_rows Halfword narrow d n lane lt =
    entry_of 1 (vri_c opcodes.VREP d n lane 1) (Replicate Halfword lane) refl (lt-ltb lane 8 lt)
    (ap (λ k. with_immediate (vector_row_of opcodes.VREP) (1 ∷ 0 ∷ 0 ∷ []) k) (sixteen_bits lane (omega (arith, lt))) ∙ ap (λ t. cond t (Some (Replicate Halfword lane)) None) (lt-ltb lane 8 lt)) refl
lane_rows Word narrow d n lane lt =
    entry_of 2 (vri_c opcodes.VREP d n lane 2) (Replicate Word lane) refl (lt-ltb lane 4 lt)
    (ap (λ k. with_immediate (vector_row_of opcodes.VREP) (2 ∷ 0 ∷ 0 ∷ []) k) (sixteen_bits lane (omega (arith, lt))) ∙ ap (λ t. cond t (Some (Replicate Word lane)) None) (lt-ltb lane 4 lt)) refl
lane_rows Doubleword narrow d n lane lt =
    entry_of 3 (vri_c opcodes.VREP d n lane 3) (Replicate Doubleword lane) refl (lt-ltb lane 2 lt)
    (ap (λ k. with_immediate (vector_row_of opcodes.VREP) (3 ∷ 0 ∷ 0 ∷ []) k) (sixteen_bits lane (omega (arith, lt))) ∙ ap (λ t. cond t (Some (Replicate Doubleword lane)) None) (lt-ltb lane 2 lt)) refl
lane_rows Quadword narrow d n lane lt = absurd narrow

-- ones from a bit to another one
pub bit_mask_rows : (e : ElementSize) → IsNarrow e → (d start end : ℕ) → start < element_bits e → end < element_bits e → ElementsRow (code_of_size e) (vri_b opcodes.VGM d start end (code_of_size e)) (BitMask e start end)
unfolding machine_rows row_for semantics_in semantics_of operation_of vector_row_of
bit_mask_rows Byte narrow d start end ls le =
    entry_of 0 (vri_b opcodes.VGM d start end 0) (BitMask Byte start end) refl (ap (λ t. t && nat_lt end 8) (lt-ltb start 8 ls) ∙ lt-ltb end 8 le)
    (ap (λ t. cond (t && nat_lt end 8) (Some (BitMask Byte start end)) None) (lt-ltb start 8 ls) ∙ ap (λ t. cond t (Some (BitMask Byte start end)) None) (lt-ltb end 8 le)) refl
bit_mask_rows Halfword narrow d start end ls le =
    entry_of 1 (vri_b opcodes.VGM d start end 1) (BitMask Halfword start end) refl (ap (λ t. t && nat_lt end 16) (lt-ltb start 16 ls) ∙ lt-ltb end 16 le)
    (ap (λ t. cond (t && nat_lt end 16) (Some (BitMask Halfword start end)) None) (lt-ltb start 16 ls) ∙ ap (λ t. cond t (Some (BitMask Halfword start end)) None) (lt-ltb end 16 le)) refl
bit_mask_rows Word narrow d start end ls le =
    entry_of 2 (vri_b opcodes.VGM d start end 2) (BitMask Word start end) refl (ap (λ t. t && nat_lt end 32) (lt-ltb start 32 ls) ∙ lt-ltb end 32 le)
    (ap (λ t. cond (t && nat_lt end 32) (Some (BitMask Word start end)) None) (lt-ltb start 32 ls) ∙ ap (λ t. cond t (Some (BitMask Word start end)) None) (lt-ltb end 32 le)) refl
bit_mask_rows Doubleword narrow d start end ls le =
    entry_of 3 (vri_b opcodes.VGM d start end 3) (BitMask Doubleword start end) refl (ap (λ t. t && nat_lt end 64) (lt-ltb start 64 ls) ∙ lt-ltb end 64 le)
    (ap (λ t. cond (t && nat_lt end 64) (Some (BitMask Doubleword start end)) None) (lt-ltb start 64 ls) ∙ ap (λ t. cond t (Some (BitMask Doubleword start end)) None) (lt-ltb end 64 le)) refl
bit_mask_rows Quadword narrow d start end ls le = absurd narrow

-- an immediate in one element
pub insert_rows : (e : ElementSize) → IsNarrow e → (d bits lane : ℕ) → bits < 65536 → lane < lane_count e → ElementsRow lane (vri_a (insert_immediate_opcode (code_of_size e)) d bits lane) (InsertImmediate e bits lane)
unfolding machine_rows row_for semantics_in semantics_of operation_of vector_row_of
insert_rows Byte narrow d bits lane lb lt =
    entry_of lane (vri_a opcodes.VLEIB d bits lane) (InsertImmediate Byte bits lane) refl
    (ap (λ t. (t && nat_le lane 15) && true && true) (le-leb 0 lane (omega arith)) ∙ ap (λ t. (true && t) && true && true) (le-leb lane 15 (omega (arith, lt))))
    (ap (λ k. with_immediate (vector_row_of opcodes.VLEIB) (lane ∷ 0 ∷ 0 ∷ []) k) (sixteen_bits bits lb)
    ∙ ap (λ t. cond ((t && nat_le lane 15) && true && true) (cond (nat_lt lane 16) (Some (InsertImmediate Byte bits lane)) None) None) (le-leb 0 lane (omega arith))
    ∙ ap (λ t. cond ((true && t) && true && true) (cond (nat_lt lane 16) (Some (InsertImmediate Byte bits lane)) None) None) (le-leb lane 15 (omega (arith, lt)))
    ∙ ap (λ t. cond t (Some (InsertImmediate Byte bits lane)) None) (lt-ltb lane 16 lt)) (lt-ltb lane 16 (omega (arith, lt)))
insert_rows Halfword narrow d bits lane lb lt =
    entry_of lane (vri_a opcodes.VLEIH d bits lane) (InsertImmediate Halfword bits lane) refl
    (ap (λ t. (t && nat_le lane 7) && true && true) (le-leb 0 lane (omega arith)) ∙ ap (λ t. (true && t) && true && true) (le-leb lane 7 (omega (arith, lt))))
    (ap (λ k. with_immediate (vector_row_of opcodes.VLEIH) (lane ∷ 0 ∷ 0 ∷ []) k) (sixteen_bits bits lb)
    ∙ ap (λ t. cond ((t && nat_le lane 7) && true && true) (cond (nat_lt lane 8) (Some (InsertImmediate Halfword bits lane)) None) None) (le-leb 0 lane (omega arith))
    ∙ ap (λ t. cond ((true && t) && true && true) (cond (nat_lt lane 8) (Some (InsertImmediate Halfword bits lane)) None) None) (le-leb lane 7 (omega (arith, lt)))
    ∙ ap (λ t. cond t (Some (InsertImmediate Halfword bits lane)) None) (lt-ltb lane 8 lt)) (lt-ltb lane 16 (omega (arith, lt)))
insert_rows Word narrow d bits lane lb lt =
    entry_of lane (vri_a opcodes.VLEIF d bits lane) (InsertImmediate Word bits lane) refl
    (ap (λ t. (t && nat_le lane 3) && true && true) (le-leb 0 lane (omega arith)) ∙ ap (λ t. (true && t) && true && true) (le-leb lane 3 (omega (arith, lt))))
    (ap (λ k. with_immediate (vector_row_of opcodes.VLEIF) (lane ∷ 0 ∷ 0 ∷ []) k) (sixteen_bits bits lb)
    ∙ ap (λ t. cond ((t && nat_le lane 3) && true && true) (cond (nat_lt lane 4) (Some (InsertImmediate Word bits lane)) None) None) (le-leb 0 lane (omega arith))
    ∙ ap (λ t. cond ((true && t) && true && true) (cond (nat_lt lane 4) (Some (InsertImmediate Word bits lane)) None) None) (le-leb lane 3 (omega (arith, lt)))
    ∙ ap (λ t. cond t (Some (InsertImmediate Word bits lane)) None) (lt-ltb lane 4 lt)) (lt-ltb lane 16 (omega (arith, lt)))
insert_rows Doubleword narrow d bits lane lb lt =
    entry_of lane (vri_a opcodes.VLEIG d bits lane) (InsertImmediate Doubleword bits lane) refl
    (ap (λ t. (t && nat_le lane 1) && true && true) (le-leb 0 lane (omega arith)) ∙ ap (λ t. (true && t) && true && true) (le-leb lane 1 (omega (arith, lt))))
    (ap (λ k. with_immediate (vector_row_of opcodes.VLEIG) (lane ∷ 0 ∷ 0 ∷ []) k) (sixteen_bits bits lb)
    ∙ ap (λ t. cond ((t && nat_le lane 1) && true && true) (cond (nat_lt lane 2) (Some (InsertImmediate Doubleword bits lane)) None) None) (le-leb 0 lane (omega arith))
    ∙ ap (λ t. cond ((true && t) && true && true) (cond (nat_lt lane 2) (Some (InsertImmediate Doubleword bits lane)) None) None) (le-leb lane 1 (omega (arith, lt)))
    ∙ ap (λ t. cond t (Some (InsertImmediate Doubleword bits lane)) None) (lt-ltb lane 2 lt)) (lt-ltb lane 16 (omega (arith, lt)))
insert_rows Quadword narrow d bits lane lb lt = absurd narrow

-- ---- rows of another kind

pub join_row : Meant VrrF Any opcodes.VLVGP JoinRegisters
unfolding machine_rows row_for semantics_in semantics_of
join_row = (record { is = refl }, refl)

pub ler_row : Meant Rr Any opcodes.LER (MoveLeft Word)
unfolding machine_rows row_for semantics_in semantics_of
ler_row = (record { is = refl }, refl)

pub ldr_row : Meant Rr Any opcodes.LDR (MoveLeft Doubleword)
unfolding machine_rows row_for semantics_in semantics_of
ldr_row = (record { is = refl }, refl)

pub ldgr_row : Meant Rre Any opcodes.LDGR RegisterToLeft
unfolding machine_rows row_for semantics_in semantics_of
ldgr_row = (record { is = refl }, refl)

pub lgdr_row : Meant Rre Any opcodes.LGDR LeftToRegister
unfolding machine_rows row_for semantics_in semantics_of
lgdr_row = (record { is = refl }, refl)

pub insert_listed : Meant VrsB (FirstMask 0 3) opcodes.VLVG InsertElement
unfolding machine_rows row_for semantics_in semantics_of
insert_listed = (record { is = refl }, refl)

pub extract_listed : Meant VrsC (FirstMask 0 3) opcodes.VLGV ExtractElement
unfolding machine_rows row_for semantics_in semantics_of
extract_listed = (record { is = refl }, refl)

-- a shift's row
pub shift_rows : (op : VecShiftOp) → Meant VrsA (FirstMask 0 3) (shift_row op).opcode (Row.ShiftElements (vector_row_of (shift_row op).opcode))
unfolding machine_rows row_for semantics_in semantics_of vector_row_of
shift_rows op = rows (λ n. VrsA) (FirstMask 0 3) 65536 (Some (shift_row op).opcode) (Row.ShiftElements (vector_row_of (shift_row op).opcode)) refl (agrees op)
  where
    agrees : (op : VecShiftOp) → Agrees (λ n. VrsA) (FirstMask 0 3) 65536 (Some (shift_row op).opcode) (Row.ShiftElements (vector_row_of (shift_row op).opcode))
    agrees S.RotL8x16 = refl
    agrees _ = refl

pub shift_allowed : (op : VecShiftOp) (d base n displacement : ℕ) → is_allowed (FirstMask 0 3) (vrs_a (shift_row op).opcode d base n (shift_row op).code displacement).slots ≡ true
shift_allowed S.RotL8x16 d base n displacement = refl
shift_allowed _ d base n displacement = refl

pub shift_code : (op : VecShiftOp) → (shift_row op).code < 16
shift_code op = ltb-true (shift_row op).code 16 (few op)
  where
    few : (op : VecShiftOp) → nat_lt (shift_row op).code 16 ≡ true
    few S.RotL8x16 = refl
    few _ = refl

-- the operation of a shift by an amount below 64
pub shift_operation : (op : VecShiftOp) (k : ℕ) → k < 64 → operation_of (vector_row_of (shift_row op).opcode) ((shift_row op).code ∷ 0 ∷ 0 ∷ []) (pos k) ≡ Some (O.ShiftElements (shift_operator op) (shifted_elements op) k)
unfolding machine_rows semantics_in semantics_of operation_of vector_row_of
shift_operation op k lt =
    ap (λ i. with_immediate (vector_row_of (shift_row op).opcode) ((shift_row op).code ∷ 0 ∷ 0 ∷ []) i) (sixteen_bits k (omega (arith, lt))) ∙ tested op
    ∙ ap (λ t. cond t (Some (O.ShiftElements (shift_operator op) (shifted_elements op) k)) None) (lt-ltb k 64 lt)
  where
    tested : (op : VecShiftOp) → with_immediate (vector_row_of (shift_row op).opcode) ((shift_row op).code ∷ 0 ∷ 0 ∷ []) (Some k) ≡ cond (nat_lt k 64) (Some (O.ShiftElements (shift_operator op) (shifted_elements op) k)) None
    tested S.RotL8x16 = refl
    tested _ = refl

-- ---- the formats

pub fits_vrr_a : (opcode a b mask : ℕ) → opcode < 65536 → a < 32 → b < 32 → mask < 16 → SlotsFit (layout_of VrrA) (vrr_a opcode a b mask).slots
fits_vrr_a opcode a b mask o la lb lm = fields_from VrrA (vrr_a opcode a b mask).slots refl (omega arith, (omega arith, (omega arith, (omega arith, (omega arith, (omega arith, (omega arith, (omega arith, (omega arith, (omega arith, tt))))))))))

pub fits_vrr_c : (opcode a b c mask : ℕ) → opcode < 65536 → a < 32 → b < 32 → c < 32 → mask < 16 → SlotsFit (layout_of VrrC) (vrr_c opcode a b c mask).slots
fits_vrr_c opcode a b c mask o la lb lc lm = fields_from VrrC (vrr_c opcode a b c mask).slots refl (omega arith, (omega arith, (omega arith, (omega arith, (omega arith, (omega arith, (omega arith, (omega arith, (omega arith, (omega arith, tt))))))))))

pub fits_vrr_b : (opcode a b c m n : ℕ) → opcode < 65536 → a < 32 → b < 32 → c < 32 → m < 16 → n < 16 → SlotsFit (layout_of VrrB) (vrr_b opcode a b c m n).slots
fits_vrr_b opcode a b c m n o la lb lc lm ln = fields_from VrrB (vrr_b opcode a b c m n).slots refl (omega arith, (omega arith, (omega arith, (omega arith, (omega arith, (omega arith, (omega arith, (omega arith, (omega arith, (omega arith, tt))))))))))

pub fits_vrr_d : (opcode a b c d m : ℕ) → opcode < 65536 → a < 32 → b < 32 → c < 32 → d < 32 → m < 16 → SlotsFit (layout_of VrrD) (vrr_d opcode a b c d m).slots
fits_vrr_d opcode a b c d m o la lb lc ld lm = fields_from VrrD (vrr_d opcode a b c d m).slots refl (omega arith, (omega arith, (omega arith, (omega arith, (omega arith, (omega arith, (omega arith, (omega arith, (omega arith, (omega arith, tt))))))))))

pub fits_vrr_e : (opcode a b c d : ℕ) → opcode < 65536 → a < 32 → b < 32 → c < 32 → d < 32 → SlotsFit (layout_of VrrE) (vrr_e opcode a b c d).slots
fits_vrr_e opcode a b c d o la lb lc ld = fields_from VrrE (vrr_e opcode a b c d).slots refl (omega arith, (omega arith, (omega arith, (omega arith, (omega arith, (omega arith, (omega arith, (omega arith, (omega arith, (omega arith, tt))))))))))

pub fits_vri_a : (opcode a bits mask : ℕ) → opcode < 65536 → a < 32 → bits < 65536 → mask < 16 → SlotsFit (layout_of VriA) (vri_a opcode a bits mask).slots
fits_vri_a opcode a bits mask lopcode la lbits lmask = fields_from VriA (vri_a opcode a bits mask).slots refl (omega arith, (omega arith, (omega arith, (omega arith, (omega arith, (omega arith, (omega arith, (omega arith, (omega arith, (omega arith, tt))))))))))

pub fits_vri_k : (opcode imm a b c d : ℕ) → opcode < 65536 → imm < 256 → a < 32 → b < 32 → c < 32 → d < 32 → SlotsFit (layout_of VriK) (vri_k opcode imm a b c d).slots
fits_vri_k opcode imm a b c d lopcode limm la lb lc ld = fields_from VriK (vri_k opcode imm a b c d).slots refl (omega arith, (omega arith, (omega arith, (omega arith, (omega arith, (omega arith, (omega arith, (omega arith, (omega arith, (omega arith, tt))))))))))

pub fits_vrr_f : (opcode a b c : ℕ) → opcode < 65536 → a < 32 → b < 16 → c < 16 → SlotsFit (layout_of VrrF) (vrr_f opcode a b c).slots
fits_vrr_f opcode a b c lopcode la lb lc = fields_from VrrF (vrr_f opcode a b c).slots refl (omega arith, (omega arith, (omega arith, (omega arith, (omega arith, (omega arith, (omega arith, (omega arith, (omega arith, (omega arith, tt))))))))))

pub fits_vrs_a : (opcode a base c mask displacement : ℕ) → opcode < 65536 → a < 32 → base < 16 → c < 32 → mask < 16 → displacement < 4096 → SlotsFit (layout_of VrsA) (vrs_a opcode a base c mask displacement).slots
fits_vrs_a opcode a base c mask displacement lopcode la lbase lc lmask ldisplacement = fields_from VrsA (vrs_a opcode a base c mask displacement).slots refl (omega arith, (omega arith, (omega arith, (omega arith, (omega arith, (omega arith, (omega arith, (omega arith, (omega arith, (omega arith, tt))))))))))

pub fits_vri_b : (opcode a start end mask : ℕ) → opcode < 65536 → a < 32 → start < 256 → end < 256 → mask < 16 → SlotsFit (layout_of VriB) (vri_b opcode a start end mask).slots
fits_vri_b opcode a start end mask lopcode la lstart lend lmask = fields_from VriB (vri_b opcode a start end mask).slots refl (omega arith, (omega arith, (omega arith, (omega arith, (omega arith, (omega arith, (omega arith, (omega arith, (omega arith, (omega arith, tt))))))))))

pub fits_vri_c : (opcode a b bits mask : ℕ) → opcode < 65536 → a < 32 → b < 32 → bits < 65536 → mask < 16 → SlotsFit (layout_of VriC) (vri_c opcode a b bits mask).slots
fits_vri_c opcode a b bits mask lopcode la lb lbits lmask = fields_from VriC (vri_c opcode a b bits mask).slots refl (omega arith, (omega arith, (omega arith, (omega arith, (omega arith, (omega arith, (omega arith, (omega arith, (omega arith, (omega arith, tt))))))))))

pub fits_vrs_b : (opcode a base c mask displacement : ℕ) → opcode < 65536 → a < 32 → base < 16 → c < 16 → mask < 16 → displacement < 4096 → SlotsFit (layout_of VrsB) (vrs_b opcode a base c mask displacement).slots
fits_vrs_b opcode a base c mask displacement lopcode la lbase lc lmask ldisplacement = fields_from VrsB (vrs_b opcode a base c mask displacement).slots refl (omega arith, (omega arith, (omega arith, (omega arith, (omega arith, (omega arith, (omega arith, (omega arith, (omega arith, (omega arith, tt))))))))))

pub fits_vrs_c : (opcode a base c mask displacement : ℕ) → opcode < 65536 → a < 16 → base < 16 → c < 32 → mask < 16 → displacement < 4096 → SlotsFit (layout_of VrsC) (vrs_c opcode a base c mask displacement).slots
fits_vrs_c opcode a base c mask displacement lopcode la lbase lc lmask ldisplacement = fields_from VrsC (vrs_c opcode a base c mask displacement).slots refl (omega arith, (omega arith, (omega arith, (omega arith, (omega arith, (omega arith, (omega arith, (omega arith, (omega arith, (omega arith, tt))))))))))
