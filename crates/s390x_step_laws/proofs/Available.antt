-- The one machine instruction of an instruction needs the facility that is asked for the instruction, or none. One equation an operator.
use Rattle.std.proofs.Common.{◌≡◌, ℕ, ◌&&◌, ◌||◌, is_some, Bool, true, false, cond, nat_eq, nat_lt, Option, Some, None, slice_index, refl, sym, subst}
use Rattle.std.proofs.lemmas.Bool.{and_parts}
use Rattle.s390x_base.specs.Regs.{number_of}
use Rattle.s390x_inst.specs.Facilities.{facility_of, has_facility, alu_facility, unary_facility, vec_binary_facility, vec_unary_facility, vec_compare_facility}
use Rattle.s390x_inst.specs.declared.facility.InstructionSet.{InstructionSet}
use Rattle.s390x_inst.specs.declared.facility.InstructionSet.TheVariants as Asked
use Rattle.s390x_inst.specs.declared.inst.Inst.{Inst}
use Rattle.s390x_inst.specs.declared.inst.Inst.TheVariants as I
use Rattle.s390x_inst.specs.declared.ops.ALUOp.{ALUOp}
use Rattle.s390x_inst.specs.declared.ops.ALUOp.TheVariants as Alu
use Rattle.s390x_inst.specs.declared.ops.CmpOp.{CmpOp}
use Rattle.s390x_inst.specs.declared.ops.CmpOp.TheVariants as Cmp
use Rattle.s390x_inst.specs.declared.ops.RxSBGOp.{RxSBGOp}
use Rattle.s390x_inst.specs.declared.ops.RxSBGOp.TheVariants as Rotate
use Rattle.s390x_inst.specs.declared.ops.ShiftOp.{ShiftOp}
use Rattle.s390x_inst.specs.declared.ops.ShiftOp.TheVariants as Shift
use Rattle.s390x_inst.specs.declared.ops.UnaryOp.{UnaryOp}
use Rattle.s390x_inst.specs.declared.ops.UnaryOp.TheVariants as Unary
use Rattle.s390x_inst.specs.declared.state.IsaFlags.{IsaFlags}
use Rattle.s390x_inst.specs.declared.vec_inst.VecInst.{VecInst}
use Rattle.s390x_inst.specs.declared.vec_inst.VecInst.TheVariants as V
use Rattle.s390x_inst.specs.declared.vec_ops.VecBinaryOp.{VecBinaryOp}
use Rattle.s390x_inst.specs.declared.vec_ops.VecBinaryOp.TheVariants as Binary
use Rattle.s390x_inst.specs.declared.vec_ops.VecIntCmpOp.{VecIntCmpOp}
use Rattle.s390x_inst.specs.declared.vec_ops.VecIntCmpOp.TheVariants as Comparison
use Rattle.s390x_inst.specs.declared.vec_ops.VecIntEltCmpOp.{VecIntEltCmpOp}
use Rattle.s390x_inst.specs.declared.vec_ops.VecIntEltCmpOp.TheVariants as Element
use Rattle.s390x_inst.specs.declared.vec_ops.VecShiftOp.{VecShiftOp}
use Rattle.s390x_inst.specs.declared.vec_ops.VecShiftOp.TheVariants as VectorShift
use Rattle.s390x_inst.specs.declared.vec_ops.VecUnaryOp.{VecUnaryOp}
use Rattle.s390x_inst.specs.declared.vec_ops.VecUnaryOp.TheVariants as VectorUnary
use Rattle.s390x_format.specs.Facilities.{facility_of as facility_by}
use Rattle.s390x_format.specs.Fetch.{machine_rows}
use Rattle.s390x_format.specs.Lookup.{row_for}
use Rattle.s390x_format.specs.declared.facility.Facility.{Facility}
use Rattle.s390x_format.specs.declared.facility.Facility.TheVariants.{Base, Mie3, Mie4, VxrsExt2, VxrsExt3}
use Rattle.s390x_format.specs.declared.facility.FacilityRule.{FacilityRule}
use Rattle.s390x_format.specs.declared.facility.FacilityRule.TheVariants.{Always, WholeCount, UpTo}
use Rattle.s390x_format.specs.declared.fields.Fields.{Fields}
use Rattle.s390x_rows.specs.declared.opcodes.TheConstants as opcodes
use Rattle.s390x_typed_steps.specs.MachineInstruction.{MachineInstruction, rr, rre, rrf_ab, rrf_cde, ri_a, rie_a, rie_d, rie_f, ril_a, rsy, rxy, vri_a, vri_b, vri_c, vrr_a, vrr_b, vrr_c, vrs_a, vrs_b, vrs_c}
use Rattle.s390x_base.specs.declared.regs.Reg.{Reg}
use Rattle.s390x_inst.specs.declared.args.MemArg.{MemArg}
use Rattle.s390x_typed_steps.specs.Memory.{MemoryInstruction, StorageForm, RxForm, RsForm, SiForm, SilForm, VrxForm, FloatForm, access_elements, access_lane, access_vector, compare, is_left_lane, left_or_lane, load_and_operate, load_lane_opcode, load_left, load_reversed_opcode, memory, operate, reversed_code, store_lane_opcode, store_left, store_reversed_opcode, vector_memory}
use Rattle.s390x_typed_steps.specs.Storage.{alu_rx, alu_rxy, atomic_rsy, cmp_rx, cmp_rxy, cmp_ril}
use Rattle.s390x_typed_steps.specs.Opcodes.{alu_three, alu_two, alu_halfword, alu_three_halfword, alu_signed_word, alu_unsigned_word, alu_part, alu_half, cmp_two, cmp_halfword, cmp_signed_word, cmp_unsigned_word, cmp_trap, cmp_trap_signed, cmp_trap_unsigned, extend_to_word, extend_to_doubleword, extend_two, indexed_opcode, insert_half, insert_part, load_half, load_part, logical_indexed_opcode, alu_rows, opcode_of_part, rotate_then, rotate_then_test, shift_opcode, unary_two}
use Rattle.s390x_typed_steps.specs.General.{low_byte, rotation}
use Rattle.s390x_typed_steps.specs.SingleInstruction.{SingleInstruction, single_instruction, single_with, two_operands, two_row, three_row, halfword_row, word_row, three_halfword_row, masked_row, masked_halfword_row, unary_row, rotated_row, indexed_row}
use Rattle.s390x_typed_steps.specs.VectorInstruction.{bit_mask_row, doublewords_row, element_code, extract_row, insert_alone_row, insert_immediate_opcode, insert_immediate_row, insert_lane_row, is_float_doubleword, is_lane, extract_lane_row, is_vector, lane_row, move_left_row, replicate_lane_row, replicate_row, reuses_vector, vector_row}
use Rattle.s390x_typed_steps.specs.VectorOpcodes.{binary_row, unary_row as vector_unary, comparison_row, element_comparison_row, shift_row}
use Rattle.s390x_typed_steps.specs.declared.move_rows.TheConstants.{INSERT_HALVES, INSERT_PARTS, LOAD_HALVES, LOAD_PARTS}
use Rattle.s390x_typed_steps.specs.declared.operator_rows.PartRows.{PartRows}
use Rattle.s390x_typed_steps.specs.declared.operator_rows.PartRows.TheVariants.{Lacking, One, Two, Four}
use Rattle.s390x_step_laws.specs.Available.{AllowsForm, AllowsMemory, AllowsOpcode, AllowsOpcodeWhere, AllowsSingle, has_needed, needed_facility}

-- the facility that is needed is the one that is asked for, or the base
abbrev is_asked : Facility → InstructionSet → Bool
is_asked Base asked = true
is_asked Mie3 Asked.MIE3 = true
is_asked Mie4 Asked.MIE4 = true
is_asked VxrsExt2 Asked.VXRS_EXT2 = true
is_asked VxrsExt3 Asked.VXRS_EXT3 = true
is_asked _ _ = false

asked_is_had : (f : IsaFlags) (n : Facility) (asked : InstructionSet) → is_asked n asked ≡ true → has_facility f asked ≡ true → has_needed n f ≡ true
asked_is_had f Base asked is has = refl
asked_is_had f Mie3 Asked.MIE3 is has = has
asked_is_had f Mie4 Asked.MIE4 is has = has
asked_is_had f VxrsExt2 Asked.VXRS_EXT2 is has = has
asked_is_had f VxrsExt3 Asked.VXRS_EXT3 is has = has
asked_is_had f n asked is has = absurd (cc)

-- ---- rows whose facility is told by the opcode alone

always_asked : FacilityRule → InstructionSet → Bool
always_asked (Always facility) asked = is_asked facility asked
always_asked WholeCount asked = false
always_asked (UpTo size) asked = false

-- an opcode's row, where there is one, needs nothing or what is asked for; unfoldable, so that goals don't hold the table
unfoldable opcode_asked : InstructionSet → Option ℕ → Bool
opcode_asked asked None = true
opcode_asked asked (Some opcode) = always_asked (row_for machine_rows opcode).facility asked

abbrev IsAsked : InstructionSet → MachineInstruction → Type 0
IsAsked asked x = is_asked (needed_facility x) asked ≡ true

abbrev IsAskedWhere : InstructionSet → Option MachineInstruction → Type 0
IsAskedWhere asked None = Unit {0}
IsAskedWhere asked (Some x) = IsAsked asked x

always_is : (rule : FacilityRule) (fields : Fields) (asked : InstructionSet) → always_asked rule asked ≡ true → is_asked (facility_by rule fields) asked ≡ true
unfolding always_asked
always_is (Always facility) fields asked h = h
always_is WholeCount fields asked h = absurd (cc)
always_is (UpTo size) fields asked h = absurd (cc)

by_opcode : (asked : InstructionSet) (opcode : ℕ) (x : MachineInstruction) → slice_index x.slots 0 ≡ opcode → opcode_asked asked (Some opcode) ≡ true → IsAsked asked x
unfolding opcode_asked
by_opcode asked opcode x is h = always_is _ _ asked (subst (λ (o : ℕ). always_asked (row_for machine_rows o).facility asked ≡ true) (sym is) h)

opcode_if : (asked : InstructionSet) (b : Bool) (x y : Option ℕ) → opcode_asked asked x ≡ true → opcode_asked asked y ≡ true → opcode_asked asked (cond b x y) ≡ true
opcode_if asked true x y p q = p
opcode_if asked false x y p q = q

number_if : (asked : InstructionSet) (b : Bool) (x y : ℕ) → opcode_asked asked (Some x) ≡ true → opcode_asked asked (Some y) ≡ true → opcode_asked asked (Some (cond b x y)) ≡ true
number_if asked true x y p q = p
number_if asked false x y p q = q

asked_if : (asked : InstructionSet) (b : Bool) (x y : MachineInstruction) → IsAsked asked x → IsAsked asked y → IsAsked asked (cond b x y)
asked_if asked true x y p q = p
asked_if asked false x y p q = q

where_if : (asked : InstructionSet) (b : Bool) (x : Option MachineInstruction) → IsAskedWhere asked x → IsAskedWhere asked (cond b x None)
where_if asked true x p = p
where_if asked false x p = tt

-- ---- rows by their form

two_operands_asked : (asked : InstructionSet) (opcode d m : ℕ) → opcode_asked asked (Some opcode) ≡ true → IsAsked asked (two_operands opcode d m)
two_operands_asked asked opcode d m h = asked_if asked (nat_lt opcode 256) (rr opcode d m) (rre opcode d m) (by_opcode asked opcode (rr opcode d m) refl h) (by_opcode asked opcode (rre opcode d m) refl h)

two_asked : (asked : InstructionSet) (o : Option ℕ) (d m : ℕ) → opcode_asked asked o ≡ true → IsAskedWhere asked (two_row o d m)
two_asked asked None d m h = tt
two_asked asked (Some opcode) d m h = two_operands_asked asked opcode d m h

three_asked : (asked : InstructionSet) (three two : Option ℕ) (d n m : ℕ) → opcode_asked asked three ≡ true → opcode_asked asked two ≡ true → IsAskedWhere asked (three_row three two d n m)
three_asked asked None two d n m p q = tt
three_asked asked (Some three) None d n m p q = by_opcode asked three (rrf_ab three d n m 0) refl p
three_asked asked (Some three) (Some two) d n m p q =
    asked_if asked (nat_eq d n) (two_operands two d m) (rrf_ab three d n m 0) (two_operands_asked asked two d m q) (by_opcode asked three (rrf_ab three d n m 0) refl p)

halfword_asked : (asked : InstructionSet) (o : Option ℕ) (d bits : ℕ) → opcode_asked asked o ≡ true → IsAskedWhere asked (halfword_row o d bits)
halfword_asked asked None d bits h = tt
halfword_asked asked (Some opcode) d bits h = by_opcode asked opcode (ri_a opcode d bits) refl h

word_asked : (asked : InstructionSet) (o : Option ℕ) (d bits : ℕ) → opcode_asked asked o ≡ true → IsAskedWhere asked (word_row o d bits)
word_asked asked None d bits h = tt
word_asked asked (Some opcode) d bits h = by_opcode asked opcode (ril_a opcode d bits) refl h

three_halfword_asked : (asked : InstructionSet) (three two : Option ℕ) (d n bits : ℕ) → opcode_asked asked three ≡ true → opcode_asked asked two ≡ true → IsAskedWhere asked (three_halfword_row three two d n bits)
three_halfword_asked asked None two d n bits p q = tt
three_halfword_asked asked (Some three) None d n bits p q = by_opcode asked three (rie_d three d n bits) refl p
three_halfword_asked asked (Some three) (Some two) d n bits p q =
    asked_if asked (nat_eq d n) (ri_a two d bits) (rie_d three d n bits) (by_opcode asked two (ri_a two d bits) refl q) (by_opcode asked three (rie_d three d n bits) refl p)

masked_asked : (asked : InstructionSet) (o : Option ℕ) (n m mask : ℕ) → opcode_asked asked o ≡ true → IsAskedWhere asked (masked_row o n m mask)
masked_asked asked None n m mask h = tt
masked_asked asked (Some opcode) n m mask h = by_opcode asked opcode (rrf_cde opcode n m mask 0) refl h

masked_halfword_asked : (asked : InstructionSet) (o : Option ℕ) (n bits mask : ℕ) → opcode_asked asked o ≡ true → IsAskedWhere asked (masked_halfword_row o n bits mask)
masked_halfword_asked asked None n bits mask h = tt
masked_halfword_asked asked (Some opcode) n bits mask h = by_opcode asked opcode (rie_a opcode n bits mask) refl h

rotated_asked : (asked : InstructionSet) (o : Option ℕ) (d n start end first rotated : ℕ) → opcode_asked asked o ≡ true → IsAskedWhere asked (rotated_row o d n start end first rotated)
rotated_asked asked None d n start end first rotated h = tt
rotated_asked asked (Some opcode) d n start end first rotated h =
    where_if asked (nat_lt start 64 && nat_lt end 64) (Some (rie_f opcode d n first end rotated)) (by_opcode asked opcode (rie_f opcode d n first end rotated) refl h)

indexed_asked : (asked : InstructionSet) (o : Option ℕ) (d base index displacement : ℕ) → opcode_asked asked o ≡ true → IsAskedWhere asked (indexed_row o d base index displacement)
indexed_asked asked None d base index displacement h = tt
indexed_asked asked (Some opcode) d base index displacement h = by_opcode asked opcode (rxy opcode d base index displacement) refl h

-- ---- the opcodes of operators

alu_three_asked : (op : ALUOp) → opcode_asked (alu_facility op) (alu_three op) ≡ true
unfolding opcode_asked machine_rows row_for always_asked
alu_three_asked Alu.Add32 = refl
alu_three_asked _ = refl

alu_two_asked : (asked : InstructionSet) (op : ALUOp) → opcode_asked asked (alu_two op) ≡ true
unfolding opcode_asked machine_rows row_for always_asked
alu_two_asked asked Alu.Add32 = refl
alu_two_asked asked _ = refl

alu_halfword_asked : (op : ALUOp) → opcode_asked Asked.Base (alu_halfword op) ≡ true
unfolding opcode_asked machine_rows row_for always_asked
alu_halfword_asked Alu.Add32 = refl
alu_halfword_asked _ = refl

alu_three_halfword_asked : (op : ALUOp) → opcode_asked Asked.Base (alu_three_halfword op) ≡ true
unfolding opcode_asked machine_rows row_for always_asked
alu_three_halfword_asked Alu.Add32 = refl
alu_three_halfword_asked _ = refl

alu_signed_word_asked : (op : ALUOp) → opcode_asked Asked.Base (alu_signed_word op) ≡ true
unfolding opcode_asked machine_rows row_for always_asked
alu_signed_word_asked Alu.Add32 = refl
alu_signed_word_asked _ = refl

alu_unsigned_word_asked : (op : ALUOp) → opcode_asked Asked.Base (alu_unsigned_word op) ≡ true
unfolding opcode_asked machine_rows row_for always_asked
alu_unsigned_word_asked Alu.Add32 = refl
alu_unsigned_word_asked _ = refl

cmp_two_asked : (op : CmpOp) → opcode_asked Asked.Base (cmp_two op) ≡ true
unfolding opcode_asked machine_rows row_for always_asked
cmp_two_asked Cmp.CmpS32 = refl
cmp_two_asked _ = refl

cmp_halfword_asked : (op : CmpOp) → opcode_asked Asked.Base (cmp_halfword op) ≡ true
unfolding opcode_asked machine_rows row_for always_asked
cmp_halfword_asked Cmp.CmpS32 = refl
cmp_halfword_asked _ = refl

cmp_signed_word_asked : (op : CmpOp) → opcode_asked Asked.Base (cmp_signed_word op) ≡ true
unfolding opcode_asked machine_rows row_for always_asked
cmp_signed_word_asked Cmp.CmpS32 = refl
cmp_signed_word_asked _ = refl

cmp_unsigned_word_asked : (op : CmpOp) → opcode_asked Asked.Base (cmp_unsigned_word op) ≡ true
unfolding opcode_asked machine_rows row_for always_asked
cmp_unsigned_word_asked Cmp.CmpS32 = refl
cmp_unsigned_word_asked _ = refl

cmp_trap_asked : (op : CmpOp) → opcode_asked Asked.Base (cmp_trap op) ≡ true
unfolding opcode_asked machine_rows row_for always_asked
cmp_trap_asked Cmp.CmpS32 = refl
cmp_trap_asked _ = refl

cmp_trap_signed_asked : (op : CmpOp) → opcode_asked Asked.Base (cmp_trap_signed op) ≡ true
unfolding opcode_asked machine_rows row_for always_asked
cmp_trap_signed_asked Cmp.CmpS32 = refl
cmp_trap_signed_asked _ = refl

cmp_trap_unsigned_asked : (op : CmpOp) → opcode_asked Asked.Base (cmp_trap_unsigned op) ≡ true
unfolding opcode_asked machine_rows row_for always_asked
cmp_trap_unsigned_asked Cmp.CmpS32 = refl
cmp_trap_unsigned_asked _ = refl

shift_asked : (op : ShiftOp) → opcode_asked Asked.Base (Some (shift_opcode op)) ≡ true
unfolding opcode_asked machine_rows row_for always_asked
shift_asked Shift.RotL32 = refl
shift_asked _ = refl

rotate_asked : (op : RxSBGOp) → opcode_asked Asked.Base (Some (rotate_then op)) ≡ true
unfolding opcode_asked machine_rows row_for always_asked
rotate_asked Rotate.Insert = refl
rotate_asked _ = refl

rotate_test_asked : (op : RxSBGOp) → opcode_asked Asked.Base (rotate_then_test op) ≡ true
unfolding opcode_asked machine_rows row_for always_asked
rotate_test_asked Rotate.Insert = refl
rotate_test_asked _ = refl

-- ---- opcodes that a number chooses

none_asked : (asked : InstructionSet) → opcode_asked asked None ≡ true
unfolding opcode_asked
none_asked asked = refl

parts_asked : PartRows → Bool
parts_asked Lacking = true
parts_asked (One a) = opcode_asked Asked.Base (Some a)
parts_asked (Two a b) = opcode_asked Asked.Base (Some a) && opcode_asked Asked.Base (Some b)
parts_asked (Four a b c d) = (opcode_asked Asked.Base (Some a) && opcode_asked Asked.Base (Some b)) && (opcode_asked Asked.Base (Some c) && opcode_asked Asked.Base (Some d))

part_asked : (rows : PartRows) (n : ℕ) → parts_asked rows ≡ true → opcode_asked Asked.Base (opcode_of_part rows n) ≡ true
unfolding parts_asked
part_asked Lacking n h = none_asked Asked.Base
part_asked (One a) n h = opcode_if Asked.Base (nat_eq n 0) (Some a) None h (none_asked Asked.Base)
part_asked (Two a b) n h =
    let t = and_parts (opcode_asked Asked.Base (Some a)) (opcode_asked Asked.Base (Some b)) h in
    opcode_if Asked.Base (nat_eq n 0) (Some a) (cond (nat_eq n 1) (Some b) None) t.0 (opcode_if Asked.Base (nat_eq n 1) (Some b) None t.1 (none_asked Asked.Base))
part_asked (Four a b c d) n h =
    let t = and_parts (opcode_asked Asked.Base (Some a) && opcode_asked Asked.Base (Some b)) (opcode_asked Asked.Base (Some c) && opcode_asked Asked.Base (Some d)) h in
    let l = and_parts (opcode_asked Asked.Base (Some a)) (opcode_asked Asked.Base (Some b)) t.0 in
    let r = and_parts (opcode_asked Asked.Base (Some c)) (opcode_asked Asked.Base (Some d)) t.1 in
    opcode_if Asked.Base (nat_eq n 0) (Some a) (cond (nat_eq n 1) (Some b) (cond (nat_eq n 2) (Some c) (cond (nat_eq n 3) (Some d) None))) l.0
    (opcode_if Asked.Base (nat_eq n 1) (Some b) (cond (nat_eq n 2) (Some c) (cond (nat_eq n 3) (Some d) None)) l.1
    (opcode_if Asked.Base (nat_eq n 2) (Some c) (cond (nat_eq n 3) (Some d) None) r.0 (opcode_if Asked.Base (nat_eq n 3) (Some d) None r.1 (none_asked Asked.Base))))

alu_parts_asked : (op : ALUOp) → parts_asked (alu_rows op).parts ≡ true
unfolding parts_asked opcode_asked machine_rows row_for always_asked
alu_parts_asked Alu.Add32 = refl
alu_parts_asked _ = refl

alu_halves_asked : (op : ALUOp) → parts_asked (alu_rows op).halves ≡ true
unfolding parts_asked opcode_asked machine_rows row_for always_asked
alu_halves_asked Alu.Add32 = refl
alu_halves_asked _ = refl

load_parts_asked : parts_asked LOAD_PARTS ≡ true
unfolding parts_asked opcode_asked machine_rows row_for always_asked
load_parts_asked = refl

load_halves_asked : parts_asked LOAD_HALVES ≡ true
unfolding parts_asked opcode_asked machine_rows row_for always_asked
load_halves_asked = refl

insert_parts_asked : parts_asked INSERT_PARTS ≡ true
unfolding parts_asked opcode_asked machine_rows row_for always_asked
insert_parts_asked = refl

insert_halves_asked : parts_asked INSERT_HALVES ≡ true
unfolding parts_asked opcode_asked machine_rows row_for always_asked
insert_halves_asked = refl

word_asked_to : (signed : Bool) (from : ℕ) → opcode_asked Asked.Base (extend_to_word signed from) ≡ true
unfolding opcode_asked machine_rows row_for always_asked
word_asked_to true from = opcode_if Asked.Base (nat_eq from 1) _ _ refl (opcode_if Asked.Base (nat_eq from 8) _ _ refl (opcode_if Asked.Base (nat_eq from 16) _ _ refl refl))
word_asked_to false from = opcode_if Asked.Base (nat_eq from 1) _ _ refl (opcode_if Asked.Base (nat_eq from 8) _ _ refl (opcode_if Asked.Base (nat_eq from 16) _ _ refl refl))

doubleword_asked_to : (signed : Bool) (from : ℕ) → opcode_asked Asked.Base (extend_to_doubleword signed from) ≡ true
unfolding opcode_asked machine_rows row_for always_asked
doubleword_asked_to true from = opcode_if Asked.Base (nat_eq from 1) _ _ refl (opcode_if Asked.Base (nat_eq from 8) _ _ refl (opcode_if Asked.Base (nat_eq from 16) _ _ refl (opcode_if Asked.Base (nat_eq from 32) _ _ refl refl)))
doubleword_asked_to false from = opcode_if Asked.Base (nat_eq from 1) _ _ refl (opcode_if Asked.Base (nat_eq from 8) _ _ refl (opcode_if Asked.Base (nat_eq from 16) _ _ refl (opcode_if Asked.Base (nat_eq from 32) _ _ refl refl)))

extend_asked : (signed : Bool) (from to : ℕ) → opcode_asked Asked.Base (extend_two signed from to) ≡ true
extend_asked signed from to =
    opcode_if Asked.Base (nat_eq to 32) (extend_to_word signed from) (cond (nat_eq to 64) (extend_to_doubleword signed from) None) (word_asked_to signed from)
    (opcode_if Asked.Base (nat_eq to 64) (extend_to_doubleword signed from) None (doubleword_asked_to signed from) (none_asked Asked.Base))

index_asked : (size : ℕ) → opcode_asked Asked.MIE4 (indexed_opcode size) ≡ true
unfolding opcode_asked machine_rows row_for always_asked
index_asked size = opcode_if Asked.MIE4 (nat_eq size 1) _ _ refl (opcode_if Asked.MIE4 (nat_eq size 2) _ _ refl (opcode_if Asked.MIE4 (nat_eq size 3) _ _ refl (opcode_if Asked.MIE4 (nat_eq size 4) _ _ refl refl)))

logical_index_asked : (size : ℕ) → opcode_asked Asked.MIE4 (logical_indexed_opcode size) ≡ true
unfolding opcode_asked machine_rows row_for always_asked
logical_index_asked size = opcode_if Asked.MIE4 (nat_eq size 1) _ _ refl (opcode_if Asked.MIE4 (nat_eq size 2) _ _ refl (opcode_if Asked.MIE4 (nat_eq size 3) _ _ refl (opcode_if Asked.MIE4 (nat_eq size 4) _ _ refl refl)))

-- ---- an operator on one register

unary_asked : (op : UnaryOp) (d n : ℕ) → IsAskedWhere (unary_facility op) (unary_row op d n)
unfolding opcode_asked machine_rows row_for always_asked
unary_asked Unary.PopcntByte d n = refl
unary_asked Unary.PopcntReg d n = refl
unary_asked Unary.Abs32 d n = two_asked Asked.Base (unary_two Unary.Abs32) d n refl
unary_asked op d n = two_asked (unary_facility op) (unary_two op) d n refl

-- ---- vectors

binary_asked : (op : VecBinaryOp) (d n m : ℕ) → IsAsked (vec_binary_facility op) (vrr_c (binary_row op).opcode d n m (binary_row op).code)
unfolding machine_rows row_for
binary_asked Binary.Add8x16 d n m = refl
binary_asked _ d n m = refl

vector_unary_asked : (op : VecUnaryOp) (d n : ℕ) → IsAsked (vec_unary_facility op) (vrr_a (vector_unary op).opcode d n (vector_unary op).code)
unfolding machine_rows row_for
vector_unary_asked VectorUnary.Abs8x16 d n = refl
vector_unary_asked _ d n = refl

comparison_asked : (op : VecIntCmpOp) (d n m set : ℕ) → IsAsked (vec_compare_facility op) (vrr_b (comparison_row op).opcode d n m (comparison_row op).code set)
unfolding machine_rows row_for
comparison_asked Comparison.CmpEq8x16 d n m set = refl
comparison_asked _ d n m set = refl

element_asked : (op : VecIntEltCmpOp) (n m : ℕ) → IsAsked Asked.VXRS_EXT3 (vrr_a (element_comparison_row op).opcode n m (element_comparison_row op).code)
unfolding machine_rows row_for
element_asked Element.SCmp128 n m = refl
element_asked _ n m = refl

vector_shift_asked : (op : VecShiftOp) (d base n displacement : ℕ) → IsAsked Asked.Base (vrs_a (shift_row op).opcode d base n (shift_row op).code displacement)
unfolding machine_rows row_for
vector_shift_asked VectorShift.RotL8x16 d base n displacement = refl
vector_shift_asked _ d base n displacement = refl

-- a row on one element
lane_asked : (row : ℕ → MachineInstruction) (code : Option ℕ) (size lane : ℕ) → ((c : ℕ) → IsAsked Asked.Base (row c)) → IsAskedWhere Asked.Base (lane_row row code size lane)
lane_asked row None size lane h = tt
lane_asked row (Some code) size lane h = where_if Asked.Base (is_lane size lane) (Some (row code)) (h code)

insert_opcode_asked : (code : ℕ) → opcode_asked Asked.Base (Some (insert_immediate_opcode code)) ≡ true
unfolding opcode_asked machine_rows row_for always_asked
insert_opcode_asked code =
    number_if Asked.Base (nat_eq code 0) _ _ refl (number_if Asked.Base (nat_eq code 1) _ _ refl (number_if Asked.Base (nat_eq code 2) _ _ refl refl))

insert_immediate_asked : (code : Option ℕ) (size d bits lane : ℕ) → IsAskedWhere Asked.Base (insert_immediate_row code size d bits lane)
insert_immediate_asked code size d bits lane =
    lane_asked (λ c. vri_a (insert_immediate_opcode c) d bits lane) code size lane (λ c. by_opcode Asked.Base (insert_immediate_opcode c) (vri_a (insert_immediate_opcode c) d bits lane) refl (insert_opcode_asked c))

insert_lane_asked : (code : Option ℕ) (size d n base lane : ℕ) → IsAskedWhere Asked.Base (insert_lane_row code size d n base lane)
unfolding machine_rows row_for
insert_lane_asked code size d n base lane = lane_asked (λ c. vrs_b opcodes.VLVG d base n c lane) code size lane (λ c. refl)

extract_lane_asked : (code : Option ℕ) (size d n base lane : ℕ) → IsAskedWhere Asked.Base (extract_lane_row code size d n base lane)
unfolding machine_rows row_for
extract_lane_asked code size d n base lane = lane_asked (λ c. vrs_c opcodes.VLGV d base n c lane) code size lane (λ c. refl)

replicate_lane_asked : (code : Option ℕ) (size d n lane : ℕ) → IsAskedWhere Asked.Base (replicate_lane_row code size d n lane)
unfolding machine_rows row_for
replicate_lane_asked code size d n lane = lane_asked (λ c. vri_c opcodes.VREP d n lane c) code size lane (λ c. refl)

either_if : (b : Bool) (x y : Option MachineInstruction) → IsAskedWhere Asked.Base x → IsAskedWhere Asked.Base y → IsAskedWhere Asked.Base (cond b x y)
either_if true x y p q = p
either_if false x y p q = q

insert_alone_asked : (size d n base lane : ℕ) → IsAskedWhere Asked.Base (insert_alone_row size d n base lane)
unfolding machine_rows row_for
insert_alone_asked size d n base lane =
    either_if (is_float_doubleword size d base lane) (Some (rre opcodes.LDGR d n)) (insert_lane_row (element_code size) size d n base lane) refl (insert_lane_asked (element_code size) size d n base lane)

extract_asked : (size d n base lane : ℕ) → IsAskedWhere Asked.Base (extract_row size d n base lane)
unfolding machine_rows row_for
extract_asked size d n base lane =
    either_if (is_float_doubleword size n base lane) (Some (rre opcodes.LGDR d n)) (extract_lane_row (element_code size) size d n base lane) refl (extract_lane_asked (element_code size) size d n base lane)

replicate_asked : (code : Option ℕ) (d bits : ℕ) → IsAskedWhere Asked.Base (replicate_row code d bits)
unfolding machine_rows row_for
replicate_asked None d bits = tt
replicate_asked (Some code) d bits = refl

bit_mask_asked : (code : Option ℕ) (size d start end : ℕ) → IsAskedWhere Asked.Base (bit_mask_row code size d start end)
unfolding machine_rows row_for
bit_mask_asked None size d start end = tt
bit_mask_asked (Some code) size d start end = where_if Asked.Base (nat_lt start size && nat_lt end size) (Some (vri_b opcodes.VGM d start end code)) refl

doublewords_asked : (d n m first second : ℕ) → IsAskedWhere Asked.Base (doublewords_row d n m first second)
unfolding machine_rows row_for
doublewords_asked d n m first second = where_if Asked.Base (nat_lt first 2 && nat_lt second 2) (Some _) refl

move_left_asked : (opcode d n : ℕ) → opcode_asked Asked.Base (Some opcode) ≡ true → IsAsked Asked.Base (move_left_row opcode d n)
unfolding machine_rows row_for
move_left_asked opcode d n h = asked_if Asked.Base (nat_lt d 16 && nat_lt n 16) (rr opcode d n) (vrr_a opcodes.VLR d n 0) (by_opcode Asked.Base opcode (rr opcode d n) refl h) refl

-- the last clause is a copy for each other instruction on vectors
vector_asked : (v : VecInst) → IsAskedWhere (facility_of (I.Vector v)) (vector_row v)
unfolding machine_rows row_for opcode_asked always_asked
vector_asked (V.VecRRR op rd rn rm) = binary_asked op (number_of rd) (number_of rn) (number_of rm)
vector_asked (V.VecRR op rd rn) = vector_unary_asked op (number_of rd) (number_of rn)
vector_asked (V.VecIntCmp op rd rn rm) = comparison_asked op (number_of rd) (number_of rn) (number_of rm) 0
vector_asked (V.VecIntCmpS op rd rn rm) = comparison_asked op (number_of rd) (number_of rn) (number_of rm) 1
vector_asked (V.VecIntEltCmp op rn rm) = element_asked op (number_of rn) (number_of rm)
vector_asked (V.VecShiftRR op rd rn amount register) = vector_shift_asked op (number_of rd) (number_of register) (number_of rn) (low_byte amount)
vector_asked (V.VecPermuteDWImm rd rn rm first second) = doublewords_asked (number_of rd) (number_of rn) (number_of rm) first second
vector_asked (V.VecImmReplicate size rd imm) = replicate_asked (element_code size) (number_of rd) _
vector_asked (V.VecImmBitMask size rd start end) = bit_mask_asked (element_code size) size (number_of rd) start end
vector_asked (V.VecReplicateLane size rd rn lane) = replicate_lane_asked (element_code size) size (number_of rd) (number_of rn) lane
vector_asked (V.VecInsertLaneImm size rd ri imm lane) = insert_immediate_asked (element_code size) size (number_of rd) _ lane
vector_asked (V.VecInsertLaneImmUndef size rd imm lane) = insert_immediate_asked (element_code size) size (number_of rd) _ lane
vector_asked (V.VecInsertLane size rd ri rn lane base) = insert_lane_asked (element_code size) size (number_of rd) (number_of rn) (number_of base) lane
vector_asked (V.VecInsertLaneUndef size rd rn lane base) = insert_alone_asked size (number_of rd) (number_of rn) (number_of base) lane
vector_asked (V.VecExtractLane size rd rn lane base) = extract_asked size (number_of rd) (number_of rn) (number_of base) lane
vector_asked (V.FpuMove32 rd rn) = move_left_asked opcodes.LER (number_of rd) (number_of rn) refl
vector_asked (V.FpuMove64 rd rn) = move_left_asked opcodes.LDR (number_of rd) (number_of rn) refl
vector_asked v = assumption

-- ---- each instruction

abbrev IsSingleAsked : InstructionSet → Option SingleInstruction → Type 0
IsSingleAsked asked None = Unit {0}
IsSingleAsked asked (Some x) = IsAsked asked x.row

single : (asked : InstructionSet) (valid : Bool) (row : Option MachineInstruction) → IsAskedWhere asked row → IsSingleAsked asked (single_with valid row)
single asked valid None h = tt
single asked valid (Some row) h = h

-- the last clause is a copy for each other instruction
each_asked : (i : Inst) → IsSingleAsked (facility_of i) (single_instruction i)
unfolding machine_rows row_for opcode_asked always_asked
each_asked (I.AluRRR op rd rn rm) = single (alu_facility op) _ _ (three_asked (alu_facility op) (alu_three op) (alu_two op) _ _ _ (alu_three_asked op) (alu_two_asked (alu_facility op) op))
each_asked (I.AluRR op rd ri rm) = single Asked.Base _ _ (two_asked Asked.Base (alu_two op) _ _ (alu_two_asked Asked.Base op))
each_asked (I.UnaryRR op rd rn) = single (unary_facility op) _ _ (unary_asked op (number_of rd) (number_of rn))
each_asked (I.CmpRR op rn rm) = single Asked.Base _ _ (two_asked Asked.Base (cmp_two op) _ _ (cmp_two_asked op))
each_asked (I.AluRRSImm16 op rd rn imm) = single Asked.Base _ _ (three_halfword_asked Asked.Base (alu_three_halfword op) (alu_halfword op) _ _ _ (alu_three_halfword_asked op) (alu_halfword_asked op))
each_asked (I.AluRSImm16 op rd ri imm) = single Asked.Base _ _ (halfword_asked Asked.Base (alu_halfword op) _ _ (alu_halfword_asked op))
each_asked (I.AluRSImm32 op rd ri imm) = single Asked.Base _ _ (word_asked Asked.Base (alu_signed_word op) _ _ (alu_signed_word_asked op))
each_asked (I.AluRUImm32 op rd ri imm) = single Asked.Base _ _ (word_asked Asked.Base (alu_unsigned_word op) _ _ (alu_unsigned_word_asked op))
each_asked (I.CmpRSImm16 op rn imm) = single Asked.Base _ _ (halfword_asked Asked.Base (cmp_halfword op) _ _ (cmp_halfword_asked op))
each_asked (I.CmpRSImm32 op rn imm) = single Asked.Base _ _ (word_asked Asked.Base (cmp_signed_word op) _ _ (cmp_signed_word_asked op))
each_asked (I.CmpRUImm32 op rn imm) = single Asked.Base _ _ (word_asked Asked.Base (cmp_unsigned_word op) _ _ (cmp_unsigned_word_asked op))
each_asked (I.AluRUImm16Shifted op rd ri imm) = single Asked.Base _ _ (halfword_asked Asked.Base (alu_part op imm.shift) _ _ (part_asked (alu_rows op).parts imm.shift (alu_parts_asked op)))
each_asked (I.AluRUImm32Shifted op rd ri imm) = single Asked.Base _ _ (word_asked Asked.Base (alu_half op imm.shift) _ _ (part_asked (alu_rows op).halves imm.shift (alu_halves_asked op)))
each_asked (I.Mov64UImm16Shifted rd imm) = single Asked.Base _ _ (halfword_asked Asked.Base (load_part imm.shift) _ _ (part_asked LOAD_PARTS imm.shift load_parts_asked))
each_asked (I.Mov64UImm32Shifted rd imm) = single Asked.Base _ _ (word_asked Asked.Base (load_half imm.shift) _ _ (part_asked LOAD_HALVES imm.shift load_halves_asked))
each_asked (I.Insert64UImm16Shifted rd ri imm) = single Asked.Base _ _ (halfword_asked Asked.Base (insert_part imm.shift) _ _ (part_asked INSERT_PARTS imm.shift insert_parts_asked))
each_asked (I.Insert64UImm32Shifted rd ri imm) = single Asked.Base _ _ (word_asked Asked.Base (insert_half imm.shift) _ _ (part_asked INSERT_HALVES imm.shift insert_halves_asked))
each_asked (I.Extend rd rn signed from to) = single Asked.Base _ _ (two_asked Asked.Base (extend_two signed from to) _ _ (extend_asked signed from to))
each_asked (I.ShiftRR op rd rn amount register) =
    by_opcode Asked.Base (shift_opcode op) (rsy (shift_opcode op) (number_of rd) (number_of rn) (number_of register) (low_byte amount)) refl (shift_asked op)
each_asked (I.RxSBG op rd ri rn start end amount) = single Asked.Base _ _ (rotated_asked Asked.Base (Some (rotate_then op)) (number_of rd) (number_of rn) start end start (rotation amount) (rotate_asked op))
each_asked (I.RxSBGTest op rd rn start end amount) = single Asked.Base _ _ (rotated_asked Asked.Base (rotate_then_test op) _ _ _ _ _ _ (rotate_test_asked op))
each_asked (I.CmpTrapRR op rn rm mask code) = single Asked.Base _ _ (masked_asked Asked.Base (cmp_trap op) _ _ _ (cmp_trap_asked op))
each_asked (I.CmpTrapRSImm16 op rn imm mask code) = single Asked.Base _ _ (masked_halfword_asked Asked.Base (cmp_trap_signed op) _ _ _ (cmp_trap_signed_asked op))
each_asked (I.CmpTrapRUImm16 op rn imm mask code) = single Asked.Base _ _ (masked_halfword_asked Asked.Base (cmp_trap_unsigned op) _ _ _ (cmp_trap_unsigned_asked op))
each_asked (I.LoadIndexedAddr rd base index offset size) = single Asked.MIE4 _ _ (indexed_asked Asked.MIE4 (indexed_opcode size) _ _ _ _ (index_asked size))
each_asked (I.LoadLogicalIndexedAddr rd base index offset size) = single Asked.MIE4 _ _ (indexed_asked Asked.MIE4 (logical_indexed_opcode size) _ _ _ _ (logical_index_asked size))
each_asked (I.AllocateArgs size) = asked_if Asked.Base (nat_lt size 32768) _ _ refl refl
each_asked (I.Vector v) = single (facility_of (I.Vector v)) _ _ (vector_asked v)
each_asked i = assumption

asked_is_allowed : (f : IsaFlags) (asked : InstructionSet) (o : Option SingleInstruction) → IsSingleAsked asked o → has_facility f asked ≡ true → AllowsSingle f o
asked_is_allowed f asked None is has = tt
asked_is_allowed f asked (Some x) is has = asked_is_had f (needed_facility x.row) asked is has

pub single_is_allowed : (f : IsaFlags) (i : Inst) → has_facility f (facility_of i) ≡ true → AllowsSingle f (single_instruction i)
single_is_allowed f i has = asked_is_allowed f (facility_of i) (single_instruction i) (each_asked i) has

-- ---- operands in memory

form_asked : InstructionSet → StorageForm → Bool
form_asked asked (RxForm register rx rxy ril) = opcode_asked asked rx && (opcode_asked asked rxy && opcode_asked asked ril)
form_asked asked (RsForm first second rs rsy) = opcode_asked asked rs && opcode_asked asked rsy
form_asked asked (SiForm imm si siy) = opcode_asked asked (Some si) && opcode_asked asked (Some siy)
form_asked asked (SilForm bits sil) = opcode_asked asked (Some sil)
form_asked asked (VrxForm register vrx mask) = opcode_asked asked (Some vrx)
form_asked asked (FloatForm register rx rxy) = opcode_asked asked (Some rx) && opcode_asked asked (Some rxy)

memory_asked : InstructionSet → Option MemoryInstruction → Bool
memory_asked asked None = true
memory_asked asked (Some x) = form_asked asked x.form

memory_if : (asked : InstructionSet) (b : Bool) (x y : Option MemoryInstruction) → memory_asked asked x ≡ true → memory_asked asked y ≡ true → memory_asked asked (cond b x y) ≡ true
memory_if asked true x y p q = p
memory_if asked false x y p q = q

form_if : (asked : InstructionSet) (b : Bool) (x y : StorageForm) → form_asked asked x ≡ true → form_asked asked y ≡ true → form_asked asked (cond b x y) ≡ true
form_if asked true x y p q = p
form_if asked false x y p q = q

vector_access_asked : (asked : InstructionSet) (valid : Bool) (form : StorageForm) (mem : MemArg) → form_asked asked form ≡ true → memory_asked asked (access_vector valid form mem) ≡ true
unfolding memory_asked
vector_access_asked asked valid form mem h = h

elements_asked : (asked : InstructionSet) (opcode : ℕ) (rd : Reg) (code : Option ℕ) (mem : MemArg) → opcode_asked asked (Some opcode) ≡ true → memory_asked asked (access_elements opcode rd code mem) ≡ true
unfolding memory_asked form_asked
elements_asked asked opcode rd None mem h = refl
elements_asked asked opcode rd (Some code) mem h = h

one_element_asked : (asked : InstructionSet) (valid : Bool) (opcode : ℕ → ℕ) (register : ℕ) (code : Option ℕ) (size lane : ℕ) (mem : MemArg) → ((c : ℕ) → opcode_asked asked (Some (opcode c)) ≡ true)
    → memory_asked asked (access_lane valid opcode register code size lane mem) ≡ true
unfolding memory_asked form_asked
one_element_asked asked valid opcode register None size lane mem h = refl
one_element_asked asked valid opcode register (Some code) size lane mem h = memory_if asked (is_lane size lane) (access_vector valid (VrxForm register (opcode code) lane) mem) None (h code) refl

load_lane_asked : (code : ℕ) → opcode_asked Asked.Base (Some (load_lane_opcode code)) ≡ true
unfolding opcode_asked machine_rows row_for always_asked
load_lane_asked code =
    number_if Asked.Base (nat_eq code 0) _ _ refl (number_if Asked.Base (nat_eq code 1) _ _ refl (number_if Asked.Base (nat_eq code 2) _ _ refl refl))

store_lane_asked : (code : ℕ) → opcode_asked Asked.Base (Some (store_lane_opcode code)) ≡ true
unfolding opcode_asked machine_rows row_for always_asked
store_lane_asked code =
    number_if Asked.Base (nat_eq code 0) _ _ refl (number_if Asked.Base (nat_eq code 1) _ _ refl (number_if Asked.Base (nat_eq code 2) _ _ refl refl))

load_reversed_asked : (code : ℕ) → opcode_asked Asked.VXRS_EXT2 (Some (load_reversed_opcode code)) ≡ true
unfolding opcode_asked machine_rows row_for always_asked
load_reversed_asked code = number_if Asked.VXRS_EXT2 (nat_eq code 1) _ _ refl (number_if Asked.VXRS_EXT2 (nat_eq code 2) _ _ refl refl)

store_reversed_asked : (code : ℕ) → opcode_asked Asked.VXRS_EXT2 (Some (store_reversed_opcode code)) ≡ true
unfolding opcode_asked machine_rows row_for always_asked
store_reversed_asked code = number_if Asked.VXRS_EXT2 (nat_eq code 1) _ _ refl (number_if Asked.VXRS_EXT2 (nat_eq code 2) _ _ refl refl)

load_left_asked : (size register : ℕ) → form_asked Asked.Base (load_left size register) ≡ true
unfolding form_asked opcode_asked machine_rows row_for always_asked
load_left_asked size register = form_if Asked.Base (nat_eq size 32) (FloatForm register opcodes.LE opcodes.LEY) (FloatForm register opcodes.LD opcodes.LDY) refl refl

store_left_asked : (size register : ℕ) → form_asked Asked.Base (store_left size register) ≡ true
unfolding form_asked opcode_asked machine_rows row_for always_asked
store_left_asked size register = form_if Asked.Base (nat_eq size 32) (FloatForm register opcodes.STE opcodes.STEY) (FloatForm register opcodes.STD opcodes.STDY) refl refl

left_asked : (left : (size register : ℕ) → StorageForm) (opcode : ℕ → ℕ) (size lane : ℕ) (rd : Reg) (mem : MemArg) → form_asked Asked.Base (left size (number_of rd)) ≡ true → ((c : ℕ) → opcode_asked Asked.Base (Some (opcode c)) ≡ true)
    → memory_asked Asked.Base (left_or_lane left opcode size lane rd mem) ≡ true
left_asked left opcode size lane rd mem h k =
    memory_if Asked.Base (is_left_lane size lane (number_of rd)) (access_vector (is_vector rd) (left size (number_of rd)) mem) (access_lane (is_vector rd) opcode (number_of rd) (element_code size) size lane mem)
    (vector_access_asked Asked.Base (is_vector rd) (left size (number_of rd)) mem h) (one_element_asked Asked.Base (is_vector rd) opcode (number_of rd) (element_code size) size lane mem k)

operate_asked : (op : ALUOp) (rd ri : Reg) (mem : MemArg) → memory_asked Asked.Base (operate (is_some (alu_rx op) || is_some (alu_rxy op)) (alu_rx op) (alu_rxy op) rd ri mem) ≡ true
unfolding memory_asked form_asked opcode_asked machine_rows row_for always_asked
operate_asked Alu.Add32 rd ri mem = refl
operate_asked _ rd ri mem = refl

compare_asked : (op : CmpOp) (rn : Reg) (mem : MemArg) → memory_asked Asked.Base (compare rn (cmp_rx op) (cmp_rxy op) (cmp_ril op) mem) ≡ true
unfolding memory_asked form_asked opcode_asked machine_rows row_for always_asked
compare_asked Cmp.CmpS32 rn mem = refl
compare_asked _ rn mem = refl

atomic_asked : (op : ALUOp) (rd rn : Reg) (mem : MemArg) → memory_asked Asked.Base (load_and_operate (atomic_rsy op) rd rn mem) ≡ true
unfolding memory_asked form_asked opcode_asked machine_rows row_for always_asked
atomic_asked Alu.Add32 rd rn mem = refl
atomic_asked _ rd rn mem = refl

vector_memory_asked : (v : VecInst) → memory_asked (facility_of (I.Vector v)) (vector_memory v) ≡ true
unfolding memory_asked form_asked opcode_asked machine_rows row_for always_asked
vector_memory_asked (V.VecLoadReplicate size rd mem) = elements_asked Asked.Base opcodes.VLREP rd (element_code size) mem refl
vector_memory_asked (V.VecLoadReplicateRev size rd mem) = elements_asked Asked.VXRS_EXT2 opcodes.VLBRREP rd (reversed_code size) mem refl
vector_memory_asked (V.VecLoadLane size rd ri mem lane) = one_element_asked Asked.Base (reuses_vector rd ri) load_lane_opcode (number_of rd) (element_code size) size lane mem load_lane_asked
vector_memory_asked (V.VecLoadLaneRev size rd ri mem lane) = one_element_asked Asked.VXRS_EXT2 (reuses_vector rd ri) load_reversed_opcode (number_of rd) (reversed_code size) size lane mem load_reversed_asked
vector_memory_asked (V.VecLoadLaneUndef size rd mem lane) = left_asked load_left load_lane_opcode size lane rd mem (load_left_asked size (number_of rd)) load_lane_asked
vector_memory_asked (V.VecLoadLaneRevUndef size rd mem lane) = one_element_asked Asked.VXRS_EXT2 (is_vector rd) load_reversed_opcode (number_of rd) (reversed_code size) size lane mem load_reversed_asked
vector_memory_asked (V.VecStoreLane size rd mem lane) = left_asked store_left store_lane_opcode size lane rd mem (store_left_asked size (number_of rd)) store_lane_asked
vector_memory_asked (V.VecStoreLaneRev size rd mem lane) = one_element_asked Asked.VXRS_EXT2 (is_vector rd) store_reversed_opcode (number_of rd) (reversed_code size) size lane mem store_reversed_asked
vector_memory_asked v = refl

each_memory_asked : (i : Inst) → memory_asked (facility_of i) (memory i) ≡ true
unfolding memory_asked form_asked opcode_asked machine_rows row_for always_asked
each_memory_asked (I.AluRX op rd ri mem) = operate_asked op rd ri mem
each_memory_asked (I.CmpRX op rn mem) = compare_asked op rn mem
each_memory_asked (I.AtomicRmw op rd rn mem) = atomic_asked op rd rn mem
each_memory_asked (I.Vector v) = vector_memory_asked v
-- of an instruction without an operand in memory the facility doesn't count
each_memory_asked i = refl

opcode_is_allowed : (f : IsaFlags) (asked : InstructionSet) (opcode : ℕ) → opcode_asked asked (Some opcode) ≡ true → has_facility f asked ≡ true → AllowsOpcode f opcode
unfolding opcode_asked
opcode_is_allowed f asked opcode is has fields = asked_is_had f _ asked (always_is _ fields asked is) has

where_is_allowed : (f : IsaFlags) (asked : InstructionSet) (o : Option ℕ) → opcode_asked asked o ≡ true → has_facility f asked ≡ true → AllowsOpcodeWhere f o
where_is_allowed f asked None is has = tt
where_is_allowed f asked (Some opcode) is has = opcode_is_allowed f asked opcode is has

form_is_allowed : (f : IsaFlags) (asked : InstructionSet) (form : StorageForm) → form_asked asked form ≡ true → has_facility f asked ≡ true → AllowsForm f form
unfolding form_asked
form_is_allowed f asked (RxForm register rx rxy ril) is has =
    let t = and_parts (opcode_asked asked rx) (opcode_asked asked rxy && opcode_asked asked ril) is in
    let u = and_parts (opcode_asked asked rxy) (opcode_asked asked ril) t.1 in
    (where_is_allowed f asked rx t.0 has, where_is_allowed f asked rxy u.0 has, where_is_allowed f asked ril u.1 has)
form_is_allowed f asked (RsForm first second rs rsy) is has =
    let t = and_parts (opcode_asked asked rs) (opcode_asked asked rsy) is in
    (where_is_allowed f asked rs t.0 has, where_is_allowed f asked rsy t.1 has)
form_is_allowed f asked (SiForm imm si siy) is has =
    let t = and_parts (opcode_asked asked (Some si)) (opcode_asked asked (Some siy)) is in
    (opcode_is_allowed f asked si t.0 has, opcode_is_allowed f asked siy t.1 has)
form_is_allowed f asked (SilForm bits sil) is has = opcode_is_allowed f asked sil is has
form_is_allowed f asked (VrxForm register vrx mask) is has = opcode_is_allowed f asked vrx is has
form_is_allowed f asked (FloatForm register rx rxy) is has =
    let t = and_parts (opcode_asked asked (Some rx)) (opcode_asked asked (Some rxy)) is in
    (opcode_is_allowed f asked rx t.0 has, opcode_is_allowed f asked rxy t.1 has)

memory_is_allowed : (f : IsaFlags) (asked : InstructionSet) (o : Option MemoryInstruction) → memory_asked asked o ≡ true → has_facility f asked ≡ true → AllowsMemory f o
unfolding memory_asked
memory_is_allowed f asked None is has = tt
memory_is_allowed f asked (Some x) is has = form_is_allowed f asked x.form is has

pub access_is_allowed : (f : IsaFlags) (i : Inst) → has_facility f (facility_of i) ≡ true → AllowsMemory f (memory i)
access_is_allowed f i has = memory_is_allowed f (facility_of i) (memory i) (each_memory_asked i) has
