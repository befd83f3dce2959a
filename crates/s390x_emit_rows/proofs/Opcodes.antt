-- What the opcodes of operators are, by their tables.
use Rattle.std.proofs.Common.{◌≡◌, ℕ, ◌<◌, ◌&&◌, Bool, true, false, cond, Option, Some, None, nat_eq, nat_lt, ltb-true, refl, subst}
use Rattle.std.proofs.lemmas.Bool.{and_parts}
use Rattle.s390x_inst.specs.declared.ops.ALUOp.{ALUOp}
use Rattle.s390x_inst.specs.declared.ops.ALUOp.TheVariants as Alu
use Rattle.s390x_inst.specs.declared.ops.CmpOp.{CmpOp}
use Rattle.s390x_inst.specs.declared.ops.CmpOp.TheVariants as Cmp
use Rattle.s390x_address.specs.Rows.{rows_take_general, has_12_bits}
use Rattle.s390x_typed_steps.specs.Opcodes.{alu_halfword, alu_signed_word, alu_unsigned_word, cmp_halfword, cmp_signed_word, cmp_unsigned_word, alu_rows, opcode_of_part, alu_part, alu_half, load_part, load_half, insert_part, insert_half, extend_to_word, extend_to_doubleword, extend_two, indexed_opcode, logical_indexed_opcode}
use Rattle.s390x_typed_steps.specs.declared.operator_rows.PartRows.{PartRows}
use Rattle.s390x_typed_steps.specs.declared.operator_rows.PartRows.TheVariants.{Lacking, One, Two, Four}
use Rattle.s390x_typed_steps.specs.declared.move_rows.TheConstants.{INSERT_HALVES, INSERT_PARTS, LOAD_HALVES, LOAD_PARTS}
use Rattle.s390x_emit_rows.specs.SingleInstruction.{takes_general}
use Rattle.s390x_typed_steps.specs.Storage.{alu_rx, alu_rxy, cmp_rx, cmp_rxy, cmp_ril}

-- ---- those of three digits
pub below_12_bits : (o : Option ℕ) (opcode : ℕ) → o ≡ Some opcode → has_12_bits o ≡ true → opcode < 4096
below_12_bits o opcode is h = ltb-true opcode 4096 (subst (λ (x : Option ℕ). has_12_bits x ≡ true) is h)

pub alu_halfword_short : (op : ALUOp) → has_12_bits (alu_halfword op) ≡ true
alu_halfword_short Alu.Add32 = refl
alu_halfword_short _ = refl

pub alu_signed_word_short : (op : ALUOp) → has_12_bits (alu_signed_word op) ≡ true
alu_signed_word_short Alu.Add32 = refl
alu_signed_word_short _ = refl

pub alu_unsigned_word_short : (op : ALUOp) → has_12_bits (alu_unsigned_word op) ≡ true
alu_unsigned_word_short Alu.Add32 = refl
alu_unsigned_word_short _ = refl

pub cmp_halfword_short : (op : CmpOp) → has_12_bits (cmp_halfword op) ≡ true
cmp_halfword_short Cmp.CmpS32 = refl
cmp_halfword_short _ = refl

pub cmp_signed_word_short : (op : CmpOp) → has_12_bits (cmp_signed_word op) ≡ true
cmp_signed_word_short Cmp.CmpS32 = refl
cmp_signed_word_short _ = refl

pub cmp_unsigned_word_short : (op : CmpOp) → has_12_bits (cmp_unsigned_word op) ≡ true
cmp_unsigned_word_short Cmp.CmpS32 = refl
cmp_unsigned_word_short _ = refl

pub cmp_ril_short : (op : CmpOp) → has_12_bits (Some (cmp_ril op)) ≡ true
cmp_ril_short Cmp.CmpS32 = refl
cmp_ril_short _ = refl

-- ---- those whose register is a general one
pub alu_rx_general : (op : ALUOp) → rows_take_general (alu_rx op) ≡ true
alu_rx_general Alu.Add32 = refl
alu_rx_general _ = refl

pub alu_rxy_general : (op : ALUOp) → rows_take_general (alu_rxy op) ≡ true
alu_rxy_general Alu.Add32 = refl
alu_rxy_general _ = refl

pub cmp_rx_general : (op : CmpOp) → rows_take_general (cmp_rx op) ≡ true
cmp_rx_general Cmp.CmpS32 = refl
cmp_rx_general _ = refl

pub cmp_rxy_general : (op : CmpOp) → rows_take_general (cmp_rxy op) ≡ true
cmp_rxy_general Cmp.CmpS32 = refl
cmp_rxy_general _ = refl

-- ---- those on parts of a register

short_if : (b : Bool) (x y : Option ℕ) → has_12_bits x ≡ true → has_12_bits y ≡ true → has_12_bits (cond b x y) ≡ true
short_if true x y p q = p
short_if false x y p q = q

abbrev are_short : PartRows → Bool
are_short Lacking = true
are_short (One zeroth) = nat_lt zeroth 4096
are_short (Two zeroth first) = nat_lt zeroth 4096 && nat_lt first 4096
are_short (Four zeroth first second third) = (nat_lt zeroth 4096 && nat_lt first 4096) && (nat_lt second 4096 && nat_lt third 4096)

part_short : (rows : PartRows) (n : ℕ) → are_short rows ≡ true → has_12_bits (opcode_of_part rows n) ≡ true
part_short Lacking n h = refl
part_short (One zeroth) n h = short_if (nat_eq n 0) (Some zeroth) None h refl
part_short (Two zeroth first) n h =
    let t = and_parts (nat_lt zeroth 4096) (nat_lt first 4096) h in
    short_if (nat_eq n 0) (Some zeroth) (cond (nat_eq n 1) (Some first) None) t.0 (short_if (nat_eq n 1) (Some first) None t.1 refl)
part_short (Four zeroth first second third) n h =
    let t = and_parts (nat_lt zeroth 4096 && nat_lt first 4096) (nat_lt second 4096 && nat_lt third 4096) h in
    let l = and_parts (nat_lt zeroth 4096) (nat_lt first 4096) t.0 in
    let r = and_parts (nat_lt second 4096) (nat_lt third 4096) t.1 in
    short_if (nat_eq n 0) (Some zeroth) (cond (nat_eq n 1) (Some first) (cond (nat_eq n 2) (Some second) (cond (nat_eq n 3) (Some third) None))) l.0
    (short_if (nat_eq n 1) (Some first) (cond (nat_eq n 2) (Some second) (cond (nat_eq n 3) (Some third) None)) l.1
    (short_if (nat_eq n 2) (Some second) (cond (nat_eq n 3) (Some third) None) r.0 (short_if (nat_eq n 3) (Some third) None r.1 refl)))

alu_parts_short : (op : ALUOp) → are_short (alu_rows op).parts ≡ true
alu_parts_short Alu.Add32 = refl
alu_parts_short _ = refl

alu_halves_short : (op : ALUOp) → are_short (alu_rows op).halves ≡ true
alu_halves_short Alu.Add32 = refl
alu_halves_short _ = refl

pub alu_part_short : (op : ALUOp) (shift : ℕ) → has_12_bits (alu_part op shift) ≡ true
alu_part_short op shift = part_short (alu_rows op).parts shift (alu_parts_short op)

pub alu_half_short : (op : ALUOp) (shift : ℕ) → has_12_bits (alu_half op shift) ≡ true
alu_half_short op shift = part_short (alu_rows op).halves shift (alu_halves_short op)

pub load_part_short : (shift : ℕ) → has_12_bits (load_part shift) ≡ true
load_part_short shift = part_short LOAD_PARTS shift refl

pub load_half_short : (shift : ℕ) → has_12_bits (load_half shift) ≡ true
load_half_short shift = part_short LOAD_HALVES shift refl

pub insert_part_short : (shift : ℕ) → has_12_bits (insert_part shift) ≡ true
insert_part_short shift = part_short INSERT_PARTS shift refl

pub insert_half_short : (shift : ℕ) → has_12_bits (insert_half shift) ≡ true
insert_half_short shift = part_short INSERT_HALVES shift refl

-- ---- those of extensions and of indexed addresses, whose registers are general ones

general_if : (b : Bool) (x y : Option ℕ) → takes_general x ≡ true → takes_general y ≡ true → takes_general (cond b x y) ≡ true
general_if true x y p q = p
general_if false x y p q = q

word_general : (signed : Bool) (from : ℕ) → takes_general (extend_to_word signed from) ≡ true
word_general true from = general_if (nat_eq from 1) _ _ refl (general_if (nat_eq from 8) _ _ refl (general_if (nat_eq from 16) _ _ refl refl))
word_general false from = general_if (nat_eq from 1) _ _ refl (general_if (nat_eq from 8) _ _ refl (general_if (nat_eq from 16) _ _ refl refl))

doubleword_general : (signed : Bool) (from : ℕ) → takes_general (extend_to_doubleword signed from) ≡ true
doubleword_general true from = general_if (nat_eq from 1) _ _ refl (general_if (nat_eq from 8) _ _ refl (general_if (nat_eq from 16) _ _ refl (general_if (nat_eq from 32) _ _ refl refl)))
doubleword_general false from = general_if (nat_eq from 1) _ _ refl (general_if (nat_eq from 8) _ _ refl (general_if (nat_eq from 16) _ _ refl (general_if (nat_eq from 32) _ _ refl refl)))

pub extend_general : (signed : Bool) (from to : ℕ) → takes_general (extend_two signed from to) ≡ true
extend_general signed from to =
    general_if (nat_eq to 32) (extend_to_word signed from) (cond (nat_eq to 64) (extend_to_doubleword signed from) None) (word_general signed from)
    (general_if (nat_eq to 64) (extend_to_doubleword signed from) None (doubleword_general signed from) refl)

pub indexed_general : (size : ℕ) → takes_general (indexed_opcode size) ≡ true
indexed_general size = general_if (nat_eq size 1) _ _ refl (general_if (nat_eq size 2) _ _ refl (general_if (nat_eq size 3) _ _ refl (general_if (nat_eq size 4) _ _ refl refl)))

pub logical_indexed_general : (size : ℕ) → takes_general (logical_indexed_opcode size) ≡ true
logical_indexed_general size = general_if (nat_eq size 1) _ _ refl (general_if (nat_eq size 2) _ _ refl (general_if (nat_eq size 3) _ _ refl (general_if (nat_eq size 4) _ _ refl refl)))
