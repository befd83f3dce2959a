-- Where a vector register may stand in a row with an operand in memory, the row can be encoded.
use Rattle.std.proofs.Common.{◌≡◌, ℕ, ◌*◌, ◌<◌, ◌≤◌, Bool, true, cond, not, ◌&&◌, ◌||◌, nat_lt, nat_eq, ap, ◌∙◌, arith}
use Rattle.std.proofs.lemmas.Bool.{and_parts, and_from, ltb-true, lt-ltb}
use Rattle.s390x_base.specs.Regs.{number_of}
use Rattle.s390x_base.specs.declared.regs.Reg.{Reg}
use Rattle.s390x_enc.specs.Operands.{is_first_float, is_float, may_stand_first, is_vector as encodes_vector, is_general_class as encodes_general}
use Rattle.s390x_inst.specs.declared.whole.WholeLayout.{WholeLayout}
use Rattle.s390x_inst.specs.declared.whole.WholeLayout.TheVariants.{Straight}
use Rattle.s390x_typed_steps.specs.Memory.{is_left_lane, layout_rows}
use Rattle.s390x_typed_steps.specs.VectorInstruction.{is_vector, is_lane}
use Rattle.s390x_emit_vec.proofs.Encoding.{vector_encodes, float_encodes}
use Rattle.s390x_address.proofs.Encoding.{implied}

pub masked_encodes : (valid : Bool) (r : Reg) (mask : ℕ) → (valid ≡ true → is_vector r ≡ true) → mask < 16 → (true && (not valid || (nat_lt mask 16 && encodes_vector r))) ≡ true
masked_encodes valid r mask h lt = implied valid (nat_lt mask 16 && encodes_vector r) (λ v. and_from (nat_lt mask 16) (encodes_vector r) (lt-ltb mask 16 lt) (vector_encodes r (h v)))

pub floats_encode : (r : Reg) (rx rxy : ℕ) → (is_first_float rx && is_first_float rxy) ≡ true → number_of r < 16 → (true && (not (is_vector r) || (may_stand_first rx r && may_stand_first rxy r))) ≡ true
floats_encode r rx rxy h lt = implied (is_vector r) (may_stand_first rx r && may_stand_first rxy r) (λ v.
    let p = and_parts (is_first_float rx) (is_first_float rxy) h in
    let float = float_encodes r v (lt-ltb (number_of r) 16 lt) in
    and_from (may_stand_first rx r) (may_stand_first rxy r) (ap (λ t. cond t (is_float r) (encodes_general r)) p.0 ∙ float) (ap (λ t. cond t (is_float r) (encodes_general r)) p.1 ∙ float))

-- elements of 8 bits and more are at most 16
pub few_lanes : (size lane : ℕ) → 8 ≤ size → is_lane size lane ≡ true → lane < 16
few_lanes size lane le h = below lane size le (ltb-true (lane * size) 128 h)
  where
    below : (lane size : ℕ) → 8 ≤ size → lane * size < 128 → lane < 16
    below lane size le lt = grind arith

-- a register that is a float one
pub left_low : (size lane register : ℕ) → is_left_lane size lane register ≡ true → register < 16
left_low size lane register h = ltb-true register 16 (and_parts ((nat_eq size 32 || nat_eq size 64) && nat_eq lane 0) (nat_lt register 16) h).1

-- the masks of whole registers: the last clause is a copy for each other layout
pub few_masks : (layout : WholeLayout) → (layout_rows layout).mask < 16
few_masks Straight = omega arith
few_masks layout = omega arith
