-- Where the registers of an instruction with a memory operand are general ones, its rows can be encoded.
use Rattle.std.proofs.Common.{◌≡◌, ℕ, true, not, ◌&&◌, ◌||◌, Option, nat_le, refl}
use Rattle.std.proofs.lemmas.Bool.{and_parts, and_from}
use Rattle.s390x_base.specs.Regs.{number_of}
use Rattle.s390x_base.specs.declared.regs.Reg.{Reg}
use Rattle.s390x_enc.specs.Operands.{is_general_class as encodes_general}
use Rattle.s390x_inst.specs.declared.load.LoadOp.{LoadOp}
use Rattle.s390x_inst.specs.declared.load.LoadOp.TheVariants.{Load64}
use Rattle.s390x_inst.specs.declared.store.StoreOp.{StoreOp}
use Rattle.s390x_inst.specs.declared.store.StoreOp.TheVariants.{Store64}
use Rattle.s390x_typed_steps.specs.Memory.{load_rows, store_rows}
use Rattle.s390x_typed_steps.specs.General.{is_general, reuses}
use Rattle.s390x_typed_steps.specs.Memory.{is_range}
use Rattle.s390x_address.specs.Rows.{rows_take_general, has_12_bits}
use Rattle.s390x_emit_rows.proofs.Encoding.{implied, one_general, reused}

opcodes_encode : (r : Reg) (rx rxy : Option ℕ) → (rows_take_general rx && rows_take_general rxy) ≡ true → encodes_general r ≡ true → (encodes_general r && rows_take_general rx && rows_take_general rxy) ≡ true
opcodes_encode r rx rxy h g =
    let p = and_parts (rows_take_general rx) (rows_take_general rxy) h in
    and_from (encodes_general r && rows_take_general rx) (rows_take_general rxy) (and_from (encodes_general r) (rows_take_general rx) g p.0) p.1

-- the rows of loads: the last clause is a copy for each
pub load_rows_encode : (op : LoadOp) → (rows_take_general (load_rows op).rx && rows_take_general (load_rows op).rxy && has_12_bits (load_rows op).ril) ≡ true
load_rows_encode Load64 = refl
load_rows_encode op = refl

-- those of stores, likewise
pub store_rows_encode : (op : StoreOp) → (rows_take_general (store_rows op).rx && rows_take_general (store_rows op).rxy && has_12_bits (store_rows op).ril) ≡ true
store_rows_encode Store64 = refl
store_rows_encode op = refl

-- one register
pub register_encodes : (r : Reg) (rx rxy ril : Option ℕ) → (rows_take_general rx && rows_take_general rxy && has_12_bits ril) ≡ true → (has_12_bits ril && (not (is_general r) || (encodes_general r && rows_take_general rx && rows_take_general rxy))) ≡ true
register_encodes r rx rxy ril h =
    let p = and_parts (rows_take_general rx && rows_take_general rxy) (has_12_bits ril) h in
    and_from (has_12_bits ril) _ p.1 (implied (is_general r) _ (λ g. opcodes_encode r rx rxy p.0 (one_general r g)))

-- one that is an input too
pub reused_encodes : (a b : Reg) (rx rxy : Option ℕ) → rows_take_general rx ≡ true → rows_take_general rxy ≡ true → (not (reuses a b) || (encodes_general a && rows_take_general rx && rows_take_general rxy)) ≡ true
reused_encodes a b rx rxy h k = implied (reuses a b) _ (λ g. opcodes_encode a rx rxy (and_from (rows_take_general rx) (rows_take_general rxy) h k) (one_general a (reused a b g)))

pair_general : (a b : Reg) → is_general a ≡ true → is_general b ≡ true → (encodes_general a && encodes_general b) ≡ true
pair_general a b h k = and_from (encodes_general a) (encodes_general b) (one_general a h) (one_general b k)

-- two registers
pub two_encode : (a b : Reg) → (not (is_general a && is_general b) || (encodes_general a && encodes_general b)) ≡ true
two_encode a b = implied (is_general a && is_general b) _ (λ g. let p = and_parts (is_general a) (is_general b) g in pair_general a b p.0 p.1)

-- two in order
pub range_encodes : (a b : Reg) → (not (is_range a b) || (encodes_general a && encodes_general b)) ≡ true
range_encodes a b = implied (is_range a b) _ (λ g.
    let p = and_parts (is_general a && is_general b) (nat_le (number_of a) (number_of b)) g in
    let q = and_parts (is_general a) (is_general b) p.0 in
    pair_general a b q.0 q.1)

-- one that is an input too, and another one
pub swap_encodes : (a b c : Reg) → (not (reuses a b && is_general c) || (encodes_general a && encodes_general c)) ≡ true
swap_encodes a b c = implied (reuses a b && is_general c) _ (λ g. let p = and_parts (reuses a b) (is_general c) g in pair_general a c (reused a b p.0) p.1)
