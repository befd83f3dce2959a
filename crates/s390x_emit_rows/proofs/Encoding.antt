-- Where the registers of an instruction are general ones, its row can be encoded.
use Rattle.std.proofs.Common.{◌≡◌, ℕ, ◌<◌, Bool, true, false, not, ◌&&◌, cond, List, Some, refl, ap, ◌∙◌, nat_eq}
use Rattle.std.proofs.Common.{Result, Ok, Err, MatchResult}
use Rattle.s390x_base.specs.declared.error.EmitError.{EmitError}
use Rattle.s390x_base.specs.declared.error.EmitError.TheVariants.{BadRegister}
use Rattle.std.proofs.lemmas.Bool.{and_parts, and_from, not-true, lt-ltb}
use Rattle.s390x_base.specs.Regs.{number_of}
use Rattle.s390x_base.specs.declared.regs.Reg.{Reg}
use Rattle.s390x_base.specs.declared.regs.RegPair.{RegPair}
use Rattle.s390x_base.specs.declared.regs.WritableRegPair.{WritableRegPair}
use Rattle.s390x_base.specs.declared.regs.Reg.TheVariants.{Real}
use Rattle.s390x_enc.specs.Operands.{is_first_float, is_second_float, is_float, may_stand_first, is_general_class as encodes_general}
use Rattle.s390x_format.specs.declared.kind.FormatKind.{FormatKind}
use Rattle.s390x_format.specs.Encoded.{IsCode}
use Rattle.s390x_inst.specs.declared.ops.ALUOp.{ALUOp}
use Rattle.s390x_inst.specs.declared.ops.ALUOp.TheVariants.{Add32}
use Rattle.s390x_inst.specs.declared.ops.CmpOp.{CmpOp}
use Rattle.s390x_inst.specs.declared.ops.CmpOp.TheVariants.{CmpS32}
use Rattle.s390x_inst.specs.declared.ops.UnaryOp.{UnaryOp}
use Rattle.s390x_inst.specs.declared.ops.UnaryOp.TheVariants.{Abs32}
use Rattle.s390x_base.specs.Registers.{general}
use Rattle.s390x_base.specs.Regs.{is_pair}
use Rattle.s390x_typed_steps.specs.General.{is_general, is_even_pair, reuses, reuses_pair}
use Rattle.s390x_typed_steps.specs.Opcodes.{alu_two, cmp_two, unary_two}
use Rattle.s390x_typed_steps.specs.SingleCode.{code_where}
use Rattle.s390x_emit_rows.specs.SingleInstruction.{implies, takes_general}
pub use Rattle.s390x_address.proofs.Encoding.{implied, follows, one_general}
pub use Rattle.s390x_emit_vec.proofs.Encoding.{encoded}

-- the answer of an encoding call that tests all that has to hold
pub encoded_where : (valid ok : Bool) (kind : FormatKind) (slots : List ℕ) (r : Result (List ℕ) EmitError) → MatchResult r (λ code. (ok ≡ true) × IsCode kind slots code) (λ e. (e ≡ BadRegister) × (ok ≡ false)) → valid ≡ ok → r ≡ code_where valid (record { format = kind; slots = slots })
unfolding code_where
encoded_where valid ok kind slots (Ok code) m same = rw (same ∙ m.0) (ap Ok m.1.bytes_are)
encoded_where valid ok kind slots (Err e) m same = rw (same ∙ m.1) (ap Err m.0)

-- three tests by others that agree
pub all_three : (a b c x y z : Bool) → a ≡ x → b ≡ y → c ≡ z → (a && b && c) ≡ (x && y && z)
all_three a b c x y z e f g = rw e (rw f (rw g refl))

stands_first : (opcode : ℕ) (r : Reg) → not (is_first_float opcode) ≡ true → encodes_general r ≡ true → may_stand_first opcode r ≡ true
stands_first opcode r h g = ap (λ x. cond x (is_float r) (encodes_general r)) (not-true (is_first_float opcode) h) ∙ g

pub two_encode : (r1 r2 : Reg) → (is_general r1 && is_general r2) ≡ true → (encodes_general r1 && encodes_general r2) ≡ true
two_encode r1 r2 g = let p = and_parts (is_general r1) (is_general r2) g in and_from (encodes_general r1) (encodes_general r2) (one_general r1 p.0) (one_general r2 p.1)

pub three_encode : (r1 r2 r3 : Reg) → (is_general r1 && is_general r2 && is_general r3) ≡ true → (encodes_general r1 && encodes_general r2 && encodes_general r3) ≡ true
three_encode r1 r2 r3 g =
    let p = and_parts (is_general r1 && is_general r2) (is_general r3) g in
    and_from (encodes_general r1 && encodes_general r2) (encodes_general r3) (two_encode r1 r2 p.0) (one_general r3 p.1)

pub indexed_encodes : (opcode : ℕ) (r1 r2 r3 : Reg) → takes_general (Some opcode) ≡ true → (is_general r1 && is_general r2 && is_general r3) ≡ true → (may_stand_first opcode r1 && encodes_general r2 && encodes_general r3) ≡ true
indexed_encodes opcode r1 r2 r3 h g =
    let t = and_parts (not (is_first_float opcode)) (not (is_second_float opcode)) h in
    let p = and_parts (is_general r1 && is_general r2) (is_general r3) g in
    let q = and_parts (is_general r1) (is_general r2) p.0 in
    and_from (may_stand_first opcode r1 && encodes_general r2) (encodes_general r3) (and_from (may_stand_first opcode r1) (encodes_general r2) (stands_first opcode r1 t.0 (one_general r1 q.0)) (one_general r2 q.1)) (one_general r3 p.1)

-- a test implies itself
pub itself : (s : Bool) → implies s s ≡ true
itself s = implied s s (λ h. h)

-- of three registers the outer two
pub outer_general : (a b c : Bool) → implies (a && b && c) (a && c) ≡ true
outer_general a b c = implied (a && b && c) (a && c) (λ h. let p = and_parts (a && b) c h in let q = and_parts a b p.0 in and_from a c q.0 p.1)

-- of two tests the first
pub first_general : (a b : Bool) → implies (a && b) a ≡ true
first_general a b = implied (a && b) a (λ h. (and_parts a b h).0)

pub reused : (a b : Reg) → reuses a b ≡ true → is_general a ≡ true
reused a b h = let p = and_parts (is_general a && is_general b) (nat_eq (number_of a) (number_of b)) h in (and_parts (is_general a) (is_general b) p.0).0

-- an output that is an input
pub reused_general : (a b : Reg) → implies (reuses a b) (is_general a) ≡ true
reused_general a b = implied (reuses a b) (is_general a) (reused a b)

pub reused_pair_general : (a b c : Reg) → implies (reuses a b && is_general c) (is_general a && is_general c) ≡ true
reused_pair_general a b c = implied (reuses a b && is_general c) (is_general a && is_general c) (λ h. let p = and_parts (reuses a b) (is_general c) h in and_from (is_general a) (is_general c) (reused a b p.0) p.1)

-- an output that is an input, and another test
pub reused_tested_general : (a b : Reg) (t : Bool) → implies (reuses a b && t) (is_general a) ≡ true
reused_tested_general a b t = implied (reuses a b && t) (is_general a) (λ h. reused a b (and_parts (reuses a b) t h).0)

even_high : (a b : Reg) → is_even_pair a b ≡ true → is_general a ≡ true
even_high a b h = let p = and_parts (is_general a && is_general b) (is_pair a b) h in (and_parts (is_general a) (is_general b) p.0).0

-- an even pair by its first register
pub even_general : (a b c : Reg) → implies (is_even_pair a b && is_general c) (is_general a && is_general c) ≡ true
even_general a b c = implied (is_even_pair a b && is_general c) (is_general a && is_general c) (λ h. let p = and_parts (is_even_pair a b) (is_general c) h in and_from (is_general a) (is_general c) (even_high a b p.0) p.1)

even_tested : (a b : Reg) (t : Bool) (d : Reg) → implies (is_even_pair a b && t && is_general d) (is_general a && is_general d) ≡ true
even_tested a b t d = implied (is_even_pair a b && t && is_general d) (is_general a && is_general d) (λ h.
    let p = and_parts (is_even_pair a b && t) (is_general d) h in
    let q = and_parts (is_even_pair a b) t p.0 in
    and_from (is_general a) (is_general d) (even_high a b q.0) p.1)

pub even_reused_general : (a b c d : Reg) → implies (is_even_pair a b && reuses b c && is_general d) (is_general a && is_general d) ≡ true
even_reused_general a b c d = even_tested a b (reuses b c) d

pub even_reused_pair_general : (output : WritableRegPair) (input : RegPair) (d : Reg) → implies (is_even_pair output.hi output.lo && reuses_pair output input && is_general d) (is_general output.hi && is_general d) ≡ true
even_reused_pair_general output input d = even_tested output.hi output.lo (reuses_pair output input) d

-- no opcode of two registers has a float one
pub alu_two_general : (op : ALUOp) → takes_general (alu_two op) ≡ true
alu_two_general Add32 = refl
alu_two_general _ = refl

pub cmp_two_general : (op : CmpOp) → takes_general (cmp_two op) ≡ true
cmp_two_general CmpS32 = refl
cmp_two_general _ = refl

pub unary_two_general : (op : UnaryOp) → takes_general (unary_two op) ≡ true
unary_two_general Abs32 = refl
unary_two_general _ = refl

-- the register of a number stands where a general register does
pub numbered : (n : ℕ) → n < 16 → is_general (Real (general n)) ≡ true
numbered n lt = lt-ltb n 16 lt

pub with_access : (valid : Bool) (a : Reg) (n : ℕ) → n < 16 → implies valid (is_general a) ≡ true → implies valid (is_general a && is_general (Real (general n))) ≡ true
with_access valid a n lt h = implied valid _ (λ v. and_from (is_general a) (is_general (Real (general n))) (follows valid (is_general a) h v) (numbered n lt))
