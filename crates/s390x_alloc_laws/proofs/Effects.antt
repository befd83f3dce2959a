-- Which registers an operation writes, and that it leaves the others.
use Rattle.std.proofs.Common.{◌≡◌, ℕ, zero, suc, ◌+◌, ◌*◌, ◌%◌, ◌==◌, cond, Bool, true, false, List, [], ◌∷◌, Option, Some, None, refl, sym, ap, ◌∙◌}
use Rattle.std.proofs.lemmas.Bool.{eqb-true}
use Rattle.s390x_base.specs.Registers.{general, vector}
use Rattle.s390x_base.specs.declared.regs.Reg.{Reg}
use Rattle.s390x_base.specs.declared.regs.Reg.TheVariants.{Real}
use Rattle.s390x_operations.specs.State.{Registers, Core, update, set_general, set_vector, with_code, number_at, wrapping_add64}
use Rattle.s390x_operations.specs.Values.{value, operand_value}
use Rattle.s390x_operations.specs.Numbers.{modulus, signed_number}
use Rattle.s390x_operations.specs.Unsigned.{wide_product, signed_division, unsigned_division}
use Rattle.s390x_operations.specs.Bits.{leftmost}
use Rattle.s390x_operations.specs.Effects.{Results, results, with_low_part, number_in_memory, set_sized, set_pair, set_divided, set_multiple}
use Rattle.s390x_operations.specs.declared.effect.Effect.{Effect}
use Rattle.s390x_operations.specs.declared.effect.Effect.TheVariants.{Compute, MultiplyPair, DividePair, DivideLogicalPair, FindLeftmostOne, LoadAndOperate, CompareAndSwap, LoadMultiple, Havoc}
use Rattle.s390x_operations.specs.declared.effect.Effect.TheVariants.{ComputeVector, PutVector, LoadVector}
use Rattle.s390x_operations.specs.declared.effect.Operation.{Operation}
use Rattle.s390x_operations.specs.declared.operand.Pair.{Pair}
use Rattle.s390x_operations.specs.declared.size.Size.{Size}
use Rattle.s390x_operations.specs.declared.size.Size.TheVariants.{Doubleword}
use Rattle.s390x_operations.specs.declared.stop.ConditionCode.{ConditionCode}
use Rattle.s390x_machine.specs.Storage.{aligned_effect, aligned_where}
use Rattle.s390x_alloc_laws.specs.Outputs.{IsApart, KeepsOthers}

-- ---- lists of registers

-- what isn't one of the first isn't one of the second
abbrev pub Covers : (changed written : List Reg) → Type 0
Covers changed written = (q : Reg) → IsApart q changed → IsApart q written

pub widened : (changed written : List Reg) (before behind : Registers) → Covers changed written → KeepsOthers written before behind → KeepsOthers changed before behind
widened changed written before behind f k = record {
  general = λ n m. k.general n (f (Real (general n)) m);
  vector = λ n m. k.vector n (f (Real (vector n)) m);
  access = k.access;
}

pub kept_all : (changed : List Reg) (r : Registers) → KeepsOthers changed r r
kept_all changed r = record { general = λ n m. refl; vector = λ n m. refl; access = λ n. refl }

pub kept_twice : (changed : List Reg) (a b c : Registers) → KeepsOthers changed a b → KeepsOthers changed b c → KeepsOthers changed a c
kept_twice changed a b c k l = record {
  general = λ n m. l.general n m ∙ k.general n m;
  vector = λ n m. l.vector n m ∙ k.vector n m;
  access = λ n. l.access n ∙ k.access n;
}

pub kept_by : (changed : List Reg) (a b c : Registers) → c ≡ b → KeepsOthers changed a b → KeepsOthers changed a c
kept_by changed a b c e k = record {
  general = λ n m. ap (λ (r : Registers). r.general n) e ∙ k.general n m;
  vector = λ n m. ap (λ (r : Registers). r.vector n) e ∙ k.vector n m;
  access = λ n. ap (λ (r : Registers). r.access n) e ∙ k.access n;
}

-- ---- one register

update_other : (f : ℕ → ℕ) (i v k : ℕ) → (i ≡ k → ⊥) → update f i v k ≡ f k
update_other f i v k other = elim (k == i) as (λ b. ((b ≡ true) → ⊥) → cond b v (f k) ≡ f k) [ true ↦ (λ g. absurd (g refl)) | false ↦ (λ g. refl) ] (λ e. other (sym (eqb-true k i e)))

pub general_set : (r : Registers) (i v : ℕ) → KeepsOthers (Real (general i) ∷ []) r (set_general r i v)
general_set r i v = record {
  general = λ n m. update_other r.general i v n (λ e. m.0 (ap (λ (x : ℕ). Real (general x)) e));
  vector = λ n m. refl;
  access = λ n. refl;
}

pub vector_set : (r : Registers) (i v : ℕ) → KeepsOthers (Real (vector i) ∷ []) r (set_vector r i v)
vector_set r i v = record {
  general = λ n m. refl;
  vector = λ n m. update_other r.vector i v n (λ e. m.0 (ap (λ (x : ℕ). Real (vector x)) e));
  access = λ n. refl;
}

-- the condition code is no register
pub coded : (changed : List Reg) (code : ConditionCode) (a b : Registers) → KeepsOthers changed a b → KeepsOthers changed a (with_code code b)
coded changed code a b k = record { general = k.general; vector = k.vector; access = k.access }

-- ---- effects

-- an even register and the next one
abbrev pub pair_targets : ℕ → List Reg
pair_targets pair = Real (general pair) ∷ Real (general (pair + 1)) ∷ []

-- so many registers from one on, register 0 after 15
abbrev pub multiple_targets : (first count : ℕ) → List Reg
multiple_targets first zero = []
multiple_targets first (suc n) = Real (general ((first + n) % 16)) ∷ multiple_targets first n

-- the registers that it may write
abbrev pub written : Effect → List Reg
written (Compute operator size target first second) = Real (general target) ∷ []
written (MultiplyPair sign pair first second) = pair_targets pair
written (DividePair pair dividend divisor) = pair_targets pair
written (DivideLogicalPair size pair high low divisor) = pair_targets pair
written (FindLeftmostOne pair x) = pair_targets pair
written (LoadAndOperate operator size target second address) = Real (general target) ∷ []
written (CompareAndSwap size target expected replacement address) = Real (general target) ∷ []
written (LoadMultiple first_register count address) = multiple_targets first_register count
written (Havoc target) = Real (general target) ∷ []
written (ComputeVector operation target first second third fourth) = Real (vector target) ∷ []
written (PutVector target known x) = Real (vector target) ∷ []
written (LoadVector layout target old known address) = Real (vector target) ∷ []
written _ = []

sized_set : (size : Size) (r : Registers) (target x : ℕ) → KeepsOthers (Real (general target) ∷ []) r (set_sized size r target x)
sized_set size r target x = general_set r target (with_low_part size (r.general target) x)

pair_set : (size : Size) (r : Registers) (pair : ℕ) (p : Pair) → KeepsOthers (pair_targets pair) r (set_pair size r pair p)
pair_set size r pair p =
    let half : Registers = set_sized size r pair p.high in
    let one : KeepsOthers (pair_targets pair) r half = widened (pair_targets pair) (Real (general pair) ∷ []) r half (λ q m. (m.0, tt)) (sized_set size r pair p.high) in
    let two : KeepsOthers (pair_targets pair) half (set_pair size r pair p) = widened (pair_targets pair) (Real (general (pair + 1)) ∷ []) half (set_pair size r pair p) (λ q m. m.1) (sized_set size half (pair + 1) p.low) in
    kept_twice (pair_targets pair) r half (set_pair size r pair p) one two

divided_set : (size : Size) (r : Registers) (pair : ℕ) (o : Option Pair) → KeepsOthers (pair_targets pair) r (set_divided size r pair o)
divided_set size r pair None = kept_all (pair_targets pair) r
divided_set size r pair (Some p) = pair_set size r pair p

multiple_set : (r : Registers) (f : ℕ → ℕ) (first address count : ℕ) → KeepsOthers (multiple_targets first count) r (set_multiple r f first address count)
multiple_set r f first address zero = kept_all [] r
multiple_set r f first address (suc n) =
    let half : Registers = set_multiple r f first address n in
    let i : ℕ = (first + n) % 16 in
    let all : List Reg = multiple_targets first (suc n) in
    let one : KeepsOthers all r half = widened all (multiple_targets first n) r half (λ q m. m.1) (multiple_set r f first address n) in
    let two : KeepsOthers all half (set_multiple r f first address (suc n)) = widened all (Real (general i) ∷ []) half (set_multiple r f first address (suc n)) (λ q m. (m.0, tt)) (general_set half i (number_at f (wrapping_add64 address (8 * n)) 8)) in
    kept_twice all r half (set_multiple r f first address (suc n)) one two

-- what it does, where nothing is free
determined : (effect : Effect) (c : Core) → KeepsOthers (written effect) c.registers (results effect c)
determined (Compute operator size target first second) c = sized_set size c.registers target (value operator size first (operand_value size second c.memory))
determined (MultiplyPair sign pair first second) c = pair_set Doubleword c.registers pair (wide_product sign first second)
determined (DividePair pair dividend divisor) c = divided_set Doubleword c.registers pair (signed_division (signed_number Doubleword dividend) (signed_number Doubleword divisor))
determined (DivideLogicalPair size pair high low divisor) c = divided_set size c.registers pair (unsigned_division size (high * modulus size + low) divisor)
determined (FindLeftmostOne pair x) c = pair_set Doubleword c.registers pair (leftmost x)
determined (LoadAndOperate operator size target second address) c = sized_set size c.registers target (number_in_memory size c.memory address)
determined (CompareAndSwap size target expected replacement address) c = sized_set size c.registers target (number_in_memory size c.memory address)
determined (LoadMultiple first_register count address) c = multiple_set c.registers c.memory.get first_register address count
determined effect c = kept_all (written effect) c.registers

behind_code : (changed : List Reg) (c : Core) (r b : Registers) → r ≡ with_code r.code b → KeepsOthers changed c.registers b → KeepsOthers changed c.registers r
behind_code changed c r b e k = kept_by changed c.registers (with_code r.code b) r e (coded changed r.code c.registers b k)

pub effect_keeps : (effect : Effect) (c : Core) (r : Registers) → Results effect c r → KeepsOthers (written effect) c.registers r
effect_keeps (Havoc target) c r h = behind_code (Real (general target) ∷ []) c r (set_general c.registers target h.0) h.2 (general_set c.registers target h.0)
effect_keeps (ComputeVector operation target first second third fourth) c r h = behind_code (Real (vector target) ∷ []) c r (set_vector c.registers target h.0) h.2 (vector_set c.registers target h.0)
effect_keeps (PutVector target known x) c r h = behind_code (Real (vector target) ∷ []) c r (set_vector c.registers target h.0) h.3 (vector_set c.registers target h.0)
effect_keeps (LoadVector layout target old known address) c r h = behind_code (Real (vector target) ∷ []) c r (set_vector c.registers target h.0) h.3 (vector_set c.registers target h.0)
effect_keeps effect c r h = behind_code (written effect) c r (results effect c) h (determined effect c)

-- an aligned access writes the same
aligned_written : (effect : Effect) → written (aligned_effect effect) ≡ written effect
aligned_written (Compute operator size target first second) = refl
aligned_written effect = refl

pub written_where : (aligned : Bool) (op : Operation) → written (aligned_where aligned op).effect ≡ written op.effect
written_where false op = refl
written_where true op = aligned_written op.effect
