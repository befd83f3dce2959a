-- What an operation leaves in registers and memory lies in its ranges.
use Rattle.std.proofs.Common.{◌≡◌, ℕ, zero, suc, ◌+◌, ◌*◌, ◌/◌, ◌%◌, ◌^◌, ◌<◌, Bool, true, false, ◌==◌, if◌then◌else◌, Option, None, Some, refl, sym, subst, arith, eqb-true}
use Rattle.std.proofs.lemmas.Nat.{mod_below}
use Rattle.s390x_operations.specs.Numbers.{modulus, signed_number}
use Rattle.s390x_operations.specs.Unsigned.{wide_product, signed_division, unsigned_division, IsPairBelow}
use Rattle.s390x_operations.specs.Bits.{leftmost, IsWithin}
use Rattle.s390x_operations.specs.Values.{value, operand_value}
use Rattle.s390x_operations.specs.State.{Registers, Memory, Core, StoreEvent, set_general, set_vector, with_code, update, number_at, wrapping_add64, write_get, bytes_to, after_store}
use Rattle.s390x_operations.specs.Effects.{with_low_part, number_in_memory, set_sized, set_pair, set_divided, set_multiple, results, Results}
use Rattle.s390x_operations.specs.declared.size.Size.{Size}
use Rattle.s390x_operations.specs.declared.size.Size.TheVariants.{Doubleword}
use Rattle.s390x_operations.specs.declared.operand.Pair.{Pair}
use Rattle.s390x_operations.specs.declared.stop.ConditionCode.{ConditionCode}
use Rattle.s390x_operations.specs.declared.effect.Effect.{Effect}
use Rattle.s390x_operations.specs.declared.effect.Effect.TheVariants.{Compute, MultiplyPair, DividePair, DivideLogicalPair, FindLeftmostOne, LoadAndOperate, CompareAndSwap, LoadMultiple, Havoc, ComputeVector, PutVector, LoadVector}
use Rattle.s390x_machine.proofs.Lanes.{choice_lt}
use Rattle.s390x_machine.proofs.Values.{value_lt, taken_lt, number_lt, found_lt, merged_lt, product_below, leftmost_below, signed_below, unsigned_below}

-- the registers' numbers lie in their ranges
pub record RegistersFit (r : Registers) : Type 0 where
  pub general : (i : ℕ) → i < 16 → r.general i < 2 ^ 64
  pub vector : (i : ℕ) → i < 32 → r.vector i < 2 ^ 128
  pub access : (i : ℕ) → i < 16 → r.access i < 2 ^ 32

-- ---- one register, two or more

updated : (f : ℕ → ℕ) (target v i : ℕ) → i < 16 → (target < 16 → v < 2 ^ 64) → f i < 2 ^ 64 → (b : Bool) → (i == target) ≡ b → (if b then v else f i) < 2 ^ 64
updated f target v i lt h k true e = h (subst (λ (n : ℕ). n < 16) (eqb-true i target e) lt)
updated f target v i lt h k false e = k

pub general_fits : (r : Registers) (target v : ℕ) → RegistersFit r → (target < 16 → v < 2 ^ 64) → RegistersFit (set_general r target v)
general_fits r target v fit h = record { general = λ i lt. updated r.general target v i lt h (fit.general i lt) (i == target) refl; vector = fit.vector; access = fit.access }

vector_fits : (r : Registers) (target v : ℕ) → RegistersFit r → v < 2 ^ 128 → RegistersFit (set_vector r target v)
vector_fits r target v fit h = record { general = fit.general; vector = λ i lt. choice_lt (i == target) v (r.vector i) (2 ^ 128) h (fit.vector i lt); access = fit.access }

code_fits : (r : Registers) (code : ConditionCode) → RegistersFit r → RegistersFit (with_code code r)
code_fits r code fit = record { general = fit.general; vector = fit.vector; access = fit.access }

sized_fits : (size : Size) (r : Registers) (target x : ℕ) → RegistersFit r → x < modulus size → RegistersFit (set_sized size r target x)
sized_fits size r target x fit h = general_fits r target (with_low_part size (r.general target) x) fit (λ lt. merged_lt size (r.general target) x (fit.general target lt) h)

pair_fits : (size : Size) (r : Registers) (pair : ℕ) (p : Pair) → RegistersFit r → IsPairBelow size (Some p) → RegistersFit (set_pair size r pair p)
pair_fits size r pair p fit h = sized_fits size (set_sized size r pair p.high) (pair + 1) p.low (sized_fits size r pair p.high fit h.0) h.1

divided_fits : (size : Size) (r : Registers) (pair : ℕ) (p : Option Pair) → RegistersFit r → IsPairBelow size p → RegistersFit (set_divided size r pair p)
divided_fits size r pair None fit h = fit
divided_fits size r pair (Some p) fit h = pair_fits size r pair p fit h

multiple_fits : (r : Registers) (f : ℕ → ℕ) (first address n : ℕ) → RegistersFit r → ((i : ℕ) → f i < 256) → RegistersFit (set_multiple r f first address n)
multiple_fits r f first address zero fit h = fit
multiple_fits r f first address (suc n) fit h =
    general_fits (set_multiple r f first address n) ((first + n) % 16) (number_at f (wrapping_add64 address (8 * n)) 8) (multiple_fits r f first address n fit h) (λ lt. number_lt f (wrapping_add64 address (8 * n)) 8 h)

-- ---- effects

-- the values that have to lie in their ranges so that the results do
abbrev pub ValuesFit : Effect → Type 0
ValuesFit (Compute operator size target first second) = (first < modulus size) × IsWithin second.width size
ValuesFit (MultiplyPair sign pair first second) = (first < 2 ^ 64) × (second < 2 ^ 64)
ValuesFit (DivideLogicalPair size pair high low divisor) = divisor < modulus size
ValuesFit (FindLeftmostOne pair x) = x < 2 ^ 64
ValuesFit _ = Unit {0}

plain_fits : (effect : Effect) (c : Core) → ValuesFit effect → RegistersFit c.registers → ((i : ℕ) → c.memory.get i < 256) → RegistersFit (results effect c)
plain_fits (Compute operator size target first second) c h fit bytes =
    sized_fits size c.registers target (value operator size first (operand_value size second c.memory)) fit (value_lt operator size first (operand_value size second c.memory) h.0 (taken_lt size second c.memory h.1))
plain_fits (MultiplyPair sign pair first second) c h fit bytes = pair_fits Doubleword c.registers pair (wide_product sign first second) fit (product_below sign first second h.0 h.1)
plain_fits (DividePair pair dividend divisor) c h fit bytes =
    divided_fits Doubleword c.registers pair (signed_division (signed_number Doubleword dividend) (signed_number Doubleword divisor)) fit (signed_below (signed_number Doubleword dividend) (signed_number Doubleword divisor))
plain_fits (DivideLogicalPair size pair high low divisor) c h fit bytes =
    divided_fits size c.registers pair (unsigned_division size (high * modulus size + low) divisor) fit (unsigned_below size (high * modulus size + low) divisor h)
plain_fits (FindLeftmostOne pair x) c h fit bytes = pair_fits Doubleword c.registers pair (leftmost x) fit (leftmost_below x h)
plain_fits (LoadAndOperate operator size target second address) c h fit bytes = sized_fits size c.registers target (number_in_memory size c.memory address) fit (found_lt size c.memory address bytes)
plain_fits (CompareAndSwap size target expected replacement address) c h fit bytes = sized_fits size c.registers target (number_in_memory size c.memory address) fit (found_lt size c.memory address bytes)
plain_fits (LoadMultiple first_register count address) c h fit bytes = multiple_fits c.registers c.memory.get first_register address count fit bytes
plain_fits effect c h fit bytes = fit

same_fits : (effect : Effect) (c : Core) (r : Registers) → ValuesFit effect → RegistersFit c.registers → ((i : ℕ) → c.memory.get i < 256) → r ≡ with_code r.code (results effect c) → RegistersFit r
same_fits effect c r h fit bytes e = subst RegistersFit (sym e) (code_fits (results effect c) r.code (plain_fits effect c h fit bytes))

put_fits : (target y : ℕ) (c : Core) (r : Registers) → RegistersFit c.registers → y < 2 ^ 128 → r ≡ with_code r.code (set_vector c.registers target y) → RegistersFit r
put_fits target y c r fit h e = subst RegistersFit (sym e) (code_fits (set_vector c.registers target y) r.code (vector_fits c.registers target y fit h))

pub results_fit : (effect : Effect) (c : Core) (r : Registers) → ValuesFit effect → RegistersFit c.registers → ((i : ℕ) → c.memory.get i < 256) → Results effect c r → RegistersFit r
results_fit (Havoc target) c r h fit bytes (x, lt, e) = subst RegistersFit (sym e) (code_fits (set_general c.registers target x) r.code (general_fits c.registers target x fit (λ there. lt)))
results_fit (ComputeVector operation target first second third fourth) c r h fit bytes (x, gives, e) = put_fits target x c r fit gives.fits e
results_fit (PutVector target known x) c r h fit bytes (y, lt, agrees, e) = put_fits target y c r fit lt e
results_fit (LoadVector layout target old known address) c r h fit bytes (y, lt, agrees, e) = put_fits target y c r fit lt e
results_fit effect c r h fit bytes e = same_fits effect c r h fit bytes e

-- ---- memory

bytes_stored : (a n v : ℕ) (f : ℕ → ℕ) → ((i : ℕ) → f i < 256) → (i : ℕ) → write_get (bytes_to a n v) f i < 256
bytes_stored a zero v f h i = h i
bytes_stored a (suc n) v f h i =
    bytes_stored a n (v / 256) (update f (wrapping_add64 a n) (v % 256)) (λ k. choice_lt (k == wrapping_add64 a n) (v % 256) (f k) 256 (mod_below v 256 (omega arith)) (h k)) i

pub stored_fits : (x : Option StoreEvent) (m : Memory) → ((i : ℕ) → m.get i < 256) → (i : ℕ) → (after_store x m).get i < 256
stored_fits None m h i = h i
stored_fits (Some x) m h i = bytes_stored x.address x.size x.value m.get h i
