-- The bytes that were read are those of the instruction.
use Rattle.std.proofs.Common.{◌≡◌, ℕ, ◌+◌, ◌^◌, ◌<◌, ◌≤◌, List, length, take, Bool, true, false, if◌then◌else◌, slice_index, IsTrue, Option, None, Some, sym, ap, ◌∙◌, subst, arith, length-take, true≢false}
use Rattle.std.specs.Prelude.{MatchOption, nat_lt}
use Rattle.std.proofs.lemmas.List.{get_or-take}
use Rattle.s390x_format.specs.Rows.{fetch_length_of}
use Rattle.s390x_operations.specs.State.{wrapping_add64, bytes_at, reaches}
use Rattle.s390x_machine.specs.Fetch.{IsReached, instruction_bytes}
use Rattle.s390x_machine.specs.State.{AreBytes, memory_of}
use Rattle.s390x_machine.proofs.Fetching.{bytes_are}
use Rattle.s390x_machine.proofs.Reaching.{reached_at, reaches_all}

pub length_few : (b : ℕ) → fetch_length_of b ≤ 6
length_few b = go (nat_lt b 64) (nat_lt b 192)
  where
    go : (x y : Bool) → (if x then 2 else (if y then 4 else 6)) ≤ 6
    go true y = omega arith
    go false true = omega arith
    go false false = omega arith

length_some : (b : ℕ) → 0 < fetch_length_of b
length_some b = go (nat_lt b 64) (nat_lt b 192)
  where
    go : (x y : Bool) → 0 < (if x then 2 else (if y then 4 else 6))
    go true y = omega arith
    go false true = omega arith
    go false false = omega arith

taken_bytes : (f : ℕ → ℕ) (a n : ℕ) (bs : List ℕ) → n ≤ length bs → ((i : ℕ) → i < n → slice_index bs i ≡ f (wrapping_add64 a i)) → take n bs ≡ bytes_at f a n
taken_bytes f a n bs le h =
    let long : length (take n bs) ≡ n = omega (arith, length-take n bs) in
    sym (ap (λ k. bytes_at f a k) (sym long) ∙ bytes_are f a 0 (take n bs) (λ j lt.
    let z : 0 + j ≡ j = omega arith in
    let less : j < n = omega (arith, long) in
    ap (λ k. f (wrapping_add64 a k)) z ∙ sym (h j less) ∙ sym (get_or-take n bs j 0 less)))

-- where so many bytes were read, fewer were
pub fewer_bytes : (has : ℕ → Bool) (get : ℕ → ℕ) (a n k : ℕ) (bs : List ℕ) → k ≤ n → AreBytes has get a n bs → AreBytes has get a k bs
fewer_bytes has get a n k bs few read = record {
  reached = reaches_all has a k (λ i lt. reached_at has a n i read.reached (omega arith));
  six = read.six;
  bytes_are = λ i lt. read.bytes_are i (omega arith);
}

-- ---- so many bytes as the first one tells

unmoved : (a : ℕ) → a < 2 ^ 64 → wrapping_add64 a 0 ≡ a
unmoved a small = omega arith

first_byte : (has : ℕ → Bool) (get : ℕ → ℕ) (a : ℕ) (bs : List ℕ) → a < 2 ^ 64 → AreBytes has get a (fetch_length_of (get a)) bs → slice_index bs 0 ≡ get a
first_byte has get a bs small read = read.bytes_are 0 (length_some (get a)) ∙ ap get (unmoved a small)

pub bytes_reached : (has : ℕ → Bool) (get : ℕ → ℕ) (a : ℕ) (bs : List ℕ) → a < 2 ^ 64 → AreBytes has get a (fetch_length_of (get a)) bs → IsReached (memory_of has get) a
bytes_reached has get a bs small read = (subst (λ (b : ℕ). IsTrue (has b)) (unmoved a small) (reached_at has a (fetch_length_of (get a)) 0 read.reached (length_some (get a))), read.reached)

pub bytes_read : (has : ℕ → Bool) (get : ℕ → ℕ) (a : ℕ) (bs : List ℕ) (n : ℕ) → a < 2 ^ 64 → AreBytes has get a (fetch_length_of (get a)) bs → n ≡ fetch_length_of (slice_index bs 0) → take n bs ≡ instruction_bytes (memory_of has get) a
bytes_read has get a bs n small read e =
    let count : n ≡ fetch_length_of (get a) = e ∙ ap fetch_length_of (first_byte has get a bs small read) in
    let few : n ≤ length bs = omega (arith, read.six, count, length_few (get a)) in
    taken_bytes get a n bs few (λ i lt. read.bytes_are i (subst (λ (k : ℕ). i < k) count lt)) ∙ ap (λ (k : ℕ). bytes_at get a k) count

-- the bytes are asked for by the number that the first one tells
pub reached_or_not : (has : ℕ → Bool) (get : ℕ → ℕ) (a n : ℕ) (r : Option (List ℕ)) → n ≡ fetch_length_of (get a) → MatchOption r (reaches has a n ≡ false) (λ bytes. AreBytes has get a n bytes) →
    MatchOption r (IsReached (memory_of has get) a → ⊥) (λ bytes. AreBytes has get a (fetch_length_of (get a)) bytes)
reached_or_not has get a n None count none = λ h. true≢false (sym (subst (λ (k : ℕ). IsTrue (reaches has a k)) (sym count) h.1) ∙ none)
reached_or_not has get a n (Some bytes) count read = subst (λ (k : ℕ). AreBytes has get a k bytes) count read
