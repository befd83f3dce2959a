-- A word in memory after a store of it, and the other bytes.
use Rattle.std.proofs.Common.{◌≡◌, ℕ, ◌+◌, ◌*◌, ◌/◌, ◌%◌, ◌^◌, ◌<◌, ◌≤◌, false, cond, ◌&&◌, refl, sym, ap, ap₂, ◌∙◌, arith, true≢false, eq-eqb, le-leb, lt-ltb}
use Rattle.std.proofs.lemmas.Bool.{ne_eqb}
use Rattle.s390x_operations.specs.State.{update, wrapping_add64, number_at, bytes_to, write_get}
use Rattle.s390x_smp.specs.Image.{is_in_word}

hit : (f : ℕ → ℕ) (i v k : ℕ) → k ≡ i → update f i v k ≡ v
hit f i v k e = ap (λ b. cond b v (f k)) (eq-eqb k i e)

miss : (f : ℕ → ℕ) (i v k : ℕ) → (k ≡ i → ⊥) → update f i v k ≡ f k
miss f i v k other = ap (λ b. cond b v (f k)) (ne_eqb k i other)

-- an address outside the word is none of its four
pub outside : (word a i : ℕ) → is_in_word word a ≡ false → i < 4 → a ≡ word + i → ⊥
outside word a i out lt e =
    let low : word ≤ a = omega (arith, e) in
    let high : a < word + 4 = omega (arith, e, lt) in
    true≢false (sym (ap₂ (λ x y. x && y) (le-leb word a low) (lt-ltb a (word + 4) high)) ∙ out)

-- a number stored in four bytes
abbrev pub stored : (ℕ → ℕ) → (word v : ℕ) → ℕ → ℕ
stored f word v = write_get (bytes_to word 4 v) f

module _ (f : ℕ → ℕ) (word v : ℕ) (aligned : word % 4 ≡ 0) (below : word < 2 ^ 64) where
  address : (i : ℕ) → i < 4 → wrapping_add64 word i ≡ word + i
  address i lt = omega (arith, aligned, below, lt)

  first : ℕ → ℕ
  first = update f (wrapping_add64 word 3) (v % 256)

  second : ℕ → ℕ
  second = update first (wrapping_add64 word 2) (v / 256 % 256)

  third : ℕ → ℕ
  third = update second (wrapping_add64 word 1) (v / 256 / 256 % 256)

  -- another one of the word's addresses
  apart : (i j : ℕ) → i < 4 → j < 4 → (i ≡ j → ⊥) → wrapping_add64 word i ≡ wrapping_add64 word j → ⊥
  apart i j li lj other e =
      let p = address i li in
      let q = address j lj in
      other (omega (arith, e, p, q))

  byte_0 : stored f word v (wrapping_add64 word 0) ≡ v / 256 / 256 / 256 % 256
  unfolding first second third
  byte_0 = hit third (wrapping_add64 word 0) (v / 256 / 256 / 256 % 256) (wrapping_add64 word 0) refl

  byte_1 : stored f word v (wrapping_add64 word 1) ≡ v / 256 / 256 % 256
  unfolding first second third
  byte_1 =
      miss third (wrapping_add64 word 0) (v / 256 / 256 / 256 % 256) (wrapping_add64 word 1) (apart 1 0 (omega arith) (omega arith) (λ e. omega (arith, e)))
      ∙ hit second (wrapping_add64 word 1) (v / 256 / 256 % 256) (wrapping_add64 word 1) refl

  byte_2 : stored f word v (wrapping_add64 word 2) ≡ v / 256 % 256
  unfolding first second third
  byte_2 =
      miss third (wrapping_add64 word 0) (v / 256 / 256 / 256 % 256) (wrapping_add64 word 2) (apart 2 0 (omega arith) (omega arith) (λ e. omega (arith, e)))
      ∙ miss second (wrapping_add64 word 1) (v / 256 / 256 % 256) (wrapping_add64 word 2) (apart 2 1 (omega arith) (omega arith) (λ e. omega (arith, e)))
      ∙ hit first (wrapping_add64 word 2) (v / 256 % 256) (wrapping_add64 word 2) refl

  byte_3 : stored f word v (wrapping_add64 word 3) ≡ v % 256
  unfolding first second third
  byte_3 =
      miss third (wrapping_add64 word 0) (v / 256 / 256 / 256 % 256) (wrapping_add64 word 3) (apart 3 0 (omega arith) (omega arith) (λ e. omega (arith, e)))
      ∙ miss second (wrapping_add64 word 1) (v / 256 / 256 % 256) (wrapping_add64 word 3) (apart 3 1 (omega arith) (omega arith) (λ e. omega (arith, e)))
      ∙ miss first (wrapping_add64 word 2) (v / 256 % 256) (wrapping_add64 word 3) (apart 3 2 (omega arith) (omega arith) (λ e. omega (arith, e)))
      ∙ hit f (wrapping_add64 word 3) (v % 256) (wrapping_add64 word 3) refl

  -- the number that is read is the one that was stored
  pub number_stored : number_at (stored f word v) word 4 ≡ v % 2 ^ 32
  number_stored =
      let n : number_at (stored f word v) word 4 ≡ (((0 * 256 + stored f word v (wrapping_add64 word 0)) * 256 + stored f word v (wrapping_add64 word 1)) * 256 + stored f word v (wrapping_add64 word 2)) * 256 + stored f word v (wrapping_add64 word 3) = refl in
      let b0 = byte_0 in
      let b1 = byte_1 in
      let b2 = byte_2 in
      let b3 = byte_3 in
      omega (arith, n, b0, b1, b2, b3)

  -- the bytes outside the word stay
  pub others_stored : (a : ℕ) → is_in_word word a ≡ false → stored f word v a ≡ f a
  unfolding first second third
  others_stored a out =
      let none : (i : ℕ) → i < 4 → a ≡ wrapping_add64 word i → ⊥ = λ i lt e. outside word a i out lt (e ∙ address i lt) in
      miss third (wrapping_add64 word 0) (v / 256 / 256 / 256 % 256) a (none 0 (omega arith))
      ∙ miss second (wrapping_add64 word 1) (v / 256 / 256 % 256) a (none 1 (omega arith))
      ∙ miss first (wrapping_add64 word 2) (v / 256 % 256) a (none 2 (omega arith))
      ∙ miss f (wrapping_add64 word 3) (v % 256) a (none 3 (omega arith))
