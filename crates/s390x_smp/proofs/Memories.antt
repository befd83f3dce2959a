-- The image in memory beside the word.
use Rattle.std.proofs.Common.{◌≡◌, ℕ, zero, suc, ◌+◌, ◌-◌, ◌%◌, ◌^◌, ◌<◌, ◌≤◌, Bool, true, false, cond, ◌&&◌, ◌||◌, not, nat_eq, nat_le, nat_lt, slice_index, Some, None, inl, inr, refl, sym, ap, ap₂, ◌∙◌, subst, arith, true≢false, eqb-true, leb-true, ltb-true}
use Rattle.std.proofs.lemmas.Bool.{cases_lt, and_parts, or_parts}
use Rattle.s390x_operations.specs.State.{Memory, CodeImage, IsLoaded, is_within, overlaps, reaches, wrapping_add64}
use Rattle.s390x_machine.proofs.Reaching.{reaches_all}
use Rattle.s390x_smp.specs.declared.error.SmpError.TheVariants.{MisalignedBase, ImageTooHigh, BadWord}
use Rattle.s390x_smp.specs.Image.{HasImage, code, image_at, is_in_word, start_cause}

-- what a base and a word's address without a cause are
pub record Usable (base word : ℕ) : Type 0 where
  pub aligned : base % 4 ≡ 0
  pub fits : base + 24 ≤ 2 ^ 64
  pub word_aligned : word % 4 ≡ 0
  pub apart : overlaps (image_at base) word 4 ≡ false

parts : (a b c d : Bool) → cond a (cond b (cond (c && not d) None (Some BadWord)) (Some ImageTooHigh)) (Some MisalignedBase) ≡ None → (a ≡ true) × (b ≡ true) × (c ≡ true) × (d ≡ false)
parts true true true false e = (refl, refl, refl, refl)
parts a b c d e = absurd (cc)

pub usable : (base word : ℕ) → start_cause base word ≡ None → Usable base word
usable base word e =
    let p = parts (nat_eq (base % 4) 0) (nat_le (base + 24) (2 ^ 64)) (nat_eq (word % 4) 0) (overlaps (image_at base) word 4) e in
    record { aligned = eqb-true (base % 4) 0 p.0; fits = leb-true (base + 24) (2 ^ 64) p.1; word_aligned = eqb-true (word % 4) 0 p.2; apart = p.3 }

-- none of n bytes is the image's
pub none_within : (image : CodeImage) (word n i : ℕ) → overlaps image word n ≡ false → i < n → is_within image (wrapping_add64 word i) ≡ false
none_within image word zero i out lt = absurd (omega (arith, lt))
none_within image word (suc n) i out lt =
    let p = or_parts (is_within image (wrapping_add64 word n)) (overlaps image word n) out in
    elim (cases_lt i n) [
      | inl less ↦ none_within image word n i p.1 less
      | inr more ↦ let e : n ≡ i = omega (arith, lt, more) in subst (λ k. is_within image (wrapping_add64 word k) ≡ false) e p.0
    ]

module _ (base word : ℕ) (u : Usable base word) (below : word < 2 ^ 64) where
  -- an address of the word is none of the image's
  word_apart : (a : ℕ) → is_in_word word a ≡ true → is_within (image_at base) a ≡ false
  word_apart a h =
      let p = and_parts (nat_le word a) (nat_lt a (word + 4)) h in
      let low = leb-true word a p.0 in
      let high = ltb-true a (word + 4) p.1 in
      let aligned = u.word_aligned in
      let at : wrapping_add64 word (a - word) ≡ a = omega (arith, low, high, aligned, below) in
      subst (λ k. is_within (image_at base) k ≡ false) at (none_within (image_at base) word 4 (a - word) u.apart (omega (arith, low, high)))

  -- and the other way round
  pub image_apart : (a : ℕ) → is_within (image_at base) a ≡ true → is_in_word word a ≡ false
  image_apart a h = go (is_in_word word a) refl
    where
      go : (b : Bool) → is_in_word word a ≡ b → b ≡ false
      go true e = absurd (true≢false (sym h ∙ word_apart a e))
      go false e = refl

  -- the image lies in memory
  pub loaded : (m : Memory) → HasImage base word m → IsLoaded (image_at base) m
  loaded m h = record {
    has = λ a within. h.has a ∙ ap (λ b. b || is_in_word word a) within;
    get = λ a within. h.get a (image_apart a within) ∙ ap (λ b. cond b (slice_index code (a - base)) 0) within;
  }

  -- the word is accessible
  pub word_reached : (m : Memory) → HasImage base word m → reaches m.has word 4 ≡ true
  word_reached m h = reaches_all m.has word 4 (λ i lt. h.has (wrapping_add64 word i) ∙ within i lt)
    where
      within : (i : ℕ) → i < 4 → (is_within (image_at base) (wrapping_add64 word i) || is_in_word word (wrapping_add64 word i)) ≡ true
      within i lt =
          let aligned = u.word_aligned in
          let at : wrapping_add64 word i ≡ word + i = omega (arith, aligned, below, lt) in
          let low : word ≤ wrapping_add64 word i = omega (arith, at) in
          let high : wrapping_add64 word i < word + 4 = omega (arith, at, lt) in
          Rattle.std.proofs.lemmas.Bool.or_right _ _ (ap₂ (λ x y. x && y) (Rattle.std.proofs.Common.le-leb word (wrapping_add64 word i) low) (Rattle.std.proofs.Common.lt-ltb (wrapping_add64 word i) (word + 4) high))
