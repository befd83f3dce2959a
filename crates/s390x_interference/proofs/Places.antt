-- Where the steps of a retry loop stand: the step behind the loop stands at no address of the loop.
use Rattle.std.proofs.Common.{◌≡◌, ℕ, zero, suc, ◌+◌, ◌-◌, ◌^◌, ◌<◌, ◌≤◌, length, IsTrue, sym, ap, ◌∙◌, arith, ltb-true, leb-true}
use Rattle.std.proofs.lemmas.Bool.{and_parts}
use Rattle.s390x_operations.specs.State.{wrapping_add64}
use Rattle.s390x_machine.specs.CodeAt.{AllCodeAt}
use Rattle.s390x_machine.specs.Layout.{Layout, step_address, InStep}
use Rattle.s390x_machine.proofs.Standing.{step_within}
use Rattle.s390x_interference.specs.Retry.{Retry, end_of, is_in_loop}

-- two offsets in an image, or at its end, are at different addresses
pub differ : (L : Layout) → AllCodeAt L → (o e : ℕ) → o < e → e ≤ length L.image.bytes → wrapping_add64 L.image.base o ≡ wrapping_add64 L.image.base e → ⊥
differ L all o e lt le same = let fits = all.fits in let short = all.short in omega (arith, same, fits, short, lt, le)

outside_of : (base size lo end a : ℕ) → base + size ≤ 2 ^ 64 → size < 2 ^ 31 → end ≤ size → a ≡ wrapping_add64 base end → base ≤ a → a - base < end → ⊥
outside_of base size lo end a fits short le is above below = omega (arith, fits, short, le, is, above, below)

module _ (L : Layout) (all : AllCodeAt L) (R : Retry L) (some : L.offsets.step R.swap < L.offsets.step (suc R.swap)) where
  pub back_size : L.offsets.step (suc (suc R.swap)) ≡ L.offsets.step (suc R.swap) + 6
  back_size = (all.steps (suc R.swap) _ R.back).size

  pub end_within : L.offsets.step (end_of L R) ≤ length L.image.bytes
  end_within = step_within L (suc R.swap) _ (all.steps (suc R.swap) _ R.back)

  pub back_strict : L.offsets.step (suc R.swap) < L.offsets.step (end_of L R)
  back_strict = omega (arith, back_size)

  member_low : (m k : ℕ) → R.opening < k → k + m ≡ R.swap → L.offsets.step k ≤ L.offsets.step R.swap
  member_low zero k above e = let same : k ≡ R.swap = omega (arith, e) in omega (arith, ap L.offsets.step same)
  member_low (suc m) k above e =
      let i = R.members k above (omega (arith, e)) in
      let size = (all.steps k i.0 i.1).size in
      omega (arith, size, member_low m (suc k) (omega (arith, above)) (omega (arith, e)))

  pub member_below : (k : ℕ) → R.opening < k → k ≤ R.swap → L.offsets.step k ≤ L.offsets.step R.swap
  member_below k above le = member_low (R.swap - k) k above (omega (arith, le))

  -- an offset below the loop's end
  pub not_end : (o : ℕ) → o < L.offsets.step (end_of L R) → wrapping_add64 L.image.base o ≡ step_address L (end_of L R) → ⊥
  not_end o lt e = differ L all o (L.offsets.step (end_of L R)) lt end_within e

  pub in_step_not_end : (k p : ℕ) → L.offsets.step (suc k) ≤ L.offsets.step (end_of L R) → InStep L k p → p ≡ step_address L (end_of L R) → ⊥
  in_step_not_end k p le at e = not_end at.offset (omega (arith, at.below, le)) (sym at.is ∙ e)

  -- a member isn't the back branch
  pub not_back : (k : ℕ) → R.opening < k → k ≤ R.swap → step_address L k ≡ step_address L (suc R.swap) → ⊥
  not_back k above le e = differ L all (L.offsets.step k) (L.offsets.step (suc R.swap)) (omega (arith, member_below k above le, some)) (omega (arith, back_size, end_within)) e

  -- no byte of a member or of the swap is the back branch's
  pub in_step_not_back : (k p : ℕ) → L.offsets.step (suc k) ≤ L.offsets.step (suc R.swap) → InStep L k p → p ≡ step_address L (suc R.swap) → ⊥
  in_step_not_back k p le at e = differ L all at.offset (L.offsets.step (suc R.swap)) (omega (arith, at.below, le)) (omega (arith, back_size, end_within)) (sym at.is ∙ e)

  pub end_not_back : step_address L (end_of L R) ≡ step_address L (suc R.swap) → ⊥
  end_not_back e = not_end (L.offsets.step (suc R.swap)) back_strict (sym e)

  pub member_not_end : (k : ℕ) → R.opening < k → k ≤ R.swap → step_address L k ≡ step_address L (end_of L R) → ⊥
  member_not_end k above le e = not_end (L.offsets.step k) (omega (arith, member_below k above le, some, back_strict)) e

  pub outside : (a : ℕ) → a ≡ step_address L (end_of L R) → IsTrue (is_in_loop L R a) → ⊥
  outside a e within =
      let p = and_parts _ _ within in
      let q = and_parts _ _ p.1 in
      outside_of L.image.base (length L.image.bytes) 0 (L.offsets.step (end_of L R)) a all.fits all.short end_within e (leb-true _ _ p.0) (ltb-true _ _ q.1)
