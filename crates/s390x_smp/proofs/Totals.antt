-- The sum of the addends times the stores, when one more store is counted.
use Rattle.std.proofs.Common.{◌≡◌, ℕ, zero, suc, ◌+◌, ◌*◌, ◌%◌, ◌^◌, ◌<◌, List, [], ◌∷◌, length, get_or, slice_set, replicate, inl, inr, refl, sym, ap, ◌∙◌, arith}
use Rattle.std.proofs.lemmas.Bool.{cases_lt}
use Rattle.s390x_smp.specs.Simulation.{total}

-- one processor's count changes
total_set : (xs ns : List ℕ) (p n : ℕ) → p < length xs → p < length ns → total xs (slice_set ns p n) + get_or xs p 0 * get_or ns p 0 ≡ total xs ns + get_or xs p 0 * n
total_set [] ns p n lx ln = absurd (omega (arith, lx))
total_set (x ∷ xs) [] p n lx ln = absurd (omega (arith, ln))
total_set (x ∷ xs) (m ∷ ns) zero n lx ln = let a : ℕ = x * m in let b : ℕ = x * n in let t : ℕ = total xs ns in omega arith
total_set (x ∷ xs) (m ∷ ns) (suc p) n lx ln =
    let e = total_set xs ns p n (omega (arith, lx)) (omega (arith, ln)) in
    omega (arith, e)

-- no store
pub total_none : (xs : List ℕ) (n : ℕ) → total xs (replicate n 0) ≡ 0
total_none [] n = refl
total_none (x ∷ xs) zero = refl
total_none (x ∷ xs) (suc n) = let e = total_none xs n in omega (arith, e)

-- it rises by the processor's addend, modulo 2 ^ 32, also where the count is taken modulo 2 ^ 64
pub total_rises : (xs ns : List ℕ) (p : ℕ) → p < length xs → p < length ns → get_or ns p 0 < 2 ^ 64 → total xs (slice_set ns p ((get_or ns p 0 + 1) % 2 ^ 64)) % 2 ^ 32 ≡ (total xs ns + get_or xs p 0) % 2 ^ 32
total_rises xs ns p lx ln below = rises (get_or xs p 0) (get_or ns p 0) (total xs ns) (total xs (slice_set ns p ((get_or ns p 0 + 1) % 2 ^ 64))) below (total_set xs ns p ((get_or ns p 0 + 1) % 2 ^ 64) lx ln)
  where
    rises : (x m t u : ℕ) → m < 2 ^ 64 → u + x * m ≡ t + x * ((m + 1) % 2 ^ 64) → u % 2 ^ 32 ≡ (t + x) % 2 ^ 32
    rises x m t u below e =
        elim (cases_lt (m + 1) (2 ^ 64)) [
          | inl less ↦
              let next : (m + 1) % 2 ^ 64 ≡ m + 1 = omega (arith, less) in
              let f : u + x * m ≡ t + x * (m + 1) = e ∙ ap (λ n. t + x * n) next in
              let g : u ≡ t + x = omega (arith, f) in
              ap (λ n. n % 2 ^ 32) g
          | inr more ↦
              let last : m ≡ 18446744073709551615 = omega (arith, below, more) in
              let next : (m + 1) % 2 ^ 64 ≡ 0 = omega (arith, last) in
              let f : u + x * 18446744073709551615 ≡ t + x * 0 = ap (λ n. u + x * n) (sym last) ∙ e ∙ ap (λ n. t + x * n) next in
              omega (arith, f)
        ]
