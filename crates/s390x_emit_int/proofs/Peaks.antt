-- The check counts the length at its greatest, and the length in the end where it stays below the limit.
use Rattle.std.proofs.Common.{◌≡◌, ℕ, ◌+◌, ◌-◌, ◌<◌, ◌≤◌, inl, inr, List, [], ◌∷◌, min, sym, ap, ◌∙◌, arith}
use Rattle.std.specs.Prelude.{max}
use Rattle.std.proofs.Math.Nat.{le-max_left, le-max_right, max-eq_right, max-le}
use Rattle.std.proofs.lemmas.Bool.{cases_lt}
use Rattle.s390x_typed_steps.specs.Folding.{folded_before, next_block, folded_from, folded_trees, peak_from, peak}
use Rattle.s390x_typed_steps.specs.Sizes.{tree_size, blocks_size}
use Rattle.s390x_typed_steps.specs.Tree.{Tree}
use Rattle.s390x_emit_int.specs.CodeSize.{code_limit}

-- before block number k: the greatest length so far, the length there, the blocks that are left, and the greatest length of all and the length in the end
pub record Counts (k longest bytes : ℕ) (ts : List Tree) (peak last : ℕ) : Type 0 where
  pub few : longest ≤ code_limit
  pub low : longest < code_limit → bytes ≤ longest
  pub exact : longest < code_limit → bytes + blocks_size (folded_from k ts) ≡ last
  pub open_yet : longest < code_limit → min code_limit (max longest (peak_from k bytes ts)) ≡ min code_limit peak
  pub reached : code_limit ≤ longest → code_limit ≤ peak

-- before the first block
pub begun : (ts : List Tree) → Counts 0 0 0 ts (peak ts) (blocks_size (folded_trees ts))
begun ts = record {
  few = omega arith;
  low = λ lt. omega arith;
  exact = λ lt. omega arith;
  open_yet = λ lt. ap (λ n. min code_limit n) (max-eq_right (omega arith));
  reached = λ ge. absurd (omega (arith, ge));
}

same_number : (n : ℕ) → n ≤ n
same_number n = omega arith

-- a limit that one of two numbers reaches is reached by the greater one
reaches_left : (a b n : ℕ) → n ≤ a → n ≤ max a b
reaches_left a b n le = omega (arith, le, le-max_left a b)

reaches_right : (a b n : ℕ) → n ≤ b → n ≤ max a b
reaches_right a b n le = omega (arith, le, le-max_right a b)

three : (a b c : ℕ) → max a (max b c) ≡ max (max b a) c
three a b c = grind (arith, le-max_left a (max b c), le-max_right a (max b c), le-max_left b c, le-max_right b c, le-max_left b a, le-max_right b a, le-max_left (max b a) c, le-max_right (max b a) c)

-- One more block, which adds so many bytes in full, up to the limit. Of these some are taken off at its end
pub next_counts : (k longest bytes added taken peak last : ℕ) (t : Tree) (ts : List Tree) → Counts k longest bytes (t ∷ ts) peak last → min code_limit added ≡ min code_limit (bytes + tree_size t) → added ≤ code_limit →
    tree_size (folded_before (next_block k ts) t) + taken ≡ tree_size t → (rest : ℕ) → rest + taken ≡ added → Counts (k + 1) (max added longest) rest ts peak last
next_counts k longest bytes added taken peak last t ts c same small takes rest left =
    let u = tree_size (folded_before (next_block k ts) t) in
    let full = bytes + tree_size t in
    let later = peak_from (k + 1) (bytes + u) ts in
    let own : added ≤ max added longest = le-max_left added longest in
    let old : longest ≤ max added longest = le-max_right added longest in
    let exact : max added longest < code_limit → added ≡ full = λ lt. omega (arith, own, same) in
    let here : max added longest < code_limit → rest ≡ bytes + u = λ lt. omega (arith, exact lt, takes, left) in
    record {
      few = max-le small c.few;
      low = λ lt. omega (arith, own, left);
      exact = λ lt. let below : longest < code_limit = omega (arith, old, lt) in omega (arith, here lt, c.exact below);
      open_yet = λ lt.
          let below : longest < code_limit = omega (arith, old, lt) in
          ap (λ n. min code_limit (max (max added longest) (peak_from (k + 1) n ts))) (here lt)
          ∙ ap (λ n. min code_limit (max (max n longest) later)) (exact lt)
          ∙ ap (λ n. min code_limit n) (sym (three longest full later))
          ∙ c.open_yet below;
      reached = λ ge. reached_by k longest bytes added peak last t ts c same small ge;
    }
  where
    reached_by : (k longest bytes added peak last : ℕ) (t : Tree) (ts : List Tree) → Counts k longest bytes (t ∷ ts) peak last → min code_limit added ≡ min code_limit (bytes + tree_size t) → added ≤ code_limit → code_limit ≤ max added longest → code_limit ≤ peak
    reached_by k longest bytes added peak last t ts c same small ge =
        let full = bytes + tree_size t in
        let later = peak_from (k + 1) (bytes + tree_size (folded_before (next_block k ts) t)) ts in
        elim (cases_lt longest code_limit) [
          | inr far ↦ c.reached far
          | inl near ↦ elim (cases_lt added code_limit) [
            | inl few ↦ absurd (let lower : max added longest ≤ code_limit - 1 = max-le (omega (arith, few)) (omega (arith, near)) in omega (arith, lower, ge))
            | inr many ↦
                let far : code_limit ≤ full = omega (arith, same, many) in
                let top : code_limit ≤ max longest (max full later) = reaches_right longest (max full later) code_limit (reaches_left full later code_limit far) in
                omega (arith, top, c.open_yet near)
          ]
        ]

-- in the end
pub counted : (k longest bytes peak last : ℕ) → Counts k longest bytes [] peak last → min code_limit longest ≡ min code_limit peak
counted k longest bytes peak last c =
    elim (cases_lt longest code_limit) [
      | inl near ↦
          let no_more : max longest bytes ≤ longest = max-le (same_number longest) (c.low near) in
          omega (arith, no_more, le-max_left longest bytes, c.open_yet near)
      | inr far ↦ omega (arith, far, c.few, c.reached far)
    ]
