-- Bytes that are read and written piece by piece.
use Rattle.std.proofs.Common.{◌≡◌, ℕ, ◌<◌, ◌≤◌, ◌+◌, ◌-◌, min, List, [], ◌++◌, length, take, drop, sym, ◌∙◌, ap, arith, length-append, length-drop, length-take, take-append-drop}
use Rattle.std.specs.Prelude.{Option}
use Rattle.std.specs.Io.KnownBytes.{Appends}
use Rattle.std.proofs.KnownBytes.{Appends-trans}
use Rattle.std.proofs.Math.Seq.{take-add}
use Rattle.std.proofs.lemmas.List.{take_at, nil_from_length, drop-drop, take_all}

-- a slice from t on
pub take_rest : (t : ℕ) (xs : List ℕ) → take (length xs - t) (drop t xs) ≡ drop t xs
take_rest t xs = take_all _ _ (omega (arith, length-drop t xs))

-- at most as many bytes as the rest has
pub within_rest : (t n : ℕ) (xs : List ℕ) → t ≤ length xs → n ≤ length (take (length xs - t) (drop t xs)) → t + n ≤ length xs
within_rest t n xs small within =
    let least : n ≤ length xs - t = rw (take_rest t xs, length-drop t xs) at within in
    omega arith

-- the sink was told the first t bytes of a text, and then n more
pub Appends-take_more : (a b c : Option (List ℕ)) (text : List ℕ) (t n : ℕ)
    → Appends a b (take t text) → Appends b c (take n (take (length text - t) (drop t text))) → Appends a c (take (t + n) text)
Appends-take_more a b c text t n first second = rw (take-add t n text) (Appends-trans a b c _ _ first (rw (take_rest t text) at second))

-- n bytes of what is left at `at` were copied to the front of a buffer
pub read_front : (at n : ℕ) (xs buf copied : List ℕ) → n ≡ min (length (drop at xs)) (length buf) → copied ≡ take n (drop at xs)
    → (drop at xs ≡ take n (copied ++ drop n buf) ++ drop (at + n) xs) × (n ≡ 0 → 0 < length (copied ++ drop n buf) → drop (at + n) xs ≡ [])
read_front at n xs buf copied count same =
    let size : length copied ≡ n = ap length same ∙ length-take n (drop at xs) ∙ omega arith in
    let prefix : take n (copied ++ drop n buf) ≡ copied = take_at copied (drop n buf) n size in
    let joined : length (copied ++ drop n buf) ≡ n + (length buf - n) = length-append copied (drop n buf) ∙ omega (arith, length-drop n buf) in (
      sym (take-append-drop n (drop at xs)) ∙ rw (prefix, ← same) (ap (λ l. copied ++ l) (drop-drop n at xs)),
      λ none room. nil_from_length _ (omega (arith, length-drop at xs, length-drop (at + n) xs)),
    )
