-- Bytes that are written in groups are read again.
use Rattle.std.proofs.Common.{◌≡◌, ℕ, zero, suc, ◌+◌, ◌*◌, ◌%◌, ◌<◌, ◌≤◌, true, false, eqb-true, eq-eqb, List, [], ◌∷◌, ◌++◌, length, take, drop, append_assoc, append-nil, refl, sym, ap, ◌∙◌, arith, inl, inr}
use Rattle.std.specs.Prelude.{Ok}
use Rattle.std.proofs.lemmas.Bool.{cases_lt}
use Rattle.std.proofs.lemmas.List.{length-drop, length-take, take-append-drop, drop_at, get_or-take, get_or_past}
use Rattle.hex.specs.Hex.{encode_lower, encode_with, decode_of, IsBytes}
use Rattle.hex.proofs.HexLemmas.{decode_of-encode_lower}
use Rattle.s390x_disassembler.specs.Numbers.{begins_with}
use Rattle.s390x_disassembler.specs.Bare.{AreGroups}

-- what is left of the bytes
pub record AreLeft (size : ℕ) (write : ℕ → List ℕ → List ℕ) (separator : ℕ) (u bytes rest more : List ℕ) : Type 0 where
  pub left : List ℕ
  pub all : u ≡ bytes ++ left
  pub whole : length left % size ≡ 0
  pub are_bytes : IsBytes left
  pub rest_is : rest ≡ write separator left ++ (10 ∷ more)

encode_length : (bs : List ℕ) → length (encode_lower bs) ≡ 2 * length bs
unfolding encode_with
encode_length [] = refl
encode_length (b ∷ bs) = omega (arith, encode_length bs)

take_at : (n : ℕ) (p q : List ℕ) → length p ≡ n → take n (p ++ q) ≡ p
take_at zero [] q e = refl
take_at zero (x ∷ p) q e = absurd (omega (arith, e))
take_at (suc n) [] q e = absurd (omega (arith, e))
take_at (suc n) (x ∷ p) q e = ap (λ (t : List ℕ). x ∷ t) (take_at n p q (omega (arith, e)))

some_group : (size n : ℕ) → 0 < n → 0 < size → size ≤ 2 → n % size ≡ 0 → size ≤ n
some_group zero n some low high whole = absurd (omega (arith, low))
some_group (suc zero) n some low high whole = omega (arith, some)
some_group (suc (suc zero)) n some low high whole = omega (arith, some, whole)
some_group (suc (suc (suc size))) n some low high whole = absurd (omega (arith, high))

rest_group : (size n m : ℕ) → 0 < size → size ≤ 2 → m + size ≡ n → n % size ≡ 0 → m % size ≡ 0
rest_group zero n m low high e whole = absurd (omega (arith, low))
rest_group (suc zero) n m low high e whole = omega (arith, whole)
rest_group (suc (suc zero)) n m low high e whole = omega (arith, e, whole)
rest_group (suc (suc (suc size))) n m low high e whole = absurd (omega (arith, high))

bytes_take : (n : ℕ) (u : List ℕ) → IsBytes u → IsBytes (take n u)
bytes_take n u h i = elim (cases_lt i n) [
  | inl lt ↦ rw (get_or-take n u i 0 lt) (h i)
  | inr ge ↦ rw (get_or_past (take n u) i 0 (omega (arith, ge, length-take n u))) (omega arith)
]

bytes_drop : (n : ℕ) (u : List ℕ) → IsBytes u → IsBytes (drop n u)
bytes_drop zero u h i = h i
bytes_drop (suc n) [] h i = h i
bytes_drop (suc n) (x ∷ u) h i = bytes_drop n u (λ k. h (suc k)) i

-- one more group
pub group_read : (size separator : ℕ) (write : ℕ → List ℕ → List ℕ) (u bytes rest more group : List ℕ) → 0 < size → size ≤ 2 → (separator ≡ 10 → ⊥) → AreGroups size write → begins_with separator rest ≡ true
    → ((v : List ℕ) → decode_of (take (2 * size) (drop 3 rest)) ≡ Ok v → group ≡ v) → AreLeft size write separator u bytes rest more → AreLeft size write 44 u (bytes ++ group) (drop (2 * size) (drop 3 rest)) more
group_read size separator write u bytes rest more group low high sep groups begins reads l = next l.left l.all l.whole l.are_bytes l.rest_is
  where
    next : (left : List ℕ) → u ≡ bytes ++ left → length left % size ≡ 0 → IsBytes left → rest ≡ write separator left ++ (10 ∷ more) → AreLeft size write 44 u (bytes ++ group) (drop (2 * size) (drop 3 rest)) more
    next [] all whole hb is =
        let t : rest ≡ 10 ∷ more = is ∙ ap (λ (s : List ℕ). s ++ (10 ∷ more)) (groups.none separator) in
        absurd (sep (sym (eqb-true 10 separator (ap (begins_with separator) (sym t) ∙ begins))))
    next (x ∷ left) all whole hb is =
        let v : List ℕ = x ∷ left in
        let enough : size ≤ length v = some_group size (length v) (omega arith) low high whole in
        let t : drop 3 rest ≡ encode_lower (take size v) ++ (write 44 (drop size v) ++ (10 ∷ more)) =
        ap (drop 3) (is ∙ ap (λ (s : List ℕ). s ++ (10 ∷ more)) (groups.some separator v enough)) ∙ append_assoc (encode_lower (take size v)) (write 44 (drop size v)) (10 ∷ more) in
        let size_is : length (encode_lower (take size v)) ≡ 2 * size = encode_length (take size v) ∙ ap (λ (n : ℕ). 2 * n) (omega (arith, enough, length-take size v)) in
        let hex : take (2 * size) (drop 3 rest) ≡ encode_lower (take size v) = ap (take (2 * size)) t ∙ take_at (2 * size) (encode_lower (take size v)) _ size_is in
        let group_is : group ≡ take size v = reads (take size v) (ap decode_of hex ∙ decode_of-encode_lower (take size v) (bytes_take size v hb)) in
        record {
          left = drop size v;
          all = all ∙ ap (λ (s : List ℕ). bytes ++ s) (sym (take-append-drop size v)) ∙ sym (append_assoc bytes (take size v) (drop size v)) ∙ ap (λ (s : List ℕ). (bytes ++ s) ++ drop size v) (sym group_is);
          whole = rest_group size (length v) (length (drop size v)) low high (omega (arith, enough, length-drop size v)) whole;
          are_bytes = bytes_drop size v hb;
          rest_is = ap (drop (2 * size)) t ∙ drop_at (encode_lower (take size v)) (write 44 (drop size v) ++ (10 ∷ more)) (2 * size) size_is;
        }

pub groups_done : (size separator : ℕ) (write : ℕ → List ℕ → List ℕ) (u bytes rest more : List ℕ) → 0 < size → size ≤ 2 → AreGroups size write → begins_with separator rest ≡ false → AreLeft size write separator u bytes rest more → bytes ≡ u
groups_done size separator write u bytes rest more low high groups nay l = next l.left l.all l.whole l.rest_is
  where
    next : (left : List ℕ) → u ≡ bytes ++ left → length left % size ≡ 0 → rest ≡ write separator left ++ (10 ∷ more) → bytes ≡ u
    next [] all whole is = sym (all ∙ append-nil bytes)
    next (x ∷ left) all whole is =
        let t : rest ≡ separator ∷ _ = is ∙ ap (λ (s : List ℕ). s ++ (10 ∷ more)) (groups.some separator (x ∷ left) (some_group size (length (x ∷ left)) (omega arith) low high whole)) in
        let aye : begins_with separator rest ≡ true = ap (begins_with separator) t ∙ eq-eqb separator separator refl in
        cc
