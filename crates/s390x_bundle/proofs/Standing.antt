-- The parts of joined bytes, and the zeros between.
use Rattle.std.proofs.Common.{◌≡◌, ℕ, zero, suc, ◌+◌, ◌-◌, ◌<◌, ◌≤◌, ◌⊎◌, inl, inr, List, [], ◌∷◌, ◌++◌, length, get_or, Option, Some, None, refl, sym, ap, ◌∙◌, subst, arith, append_assoc, length-append, slice_get}
use Rattle.std.proofs.lemmas.Bool.{cases_lt}
use Rattle.std.proofs.lemmas.List.{get_or_append_left, get_or-append-add}
use Rattle.std.specs.List.{All}
use Rattle.s390x_buffer.proofs.Placing.{round_up-ge}
use Rattle.s390x_bundle.specs.declared.places.Extent.{Extent}
use Rattle.s390x_bundle.specs.Bytes.{Part, zeros, part_behind, parts_behind, end_of, Rise, PartStands, IsBetween, parts_at, AreOfExtents, end_or_zero}
use Rattle.s390x_bundle.specs.Places.{start_behind, starts_behind}

pub zeros_long : (n : ℕ) → length (zeros n) ≡ n
zeros_long zero = refl
zeros_long (suc n) = ap suc (zeros_long n)

zeros_read : (n i : ℕ) → get_or (zeros n) i 0 ≡ 0
zeros_read (suc n) (suc i) = zeros_read n i
zeros_read n i = refl

-- a part among those behind so many bytes
record StandsBehind (end : ℕ) (all : List ℕ) (p : Part) : Type 0 where
  pub earlier : List ℕ
  pub later : List ℕ
  pub bytes : all ≡ earlier ++ (p.bytes ++ later)
  pub at : end + length earlier ≡ p.start

behind_one : (end : ℕ) (q p : Part) (rest : List ℕ) → end ≤ q.start → StandsBehind (end_of q) rest p → StandsBehind end (part_behind end q ++ rest) p
behind_one end q p rest above s = record {
  earlier = part_behind end q ++ s.earlier;
  later = s.later;
  bytes = ap (λ l. part_behind end q ++ l) s.bytes ∙ sym (append_assoc (part_behind end q) s.earlier (p.bytes ++ s.later));
  at = omega (arith, above, s.at, length-append (part_behind end q) s.earlier, length-append (zeros (q.start - end)) q.bytes, zeros_long (q.start - end));
}

stands_behind : (end : ℕ) (ps : List Part) → Rise end ps → (i : ℕ) (p : Part) → slice_get ps i ≡ Some p → StandsBehind end (parts_behind end ps) p
stands_behind end [] rise i p e = absurd (cc)
stands_behind end (q ∷ ps) rise zero p e =
    let same : q ≡ p = cc in
    subst (λ x. StandsBehind end (parts_behind end (q ∷ ps)) x) same (record {
      earlier = zeros (q.start - end);
      later = parts_behind (end_of q) ps;
      bytes = append_assoc (zeros (q.start - end)) q.bytes (parts_behind (end_of q) ps);
      at = omega (arith, rise.0, zeros_long (q.start - end));
    })
stands_behind end (q ∷ ps) rise (suc i) p e = behind_one end q p (parts_behind (end_of q) ps) rise.0 (stands_behind (end_of q) ps rise.1 i p e)

pub part_stands : (ps : List Part) → Rise 0 ps → (i : ℕ) (p : Part) → slice_get ps i ≡ Some p → PartStands (parts_behind 0 ps) p
part_stands ps rise i p e = let s = stands_behind 0 ps rise i p e in record { earlier = s.earlier; later = s.later; bytes = s.bytes; at = omega (arith, s.at) }

zero_behind : (end : ℕ) (ps : List Part) → Rise end ps → (o : ℕ) → end ≤ o → IsBetween ps o → get_or (parts_behind end ps) (o - end) 0 ≡ 0
zero_behind end [] rise o above between = refl
zero_behind end (p ∷ ps) rise o above between = before_or_behind (cases_lt o p.start) (cases_lt o (end_of p)) (λ past. zero_behind (end_of p) ps rise.1 o past (λ i q e. between (suc i) q e))
  where
    before_or_behind : (o < p.start) ⊎ (p.start ≤ o) → (o < end_of p) ⊎ (end_of p ≤ o) → (end_of p ≤ o → get_or (parts_behind (end_of p) ps) (o - end_of p) 0 ≡ 0) → get_or (parts_behind end (p ∷ ps)) (o - end) 0 ≡ 0
    before_or_behind (inl before) _ later =
        let inside : o - end < length (zeros (p.start - end)) = omega (arith, before, above, zeros_long (p.start - end)) in
        ap (λ l. get_or l (o - end) 0) (append_assoc (zeros (p.start - end)) p.bytes (parts_behind (end_of p) ps))
        ∙ get_or_append_left (zeros (p.start - end)) (p.bytes ++ parts_behind (end_of p) ps) 0 (o - end) inside
        ∙ zeros_read (p.start - end) (o - end)
    before_or_behind (inr from) (inl to) later = absurd (between 0 p refl from to)
    before_or_behind (inr from) (inr past) later =
        let long : length (part_behind end p) ≡ (p.start - end) + length p.bytes = length-append (zeros (p.start - end)) p.bytes ∙ ap (λ n. n + length p.bytes) (zeros_long (p.start - end)) in
        let at : o - end ≡ length (part_behind end p) + (o - end_of p) = omega (arith, long, from, past, rise.0) in
        ap (λ n. get_or (part_behind end p ++ parts_behind (end_of p) ps) n 0) at
        ∙ get_or-append-add (part_behind end p) (parts_behind (end_of p) ps) (o - end_of p) 0
        ∙ later past

pub zero_between : (ps : List Part) → Rise 0 ps → (o : ℕ) → IsBetween ps o → get_or (parts_behind 0 ps) o 0 ≡ 0
zero_between ps rise o between = let e : o - 0 ≡ o = omega arith in subst (λ n. get_or (parts_behind 0 ps) n 0 ≡ 0) e (zero_behind 0 ps rise o (omega arith) between)

-- ---- starts

pub start_above : (end : Option ℕ) (a : ℕ) → 1 ≤ a → end_or_zero end ≤ start_behind end a
start_above None a some = omega arith
start_above (Some end) a some = omega (arith, round_up-ge (end + 2) a some)

-- the members stand one behind the other
pub starts_rise : (xs : List Extent) (bss : List (List ℕ)) → AreOfExtents xs bss → All (λ (x : Extent). 0 < x.alignment) xs → (end : Option ℕ) → Rise (end_or_zero end) (parts_at (starts_behind end xs) bss)
starts_rise (x ∷ xs) (bs ∷ bss) are aligned end =
    let first : length bs ≡ x.size = cc in
    let rest : AreOfExtents xs bss = cc in
    let start = start_behind end x.alignment in (
      start_above end x.alignment (aligned 0 x (omega arith)),
      subst (λ n. Rise (start + n) (parts_at (starts_behind (Some (start + x.size)) xs) bss)) (sym first) (starts_rise xs bss rest (λ k d lt. aligned (suc k) d (omega (arith, lt))) (Some (start + x.size))),
    )
starts_rise xs bss are aligned end = tt
