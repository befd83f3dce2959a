-- Where constants stand: at even places, on their boundaries, and below their end.
use Rattle.std.proofs.Common.{◌≡◌, ℕ, zero, suc, ◌+◌, ◌%◌, ◌<◌, ◌≤◌, inl, inr, List, [], ◌∷◌, ◌++◌, length, map, get_or, take, drop, Bool, true, false, cond, ◌||◌, nat_eq, max, Option, None, Some, refl, sym, ap, ◌∙◌, subst, arith, eqb-true, length-take}
use Rattle.std.proofs.lemmas.Bool.{and_parts, or_cases}
use Rattle.std.proofs.lemmas.List.{length-map, get_or_append_left, get_or-append-add}
use Rattle.s390x_base.specs.declared.error.EmitError.{EmitError}
use Rattle.s390x_buffer.specs.State.{Constant, is_alignment, all_aligned}
use Rattle.s390x_buffer.specs.Constants.{round_up, constant_start, constant_starts, constants_end, greatest_align}
use Rattle.s390x_buffer.specs.Finish.{bind_constants}
use Rattle.s390x_buffer.proofs.Placing.{end-ge}
use Rattle.s390x_typed_steps.specs.Causes.{aligns_of}

-- an alignment that a constant may have
pub data IsAlignment (a : ℕ) : Type 0 where
  byte : a ≡ 1 → IsAlignment a
  halfword : a ≡ 2 → IsAlignment a
  word : a ≡ 4 → IsAlignment a
  doubleword : a ≡ 8 → IsAlignment a
  quadword : a ≡ 16 → IsAlignment a

pub alignment_of : (x : ℕ) → is_alignment x ≡ true → IsAlignment x
alignment_of x h =
    elim (or_cases (nat_eq x 1 || nat_eq x 2 || nat_eq x 4 || nat_eq x 8) (nat_eq x 16) h) [
      | inr e ↦ quadword (eqb-true x 16 e)
      | inl h1 ↦ elim (or_cases (nat_eq x 1 || nat_eq x 2 || nat_eq x 4) (nat_eq x 8) h1) [
        | inr e ↦ doubleword (eqb-true x 8 e)
        | inl h2 ↦ elim (or_cases (nat_eq x 1 || nat_eq x 2) (nat_eq x 4) h2) [
          | inr e ↦ word (eqb-true x 4 e)
          | inl h3 ↦ elim (or_cases (nat_eq x 1) (nat_eq x 2) h3) [
            | inr e ↦ halfword (eqb-true x 2 e)
            | inl e ↦ byte (eqb-true x 1 e)
          ]
        ]
      ]
    ]

pub aligned_constants : (s : Bool) (o : Option EmitError) (e : EmitError) → cond s o (Some e) ≡ None → s ≡ true
aligned_constants true o e h = refl
aligned_constants false o e h = absurd (cc)

-- a place that is even and on a boundary
abbrev pub OnBoundary : (place align : ℕ) → Type 0
OnBoundary place align = (place % 2 ≡ 0) × (place % align ≡ 0)

rounded : (n a : ℕ) → IsAlignment a → OnBoundary (round_up n (max 2 a)) a
rounded n a (byte e) = subst (λ x. OnBoundary (round_up n (max 2 x)) x) (sym e) (omega arith, omega arith)
rounded n a (halfword e) = subst (λ x. OnBoundary (round_up n (max 2 x)) x) (sym e) (omega arith, omega arith)
rounded n a (word e) = subst (λ x. OnBoundary (round_up n (max 2 x)) x) (sym e) (omega arith, omega arith)
rounded n a (doubleword e) = subst (λ x. OnBoundary (round_up n (max 2 x)) x) (sym e) (omega arith, omega arith)
rounded n a (quadword e) = subst (λ x. OnBoundary (round_up n (max 2 x)) x) (sym e) (omega arith, omega arith)

-- where a constant starts behind n bytes
pub record Starts (n : ℕ) (cs : List Constant) (c : ℕ) : Type 0 where
  pub below : get_or (constant_starts n cs) c 0 ≤ constants_end n cs
  pub on : OnBoundary (get_or (constant_starts n cs) c 0) (get_or (aligns_of cs) c 0)
  pub alignment : is_alignment (get_or (aligns_of cs) c 0) ≡ true

pub starts_of : (cs : List Constant) (n c : ℕ) → all_aligned cs ≡ true → c < length cs → Starts n cs c
starts_of [] n c all lt = absurd (omega arith)
starts_of (x ∷ cs) n zero all lt =
    let p = and_parts (is_alignment x.align) (all_aligned cs) all in
    record {
      below = omega (arith, end-ge (constant_start n x + length x.bytes) cs);
      on = rounded n x.align (alignment_of x.align p.0);
      alignment = p.0;
    }
starts_of (x ∷ cs) n (suc c) all lt =
    let p = and_parts (is_alignment x.align) (all_aligned cs) all in
    let r = starts_of cs (constant_start n x + length x.bytes) c p.1 (omega arith) in
    record { below = r.below; on = r.on; alignment = r.alignment }

-- ---- the code's alignment

-- no constant asks for more
greatest_extends : (a : ℕ) (cs : List Constant) → a ≤ greatest_align a cs
greatest_extends a [] = omega arith
greatest_extends a (c ∷ cs) = omega (arith, greatest_extends (max a c.align) cs)

pub greatest_ge : (cs : List Constant) (a c : ℕ) → c < length cs → get_or (aligns_of cs) c 0 ≤ greatest_align a cs
greatest_ge [] a c lt = absurd (omega arith)
greatest_ge (x ∷ cs) a zero lt = omega (arith, greatest_extends (max a x.align) cs)
greatest_ge (x ∷ cs) a (suc c) lt = greatest_ge cs (max a x.align) c (omega arith)

-- ---- the constants' labels

mapped : (starts : List ℕ) (c : ℕ) → c < length starts → get_or (map Some starts) c None ≡ Some (get_or starts c 0)
mapped [] c lt = absurd (omega arith)
mapped (s ∷ starts) zero lt = refl
mapped (s ∷ starts) (suc c) lt = mapped starts c (omega arith)

-- they are bound behind the blocks' labels
pub middle_label : (n : ℕ) (starts : List ℕ) (labels : List (Option ℕ)) (c : ℕ) → c < length starts → n ≤ length labels → get_or (bind_constants n starts labels) (n + c) None ≡ Some (get_or starts c 0)
middle_label n starts labels c lt le =
    let behind = drop (n + length starts) labels in
    let first : length (take n labels) ≡ n = omega (arith, length-take n labels) in
    let at : n + c ≡ length (take n labels) + c = omega arith in
    let inside : c < length (map Some starts) = omega (arith, length-map starts Some) in
    ap (λ k. get_or (bind_constants n starts labels) k None) at
    ∙ get_or-append-add (take n labels) (map Some starts ++ behind) c None
    ∙ get_or_append_left (map Some starts) behind None c inside
    ∙ mapped starts c lt
