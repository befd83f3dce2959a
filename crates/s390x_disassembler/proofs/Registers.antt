-- The registers of an address are read as they are written.
use Rattle.std.proofs.Common.{◌≡◌, ℕ, zero, suc, ◌%◌, ◌^◌, ◌<◌, Bool, true, false, ◌==◌, List, [], ◌∷◌, ◌++◌, drop, append_assoc, eqb-true, ne_eqb, refl, ap, ◌∙◌, arith, inl, inr}
use Rattle.std.specs.Prelude.{slice_index}
use Rattle.std.specs.Fmt.{decimal}
use Rattle.std.specs.Char.{is_digit}
use Rattle.s390x_disassembler.specs.Text.{general_text, registers_text}
use Rattle.s390x_disassembler.specs.Numbers.{begins_with, number_on, signed_read, signed_left, IsStop}
use Rattle.s390x_disassembler.specs.Operands.{IsEnd, AreRegisters}
use Rattle.s390x_disassembler.proofs.Numbers.{IsNumber, natural, if_no}

-- what ends an operand is no digit and no bracket
pub end_stop : (text : List ℕ) → IsEnd text → IsStop 10 text
end_stop text (inl e) = ap (λ (c : ℕ). is_digit c 10) e
end_stop text (inr e) = ap (λ (c : ℕ). is_digit c 10) e

pub end_stop16 : (text : List ℕ) → IsEnd text → IsStop 16 text
end_stop16 text (inl e) = ap (λ (c : ℕ). is_digit c 16) e
end_stop16 text (inr e) = ap (λ (c : ℕ). is_digit c 16) e

no_bracket : (text : List ℕ) → IsEnd text → begins_with 40 text ≡ true → ⊥
no_bracket [] e h = cc
no_bracket (c ∷ cs) (inl e) h = omega (arith, e, eqb-true c 40 h)
no_bracket (c ∷ cs) (inr e) h = omega (arith, e, eqb-true c 40 h)

ap_end : (text more : List ℕ) → text ≡ more → IsEnd more → IsEnd text
ap_end text more e (inl h) = inl (ap (λ (t : List ℕ). slice_index t 0) e ∙ h)
ap_end text more e (inr h) = inr (ap (λ (t : List ℕ). slice_index t 0) e ∙ h)

false_true : (b : Bool) → b ≡ false → b ≡ true → ⊥
false_true b e h = cc

pub registers_base : (j : ℕ) → registers_text 0 (suc j) ≡ 40 ∷ (general_text (suc j) ++ (41 ∷ []))
unfolding registers_text
registers_base j = if_no (suc j == 0) [] (40 ∷ (general_text (suc j) ++ (41 ∷ []))) (ne_eqb (suc j) 0 (λ e. omega (arith, e)))

pub registers_both : (i j : ℕ) → registers_text (suc i) j ≡ 40 ∷ (general_text (suc i) ++ (44 ∷ (general_text j ++ (41 ∷ []))))
unfolding registers_text
registers_both i j = if_no (suc i == 0) _ (40 ∷ (general_text (suc i) ++ (44 ∷ (general_text j ++ (41 ∷ []))))) (ne_eqb (suc i) 0 (λ e. omega (arith, e)))

base_text : (j : ℕ) (more : List ℕ) → registers_text 0 (suc j) ++ more ≡ 40 ∷ (37 ∷ (114 ∷ (decimal (suc j) ++ (41 ∷ more))))
base_text j more = ap (λ (t : List ℕ). t ++ more) (registers_base j) ∙ ap (λ (t : List ℕ). 40 ∷ (37 ∷ (114 ∷ t))) (append_assoc (decimal (suc j)) (41 ∷ []) more)

both_text : (i j : ℕ) (more : List ℕ) → registers_text (suc i) j ++ more ≡ 40 ∷ (37 ∷ (114 ∷ (decimal (suc i) ++ (44 ∷ (37 ∷ (114 ∷ (decimal j ++ (41 ∷ more))))))))
both_text i j more =
    ap (λ (t : List ℕ). t ++ more) (registers_both i j)
    ∙ ap (λ (t : List ℕ). 40 ∷ (37 ∷ (114 ∷ t))) (append_assoc (decimal (suc i)) (44 ∷ (general_text j ++ (41 ∷ []))) more ∙ ap (λ (t : List ℕ). decimal (suc i) ++ (44 ∷ (37 ∷ (114 ∷ t)))) (append_assoc (decimal j) (41 ∷ []) more))

one_number : (j : ℕ) (more : List ℕ) → j < 2 ^ 8 → IsNumber (40 ∷ (37 ∷ (114 ∷ (decimal j ++ (41 ∷ more))))) (41 ∷ more) j
one_number j more h = natural (40 ∷ (37 ∷ (114 ∷ []))) (41 ∷ more) j (refl, (refl, (refl, tt))) refl (omega (arith, h))

first_number : (i : ℕ) (more : List ℕ) → i < 2 ^ 8 → IsNumber (40 ∷ (37 ∷ (114 ∷ (decimal i ++ (44 ∷ more))))) (44 ∷ more) i
first_number i more h = natural (40 ∷ (37 ∷ (114 ∷ []))) (44 ∷ more) i (refl, (refl, (refl, tt))) refl (omega (arith, h))

second_number : (j : ℕ) (more : List ℕ) → j < 2 ^ 8 → IsNumber (44 ∷ (37 ∷ (114 ∷ (decimal j ++ (41 ∷ more))))) (41 ∷ more) j
second_number j more h = natural (44 ∷ (37 ∷ (114 ∷ []))) (41 ∷ more) j (refl, (refl, (refl, tt))) refl (omega (arith, h))

low_same : (x n : ℕ) → x ≡ n → n < 2 ^ 8 → x % 2 ^ 32 ≡ n
low_same x n e h = omega (arith, e, h)

-- no bracket opens
pub none_written : (text : List ℕ) → begins_with 40 text ≡ false → AreRegisters text 0 0 text
unfolding registers_text
none_written text nay zero zero more hi hj end e = (refl, refl, e)
none_written text nay zero (suc j) more hi hj end e = absurd (false_true (begins_with 40 text) nay (ap (begins_with 40) (e ∙ base_text j more)))
none_written text nay (suc i) j more hi hj end e = absurd (false_true (begins_with 40 text) nay (ap (begins_with 40) (e ∙ both_text i j more)))

pub one_written : (text rest : List ℕ) → begins_with 40 text ≡ true → rest ≡ signed_left (number_on text) → begins_with 44 rest ≡ false → AreRegisters text 0 (signed_read (number_on text) % 2 ^ 32) (drop 1 rest)
unfolding registers_text
one_written text rest aye is nay zero zero more hi hj end e = absurd (no_bracket text (ap_end text more e end) aye)
one_written text rest aye is nay zero (suc j) more hi hj end e =
    let t : text ≡ 40 ∷ (37 ∷ (114 ∷ (decimal (suc j) ++ (41 ∷ more)))) = e ∙ base_text j more in
    let n = one_number (suc j) more hj in
    (refl, low_same _ (suc j) (ap (λ (s : List ℕ). signed_read (number_on s)) t ∙ n.value) hj, ap (drop 1) (is ∙ ap (λ (s : List ℕ). signed_left (number_on s)) t ∙ n.behind))
one_written text rest aye is nay (suc i) j more hi hj end e =
    let t : text ≡ 40 ∷ (37 ∷ (114 ∷ (decimal (suc i) ++ (44 ∷ (37 ∷ (114 ∷ (decimal j ++ (41 ∷ more)))))))) = e ∙ both_text i j more in
    let n = first_number (suc i) (37 ∷ (114 ∷ (decimal j ++ (41 ∷ more)))) hi in
    absurd (false_true (begins_with 44 rest) nay (ap (begins_with 44) (is ∙ ap (λ (s : List ℕ). signed_left (number_on s)) t ∙ n.behind)))

pub two_written : (text rest last : List ℕ) → begins_with 40 text ≡ true → rest ≡ signed_left (number_on text) → begins_with 44 rest ≡ true → last ≡ signed_left (number_on rest)
    → AreRegisters text (signed_read (number_on text) % 2 ^ 32) (signed_read (number_on rest) % 2 ^ 32) (drop 1 last)
unfolding registers_text
two_written text rest last aye is comma end_is zero zero more hi hj end e = absurd (no_bracket text (ap_end text more e end) aye)
two_written text rest last aye is comma end_is zero (suc j) more hi hj end e =
    let t : text ≡ 40 ∷ (37 ∷ (114 ∷ (decimal (suc j) ++ (41 ∷ more)))) = e ∙ base_text j more in
    let n = one_number (suc j) more hj in
    absurd (false_true (begins_with 44 rest) (ap (begins_with 44) (is ∙ ap (λ (s : List ℕ). signed_left (number_on s)) t ∙ n.behind)) comma)
two_written text rest last aye is comma end_is (suc i) j more hi hj end e =
    let t : text ≡ 40 ∷ (37 ∷ (114 ∷ (decimal (suc i) ++ (44 ∷ (37 ∷ (114 ∷ (decimal j ++ (41 ∷ more)))))))) = e ∙ both_text i j more in
    let n = first_number (suc i) (37 ∷ (114 ∷ (decimal j ++ (41 ∷ more)))) hi in
    let r : rest ≡ 44 ∷ (37 ∷ (114 ∷ (decimal j ++ (41 ∷ more)))) = is ∙ ap (λ (s : List ℕ). signed_left (number_on s)) t ∙ n.behind in
    let m = second_number j more hj in (
      low_same _ (suc i) (ap (λ (s : List ℕ). signed_read (number_on s)) t ∙ n.value) hi,
      low_same _ j (ap (λ (s : List ℕ). signed_read (number_on s)) r ∙ m.value) hj,
      ap (drop 1) (end_is ∙ ap (λ (s : List ℕ). signed_left (number_on s)) r ∙ m.behind),
    )
