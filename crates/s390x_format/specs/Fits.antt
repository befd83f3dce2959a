-- Fields that fit, slot by slot.
use Rattle.std.proofs.Common.{◌≡◌, ℕ, zero, suc, ◌^◌, ◌<◌, List, [], ◌∷◌, length, get_or, refl, sym, ap, subst, ◌∙◌, arith}
use Rattle.std.proofs.lemmas.List.{same_lists, get_or_default}
use Rattle.s390x_format.specs.declared.kind.FormatKind.{FormatKind}
use Rattle.s390x_format.specs.declared.kind.FormatKind.TheVariants.{E}
use Rattle.s390x_format.specs.Layout.{bits, parts_of, width_of_part, SlotsFit}
use Rattle.s390x_format.specs.Formats.{layout_of}
use Rattle.s390x_format.specs.Widths.{widths_of}

-- there are as many values as widths, and each value fits in its width
abbrev pub AllFit : List ℕ → List ℕ → Type 0
AllFit [] [] = Unit {0}
AllFit [] (v ∷ vs) = ⊥
AllFit (w ∷ ws) [] = ⊥
AllFit (w ∷ ws) (v ∷ vs) = (v < 2 ^ w) × AllFit ws vs

all_at : (ws vs : List ℕ) → AllFit ws vs → (k : ℕ) → k < length vs → get_or vs k 0 < 2 ^ get_or ws k 0
all_at [] [] h k lt = absurd (omega arith)
all_at [] (v ∷ vs) h k lt = absurd h
all_at (w ∷ ws) [] h k lt = absurd h
all_at (w ∷ ws) (v ∷ vs) h zero lt = h.0
all_at (w ∷ ws) (v ∷ vs) h (suc k) lt = all_at ws vs h.1 k (omega arith)

widths_are : (f : FormatKind) → width_of_part 0 (layout_of f) ∷ width_of_part 1 (layout_of f) ∷ width_of_part 2 (layout_of f) ∷ width_of_part 3 (layout_of f) ∷ width_of_part 4 (layout_of f) ∷ width_of_part 5 (layout_of f) ∷ width_of_part 6 (layout_of f) ∷ width_of_part 7 (layout_of f) ∷ width_of_part 8 (layout_of f) ∷ width_of_part 9 (layout_of f) ∷ [] ≡ widths_of f
unfolding bits parts_of layout_of
widths_are E = refl
widths_are _ = refl

pick : (h : ℕ → ℕ) (k : ℕ) → k < 10 → get_or (h 0 ∷ h 1 ∷ h 2 ∷ h 3 ∷ h 4 ∷ h 5 ∷ h 6 ∷ h 7 ∷ h 8 ∷ h 9 ∷ []) k 0 ≡ h k
pick h zero lt = refl
pick h (suc zero) lt = refl
pick h (suc (suc zero)) lt = refl
pick h (suc (suc (suc zero))) lt = refl
pick h (suc (suc (suc (suc zero)))) lt = refl
pick h (suc (suc (suc (suc (suc zero))))) lt = refl
pick h (suc (suc (suc (suc (suc (suc zero)))))) lt = refl
pick h (suc (suc (suc (suc (suc (suc (suc zero))))))) lt = refl
pick h (suc (suc (suc (suc (suc (suc (suc (suc zero)))))))) lt = refl
pick h (suc (suc (suc (suc (suc (suc (suc (suc (suc zero))))))))) lt = refl
pick h (suc (suc (suc (suc (suc (suc (suc (suc (suc (suc k)))))))))) lt = absurd (omega arith)

width_at : (f : FormatKind) (k : ℕ) → k < 10 → get_or (widths_of f) k 0 ≡ width_of_part k (layout_of f)
width_at f k lt = ap (λ (ws : List ℕ). get_or ws k 0) (sym (widths_are f)) ∙ pick (λ j. width_of_part j (layout_of f)) k lt

pub fields_from : (f : FormatKind) (fs : List ℕ) → length fs ≡ 10 → AllFit (widths_of f) fs → SlotsFit (layout_of f) fs
fields_from f fs len h = (len, λ k lt. subst (λ (w : ℕ). get_or fs k 0 < 2 ^ w) (width_at f k lt) (all_at (widths_of f) fs h k (omega arith)))

pub slot_fits : (f : FormatKind) (fs : List ℕ) (k : ℕ) → k < 10 → SlotsFit (layout_of f) fs → get_or fs k 0 < 2 ^ get_or (widths_of f) k 0
slot_fits f fs k lt h = subst (λ (w : ℕ). get_or fs k 0 < 2 ^ w) (sym (width_at f k lt)) (h.1 k lt)

-- ten values, one by one
pub ten_same : (fs : List ℕ) (a b c d e f g h i j : ℕ) → length fs ≡ 10 → a ≡ get_or fs 0 0 → b ≡ get_or fs 1 0 → c ≡ get_or fs 2 0 → d ≡ get_or fs 3 0 → e ≡ get_or fs 4 0 →
    f ≡ get_or fs 5 0 → g ≡ get_or fs 6 0 → h ≡ get_or fs 7 0 → i ≡ get_or fs 8 0 → j ≡ get_or fs 9 0 → a ∷ b ∷ c ∷ d ∷ e ∷ f ∷ g ∷ h ∷ i ∷ j ∷ [] ≡ fs
ten_same fs a b c d e f g h i j len p0 p1 p2 p3 p4 p5 p6 p7 p8 p9 =
    same_lists (a ∷ b ∷ c ∷ d ∷ e ∷ f ∷ g ∷ h ∷ i ∷ j ∷ []) fs (sym len)
    (λ k x lt. rw (get_or_default fs k x 0 (omega arith), get_or_default (a ∷ b ∷ c ∷ d ∷ e ∷ f ∷ g ∷ h ∷ i ∷ j ∷ []) k x 0 lt) (each k lt))
  where
    each : (k : ℕ) → k < 10 → get_or (a ∷ b ∷ c ∷ d ∷ e ∷ f ∷ g ∷ h ∷ i ∷ j ∷ []) k 0 ≡ get_or fs k 0
    each zero lt = p0
    each (suc zero) lt = p1
    each (suc (suc zero)) lt = p2
    each (suc (suc (suc zero))) lt = p3
    each (suc (suc (suc (suc zero)))) lt = p4
    each (suc (suc (suc (suc (suc zero))))) lt = p5
    each (suc (suc (suc (suc (suc (suc zero)))))) lt = p6
    each (suc (suc (suc (suc (suc (suc (suc zero))))))) lt = p7
    each (suc (suc (suc (suc (suc (suc (suc (suc zero)))))))) lt = p8
    each (suc (suc (suc (suc (suc (suc (suc (suc (suc zero))))))))) lt = p9
    each (suc (suc (suc (suc (suc (suc (suc (suc (suc (suc k)))))))))) lt = absurd (omega arith)
