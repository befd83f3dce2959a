-- The slots of registers and masks have at most eight bits, and the displacement's at most twenty.
use Rattle.std.proofs.Common.{◌≡◌, ℕ, zero, suc, ◌^◌, ◌<◌, ◌≤◌, Bool, true, ◌&&◌, nat_le, List, [], ◌∷◌, get_or, length, refl, leb-true, arith}
use Rattle.std.proofs.Math.Pow.{pow_mono}
use Rattle.std.proofs.lemmas.Bool.{and_parts}
use Rattle.s390x_format.specs.declared.kind.FormatKind.{FormatKind}
use Rattle.s390x_format.specs.declared.kind.FormatKind.TheVariants.{E}
use Rattle.s390x_format.specs.Layout.{SlotsFit}
use Rattle.s390x_format.specs.Formats.{layout_of}
use Rattle.s390x_format.specs.Widths.{widths_of}
use Rattle.s390x_format.specs.Fits.{slot_fits}

limits : List ℕ
limits = 16 ∷ 8 ∷ 8 ∷ 8 ∷ 8 ∷ 8 ∷ 8 ∷ 8 ∷ 32 ∷ 20 ∷ []

abbrev within : List ℕ → List ℕ → Bool
within [] ls = true
within (w ∷ ws) [] = true
within (w ∷ ws) (l ∷ ls) = nat_le w l && within ws ls

within_all : (f : FormatKind) → within (widths_of f) limits ≡ true
unfolding limits
within_all E = refl
within_all _ = refl

within_at : (ws ls : List ℕ) (k : ℕ) → within ws ls ≡ true → k < length ls → get_or ws k 0 ≤ get_or ls k 0
within_at [] ls k h lt = omega arith
within_at (w ∷ ws) [] k h lt = absurd (omega arith)
within_at (w ∷ ws) (l ∷ ls) zero h lt = leb-true w l (and_parts (nat_le w l) (within ws ls) h).0
within_at (w ∷ ws) (l ∷ ls) (suc k) h lt = within_at ws ls k (and_parts (nat_le w l) (within ws ls) h).1 (omega arith)

pub slot_below : (f : FormatKind) (fs : List ℕ) (k : ℕ) → k < 10 → SlotsFit (layout_of f) fs → get_or fs k 0 < 2 ^ get_or (16 ∷ 8 ∷ 8 ∷ 8 ∷ 8 ∷ 8 ∷ 8 ∷ 8 ∷ 32 ∷ 20 ∷ []) k 0
unfolding limits
slot_below f fs k lt h =
    let a : get_or fs k 0 < 2 ^ get_or (widths_of f) k 0 = slot_fits f fs k lt h in
    let b : 2 ^ get_or (widths_of f) k 0 ≤ 2 ^ get_or limits k 0 = pow_mono (within_at (widths_of f) limits k (within_all f) lt) in
    omega arith
