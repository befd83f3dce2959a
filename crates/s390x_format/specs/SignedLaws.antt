-- The laws of the formats with distances or a signed immediate: their slots fit, and tell the value.
use Rattle.std.proofs.Common.{◌≡◌, ℕ, ◌^◌, ◌<◌, List, [], ◌∷◌, refl, lit<, sym, ap, get_or, ◌∙◌}
use Rattle.std.specs.Coded.{le_prop}
use mathlib.Core.HLevel.{is_prop→PathP}
use lib.IntN.{ℤ_set}
use mir.Syntax.{w16, w32}
use Rattle.s390x_format.specs.Distances.{half_of, signed_distance, signed_of, unsigned_of}
use Rattle.s390x_format.specs.Layout.{SlotsFit}
use Rattle.s390x_format.specs.Formats.{layout_of}
use Rattle.s390x_format.specs.Fits.{fields_from}
use Rattle.s390x_format.specs.Equal.{at, below}
use Rattle.s390x_format.specs.declared.kind.FormatKind.TheVariants.{RiB as KindRiB, RiC as KindRiC, RilB as KindRilB, RilC as KindRilC, Sil as KindSil}
use Rattle.s390x_format.specs.declared.signed_formats.RiB.{RiB}
use Rattle.s390x_format.specs.declared.signed_formats.RiC.{RiC}
use Rattle.s390x_format.specs.declared.signed_formats.RilB.{RilB}
use Rattle.s390x_format.specs.declared.signed_formats.RilC.{RilC}
use Rattle.s390x_format.specs.declared.signed_formats.Sil.{Sil}

pub ri_b_fit : (s : RiB) → SlotsFit (layout_of KindRiB) (s.opcode ∷ s.r1 ∷ 0 ∷ 0 ∷ 0 ∷ 0 ∷ 0 ∷ 0 ∷ half_of w16 s.ri2 ∷ 0 ∷ [])
ri_b_fit s = fields_from KindRiB (s.opcode ∷ s.r1 ∷ 0 ∷ 0 ∷ 0 ∷ 0 ∷ 0 ∷ 0 ∷ half_of w16 s.ri2 ∷ 0 ∷ []) refl (s.opcode_fits, (s.r1_fits, (lit< tt, (lit< tt, (lit< tt, (lit< tt, (lit< tt, (lit< tt, (s.half_fits, (lit< tt, tt))))))))))

pub ri_b_same : (s t : RiB) → ◌≡◌ {A = List ℕ} (s.opcode ∷ s.r1 ∷ 0 ∷ 0 ∷ 0 ∷ 0 ∷ 0 ∷ 0 ∷ half_of w16 s.ri2 ∷ 0 ∷ []) (t.opcode ∷ t.r1 ∷ 0 ∷ 0 ∷ 0 ∷ 0 ∷ 0 ∷ 0 ∷ half_of w16 t.ri2 ∷ 0 ∷ []) → s ≡ t
ri_b_same s t e =
    let p_half : half_of w16 s.ri2 ≡ half_of w16 t.ri2 = ap (λ (xs : List ℕ). get_or xs 8 0) e in
    let p_ri2 : s.ri2 ≡ t.ri2 = sym s.ri2_fits ∙ ap (signed_distance w16) p_half ∙ t.ri2_fits in
    λ i. record {
      opcode = at 0 e i;
      r1 = at 1 e i;
      ri2 = p_ri2 i;
      opcode_fits = below (2 ^ 12) (at 0 e) s.opcode_fits t.opcode_fits i;
      r1_fits = below (2 ^ 4) (at 1 e) s.r1_fits t.r1_fits i;
      half_fits = is_prop→PathP (λ j. half_of w16 (p_ri2 j) < 2 ^ 16) (λ j. le_prop) s.half_fits t.half_fits i;
      ri2_fits = is_prop→PathP (λ j. signed_distance w16 (half_of w16 (p_ri2 j)) ≡ p_ri2 j) (λ j. ℤ_set (signed_distance w16 (half_of w16 (p_ri2 j))) (p_ri2 j)) s.ri2_fits t.ri2_fits i;
    }

pub ri_c_fit : (s : RiC) → SlotsFit (layout_of KindRiC) (s.opcode ∷ 0 ∷ 0 ∷ 0 ∷ 0 ∷ s.m1 ∷ 0 ∷ 0 ∷ half_of w16 s.ri2 ∷ 0 ∷ [])
ri_c_fit s = fields_from KindRiC (s.opcode ∷ 0 ∷ 0 ∷ 0 ∷ 0 ∷ s.m1 ∷ 0 ∷ 0 ∷ half_of w16 s.ri2 ∷ 0 ∷ []) refl (s.opcode_fits, (lit< tt, (lit< tt, (lit< tt, (lit< tt, (s.m1_fits, (lit< tt, (lit< tt, (s.half_fits, (lit< tt, tt))))))))))

pub ri_c_same : (s t : RiC) → ◌≡◌ {A = List ℕ} (s.opcode ∷ 0 ∷ 0 ∷ 0 ∷ 0 ∷ s.m1 ∷ 0 ∷ 0 ∷ half_of w16 s.ri2 ∷ 0 ∷ []) (t.opcode ∷ 0 ∷ 0 ∷ 0 ∷ 0 ∷ t.m1 ∷ 0 ∷ 0 ∷ half_of w16 t.ri2 ∷ 0 ∷ []) → s ≡ t
ri_c_same s t e =
    let p_half : half_of w16 s.ri2 ≡ half_of w16 t.ri2 = ap (λ (xs : List ℕ). get_or xs 8 0) e in
    let p_ri2 : s.ri2 ≡ t.ri2 = sym s.ri2_fits ∙ ap (signed_distance w16) p_half ∙ t.ri2_fits in
    λ i. record {
      opcode = at 0 e i;
      m1 = at 5 e i;
      ri2 = p_ri2 i;
      opcode_fits = below (2 ^ 12) (at 0 e) s.opcode_fits t.opcode_fits i;
      m1_fits = below (2 ^ 4) (at 5 e) s.m1_fits t.m1_fits i;
      half_fits = is_prop→PathP (λ j. half_of w16 (p_ri2 j) < 2 ^ 16) (λ j. le_prop) s.half_fits t.half_fits i;
      ri2_fits = is_prop→PathP (λ j. signed_distance w16 (half_of w16 (p_ri2 j)) ≡ p_ri2 j) (λ j. ℤ_set (signed_distance w16 (half_of w16 (p_ri2 j))) (p_ri2 j)) s.ri2_fits t.ri2_fits i;
    }

pub ril_b_fit : (s : RilB) → SlotsFit (layout_of KindRilB) (s.opcode ∷ s.r1 ∷ 0 ∷ 0 ∷ 0 ∷ 0 ∷ 0 ∷ 0 ∷ half_of w32 s.ri2 ∷ 0 ∷ [])
ril_b_fit s = fields_from KindRilB (s.opcode ∷ s.r1 ∷ 0 ∷ 0 ∷ 0 ∷ 0 ∷ 0 ∷ 0 ∷ half_of w32 s.ri2 ∷ 0 ∷ []) refl (s.opcode_fits, (s.r1_fits, (lit< tt, (lit< tt, (lit< tt, (lit< tt, (lit< tt, (lit< tt, (s.half_fits, (lit< tt, tt))))))))))

pub ril_b_same : (s t : RilB) → ◌≡◌ {A = List ℕ} (s.opcode ∷ s.r1 ∷ 0 ∷ 0 ∷ 0 ∷ 0 ∷ 0 ∷ 0 ∷ half_of w32 s.ri2 ∷ 0 ∷ []) (t.opcode ∷ t.r1 ∷ 0 ∷ 0 ∷ 0 ∷ 0 ∷ 0 ∷ 0 ∷ half_of w32 t.ri2 ∷ 0 ∷ []) → s ≡ t
ril_b_same s t e =
    let p_half : half_of w32 s.ri2 ≡ half_of w32 t.ri2 = ap (λ (xs : List ℕ). get_or xs 8 0) e in
    let p_ri2 : s.ri2 ≡ t.ri2 = sym s.ri2_fits ∙ ap (signed_distance w32) p_half ∙ t.ri2_fits in
    λ i. record {
      opcode = at 0 e i;
      r1 = at 1 e i;
      ri2 = p_ri2 i;
      opcode_fits = below (2 ^ 12) (at 0 e) s.opcode_fits t.opcode_fits i;
      r1_fits = below (2 ^ 4) (at 1 e) s.r1_fits t.r1_fits i;
      half_fits = is_prop→PathP (λ j. half_of w32 (p_ri2 j) < 2 ^ 32) (λ j. le_prop) s.half_fits t.half_fits i;
      ri2_fits = is_prop→PathP (λ j. signed_distance w32 (half_of w32 (p_ri2 j)) ≡ p_ri2 j) (λ j. ℤ_set (signed_distance w32 (half_of w32 (p_ri2 j))) (p_ri2 j)) s.ri2_fits t.ri2_fits i;
    }

pub ril_c_fit : (s : RilC) → SlotsFit (layout_of KindRilC) (s.opcode ∷ 0 ∷ 0 ∷ 0 ∷ 0 ∷ s.m1 ∷ 0 ∷ 0 ∷ half_of w32 s.ri2 ∷ 0 ∷ [])
ril_c_fit s = fields_from KindRilC (s.opcode ∷ 0 ∷ 0 ∷ 0 ∷ 0 ∷ s.m1 ∷ 0 ∷ 0 ∷ half_of w32 s.ri2 ∷ 0 ∷ []) refl (s.opcode_fits, (lit< tt, (lit< tt, (lit< tt, (lit< tt, (s.m1_fits, (lit< tt, (lit< tt, (s.half_fits, (lit< tt, tt))))))))))

pub ril_c_same : (s t : RilC) → ◌≡◌ {A = List ℕ} (s.opcode ∷ 0 ∷ 0 ∷ 0 ∷ 0 ∷ s.m1 ∷ 0 ∷ 0 ∷ half_of w32 s.ri2 ∷ 0 ∷ []) (t.opcode ∷ 0 ∷ 0 ∷ 0 ∷ 0 ∷ t.m1 ∷ 0 ∷ 0 ∷ half_of w32 t.ri2 ∷ 0 ∷ []) → s ≡ t
ril_c_same s t e =
    let p_half : half_of w32 s.ri2 ≡ half_of w32 t.ri2 = ap (λ (xs : List ℕ). get_or xs 8 0) e in
    let p_ri2 : s.ri2 ≡ t.ri2 = sym s.ri2_fits ∙ ap (signed_distance w32) p_half ∙ t.ri2_fits in
    λ i. record {
      opcode = at 0 e i;
      m1 = at 5 e i;
      ri2 = p_ri2 i;
      opcode_fits = below (2 ^ 12) (at 0 e) s.opcode_fits t.opcode_fits i;
      m1_fits = below (2 ^ 4) (at 5 e) s.m1_fits t.m1_fits i;
      half_fits = is_prop→PathP (λ j. half_of w32 (p_ri2 j) < 2 ^ 32) (λ j. le_prop) s.half_fits t.half_fits i;
      ri2_fits = is_prop→PathP (λ j. signed_distance w32 (half_of w32 (p_ri2 j)) ≡ p_ri2 j) (λ j. ℤ_set (signed_distance w32 (half_of w32 (p_ri2 j))) (p_ri2 j)) s.ri2_fits t.ri2_fits i;
    }

pub sil_fit : (s : Sil) → SlotsFit (layout_of KindSil) (s.opcode ∷ s.b1 ∷ 0 ∷ 0 ∷ 0 ∷ 0 ∷ 0 ∷ 0 ∷ unsigned_of w16 s.i2 ∷ s.d1 ∷ [])
sil_fit s = fields_from KindSil (s.opcode ∷ s.b1 ∷ 0 ∷ 0 ∷ 0 ∷ 0 ∷ 0 ∷ 0 ∷ unsigned_of w16 s.i2 ∷ s.d1 ∷ []) refl (s.opcode_fits, (s.b1_fits, (lit< tt, (lit< tt, (lit< tt, (lit< tt, (lit< tt, (lit< tt, (s.bits_fit, (s.d1_fits, tt))))))))))

pub sil_same : (s t : Sil) → ◌≡◌ {A = List ℕ} (s.opcode ∷ s.b1 ∷ 0 ∷ 0 ∷ 0 ∷ 0 ∷ 0 ∷ 0 ∷ unsigned_of w16 s.i2 ∷ s.d1 ∷ []) (t.opcode ∷ t.b1 ∷ 0 ∷ 0 ∷ 0 ∷ 0 ∷ 0 ∷ 0 ∷ unsigned_of w16 t.i2 ∷ t.d1 ∷ []) → s ≡ t
sil_same s t e =
    let p_bits : unsigned_of w16 s.i2 ≡ unsigned_of w16 t.i2 = ap (λ (xs : List ℕ). get_or xs 8 0) e in
    let p_i2 : s.i2 ≡ t.i2 = sym s.i2_fits ∙ ap (signed_of w16) p_bits ∙ t.i2_fits in
    λ i. record {
      opcode = at 0 e i;
      b1 = at 1 e i;
      d1 = at 9 e i;
      i2 = p_i2 i;
      opcode_fits = below (2 ^ 16) (at 0 e) s.opcode_fits t.opcode_fits i;
      b1_fits = below (2 ^ 4) (at 1 e) s.b1_fits t.b1_fits i;
      d1_fits = below (2 ^ 12) (at 9 e) s.d1_fits t.d1_fits i;
      bits_fit = is_prop→PathP (λ j. unsigned_of w16 (p_i2 j) < 2 ^ 16) (λ j. le_prop) s.bits_fit t.bits_fit i;
      i2_fits = is_prop→PathP (λ j. signed_of w16 (unsigned_of w16 (p_i2 j)) ≡ p_i2 j) (λ j. ℤ_set (signed_of w16 (unsigned_of w16 (p_i2 j))) (p_i2 j)) s.i2_fits t.i2_fits i;
    }
