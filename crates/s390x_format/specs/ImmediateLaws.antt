-- The laws of the formats with unsigned immediates: their slots fit, and tell the value.
use Rattle.std.proofs.Common.{◌≡◌, ℕ, ◌^◌, ◌<◌, List, [], ◌∷◌, refl, lit<, ap, get_or}
use Rattle.s390x_format.specs.Layout.{SlotsFit}
use Rattle.s390x_format.specs.Formats.{layout_of}
use Rattle.s390x_format.specs.Fits.{fields_from}
use Rattle.s390x_format.specs.Equal.{at, below}
use Rattle.s390x_format.specs.declared.kind.FormatKind.TheVariants.{RiA as KindRiA, RieA as KindRieA, RieD as KindRieD, RieF as KindRieF, RieG as KindRieG, RilA as KindRilA}
use Rattle.s390x_format.specs.declared.immediate_formats.RiA.{RiA}
use Rattle.s390x_format.specs.declared.immediate_formats.RieA.{RieA}
use Rattle.s390x_format.specs.declared.immediate_formats.RieD.{RieD}
use Rattle.s390x_format.specs.declared.immediate_formats.RieF.{RieF}
use Rattle.s390x_format.specs.declared.immediate_formats.RieG.{RieG}
use Rattle.s390x_format.specs.declared.immediate_formats.RilA.{RilA}

pub ri_a_fit : (s : RiA) → SlotsFit (layout_of KindRiA) (s.opcode ∷ s.r1 ∷ 0 ∷ 0 ∷ 0 ∷ 0 ∷ 0 ∷ 0 ∷ s.i2 ∷ 0 ∷ [])
ri_a_fit s = fields_from KindRiA (s.opcode ∷ s.r1 ∷ 0 ∷ 0 ∷ 0 ∷ 0 ∷ 0 ∷ 0 ∷ s.i2 ∷ 0 ∷ []) refl (s.opcode_fits, (s.r1_fits, (lit< tt, (lit< tt, (lit< tt, (lit< tt, (lit< tt, (lit< tt, (s.i2_fits, (lit< tt, tt))))))))))

pub ri_a_same : (s t : RiA) → ◌≡◌ {A = List ℕ} (s.opcode ∷ s.r1 ∷ 0 ∷ 0 ∷ 0 ∷ 0 ∷ 0 ∷ 0 ∷ s.i2 ∷ 0 ∷ []) (t.opcode ∷ t.r1 ∷ 0 ∷ 0 ∷ 0 ∷ 0 ∷ 0 ∷ 0 ∷ t.i2 ∷ 0 ∷ []) → s ≡ t
ri_a_same s t e = λ i. record {
  opcode = at 0 e i;
  r1 = at 1 e i;
  i2 = at 8 e i;
  opcode_fits = below (2 ^ 12) (at 0 e) s.opcode_fits t.opcode_fits i;
  r1_fits = below (2 ^ 4) (at 1 e) s.r1_fits t.r1_fits i;
  i2_fits = below (2 ^ 16) (at 8 e) s.i2_fits t.i2_fits i;
}

pub rie_a_fit : (s : RieA) → SlotsFit (layout_of KindRieA) (s.opcode ∷ s.r1 ∷ 0 ∷ 0 ∷ 0 ∷ s.m3 ∷ 0 ∷ 0 ∷ s.i2 ∷ 0 ∷ [])
rie_a_fit s = fields_from KindRieA (s.opcode ∷ s.r1 ∷ 0 ∷ 0 ∷ 0 ∷ s.m3 ∷ 0 ∷ 0 ∷ s.i2 ∷ 0 ∷ []) refl (s.opcode_fits, (s.r1_fits, (lit< tt, (lit< tt, (lit< tt, (s.m3_fits, (lit< tt, (lit< tt, (s.i2_fits, (lit< tt, tt))))))))))

pub rie_a_same : (s t : RieA) → ◌≡◌ {A = List ℕ} (s.opcode ∷ s.r1 ∷ 0 ∷ 0 ∷ 0 ∷ s.m3 ∷ 0 ∷ 0 ∷ s.i2 ∷ 0 ∷ []) (t.opcode ∷ t.r1 ∷ 0 ∷ 0 ∷ 0 ∷ t.m3 ∷ 0 ∷ 0 ∷ t.i2 ∷ 0 ∷ []) → s ≡ t
rie_a_same s t e = λ i. record {
  opcode = at 0 e i;
  r1 = at 1 e i;
  i2 = at 8 e i;
  m3 = at 5 e i;
  opcode_fits = below (2 ^ 16) (at 0 e) s.opcode_fits t.opcode_fits i;
  r1_fits = below (2 ^ 4) (at 1 e) s.r1_fits t.r1_fits i;
  i2_fits = below (2 ^ 16) (at 8 e) s.i2_fits t.i2_fits i;
  m3_fits = below (2 ^ 4) (at 5 e) s.m3_fits t.m3_fits i;
}

pub rie_d_fit : (s : RieD) → SlotsFit (layout_of KindRieD) (s.opcode ∷ s.r1 ∷ s.r3 ∷ 0 ∷ 0 ∷ 0 ∷ 0 ∷ 0 ∷ s.i2 ∷ 0 ∷ [])
rie_d_fit s = fields_from KindRieD (s.opcode ∷ s.r1 ∷ s.r3 ∷ 0 ∷ 0 ∷ 0 ∷ 0 ∷ 0 ∷ s.i2 ∷ 0 ∷ []) refl (s.opcode_fits, (s.r1_fits, (s.r3_fits, (lit< tt, (lit< tt, (lit< tt, (lit< tt, (lit< tt, (s.i2_fits, (lit< tt, tt))))))))))

pub rie_d_same : (s t : RieD) → ◌≡◌ {A = List ℕ} (s.opcode ∷ s.r1 ∷ s.r3 ∷ 0 ∷ 0 ∷ 0 ∷ 0 ∷ 0 ∷ s.i2 ∷ 0 ∷ []) (t.opcode ∷ t.r1 ∷ t.r3 ∷ 0 ∷ 0 ∷ 0 ∷ 0 ∷ 0 ∷ t.i2 ∷ 0 ∷ []) → s ≡ t
rie_d_same s t e = λ i. record {
  opcode = at 0 e i;
  r1 = at 1 e i;
  r3 = at 2 e i;
  i2 = at 8 e i;
  opcode_fits = below (2 ^ 16) (at 0 e) s.opcode_fits t.opcode_fits i;
  r1_fits = below (2 ^ 4) (at 1 e) s.r1_fits t.r1_fits i;
  r3_fits = below (2 ^ 4) (at 2 e) s.r3_fits t.r3_fits i;
  i2_fits = below (2 ^ 16) (at 8 e) s.i2_fits t.i2_fits i;
}

pub rie_f_fit : (s : RieF) → SlotsFit (layout_of KindRieF) (s.opcode ∷ s.r1 ∷ s.r2 ∷ 0 ∷ 0 ∷ s.i3 ∷ s.i4 ∷ s.i5 ∷ 0 ∷ 0 ∷ [])
rie_f_fit s = fields_from KindRieF (s.opcode ∷ s.r1 ∷ s.r2 ∷ 0 ∷ 0 ∷ s.i3 ∷ s.i4 ∷ s.i5 ∷ 0 ∷ 0 ∷ []) refl (s.opcode_fits, (s.r1_fits, (s.r2_fits, (lit< tt, (lit< tt, (s.i3_fits, (s.i4_fits, (s.i5_fits, (lit< tt, (lit< tt, tt))))))))))

pub rie_f_same : (s t : RieF) → ◌≡◌ {A = List ℕ} (s.opcode ∷ s.r1 ∷ s.r2 ∷ 0 ∷ 0 ∷ s.i3 ∷ s.i4 ∷ s.i5 ∷ 0 ∷ 0 ∷ []) (t.opcode ∷ t.r1 ∷ t.r2 ∷ 0 ∷ 0 ∷ t.i3 ∷ t.i4 ∷ t.i5 ∷ 0 ∷ 0 ∷ []) → s ≡ t
rie_f_same s t e = λ i. record {
  opcode = at 0 e i;
  r1 = at 1 e i;
  r2 = at 2 e i;
  i3 = at 5 e i;
  i4 = at 6 e i;
  i5 = at 7 e i;
  opcode_fits = below (2 ^ 16) (at 0 e) s.opcode_fits t.opcode_fits i;
  r1_fits = below (2 ^ 4) (at 1 e) s.r1_fits t.r1_fits i;
  r2_fits = below (2 ^ 4) (at 2 e) s.r2_fits t.r2_fits i;
  i3_fits = below (2 ^ 8) (at 5 e) s.i3_fits t.i3_fits i;
  i4_fits = below (2 ^ 8) (at 6 e) s.i4_fits t.i4_fits i;
  i5_fits = below (2 ^ 8) (at 7 e) s.i5_fits t.i5_fits i;
}

pub rie_g_fit : (s : RieG) → SlotsFit (layout_of KindRieG) (s.opcode ∷ s.r1 ∷ 0 ∷ 0 ∷ 0 ∷ s.m3 ∷ 0 ∷ 0 ∷ s.i2 ∷ 0 ∷ [])
rie_g_fit s = fields_from KindRieG (s.opcode ∷ s.r1 ∷ 0 ∷ 0 ∷ 0 ∷ s.m3 ∷ 0 ∷ 0 ∷ s.i2 ∷ 0 ∷ []) refl (s.opcode_fits, (s.r1_fits, (lit< tt, (lit< tt, (lit< tt, (s.m3_fits, (lit< tt, (lit< tt, (s.i2_fits, (lit< tt, tt))))))))))

pub rie_g_same : (s t : RieG) → ◌≡◌ {A = List ℕ} (s.opcode ∷ s.r1 ∷ 0 ∷ 0 ∷ 0 ∷ s.m3 ∷ 0 ∷ 0 ∷ s.i2 ∷ 0 ∷ []) (t.opcode ∷ t.r1 ∷ 0 ∷ 0 ∷ 0 ∷ t.m3 ∷ 0 ∷ 0 ∷ t.i2 ∷ 0 ∷ []) → s ≡ t
rie_g_same s t e = λ i. record {
  opcode = at 0 e i;
  r1 = at 1 e i;
  i2 = at 8 e i;
  m3 = at 5 e i;
  opcode_fits = below (2 ^ 16) (at 0 e) s.opcode_fits t.opcode_fits i;
  r1_fits = below (2 ^ 4) (at 1 e) s.r1_fits t.r1_fits i;
  i2_fits = below (2 ^ 16) (at 8 e) s.i2_fits t.i2_fits i;
  m3_fits = below (2 ^ 4) (at 5 e) s.m3_fits t.m3_fits i;
}

pub ril_a_fit : (s : RilA) → SlotsFit (layout_of KindRilA) (s.opcode ∷ s.r1 ∷ 0 ∷ 0 ∷ 0 ∷ 0 ∷ 0 ∷ 0 ∷ s.i2 ∷ 0 ∷ [])
ril_a_fit s = fields_from KindRilA (s.opcode ∷ s.r1 ∷ 0 ∷ 0 ∷ 0 ∷ 0 ∷ 0 ∷ 0 ∷ s.i2 ∷ 0 ∷ []) refl (s.opcode_fits, (s.r1_fits, (lit< tt, (lit< tt, (lit< tt, (lit< tt, (lit< tt, (lit< tt, (s.i2_fits, (lit< tt, tt))))))))))

pub ril_a_same : (s t : RilA) → ◌≡◌ {A = List ℕ} (s.opcode ∷ s.r1 ∷ 0 ∷ 0 ∷ 0 ∷ 0 ∷ 0 ∷ 0 ∷ s.i2 ∷ 0 ∷ []) (t.opcode ∷ t.r1 ∷ 0 ∷ 0 ∷ 0 ∷ 0 ∷ 0 ∷ 0 ∷ t.i2 ∷ 0 ∷ []) → s ≡ t
ril_a_same s t e = λ i. record {
  opcode = at 0 e i;
  r1 = at 1 e i;
  i2 = at 8 e i;
  opcode_fits = below (2 ^ 12) (at 0 e) s.opcode_fits t.opcode_fits i;
  r1_fits = below (2 ^ 4) (at 1 e) s.r1_fits t.r1_fits i;
  i2_fits = below (2 ^ 32) (at 8 e) s.i2_fits t.i2_fits i;
}
