-- The laws of the formats with a displacement: their slots fit, and tell the value.
use Rattle.std.proofs.Common.{◌≡◌, ℕ, ◌^◌, ◌<◌, List, [], ◌∷◌, refl, lit<, ap, get_or}
use Rattle.s390x_format.specs.Layout.{SlotsFit}
use Rattle.s390x_format.specs.Formats.{layout_of}
use Rattle.s390x_format.specs.Fits.{fields_from}
use Rattle.s390x_format.specs.Equal.{at, below}
use Rattle.s390x_format.specs.declared.kind.FormatKind.TheVariants.{Rs as KindRs, Rsy as KindRsy, Rx as KindRx, Rxy as KindRxy, Si as KindSi, Siy as KindSiy}
use Rattle.s390x_format.specs.declared.storage_formats.Rs.{Rs}
use Rattle.s390x_format.specs.declared.storage_formats.Rsy.{Rsy}
use Rattle.s390x_format.specs.declared.storage_formats.Rx.{Rx}
use Rattle.s390x_format.specs.declared.storage_formats.Rxy.{Rxy}
use Rattle.s390x_format.specs.declared.storage_formats.Si.{Si}
use Rattle.s390x_format.specs.declared.storage_formats.Siy.{Siy}

pub rs_fit : (s : Rs) → SlotsFit (layout_of KindRs) (s.opcode ∷ s.r1 ∷ s.r3 ∷ s.b2 ∷ 0 ∷ 0 ∷ 0 ∷ 0 ∷ 0 ∷ s.d2 ∷ [])
rs_fit s = fields_from KindRs (s.opcode ∷ s.r1 ∷ s.r3 ∷ s.b2 ∷ 0 ∷ 0 ∷ 0 ∷ 0 ∷ 0 ∷ s.d2 ∷ []) refl (s.opcode_fits, (s.r1_fits, (s.r3_fits, (s.b2_fits, (lit< tt, (lit< tt, (lit< tt, (lit< tt, (lit< tt, (s.d2_fits, tt))))))))))

pub rs_same : (s t : Rs) → ◌≡◌ {A = List ℕ} (s.opcode ∷ s.r1 ∷ s.r3 ∷ s.b2 ∷ 0 ∷ 0 ∷ 0 ∷ 0 ∷ 0 ∷ s.d2 ∷ []) (t.opcode ∷ t.r1 ∷ t.r3 ∷ t.b2 ∷ 0 ∷ 0 ∷ 0 ∷ 0 ∷ 0 ∷ t.d2 ∷ []) → s ≡ t
rs_same s t e = λ i. record {
  opcode = at 0 e i;
  r1 = at 1 e i;
  r3 = at 2 e i;
  b2 = at 3 e i;
  d2 = at 9 e i;
  opcode_fits = below (2 ^ 8) (at 0 e) s.opcode_fits t.opcode_fits i;
  r1_fits = below (2 ^ 4) (at 1 e) s.r1_fits t.r1_fits i;
  r3_fits = below (2 ^ 4) (at 2 e) s.r3_fits t.r3_fits i;
  b2_fits = below (2 ^ 4) (at 3 e) s.b2_fits t.b2_fits i;
  d2_fits = below (2 ^ 12) (at 9 e) s.d2_fits t.d2_fits i;
}

pub rsy_fit : (s : Rsy) → SlotsFit (layout_of KindRsy) (s.opcode ∷ s.r1 ∷ s.r3 ∷ s.b2 ∷ 0 ∷ 0 ∷ 0 ∷ 0 ∷ 0 ∷ s.d2 ∷ [])
rsy_fit s = fields_from KindRsy (s.opcode ∷ s.r1 ∷ s.r3 ∷ s.b2 ∷ 0 ∷ 0 ∷ 0 ∷ 0 ∷ 0 ∷ s.d2 ∷ []) refl (s.opcode_fits, (s.r1_fits, (s.r3_fits, (s.b2_fits, (lit< tt, (lit< tt, (lit< tt, (lit< tt, (lit< tt, (s.d2_fits, tt))))))))))

pub rsy_same : (s t : Rsy) → ◌≡◌ {A = List ℕ} (s.opcode ∷ s.r1 ∷ s.r3 ∷ s.b2 ∷ 0 ∷ 0 ∷ 0 ∷ 0 ∷ 0 ∷ s.d2 ∷ []) (t.opcode ∷ t.r1 ∷ t.r3 ∷ t.b2 ∷ 0 ∷ 0 ∷ 0 ∷ 0 ∷ 0 ∷ t.d2 ∷ []) → s ≡ t
rsy_same s t e = λ i. record {
  opcode = at 0 e i;
  r1 = at 1 e i;
  r3 = at 2 e i;
  b2 = at 3 e i;
  d2 = at 9 e i;
  opcode_fits = below (2 ^ 16) (at 0 e) s.opcode_fits t.opcode_fits i;
  r1_fits = below (2 ^ 4) (at 1 e) s.r1_fits t.r1_fits i;
  r3_fits = below (2 ^ 4) (at 2 e) s.r3_fits t.r3_fits i;
  b2_fits = below (2 ^ 4) (at 3 e) s.b2_fits t.b2_fits i;
  d2_fits = below (2 ^ 20) (at 9 e) s.d2_fits t.d2_fits i;
}

pub rx_fit : (s : Rx) → SlotsFit (layout_of KindRx) (s.opcode ∷ s.r1 ∷ s.b2 ∷ s.x2 ∷ 0 ∷ 0 ∷ 0 ∷ 0 ∷ 0 ∷ s.d2 ∷ [])
rx_fit s = fields_from KindRx (s.opcode ∷ s.r1 ∷ s.b2 ∷ s.x2 ∷ 0 ∷ 0 ∷ 0 ∷ 0 ∷ 0 ∷ s.d2 ∷ []) refl (s.opcode_fits, (s.r1_fits, (s.b2_fits, (s.x2_fits, (lit< tt, (lit< tt, (lit< tt, (lit< tt, (lit< tt, (s.d2_fits, tt))))))))))

pub rx_same : (s t : Rx) → ◌≡◌ {A = List ℕ} (s.opcode ∷ s.r1 ∷ s.b2 ∷ s.x2 ∷ 0 ∷ 0 ∷ 0 ∷ 0 ∷ 0 ∷ s.d2 ∷ []) (t.opcode ∷ t.r1 ∷ t.b2 ∷ t.x2 ∷ 0 ∷ 0 ∷ 0 ∷ 0 ∷ 0 ∷ t.d2 ∷ []) → s ≡ t
rx_same s t e = λ i. record {
  opcode = at 0 e i;
  r1 = at 1 e i;
  b2 = at 2 e i;
  x2 = at 3 e i;
  d2 = at 9 e i;
  opcode_fits = below (2 ^ 8) (at 0 e) s.opcode_fits t.opcode_fits i;
  r1_fits = below (2 ^ 4) (at 1 e) s.r1_fits t.r1_fits i;
  b2_fits = below (2 ^ 4) (at 2 e) s.b2_fits t.b2_fits i;
  x2_fits = below (2 ^ 4) (at 3 e) s.x2_fits t.x2_fits i;
  d2_fits = below (2 ^ 12) (at 9 e) s.d2_fits t.d2_fits i;
}

pub rxy_fit : (s : Rxy) → SlotsFit (layout_of KindRxy) (s.opcode ∷ s.r1 ∷ s.b2 ∷ s.x2 ∷ 0 ∷ 0 ∷ 0 ∷ 0 ∷ 0 ∷ s.d2 ∷ [])
rxy_fit s = fields_from KindRxy (s.opcode ∷ s.r1 ∷ s.b2 ∷ s.x2 ∷ 0 ∷ 0 ∷ 0 ∷ 0 ∷ 0 ∷ s.d2 ∷ []) refl (s.opcode_fits, (s.r1_fits, (s.b2_fits, (s.x2_fits, (lit< tt, (lit< tt, (lit< tt, (lit< tt, (lit< tt, (s.d2_fits, tt))))))))))

pub rxy_same : (s t : Rxy) → ◌≡◌ {A = List ℕ} (s.opcode ∷ s.r1 ∷ s.b2 ∷ s.x2 ∷ 0 ∷ 0 ∷ 0 ∷ 0 ∷ 0 ∷ s.d2 ∷ []) (t.opcode ∷ t.r1 ∷ t.b2 ∷ t.x2 ∷ 0 ∷ 0 ∷ 0 ∷ 0 ∷ 0 ∷ t.d2 ∷ []) → s ≡ t
rxy_same s t e = λ i. record {
  opcode = at 0 e i;
  r1 = at 1 e i;
  b2 = at 2 e i;
  x2 = at 3 e i;
  d2 = at 9 e i;
  opcode_fits = below (2 ^ 16) (at 0 e) s.opcode_fits t.opcode_fits i;
  r1_fits = below (2 ^ 4) (at 1 e) s.r1_fits t.r1_fits i;
  b2_fits = below (2 ^ 4) (at 2 e) s.b2_fits t.b2_fits i;
  x2_fits = below (2 ^ 4) (at 3 e) s.x2_fits t.x2_fits i;
  d2_fits = below (2 ^ 20) (at 9 e) s.d2_fits t.d2_fits i;
}

pub si_fit : (s : Si) → SlotsFit (layout_of KindSi) (s.opcode ∷ s.b1 ∷ 0 ∷ 0 ∷ 0 ∷ s.i2 ∷ 0 ∷ 0 ∷ 0 ∷ s.d1 ∷ [])
si_fit s = fields_from KindSi (s.opcode ∷ s.b1 ∷ 0 ∷ 0 ∷ 0 ∷ s.i2 ∷ 0 ∷ 0 ∷ 0 ∷ s.d1 ∷ []) refl (s.opcode_fits, (s.b1_fits, (lit< tt, (lit< tt, (lit< tt, (s.i2_fits, (lit< tt, (lit< tt, (lit< tt, (s.d1_fits, tt))))))))))

pub si_same : (s t : Si) → ◌≡◌ {A = List ℕ} (s.opcode ∷ s.b1 ∷ 0 ∷ 0 ∷ 0 ∷ s.i2 ∷ 0 ∷ 0 ∷ 0 ∷ s.d1 ∷ []) (t.opcode ∷ t.b1 ∷ 0 ∷ 0 ∷ 0 ∷ t.i2 ∷ 0 ∷ 0 ∷ 0 ∷ t.d1 ∷ []) → s ≡ t
si_same s t e = λ i. record {
  opcode = at 0 e i;
  b1 = at 1 e i;
  d1 = at 9 e i;
  i2 = at 5 e i;
  opcode_fits = below (2 ^ 8) (at 0 e) s.opcode_fits t.opcode_fits i;
  b1_fits = below (2 ^ 4) (at 1 e) s.b1_fits t.b1_fits i;
  d1_fits = below (2 ^ 12) (at 9 e) s.d1_fits t.d1_fits i;
  i2_fits = below (2 ^ 8) (at 5 e) s.i2_fits t.i2_fits i;
}

pub siy_fit : (s : Siy) → SlotsFit (layout_of KindSiy) (s.opcode ∷ s.b1 ∷ 0 ∷ 0 ∷ 0 ∷ s.i2 ∷ 0 ∷ 0 ∷ 0 ∷ s.d1 ∷ [])
siy_fit s = fields_from KindSiy (s.opcode ∷ s.b1 ∷ 0 ∷ 0 ∷ 0 ∷ s.i2 ∷ 0 ∷ 0 ∷ 0 ∷ s.d1 ∷ []) refl (s.opcode_fits, (s.b1_fits, (lit< tt, (lit< tt, (lit< tt, (s.i2_fits, (lit< tt, (lit< tt, (lit< tt, (s.d1_fits, tt))))))))))

pub siy_same : (s t : Siy) → ◌≡◌ {A = List ℕ} (s.opcode ∷ s.b1 ∷ 0 ∷ 0 ∷ 0 ∷ s.i2 ∷ 0 ∷ 0 ∷ 0 ∷ s.d1 ∷ []) (t.opcode ∷ t.b1 ∷ 0 ∷ 0 ∷ 0 ∷ t.i2 ∷ 0 ∷ 0 ∷ 0 ∷ t.d1 ∷ []) → s ≡ t
siy_same s t e = λ i. record {
  opcode = at 0 e i;
  b1 = at 1 e i;
  d1 = at 9 e i;
  i2 = at 5 e i;
  opcode_fits = below (2 ^ 16) (at 0 e) s.opcode_fits t.opcode_fits i;
  b1_fits = below (2 ^ 4) (at 1 e) s.b1_fits t.b1_fits i;
  d1_fits = below (2 ^ 20) (at 9 e) s.d1_fits t.d1_fits i;
  i2_fits = below (2 ^ 8) (at 5 e) s.i2_fits t.i2_fits i;
}
