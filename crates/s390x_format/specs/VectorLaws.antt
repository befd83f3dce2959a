-- The laws of the formats with vector registers: their slots fit, and tell the value.
use Rattle.std.proofs.Common.{◌≡◌, ℕ, ◌^◌, ◌<◌, List, [], ◌∷◌, refl, lit<, ap, get_or}
use Rattle.s390x_format.specs.Layout.{SlotsFit}
use Rattle.s390x_format.specs.Formats.{layout_of}
use Rattle.s390x_format.specs.Fits.{fields_from}
use Rattle.s390x_format.specs.Equal.{at, below}
use Rattle.s390x_format.specs.declared.kind.FormatKind.TheVariants.{VriA as KindVriA, VriB as KindVriB, VriC as KindVriC, VriK as KindVriK, VrrA as KindVrrA, VrrB as KindVrrB, VrrC as KindVrrC, VrrD as KindVrrD, VrrE as KindVrrE, VrrF as KindVrrF, VrsA as KindVrsA, VrsB as KindVrsB, VrsC as KindVrsC, Vrx as KindVrx}
use Rattle.s390x_format.specs.declared.vector_formats.VriA.{VriA}
use Rattle.s390x_format.specs.declared.vector_formats.VriB.{VriB}
use Rattle.s390x_format.specs.declared.vector_formats.VriC.{VriC}
use Rattle.s390x_format.specs.declared.vector_formats.VriK.{VriK}
use Rattle.s390x_format.specs.declared.vector_formats.VrrA.{VrrA}
use Rattle.s390x_format.specs.declared.vector_formats.VrrB.{VrrB}
use Rattle.s390x_format.specs.declared.vector_formats.VrrC.{VrrC}
use Rattle.s390x_format.specs.declared.vector_formats.VrrD.{VrrD}
use Rattle.s390x_format.specs.declared.vector_formats.VrrE.{VrrE}
use Rattle.s390x_format.specs.declared.vector_formats.VrrF.{VrrF}
use Rattle.s390x_format.specs.declared.vector_formats.VrsA.{VrsA}
use Rattle.s390x_format.specs.declared.vector_formats.VrsB.{VrsB}
use Rattle.s390x_format.specs.declared.vector_formats.VrsC.{VrsC}
use Rattle.s390x_format.specs.declared.vector_formats.Vrx.{Vrx}

pub vri_a_fit : (s : VriA) → SlotsFit (layout_of KindVriA) (s.opcode ∷ s.v1 ∷ 0 ∷ 0 ∷ 0 ∷ s.m3 ∷ 0 ∷ 0 ∷ s.i2 ∷ 0 ∷ [])
vri_a_fit s = fields_from KindVriA (s.opcode ∷ s.v1 ∷ 0 ∷ 0 ∷ 0 ∷ s.m3 ∷ 0 ∷ 0 ∷ s.i2 ∷ 0 ∷ []) refl (s.opcode_fits, (s.v1_fits, (lit< tt, (lit< tt, (lit< tt, (s.m3_fits, (lit< tt, (lit< tt, (s.i2_fits, (lit< tt, tt))))))))))

pub vri_a_same : (s t : VriA) → ◌≡◌ {A = List ℕ} (s.opcode ∷ s.v1 ∷ 0 ∷ 0 ∷ 0 ∷ s.m3 ∷ 0 ∷ 0 ∷ s.i2 ∷ 0 ∷ []) (t.opcode ∷ t.v1 ∷ 0 ∷ 0 ∷ 0 ∷ t.m3 ∷ 0 ∷ 0 ∷ t.i2 ∷ 0 ∷ []) → s ≡ t
vri_a_same s t e = λ i. record {
  opcode = at 0 e i;
  v1 = at 1 e i;
  i2 = at 8 e i;
  m3 = at 5 e i;
  opcode_fits = below (2 ^ 16) (at 0 e) s.opcode_fits t.opcode_fits i;
  v1_fits = below (2 ^ 5) (at 1 e) s.v1_fits t.v1_fits i;
  i2_fits = below (2 ^ 16) (at 8 e) s.i2_fits t.i2_fits i;
  m3_fits = below (2 ^ 4) (at 5 e) s.m3_fits t.m3_fits i;
}

pub vri_b_fit : (s : VriB) → SlotsFit (layout_of KindVriB) (s.opcode ∷ s.v1 ∷ 0 ∷ 0 ∷ 0 ∷ s.i2 ∷ s.i3 ∷ s.m4 ∷ 0 ∷ 0 ∷ [])
vri_b_fit s = fields_from KindVriB (s.opcode ∷ s.v1 ∷ 0 ∷ 0 ∷ 0 ∷ s.i2 ∷ s.i3 ∷ s.m4 ∷ 0 ∷ 0 ∷ []) refl (s.opcode_fits, (s.v1_fits, (lit< tt, (lit< tt, (lit< tt, (s.i2_fits, (s.i3_fits, (s.m4_fits, (lit< tt, (lit< tt, tt))))))))))

pub vri_b_same : (s t : VriB) → ◌≡◌ {A = List ℕ} (s.opcode ∷ s.v1 ∷ 0 ∷ 0 ∷ 0 ∷ s.i2 ∷ s.i3 ∷ s.m4 ∷ 0 ∷ 0 ∷ []) (t.opcode ∷ t.v1 ∷ 0 ∷ 0 ∷ 0 ∷ t.i2 ∷ t.i3 ∷ t.m4 ∷ 0 ∷ 0 ∷ []) → s ≡ t
vri_b_same s t e = λ i. record {
  opcode = at 0 e i;
  v1 = at 1 e i;
  i2 = at 5 e i;
  i3 = at 6 e i;
  m4 = at 7 e i;
  opcode_fits = below (2 ^ 16) (at 0 e) s.opcode_fits t.opcode_fits i;
  v1_fits = below (2 ^ 5) (at 1 e) s.v1_fits t.v1_fits i;
  i2_fits = below (2 ^ 8) (at 5 e) s.i2_fits t.i2_fits i;
  i3_fits = below (2 ^ 8) (at 6 e) s.i3_fits t.i3_fits i;
  m4_fits = below (2 ^ 4) (at 7 e) s.m4_fits t.m4_fits i;
}

pub vri_c_fit : (s : VriC) → SlotsFit (layout_of KindVriC) (s.opcode ∷ s.v1 ∷ s.v3 ∷ 0 ∷ 0 ∷ s.m4 ∷ 0 ∷ 0 ∷ s.i2 ∷ 0 ∷ [])
vri_c_fit s = fields_from KindVriC (s.opcode ∷ s.v1 ∷ s.v3 ∷ 0 ∷ 0 ∷ s.m4 ∷ 0 ∷ 0 ∷ s.i2 ∷ 0 ∷ []) refl (s.opcode_fits, (s.v1_fits, (s.v3_fits, (lit< tt, (lit< tt, (s.m4_fits, (lit< tt, (lit< tt, (s.i2_fits, (lit< tt, tt))))))))))

pub vri_c_same : (s t : VriC) → ◌≡◌ {A = List ℕ} (s.opcode ∷ s.v1 ∷ s.v3 ∷ 0 ∷ 0 ∷ s.m4 ∷ 0 ∷ 0 ∷ s.i2 ∷ 0 ∷ []) (t.opcode ∷ t.v1 ∷ t.v3 ∷ 0 ∷ 0 ∷ t.m4 ∷ 0 ∷ 0 ∷ t.i2 ∷ 0 ∷ []) → s ≡ t
vri_c_same s t e = λ i. record {
  opcode = at 0 e i;
  v1 = at 1 e i;
  i2 = at 8 e i;
  v3 = at 2 e i;
  m4 = at 5 e i;
  opcode_fits = below (2 ^ 16) (at 0 e) s.opcode_fits t.opcode_fits i;
  v1_fits = below (2 ^ 5) (at 1 e) s.v1_fits t.v1_fits i;
  i2_fits = below (2 ^ 16) (at 8 e) s.i2_fits t.i2_fits i;
  v3_fits = below (2 ^ 5) (at 2 e) s.v3_fits t.v3_fits i;
  m4_fits = below (2 ^ 4) (at 5 e) s.m4_fits t.m4_fits i;
}

pub vri_k_fit : (s : VriK) → SlotsFit (layout_of KindVriK) (s.opcode ∷ s.v1 ∷ s.v2 ∷ s.v3 ∷ s.v4 ∷ s.i5 ∷ 0 ∷ 0 ∷ 0 ∷ 0 ∷ [])
vri_k_fit s = fields_from KindVriK (s.opcode ∷ s.v1 ∷ s.v2 ∷ s.v3 ∷ s.v4 ∷ s.i5 ∷ 0 ∷ 0 ∷ 0 ∷ 0 ∷ []) refl (s.opcode_fits, (s.v1_fits, (s.v2_fits, (s.v3_fits, (s.v4_fits, (s.i5_fits, (lit< tt, (lit< tt, (lit< tt, (lit< tt, tt))))))))))

pub vri_k_same : (s t : VriK) → ◌≡◌ {A = List ℕ} (s.opcode ∷ s.v1 ∷ s.v2 ∷ s.v3 ∷ s.v4 ∷ s.i5 ∷ 0 ∷ 0 ∷ 0 ∷ 0 ∷ []) (t.opcode ∷ t.v1 ∷ t.v2 ∷ t.v3 ∷ t.v4 ∷ t.i5 ∷ 0 ∷ 0 ∷ 0 ∷ 0 ∷ []) → s ≡ t
vri_k_same s t e = λ i. record {
  opcode = at 0 e i;
  i5 = at 5 e i;
  v1 = at 1 e i;
  v2 = at 2 e i;
  v3 = at 3 e i;
  v4 = at 4 e i;
  opcode_fits = below (2 ^ 16) (at 0 e) s.opcode_fits t.opcode_fits i;
  i5_fits = below (2 ^ 8) (at 5 e) s.i5_fits t.i5_fits i;
  v1_fits = below (2 ^ 5) (at 1 e) s.v1_fits t.v1_fits i;
  v2_fits = below (2 ^ 5) (at 2 e) s.v2_fits t.v2_fits i;
  v3_fits = below (2 ^ 5) (at 3 e) s.v3_fits t.v3_fits i;
  v4_fits = below (2 ^ 5) (at 4 e) s.v4_fits t.v4_fits i;
}

pub vrr_a_fit : (s : VrrA) → SlotsFit (layout_of KindVrrA) (s.opcode ∷ s.v1 ∷ s.v2 ∷ 0 ∷ 0 ∷ s.m3 ∷ s.m4 ∷ s.m5 ∷ 0 ∷ 0 ∷ [])
vrr_a_fit s = fields_from KindVrrA (s.opcode ∷ s.v1 ∷ s.v2 ∷ 0 ∷ 0 ∷ s.m3 ∷ s.m4 ∷ s.m5 ∷ 0 ∷ 0 ∷ []) refl (s.opcode_fits, (s.v1_fits, (s.v2_fits, (lit< tt, (lit< tt, (s.m3_fits, (s.m4_fits, (s.m5_fits, (lit< tt, (lit< tt, tt))))))))))

pub vrr_a_same : (s t : VrrA) → ◌≡◌ {A = List ℕ} (s.opcode ∷ s.v1 ∷ s.v2 ∷ 0 ∷ 0 ∷ s.m3 ∷ s.m4 ∷ s.m5 ∷ 0 ∷ 0 ∷ []) (t.opcode ∷ t.v1 ∷ t.v2 ∷ 0 ∷ 0 ∷ t.m3 ∷ t.m4 ∷ t.m5 ∷ 0 ∷ 0 ∷ []) → s ≡ t
vrr_a_same s t e = λ i. record {
  opcode = at 0 e i;
  v1 = at 1 e i;
  v2 = at 2 e i;
  m3 = at 5 e i;
  m4 = at 6 e i;
  m5 = at 7 e i;
  opcode_fits = below (2 ^ 16) (at 0 e) s.opcode_fits t.opcode_fits i;
  v1_fits = below (2 ^ 5) (at 1 e) s.v1_fits t.v1_fits i;
  v2_fits = below (2 ^ 5) (at 2 e) s.v2_fits t.v2_fits i;
  m3_fits = below (2 ^ 4) (at 5 e) s.m3_fits t.m3_fits i;
  m4_fits = below (2 ^ 4) (at 6 e) s.m4_fits t.m4_fits i;
  m5_fits = below (2 ^ 4) (at 7 e) s.m5_fits t.m5_fits i;
}

pub vrr_b_fit : (s : VrrB) → SlotsFit (layout_of KindVrrB) (s.opcode ∷ s.v1 ∷ s.v2 ∷ s.v3 ∷ 0 ∷ s.m4 ∷ s.m5 ∷ 0 ∷ 0 ∷ 0 ∷ [])
vrr_b_fit s = fields_from KindVrrB (s.opcode ∷ s.v1 ∷ s.v2 ∷ s.v3 ∷ 0 ∷ s.m4 ∷ s.m5 ∷ 0 ∷ 0 ∷ 0 ∷ []) refl (s.opcode_fits, (s.v1_fits, (s.v2_fits, (s.v3_fits, (lit< tt, (s.m4_fits, (s.m5_fits, (lit< tt, (lit< tt, (lit< tt, tt))))))))))

pub vrr_b_same : (s t : VrrB) → ◌≡◌ {A = List ℕ} (s.opcode ∷ s.v1 ∷ s.v2 ∷ s.v3 ∷ 0 ∷ s.m4 ∷ s.m5 ∷ 0 ∷ 0 ∷ 0 ∷ []) (t.opcode ∷ t.v1 ∷ t.v2 ∷ t.v3 ∷ 0 ∷ t.m4 ∷ t.m5 ∷ 0 ∷ 0 ∷ 0 ∷ []) → s ≡ t
vrr_b_same s t e = λ i. record {
  opcode = at 0 e i;
  v1 = at 1 e i;
  v2 = at 2 e i;
  v3 = at 3 e i;
  m4 = at 5 e i;
  m5 = at 6 e i;
  opcode_fits = below (2 ^ 16) (at 0 e) s.opcode_fits t.opcode_fits i;
  v1_fits = below (2 ^ 5) (at 1 e) s.v1_fits t.v1_fits i;
  v2_fits = below (2 ^ 5) (at 2 e) s.v2_fits t.v2_fits i;
  v3_fits = below (2 ^ 5) (at 3 e) s.v3_fits t.v3_fits i;
  m4_fits = below (2 ^ 4) (at 5 e) s.m4_fits t.m4_fits i;
  m5_fits = below (2 ^ 4) (at 6 e) s.m5_fits t.m5_fits i;
}

pub vrr_c_fit : (s : VrrC) → SlotsFit (layout_of KindVrrC) (s.opcode ∷ s.v1 ∷ s.v2 ∷ s.v3 ∷ 0 ∷ s.m4 ∷ s.m5 ∷ s.m6 ∷ 0 ∷ 0 ∷ [])
vrr_c_fit s = fields_from KindVrrC (s.opcode ∷ s.v1 ∷ s.v2 ∷ s.v3 ∷ 0 ∷ s.m4 ∷ s.m5 ∷ s.m6 ∷ 0 ∷ 0 ∷ []) refl (s.opcode_fits, (s.v1_fits, (s.v2_fits, (s.v3_fits, (lit< tt, (s.m4_fits, (s.m5_fits, (s.m6_fits, (lit< tt, (lit< tt, tt))))))))))

pub vrr_c_same : (s t : VrrC) → ◌≡◌ {A = List ℕ} (s.opcode ∷ s.v1 ∷ s.v2 ∷ s.v3 ∷ 0 ∷ s.m4 ∷ s.m5 ∷ s.m6 ∷ 0 ∷ 0 ∷ []) (t.opcode ∷ t.v1 ∷ t.v2 ∷ t.v3 ∷ 0 ∷ t.m4 ∷ t.m5 ∷ t.m6 ∷ 0 ∷ 0 ∷ []) → s ≡ t
vrr_c_same s t e = λ i. record {
  opcode = at 0 e i;
  v1 = at 1 e i;
  v2 = at 2 e i;
  v3 = at 3 e i;
  m4 = at 5 e i;
  m5 = at 6 e i;
  m6 = at 7 e i;
  opcode_fits = below (2 ^ 16) (at 0 e) s.opcode_fits t.opcode_fits i;
  v1_fits = below (2 ^ 5) (at 1 e) s.v1_fits t.v1_fits i;
  v2_fits = below (2 ^ 5) (at 2 e) s.v2_fits t.v2_fits i;
  v3_fits = below (2 ^ 5) (at 3 e) s.v3_fits t.v3_fits i;
  m4_fits = below (2 ^ 4) (at 5 e) s.m4_fits t.m4_fits i;
  m5_fits = below (2 ^ 4) (at 6 e) s.m5_fits t.m5_fits i;
  m6_fits = below (2 ^ 4) (at 7 e) s.m6_fits t.m6_fits i;
}

pub vrr_d_fit : (s : VrrD) → SlotsFit (layout_of KindVrrD) (s.opcode ∷ s.v1 ∷ s.v2 ∷ s.v3 ∷ s.v4 ∷ s.m5 ∷ s.m6 ∷ 0 ∷ 0 ∷ 0 ∷ [])
vrr_d_fit s = fields_from KindVrrD (s.opcode ∷ s.v1 ∷ s.v2 ∷ s.v3 ∷ s.v4 ∷ s.m5 ∷ s.m6 ∷ 0 ∷ 0 ∷ 0 ∷ []) refl (s.opcode_fits, (s.v1_fits, (s.v2_fits, (s.v3_fits, (s.v4_fits, (s.m5_fits, (s.m6_fits, (lit< tt, (lit< tt, (lit< tt, tt))))))))))

pub vrr_d_same : (s t : VrrD) → ◌≡◌ {A = List ℕ} (s.opcode ∷ s.v1 ∷ s.v2 ∷ s.v3 ∷ s.v4 ∷ s.m5 ∷ s.m6 ∷ 0 ∷ 0 ∷ 0 ∷ []) (t.opcode ∷ t.v1 ∷ t.v2 ∷ t.v3 ∷ t.v4 ∷ t.m5 ∷ t.m6 ∷ 0 ∷ 0 ∷ 0 ∷ []) → s ≡ t
vrr_d_same s t e = λ i. record {
  opcode = at 0 e i;
  v1 = at 1 e i;
  v2 = at 2 e i;
  v3 = at 3 e i;
  v4 = at 4 e i;
  m5 = at 5 e i;
  m6 = at 6 e i;
  opcode_fits = below (2 ^ 16) (at 0 e) s.opcode_fits t.opcode_fits i;
  v1_fits = below (2 ^ 5) (at 1 e) s.v1_fits t.v1_fits i;
  v2_fits = below (2 ^ 5) (at 2 e) s.v2_fits t.v2_fits i;
  v3_fits = below (2 ^ 5) (at 3 e) s.v3_fits t.v3_fits i;
  v4_fits = below (2 ^ 5) (at 4 e) s.v4_fits t.v4_fits i;
  m5_fits = below (2 ^ 4) (at 5 e) s.m5_fits t.m5_fits i;
  m6_fits = below (2 ^ 4) (at 6 e) s.m6_fits t.m6_fits i;
}

pub vrr_e_fit : (s : VrrE) → SlotsFit (layout_of KindVrrE) (s.opcode ∷ s.v1 ∷ s.v2 ∷ s.v3 ∷ s.v4 ∷ s.m5 ∷ s.m6 ∷ 0 ∷ 0 ∷ 0 ∷ [])
vrr_e_fit s = fields_from KindVrrE (s.opcode ∷ s.v1 ∷ s.v2 ∷ s.v3 ∷ s.v4 ∷ s.m5 ∷ s.m6 ∷ 0 ∷ 0 ∷ 0 ∷ []) refl (s.opcode_fits, (s.v1_fits, (s.v2_fits, (s.v3_fits, (s.v4_fits, (s.m5_fits, (s.m6_fits, (lit< tt, (lit< tt, (lit< tt, tt))))))))))

pub vrr_e_same : (s t : VrrE) → ◌≡◌ {A = List ℕ} (s.opcode ∷ s.v1 ∷ s.v2 ∷ s.v3 ∷ s.v4 ∷ s.m5 ∷ s.m6 ∷ 0 ∷ 0 ∷ 0 ∷ []) (t.opcode ∷ t.v1 ∷ t.v2 ∷ t.v3 ∷ t.v4 ∷ t.m5 ∷ t.m6 ∷ 0 ∷ 0 ∷ 0 ∷ []) → s ≡ t
vrr_e_same s t e = λ i. record {
  opcode = at 0 e i;
  v1 = at 1 e i;
  v2 = at 2 e i;
  v3 = at 3 e i;
  v4 = at 4 e i;
  m5 = at 5 e i;
  m6 = at 6 e i;
  opcode_fits = below (2 ^ 16) (at 0 e) s.opcode_fits t.opcode_fits i;
  v1_fits = below (2 ^ 5) (at 1 e) s.v1_fits t.v1_fits i;
  v2_fits = below (2 ^ 5) (at 2 e) s.v2_fits t.v2_fits i;
  v3_fits = below (2 ^ 5) (at 3 e) s.v3_fits t.v3_fits i;
  v4_fits = below (2 ^ 5) (at 4 e) s.v4_fits t.v4_fits i;
  m5_fits = below (2 ^ 4) (at 5 e) s.m5_fits t.m5_fits i;
  m6_fits = below (2 ^ 4) (at 6 e) s.m6_fits t.m6_fits i;
}

pub vrr_f_fit : (s : VrrF) → SlotsFit (layout_of KindVrrF) (s.opcode ∷ s.v1 ∷ s.r2 ∷ s.r3 ∷ 0 ∷ 0 ∷ 0 ∷ 0 ∷ 0 ∷ 0 ∷ [])
vrr_f_fit s = fields_from KindVrrF (s.opcode ∷ s.v1 ∷ s.r2 ∷ s.r3 ∷ 0 ∷ 0 ∷ 0 ∷ 0 ∷ 0 ∷ 0 ∷ []) refl (s.opcode_fits, (s.v1_fits, (s.r2_fits, (s.r3_fits, (lit< tt, (lit< tt, (lit< tt, (lit< tt, (lit< tt, (lit< tt, tt))))))))))

pub vrr_f_same : (s t : VrrF) → ◌≡◌ {A = List ℕ} (s.opcode ∷ s.v1 ∷ s.r2 ∷ s.r3 ∷ 0 ∷ 0 ∷ 0 ∷ 0 ∷ 0 ∷ 0 ∷ []) (t.opcode ∷ t.v1 ∷ t.r2 ∷ t.r3 ∷ 0 ∷ 0 ∷ 0 ∷ 0 ∷ 0 ∷ 0 ∷ []) → s ≡ t
vrr_f_same s t e = λ i. record {
  opcode = at 0 e i;
  v1 = at 1 e i;
  r2 = at 2 e i;
  r3 = at 3 e i;
  opcode_fits = below (2 ^ 16) (at 0 e) s.opcode_fits t.opcode_fits i;
  v1_fits = below (2 ^ 5) (at 1 e) s.v1_fits t.v1_fits i;
  r2_fits = below (2 ^ 4) (at 2 e) s.r2_fits t.r2_fits i;
  r3_fits = below (2 ^ 4) (at 3 e) s.r3_fits t.r3_fits i;
}

pub vrs_a_fit : (s : VrsA) → SlotsFit (layout_of KindVrsA) (s.opcode ∷ s.v1 ∷ s.b2 ∷ s.v3 ∷ 0 ∷ s.m4 ∷ 0 ∷ 0 ∷ 0 ∷ s.d2 ∷ [])
vrs_a_fit s = fields_from KindVrsA (s.opcode ∷ s.v1 ∷ s.b2 ∷ s.v3 ∷ 0 ∷ s.m4 ∷ 0 ∷ 0 ∷ 0 ∷ s.d2 ∷ []) refl (s.opcode_fits, (s.v1_fits, (s.b2_fits, (s.v3_fits, (lit< tt, (s.m4_fits, (lit< tt, (lit< tt, (lit< tt, (s.d2_fits, tt))))))))))

pub vrs_a_same : (s t : VrsA) → ◌≡◌ {A = List ℕ} (s.opcode ∷ s.v1 ∷ s.b2 ∷ s.v3 ∷ 0 ∷ s.m4 ∷ 0 ∷ 0 ∷ 0 ∷ s.d2 ∷ []) (t.opcode ∷ t.v1 ∷ t.b2 ∷ t.v3 ∷ 0 ∷ t.m4 ∷ 0 ∷ 0 ∷ 0 ∷ t.d2 ∷ []) → s ≡ t
vrs_a_same s t e = λ i. record {
  opcode = at 0 e i;
  v1 = at 1 e i;
  b2 = at 2 e i;
  d2 = at 9 e i;
  v3 = at 3 e i;
  m4 = at 5 e i;
  opcode_fits = below (2 ^ 16) (at 0 e) s.opcode_fits t.opcode_fits i;
  v1_fits = below (2 ^ 5) (at 1 e) s.v1_fits t.v1_fits i;
  b2_fits = below (2 ^ 4) (at 2 e) s.b2_fits t.b2_fits i;
  d2_fits = below (2 ^ 12) (at 9 e) s.d2_fits t.d2_fits i;
  v3_fits = below (2 ^ 5) (at 3 e) s.v3_fits t.v3_fits i;
  m4_fits = below (2 ^ 4) (at 5 e) s.m4_fits t.m4_fits i;
}

pub vrs_b_fit : (s : VrsB) → SlotsFit (layout_of KindVrsB) (s.opcode ∷ s.v1 ∷ s.b2 ∷ s.r3 ∷ 0 ∷ s.m4 ∷ 0 ∷ 0 ∷ 0 ∷ s.d2 ∷ [])
vrs_b_fit s = fields_from KindVrsB (s.opcode ∷ s.v1 ∷ s.b2 ∷ s.r3 ∷ 0 ∷ s.m4 ∷ 0 ∷ 0 ∷ 0 ∷ s.d2 ∷ []) refl (s.opcode_fits, (s.v1_fits, (s.b2_fits, (s.r3_fits, (lit< tt, (s.m4_fits, (lit< tt, (lit< tt, (lit< tt, (s.d2_fits, tt))))))))))

pub vrs_b_same : (s t : VrsB) → ◌≡◌ {A = List ℕ} (s.opcode ∷ s.v1 ∷ s.b2 ∷ s.r3 ∷ 0 ∷ s.m4 ∷ 0 ∷ 0 ∷ 0 ∷ s.d2 ∷ []) (t.opcode ∷ t.v1 ∷ t.b2 ∷ t.r3 ∷ 0 ∷ t.m4 ∷ 0 ∷ 0 ∷ 0 ∷ t.d2 ∷ []) → s ≡ t
vrs_b_same s t e = λ i. record {
  opcode = at 0 e i;
  v1 = at 1 e i;
  b2 = at 2 e i;
  d2 = at 9 e i;
  r3 = at 3 e i;
  m4 = at 5 e i;
  opcode_fits = below (2 ^ 16) (at 0 e) s.opcode_fits t.opcode_fits i;
  v1_fits = below (2 ^ 5) (at 1 e) s.v1_fits t.v1_fits i;
  b2_fits = below (2 ^ 4) (at 2 e) s.b2_fits t.b2_fits i;
  d2_fits = below (2 ^ 12) (at 9 e) s.d2_fits t.d2_fits i;
  r3_fits = below (2 ^ 4) (at 3 e) s.r3_fits t.r3_fits i;
  m4_fits = below (2 ^ 4) (at 5 e) s.m4_fits t.m4_fits i;
}

pub vrs_c_fit : (s : VrsC) → SlotsFit (layout_of KindVrsC) (s.opcode ∷ s.r1 ∷ s.b2 ∷ s.v3 ∷ 0 ∷ s.m4 ∷ 0 ∷ 0 ∷ 0 ∷ s.d2 ∷ [])
vrs_c_fit s = fields_from KindVrsC (s.opcode ∷ s.r1 ∷ s.b2 ∷ s.v3 ∷ 0 ∷ s.m4 ∷ 0 ∷ 0 ∷ 0 ∷ s.d2 ∷ []) refl (s.opcode_fits, (s.r1_fits, (s.b2_fits, (s.v3_fits, (lit< tt, (s.m4_fits, (lit< tt, (lit< tt, (lit< tt, (s.d2_fits, tt))))))))))

pub vrs_c_same : (s t : VrsC) → ◌≡◌ {A = List ℕ} (s.opcode ∷ s.r1 ∷ s.b2 ∷ s.v3 ∷ 0 ∷ s.m4 ∷ 0 ∷ 0 ∷ 0 ∷ s.d2 ∷ []) (t.opcode ∷ t.r1 ∷ t.b2 ∷ t.v3 ∷ 0 ∷ t.m4 ∷ 0 ∷ 0 ∷ 0 ∷ t.d2 ∷ []) → s ≡ t
vrs_c_same s t e = λ i. record {
  opcode = at 0 e i;
  r1 = at 1 e i;
  b2 = at 2 e i;
  d2 = at 9 e i;
  v3 = at 3 e i;
  m4 = at 5 e i;
  opcode_fits = below (2 ^ 16) (at 0 e) s.opcode_fits t.opcode_fits i;
  r1_fits = below (2 ^ 4) (at 1 e) s.r1_fits t.r1_fits i;
  b2_fits = below (2 ^ 4) (at 2 e) s.b2_fits t.b2_fits i;
  d2_fits = below (2 ^ 12) (at 9 e) s.d2_fits t.d2_fits i;
  v3_fits = below (2 ^ 5) (at 3 e) s.v3_fits t.v3_fits i;
  m4_fits = below (2 ^ 4) (at 5 e) s.m4_fits t.m4_fits i;
}

pub vrx_fit : (s : Vrx) → SlotsFit (layout_of KindVrx) (s.opcode ∷ s.v1 ∷ s.b2 ∷ s.x2 ∷ 0 ∷ s.m3 ∷ 0 ∷ 0 ∷ 0 ∷ s.d2 ∷ [])
vrx_fit s = fields_from KindVrx (s.opcode ∷ s.v1 ∷ s.b2 ∷ s.x2 ∷ 0 ∷ s.m3 ∷ 0 ∷ 0 ∷ 0 ∷ s.d2 ∷ []) refl (s.opcode_fits, (s.v1_fits, (s.b2_fits, (s.x2_fits, (lit< tt, (s.m3_fits, (lit< tt, (lit< tt, (lit< tt, (s.d2_fits, tt))))))))))

pub vrx_same : (s t : Vrx) → ◌≡◌ {A = List ℕ} (s.opcode ∷ s.v1 ∷ s.b2 ∷ s.x2 ∷ 0 ∷ s.m3 ∷ 0 ∷ 0 ∷ 0 ∷ s.d2 ∷ []) (t.opcode ∷ t.v1 ∷ t.b2 ∷ t.x2 ∷ 0 ∷ t.m3 ∷ 0 ∷ 0 ∷ 0 ∷ t.d2 ∷ []) → s ≡ t
vrx_same s t e = λ i. record {
  opcode = at 0 e i;
  v1 = at 1 e i;
  b2 = at 2 e i;
  x2 = at 3 e i;
  d2 = at 9 e i;
  m3 = at 5 e i;
  opcode_fits = below (2 ^ 16) (at 0 e) s.opcode_fits t.opcode_fits i;
  v1_fits = below (2 ^ 5) (at 1 e) s.v1_fits t.v1_fits i;
  b2_fits = below (2 ^ 4) (at 2 e) s.b2_fits t.b2_fits i;
  x2_fits = below (2 ^ 4) (at 3 e) s.x2_fits t.x2_fits i;
  d2_fits = below (2 ^ 12) (at 9 e) s.d2_fits t.d2_fits i;
  m3_fits = below (2 ^ 4) (at 5 e) s.m3_fits t.m3_fits i;
}
