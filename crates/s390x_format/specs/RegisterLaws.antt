-- The laws of the formats with registers and masks: their slots fit, and tell the value.
use Rattle.std.proofs.Common.{◌≡◌, ℕ, ◌^◌, ◌<◌, List, [], ◌∷◌, refl, lit<, ap, get_or}
use Rattle.s390x_format.specs.Layout.{SlotsFit}
use Rattle.s390x_format.specs.Formats.{layout_of}
use Rattle.s390x_format.specs.Fits.{fields_from}
use Rattle.s390x_format.specs.Equal.{at, below}
use Rattle.s390x_format.specs.declared.kind.FormatKind.TheVariants.{E as KindE, Rr as KindRr, Rre as KindRre, RrfAb as KindRrfAb, RrfCde as KindRrfCde}
use Rattle.s390x_format.specs.declared.register_formats.E.{E}
use Rattle.s390x_format.specs.declared.register_formats.Rr.{Rr}
use Rattle.s390x_format.specs.declared.register_formats.Rre.{Rre}
use Rattle.s390x_format.specs.declared.register_formats.RrfAb.{RrfAb}
use Rattle.s390x_format.specs.declared.register_formats.RrfCde.{RrfCde}

pub e_fit : (s : E) → SlotsFit (layout_of KindE) (s.opcode ∷ 0 ∷ 0 ∷ 0 ∷ 0 ∷ 0 ∷ 0 ∷ 0 ∷ 0 ∷ 0 ∷ [])
e_fit s = fields_from KindE (s.opcode ∷ 0 ∷ 0 ∷ 0 ∷ 0 ∷ 0 ∷ 0 ∷ 0 ∷ 0 ∷ 0 ∷ []) refl (s.opcode_fits, (lit< tt, (lit< tt, (lit< tt, (lit< tt, (lit< tt, (lit< tt, (lit< tt, (lit< tt, (lit< tt, tt))))))))))

pub e_same : (s t : E) → ◌≡◌ {A = List ℕ} (s.opcode ∷ 0 ∷ 0 ∷ 0 ∷ 0 ∷ 0 ∷ 0 ∷ 0 ∷ 0 ∷ 0 ∷ []) (t.opcode ∷ 0 ∷ 0 ∷ 0 ∷ 0 ∷ 0 ∷ 0 ∷ 0 ∷ 0 ∷ 0 ∷ []) → s ≡ t
e_same s t e = λ i. record {
  opcode = at 0 e i;
  opcode_fits = below (2 ^ 16) (at 0 e) s.opcode_fits t.opcode_fits i;
}

pub rr_fit : (s : Rr) → SlotsFit (layout_of KindRr) (s.opcode ∷ s.r1 ∷ s.r2 ∷ 0 ∷ 0 ∷ 0 ∷ 0 ∷ 0 ∷ 0 ∷ 0 ∷ [])
rr_fit s = fields_from KindRr (s.opcode ∷ s.r1 ∷ s.r2 ∷ 0 ∷ 0 ∷ 0 ∷ 0 ∷ 0 ∷ 0 ∷ 0 ∷ []) refl (s.opcode_fits, (s.r1_fits, (s.r2_fits, (lit< tt, (lit< tt, (lit< tt, (lit< tt, (lit< tt, (lit< tt, (lit< tt, tt))))))))))

pub rr_same : (s t : Rr) → ◌≡◌ {A = List ℕ} (s.opcode ∷ s.r1 ∷ s.r2 ∷ 0 ∷ 0 ∷ 0 ∷ 0 ∷ 0 ∷ 0 ∷ 0 ∷ []) (t.opcode ∷ t.r1 ∷ t.r2 ∷ 0 ∷ 0 ∷ 0 ∷ 0 ∷ 0 ∷ 0 ∷ 0 ∷ []) → s ≡ t
rr_same s t e = λ i. record {
  opcode = at 0 e i;
  r1 = at 1 e i;
  r2 = at 2 e i;
  opcode_fits = below (2 ^ 8) (at 0 e) s.opcode_fits t.opcode_fits i;
  r1_fits = below (2 ^ 4) (at 1 e) s.r1_fits t.r1_fits i;
  r2_fits = below (2 ^ 4) (at 2 e) s.r2_fits t.r2_fits i;
}

pub rre_fit : (s : Rre) → SlotsFit (layout_of KindRre) (s.opcode ∷ s.r1 ∷ s.r2 ∷ 0 ∷ 0 ∷ 0 ∷ 0 ∷ 0 ∷ 0 ∷ 0 ∷ [])
rre_fit s = fields_from KindRre (s.opcode ∷ s.r1 ∷ s.r2 ∷ 0 ∷ 0 ∷ 0 ∷ 0 ∷ 0 ∷ 0 ∷ 0 ∷ []) refl (s.opcode_fits, (s.r1_fits, (s.r2_fits, (lit< tt, (lit< tt, (lit< tt, (lit< tt, (lit< tt, (lit< tt, (lit< tt, tt))))))))))

pub rre_same : (s t : Rre) → ◌≡◌ {A = List ℕ} (s.opcode ∷ s.r1 ∷ s.r2 ∷ 0 ∷ 0 ∷ 0 ∷ 0 ∷ 0 ∷ 0 ∷ 0 ∷ []) (t.opcode ∷ t.r1 ∷ t.r2 ∷ 0 ∷ 0 ∷ 0 ∷ 0 ∷ 0 ∷ 0 ∷ 0 ∷ []) → s ≡ t
rre_same s t e = λ i. record {
  opcode = at 0 e i;
  r1 = at 1 e i;
  r2 = at 2 e i;
  opcode_fits = below (2 ^ 16) (at 0 e) s.opcode_fits t.opcode_fits i;
  r1_fits = below (2 ^ 4) (at 1 e) s.r1_fits t.r1_fits i;
  r2_fits = below (2 ^ 4) (at 2 e) s.r2_fits t.r2_fits i;
}

pub rrf_ab_fit : (s : RrfAb) → SlotsFit (layout_of KindRrfAb) (s.opcode ∷ s.r1 ∷ s.r2 ∷ s.r3 ∷ 0 ∷ s.m4 ∷ 0 ∷ 0 ∷ 0 ∷ 0 ∷ [])
rrf_ab_fit s = fields_from KindRrfAb (s.opcode ∷ s.r1 ∷ s.r2 ∷ s.r3 ∷ 0 ∷ s.m4 ∷ 0 ∷ 0 ∷ 0 ∷ 0 ∷ []) refl (s.opcode_fits, (s.r1_fits, (s.r2_fits, (s.r3_fits, (lit< tt, (s.m4_fits, (lit< tt, (lit< tt, (lit< tt, (lit< tt, tt))))))))))

pub rrf_ab_same : (s t : RrfAb) → ◌≡◌ {A = List ℕ} (s.opcode ∷ s.r1 ∷ s.r2 ∷ s.r3 ∷ 0 ∷ s.m4 ∷ 0 ∷ 0 ∷ 0 ∷ 0 ∷ []) (t.opcode ∷ t.r1 ∷ t.r2 ∷ t.r3 ∷ 0 ∷ t.m4 ∷ 0 ∷ 0 ∷ 0 ∷ 0 ∷ []) → s ≡ t
rrf_ab_same s t e = λ i. record {
  opcode = at 0 e i;
  r1 = at 1 e i;
  r2 = at 2 e i;
  r3 = at 3 e i;
  m4 = at 5 e i;
  opcode_fits = below (2 ^ 16) (at 0 e) s.opcode_fits t.opcode_fits i;
  r1_fits = below (2 ^ 4) (at 1 e) s.r1_fits t.r1_fits i;
  r2_fits = below (2 ^ 4) (at 2 e) s.r2_fits t.r2_fits i;
  r3_fits = below (2 ^ 4) (at 3 e) s.r3_fits t.r3_fits i;
  m4_fits = below (2 ^ 4) (at 5 e) s.m4_fits t.m4_fits i;
}

pub rrf_cde_fit : (s : RrfCde) → SlotsFit (layout_of KindRrfCde) (s.opcode ∷ s.r1 ∷ s.r2 ∷ 0 ∷ 0 ∷ s.m3 ∷ s.m4 ∷ 0 ∷ 0 ∷ 0 ∷ [])
rrf_cde_fit s = fields_from KindRrfCde (s.opcode ∷ s.r1 ∷ s.r2 ∷ 0 ∷ 0 ∷ s.m3 ∷ s.m4 ∷ 0 ∷ 0 ∷ 0 ∷ []) refl (s.opcode_fits, (s.r1_fits, (s.r2_fits, (lit< tt, (lit< tt, (s.m3_fits, (s.m4_fits, (lit< tt, (lit< tt, (lit< tt, tt))))))))))

pub rrf_cde_same : (s t : RrfCde) → ◌≡◌ {A = List ℕ} (s.opcode ∷ s.r1 ∷ s.r2 ∷ 0 ∷ 0 ∷ s.m3 ∷ s.m4 ∷ 0 ∷ 0 ∷ 0 ∷ []) (t.opcode ∷ t.r1 ∷ t.r2 ∷ 0 ∷ 0 ∷ t.m3 ∷ t.m4 ∷ 0 ∷ 0 ∷ 0 ∷ []) → s ≡ t
rrf_cde_same s t e = λ i. record {
  opcode = at 0 e i;
  r1 = at 1 e i;
  r2 = at 2 e i;
  m3 = at 5 e i;
  m4 = at 6 e i;
  opcode_fits = below (2 ^ 16) (at 0 e) s.opcode_fits t.opcode_fits i;
  r1_fits = below (2 ^ 4) (at 1 e) s.r1_fits t.r1_fits i;
  r2_fits = below (2 ^ 4) (at 2 e) s.r2_fits t.r2_fits i;
  m3_fits = below (2 ^ 4) (at 5 e) s.m3_fits t.m3_fits i;
  m4_fits = below (2 ^ 4) (at 6 e) s.m4_fits t.m4_fits i;
}
