-- The bytes of the formats for instructions on registers and immediates.
use Rattle.std.proofs.Common.{◌≡◌, ℕ, ◌+◌, ◌*◌, ◌/◌, ◌%◌, ◌^◌, ◌<◌, List, [], ◌∷◌, refl, sym, ◌∙◌, lit<, arith}
use Rattle.s390x_format.specs.declared.kind.FormatKind.TheVariants.{E, RiA, RiB, RiC, RieA, RieD, RieF, RieG, RilA, RilB, RilC, Rr, Rre, RrfAb, RrfCde}
use Rattle.s390x_format.specs.Layout.{number, bits}
use Rattle.s390x_format.specs.Formats.{layout_of, length_of}
use Rattle.s390x_format.specs.Fits.{fields_from}
use Rattle.s390x_format.specs.Encoded.{slots, IsCode}
use Rattle.s390x_enc.proofs.ByteByByte.{two_bytes, four_bytes, six_bytes}

e_number : (o : ℕ) → o < 2 ^ 16 →
    number (layout_of E) (slots o [] [] 0 0) ≡ (o / 256) * 256 + (o % 256)
unfolding number bits layout_of
e_number o h_o = omega arith

pub e_is : (o : ℕ) (code : List ℕ) → o < 2 ^ 16 → code ≡ (o / 256) ∷ (o % 256) ∷ [] → IsCode E (slots o [] [] 0 0) code
unfolding length_of
e_is o code h_o e =
    record {
      fit = fields_from E (slots o [] [] 0 0) refl (h_o, (lit< tt, (lit< tt, (lit< tt, (lit< tt, (lit< tt, (lit< tt, (lit< tt, (lit< tt, (lit< tt, tt))))))))));
      bytes_are = e ∙ sym (two_bytes (number (layout_of E) (slots o [] [] 0 0)) (o / 256) (o % 256) (omega arith) (omega arith) (e_number o h_o));
    }

ri_a_number : (o r1 i2 : ℕ) → o < 2 ^ 12 → r1 < 2 ^ 4 → i2 < 2 ^ 16 →
    number (layout_of RiA) (slots o (r1 ∷ []) [] i2 0) ≡ (o / 16) * 2 ^ 24 + (r1 * 16 + o % 16) * 2 ^ 16 + (i2 / 256) * 256 + (i2 % 256)
unfolding number bits layout_of
ri_a_number o r1 i2 h_o h_r1 h_i2 = omega arith

pub ri_a_is : (o r1 i2 : ℕ) (code : List ℕ) → o < 2 ^ 12 → r1 < 2 ^ 4 → i2 < 2 ^ 16 → code ≡ (o / 16) ∷ (r1 * 16 + o % 16) ∷ (i2 / 256) ∷ (i2 % 256) ∷ [] → IsCode RiA (slots o (r1 ∷ []) [] i2 0) code
unfolding length_of
ri_a_is o r1 i2 code h_o h_r1 h_i2 e =
    record {
      fit = fields_from RiA (slots o (r1 ∷ []) [] i2 0) refl (h_o, (h_r1, (lit< tt, (lit< tt, (lit< tt, (lit< tt, (lit< tt, (lit< tt, (h_i2, (lit< tt, tt))))))))));
      bytes_are = e ∙ sym (four_bytes (number (layout_of RiA) (slots o (r1 ∷ []) [] i2 0)) (o / 16) (r1 * 16 + o % 16) (i2 / 256) (i2 % 256) (omega arith) (omega arith) (omega arith) (omega arith) (ri_a_number o r1 i2 h_o h_r1 h_i2));
    }

ri_b_number : (o r1 h : ℕ) → o < 2 ^ 12 → r1 < 2 ^ 4 → h < 2 ^ 16 →
    number (layout_of RiB) (slots o (r1 ∷ []) [] h 0) ≡ (o / 16) * 2 ^ 24 + (r1 * 16 + o % 16) * 2 ^ 16 + (h / 256) * 256 + (h % 256)
unfolding number bits layout_of
ri_b_number o r1 h h_o h_r1 h_h = omega arith

pub ri_b_is : (o r1 h : ℕ) (code : List ℕ) → o < 2 ^ 12 → r1 < 2 ^ 4 → h < 2 ^ 16 → code ≡ (o / 16) ∷ (r1 * 16 + o % 16) ∷ (h / 256) ∷ (h % 256) ∷ [] → IsCode RiB (slots o (r1 ∷ []) [] h 0) code
unfolding length_of
ri_b_is o r1 h code h_o h_r1 h_h e =
    record {
      fit = fields_from RiB (slots o (r1 ∷ []) [] h 0) refl (h_o, (h_r1, (lit< tt, (lit< tt, (lit< tt, (lit< tt, (lit< tt, (lit< tt, (h_h, (lit< tt, tt))))))))));
      bytes_are = e ∙ sym (four_bytes (number (layout_of RiB) (slots o (r1 ∷ []) [] h 0)) (o / 16) (r1 * 16 + o % 16) (h / 256) (h % 256) (omega arith) (omega arith) (omega arith) (omega arith) (ri_b_number o r1 h h_o h_r1 h_h));
    }

ri_c_number : (o m1 h : ℕ) → o < 2 ^ 12 → m1 < 2 ^ 4 → h < 2 ^ 16 →
    number (layout_of RiC) (slots o [] (m1 ∷ []) h 0) ≡ (o / 16) * 2 ^ 24 + (m1 * 16 + o % 16) * 2 ^ 16 + (h / 256) * 256 + (h % 256)
unfolding number bits layout_of
ri_c_number o m1 h h_o h_m1 h_h = omega arith

pub ri_c_is : (o m1 h : ℕ) (code : List ℕ) → o < 2 ^ 12 → m1 < 2 ^ 4 → h < 2 ^ 16 → code ≡ (o / 16) ∷ (m1 * 16 + o % 16) ∷ (h / 256) ∷ (h % 256) ∷ [] → IsCode RiC (slots o [] (m1 ∷ []) h 0) code
unfolding length_of
ri_c_is o m1 h code h_o h_m1 h_h e =
    record {
      fit = fields_from RiC (slots o [] (m1 ∷ []) h 0) refl (h_o, (lit< tt, (lit< tt, (lit< tt, (lit< tt, (h_m1, (lit< tt, (lit< tt, (h_h, (lit< tt, tt))))))))));
      bytes_are = e ∙ sym (four_bytes (number (layout_of RiC) (slots o [] (m1 ∷ []) h 0)) (o / 16) (m1 * 16 + o % 16) (h / 256) (h % 256) (omega arith) (omega arith) (omega arith) (omega arith) (ri_c_number o m1 h h_o h_m1 h_h));
    }

rie_a_number : (o r1 i2 m3 : ℕ) → o < 2 ^ 16 → r1 < 2 ^ 4 → i2 < 2 ^ 16 → m3 < 2 ^ 4 →
    number (layout_of RieA) (slots o (r1 ∷ []) (m3 ∷ []) i2 0) ≡ (o / 256) * 2 ^ 40 + (r1 * 16 + 0) * 2 ^ 32 + (i2 / 256) * 2 ^ 24 + (i2 % 256) * 2 ^ 16 + (m3 * 16 + 0) * 256 + (o % 256)
unfolding number bits layout_of
rie_a_number o r1 i2 m3 h_o h_r1 h_i2 h_m3 = omega arith

pub rie_a_is : (o r1 i2 m3 : ℕ) (code : List ℕ) → o < 2 ^ 16 → r1 < 2 ^ 4 → i2 < 2 ^ 16 → m3 < 2 ^ 4 → code ≡ (o / 256) ∷ (r1 * 16 + 0) ∷ (i2 / 256) ∷ (i2 % 256) ∷ (m3 * 16 + 0) ∷ (o % 256) ∷ [] → IsCode RieA (slots o (r1 ∷ []) (m3 ∷ []) i2 0) code
unfolding length_of
rie_a_is o r1 i2 m3 code h_o h_r1 h_i2 h_m3 e =
    record {
      fit = fields_from RieA (slots o (r1 ∷ []) (m3 ∷ []) i2 0) refl (h_o, (h_r1, (lit< tt, (lit< tt, (lit< tt, (h_m3, (lit< tt, (lit< tt, (h_i2, (lit< tt, tt))))))))));
      bytes_are = e ∙ sym (six_bytes (number (layout_of RieA) (slots o (r1 ∷ []) (m3 ∷ []) i2 0)) (o / 256) (r1 * 16 + 0) (i2 / 256) (i2 % 256) (m3 * 16 + 0) (o % 256) (omega arith) (omega arith) (omega arith) (omega arith) (omega arith) (omega arith) (rie_a_number o r1 i2 m3 h_o h_r1 h_i2 h_m3));
    }

rie_d_number : (o r1 r3 i2 : ℕ) → o < 2 ^ 16 → r1 < 2 ^ 4 → r3 < 2 ^ 4 → i2 < 2 ^ 16 →
    number (layout_of RieD) (slots o (r1 ∷ r3 ∷ []) [] i2 0) ≡ (o / 256) * 2 ^ 40 + (r1 * 16 + r3) * 2 ^ 32 + (i2 / 256) * 2 ^ 24 + (i2 % 256) * 2 ^ 16 + 0 * 256 + (o % 256)
unfolding number bits layout_of
rie_d_number o r1 r3 i2 h_o h_r1 h_r3 h_i2 = omega arith

pub rie_d_is : (o r1 r3 i2 : ℕ) (code : List ℕ) → o < 2 ^ 16 → r1 < 2 ^ 4 → r3 < 2 ^ 4 → i2 < 2 ^ 16 → code ≡ (o / 256) ∷ (r1 * 16 + r3) ∷ (i2 / 256) ∷ (i2 % 256) ∷ 0 ∷ (o % 256) ∷ [] → IsCode RieD (slots o (r1 ∷ r3 ∷ []) [] i2 0) code
unfolding length_of
rie_d_is o r1 r3 i2 code h_o h_r1 h_r3 h_i2 e =
    record {
      fit = fields_from RieD (slots o (r1 ∷ r3 ∷ []) [] i2 0) refl (h_o, (h_r1, (h_r3, (lit< tt, (lit< tt, (lit< tt, (lit< tt, (lit< tt, (h_i2, (lit< tt, tt))))))))));
      bytes_are = e ∙ sym (six_bytes (number (layout_of RieD) (slots o (r1 ∷ r3 ∷ []) [] i2 0)) (o / 256) (r1 * 16 + r3) (i2 / 256) (i2 % 256) 0 (o % 256) (omega arith) (omega arith) (omega arith) (omega arith) (omega arith) (omega arith) (rie_d_number o r1 r3 i2 h_o h_r1 h_r3 h_i2));
    }

rie_f_number : (o r1 r2 i3 i4 i5 : ℕ) → o < 2 ^ 16 → r1 < 2 ^ 4 → r2 < 2 ^ 4 → i3 < 2 ^ 8 → i4 < 2 ^ 8 → i5 < 2 ^ 8 →
    number (layout_of RieF) (slots o (r1 ∷ r2 ∷ []) (i3 ∷ i4 ∷ i5 ∷ []) 0 0) ≡ (o / 256) * 2 ^ 40 + (r1 * 16 + r2) * 2 ^ 32 + i3 * 2 ^ 24 + i4 * 2 ^ 16 + i5 * 256 + (o % 256)
unfolding number bits layout_of
rie_f_number o r1 r2 i3 i4 i5 h_o h_r1 h_r2 h_i3 h_i4 h_i5 = omega arith

pub rie_f_is : (o r1 r2 i3 i4 i5 : ℕ) (code : List ℕ) → o < 2 ^ 16 → r1 < 2 ^ 4 → r2 < 2 ^ 4 → i3 < 2 ^ 8 → i4 < 2 ^ 8 → i5 < 2 ^ 8 → code ≡ (o / 256) ∷ (r1 * 16 + r2) ∷ i3 ∷ i4 ∷ i5 ∷ (o % 256) ∷ [] → IsCode RieF (slots o (r1 ∷ r2 ∷ []) (i3 ∷ i4 ∷ i5 ∷ []) 0 0) code
unfolding length_of
rie_f_is o r1 r2 i3 i4 i5 code h_o h_r1 h_r2 h_i3 h_i4 h_i5 e =
    record {
      fit = fields_from RieF (slots o (r1 ∷ r2 ∷ []) (i3 ∷ i4 ∷ i5 ∷ []) 0 0) refl (h_o, (h_r1, (h_r2, (lit< tt, (lit< tt, (h_i3, (h_i4, (h_i5, (lit< tt, (lit< tt, tt))))))))));
      bytes_are = e ∙ sym (six_bytes (number (layout_of RieF) (slots o (r1 ∷ r2 ∷ []) (i3 ∷ i4 ∷ i5 ∷ []) 0 0)) (o / 256) (r1 * 16 + r2) i3 i4 i5 (o % 256) (omega arith) (omega arith) (omega arith) (omega arith) (omega arith) (omega arith) (rie_f_number o r1 r2 i3 i4 i5 h_o h_r1 h_r2 h_i3 h_i4 h_i5));
    }

rie_g_number : (o r1 i2 m3 : ℕ) → o < 2 ^ 16 → r1 < 2 ^ 4 → i2 < 2 ^ 16 → m3 < 2 ^ 4 →
    number (layout_of RieG) (slots o (r1 ∷ []) (m3 ∷ []) i2 0) ≡ (o / 256) * 2 ^ 40 + (r1 * 16 + m3) * 2 ^ 32 + (i2 / 256) * 2 ^ 24 + (i2 % 256) * 2 ^ 16 + 0 * 256 + (o % 256)
unfolding number bits layout_of
rie_g_number o r1 i2 m3 h_o h_r1 h_i2 h_m3 = omega arith

pub rie_g_is : (o r1 i2 m3 : ℕ) (code : List ℕ) → o < 2 ^ 16 → r1 < 2 ^ 4 → i2 < 2 ^ 16 → m3 < 2 ^ 4 → code ≡ (o / 256) ∷ (r1 * 16 + m3) ∷ (i2 / 256) ∷ (i2 % 256) ∷ 0 ∷ (o % 256) ∷ [] → IsCode RieG (slots o (r1 ∷ []) (m3 ∷ []) i2 0) code
unfolding length_of
rie_g_is o r1 i2 m3 code h_o h_r1 h_i2 h_m3 e =
    record {
      fit = fields_from RieG (slots o (r1 ∷ []) (m3 ∷ []) i2 0) refl (h_o, (h_r1, (lit< tt, (lit< tt, (lit< tt, (h_m3, (lit< tt, (lit< tt, (h_i2, (lit< tt, tt))))))))));
      bytes_are = e ∙ sym (six_bytes (number (layout_of RieG) (slots o (r1 ∷ []) (m3 ∷ []) i2 0)) (o / 256) (r1 * 16 + m3) (i2 / 256) (i2 % 256) 0 (o % 256) (omega arith) (omega arith) (omega arith) (omega arith) (omega arith) (omega arith) (rie_g_number o r1 i2 m3 h_o h_r1 h_i2 h_m3));
    }

ril_a_number : (o r1 i2 : ℕ) → o < 2 ^ 12 → r1 < 2 ^ 4 → i2 < 2 ^ 32 →
    number (layout_of RilA) (slots o (r1 ∷ []) [] i2 0) ≡ (o / 16) * 2 ^ 40 + (r1 * 16 + o % 16) * 2 ^ 32 + (i2 / 65536 / 256) * 2 ^ 24 + (i2 / 65536 % 256) * 2 ^ 16 + (i2 % 65536 / 256) * 256 + (i2 % 65536 % 256)
unfolding number bits layout_of
ril_a_number o r1 i2 h_o h_r1 h_i2 = omega arith

pub ril_a_is : (o r1 i2 : ℕ) (code : List ℕ) → o < 2 ^ 12 → r1 < 2 ^ 4 → i2 < 2 ^ 32 → code ≡ (o / 16) ∷ (r1 * 16 + o % 16) ∷ (i2 / 65536 / 256) ∷ (i2 / 65536 % 256) ∷ (i2 % 65536 / 256) ∷ (i2 % 65536 % 256) ∷ [] → IsCode RilA (slots o (r1 ∷ []) [] i2 0) code
unfolding length_of
ril_a_is o r1 i2 code h_o h_r1 h_i2 e =
    record {
      fit = fields_from RilA (slots o (r1 ∷ []) [] i2 0) refl (h_o, (h_r1, (lit< tt, (lit< tt, (lit< tt, (lit< tt, (lit< tt, (lit< tt, (h_i2, (lit< tt, tt))))))))));
      bytes_are = e ∙ sym (six_bytes (number (layout_of RilA) (slots o (r1 ∷ []) [] i2 0)) (o / 16) (r1 * 16 + o % 16) (i2 / 65536 / 256) (i2 / 65536 % 256) (i2 % 65536 / 256) (i2 % 65536 % 256) (omega arith) (omega arith) (omega arith) (omega arith) (omega arith) (omega arith) (ril_a_number o r1 i2 h_o h_r1 h_i2));
    }

ril_b_number : (o r1 h : ℕ) → o < 2 ^ 12 → r1 < 2 ^ 4 → h < 2 ^ 32 →
    number (layout_of RilB) (slots o (r1 ∷ []) [] h 0) ≡ (o / 16) * 2 ^ 40 + (r1 * 16 + o % 16) * 2 ^ 32 + (h / 65536 / 256) * 2 ^ 24 + (h / 65536 % 256) * 2 ^ 16 + (h % 65536 / 256) * 256 + (h % 65536 % 256)
unfolding number bits layout_of
ril_b_number o r1 h h_o h_r1 h_h = omega arith

pub ril_b_is : (o r1 h : ℕ) (code : List ℕ) → o < 2 ^ 12 → r1 < 2 ^ 4 → h < 2 ^ 32 → code ≡ (o / 16) ∷ (r1 * 16 + o % 16) ∷ (h / 65536 / 256) ∷ (h / 65536 % 256) ∷ (h % 65536 / 256) ∷ (h % 65536 % 256) ∷ [] → IsCode RilB (slots o (r1 ∷ []) [] h 0) code
unfolding length_of
ril_b_is o r1 h code h_o h_r1 h_h e =
    record {
      fit = fields_from RilB (slots o (r1 ∷ []) [] h 0) refl (h_o, (h_r1, (lit< tt, (lit< tt, (lit< tt, (lit< tt, (lit< tt, (lit< tt, (h_h, (lit< tt, tt))))))))));
      bytes_are = e ∙ sym (six_bytes (number (layout_of RilB) (slots o (r1 ∷ []) [] h 0)) (o / 16) (r1 * 16 + o % 16) (h / 65536 / 256) (h / 65536 % 256) (h % 65536 / 256) (h % 65536 % 256) (omega arith) (omega arith) (omega arith) (omega arith) (omega arith) (omega arith) (ril_b_number o r1 h h_o h_r1 h_h));
    }

ril_c_number : (o m1 h : ℕ) → o < 2 ^ 12 → m1 < 2 ^ 4 → h < 2 ^ 32 →
    number (layout_of RilC) (slots o [] (m1 ∷ []) h 0) ≡ (o / 16) * 2 ^ 40 + (m1 * 16 + o % 16) * 2 ^ 32 + (h / 65536 / 256) * 2 ^ 24 + (h / 65536 % 256) * 2 ^ 16 + (h % 65536 / 256) * 256 + (h % 65536 % 256)
unfolding number bits layout_of
ril_c_number o m1 h h_o h_m1 h_h = omega arith

pub ril_c_is : (o m1 h : ℕ) (code : List ℕ) → o < 2 ^ 12 → m1 < 2 ^ 4 → h < 2 ^ 32 → code ≡ (o / 16) ∷ (m1 * 16 + o % 16) ∷ (h / 65536 / 256) ∷ (h / 65536 % 256) ∷ (h % 65536 / 256) ∷ (h % 65536 % 256) ∷ [] → IsCode RilC (slots o [] (m1 ∷ []) h 0) code
unfolding length_of
ril_c_is o m1 h code h_o h_m1 h_h e =
    record {
      fit = fields_from RilC (slots o [] (m1 ∷ []) h 0) refl (h_o, (lit< tt, (lit< tt, (lit< tt, (lit< tt, (h_m1, (lit< tt, (lit< tt, (h_h, (lit< tt, tt))))))))));
      bytes_are = e ∙ sym (six_bytes (number (layout_of RilC) (slots o [] (m1 ∷ []) h 0)) (o / 16) (m1 * 16 + o % 16) (h / 65536 / 256) (h / 65536 % 256) (h % 65536 / 256) (h % 65536 % 256) (omega arith) (omega arith) (omega arith) (omega arith) (omega arith) (omega arith) (ril_c_number o m1 h h_o h_m1 h_h));
    }

rr_number : (o r1 r2 : ℕ) → o < 2 ^ 8 → r1 < 2 ^ 4 → r2 < 2 ^ 4 →
    number (layout_of Rr) (slots o (r1 ∷ r2 ∷ []) [] 0 0) ≡ (o % 256) * 256 + (r1 * 16 + r2)
unfolding number bits layout_of
rr_number o r1 r2 h_o h_r1 h_r2 = omega arith

pub rr_is : (o r1 r2 : ℕ) (code : List ℕ) → o < 2 ^ 8 → r1 < 2 ^ 4 → r2 < 2 ^ 4 → code ≡ (o % 256) ∷ (r1 * 16 + r2) ∷ [] → IsCode Rr (slots o (r1 ∷ r2 ∷ []) [] 0 0) code
unfolding length_of
rr_is o r1 r2 code h_o h_r1 h_r2 e =
    record {
      fit = fields_from Rr (slots o (r1 ∷ r2 ∷ []) [] 0 0) refl (h_o, (h_r1, (h_r2, (lit< tt, (lit< tt, (lit< tt, (lit< tt, (lit< tt, (lit< tt, (lit< tt, tt))))))))));
      bytes_are = e ∙ sym (two_bytes (number (layout_of Rr) (slots o (r1 ∷ r2 ∷ []) [] 0 0)) (o % 256) (r1 * 16 + r2) (omega arith) (omega arith) (rr_number o r1 r2 h_o h_r1 h_r2));
    }

rre_number : (o r1 r2 : ℕ) → o < 2 ^ 16 → r1 < 2 ^ 4 → r2 < 2 ^ 4 →
    number (layout_of Rre) (slots o (r1 ∷ r2 ∷ []) [] 0 0) ≡ (o / 256) * 2 ^ 24 + (o % 256) * 2 ^ 16 + 0 * 256 + (r1 * 16 + r2)
unfolding number bits layout_of
rre_number o r1 r2 h_o h_r1 h_r2 = omega arith

pub rre_is : (o r1 r2 : ℕ) (code : List ℕ) → o < 2 ^ 16 → r1 < 2 ^ 4 → r2 < 2 ^ 4 → code ≡ (o / 256) ∷ (o % 256) ∷ 0 ∷ (r1 * 16 + r2) ∷ [] → IsCode Rre (slots o (r1 ∷ r2 ∷ []) [] 0 0) code
unfolding length_of
rre_is o r1 r2 code h_o h_r1 h_r2 e =
    record {
      fit = fields_from Rre (slots o (r1 ∷ r2 ∷ []) [] 0 0) refl (h_o, (h_r1, (h_r2, (lit< tt, (lit< tt, (lit< tt, (lit< tt, (lit< tt, (lit< tt, (lit< tt, tt))))))))));
      bytes_are = e ∙ sym (four_bytes (number (layout_of Rre) (slots o (r1 ∷ r2 ∷ []) [] 0 0)) (o / 256) (o % 256) 0 (r1 * 16 + r2) (omega arith) (omega arith) (omega arith) (omega arith) (rre_number o r1 r2 h_o h_r1 h_r2));
    }

rrf_ab_number : (o r1 r2 r3 m4 : ℕ) → o < 2 ^ 16 → r1 < 2 ^ 4 → r2 < 2 ^ 4 → r3 < 2 ^ 4 → m4 < 2 ^ 4 →
    number (layout_of RrfAb) (slots o (r1 ∷ r2 ∷ r3 ∷ []) (m4 ∷ []) 0 0) ≡ (o / 256) * 2 ^ 24 + (o % 256) * 2 ^ 16 + (r3 * 16 + m4) * 256 + (r1 * 16 + r2)
unfolding number bits layout_of
rrf_ab_number o r1 r2 r3 m4 h_o h_r1 h_r2 h_r3 h_m4 = omega arith

pub rrf_ab_is : (o r1 r2 r3 m4 : ℕ) (code : List ℕ) → o < 2 ^ 16 → r1 < 2 ^ 4 → r2 < 2 ^ 4 → r3 < 2 ^ 4 → m4 < 2 ^ 4 → code ≡ (o / 256) ∷ (o % 256) ∷ (r3 * 16 + m4) ∷ (r1 * 16 + r2) ∷ [] → IsCode RrfAb (slots o (r1 ∷ r2 ∷ r3 ∷ []) (m4 ∷ []) 0 0) code
unfolding length_of
rrf_ab_is o r1 r2 r3 m4 code h_o h_r1 h_r2 h_r3 h_m4 e =
    record {
      fit = fields_from RrfAb (slots o (r1 ∷ r2 ∷ r3 ∷ []) (m4 ∷ []) 0 0) refl (h_o, (h_r1, (h_r2, (h_r3, (lit< tt, (h_m4, (lit< tt, (lit< tt, (lit< tt, (lit< tt, tt))))))))));
      bytes_are = e ∙ sym (four_bytes (number (layout_of RrfAb) (slots o (r1 ∷ r2 ∷ r3 ∷ []) (m4 ∷ []) 0 0)) (o / 256) (o % 256) (r3 * 16 + m4) (r1 * 16 + r2) (omega arith) (omega arith) (omega arith) (omega arith) (rrf_ab_number o r1 r2 r3 m4 h_o h_r1 h_r2 h_r3 h_m4));
    }

rrf_cde_number : (o r1 r2 m3 m4 : ℕ) → o < 2 ^ 16 → r1 < 2 ^ 4 → r2 < 2 ^ 4 → m3 < 2 ^ 4 → m4 < 2 ^ 4 →
    number (layout_of RrfCde) (slots o (r1 ∷ r2 ∷ []) (m3 ∷ m4 ∷ []) 0 0) ≡ (o / 256) * 2 ^ 24 + (o % 256) * 2 ^ 16 + (m3 * 16 + m4) * 256 + (r1 * 16 + r2)
unfolding number bits layout_of
rrf_cde_number o r1 r2 m3 m4 h_o h_r1 h_r2 h_m3 h_m4 = omega arith

pub rrf_cde_is : (o r1 r2 m3 m4 : ℕ) (code : List ℕ) → o < 2 ^ 16 → r1 < 2 ^ 4 → r2 < 2 ^ 4 → m3 < 2 ^ 4 → m4 < 2 ^ 4 → code ≡ (o / 256) ∷ (o % 256) ∷ (m3 * 16 + m4) ∷ (r1 * 16 + r2) ∷ [] → IsCode RrfCde (slots o (r1 ∷ r2 ∷ []) (m3 ∷ m4 ∷ []) 0 0) code
unfolding length_of
rrf_cde_is o r1 r2 m3 m4 code h_o h_r1 h_r2 h_m3 h_m4 e =
    record {
      fit = fields_from RrfCde (slots o (r1 ∷ r2 ∷ []) (m3 ∷ m4 ∷ []) 0 0) refl (h_o, (h_r1, (h_r2, (lit< tt, (lit< tt, (h_m3, (h_m4, (lit< tt, (lit< tt, (lit< tt, tt))))))))));
      bytes_are = e ∙ sym (four_bytes (number (layout_of RrfCde) (slots o (r1 ∷ r2 ∷ []) (m3 ∷ m4 ∷ []) 0 0)) (o / 256) (o % 256) (m3 * 16 + m4) (r1 * 16 + r2) (omega arith) (omega arith) (omega arith) (omega arith) (rrf_cde_number o r1 r2 m3 m4 h_o h_r1 h_r2 h_m3 h_m4));
    }
