-- The bytes of the formats for vector instructions.
use Rattle.std.proofs.Common.{◌≡◌, ℕ, ◌+◌, ◌*◌, ◌/◌, ◌%◌, ◌^◌, ◌<◌, List, [], ◌∷◌, refl, sym, ◌∙◌, lit<, arith}
use Rattle.s390x_format.specs.declared.kind.FormatKind.TheVariants.{VriA, VriB, VriC, VriK, VrrA, VrrB, VrrC, VrrD, VrrE, VrrF, VrsA, VrsB, VrsC, Vrx}
use Rattle.s390x_format.specs.Layout.{number, bits}
use Rattle.s390x_format.specs.Formats.{layout_of, length_of}
use Rattle.s390x_format.specs.Fits.{fields_from}
use Rattle.s390x_format.specs.Encoded.{slots, IsCode}
use Rattle.s390x_enc.proofs.ByteByByte.{six_bytes}

vri_a_number : (o v1 i2 m3 : ℕ) → o < 2 ^ 16 → v1 < 2 ^ 5 → i2 < 2 ^ 16 → m3 < 2 ^ 4 →
    number (layout_of VriA) (slots o (v1 ∷ []) (m3 ∷ []) i2 0) ≡ (o / 256) * 2 ^ 40 + (v1 % 16 * 16 + 0) * 2 ^ 32 + (i2 / 256) * 2 ^ 24 + (i2 % 256) * 2 ^ 16 + (m3 * 16 + (8 * (v1 / 16) + 4 * 0 + 2 * 0 + 0)) * 256 + (o % 256)
unfolding number bits layout_of
vri_a_number o v1 i2 m3 h_o h_v1 h_i2 h_m3 = omega arith

pub vri_a_is : (o v1 i2 m3 : ℕ) (code : List ℕ) → o < 2 ^ 16 → v1 < 2 ^ 5 → i2 < 2 ^ 16 → m3 < 2 ^ 4 → code ≡ (o / 256) ∷ (v1 % 16 * 16 + 0) ∷ (i2 / 256) ∷ (i2 % 256) ∷ (m3 * 16 + (8 * (v1 / 16) + 4 * 0 + 2 * 0 + 0)) ∷ (o % 256) ∷ [] → IsCode VriA (slots o (v1 ∷ []) (m3 ∷ []) i2 0) code
unfolding length_of
vri_a_is o v1 i2 m3 code h_o h_v1 h_i2 h_m3 e =
    record {
      fit = fields_from VriA (slots o (v1 ∷ []) (m3 ∷ []) i2 0) refl (h_o, (h_v1, (lit< tt, (lit< tt, (lit< tt, (h_m3, (lit< tt, (lit< tt, (h_i2, (lit< tt, tt))))))))));
      bytes_are = e ∙ sym (six_bytes (number (layout_of VriA) (slots o (v1 ∷ []) (m3 ∷ []) i2 0)) (o / 256) (v1 % 16 * 16 + 0) (i2 / 256) (i2 % 256) (m3 * 16 + (8 * (v1 / 16) + 4 * 0 + 2 * 0 + 0)) (o % 256) (omega arith) (omega arith) (omega arith) (omega arith) (omega arith) (omega arith) (vri_a_number o v1 i2 m3 h_o h_v1 h_i2 h_m3));
    }

vri_b_number : (o v1 i2 i3 m4 : ℕ) → o < 2 ^ 16 → v1 < 2 ^ 5 → i2 < 2 ^ 8 → i3 < 2 ^ 8 → m4 < 2 ^ 4 →
    number (layout_of VriB) (slots o (v1 ∷ []) (i2 ∷ i3 ∷ m4 ∷ []) 0 0) ≡ (o / 256) * 2 ^ 40 + (v1 % 16 * 16 + 0) * 2 ^ 32 + i2 * 2 ^ 24 + i3 * 2 ^ 16 + (m4 * 16 + (8 * (v1 / 16) + 4 * 0 + 2 * 0 + 0)) * 256 + (o % 256)
unfolding number bits layout_of
vri_b_number o v1 i2 i3 m4 h_o h_v1 h_i2 h_i3 h_m4 = omega arith

pub vri_b_is : (o v1 i2 i3 m4 : ℕ) (code : List ℕ) → o < 2 ^ 16 → v1 < 2 ^ 5 → i2 < 2 ^ 8 → i3 < 2 ^ 8 → m4 < 2 ^ 4 → code ≡ (o / 256) ∷ (v1 % 16 * 16 + 0) ∷ i2 ∷ i3 ∷ (m4 * 16 + (8 * (v1 / 16) + 4 * 0 + 2 * 0 + 0)) ∷ (o % 256) ∷ [] → IsCode VriB (slots o (v1 ∷ []) (i2 ∷ i3 ∷ m4 ∷ []) 0 0) code
unfolding length_of
vri_b_is o v1 i2 i3 m4 code h_o h_v1 h_i2 h_i3 h_m4 e =
    record {
      fit = fields_from VriB (slots o (v1 ∷ []) (i2 ∷ i3 ∷ m4 ∷ []) 0 0) refl (h_o, (h_v1, (lit< tt, (lit< tt, (lit< tt, (h_i2, (h_i3, (h_m4, (lit< tt, (lit< tt, tt))))))))));
      bytes_are = e ∙ sym (six_bytes (number (layout_of VriB) (slots o (v1 ∷ []) (i2 ∷ i3 ∷ m4 ∷ []) 0 0)) (o / 256) (v1 % 16 * 16 + 0) i2 i3 (m4 * 16 + (8 * (v1 / 16) + 4 * 0 + 2 * 0 + 0)) (o % 256) (omega arith) (omega arith) (omega arith) (omega arith) (omega arith) (omega arith) (vri_b_number o v1 i2 i3 m4 h_o h_v1 h_i2 h_i3 h_m4));
    }

vri_c_number : (o v1 i2 v3 m4 : ℕ) → o < 2 ^ 16 → v1 < 2 ^ 5 → i2 < 2 ^ 16 → v3 < 2 ^ 5 → m4 < 2 ^ 4 →
    number (layout_of VriC) (slots o (v1 ∷ v3 ∷ []) (m4 ∷ []) i2 0) ≡ (o / 256) * 2 ^ 40 + (v1 % 16 * 16 + v3 % 16) * 2 ^ 32 + (i2 / 256) * 2 ^ 24 + (i2 % 256) * 2 ^ 16 + (m4 * 16 + (8 * (v1 / 16) + 4 * (v3 / 16) + 2 * 0 + 0)) * 256 + (o % 256)
unfolding number bits layout_of
vri_c_number o v1 i2 v3 m4 h_o h_v1 h_i2 h_v3 h_m4 = omega arith

pub vri_c_is : (o v1 i2 v3 m4 : ℕ) (code : List ℕ) → o < 2 ^ 16 → v1 < 2 ^ 5 → i2 < 2 ^ 16 → v3 < 2 ^ 5 → m4 < 2 ^ 4 → code ≡ (o / 256) ∷ (v1 % 16 * 16 + v3 % 16) ∷ (i2 / 256) ∷ (i2 % 256) ∷ (m4 * 16 + (8 * (v1 / 16) + 4 * (v3 / 16) + 2 * 0 + 0)) ∷ (o % 256) ∷ [] → IsCode VriC (slots o (v1 ∷ v3 ∷ []) (m4 ∷ []) i2 0) code
unfolding length_of
vri_c_is o v1 i2 v3 m4 code h_o h_v1 h_i2 h_v3 h_m4 e =
    record {
      fit = fields_from VriC (slots o (v1 ∷ v3 ∷ []) (m4 ∷ []) i2 0) refl (h_o, (h_v1, (h_v3, (lit< tt, (lit< tt, (h_m4, (lit< tt, (lit< tt, (h_i2, (lit< tt, tt))))))))));
      bytes_are = e ∙ sym (six_bytes (number (layout_of VriC) (slots o (v1 ∷ v3 ∷ []) (m4 ∷ []) i2 0)) (o / 256) (v1 % 16 * 16 + v3 % 16) (i2 / 256) (i2 % 256) (m4 * 16 + (8 * (v1 / 16) + 4 * (v3 / 16) + 2 * 0 + 0)) (o % 256) (omega arith) (omega arith) (omega arith) (omega arith) (omega arith) (omega arith) (vri_c_number o v1 i2 v3 m4 h_o h_v1 h_i2 h_v3 h_m4));
    }

vri_k_number : (o i5 v1 v2 v3 v4 : ℕ) → o < 2 ^ 16 → i5 < 2 ^ 8 → v1 < 2 ^ 5 → v2 < 2 ^ 5 → v3 < 2 ^ 5 → v4 < 2 ^ 5 →
    number (layout_of VriK) (slots o (v1 ∷ v2 ∷ v3 ∷ v4 ∷ []) (i5 ∷ []) 0 0) ≡ (o / 256) * 2 ^ 40 + (v1 % 16 * 16 + v2 % 16) * 2 ^ 32 + (v3 % 16 * 16 + 0) * 2 ^ 24 + i5 * 2 ^ 16 + (v4 % 16 * 16 + (8 * (v1 / 16) + 4 * (v2 / 16) + 2 * (v3 / 16) + (v4 / 16))) * 256 + (o % 256)
unfolding number bits layout_of
vri_k_number o i5 v1 v2 v3 v4 h_o h_i5 h_v1 h_v2 h_v3 h_v4 = omega arith

pub vri_k_is : (o i5 v1 v2 v3 v4 : ℕ) (code : List ℕ) → o < 2 ^ 16 → i5 < 2 ^ 8 → v1 < 2 ^ 5 → v2 < 2 ^ 5 → v3 < 2 ^ 5 → v4 < 2 ^ 5 → code ≡ (o / 256) ∷ (v1 % 16 * 16 + v2 % 16) ∷ (v3 % 16 * 16 + 0) ∷ i5 ∷ (v4 % 16 * 16 + (8 * (v1 / 16) + 4 * (v2 / 16) + 2 * (v3 / 16) + (v4 / 16))) ∷ (o % 256) ∷ [] → IsCode VriK (slots o (v1 ∷ v2 ∷ v3 ∷ v4 ∷ []) (i5 ∷ []) 0 0) code
unfolding length_of
vri_k_is o i5 v1 v2 v3 v4 code h_o h_i5 h_v1 h_v2 h_v3 h_v4 e =
    record {
      fit = fields_from VriK (slots o (v1 ∷ v2 ∷ v3 ∷ v4 ∷ []) (i5 ∷ []) 0 0) refl (h_o, (h_v1, (h_v2, (h_v3, (h_v4, (h_i5, (lit< tt, (lit< tt, (lit< tt, (lit< tt, tt))))))))));
      bytes_are = e ∙ sym (six_bytes (number (layout_of VriK) (slots o (v1 ∷ v2 ∷ v3 ∷ v4 ∷ []) (i5 ∷ []) 0 0)) (o / 256) (v1 % 16 * 16 + v2 % 16) (v3 % 16 * 16 + 0) i5 (v4 % 16 * 16 + (8 * (v1 / 16) + 4 * (v2 / 16) + 2 * (v3 / 16) + (v4 / 16))) (o % 256)
          (omega arith) (omega arith) (omega arith) (omega arith) (omega arith) (omega arith) (vri_k_number o i5 v1 v2 v3 v4 h_o h_i5 h_v1 h_v2 h_v3 h_v4));
    }

vrr_a_number : (o v1 v2 m3 m4 m5 : ℕ) → o < 2 ^ 16 → v1 < 2 ^ 5 → v2 < 2 ^ 5 → m3 < 2 ^ 4 → m4 < 2 ^ 4 → m5 < 2 ^ 4 →
    number (layout_of VrrA) (slots o (v1 ∷ v2 ∷ []) (m3 ∷ m4 ∷ m5 ∷ []) 0 0) ≡ (o / 256) * 2 ^ 40 + (v1 % 16 * 16 + v2 % 16) * 2 ^ 32 + 0 * 2 ^ 24 + (m5 * 16 + m4) * 2 ^ 16 + (m3 * 16 + (8 * (v1 / 16) + 4 * (v2 / 16) + 2 * 0 + 0)) * 256 + (o % 256)
unfolding number bits layout_of
vrr_a_number o v1 v2 m3 m4 m5 h_o h_v1 h_v2 h_m3 h_m4 h_m5 = omega arith

pub vrr_a_is : (o v1 v2 m3 m4 m5 : ℕ) (code : List ℕ) → o < 2 ^ 16 → v1 < 2 ^ 5 → v2 < 2 ^ 5 → m3 < 2 ^ 4 → m4 < 2 ^ 4 → m5 < 2 ^ 4 → code ≡ (o / 256) ∷ (v1 % 16 * 16 + v2 % 16) ∷ 0 ∷ (m5 * 16 + m4) ∷ (m3 * 16 + (8 * (v1 / 16) + 4 * (v2 / 16) + 2 * 0 + 0)) ∷ (o % 256) ∷ [] → IsCode VrrA (slots o (v1 ∷ v2 ∷ []) (m3 ∷ m4 ∷ m5 ∷ []) 0 0) code
unfolding length_of
vrr_a_is o v1 v2 m3 m4 m5 code h_o h_v1 h_v2 h_m3 h_m4 h_m5 e =
    record {
      fit = fields_from VrrA (slots o (v1 ∷ v2 ∷ []) (m3 ∷ m4 ∷ m5 ∷ []) 0 0) refl (h_o, (h_v1, (h_v2, (lit< tt, (lit< tt, (h_m3, (h_m4, (h_m5, (lit< tt, (lit< tt, tt))))))))));
      bytes_are = e ∙ sym (six_bytes (number (layout_of VrrA) (slots o (v1 ∷ v2 ∷ []) (m3 ∷ m4 ∷ m5 ∷ []) 0 0)) (o / 256) (v1 % 16 * 16 + v2 % 16) 0 (m5 * 16 + m4) (m3 * 16 + (8 * (v1 / 16) + 4 * (v2 / 16) + 2 * 0 + 0)) (o % 256) (omega arith) (omega arith) (omega arith) (omega arith) (omega arith) (omega arith) (vrr_a_number o v1 v2 m3 m4 m5 h_o h_v1 h_v2 h_m3 h_m4 h_m5));
    }

vrr_b_number : (o v1 v2 v3 m4 m5 : ℕ) → o < 2 ^ 16 → v1 < 2 ^ 5 → v2 < 2 ^ 5 → v3 < 2 ^ 5 → m4 < 2 ^ 4 → m5 < 2 ^ 4 →
    number (layout_of VrrB) (slots o (v1 ∷ v2 ∷ v3 ∷ []) (m4 ∷ m5 ∷ []) 0 0) ≡ (o / 256) * 2 ^ 40 + (v1 % 16 * 16 + v2 % 16) * 2 ^ 32 + (v3 % 16 * 16 + 0) * 2 ^ 24 + (m5 * 16 + 0) * 2 ^ 16 + (m4 * 16 + (8 * (v1 / 16) + 4 * (v2 / 16) + 2 * (v3 / 16) + 0)) * 256 + (o % 256)
unfolding number bits layout_of
vrr_b_number o v1 v2 v3 m4 m5 h_o h_v1 h_v2 h_v3 h_m4 h_m5 = omega arith

pub vrr_b_is : (o v1 v2 v3 m4 m5 : ℕ) (code : List ℕ) → o < 2 ^ 16 → v1 < 2 ^ 5 → v2 < 2 ^ 5 → v3 < 2 ^ 5 → m4 < 2 ^ 4 → m5 < 2 ^ 4 → code ≡ (o / 256) ∷ (v1 % 16 * 16 + v2 % 16) ∷ (v3 % 16 * 16 + 0) ∷ (m5 * 16 + 0) ∷ (m4 * 16 + (8 * (v1 / 16) + 4 * (v2 / 16) + 2 * (v3 / 16) + 0)) ∷ (o % 256) ∷ [] → IsCode VrrB (slots o (v1 ∷ v2 ∷ v3 ∷ []) (m4 ∷ m5 ∷ []) 0 0) code
unfolding length_of
vrr_b_is o v1 v2 v3 m4 m5 code h_o h_v1 h_v2 h_v3 h_m4 h_m5 e =
    record {
      fit = fields_from VrrB (slots o (v1 ∷ v2 ∷ v3 ∷ []) (m4 ∷ m5 ∷ []) 0 0) refl (h_o, (h_v1, (h_v2, (h_v3, (lit< tt, (h_m4, (h_m5, (lit< tt, (lit< tt, (lit< tt, tt))))))))));
      bytes_are = e ∙ sym (six_bytes (number (layout_of VrrB) (slots o (v1 ∷ v2 ∷ v3 ∷ []) (m4 ∷ m5 ∷ []) 0 0)) (o / 256) (v1 % 16 * 16 + v2 % 16) (v3 % 16 * 16 + 0) (m5 * 16 + 0) (m4 * 16 + (8 * (v1 / 16) + 4 * (v2 / 16) + 2 * (v3 / 16) + 0)) (o % 256)
          (omega arith) (omega arith) (omega arith) (omega arith) (omega arith) (omega arith) (vrr_b_number o v1 v2 v3 m4 m5 h_o h_v1 h_v2 h_v3 h_m4 h_m5));
    }

vrr_c_number : (o v1 v2 v3 m4 m5 m6 : ℕ) → o < 2 ^ 16 → v1 < 2 ^ 5 → v2 < 2 ^ 5 → v3 < 2 ^ 5 → m4 < 2 ^ 4 → m5 < 2 ^ 4 → m6 < 2 ^ 4 →
    number (layout_of VrrC) (slots o (v1 ∷ v2 ∷ v3 ∷ []) (m4 ∷ m5 ∷ m6 ∷ []) 0 0) ≡ (o / 256) * 2 ^ 40 + (v1 % 16 * 16 + v2 % 16) * 2 ^ 32 + (v3 % 16 * 16 + 0) * 2 ^ 24 + (m6 * 16 + m5) * 2 ^ 16 + (m4 * 16 + (8 * (v1 / 16) + 4 * (v2 / 16) + 2 * (v3 / 16) + 0)) * 256 + (o % 256)
unfolding number bits layout_of
vrr_c_number o v1 v2 v3 m4 m5 m6 h_o h_v1 h_v2 h_v3 h_m4 h_m5 h_m6 = omega arith

pub vrr_c_is : (o v1 v2 v3 m4 m5 m6 : ℕ) (code : List ℕ) → o < 2 ^ 16 → v1 < 2 ^ 5 → v2 < 2 ^ 5 → v3 < 2 ^ 5 → m4 < 2 ^ 4 → m5 < 2 ^ 4 → m6 < 2 ^ 4 → code ≡ (o / 256) ∷ (v1 % 16 * 16 + v2 % 16) ∷ (v3 % 16 * 16 + 0) ∷ (m6 * 16 + m5) ∷ (m4 * 16 + (8 * (v1 / 16) + 4 * (v2 / 16) + 2 * (v3 / 16) + 0)) ∷ (o % 256) ∷ [] → IsCode VrrC (slots o (v1 ∷ v2 ∷ v3 ∷ []) (m4 ∷ m5 ∷ m6 ∷ []) 0 0) code
unfolding length_of
vrr_c_is o v1 v2 v3 m4 m5 m6 code h_o h_v1 h_v2 h_v3 h_m4 h_m5 h_m6 e =
    record {
      fit = fields_from VrrC (slots o (v1 ∷ v2 ∷ v3 ∷ []) (m4 ∷ m5 ∷ m6 ∷ []) 0 0) refl (h_o, (h_v1, (h_v2, (h_v3, (lit< tt, (h_m4, (h_m5, (h_m6, (lit< tt, (lit< tt, tt))))))))));
      bytes_are = e ∙ sym (six_bytes (number (layout_of VrrC) (slots o (v1 ∷ v2 ∷ v3 ∷ []) (m4 ∷ m5 ∷ m6 ∷ []) 0 0)) (o / 256) (v1 % 16 * 16 + v2 % 16) (v3 % 16 * 16 + 0) (m6 * 16 + m5) (m4 * 16 + (8 * (v1 / 16) + 4 * (v2 / 16) + 2 * (v3 / 16) + 0)) (o % 256)
          (omega arith) (omega arith) (omega arith) (omega arith) (omega arith) (omega arith) (vrr_c_number o v1 v2 v3 m4 m5 m6 h_o h_v1 h_v2 h_v3 h_m4 h_m5 h_m6));
    }

vrr_d_number : (o v1 v2 v3 v4 m5 m6 : ℕ) → o < 2 ^ 16 → v1 < 2 ^ 5 → v2 < 2 ^ 5 → v3 < 2 ^ 5 → v4 < 2 ^ 5 → m5 < 2 ^ 4 → m6 < 2 ^ 4 →
    number (layout_of VrrD) (slots o (v1 ∷ v2 ∷ v3 ∷ v4 ∷ []) (m5 ∷ m6 ∷ []) 0 0) ≡ (o / 256) * 2 ^ 40 + (v1 % 16 * 16 + v2 % 16) * 2 ^ 32 + (v3 % 16 * 16 + m5) * 2 ^ 24 + (m6 * 16 + 0) * 2 ^ 16 + (v4 % 16 * 16 + (8 * (v1 / 16) + 4 * (v2 / 16) + 2 * (v3 / 16) + (v4 / 16))) * 256 + (o % 256)
unfolding number bits layout_of
vrr_d_number o v1 v2 v3 v4 m5 m6 h_o h_v1 h_v2 h_v3 h_v4 h_m5 h_m6 = omega arith

pub vrr_d_is : (o v1 v2 v3 v4 m5 m6 : ℕ) (code : List ℕ) → o < 2 ^ 16 → v1 < 2 ^ 5 → v2 < 2 ^ 5 → v3 < 2 ^ 5 → v4 < 2 ^ 5 → m5 < 2 ^ 4 → m6 < 2 ^ 4 → code ≡ (o / 256) ∷ (v1 % 16 * 16 + v2 % 16) ∷ (v3 % 16 * 16 + m5) ∷ (m6 * 16 + 0) ∷ (v4 % 16 * 16 + (8 * (v1 / 16) + 4 * (v2 / 16) + 2 * (v3 / 16) + (v4 / 16))) ∷ (o % 256) ∷ [] → IsCode VrrD (slots o (v1 ∷ v2 ∷ v3 ∷ v4 ∷ []) (m5 ∷ m6 ∷ []) 0 0) code
unfolding length_of
vrr_d_is o v1 v2 v3 v4 m5 m6 code h_o h_v1 h_v2 h_v3 h_v4 h_m5 h_m6 e =
    record {
      fit = fields_from VrrD (slots o (v1 ∷ v2 ∷ v3 ∷ v4 ∷ []) (m5 ∷ m6 ∷ []) 0 0) refl (h_o, (h_v1, (h_v2, (h_v3, (h_v4, (h_m5, (h_m6, (lit< tt, (lit< tt, (lit< tt, tt))))))))));
      bytes_are = e ∙ sym (six_bytes (number (layout_of VrrD) (slots o (v1 ∷ v2 ∷ v3 ∷ v4 ∷ []) (m5 ∷ m6 ∷ []) 0 0)) (o / 256) (v1 % 16 * 16 + v2 % 16) (v3 % 16 * 16 + m5) (m6 * 16 + 0) (v4 % 16 * 16 + (8 * (v1 / 16) + 4 * (v2 / 16) + 2 * (v3 / 16) + (v4 / 16))) (o % 256)
          (omega arith) (omega arith) (omega arith) (omega arith) (omega arith) (omega arith) (vrr_d_number o v1 v2 v3 v4 m5 m6 h_o h_v1 h_v2 h_v3 h_v4 h_m5 h_m6));
    }

vrr_e_number : (o v1 v2 v3 v4 m5 m6 : ℕ) → o < 2 ^ 16 → v1 < 2 ^ 5 → v2 < 2 ^ 5 → v3 < 2 ^ 5 → v4 < 2 ^ 5 → m5 < 2 ^ 4 → m6 < 2 ^ 4 →
    number (layout_of VrrE) (slots o (v1 ∷ v2 ∷ v3 ∷ v4 ∷ []) (m5 ∷ m6 ∷ []) 0 0) ≡ (o / 256) * 2 ^ 40 + (v1 % 16 * 16 + v2 % 16) * 2 ^ 32 + (v3 % 16 * 16 + m6) * 2 ^ 24 + (0 * 16 + m5) * 2 ^ 16 + (v4 % 16 * 16 + (8 * (v1 / 16) + 4 * (v2 / 16) + 2 * (v3 / 16) + (v4 / 16))) * 256 + (o % 256)
unfolding number bits layout_of
vrr_e_number o v1 v2 v3 v4 m5 m6 h_o h_v1 h_v2 h_v3 h_v4 h_m5 h_m6 = omega arith

pub vrr_e_is : (o v1 v2 v3 v4 m5 m6 : ℕ) (code : List ℕ) → o < 2 ^ 16 → v1 < 2 ^ 5 → v2 < 2 ^ 5 → v3 < 2 ^ 5 → v4 < 2 ^ 5 → m5 < 2 ^ 4 → m6 < 2 ^ 4 → code ≡ (o / 256) ∷ (v1 % 16 * 16 + v2 % 16) ∷ (v3 % 16 * 16 + m6) ∷ (0 * 16 + m5) ∷ (v4 % 16 * 16 + (8 * (v1 / 16) + 4 * (v2 / 16) + 2 * (v3 / 16) + (v4 / 16))) ∷ (o % 256) ∷ [] → IsCode VrrE (slots o (v1 ∷ v2 ∷ v3 ∷ v4 ∷ []) (m5 ∷ m6 ∷ []) 0 0) code
unfolding length_of
vrr_e_is o v1 v2 v3 v4 m5 m6 code h_o h_v1 h_v2 h_v3 h_v4 h_m5 h_m6 e =
    record {
      fit = fields_from VrrE (slots o (v1 ∷ v2 ∷ v3 ∷ v4 ∷ []) (m5 ∷ m6 ∷ []) 0 0) refl (h_o, (h_v1, (h_v2, (h_v3, (h_v4, (h_m5, (h_m6, (lit< tt, (lit< tt, (lit< tt, tt))))))))));
      bytes_are = e ∙ sym (six_bytes (number (layout_of VrrE) (slots o (v1 ∷ v2 ∷ v3 ∷ v4 ∷ []) (m5 ∷ m6 ∷ []) 0 0)) (o / 256) (v1 % 16 * 16 + v2 % 16) (v3 % 16 * 16 + m6) (0 * 16 + m5) (v4 % 16 * 16 + (8 * (v1 / 16) + 4 * (v2 / 16) + 2 * (v3 / 16) + (v4 / 16))) (o % 256)
          (omega arith) (omega arith) (omega arith) (omega arith) (omega arith) (omega arith) (vrr_e_number o v1 v2 v3 v4 m5 m6 h_o h_v1 h_v2 h_v3 h_v4 h_m5 h_m6));
    }

vrr_f_number : (o v1 r2 r3 : ℕ) → o < 2 ^ 16 → v1 < 2 ^ 5 → r2 < 2 ^ 4 → r3 < 2 ^ 4 →
    number (layout_of VrrF) (slots o (v1 ∷ r2 ∷ r3 ∷ []) [] 0 0) ≡ (o / 256) * 2 ^ 40 + (v1 % 16 * 16 + r2) * 2 ^ 32 + (r3 * 16 + 0) * 2 ^ 24 + 0 * 2 ^ 16 + (0 * 16 + (8 * (v1 / 16) + 4 * 0 + 2 * 0 + 0)) * 256 + (o % 256)
unfolding number bits layout_of
vrr_f_number o v1 r2 r3 h_o h_v1 h_r2 h_r3 = omega arith

pub vrr_f_is : (o v1 r2 r3 : ℕ) (code : List ℕ) → o < 2 ^ 16 → v1 < 2 ^ 5 → r2 < 2 ^ 4 → r3 < 2 ^ 4 → code ≡ (o / 256) ∷ (v1 % 16 * 16 + r2) ∷ (r3 * 16 + 0) ∷ 0 ∷ (0 * 16 + (8 * (v1 / 16) + 4 * 0 + 2 * 0 + 0)) ∷ (o % 256) ∷ [] → IsCode VrrF (slots o (v1 ∷ r2 ∷ r3 ∷ []) [] 0 0) code
unfolding length_of
vrr_f_is o v1 r2 r3 code h_o h_v1 h_r2 h_r3 e =
    record {
      fit = fields_from VrrF (slots o (v1 ∷ r2 ∷ r3 ∷ []) [] 0 0) refl (h_o, (h_v1, (h_r2, (h_r3, (lit< tt, (lit< tt, (lit< tt, (lit< tt, (lit< tt, (lit< tt, tt))))))))));
      bytes_are = e ∙ sym (six_bytes (number (layout_of VrrF) (slots o (v1 ∷ r2 ∷ r3 ∷ []) [] 0 0)) (o / 256) (v1 % 16 * 16 + r2) (r3 * 16 + 0) 0 (0 * 16 + (8 * (v1 / 16) + 4 * 0 + 2 * 0 + 0)) (o % 256) (omega arith) (omega arith) (omega arith) (omega arith) (omega arith) (omega arith) (vrr_f_number o v1 r2 r3 h_o h_v1 h_r2 h_r3));
    }

vrs_a_number : (o v1 b2 d2 v3 m4 : ℕ) → o < 2 ^ 16 → v1 < 2 ^ 5 → b2 < 2 ^ 4 → d2 < 2 ^ 12 → v3 < 2 ^ 5 → m4 < 2 ^ 4 →
    number (layout_of VrsA) (slots o (v1 ∷ b2 ∷ v3 ∷ []) (m4 ∷ []) 0 d2) ≡ (o / 256) * 2 ^ 40 + (v1 % 16 * 16 + v3 % 16) * 2 ^ 32 + (b2 * 16 + d2 / 256) * 2 ^ 24 + (d2 % 256) * 2 ^ 16 + (m4 * 16 + (8 * (v1 / 16) + 4 * (v3 / 16) + 2 * 0 + 0)) * 256 + (o % 256)
unfolding number bits layout_of
vrs_a_number o v1 b2 d2 v3 m4 h_o h_v1 h_b2 h_d2 h_v3 h_m4 = omega arith

pub vrs_a_is : (o v1 b2 d2 v3 m4 : ℕ) (code : List ℕ) → o < 2 ^ 16 → v1 < 2 ^ 5 → b2 < 2 ^ 4 → d2 < 2 ^ 12 → v3 < 2 ^ 5 → m4 < 2 ^ 4 → code ≡ (o / 256) ∷ (v1 % 16 * 16 + v3 % 16) ∷ (b2 * 16 + d2 / 256) ∷ (d2 % 256) ∷ (m4 * 16 + (8 * (v1 / 16) + 4 * (v3 / 16) + 2 * 0 + 0)) ∷ (o % 256) ∷ [] → IsCode VrsA (slots o (v1 ∷ b2 ∷ v3 ∷ []) (m4 ∷ []) 0 d2) code
unfolding length_of
vrs_a_is o v1 b2 d2 v3 m4 code h_o h_v1 h_b2 h_d2 h_v3 h_m4 e =
    record {
      fit = fields_from VrsA (slots o (v1 ∷ b2 ∷ v3 ∷ []) (m4 ∷ []) 0 d2) refl (h_o, (h_v1, (h_b2, (h_v3, (lit< tt, (h_m4, (lit< tt, (lit< tt, (lit< tt, (h_d2, tt))))))))));
      bytes_are = e ∙ sym (six_bytes (number (layout_of VrsA) (slots o (v1 ∷ b2 ∷ v3 ∷ []) (m4 ∷ []) 0 d2)) (o / 256) (v1 % 16 * 16 + v3 % 16) (b2 * 16 + d2 / 256) (d2 % 256) (m4 * 16 + (8 * (v1 / 16) + 4 * (v3 / 16) + 2 * 0 + 0)) (o % 256)
          (omega arith) (omega arith) (omega arith) (omega arith) (omega arith) (omega arith) (vrs_a_number o v1 b2 d2 v3 m4 h_o h_v1 h_b2 h_d2 h_v3 h_m4));
    }

vrs_b_number : (o v1 b2 d2 r3 m4 : ℕ) → o < 2 ^ 16 → v1 < 2 ^ 5 → b2 < 2 ^ 4 → d2 < 2 ^ 12 → r3 < 2 ^ 4 → m4 < 2 ^ 4 →
    number (layout_of VrsB) (slots o (v1 ∷ b2 ∷ r3 ∷ []) (m4 ∷ []) 0 d2) ≡ (o / 256) * 2 ^ 40 + (v1 % 16 * 16 + r3) * 2 ^ 32 + (b2 * 16 + d2 / 256) * 2 ^ 24 + (d2 % 256) * 2 ^ 16 + (m4 * 16 + (8 * (v1 / 16) + 4 * 0 + 2 * 0 + 0)) * 256 + (o % 256)
unfolding number bits layout_of
vrs_b_number o v1 b2 d2 r3 m4 h_o h_v1 h_b2 h_d2 h_r3 h_m4 = omega arith

pub vrs_b_is : (o v1 b2 d2 r3 m4 : ℕ) (code : List ℕ) → o < 2 ^ 16 → v1 < 2 ^ 5 → b2 < 2 ^ 4 → d2 < 2 ^ 12 → r3 < 2 ^ 4 → m4 < 2 ^ 4 → code ≡ (o / 256) ∷ (v1 % 16 * 16 + r3) ∷ (b2 * 16 + d2 / 256) ∷ (d2 % 256) ∷ (m4 * 16 + (8 * (v1 / 16) + 4 * 0 + 2 * 0 + 0)) ∷ (o % 256) ∷ [] → IsCode VrsB (slots o (v1 ∷ b2 ∷ r3 ∷ []) (m4 ∷ []) 0 d2) code
unfolding length_of
vrs_b_is o v1 b2 d2 r3 m4 code h_o h_v1 h_b2 h_d2 h_r3 h_m4 e =
    record {
      fit = fields_from VrsB (slots o (v1 ∷ b2 ∷ r3 ∷ []) (m4 ∷ []) 0 d2) refl (h_o, (h_v1, (h_b2, (h_r3, (lit< tt, (h_m4, (lit< tt, (lit< tt, (lit< tt, (h_d2, tt))))))))));
      bytes_are = e ∙ sym (six_bytes (number (layout_of VrsB) (slots o (v1 ∷ b2 ∷ r3 ∷ []) (m4 ∷ []) 0 d2)) (o / 256) (v1 % 16 * 16 + r3) (b2 * 16 + d2 / 256) (d2 % 256) (m4 * 16 + (8 * (v1 / 16) + 4 * 0 + 2 * 0 + 0)) (o % 256) (omega arith) (omega arith) (omega arith) (omega arith) (omega arith) (omega arith) (vrs_b_number o v1 b2 d2 r3 m4 h_o h_v1 h_b2 h_d2 h_r3 h_m4));
    }

vrs_c_number : (o r1 b2 d2 v3 m4 : ℕ) → o < 2 ^ 16 → r1 < 2 ^ 4 → b2 < 2 ^ 4 → d2 < 2 ^ 12 → v3 < 2 ^ 5 → m4 < 2 ^ 4 →
    number (layout_of VrsC) (slots o (r1 ∷ b2 ∷ v3 ∷ []) (m4 ∷ []) 0 d2) ≡ (o / 256) * 2 ^ 40 + (r1 * 16 + v3 % 16) * 2 ^ 32 + (b2 * 16 + d2 / 256) * 2 ^ 24 + (d2 % 256) * 2 ^ 16 + (m4 * 16 + (8 * 0 + 4 * (v3 / 16) + 2 * 0 + 0)) * 256 + (o % 256)
unfolding number bits layout_of
vrs_c_number o r1 b2 d2 v3 m4 h_o h_r1 h_b2 h_d2 h_v3 h_m4 = omega arith

pub vrs_c_is : (o r1 b2 d2 v3 m4 : ℕ) (code : List ℕ) → o < 2 ^ 16 → r1 < 2 ^ 4 → b2 < 2 ^ 4 → d2 < 2 ^ 12 → v3 < 2 ^ 5 → m4 < 2 ^ 4 → code ≡ (o / 256) ∷ (r1 * 16 + v3 % 16) ∷ (b2 * 16 + d2 / 256) ∷ (d2 % 256) ∷ (m4 * 16 + (8 * 0 + 4 * (v3 / 16) + 2 * 0 + 0)) ∷ (o % 256) ∷ [] → IsCode VrsC (slots o (r1 ∷ b2 ∷ v3 ∷ []) (m4 ∷ []) 0 d2) code
unfolding length_of
vrs_c_is o r1 b2 d2 v3 m4 code h_o h_r1 h_b2 h_d2 h_v3 h_m4 e =
    record {
      fit = fields_from VrsC (slots o (r1 ∷ b2 ∷ v3 ∷ []) (m4 ∷ []) 0 d2) refl (h_o, (h_r1, (h_b2, (h_v3, (lit< tt, (h_m4, (lit< tt, (lit< tt, (lit< tt, (h_d2, tt))))))))));
      bytes_are = e ∙ sym (six_bytes (number (layout_of VrsC) (slots o (r1 ∷ b2 ∷ v3 ∷ []) (m4 ∷ []) 0 d2)) (o / 256) (r1 * 16 + v3 % 16) (b2 * 16 + d2 / 256) (d2 % 256) (m4 * 16 + (8 * 0 + 4 * (v3 / 16) + 2 * 0 + 0)) (o % 256) (omega arith) (omega arith) (omega arith) (omega arith) (omega arith) (omega arith) (vrs_c_number o r1 b2 d2 v3 m4 h_o h_r1 h_b2 h_d2 h_v3 h_m4));
    }

vrx_number : (o v1 b2 x2 d2 m3 : ℕ) → o < 2 ^ 16 → v1 < 2 ^ 5 → b2 < 2 ^ 4 → x2 < 2 ^ 4 → d2 < 2 ^ 12 → m3 < 2 ^ 4 →
    number (layout_of Vrx) (slots o (v1 ∷ b2 ∷ x2 ∷ []) (m3 ∷ []) 0 d2) ≡ (o / 256) * 2 ^ 40 + (v1 % 16 * 16 + x2) * 2 ^ 32 + (b2 * 16 + d2 / 256) * 2 ^ 24 + (d2 % 256) * 2 ^ 16 + (m3 * 16 + (8 * (v1 / 16) + 4 * 0 + 2 * 0 + 0)) * 256 + (o % 256)
unfolding number bits layout_of
vrx_number o v1 b2 x2 d2 m3 h_o h_v1 h_b2 h_x2 h_d2 h_m3 = omega arith

pub vrx_is : (o v1 b2 x2 d2 m3 : ℕ) (code : List ℕ) → o < 2 ^ 16 → v1 < 2 ^ 5 → b2 < 2 ^ 4 → x2 < 2 ^ 4 → d2 < 2 ^ 12 → m3 < 2 ^ 4 → code ≡ (o / 256) ∷ (v1 % 16 * 16 + x2) ∷ (b2 * 16 + d2 / 256) ∷ (d2 % 256) ∷ (m3 * 16 + (8 * (v1 / 16) + 4 * 0 + 2 * 0 + 0)) ∷ (o % 256) ∷ [] → IsCode Vrx (slots o (v1 ∷ b2 ∷ x2 ∷ []) (m3 ∷ []) 0 d2) code
unfolding length_of
vrx_is o v1 b2 x2 d2 m3 code h_o h_v1 h_b2 h_x2 h_d2 h_m3 e =
    record {
      fit = fields_from Vrx (slots o (v1 ∷ b2 ∷ x2 ∷ []) (m3 ∷ []) 0 d2) refl (h_o, (h_v1, (h_b2, (h_x2, (lit< tt, (h_m3, (lit< tt, (lit< tt, (lit< tt, (h_d2, tt))))))))));
      bytes_are = e ∙ sym (six_bytes (number (layout_of Vrx) (slots o (v1 ∷ b2 ∷ x2 ∷ []) (m3 ∷ []) 0 d2)) (o / 256) (v1 % 16 * 16 + x2) (b2 * 16 + d2 / 256) (d2 % 256) (m3 * 16 + (8 * (v1 / 16) + 4 * 0 + 2 * 0 + 0)) (o % 256) (omega arith) (omega arith) (omega arith) (omega arith) (omega arith) (omega arith) (vrx_number o v1 b2 x2 d2 m3 h_o h_v1 h_b2 h_x2 h_d2 h_m3));
    }
