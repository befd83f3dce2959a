-- The bytes of the formats for instructions on storage.
use Rattle.std.proofs.Common.{◌≡◌, ℕ, ◌+◌, ◌*◌, ◌/◌, ◌%◌, ◌^◌, ◌<◌, List, [], ◌∷◌, refl, sym, ◌∙◌, lit<, arith}
use Rattle.s390x_format.specs.declared.kind.FormatKind.TheVariants.{Rs, Rsy, Rx, Rxy, Si, Sil, Siy}
use Rattle.s390x_format.specs.Layout.{number, bits}
use Rattle.s390x_format.specs.Formats.{layout_of, length_of}
use Rattle.s390x_format.specs.Fits.{fields_from}
use Rattle.s390x_format.specs.Encoded.{slots, IsCode}
use Rattle.s390x_enc.proofs.ByteByByte.{four_bytes, six_bytes}

rs_number : (o r1 r3 b2 d2 : ℕ) → o < 2 ^ 8 → r1 < 2 ^ 4 → r3 < 2 ^ 4 → b2 < 2 ^ 4 → d2 < 2 ^ 12 →
    number (layout_of Rs) (slots o (r1 ∷ r3 ∷ b2 ∷ []) [] 0 d2) ≡ (o % 256) * 2 ^ 24 + (r1 * 16 + r3) * 2 ^ 16 + (b2 * 16 + d2 / 256) * 256 + (d2 % 256)
unfolding number bits layout_of
rs_number o r1 r3 b2 d2 h_o h_r1 h_r3 h_b2 h_d2 = omega arith

pub rs_is : (o r1 r3 b2 d2 : ℕ) (code : List ℕ) → o < 2 ^ 8 → r1 < 2 ^ 4 → r3 < 2 ^ 4 → b2 < 2 ^ 4 → d2 < 2 ^ 12 → code ≡ (o % 256) ∷ (r1 * 16 + r3) ∷ (b2 * 16 + d2 / 256) ∷ (d2 % 256) ∷ [] → IsCode Rs (slots o (r1 ∷ r3 ∷ b2 ∷ []) [] 0 d2) code
unfolding length_of
rs_is o r1 r3 b2 d2 code h_o h_r1 h_r3 h_b2 h_d2 e =
    record {
      fit = fields_from Rs (slots o (r1 ∷ r3 ∷ b2 ∷ []) [] 0 d2) refl (h_o, (h_r1, (h_r3, (h_b2, (lit< tt, (lit< tt, (lit< tt, (lit< tt, (lit< tt, (h_d2, tt))))))))));
      bytes_are = e ∙ sym (four_bytes (number (layout_of Rs) (slots o (r1 ∷ r3 ∷ b2 ∷ []) [] 0 d2)) (o % 256) (r1 * 16 + r3) (b2 * 16 + d2 / 256) (d2 % 256) (omega arith) (omega arith) (omega arith) (omega arith) (rs_number o r1 r3 b2 d2 h_o h_r1 h_r3 h_b2 h_d2));
    }

rsy_number : (o r1 r3 b2 d2 : ℕ) → o < 2 ^ 16 → r1 < 2 ^ 4 → r3 < 2 ^ 4 → b2 < 2 ^ 4 → d2 < 2 ^ 20 →
    number (layout_of Rsy) (slots o (r1 ∷ r3 ∷ b2 ∷ []) [] 0 d2) ≡ (o / 256) * 2 ^ 40 + (r1 * 16 + r3) * 2 ^ 32 + (b2 * 16 + d2 % 4096 / 256) * 2 ^ 24 + (d2 % 256) * 2 ^ 16 + (d2 / 4096) * 256 + (o % 256)
unfolding number bits layout_of
rsy_number o r1 r3 b2 d2 h_o h_r1 h_r3 h_b2 h_d2 = omega arith

pub rsy_is : (o r1 r3 b2 d2 : ℕ) (code : List ℕ) → o < 2 ^ 16 → r1 < 2 ^ 4 → r3 < 2 ^ 4 → b2 < 2 ^ 4 → d2 < 2 ^ 20 → code ≡ (o / 256) ∷ (r1 * 16 + r3) ∷ (b2 * 16 + d2 % 4096 / 256) ∷ (d2 % 256) ∷ (d2 / 4096) ∷ (o % 256) ∷ [] → IsCode Rsy (slots o (r1 ∷ r3 ∷ b2 ∷ []) [] 0 d2) code
unfolding length_of
rsy_is o r1 r3 b2 d2 code h_o h_r1 h_r3 h_b2 h_d2 e =
    record {
      fit = fields_from Rsy (slots o (r1 ∷ r3 ∷ b2 ∷ []) [] 0 d2) refl (h_o, (h_r1, (h_r3, (h_b2, (lit< tt, (lit< tt, (lit< tt, (lit< tt, (lit< tt, (h_d2, tt))))))))));
      bytes_are = e ∙ sym (six_bytes (number (layout_of Rsy) (slots o (r1 ∷ r3 ∷ b2 ∷ []) [] 0 d2)) (o / 256) (r1 * 16 + r3) (b2 * 16 + d2 % 4096 / 256) (d2 % 256) (d2 / 4096) (o % 256) (omega arith) (omega arith) (omega arith) (omega arith) (omega arith) (omega arith) (rsy_number o r1 r3 b2 d2 h_o h_r1 h_r3 h_b2 h_d2));
    }

rx_number : (o r1 b2 x2 d2 : ℕ) → o < 2 ^ 8 → r1 < 2 ^ 4 → b2 < 2 ^ 4 → x2 < 2 ^ 4 → d2 < 2 ^ 12 →
    number (layout_of Rx) (slots o (r1 ∷ b2 ∷ x2 ∷ []) [] 0 d2) ≡ (o % 256) * 2 ^ 24 + (r1 * 16 + x2) * 2 ^ 16 + (b2 * 16 + d2 / 256) * 256 + (d2 % 256)
unfolding number bits layout_of
rx_number o r1 b2 x2 d2 h_o h_r1 h_b2 h_x2 h_d2 = omega arith

pub rx_is : (o r1 b2 x2 d2 : ℕ) (code : List ℕ) → o < 2 ^ 8 → r1 < 2 ^ 4 → b2 < 2 ^ 4 → x2 < 2 ^ 4 → d2 < 2 ^ 12 → code ≡ (o % 256) ∷ (r1 * 16 + x2) ∷ (b2 * 16 + d2 / 256) ∷ (d2 % 256) ∷ [] → IsCode Rx (slots o (r1 ∷ b2 ∷ x2 ∷ []) [] 0 d2) code
unfolding length_of
rx_is o r1 b2 x2 d2 code h_o h_r1 h_b2 h_x2 h_d2 e =
    record {
      fit = fields_from Rx (slots o (r1 ∷ b2 ∷ x2 ∷ []) [] 0 d2) refl (h_o, (h_r1, (h_b2, (h_x2, (lit< tt, (lit< tt, (lit< tt, (lit< tt, (lit< tt, (h_d2, tt))))))))));
      bytes_are = e ∙ sym (four_bytes (number (layout_of Rx) (slots o (r1 ∷ b2 ∷ x2 ∷ []) [] 0 d2)) (o % 256) (r1 * 16 + x2) (b2 * 16 + d2 / 256) (d2 % 256) (omega arith) (omega arith) (omega arith) (omega arith) (rx_number o r1 b2 x2 d2 h_o h_r1 h_b2 h_x2 h_d2));
    }

rxy_number : (o r1 b2 x2 d2 : ℕ) → o < 2 ^ 16 → r1 < 2 ^ 4 → b2 < 2 ^ 4 → x2 < 2 ^ 4 → d2 < 2 ^ 20 →
    number (layout_of Rxy) (slots o (r1 ∷ b2 ∷ x2 ∷ []) [] 0 d2) ≡ (o / 256) * 2 ^ 40 + (r1 * 16 + x2) * 2 ^ 32 + (b2 * 16 + d2 % 4096 / 256) * 2 ^ 24 + (d2 % 256) * 2 ^ 16 + (d2 / 4096) * 256 + (o % 256)
unfolding number bits layout_of
rxy_number o r1 b2 x2 d2 h_o h_r1 h_b2 h_x2 h_d2 = omega arith

pub rxy_is : (o r1 b2 x2 d2 : ℕ) (code : List ℕ) → o < 2 ^ 16 → r1 < 2 ^ 4 → b2 < 2 ^ 4 → x2 < 2 ^ 4 → d2 < 2 ^ 20 → code ≡ (o / 256) ∷ (r1 * 16 + x2) ∷ (b2 * 16 + d2 % 4096 / 256) ∷ (d2 % 256) ∷ (d2 / 4096) ∷ (o % 256) ∷ [] → IsCode Rxy (slots o (r1 ∷ b2 ∷ x2 ∷ []) [] 0 d2) code
unfolding length_of
rxy_is o r1 b2 x2 d2 code h_o h_r1 h_b2 h_x2 h_d2 e =
    record {
      fit = fields_from Rxy (slots o (r1 ∷ b2 ∷ x2 ∷ []) [] 0 d2) refl (h_o, (h_r1, (h_b2, (h_x2, (lit< tt, (lit< tt, (lit< tt, (lit< tt, (lit< tt, (h_d2, tt))))))))));
      bytes_are = e ∙ sym (six_bytes (number (layout_of Rxy) (slots o (r1 ∷ b2 ∷ x2 ∷ []) [] 0 d2)) (o / 256) (r1 * 16 + x2) (b2 * 16 + d2 % 4096 / 256) (d2 % 256) (d2 / 4096) (o % 256) (omega arith) (omega arith) (omega arith) (omega arith) (omega arith) (omega arith) (rxy_number o r1 b2 x2 d2 h_o h_r1 h_b2 h_x2 h_d2));
    }

si_number : (o b1 d1 i2 : ℕ) → o < 2 ^ 8 → b1 < 2 ^ 4 → d1 < 2 ^ 12 → i2 < 2 ^ 8 →
    number (layout_of Si) (slots o (b1 ∷ []) (i2 ∷ []) 0 d1) ≡ (o % 256) * 2 ^ 24 + i2 * 2 ^ 16 + (b1 * 16 + d1 / 256) * 256 + (d1 % 256)
unfolding number bits layout_of
si_number o b1 d1 i2 h_o h_b1 h_d1 h_i2 = omega arith

pub si_is : (o b1 d1 i2 : ℕ) (code : List ℕ) → o < 2 ^ 8 → b1 < 2 ^ 4 → d1 < 2 ^ 12 → i2 < 2 ^ 8 → code ≡ (o % 256) ∷ i2 ∷ (b1 * 16 + d1 / 256) ∷ (d1 % 256) ∷ [] → IsCode Si (slots o (b1 ∷ []) (i2 ∷ []) 0 d1) code
unfolding length_of
si_is o b1 d1 i2 code h_o h_b1 h_d1 h_i2 e =
    record {
      fit = fields_from Si (slots o (b1 ∷ []) (i2 ∷ []) 0 d1) refl (h_o, (h_b1, (lit< tt, (lit< tt, (lit< tt, (h_i2, (lit< tt, (lit< tt, (lit< tt, (h_d1, tt))))))))));
      bytes_are = e ∙ sym (four_bytes (number (layout_of Si) (slots o (b1 ∷ []) (i2 ∷ []) 0 d1)) (o % 256) i2 (b1 * 16 + d1 / 256) (d1 % 256) (omega arith) (omega arith) (omega arith) (omega arith) (si_number o b1 d1 i2 h_o h_b1 h_d1 h_i2));
    }

sil_number : (o b1 d1 h : ℕ) → o < 2 ^ 16 → b1 < 2 ^ 4 → d1 < 2 ^ 12 → h < 2 ^ 16 →
    number (layout_of Sil) (slots o (b1 ∷ []) [] h d1) ≡ (o / 256) * 2 ^ 40 + (o % 256) * 2 ^ 32 + (b1 * 16 + d1 / 256) * 2 ^ 24 + (d1 % 256) * 2 ^ 16 + (h / 256) * 256 + (h % 256)
unfolding number bits layout_of
sil_number o b1 d1 h h_o h_b1 h_d1 h_h = omega arith

pub sil_is : (o b1 d1 h : ℕ) (code : List ℕ) → o < 2 ^ 16 → b1 < 2 ^ 4 → d1 < 2 ^ 12 → h < 2 ^ 16 → code ≡ (o / 256) ∷ (o % 256) ∷ (b1 * 16 + d1 / 256) ∷ (d1 % 256) ∷ (h / 256) ∷ (h % 256) ∷ [] → IsCode Sil (slots o (b1 ∷ []) [] h d1) code
unfolding length_of
sil_is o b1 d1 h code h_o h_b1 h_d1 h_h e =
    record {
      fit = fields_from Sil (slots o (b1 ∷ []) [] h d1) refl (h_o, (h_b1, (lit< tt, (lit< tt, (lit< tt, (lit< tt, (lit< tt, (lit< tt, (h_h, (h_d1, tt))))))))));
      bytes_are = e ∙ sym (six_bytes (number (layout_of Sil) (slots o (b1 ∷ []) [] h d1)) (o / 256) (o % 256) (b1 * 16 + d1 / 256) (d1 % 256) (h / 256) (h % 256) (omega arith) (omega arith) (omega arith) (omega arith) (omega arith) (omega arith) (sil_number o b1 d1 h h_o h_b1 h_d1 h_h));
    }

siy_number : (o b1 d1 i2 : ℕ) → o < 2 ^ 16 → b1 < 2 ^ 4 → d1 < 2 ^ 20 → i2 < 2 ^ 8 →
    number (layout_of Siy) (slots o (b1 ∷ []) (i2 ∷ []) 0 d1) ≡ (o / 256) * 2 ^ 40 + i2 * 2 ^ 32 + (b1 * 16 + d1 % 4096 / 256) * 2 ^ 24 + (d1 % 256) * 2 ^ 16 + (d1 / 4096) * 256 + (o % 256)
unfolding number bits layout_of
siy_number o b1 d1 i2 h_o h_b1 h_d1 h_i2 = omega arith

pub siy_is : (o b1 d1 i2 : ℕ) (code : List ℕ) → o < 2 ^ 16 → b1 < 2 ^ 4 → d1 < 2 ^ 20 → i2 < 2 ^ 8 → code ≡ (o / 256) ∷ i2 ∷ (b1 * 16 + d1 % 4096 / 256) ∷ (d1 % 256) ∷ (d1 / 4096) ∷ (o % 256) ∷ [] → IsCode Siy (slots o (b1 ∷ []) (i2 ∷ []) 0 d1) code
unfolding length_of
siy_is o b1 d1 i2 code h_o h_b1 h_d1 h_i2 e =
    record {
      fit = fields_from Siy (slots o (b1 ∷ []) (i2 ∷ []) 0 d1) refl (h_o, (h_b1, (lit< tt, (lit< tt, (lit< tt, (h_i2, (lit< tt, (lit< tt, (lit< tt, (h_d1, tt))))))))));
      bytes_are = e ∙ sym (six_bytes (number (layout_of Siy) (slots o (b1 ∷ []) (i2 ∷ []) 0 d1)) (o / 256) i2 (b1 * 16 + d1 % 4096 / 256) (d1 % 256) (d1 / 4096) (o % 256) (omega arith) (omega arith) (omega arith) (omega arith) (omega arith) (omega arith) (siy_number o b1 d1 i2 h_o h_b1 h_d1 h_i2));
    }
