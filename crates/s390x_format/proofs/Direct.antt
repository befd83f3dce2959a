-- What a number has in the slots of the most frequent formats.
use Rattle.std.proofs.Common.{◌≡◌, ℕ, zero, suc, ◌+◌, ◌*◌, ◌/◌, ◌%◌, ◌<◌, [], ◌∷◌, slice_index, Bool, true, false, ◌&&◌, ◌==◌, refl, arith}
use Rattle.s390x_format.specs.declared.kind.FormatKind.TheVariants.{RiA, RiB, RiC, RilA, RilB, RilC, Rr, Rre, RrfAb, RrfCde, Rx, Rxy, VrrC, Vrx}
use Rattle.s390x_format.specs.Layout.{bits, field, zero_bits}
use Rattle.s390x_format.specs.Formats.{layout_of}

pub ri_a : (n k : ℕ) → k < 10 → slice_index ((n / 16777216 % 256 * 16 + n / 65536 % 16) ∷ (n / 1048576 % 16) ∷ 0 ∷ 0 ∷ 0 ∷ 0 ∷ 0 ∷ 0 ∷ (n % 65536) ∷ 0 ∷ []) k ≡ field (layout_of RiA) n k
unfolding field bits layout_of
ri_a n (suc (suc (suc (suc (suc (suc (suc (suc (suc (suc k)))))))))) lt = absurd (omega arith)
ri_a n k lt = omega arith

pub ri_b : (n k : ℕ) → k < 10 → slice_index ((n / 16777216 % 256 * 16 + n / 65536 % 16) ∷ (n / 1048576 % 16) ∷ 0 ∷ 0 ∷ 0 ∷ 0 ∷ 0 ∷ 0 ∷ (n % 65536) ∷ 0 ∷ []) k ≡ field (layout_of RiB) n k
unfolding field bits layout_of
ri_b n (suc (suc (suc (suc (suc (suc (suc (suc (suc (suc k)))))))))) lt = absurd (omega arith)
ri_b n k lt = omega arith

pub ri_c : (n k : ℕ) → k < 10 → slice_index ((n / 16777216 % 256 * 16 + n / 65536 % 16) ∷ 0 ∷ 0 ∷ 0 ∷ 0 ∷ (n / 1048576 % 16) ∷ 0 ∷ 0 ∷ (n % 65536) ∷ 0 ∷ []) k ≡ field (layout_of RiC) n k
unfolding field bits layout_of
ri_c n (suc (suc (suc (suc (suc (suc (suc (suc (suc (suc k)))))))))) lt = absurd (omega arith)
ri_c n k lt = omega arith

pub ril_a : (n k : ℕ) → k < 10 → slice_index ((n / 1099511627776 % 256 * 16 + n / 4294967296 % 16) ∷ (n / 68719476736 % 16) ∷ 0 ∷ 0 ∷ 0 ∷ 0 ∷ 0 ∷ 0 ∷ (n % 4294967296) ∷ 0 ∷ []) k ≡ field (layout_of RilA) n k
unfolding field bits layout_of
ril_a n (suc (suc (suc (suc (suc (suc (suc (suc (suc (suc k)))))))))) lt = absurd (omega arith)
ril_a n k lt = omega arith

pub ril_b : (n k : ℕ) → k < 10 → slice_index ((n / 1099511627776 % 256 * 16 + n / 4294967296 % 16) ∷ (n / 68719476736 % 16) ∷ 0 ∷ 0 ∷ 0 ∷ 0 ∷ 0 ∷ 0 ∷ (n % 4294967296) ∷ 0 ∷ []) k ≡ field (layout_of RilB) n k
unfolding field bits layout_of
ril_b n (suc (suc (suc (suc (suc (suc (suc (suc (suc (suc k)))))))))) lt = absurd (omega arith)
ril_b n k lt = omega arith

pub ril_c : (n k : ℕ) → k < 10 → slice_index ((n / 1099511627776 % 256 * 16 + n / 4294967296 % 16) ∷ 0 ∷ 0 ∷ 0 ∷ 0 ∷ (n / 68719476736 % 16) ∷ 0 ∷ 0 ∷ (n % 4294967296) ∷ 0 ∷ []) k ≡ field (layout_of RilC) n k
unfolding field bits layout_of
ril_c n (suc (suc (suc (suc (suc (suc (suc (suc (suc (suc k)))))))))) lt = absurd (omega arith)
ril_c n k lt = omega arith

pub rr : (n k : ℕ) → k < 10 → slice_index ((n / 256 % 256) ∷ (n / 16 % 16) ∷ (n % 16) ∷ 0 ∷ 0 ∷ 0 ∷ 0 ∷ 0 ∷ 0 ∷ 0 ∷ []) k ≡ field (layout_of Rr) n k
unfolding field bits layout_of
rr n (suc (suc (suc (suc (suc (suc (suc (suc (suc (suc k)))))))))) lt = absurd (omega arith)
rr n k lt = omega arith

pub rre : (n k : ℕ) → k < 10 → slice_index ((n / 65536 % 65536) ∷ (n / 16 % 16) ∷ (n % 16) ∷ 0 ∷ 0 ∷ 0 ∷ 0 ∷ 0 ∷ 0 ∷ 0 ∷ []) k ≡ field (layout_of Rre) n k
unfolding field bits layout_of
rre n (suc (suc (suc (suc (suc (suc (suc (suc (suc (suc k)))))))))) lt = absurd (omega arith)
rre n k lt = omega arith

pub rrf_ab : (n k : ℕ) → k < 10 → slice_index ((n / 65536 % 65536) ∷ (n / 16 % 16) ∷ (n % 16) ∷ (n / 4096 % 16) ∷ 0 ∷ (n / 256 % 16) ∷ 0 ∷ 0 ∷ 0 ∷ 0 ∷ []) k ≡ field (layout_of RrfAb) n k
unfolding field bits layout_of
rrf_ab n (suc (suc (suc (suc (suc (suc (suc (suc (suc (suc k)))))))))) lt = absurd (omega arith)
rrf_ab n k lt = omega arith

pub rrf_cde : (n k : ℕ) → k < 10 → slice_index ((n / 65536 % 65536) ∷ (n / 16 % 16) ∷ (n % 16) ∷ 0 ∷ 0 ∷ (n / 4096 % 16) ∷ (n / 256 % 16) ∷ 0 ∷ 0 ∷ 0 ∷ []) k ≡ field (layout_of RrfCde) n k
unfolding field bits layout_of
rrf_cde n (suc (suc (suc (suc (suc (suc (suc (suc (suc (suc k)))))))))) lt = absurd (omega arith)
rrf_cde n k lt = omega arith

pub rx : (n k : ℕ) → k < 10 → slice_index ((n / 16777216 % 256) ∷ (n / 1048576 % 16) ∷ (n / 4096 % 16) ∷ (n / 65536 % 16) ∷ 0 ∷ 0 ∷ 0 ∷ 0 ∷ 0 ∷ (n % 4096) ∷ []) k ≡ field (layout_of Rx) n k
unfolding field bits layout_of
rx n (suc (suc (suc (suc (suc (suc (suc (suc (suc (suc k)))))))))) lt = absurd (omega arith)
rx n k lt = omega arith

pub rxy : (n k : ℕ) → k < 10 → slice_index ((n / 1099511627776 % 256 * 256 + n % 256) ∷ (n / 68719476736 % 16) ∷ (n / 268435456 % 16) ∷ (n / 4294967296 % 16) ∷ 0 ∷ 0 ∷ 0 ∷ 0 ∷ 0 ∷ (n / 65536 % 4096 + n / 256 % 256 * 4096) ∷ []) k ≡ field (layout_of Rxy) n k
unfolding field bits layout_of
rxy n (suc (suc (suc (suc (suc (suc (suc (suc (suc (suc k)))))))))) lt = absurd (omega arith)
rxy n k lt = omega arith

pub vrr_c : (n k : ℕ) → k < 10 → slice_index ((n / 1099511627776 % 256 * 256 + n % 256) ∷ (n / 68719476736 % 16 + n / 2048 % 2 * 16) ∷ (n / 4294967296 % 16 + n / 1024 % 2 * 16) ∷ (n / 268435456 % 16 + n / 512 % 2 * 16) ∷ 0 ∷ (n / 4096 % 16) ∷ (n / 65536 % 16) ∷ (n / 1048576 % 16) ∷ 0 ∷ 0 ∷ []) k ≡ field (layout_of VrrC) n k
unfolding field bits layout_of
vrr_c n (suc (suc (suc (suc (suc (suc (suc (suc (suc (suc k)))))))))) lt = absurd (omega arith)
vrr_c n k lt = omega arith

pub vrx : (n k : ℕ) → k < 10 → slice_index ((n / 1099511627776 % 256 * 256 + n % 256) ∷ (n / 68719476736 % 16 + n / 2048 % 2 * 16) ∷ (n / 268435456 % 16) ∷ (n / 4294967296 % 16) ∷ 0 ∷ (n / 4096 % 16) ∷ 0 ∷ 0 ∷ 0 ∷ (n / 65536 % 4096) ∷ []) k ≡ field (layout_of Vrx) n k
unfolding field bits layout_of
vrx n (suc (suc (suc (suc (suc (suc (suc (suc (suc (suc k)))))))))) lt = absurd (omega arith)
vrx n k lt = omega arith

-- ---- the bits of no field

last_true : (b : Bool) → b ≡ (b && true)
last_true true = refl
last_true false = refl

two_zeros : (x y : ℕ) → (x + y == 0) ≡ ((x == 0) && ((y == 0) && true))
two_zeros x y = grind arith

three_zeros : (x a b c : ℕ) → x ≡ 4 * a + 2 * b + c → (x == 0) ≡ ((a == 0) && ((b == 0) && ((c == 0) && true)))
three_zeros x a b c e = grind (arith, e)

pub rre_zeros : (n : ℕ) → (n / 256 % 256 == 0) ≡ zero_bits (layout_of Rre) n
unfolding zero_bits bits layout_of
rre_zeros n = last_true (n / 256 % 256 == 0)

pub vrr_c_zeros : (n : ℕ) → (n / 16777216 % 16 + n / 256 % 2 == 0) ≡ zero_bits (layout_of VrrC) n
unfolding zero_bits bits layout_of
vrr_c_zeros n = two_zeros (n / 16777216 % 16) (n / 256 % 2)

pub vrx_zeros : (n : ℕ) → (n / 256 % 8 == 0) ≡ zero_bits (layout_of Vrx) n
unfolding zero_bits bits layout_of
vrx_zeros n = three_zeros (n / 256 % 8) (n / 1024 % 2) (n / 512 % 2) (n / 256 % 2) (omega arith)

pub no_zeros_ri_a : (n : ℕ) → true ≡ zero_bits (layout_of RiA) n
unfolding zero_bits layout_of
no_zeros_ri_a n = refl

pub no_zeros_ri_b : (n : ℕ) → true ≡ zero_bits (layout_of RiB) n
unfolding zero_bits layout_of
no_zeros_ri_b n = refl

pub no_zeros_ri_c : (n : ℕ) → true ≡ zero_bits (layout_of RiC) n
unfolding zero_bits layout_of
no_zeros_ri_c n = refl

pub no_zeros_ril_a : (n : ℕ) → true ≡ zero_bits (layout_of RilA) n
unfolding zero_bits layout_of
no_zeros_ril_a n = refl

pub no_zeros_ril_b : (n : ℕ) → true ≡ zero_bits (layout_of RilB) n
unfolding zero_bits layout_of
no_zeros_ril_b n = refl

pub no_zeros_ril_c : (n : ℕ) → true ≡ zero_bits (layout_of RilC) n
unfolding zero_bits layout_of
no_zeros_ril_c n = refl

pub no_zeros_rr : (n : ℕ) → true ≡ zero_bits (layout_of Rr) n
unfolding zero_bits layout_of
no_zeros_rr n = refl

pub no_zeros_rrf_ab : (n : ℕ) → true ≡ zero_bits (layout_of RrfAb) n
unfolding zero_bits layout_of
no_zeros_rrf_ab n = refl

pub no_zeros_rrf_cde : (n : ℕ) → true ≡ zero_bits (layout_of RrfCde) n
unfolding zero_bits layout_of
no_zeros_rrf_cde n = refl

pub no_zeros_rx : (n : ℕ) → true ≡ zero_bits (layout_of Rx) n
unfolding zero_bits layout_of
no_zeros_rx n = refl

pub no_zeros_rxy : (n : ℕ) → true ≡ zero_bits (layout_of Rxy) n
unfolding zero_bits layout_of
no_zeros_rxy n = refl
