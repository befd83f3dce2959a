-- Bytes and starting values in hex, and facilities: reading gives back what was printed.
use Rattle.std.proofs.Common.{◌≡◌, ℕ, zero, suc, ◌+◌, ◌*◌, ◌/◌, ◌%◌, ◌^◌, ◌<◌, ◌≤◌, Bool, true, false, List, [], ◌∷◌, ◌++◌, refl, ap, ◌∙◌, arith}
use Rattle.std.specs.Prelude.{◌==◌, codes, slice_index}
use Rattle.std.specs.Str.{bytes_eq}
use Rattle.std.proofs.lemmas.Bool.{or_parts}
use Rattle.std.proofs.lemmas.Nat.{pow-add}
use Rattle.std.proofs.Math.Pow.{pow_mono}
use Rattle.hex.specs.Hex.{encode_lower, encode_with, IsBytes, lower_digits}
use Rattle.hex.proofs.HexLemmas.{decode_of-encode_lower}
use Rattle.s390x_base.specs.declared.regs.RegClass.{RegClass}
use Rattle.s390x_base.specs.declared.regs.RegClass.TheVariants.{Int, Float}
use Rattle.s390x_inst.specs.declared.state.IsaFlags.{IsaFlags}
use Rattle.s390x_job_fields.specs.Marks.{among, word, after_word}
use Rattle.s390x_job_fields.specs.Bytes.{bytes_text, bytes_of_text, decoded_bytes, digits_text, vector_text, digit_of, hex_from, value_text, value_limit, value_of, facility_text, facilities_text, facilities_of}
use Rattle.s390x_job_fields.proofs.Avoids.{Avoids, Avoids-test, Avoids-append, marks, IsOneWord}
use Rattle.s390x_job_fields.proofs.Digits.{decimal-round_trip, decimal-one_word, small_mod}

-- hex digits
hex_digit_one_word : (d : ℕ) → d < 16 → among (slice_index lower_digits d) (45 ∷ marks) ≡ false
hex_digit_one_word (suc (suc (suc (suc (suc (suc (suc (suc (suc (suc (suc (suc (suc (suc (suc (suc d)))))))))))))))) h = absurd (omega arith)
hex_digit_one_word d h = refl

digit_round_trip : (d : ℕ) → d < 16 → digit_of (slice_index lower_digits d) ≡ d
digit_round_trip (suc (suc (suc (suc (suc (suc (suc (suc (suc (suc (suc (suc (suc (suc (suc (suc d)))))))))))))))) h = absurd (omega arith)
digit_round_trip d h = refl

power : (k : ℕ) → 2 ^ (4 * suc k) ≡ 16 * 2 ^ (4 * k)
power k = let e : 4 * suc k ≡ 4 + 4 * k = omega arith in ap (λ n. 2 ^ n) e ∙ pow-add 2 4 (4 * k)

powers : (n : ℕ) → n ≤ 128 → 2 ^ n ≤ 2 ^ 128
powers n h = pow_mono h

-- no mark and no `-` stands in bytes
encode_avoids : (bs : List ℕ) → IsBytes bs → Avoids (45 ∷ marks) (encode_lower bs)
unfolding encode_with
encode_avoids [] h = tt
encode_avoids (b ∷ bs) h =
    let s : b < 256 = h 0 in
    (hex_digit_one_word (b / 16) (omega arith), (hex_digit_one_word (b % 16) (omega arith), encode_avoids bs (λ i. h (suc i))))

fewer_marks : (s : List ℕ) → Avoids (45 ∷ marks) s → IsOneWord s
fewer_marks [] h = tt
fewer_marks (x ∷ s) h = ((or_parts (x == 45) (among x marks) h.0).1, fewer_marks s h.1)

pub bytes-one_word : (bs : List ℕ) → IsBytes bs → IsOneWord (bytes_text bs)
bytes-one_word [] h = (refl, tt)
bytes-one_word (b ∷ bs) h = fewer_marks (encode_lower (b ∷ bs)) (encode_avoids (b ∷ bs) h)

no_dash : (b : ℕ) (bs : List ℕ) → IsBytes (b ∷ bs) → bytes_eq (encode_lower (b ∷ bs)) (codes "-") ≡ false
unfolding encode_with
no_dash b bs h =
    let s : b < 256 = h 0 in
    let d = hex_digit_one_word (b / 16) (omega arith) in
    let e = or_parts (slice_index lower_digits (b / 16) == 45) (among (slice_index lower_digits (b / 16)) marks) d in
    rw e.0 refl

pub bytes-round_trip : (bs : List ℕ) → IsBytes bs → bytes_of_text (bytes_text bs) ≡ bs
bytes-round_trip [] h = refl
bytes-round_trip (b ∷ bs) h = rw (no_dash b bs h) (ap decoded_bytes (decode_of-encode_lower (b ∷ bs) h))

-- numbers in hex
hex_from-append : (xs : List ℕ) (a : ℕ) (ys : List ℕ) → hex_from a (xs ++ ys) ≡ hex_from (hex_from a xs) ys
hex_from-append [] a ys = refl
hex_from-append (x ∷ xs) a ys = hex_from-append xs ((a * 16 + digit_of x) % 2 ^ 128) ys

digits_round_trip : (k v : ℕ) → v < 2 ^ (4 * k) → k ≤ 32 → hex_from 0 (digits_text k v) ≡ v
digits_round_trip zero v h l = omega arith
digits_round_trip (suc k) v h l =
    let p : 2 ^ (4 * suc k) ≡ 16 * 2 ^ (4 * k) = power k in
    let q : v / 16 < 2 ^ (4 * k) = omega arith in
    let b : 2 ^ (4 * suc k) ≤ 2 ^ 128 = powers (4 * suc k) (omega arith) in
    let s : v < 2 ^ 128 = omega arith in
    let e : (v / 16) * 16 + v % 16 ≡ v = omega arith in
    hex_from-append (digits_text k (v / 16)) 0 (slice_index lower_digits (v % 16) ∷ [])
    ∙ rw (digits_round_trip k (v / 16) q (omega arith), digit_round_trip (v % 16) (omega arith), e) (small_mod v (2 ^ 128) s)

digits_avoid : (k v : ℕ) → Avoids (45 ∷ marks) (digits_text k v)
digits_avoid zero v = tt
digits_avoid (suc k) v =
    Avoids-append (45 ∷ marks) (digits_text k (v / 16)) (slice_index lower_digits (v % 16) ∷ []) (digits_avoid k (v / 16)) (hex_digit_one_word (v % 16) (omega arith), tt)

-- a register's starting value
pub value-round_trip : (c : RegClass) (v : ℕ) → v < value_limit c → value_of c (value_text c v) ≡ v
unfolding vector_text
value-round_trip Int v h = decimal-round_trip v h
value-round_trip Float v h = digits_round_trip 32 v h (omega arith)

pub value-one_word : (c : RegClass) (v : ℕ) → v < value_limit c → IsOneWord (value_text c v)
unfolding vector_text
value-one_word Int v h = decimal-one_word v h
value-one_word Float v h = fewer_marks (digits_text 32 v) (digits_avoid 32 v)

-- facilities
made : Bool → Bool → Bool → Bool → Bool → IsaFlags
made a b c d e = record { has_mie3 = a; has_mie4 = b; has_vxrs_ext2 = c; has_vxrs_ext3 = d; no_relative_memory = e }

facilities_round_trip : (a b c d e : Bool) → facilities_of (facilities_text (made a b c d e)) ≡ made a b c d e
unfolding made word after_word
facilities_round_trip true true true true true = refl
facilities_round_trip true true true true false = refl
facilities_round_trip true true true false true = refl
facilities_round_trip true true true false false = refl
facilities_round_trip true true false true true = refl
facilities_round_trip true true false true false = refl
facilities_round_trip true true false false true = refl
facilities_round_trip true true false false false = refl
facilities_round_trip true false true true true = refl
facilities_round_trip true false true true false = refl
facilities_round_trip true false true false true = refl
facilities_round_trip true false true false false = refl
facilities_round_trip true false false true true = refl
facilities_round_trip true false false true false = refl
facilities_round_trip true false false false true = refl
facilities_round_trip true false false false false = refl
facilities_round_trip false true true true true = refl
facilities_round_trip false true true true false = refl
facilities_round_trip false true true false true = refl
facilities_round_trip false true true false false = refl
facilities_round_trip false true false true true = refl
facilities_round_trip false true false true false = refl
facilities_round_trip false true false false true = refl
facilities_round_trip false true false false false = refl
facilities_round_trip false false true true true = refl
facilities_round_trip false false true true false = refl
facilities_round_trip false false true false true = refl
facilities_round_trip false false true false false = refl
facilities_round_trip false false false true true = refl
facilities_round_trip false false false true false = refl
facilities_round_trip false false false false true = refl
facilities_round_trip false false false false false = refl

pub facilities-round_trip : (f : IsaFlags) → facilities_of (facilities_text f) ≡ f
unfolding made
facilities-round_trip f = facilities_round_trip f.has_mie3 f.has_mie4 f.has_vxrs_ext2 f.has_vxrs_ext3 f.no_relative_memory

facility_feed : (b : Bool) (name : List ℕ) → Avoids (10 ∷ []) name → Avoids (10 ∷ []) (facility_text b name)
facility_feed true name h = (refl, h)
facility_feed false name h = tt

pub facilities-feed : (f : IsaFlags) → Avoids (10 ∷ []) (facilities_text f)
facilities-feed f =
    let bad = 10 ∷ [] in
    Avoids-append bad (facility_text f.has_mie3 (codes "mie3")) _ (facility_feed f.has_mie3 (codes "mie3") (Avoids-test bad (codes "mie3") refl))
    (Avoids-append bad (facility_text f.has_mie4 (codes "mie4")) _ (facility_feed f.has_mie4 (codes "mie4") (Avoids-test bad (codes "mie4") refl))
    (Avoids-append bad (facility_text f.has_vxrs_ext2 (codes "vxrs_ext2")) _ (facility_feed f.has_vxrs_ext2 (codes "vxrs_ext2") (Avoids-test bad (codes "vxrs_ext2") refl))
    (Avoids-append bad (facility_text f.has_vxrs_ext3 (codes "vxrs_ext3")) _ (facility_feed f.has_vxrs_ext3 (codes "vxrs_ext3") (Avoids-test bad (codes "vxrs_ext3") refl)) (facility_feed f.no_relative_memory (codes "norel") (Avoids-test bad (codes "norel") refl)))))
