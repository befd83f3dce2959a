-- What a field says when it is read: the target, or the distance that its half stands for.
use Rattle.std.proofs.Common.{◌≡◌, ℕ, suc, ◌*◌, ◌/◌, ◌%◌, ◌^◌, ◌<◌, refl, sym, ap, ◌∙◌, arith}
use Rattle.std.specs.Prelude.{◌+◌, ℤ, pos, negsuc, ◌+ℤ◌, ◌*ℤ◌, ◌-ℤ◌, Bool, true, false, cond, Option, Some, None}
use Rattle.std.specs.Int.{w32, w64, cast_signed, cast_unsigned, from_be_bytes}
use Rattle.std.specs.Int.RustNames.{int_div, int_rem, FitsSigned}
use Rattle.std.proofs.lemmas.Int.{to_z-of_z, ints}
use Rattle.std.proofs.lemmas.Nat.{from_be_bytes-to_be_bytes_4, from_be_bytes-to_be_bytes_8}
use Rattle.s390x_base.specs.declared.ir.ExternalName.{ExternalName}
use Rattle.s390x_base.specs.declared.ir.Reloc.TheVariants.{S390xPCRel32Dbl, S390xPLTRel32Dbl}
use Rattle.s390x_image.specs.Symbols.{Symbols, address_of}
use Rattle.s390x_image.specs.Values.{symbol_value, symbol_distance}
use Rattle.s390x_image.specs.declared.error.LinkError.{LinkError}
use Rattle.s390x_image.specs.declared.error.LinkError.TheVariants.{AddressOverflow, OddSymbol, TooFar}
use Rattle.std.proofs.lemmas.Bool.Decides.{Decides-int_eq}
use Rattle.s390x_image.specs.Fields.{half_field, target_field, address_or_zero}
use Rattle.s390x_image.specs.Causes.{first_link_cause, is_address, is_even, is_signed_word, absolute_cause, half_cause, relative_cause, symbol_cause, reloc_cause}

one_test : (a : Bool) (e : LinkError) → cond a None (Some e) ≡ None → a ≡ true
one_test true e h = refl
one_test false e h = cc

two_tests : (a b : Bool) (e f : LinkError) → cond a (cond b None (Some e)) (Some f) ≡ None → (a ≡ true) × (b ≡ true)
two_tests true true e f h = (refl, refl)
two_tests true false e f h = cc
two_tests false b e f h = cc

second : (o p : Option LinkError) → first_link_cause o p ≡ None → p ≡ None
second None p h = h
second (Some e) p h = cc

twice_half : (z : ℤ) → is_even z ≡ true → pos 2 *ℤ int_div z (pos 2) ≡ z
twice_half (pos n) h =
    let e : n % 2 ≡ 0 = omega (arith, ints, (Decides-int_eq (int_rem (pos n) (pos 2)) (pos 0)).0 h) in
    let f : 2 * (n / 2) ≡ n = omega arith in
    ap pos f
twice_half (negsuc n) h =
    let e : suc n % 2 ≡ 0 = omega (arith, ints, (Decides-int_eq (int_rem (negsuc n) (pos 2)) (pos 0)).0 h) in
    omega (arith, ints)

word_fits : (z : ℤ) → is_signed_word z ≡ true → FitsSigned w32 z
word_fits z h = grind (arith, ints)

word_bits : (z : ℤ) → FitsSigned w32 z → cast_unsigned w32 z < 2 ^ 32
word_bits z h = omega (arith, ints)

-- the word at a relative field, doubled, is the distance
pub relative_round_trip : (target distance : ℤ) → relative_cause target distance ≡ None →
    pos 2 *ℤ cast_signed w32 (from_be_bytes w32 (half_field distance)) ≡ distance
relative_round_trip target distance h =
    let tests = two_tests (is_even distance) (is_signed_word (int_div distance (pos 2))) TooFar OddSymbol (second (absolute_cause (target -ℤ pos 2)) (half_cause distance) h) in
    let fits = word_fits (int_div distance (pos 2)) tests.1 in
    let small : cast_unsigned w32 (int_div distance (pos 2)) < 2 ^ 32 = word_bits (int_div distance (pos 2)) fits in
    ap (λ (n : ℕ). pos 2 *ℤ cast_signed w32 n) (from_be_bytes-to_be_bytes_4 (cast_unsigned w32 (int_div distance (pos 2))) small)
    ∙ ap (λ (z : ℤ). pos 2 *ℤ z) (to_z-of_z w32 (int_div distance (pos 2)) fits)
    ∙ twice_half distance tests.0

address_bits : (z : ℤ) → is_address z ≡ true → cast_unsigned w64 z < 2 ^ 64
address_bits z h = grind (arith, ints)

in_range : (z : ℤ) → is_address z ≡ true → pos (cast_unsigned w64 z) ≡ z
in_range z h = grind (arith, ints)

-- the doubleword at an absolute field is the target
pub absolute_round_trip : (target : ℤ) → absolute_cause target ≡ None → pos (from_be_bytes w64 (target_field target)) ≡ target
absolute_round_trip target h =
    let test = one_test (is_address target) AddressOverflow h in
    let small : cast_unsigned w64 target < 2 ^ 64 = address_bits target test in
    ap pos (from_be_bytes-to_be_bytes_8 (cast_unsigned w64 target) small) ∙ in_range target test

earlier : (o p : Option LinkError) → first_link_cause o p ≡ None → o ≡ None
earlier None p h = refl
earlier (Some e) p h = cc

-- twice a half, from a place on, is a value that a doubleword holds
abbrev pub LeadsTo : (origin half value : ℕ) → Type 0
LeadsTo origin half value = (half < 2 ^ 32) × (value < 2 ^ 64) × (pos origin +ℤ pos 2 *ℤ cast_signed w32 half ≡ pos value)

leads : (base origin address : ℕ) (offset : ℤ) → relative_cause (pos address +ℤ (offset +ℤ pos 2)) (pos address +ℤ (offset +ℤ pos 2) -ℤ pos (base + (origin + 2))) ≡ None →
    LeadsTo (base + origin) (cast_unsigned w32 (int_div (pos address +ℤ offset -ℤ pos (base + origin)) (pos 2))) (cast_unsigned w64 (pos address +ℤ offset))
leads base origin address offset h =
    let sum : ℤ = pos address +ℤ (offset +ℤ pos 2) in
    let far : ℤ = sum -ℤ pos (base + (origin + 2)) in
    let target : ℤ = pos address +ℤ offset in
    let distance : ℤ = target -ℤ pos (base + origin) in
    let as_far : far ≡ distance = omega (arith, ints) in
    let at : sum -ℤ pos 2 ≡ target = omega (arith, ints) in
    let test : is_address target ≡ true = ap is_address (sym at) ∙ one_test (is_address (sum -ℤ pos 2)) AddressOverflow (earlier (absolute_cause (sum -ℤ pos 2)) (half_cause far) h) in
    let tests = two_tests (is_even distance) (is_signed_word (int_div distance (pos 2))) TooFar OddSymbol (ap half_cause (sym as_far) ∙ second (absolute_cause (sum -ℤ pos 2)) (half_cause far) h) in
    let fits = word_fits (int_div distance (pos 2)) tests.1 in
    let whole : pos (cast_unsigned w64 target) ≡ target = in_range target test in
    let back : pos 2 *ℤ cast_signed w32 (cast_unsigned w32 (int_div distance (pos 2))) ≡ distance = ap (λ (z : ℤ). pos 2 *ℤ z) (to_z-of_z w32 (int_div distance (pos 2)) fits) ∙ twice_half distance tests.0 in
    let there : pos (base + origin) +ℤ distance ≡ target = omega (arith, ints) in
    (word_bits (int_div distance (pos 2)) fits, address_bits target test, ap (λ (z : ℤ). pos (base + origin) +ℤ z) back ∙ there ∙ sym whole)

leads_from : (base : ℕ) (origin : ℕ) (name : ExternalName) (offset : ℤ) (o : Option ℕ) → symbol_cause base (record { offset = origin + 2; kind = S390xPCRel32Dbl; name = name; addend = offset +ℤ pos 2 }) o ≡ None →
    LeadsTo (base + origin) (cast_unsigned w32 (int_div (pos (address_or_zero o) +ℤ offset -ℤ pos (base + origin)) (pos 2))) (cast_unsigned w64 (pos (address_or_zero o) +ℤ offset))
leads_from base origin name offset None h = cc
leads_from base origin name offset (Some address) h = leads base origin address offset h

-- where the field can be filled that stands two bytes behind an instruction's beginning, its distance leads from there to the symbol plus the offset
pub distance_leads : (base : ℕ) (table : Symbols) (origin : ℕ) (name : ExternalName) (offset : ℤ) → reloc_cause base table (record { offset = origin + 2; kind = S390xPCRel32Dbl; name = name; addend = offset +ℤ pos 2 }) ≡ None →
    LeadsTo (base + origin) (symbol_distance base table origin name offset) (symbol_value table name offset)
distance_leads base table origin name offset h = leads_from base origin name offset (address_of table name) h

call_leads_from : (base : ℕ) (origin : ℕ) (name : ExternalName) (o : Option ℕ) → symbol_cause base (record { offset = origin + 2; kind = S390xPLTRel32Dbl; name = name; addend = pos 2 }) o ≡ None →
    LeadsTo (base + origin) (cast_unsigned w32 (int_div (pos (address_or_zero o) +ℤ pos 0 -ℤ pos (base + origin)) (pos 2))) (cast_unsigned w64 (pos (address_or_zero o) +ℤ pos 0))
call_leads_from base origin name None h = cc
call_leads_from base origin name (Some address) h = leads base origin address (pos 0) h

-- the same of a call's field
pub call_leads : (base : ℕ) (table : Symbols) (origin : ℕ) (name : ExternalName) → reloc_cause base table (record { offset = origin + 2; kind = S390xPLTRel32Dbl; name = name; addend = pos 2 }) ≡ None →
    LeadsTo (base + origin) (symbol_distance base table origin name (pos 0)) (symbol_value table name (pos 0))
call_leads base table origin name h = call_leads_from base origin name (address_of table name) h
