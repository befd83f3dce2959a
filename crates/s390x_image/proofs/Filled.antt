-- Filling leaves the length, and every byte outside the fields; a field stands until a later one fills its bytes.
use Rattle.std.proofs.Common.{◌≡◌, ℕ, ◌+◌, ◌-◌, ◌<◌, ◌≤◌, List, [], ◌∷◌, ◌++◌, length, take, drop, get_or, refl, ◌∙◌, ap, inl, inr, arith, ◌⊎◌, ℤ, length-append, length-take, length-drop}
use Rattle.std.proofs.lemmas.List.{get_or-take, get_or-drop, get_or-append_right, get_or_append_left}
use Rattle.std.proofs.lemmas.List.Elements.{All-head, All-tail}
use Rattle.std.specs.List.{All}
use Rattle.s390x_base.specs.declared.ir.Reloc.{Reloc}
use Rattle.s390x_base.specs.declared.ir.Reloc.TheVariants.{S390xPCRel32Dbl, S390xPLTRel32Dbl, Abs8}
use Rattle.s390x_buffer.specs.declared.entries.RelocEntry.{RelocEntry}
use Rattle.s390x_image.specs.Symbols.{Symbols, address_of}
use Rattle.s390x_image.specs.Fields.{field_length, field_of, target_of, field_distance, field_bytes, address_or_zero, LiesIn, IsOutside, with_bytes_at, fill, with_fields_filled}

pub length-field : (kind : Reloc) (target distance : ℤ) → length (field_of kind target distance) ≡ field_length kind
length-field S390xPCRel32Dbl target distance = refl
length-field S390xPLTRel32Dbl target distance = refl
length-field Abs8 target distance = refl

pub length-stored : (bytes : List ℕ) (at : ℕ) (field_bytes : List ℕ) → at + length field_bytes ≤ length bytes → length (with_bytes_at bytes at field_bytes) ≡ length bytes
length-stored bytes at field_bytes h = omega (arith, length-append (take at bytes) (field_bytes ++ drop (at + length field_bytes) bytes), length-append field_bytes (drop (at + length field_bytes) bytes), length-take at bytes, length-drop (at + length field_bytes) bytes)

before : (bytes : List ℕ) (at : ℕ) (rest : List ℕ) (k : ℕ) → at ≤ length bytes → k < at → get_or (take at bytes ++ rest) k 0 ≡ get_or bytes k 0
before bytes at rest k h lt =
    let in_front : k < length (take at bytes) = omega (arith, length-take at bytes) in
    get_or_append_left (take at bytes) rest 0 k in_front ∙ get_or-take at bytes k 0 lt

behind : (bytes : List ℕ) (at : ℕ) (field_bytes : List ℕ) (k : ℕ) → at + length field_bytes ≤ length bytes → at + length field_bytes ≤ k → get_or (with_bytes_at bytes at field_bytes) k 0 ≡ get_or bytes k 0
behind bytes at field_bytes k h le =
    let front : length (take at bytes) ≡ at = omega (arith, length-take at bytes) in
    let past : at ≤ k = omega arith in
    let past_field : length field_bytes ≤ k - at = omega arith in
    let place : at + length field_bytes + (k - at - length field_bytes) ≡ k = omega arith in
    get_or-append_right (take at bytes) (field_bytes ++ drop (at + length field_bytes) bytes) at k 0 front past
    ∙ get_or-append_right field_bytes (drop (at + length field_bytes) bytes) (length field_bytes) (k - at) 0 refl past_field
    ∙ get_or-drop (at + length field_bytes) bytes (k - at - length field_bytes) 0
    ∙ ap (λ (i : ℕ). get_or bytes i 0) place

pub stored-outside : (bytes : List ℕ) (at : ℕ) (field_bytes : List ℕ) (k : ℕ) → at + length field_bytes ≤ length bytes → (k < at) ⊎ (at + length field_bytes ≤ k) →
    get_or (with_bytes_at bytes at field_bytes) k 0 ≡ get_or bytes k 0
stored-outside bytes at field_bytes k h (inl lt) = let le : at ≤ length bytes = omega arith in before bytes at (field_bytes ++ drop (at + length field_bytes) bytes) k le lt
stored-outside bytes at field_bytes k h (inr le) = behind bytes at field_bytes k h le

pub stored-inside : (bytes : List ℕ) (at : ℕ) (field_bytes : List ℕ) (j : ℕ) → at ≤ length bytes → j < length field_bytes → get_or (with_bytes_at bytes at field_bytes) (at + j) 0 ≡ get_or field_bytes j 0
stored-inside bytes at field_bytes j h lt =
    let front : length (take at bytes) ≡ at = omega (arith, length-take at bytes) in
    let past : at ≤ at + j = omega arith in
    let place : at + j - at ≡ j = omega arith in
    get_or-append_right (take at bytes) (field_bytes ++ drop (at + length field_bytes) bytes) at (at + j) 0 front past
    ∙ ap (λ (i : ℕ). get_or (field_bytes ++ drop (at + length field_bytes) bytes) i 0) place
    ∙ get_or_append_left field_bytes (drop (at + length field_bytes) bytes) 0 j lt

module _ (base : ℕ) (table : Symbols) where
  pub length-fill : (symbol : ℕ) (r : RelocEntry) (bytes : List ℕ) → LiesIn (length bytes) r → length (fill base symbol r bytes) ≡ length bytes
  length-fill symbol r bytes h =
      let size = length-field r.kind (target_of symbol r) (field_distance base symbol r) in
      length-stored bytes r.offset (field_of r.kind (target_of symbol r) (field_distance base symbol r)) (omega arith)

  pub fill-outside : (symbol : ℕ) (r : RelocEntry) (bytes : List ℕ) (k : ℕ) → LiesIn (length bytes) r → IsOutside k r →
      get_or (fill base symbol r bytes) k 0 ≡ get_or bytes k 0
  fill-outside symbol r bytes k h (inl lt) =
      let size = length-field r.kind (target_of symbol r) (field_distance base symbol r) in
      stored-outside bytes r.offset (field_of r.kind (target_of symbol r) (field_distance base symbol r)) k (omega arith) (inl lt)
  fill-outside symbol r bytes k h (inr le) =
      let size = length-field r.kind (target_of symbol r) (field_distance base symbol r) in
      stored-outside bytes r.offset (field_of r.kind (target_of symbol r) (field_distance base symbol r)) k (omega arith) (inr (omega arith))

  pub length-filled : (rs : List RelocEntry) (bytes : List ℕ) → All (LiesIn (length bytes)) rs → length (with_fields_filled base table rs bytes) ≡ length bytes
  length-filled [] bytes h = refl
  length-filled (r ∷ rs) bytes h =
      let symbol = address_or_zero (address_of table r.name) in
      let e = length-fill symbol r bytes (All-head (LiesIn (length bytes)) r rs h) in
      length-filled rs (fill base symbol r bytes) (rw e (All-tail (LiesIn (length bytes)) r rs h)) ∙ e

  pub filled-outside : (rs : List RelocEntry) (bytes : List ℕ) (k : ℕ) → All (LiesIn (length bytes)) rs → All (IsOutside k) rs →
      get_or (with_fields_filled base table rs bytes) k 0 ≡ get_or bytes k 0
  filled-outside [] bytes k h out = refl
  filled-outside (r ∷ rs) bytes k h out =
      let symbol = address_or_zero (address_of table r.name) in
      let here = All-head (LiesIn (length bytes)) r rs h in
      let e = length-fill symbol r bytes here in
      filled-outside rs (fill base symbol r bytes) k (rw e (All-tail (LiesIn (length bytes)) r rs h)) (All-tail (IsOutside k) r rs out)
      ∙ fill-outside symbol r bytes k here (All-head (IsOutside k) r rs out)

  pub filled-field : (xs : List RelocEntry) (r : RelocEntry) (ys : List RelocEntry) (bytes : List ℕ) (j : ℕ) → All (LiesIn (length bytes)) (xs ++ r ∷ ys) →
      j < field_length r.kind → All (IsOutside (r.offset + j)) ys →
      get_or (with_fields_filled base table (xs ++ r ∷ ys) bytes) (r.offset + j) 0 ≡ get_or (field_bytes base table r) j 0
  filled-field [] r ys bytes j h lt out =
      let symbol = address_or_zero (address_of table r.name) in
      let here = All-head (LiesIn (length bytes)) r ys h in
      let e = length-fill symbol r bytes here in
      let size = length-field r.kind (target_of symbol r) (field_distance base symbol r) in
      filled-outside ys (fill base symbol r bytes) (r.offset + j) (rw e (All-tail (LiesIn (length bytes)) r ys h)) out
      ∙ stored-inside bytes r.offset (field_of r.kind (target_of symbol r) (field_distance base symbol r)) j (omega arith) (omega arith)
  filled-field (x ∷ xs) r ys bytes j h lt out =
      let symbol = address_or_zero (address_of table x.name) in
      let e = length-fill symbol x bytes (All-head (LiesIn (length bytes)) x (xs ++ r ∷ ys) h) in
      filled-field xs r ys (fill base symbol x bytes) j (rw e (All-tail (LiesIn (length bytes)) x (xs ++ r ∷ ys) h)) lt out
