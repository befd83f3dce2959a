-- What isn't told by a row and the letters of its mnemonic, an operand tells.
use Rattle.std.proofs.Common.{◌≡◌, ℕ, ◌-◌, ◌*◌, ◌/◌, ◌%◌, ◌^◌, ◌<◌, Bool, true, false, not, ◌&&◌, ◌||◌, ◌==◌, nat_lt, nat_le, ltb-true, leb-true, eqb-true, eq-eqb, List, [], ◌∷◌, length, get_or, refl, sym, ap, subst, ◌∙◌, arith, inl, inr}
use Rattle.std.specs.Prelude.{slice_index, ◌⊎◌}
use Rattle.std.proofs.lemmas.Bool.{and_parts, or_cases, or_left, or_parts, or_right, not-true}
use Rattle.s390x_format.specs.declared.kind.FormatKind.{FormatKind}
use Rattle.s390x_format.specs.declared.fields.Fields.{Fields}
use Rattle.s390x_format.specs.declared.row.MachineRow.{MachineRow}
use Rattle.s390x_format.specs.declared.row.Allowed.{Allowed}
use Rattle.s390x_format.specs.declared.row.Allowed.TheVariants.{Any, FirstMask, CountMode, ComparedLanes, DoublewordPair, RotateBits, RotateBitsOrTest, BitRange, ReplicatedLane}
use Rattle.s390x_format.specs.Layout.{SlotsFit}
use Rattle.s390x_format.specs.Formats.{layout_of}
use Rattle.s390x_format.specs.Rows.{is_allowed}
use Rattle.s390x_format.specs.View.{fields_of}
use Rattle.s390x_format.specs.Widths.{widths_of}
use Rattle.s390x_format.specs.Fits.{slot_fits}
use Rattle.s390x_disassembler.specs.declared.forms.Operand.{Operand}
use Rattle.s390x_disassembler.specs.declared.forms.Operand.TheVariants.{NonzeroMask, UnnamedMask}
use Rattle.s390x_format.specs.declared.spelling.Suffix.{Suffix}
use Rattle.s390x_format.specs.declared.spelling.Suffix.TheVariants.{Plain, Size, ThirdSize, HalfwordSize, SizeAndCode, Condition, Trap, Jump, Return}
use Rattle.s390x_disassembler.specs.Spelling.{letters_for, letters_of}
use Rattle.s390x_disassembler.specs.Names.{place_in}
use Rattle.s390x_disassembler.specs.Operands.{reads, tells}
use Rattle.s390x_disassembler.specs.Text.{is_written}
use Rattle.s390x_disassembler.specs.Start.{least_of, row_value, told_value, start_value, is_lettered, always_tells, has_unnamed, has_nonzero, is_sized, is_pinned, compares_lanes, has_bit_range, letters_tell, is_told}
use Rattle.s390x_disassembler.proofs.Numbers.{if_no}
use Rattle.s390x_disassembler.proofs.Letters.{size_placed, half_placed, code_placed, jump_placed, return_placed, condition_placed, trap_placed}

or_more : (b x y : Bool) → (x ≡ true → y ≡ true) → (b || x) ≡ true → (b || y) ≡ true
or_more true x y h e = refl
or_more false x y h e = h e

-- ---- operands that tell a value
always_known : (letters : List ℕ) (f : Fields) (os : List Operand) (k : ℕ) → always_tells os k ≡ true → tells letters f os k ≡ true
always_known letters f [] k e = cc
always_known letters f (NonzeroMask ∷ os) k e = or_right (is_written letters f NonzeroMask && reads NonzeroMask k) (tells letters f os k) (always_known letters f os k e)
always_known letters f (UnnamedMask ∷ os) k e = or_right (is_written letters f UnnamedMask && reads UnnamedMask k) (tells letters f os k) (always_known letters f os k e)
always_known letters f (o ∷ os) k e = or_more (reads o k) _ _ (always_known letters f os k) e

unnamed_known : (letters : List ℕ) (f : Fields) (os : List Operand) → has_unnamed os ≡ true → length letters ≡ 0 → tells letters f os 5 ≡ true
unnamed_known letters f [] e none = cc
unnamed_known letters f (UnnamedMask ∷ os) e none = or_left (is_written letters f UnnamedMask && reads UnnamedMask 5) (tells letters f os 5) (ap (λ (b : Bool). b && true) (eq-eqb (length letters) 0 none))
unnamed_known letters f (o ∷ os) e none = or_right (is_written letters f o && reads o 5) (tells letters f os 5) (unnamed_known letters f os e none)

nonzero_known : (letters : List ℕ) (f : Fields) (os : List Operand) → has_nonzero os ≡ true → (slice_index f.masks 0 == 0) ≡ false → tells letters f os 5 ≡ true
nonzero_known letters f [] e some = cc
nonzero_known letters f (NonzeroMask ∷ os) e some = or_left (is_written letters f NonzeroMask && reads NonzeroMask 5) (tells letters f os 5) (ap (λ (b : Bool). not b && true) some)
nonzero_known letters f (o ∷ os) e some = or_right (is_written letters f o && reads o 5) (tells letters f os 5) (nonzero_known letters f os e some)

-- ---- values that a row tells
told_plain : (s : Suffix) (p k v : ℕ) → not (is_lettered s k) ≡ true → told_value s p k v ≡ v
told_plain Plain p k v e = refl
told_plain ThirdSize p k v e = if_no (k == 7) p v (not-true (k == 7) e)
told_plain Return p k v e = if_no (k == 1) p v (not-true (k == 1) e)
told_plain SizeAndCode p k v e = let n = or_parts (k == 5) (k == 6) (not-true ((k == 5) || (k == 6)) e) in if_no (k == 5) (p % 8) _ n.0 ∙ if_no (k == 6) (p / 8) v n.1
told_plain s p k v e = if_no (k == 5) p v (not-true (k == 5) e)

-- the values of the masks where a row allows one
abbrev IsPinnedAt : MachineRow → List ℕ → ℕ → Type 0
IsPinnedAt row values k = row_value row k ≡ slice_index values k

at_slot : (row : MachineRow) (values : List ℕ) (k slot : ℕ) → (k == slot) ≡ true → IsPinnedAt row values slot → IsPinnedAt row values k
at_slot row values k slot e h = subst (λ (i : ℕ). IsPinnedAt row values i) (sym (eqb-true k slot e)) h

-- a row that allows other values
abbrev with_allowed : MachineRow → Allowed → MachineRow
with_allowed row al = record { format = row.format; opcode = row.opcode; allowed = al; facility = row.facility; semantics = row.semantics }

pinned : (row : MachineRow) (al : Allowed) (values : List ℕ) (k : ℕ) → is_allowed al values ≡ true → is_pinned al k ≡ true → IsPinnedAt (with_allowed row al) values k
pinned from (FirstMask low high) values k h e =
    let row : MachineRow = with_allowed from (FirstMask low high) in
    let p = and_parts (nat_le low (slice_index values 5) && nat_le (slice_index values 5) high && (slice_index values 6 == 0)) (slice_index values 7 == 0) h in
    let q = and_parts (nat_le low (slice_index values 5) && nat_le (slice_index values 5) high) (slice_index values 6 == 0) p.0 in
    let r = and_parts (nat_le low (slice_index values 5)) (nat_le (slice_index values 5) high) q.0 in
    elim (or_cases (((k == 5) && (low == high)) || (k == 6)) (k == 7) e) [
      | inl x ↦ elim (or_cases ((k == 5) && (low == high)) (k == 6) x) [
        | inl y ↦
            let z = and_parts (k == 5) (low == high) y in
            let e5 : low ≡ slice_index values 5 = omega (arith, leb-true low (slice_index values 5) r.0, leb-true (slice_index values 5) high r.1, eqb-true low high z.1) in
            at_slot row values k 5 z.0 e5
        | inr y ↦ at_slot row values k 6 y (sym (eqb-true (slice_index values 6) 0 q.1))
      ]
      | inr x ↦ at_slot row values k 7 x (sym (eqb-true (slice_index values 7) 0 p.1))
    ]
pinned from CountMode values k h e =
    let p = and_parts ((slice_index values 5 == 0) || (slice_index values 5 == 8)) (slice_index values 6 == 0) h in
    at_slot (with_allowed from CountMode) values k 6 e (sym (eqb-true (slice_index values 6) 0 p.1))
pinned from DoublewordPair values k h e =
    let row : MachineRow = with_allowed from DoublewordPair in
    let masks : Bool = (slice_index values 5 == 0) || (slice_index values 5 == 1) || (slice_index values 5 == 4) || (slice_index values 5 == 5) in
    let p = and_parts (masks && (slice_index values 6 == 0)) (slice_index values 7 == 0) h in
    let q = and_parts masks (slice_index values 6 == 0) p.0 in
    elim (or_cases (k == 6) (k == 7) e) [
      | inl x ↦ at_slot row values k 6 x (sym (eqb-true (slice_index values 6) 0 q.1))
      | inr x ↦ at_slot row values k 7 x (sym (eqb-true (slice_index values 7) 0 p.1))
    ]
pinned from al values k h e = cc

-- ---- letters
sized : (al : Allowed) (values : List ℕ) → is_allowed al values ≡ true → is_sized al ≡ true → slice_index values 5 < 5
sized (FirstMask low high) values h e =
    let p = and_parts (nat_le low (slice_index values 5) && nat_le (slice_index values 5) high && (slice_index values 6 == 0)) (slice_index values 7 == 0) h in
    let q = and_parts (nat_le low (slice_index values 5) && nat_le (slice_index values 5) high) (slice_index values 6 == 0) p.0 in
    let r = and_parts (nat_le low (slice_index values 5)) (nat_le (slice_index values 5) high) q.0 in
    omega (arith, leb-true (slice_index values 5) high r.1, leb-true high 4 e)
sized ReplicatedLane values h e = let r = and_parts (nat_lt (slice_index values 5) 4) (nat_lt (slice_index values 8) (2 ^ (4 - slice_index values 5))) h in omega (arith, ltb-true (slice_index values 5) 4 r.0)
sized al values h e = cc

ranged : (al : Allowed) (values : List ℕ) → is_allowed al values ≡ true → has_bit_range al ≡ true → slice_index values 7 < 5
ranged BitRange values h e =
    let p = and_parts (nat_lt (slice_index values 7) 4 && nat_lt (slice_index values 5) (8 * 2 ^ slice_index values 7)) (nat_lt (slice_index values 6) (8 * 2 ^ slice_index values 7)) h in
    let r = and_parts (nat_lt (slice_index values 7) 4) (nat_lt (slice_index values 5) (8 * 2 ^ slice_index values 7)) p.0 in
    omega (arith, ltb-true (slice_index values 7) 4 r.0)
ranged al values h e = cc

record AreLanes (values : List ℕ) : Type 0 where
  size : slice_index values 5 < 5
  code : slice_index values 6 < 2

lanes : (al : Allowed) (values : List ℕ) → is_allowed al values ≡ true → compares_lanes al ≡ true → AreLanes values
lanes ComparedLanes values h e =
    let r = and_parts (nat_le (slice_index values 5) 4) (nat_le (slice_index values 6) 1) h in
    record { size = omega (arith, leb-true (slice_index values 5) 4 r.0); code = omega (arith, leb-true (slice_index values 6) 1 r.1) }
lanes al values h e = cc

-- the value in a slot is known, or an operand tells it
abbrev pub IsKnownAt : MachineRow → Suffix → List ℕ → List Operand → List ℕ → ℕ → ℕ → Type 0
IsKnownAt row s letters os values p k = (start_value row s p k ≡ slice_index values k) ⊎ (tells letters (fields_of row.format values) os k ≡ true)

known_slot : (row : MachineRow) (s : Suffix) (letters : List ℕ) (os : List Operand) (values : List ℕ) (p k slot : ℕ) → (k == slot) ≡ true → IsKnownAt row s letters os values p slot → IsKnownAt row s letters os values p k
known_slot row s letters os values p k slot e h = subst (λ (i : ℕ). IsKnownAt row s letters os values p i) (sym (eqb-true k slot e)) h

-- the place of the letters that are written of the values
abbrev pub written_place : MachineRow → Suffix → List ℕ → ℕ
written_place row s values = place_in (letters_for s) (letters_of s (fields_of row.format values)) % 256

narrow : (kind : FormatKind) (values : List ℕ) (slot : ℕ) → slot < 10 → SlotsFit (layout_of kind) values → (get_or (widths_of kind) slot 0 == 4) ≡ true → slice_index values slot < 16
narrow kind values slot lt fit e = let h : slice_index values slot < 2 ^ 4 = subst (λ (w : ℕ). slice_index values slot < 2 ^ w) (eqb-true _ 4 e) (slot_fits kind values slot lt fit) in omega (arith, h)

by_letters : (row : MachineRow) (s : Suffix) (os : List Operand) (values : List ℕ) (k : ℕ) → SlotsFit (layout_of row.format) values → is_allowed row.allowed values ≡ true → letters_tell row s os k ≡ true
    → IsKnownAt row s (letters_of s (fields_of row.format values)) os values (written_place row s values) k
unfolding letters_of
by_letters row Plain os values k fit h e = cc
by_letters row Size os values k fit h e =
    let p = and_parts (k == 5) (is_sized row.allowed) e in known_slot row Size _ os values _ k 5 p.0 (inl (size_placed (slice_index values 5) (sized row.allowed values h p.1)))
by_letters row HalfwordSize os values k fit h e =
    let p = and_parts (k == 5) (is_sized row.allowed) e in known_slot row HalfwordSize _ os values _ k 5 p.0 (inl (half_placed (slice_index values 5) (sized row.allowed values h p.1)))
by_letters row ThirdSize os values k fit h e =
    let p = and_parts (k == 7) (has_bit_range row.allowed) e in known_slot row ThirdSize _ os values _ k 7 p.0 (inl (size_placed (slice_index values 7) (ranged row.allowed values h p.1)))
by_letters row SizeAndCode os values k fit h e =
    let p = and_parts ((k == 5) || (k == 6)) (compares_lanes row.allowed) e in
    let l = lanes row.allowed values h p.1 in
    let placed = code_placed (slice_index values 5) (slice_index values 6) l.size l.code in
    elim (or_cases (k == 5) (k == 6) p.0) [
      | inl x ↦ known_slot row SizeAndCode _ os values _ k 5 x (inl (ap (λ (n : ℕ). n % 8) placed ∙ omega (arith, l.size)))
      | inr x ↦ known_slot row SizeAndCode _ os values _ k 6 x (inl (ap (λ (n : ℕ). n / 8) placed ∙ omega (arith, l.size)))
    ]
by_letters row Condition os values k fit h e =
    let p = and_parts ((k == 5) && (get_or (widths_of row.format) 5 0 == 4)) (has_unnamed os) e in
    let q = and_parts (k == 5) (get_or (widths_of row.format) 5 0 == 4) p.0 in
    elim (condition_placed (slice_index values 5) (narrow row.format values 5 (omega arith) fit q.1)) [
      | inl x ↦ known_slot row Condition _ os values _ k 5 q.0 (inl x)
      | inr x ↦ known_slot row Condition _ os values _ k 5 q.0 (inr (unnamed_known _ (fields_of row.format values) os p.1 x))
    ]
by_letters row Trap os values k fit h e =
    let p = and_parts ((k == 5) && (get_or (widths_of row.format) 5 0 == 4)) (has_unnamed os) e in
    let q = and_parts (k == 5) (get_or (widths_of row.format) 5 0 == 4) p.0 in
    elim (trap_placed (slice_index values 5) (narrow row.format values 5 (omega arith) fit q.1)) [
      | inl x ↦ known_slot row Trap _ os values _ k 5 q.0 (inl x)
      | inr x ↦ known_slot row Trap _ os values _ k 5 q.0 (inr (unnamed_known _ (fields_of row.format values) os p.1 x))
    ]
by_letters row Jump os values k fit h e =
    let q = and_parts (k == 5) (get_or (widths_of row.format) 5 0 == 4) e in known_slot row Jump _ os values _ k 5 q.0 (inl (jump_placed (slice_index values 5) (narrow row.format values 5 (omega arith) fit q.1)))
by_letters row Return os values k fit h e =
    let q = and_parts (k == 1) (get_or (widths_of row.format) 1 0 == 4) e in known_slot row Return _ os values _ k 1 q.0 (inl (return_placed (slice_index values 1) (narrow row.format values 1 (omega arith) fit q.1)))

-- the first mask is 0, or an operand that is written then tells it
by_nonzero : (row : MachineRow) (s : Suffix) (letters : List ℕ) (os : List Operand) (values : List ℕ) (p : ℕ) → not (is_lettered s 5) ≡ true → least_of row.allowed ≡ 0 → has_nonzero os ≡ true → IsKnownAt row s letters os values p 5
by_nonzero row s letters os values p plain least some = chosen (slice_index values 5 == 0) refl
  where
    chosen : (b : Bool) → (slice_index values 5 == 0) ≡ b → IsKnownAt row s letters os values p 5
    chosen true e = inl (told_plain s p 5 (row_value row 5) plain ∙ least ∙ sym (eqb-true _ 0 e))
    chosen false e = inr (nonzero_known letters (fields_of row.format values) os some e)

by_width : (row : MachineRow) (s : Suffix) (letters : List ℕ) (os : List Operand) (values : List ℕ) (p k : ℕ) → k < 10 → SlotsFit (layout_of row.format) values → not (is_lettered s k) ≡ true → (get_or (widths_of row.format) k 0 == 0) ≡ true → (row_value row k == 0) ≡ true → IsKnownAt row s letters os values p k
by_width row s letters os values p k lt fit plain none zero_is =
    let h : slice_index values k < 2 ^ 0 = subst (λ (w : ℕ). slice_index values k < 2 ^ w) (eqb-true _ 0 none) (slot_fits row.format values k lt fit) in
    let v : row_value row k ≡ slice_index values k = omega (arith, eqb-true (row_value row k) 0 zero_is, h) in
    inl (told_plain s p k (row_value row k) plain ∙ v)

pub told : (row : MachineRow) (s : Suffix) (os : List Operand) (values : List ℕ) (k : ℕ) → k < 10 → SlotsFit (layout_of row.format) values → is_allowed row.allowed values ≡ true → is_told row s os k ≡ true
    → IsKnownAt row s (letters_of s (fields_of row.format values)) os values (written_place row s values) k
told row s os values k lt fit h e = elim (or_cases _ _ e) [
  | inl d ↦ elim (or_cases _ _ d) [
    | inl c ↦ elim (or_cases _ _ c) [
      | inl b ↦ elim (or_cases _ _ b) [
        | inl a ↦ inr (always_known _ (fields_of row.format values) os k a)
        | inr a ↦ by_letters row s os values k fit h a
      ]
      | inr b ↦ let q = and_parts _ _ b in inl (told_plain s _ k (row_value row k) q.0 ∙ pinned row row.allowed values k h q.1)
    ]
    | inr c ↦
        let q = and_parts _ _ c in
        let r = and_parts _ _ q.0 in
        let t = and_parts _ _ r.0 in
        let five : k ≡ 5 = eqb-true k 5 t.1 in
        subst (λ (i : ℕ). IsKnownAt row s (letters_of s (fields_of row.format values)) os values (written_place row s values) i) (sym five)
        (by_nonzero row s _ os values _ (subst (λ (i : ℕ). not (is_lettered s i) ≡ true) five t.0) (eqb-true _ 0 r.1) q.1)
  ]
  | inr d ↦
      let q = and_parts _ _ d in
      let r = and_parts _ _ q.0 in
      by_width row s _ os values _ k lt fit r.0 r.1 q.1
]
