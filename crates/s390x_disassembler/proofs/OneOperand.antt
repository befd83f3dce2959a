-- An operand is read as it is written.
use Rattle.std.proofs.Common.{◌≡◌, ℕ, zero, suc, ◌+◌, ◌-◌, ◌*◌, ◌/◌, ◌%◌, ◌^◌, ◌<◌, ◌≤◌, Bool, true, false, ◌||◌, ◌==◌, nat_lt, lt-ltb, le-ltb, ltb-true, eqb-true, ne_eqb, if◌then◌else◌, List, [], ◌∷◌, ◌++◌, drop, get_or, append_assoc, refl, sym, ap, ap₂, subst, ◌∙◌, arith, inl, inr}
use Rattle.std.specs.Prelude.{slice_index, ℤ, pos, negsuc, ◌-ℤ◌, ◌*ℤ◌}
use Rattle.std.specs.Char.{is_digit}
use Rattle.std.specs.Fmt.{decimal, signed_decimal, digits}
use Rattle.std.specs.Int.{cast_signed, cast_unsigned}
use Rattle.std.proofs.lemmas.Int.{ints, to_z_pos}
use Rattle.std.proofs.lemmas.Bool.{and_parts, cases_lt}
use mir.Syntax.{w16, w32, w64}
use lib.Signed.{mag}
use Rattle.s390x_format.specs.declared.kind.FormatKind.{FormatKind}
use Rattle.s390x_format.specs.declared.fields.Imm.{Imm}
use Rattle.s390x_format.specs.declared.fields.Imm.TheVariants.{Unsigned as ClassUnsigned, Signed16 as ClassSigned16, Half16, Half32}
use Rattle.s390x_format.specs.Layout.{SlotsFit}
use Rattle.s390x_format.specs.Formats.{layout_of}
use Rattle.s390x_format.specs.View.{fields_of, imm_class_of, imm_of, disp_of}
use Rattle.s390x_format.specs.Widths.{widths_of}
use Rattle.s390x_format.specs.Fits.{slot_fits}
use Rattle.s390x_format.proofs.SlotBounds.{slot_below}
use Rattle.s390x_disassembler.specs.declared.forms.Operand.{Operand}
use Rattle.s390x_disassembler.specs.declared.forms.Operand.TheVariants.{General, Float, Vector, Access, Mask, NonzeroMask, UnnamedMask, Unsigned, Signed16, Signed32, Target, Storage, Indexed}
use Rattle.s390x_disassembler.specs.Text.{registers_text, operand_text, register_text, signed_of}
use Rattle.s390x_disassembler.specs.Numbers.{begins_number, number_on, signed_read, signed_left, digits_read, digits_left, IsStop}
use Rattle.s390x_disassembler.specs.Operands.{reads, suits, is_unsigned, is_number, is_distance, half_width, IsSet, IsUpdated, IsEnd, IsRead, AreRegisters}
use Rattle.s390x_disassembler.proofs.Numbers.{IsNumber, NoNumber, integer, hexadecimal, if_yes, if_no}
use Rattle.s390x_disassembler.proofs.Registers.{end_stop, end_stop16, registers_base, registers_both}

-- a separator begins no number
separator_plain : (c : ℕ) → c < 45 → begins_number c ≡ false
separator_plain c lt = ap₂ (λ (d : ℕ) (b : Bool). nat_lt d 10 || b) (if_yes (nat_lt c 48) 36 _ (lt-ltb c 48 (omega arith))) (ne_eqb c 45 (λ e. omega (arith, e, lt)))

same_choice : (b c : Bool) (v w z : ℕ) → c ≡ b → (b ≡ true → v ≡ w) → (if b then v else z) ≡ (if c then w else z)
same_choice true c v w z e h = h refl ∙ sym (if_yes c w z e)
same_choice false c v w z e h = sym (if_no c w z e)

at_slot : (k slot v : ℕ) (s : List ℕ) → v ≡ slice_index s slot → (k == slot) ≡ true → v ≡ slice_index s k
at_slot k slot v s is e = is ∙ ap (λ (i : ℕ). slice_index s i) (sym (eqb-true k slot e))

updated_one : (o : Operand) (slot v : ℕ) (s before after : List ℕ) → ((k : ℕ) → reads o k ≡ (k == slot)) → v ≡ slice_index s slot → IsSet slot v before after → IsUpdated o s before after
updated_one o slot v s before after reads_is is set = λ k lt. set k lt ∙ same_choice (k == slot) (reads o k) v (slice_index s k) (slice_index before k) (reads_is k) (at_slot k slot v s is)

-- the operand is written as a number, of which its value is left
pub record IsInteger (kind : FormatKind) (a : ℕ) (o : Operand) (p : List ℕ) (slot m : ℕ) (s : List ℕ) (z : ℤ) : Type 0 where
  pub text : operand_text a (fields_of kind s) o ≡ p ++ signed_decimal z
  pub small : mag z < 2 ^ 63
  pub value : cast_unsigned w64 z % m ≡ slice_index s slot

integer_read : (kind : FormatKind) (a : ℕ) (o : Operand) (p : List ℕ) (slot m : ℕ) (text before after rest : List ℕ) (z : List ℕ → ℤ) → NoNumber p → ((k : ℕ) → reads o k ≡ (k == slot))
    → ((s : List ℕ) → SlotsFit (layout_of kind) s → suits kind o ≡ true → IsInteger kind a o p slot m s (z s))
    → IsSet slot (signed_read (number_on text) % m) before after → rest ≡ signed_left (number_on text) → IsRead kind a o text before after rest
integer_read kind a o p slot m text before after rest z np reads_is each set is = λ s more sep fit suit low end e.
    let i = each s fit suit in
    let t : text ≡ (sep ∷ p) ++ (signed_decimal (z s) ++ more) = e ∙ ap (λ (u : List ℕ). sep ∷ (u ++ more)) i.text ∙ ap (λ (u : List ℕ). sep ∷ u) (append_assoc p (signed_decimal (z s)) more) in
    let n = integer (sep ∷ p) more (z s) (separator_plain sep low, np) (end_stop more end) i.small in (
      is ∙ ap (λ (u : List ℕ). signed_left (number_on u)) t ∙ n.behind,
      updated_one o slot (signed_read (number_on text) % m) s before after reads_is (ap (λ (u : List ℕ). signed_read (number_on u) % m) t ∙ ap (λ (x : ℕ). x % m) n.value ∙ i.value) set,
    )

-- ---- registers and masks
pub regs_at : (kind : FormatKind) (s : List ℕ) (j : ℕ) → j < 4 → slice_index (fields_of kind s).regs j ≡ slice_index s (1 + j)
regs_at kind s (suc (suc (suc (suc j)))) lt = absurd (omega arith)
regs_at kind s j lt = refl

pub regs_small : (kind : FormatKind) (s : List ℕ) (j : ℕ) → SlotsFit (layout_of kind) s → j < 4 → slice_index s (1 + j) < 2 ^ 8
regs_small kind s zero fit lt = slot_below kind s 1 (omega arith) fit
regs_small kind s (suc zero) fit lt = slot_below kind s 2 (omega arith) fit
regs_small kind s (suc (suc zero)) fit lt = slot_below kind s 3 (omega arith) fit
regs_small kind s (suc (suc (suc zero))) fit lt = slot_below kind s 4 (omega arith) fit
regs_small kind s (suc (suc (suc (suc j)))) fit lt = absurd (omega arith)

pub masks_at : (kind : FormatKind) (s : List ℕ) (j : ℕ) → j < 3 → slice_index (fields_of kind s).masks j ≡ slice_index s (5 + j)
masks_at kind s (suc (suc (suc j))) lt = absurd (omega arith)
masks_at kind s j lt = refl

pub masks_small : (kind : FormatKind) (s : List ℕ) (j : ℕ) → SlotsFit (layout_of kind) s → j < 3 → slice_index s (5 + j) < 2 ^ 8
masks_small kind s zero fit lt = slot_below kind s 5 (omega arith) fit
masks_small kind s (suc zero) fit lt = slot_below kind s 6 (omega arith) fit
masks_small kind s (suc (suc zero)) fit lt = slot_below kind s 7 (omega arith) fit
masks_small kind s (suc (suc (suc j))) fit lt = absurd (omega arith)

pub register_is : (kind : FormatKind) (a : ℕ) (o : Operand) (letter j : ℕ) (s : List ℕ) → SlotsFit (layout_of kind) s → j < 4 → operand_text a (fields_of kind s) o ≡ register_text letter (slice_index (fields_of kind s).regs j)
    → IsInteger kind a o (37 ∷ (letter ∷ [])) (1 + j) (2 ^ 32) s (pos (slice_index s (1 + j)))
register_is kind a o letter j s fit lt e =
    let small = regs_small kind s j fit lt in
    record {
      text = e ∙ ap (λ (n : ℕ). register_text letter n) (regs_at kind s j lt);
      small = omega (arith, small);
      value = omega (arith, small);
    }

pub mask_is : (kind : FormatKind) (a : ℕ) (o : Operand) (j : ℕ) (s : List ℕ) → SlotsFit (layout_of kind) s → j < 3 → operand_text a (fields_of kind s) o ≡ decimal (slice_index (fields_of kind s).masks j)
    → IsInteger kind a o [] (5 + j) (2 ^ 32) s (pos (slice_index s (5 + j)))
mask_is kind a o j s fit lt e =
    let small = masks_small kind s j fit lt in
    record {
      text = e ∙ ap (λ (n : ℕ). decimal n) (masks_at kind s j lt);
      small = omega (arith, small);
      value = omega (arith, small);
    }

pub general_read : (kind : FormatKind) (a j : ℕ) (text before after rest : List ℕ) → IsSet (1 + j) (signed_read (number_on text) % 2 ^ 32) before after → rest ≡ signed_left (number_on text) → IsRead kind a (General j) text before after rest
general_read kind a j text before after rest =
    integer_read kind a (General j) (37 ∷ (114 ∷ [])) (1 + j) (2 ^ 32) text before after rest (λ s. pos (slice_index s (1 + j))) (refl, (refl, tt)) (λ k. refl) (λ s fit suit. register_is kind a (General j) 114 j s fit (ltb-true j 4 suit) refl)

pub float_read : (kind : FormatKind) (a j : ℕ) (text before after rest : List ℕ) → IsSet (1 + j) (signed_read (number_on text) % 2 ^ 32) before after → rest ≡ signed_left (number_on text) → IsRead kind a (Float j) text before after rest
float_read kind a j text before after rest =
    integer_read kind a (Float j) (37 ∷ (102 ∷ [])) (1 + j) (2 ^ 32) text before after rest (λ s. pos (slice_index s (1 + j))) (refl, (refl, tt)) (λ k. refl) (λ s fit suit. register_is kind a (Float j) 102 j s fit (ltb-true j 4 suit) refl)

pub vector_read : (kind : FormatKind) (a j : ℕ) (text before after rest : List ℕ) → IsSet (1 + j) (signed_read (number_on text) % 2 ^ 32) before after → rest ≡ signed_left (number_on text) → IsRead kind a (Vector j) text before after rest
vector_read kind a j text before after rest =
    integer_read kind a (Vector j) (37 ∷ (118 ∷ [])) (1 + j) (2 ^ 32) text before after rest (λ s. pos (slice_index s (1 + j))) (refl, (refl, tt)) (λ k. refl) (λ s fit suit. register_is kind a (Vector j) 118 j s fit (ltb-true j 4 suit) refl)

pub access_read : (kind : FormatKind) (a j : ℕ) (text before after rest : List ℕ) → IsSet (1 + j) (signed_read (number_on text) % 2 ^ 32) before after → rest ≡ signed_left (number_on text) → IsRead kind a (Access j) text before after rest
access_read kind a j text before after rest =
    integer_read kind a (Access j) (37 ∷ (97 ∷ [])) (1 + j) (2 ^ 32) text before after rest (λ s. pos (slice_index s (1 + j))) (refl, (refl, tt)) (λ k. refl) (λ s fit suit. register_is kind a (Access j) 97 j s fit (ltb-true j 4 suit) refl)

pub mask_read : (kind : FormatKind) (a j : ℕ) (text before after rest : List ℕ) → IsSet (5 + j) (signed_read (number_on text) % 2 ^ 32) before after → rest ≡ signed_left (number_on text) → IsRead kind a (Mask j) text before after rest
mask_read kind a j text before after rest =
    integer_read kind a (Mask j) [] (5 + j) (2 ^ 32) text before after rest (λ s. pos (slice_index s (5 + j))) tt (λ k. refl) (λ s fit suit. mask_is kind a (Mask j) j s fit (ltb-true j 3 suit) refl)

pub nonzero_read : (kind : FormatKind) (a : ℕ) (text before after rest : List ℕ) → IsSet 5 (signed_read (number_on text) % 2 ^ 32) before after → rest ≡ signed_left (number_on text) → IsRead kind a NonzeroMask text before after rest
nonzero_read kind a text before after rest =
    integer_read kind a NonzeroMask [] 5 (2 ^ 32) text before after rest (λ s. pos (slice_index s 5)) tt (λ k. refl) (λ s fit suit. mask_is kind a NonzeroMask 0 s fit (omega arith) refl)

pub unnamed_read : (kind : FormatKind) (a : ℕ) (text before after rest : List ℕ) → IsSet 5 (signed_read (number_on text) % 2 ^ 32) before after → rest ≡ signed_left (number_on text) → IsRead kind a UnnamedMask text before after rest
unnamed_read kind a text before after rest =
    integer_read kind a UnnamedMask [] 5 (2 ^ 32) text before after rest (λ s. pos (slice_index s 5)) tt (λ k. refl) (λ s fit suit. mask_is kind a UnnamedMask 0 s fit (omega arith) refl)

-- ---- immediates
imm_plain : (c : Imm) (n : ℕ) → is_unsigned c ≡ true → imm_of c n ≡ pos n
imm_plain ClassUnsigned n e = refl
imm_plain c n e = cc

pub unsigned_is : (kind : FormatKind) (a : ℕ) (s : List ℕ) → SlotsFit (layout_of kind) s → suits kind Unsigned ≡ true → IsInteger kind a Unsigned [] 8 (2 ^ 32) s (pos (slice_index s 8))
unsigned_is kind a s fit suit =
    let small = slot_below kind s 8 (omega arith) fit in
    record { text = ap signed_decimal (imm_plain (imm_class_of kind) (slice_index s 8) suit); small = omega (arith, small); value = omega (arith, small) }

pub unsigned_read : (kind : FormatKind) (a : ℕ) (text before after rest : List ℕ) → IsSet 8 (signed_read (number_on text) % 2 ^ 32) before after → rest ≡ signed_left (number_on text) → IsRead kind a Unsigned text before after rest
unsigned_read kind a text before after rest =
    integer_read kind a Unsigned [] 8 (2 ^ 32) text before after rest (λ s. pos (slice_index s 8)) tt (λ k. refl) (unsigned_is kind a)

-- a number that is negative from half of its range on
pub record IsFolded (m n : ℕ) (z : ℤ) : Type 0 where
  pub small : mag z < 2 ^ 63
  pub value : cast_unsigned w64 z % m ≡ n

folded16 : (n : ℕ) → n < 2 ^ 16 → IsFolded (2 ^ 16) n (signed_of 32768 (pos n))
folded16 n lt = elim (cases_lt n 32768) [
  | inl low ↦ subst (λ (z : ℤ). IsFolded (2 ^ 16) n z) (sym (if_yes (nat_lt n 32768) (pos n) _ (lt-ltb n 32768 low))) (record { small = omega (arith, low); value = omega (arith, low) })
  | inr high ↦
      let e : pos n -ℤ pos 65536 ≡ negsuc (65535 - n) = omega (arith, ints, lt, high) in
      subst (λ (z : ℤ). IsFolded (2 ^ 16) n z) (sym (if_no (nat_lt n 32768) (pos n) _ (le-ltb n 32768 high) ∙ e)) (record { small = omega (arith, lt, high); value = omega (arith, lt, high) })
]

folded32 : (n : ℕ) → n < 2 ^ 32 → IsFolded (2 ^ 32) n (signed_of 2147483648 (pos n))
folded32 n lt = elim (cases_lt n 2147483648) [
  | inl low ↦ subst (λ (z : ℤ). IsFolded (2 ^ 32) n z) (sym (if_yes (nat_lt n 2147483648) (pos n) _ (lt-ltb n 2147483648 low))) (record { small = omega (arith, low); value = omega (arith, low) })
  | inr high ↦
      let e : pos n -ℤ pos 4294967296 ≡ negsuc (4294967295 - n) = omega (arith, ints, lt, high) in
      subst (λ (z : ℤ). IsFolded (2 ^ 32) n z) (sym (if_no (nat_lt n 2147483648) (pos n) _ (le-ltb n 2147483648 high) ∙ e)) (record { small = omega (arith, lt, high); value = omega (arith, lt, high) })
]

pub folded20 : (n : ℕ) → n < 2 ^ 20 → IsFolded (2 ^ 20) n (disp_of n)
folded20 n lt = elim (cases_lt n (2 ^ 19)) [
  | inl low ↦ subst (λ (z : ℤ). IsFolded (2 ^ 20) n z) (sym (if_yes (nat_lt n (2 ^ 19)) (pos n) _ (lt-ltb n (2 ^ 19) low))) (record { small = omega (arith, low); value = omega (arith, low) })
  | inr high ↦
      let e : pos n -ℤ pos (2 ^ 20) ≡ negsuc (1048575 - n) = omega (arith, ints, lt, high) in
      subst (λ (z : ℤ). IsFolded (2 ^ 20) n z) (sym (if_no (nat_lt n (2 ^ 19)) (pos n) _ (le-ltb n (2 ^ 19) high) ∙ e)) (record { small = omega (arith, lt, high); value = omega (arith, lt, high) })
]

signed_high : (n : ℕ) → n < 2 ^ 16 → 32768 ≤ n → cast_signed w16 n ≡ negsuc (65535 - n)
signed_high n lt high = let e : 2 ^ 16 - suc n ≡ 65535 - n = omega (arith, lt) in if_no (nat_lt n 32768) (pos n) (negsuc (2 ^ 16 - suc n)) (le-ltb n 32768 high) ∙ ap negsuc e

-- an immediate of a storage operand stands for the same number
same_signed : (n : ℕ) → n < 2 ^ 16 → signed_of 32768 (cast_signed w16 n) ≡ signed_of 32768 (pos n)
same_signed n lt = elim (cases_lt n 32768) [
  | inl low ↦ ap (signed_of 32768) (to_z_pos w16 n low)
  | inr high ↦
      let e : pos n -ℤ pos 65536 ≡ negsuc (65535 - n) = omega (arith, ints, lt, high) in
      ap (signed_of 32768) (signed_high n lt high) ∙ sym (if_no (nat_lt n 32768) (pos n) _ (le-ltb n 32768 high) ∙ e)
]

imm_signed : (c : Imm) (n : ℕ) → is_number c ≡ true → n < 2 ^ 16 → signed_of 32768 (imm_of c n) ≡ signed_of 32768 (pos n)
imm_signed ClassUnsigned n e lt = refl
imm_signed ClassSigned16 n e lt = let m : n % 2 ^ 16 ≡ n = omega (arith, lt) in ap (λ (x : ℕ). signed_of 32768 (cast_signed w16 x)) m ∙ same_signed n lt
imm_signed Half16 n e lt = cc
imm_signed Half32 n e lt = cc

pub signed16_is : (kind : FormatKind) (a : ℕ) (s : List ℕ) → SlotsFit (layout_of kind) s → suits kind Signed16 ≡ true → IsInteger kind a Signed16 [] 8 (2 ^ 16) s (signed_of 32768 (pos (slice_index s 8)))
signed16_is kind a s fit suit =
    let parts = and_parts (is_number (imm_class_of kind)) (get_or (widths_of kind) 8 0 == 16) suit in
    let small : slice_index s 8 < 2 ^ 16 = subst (λ (w : ℕ). slice_index s 8 < 2 ^ w) (eqb-true _ 16 parts.1) (slot_fits kind s 8 (omega arith) fit) in
    let f = folded16 (slice_index s 8) small in
    record { text = ap signed_decimal (imm_signed (imm_class_of kind) (slice_index s 8) parts.0 small); small = f.small; value = f.value }

pub signed16_read : (kind : FormatKind) (a : ℕ) (text before after rest : List ℕ) → IsSet 8 (signed_read (number_on text) % 2 ^ 16) before after → rest ≡ signed_left (number_on text) → IsRead kind a Signed16 text before after rest
signed16_read kind a text before after rest = integer_read kind a Signed16 [] 8 (2 ^ 16) text before after rest (λ s. signed_of 32768 (pos (slice_index s 8))) tt (λ k. refl) (signed16_is kind a)

pub signed32_is : (kind : FormatKind) (a : ℕ) (s : List ℕ) → SlotsFit (layout_of kind) s → suits kind Signed32 ≡ true → IsInteger kind a Signed32 [] 8 (2 ^ 32) s (signed_of 2147483648 (pos (slice_index s 8)))
signed32_is kind a s fit suit =
    let f = folded32 (slice_index s 8) (slot_below kind s 8 (omega arith) fit) in
    record { text = ap (λ (z : ℤ). signed_decimal (signed_of 2147483648 z)) (imm_plain (imm_class_of kind) (slice_index s 8) suit); small = f.small; value = f.value }

pub signed32_read : (kind : FormatKind) (a : ℕ) (text before after rest : List ℕ) → IsSet 8 (signed_read (number_on text) % 2 ^ 32) before after → rest ≡ signed_left (number_on text) → IsRead kind a Signed32 text before after rest
signed32_read kind a text before after rest = integer_read kind a Signed32 [] 8 (2 ^ 32) text before after rest (λ s. signed_of 2147483648 (pos (slice_index s 8))) tt (λ k. refl) (signed32_is kind a)

-- ---- targets
distance_back : (a d : ℕ) → a < 2 ^ 64 → d < 2 ^ 64 → ((a + d) % 2 ^ 64 + (2 ^ 64 - a)) % 2 ^ 64 ≡ d
distance_back a d ha hd = omega (arith, ha, hd)

-- half of a distance
record IsHalved (w n : ℕ) (z : ℤ) : Type 0 where
  small : cast_unsigned w64 z < 2 ^ 64
  value : cast_unsigned w64 z / 2 % 2 ^ w ≡ n

twice_negative : (k : ℕ) → pos 2 *ℤ negsuc k ≡ negsuc (2 * k + 1)
twice_negative k = omega (arith, ints)

halved16 : (n : ℕ) → n < 2 ^ 16 → IsHalved 16 n (pos 2 *ℤ cast_signed w16 n)
halved16 n lt = elim (cases_lt n 32768) [
  | inl low ↦ subst (λ (z : ℤ). IsHalved 16 n (pos 2 *ℤ z)) (sym (to_z_pos w16 n low)) (record { small = omega (arith, low); value = omega (arith, low) })
  | inr high ↦ subst (λ (z : ℤ). IsHalved 16 n z) (sym (ap (λ (z : ℤ). pos 2 *ℤ z) (signed_high n lt high) ∙ twice_negative (65535 - n))) (record { small = omega (arith, lt, high); value = omega (arith, lt, high) })
]

halved32 : (n : ℕ) → n < 2 ^ 32 → IsHalved 32 n (pos 2 *ℤ cast_signed w32 n)
halved32 n lt = elim (cases_lt n 2147483648) [
  | inl low ↦ subst (λ (z : ℤ). IsHalved 32 n (pos 2 *ℤ z)) (sym (to_z_pos w32 n low)) (record { small = omega (arith, low); value = omega (arith, low) })
  | inr high ↦
      let k : 2 ^ 32 - suc n ≡ 4294967295 - n = omega (arith, lt) in
      let e : cast_signed w32 n ≡ negsuc (4294967295 - n) = if_no (nat_lt n 2147483648) (pos n) (negsuc (2 ^ 32 - suc n)) (le-ltb n 2147483648 high) ∙ ap negsuc k in
      subst (λ (z : ℤ). IsHalved 32 n z) (sym (ap (λ (z : ℤ). pos 2 *ℤ z) e ∙ twice_negative (4294967295 - n))) (record { small = omega (arith, lt, high); value = omega (arith, lt, high) })
]

halved : (c : Imm) (n : ℕ) → is_distance c ≡ true → n < 2 ^ half_width c → IsHalved (half_width c) n (imm_of c n)
halved ClassUnsigned n e lt = cc
halved ClassSigned16 n e lt = cc
halved Half16 n e lt = let m : n % 2 ^ 16 ≡ n = omega (arith, lt) in subst (λ (x : ℕ). IsHalved 16 n (pos 2 *ℤ cast_signed w16 x)) (sym m) (halved16 n lt)
halved Half32 n e lt = halved32 n lt

pub target_read : (kind : FormatKind) (a v : ℕ) (text before after rest : List ℕ) → a < 2 ^ 64 → v ≡ (digits_read 16 0 (drop 3 text) + (2 ^ 64 - a)) % 2 ^ 64 → IsSet 8 (v / 2 % 2 ^ half_width (imm_class_of kind)) before after → rest ≡ digits_left 16 (drop 3 text) → IsRead kind a Target text before after rest
target_read kind a v text before after rest small_a is_v set is = λ s more sep fit suit low end e.
    let parts = and_parts (is_distance (imm_class_of kind)) (get_or (widths_of kind) 8 0 == half_width (imm_class_of kind)) suit in
    let small : slice_index s 8 < 2 ^ half_width (imm_class_of kind) = subst (λ (w : ℕ). slice_index s 8 < 2 ^ w) (eqb-true _ _ parts.1) (slot_fits kind s 8 (omega arith) fit) in
    let h = halved (imm_class_of kind) (slice_index s 8) parts.0 small in
    let d : ℕ = cast_unsigned w64 (fields_of kind s).imm in
    let t : drop 3 text ≡ digits 16 false ((a + d) % 2 ^ 64) ++ more = ap (drop 3) e in
    let x = hexadecimal ((a + d) % 2 ^ 64) more (omega arith) (end_stop16 more end) in
    let back : v ≡ d = is_v ∙ ap (λ (r : ℕ). (r + (2 ^ 64 - a)) % 2 ^ 64) (ap (digits_read 16 0) t ∙ x.value) ∙ distance_back a d small_a h.small in (
      is ∙ ap (digits_left 16) t ∙ x.behind,
      updated_one Target 8 (v / 2 % 2 ^ half_width (imm_class_of kind)) s before after (λ k. refl) (ap (λ (r : ℕ). r / 2 % 2 ^ half_width (imm_class_of kind)) back ∙ h.value) set,
    )

-- ---- addresses
registers_stop : (i j : ℕ) (more : List ℕ) → IsEnd more → IsStop 10 (registers_text i j ++ more)
unfolding registers_text
registers_stop zero zero more end = end_stop more end
registers_stop zero (suc j) more end = ap (λ (t : List ℕ). is_digit (slice_index (t ++ more) 0) 10) (registers_base j)
registers_stop (suc i) j more end = ap (λ (t : List ℕ). is_digit (slice_index (t ++ more) 0) 10) (registers_both i j)

-- the displacement of an address is read, and its registers are left
displacement : (text more : List ℕ) (sep n i j : ℕ) → sep < 45 → n < 2 ^ 20 → IsEnd more → text ≡ sep ∷ ((signed_decimal (disp_of n) ++ registers_text i j) ++ more) → IsNumber text (registers_text i j ++ more) (cast_unsigned w64 (disp_of n))
displacement text more sep n i j low small end e =
    let f = folded20 n small in
    let t : text ≡ (sep ∷ []) ++ (signed_decimal (disp_of n) ++ (registers_text i j ++ more)) = e ∙ ap (λ (u : List ℕ). sep ∷ u) (append_assoc (signed_decimal (disp_of n)) (registers_text i j) more) in
    subst (λ (u : List ℕ). IsNumber u (registers_text i j ++ more) (cast_unsigned w64 (disp_of n))) (sym t)
    (integer (sep ∷ []) (registers_text i j ++ more) (disp_of n) (separator_plain sep low, tt) (registers_stop i j more end) f.small)

two_choices : (p q : Bool) (u v t z : ℕ) → (p ≡ true → u ≡ t) → (q ≡ true → v ≡ t) → (if q then v else (if p then u else z)) ≡ (if p || q then t else z)
two_choices true true u v t z hp hq = hq refl
two_choices true false u v t z hp hq = hp refl
two_choices false true u v t z hp hq = hq refl
two_choices false false u v t z hp hq = refl

three_choices : (p q r : Bool) (u v w t z : ℕ) → (p ≡ true → u ≡ t) → (q ≡ true → v ≡ t) → (r ≡ true → w ≡ t) → (if r then w else (if q then v else (if p then u else z))) ≡ (if p || q || r then t else z)
three_choices true true false u v w t z hp hq hr = hq refl
three_choices true false false u v w t z hp hq hr = hp refl
three_choices false true false u v w t z hp hq hr = hq refl
three_choices false false false u v w t z hp hq hr = refl
three_choices p q r u v w t z hp hq hr = hr refl

pub storage_read : (kind : FormatKind) (a base x b : ℕ) (text before middle after rest last : List ℕ) → IsSet 9 (signed_read (number_on text) % 2 ^ 20) before middle → rest ≡ signed_left (number_on text)
    → AreRegisters rest x b last → IsSet (1 + base) b middle after → IsRead kind a (Storage base) text before after last
storage_read kind a base x b text before middle after rest last first is regs second = λ s more sep fit suit low end e.
    let lt : base < 4 = ltb-true base 4 suit in
    let small = slot_below kind s 9 (omega arith) fit in
    let j : ℕ = slice_index (fields_of kind s).regs base in
    let j_is : j ≡ slice_index s (1 + base) = regs_at kind s base lt in
    let j_small : j < 2 ^ 8 = subst (λ (m : ℕ). m < 2 ^ 8) (sym j_is) (regs_small kind s base fit lt) in
    let n = displacement text more sep (slice_index s 9) 0 j low small end e in
    let r = regs 0 j more (omega arith) j_small end (is ∙ n.behind) in
    let disp : signed_read (number_on text) % 2 ^ 20 ≡ slice_index s 9 = ap (λ (m : ℕ). m % 2 ^ 20) n.value ∙ (folded20 (slice_index s 9) small).value in (
      r.2,
      λ k lt. second k lt ∙ ap (λ (y : ℕ). if k == 1 + base then b else y) (first k lt)
          ∙ two_choices (k == 9) (k == 1 + base) _ b (slice_index s k) (slice_index before k) (at_slot k 9 _ s disp) (at_slot k (1 + base) b s (r.1 ∙ j_is)),
    )

pub indexed_read : (kind : FormatKind) (a index base x b : ℕ) (text before middle between after rest last : List ℕ) → IsSet 9 (signed_read (number_on text) % 2 ^ 20) before middle → rest ≡ signed_left (number_on text)
    → AreRegisters rest x b last → IsSet (1 + index) x middle between → IsSet (1 + base) b between after → IsRead kind a (Indexed index base) text before after last
indexed_read kind a index base x b text before middle between after rest last first is regs second third = λ s more sep fit suit low end e.
    let parts = and_parts (nat_lt index 4) (nat_lt base 4) suit in
    let li : index < 4 = ltb-true index 4 parts.0 in
    let lb : base < 4 = ltb-true base 4 parts.1 in
    let small = slot_below kind s 9 (omega arith) fit in
    let i : ℕ = slice_index (fields_of kind s).regs index in
    let j : ℕ = slice_index (fields_of kind s).regs base in
    let i_is : i ≡ slice_index s (1 + index) = regs_at kind s index li in
    let j_is : j ≡ slice_index s (1 + base) = regs_at kind s base lb in
    let i_small : i < 2 ^ 8 = subst (λ (m : ℕ). m < 2 ^ 8) (sym i_is) (regs_small kind s index fit li) in
    let j_small : j < 2 ^ 8 = subst (λ (m : ℕ). m < 2 ^ 8) (sym j_is) (regs_small kind s base fit lb) in
    let n = displacement text more sep (slice_index s 9) i j low small end e in
    let r = regs i j more i_small j_small end (is ∙ n.behind) in
    let disp : signed_read (number_on text) % 2 ^ 20 ≡ slice_index s 9 = ap (λ (m : ℕ). m % 2 ^ 20) n.value ∙ (folded20 (slice_index s 9) small).value in (
      r.2,
      λ k lt. third k lt ∙ ap (λ (y : ℕ). if k == 1 + base then b else y) (second k lt ∙ ap (λ (y : ℕ). if k == 1 + index then x else y) (first k lt))
          ∙ three_choices (k == 9) (k == 1 + index) (k == 1 + base) _ x b (slice_index s k) (slice_index before k) (at_slot k 9 _ s disp) (at_slot k (1 + index) x s (r.0 ∙ i_is)) (at_slot k (1 + base) b s (r.1 ∙ j_is)),
    )
