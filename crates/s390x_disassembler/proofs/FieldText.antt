-- What is written of an instruction has no line feed.
use Rattle.std.proofs.Common.{◌≡◌, ℕ, zero, suc, ◌+◌, ◌%◌, ◌^◌, ◌<◌, ◌≤◌, Bool, true, false, nat_lt, ltb-true, if◌then◌else◌, List, [], ◌∷◌, ◌++◌, get_or, refl, sym, ap, subst, arith, Some}
use Rattle.std.specs.Prelude.{slice_index, ℤ, pos, negsuc}
use Rattle.std.specs.Char.{digit_value}
use Rattle.std.specs.Fmt.{decimal, signed_decimal, digits}
use Rattle.std.specs.Int.{cast_unsigned}
use Rattle.std.specs.Str.Parse.{AllDigits}
use Rattle.std.proofs.lemmas.Fmt.{decimal_is_IsNumeral, digits_is_IsNumeral}
use Rattle.std.proofs.lemmas.Bool.{and_parts}
use mir.Syntax.{w64}
use lib.Signed.{mag}
use Rattle.s390x_format.specs.declared.kind.FormatKind.{FormatKind}
use Rattle.s390x_format.specs.declared.decoder.Located.{Located}
use Rattle.s390x_format.specs.declared.table.TheConstants.{MACHINE_ROWS}
use Rattle.s390x_format.specs.Layout.{SlotsFit}
use Rattle.s390x_format.specs.Formats.{layout_of}
use Rattle.s390x_format.specs.Reading.{no_row}
use Rattle.s390x_format.specs.View.{fields_of}
use Rattle.s390x_format.specs.Fetch.{IsLocated}
use Rattle.s390x_format.proofs.SlotBounds.{slot_below}
use Rattle.s390x_disassembler.specs.declared.forms.Operand.{Operand}
use Rattle.s390x_disassembler.specs.declared.forms.Operand.TheVariants.{General, Float, Vector, Access, Mask, NonzeroMask, UnnamedMask, Unsigned, Signed16, Signed32, Target, Storage, Indexed}
use Rattle.s390x_disassembler.specs.Forms.{operands_of}
use Rattle.s390x_disassembler.specs.Spelling.{letters_of}
use Rattle.s390x_disassembler.specs.Text.{found_text, registers_text, general_text, operand_text, operands_text, is_written, spellings}
use Rattle.s390x_disassembler.specs.Operands.{suits, all_suit}
use Rattle.s390x_disassembler.specs.Bare.{is_unit, no_spelling}
use Rattle.s390x_disassembler.proofs.Names.{is_plain}
use Rattle.s390x_disassembler.proofs.OneOperand.{IsInteger, register_is, mask_is, unsigned_is, signed16_is, signed32_is, folded20, regs_at, regs_small}
use Rattle.s390x_disassembler.proofs.Registers.{registers_base, registers_both}
use Rattle.s390x_disassembler.proofs.Spelled.{legible}
use Rattle.s390x_disassembler.proofs.Written.{located_row, plain_mnemonic}

-- a text has no line feed
abbrev pub IsClear : List ℕ → Type 0
IsClear [] = Unit {0}
IsClear (x ∷ xs) = (x ≡ 10 → ⊥) × IsClear xs

pub clear_both : (xs ys : List ℕ) → IsClear xs → IsClear ys → IsClear (xs ++ ys)
clear_both [] ys h g = g
clear_both (x ∷ xs) ys h g = (h.0, clear_both xs ys h.1 g)

not_ten : (c : ℕ) → digit_value c < 36 → c ≡ 10 → ⊥
not_ten c lt e = let f : digit_value c ≡ 36 = ap digit_value e in omega (arith, lt, f)

pub clear_digits : (radix : ℕ) (ds : List ℕ) → radix ≤ 36 → AllDigits radix ds → IsClear ds
clear_digits radix [] le d = tt
clear_digits radix (c ∷ ds) le d = (not_ten c (omega (arith, d.0, le)), clear_digits radix ds le d.1)

decimal_clear : (n : ℕ) → n < 2 ^ 64 → IsClear (decimal n)
decimal_clear n lt = clear_digits 10 (decimal n) (omega arith) (decimal_is_IsNumeral n lt).0.1

integer_clear : (z : ℤ) → mag z < 2 ^ 63 → IsClear (signed_decimal z)
integer_clear (pos n) lt = decimal_clear n (omega (arith, lt))
integer_clear (negsuc n) lt = ((λ e. omega (arith, e)), decimal_clear (suc n) (omega (arith, lt)))

of_integer : {kind : FormatKind} {a : ℕ} {o : Operand} {slot m : ℕ} {s : List ℕ} {z : ℤ} (p : List ℕ) → IsClear p → IsInteger kind a o p slot m s z → IsClear (operand_text a (fields_of kind s) o)
of_integer p h i = subst (λ (t : List ℕ). IsClear t) (sym i.text) (clear_both p _ h (integer_clear _ i.small))

register_clear : (letter : ℕ) → (letter ≡ 10 → ⊥) → IsClear (37 ∷ (letter ∷ []))
register_clear letter h = ((λ e. omega (arith, e)), (h, tt))

general_clear : (n : ℕ) → n < 2 ^ 8 → IsClear (general_text n)
general_clear n lt = ((λ e. omega (arith, e)), ((λ e. omega (arith, e)), decimal_clear n (omega (arith, lt))))

registers_clear : (i j : ℕ) → i < 2 ^ 8 → j < 2 ^ 8 → IsClear (registers_text i j)
unfolding registers_text
registers_clear zero zero li lj = tt
registers_clear zero (suc j) li lj =
    subst (λ (t : List ℕ). IsClear t) (sym (registers_base j)) ((λ e. omega (arith, e)), clear_both (general_text (suc j)) (41 ∷ []) (general_clear (suc j) lj) ((λ e. omega (arith, e)), tt))
registers_clear (suc i) j li lj =
    subst (λ (t : List ℕ). IsClear t) (sym (registers_both i j))
    ((λ e. omega (arith, e)), clear_both (general_text (suc i)) (44 ∷ (general_text j ++ (41 ∷ []))) (general_clear (suc i) li) ((λ e. omega (arith, e)), clear_both (general_text j) (41 ∷ []) (general_clear j lj) ((λ e. omega (arith, e)), tt)))

operand_clear : (kind : FormatKind) (a : ℕ) (s : List ℕ) (o : Operand) → SlotsFit (layout_of kind) s → suits kind o ≡ true → IsClear (operand_text a (fields_of kind s) o)
operand_clear kind a s (General j) fit h = of_integer (37 ∷ (114 ∷ [])) (register_clear 114 (λ e. omega (arith, e))) (register_is kind a (General j) 114 j s fit (ltb-true j 4 h) refl)
operand_clear kind a s (Float j) fit h = of_integer (37 ∷ (102 ∷ [])) (register_clear 102 (λ e. omega (arith, e))) (register_is kind a (Float j) 102 j s fit (ltb-true j 4 h) refl)
operand_clear kind a s (Vector j) fit h = of_integer (37 ∷ (118 ∷ [])) (register_clear 118 (λ e. omega (arith, e))) (register_is kind a (Vector j) 118 j s fit (ltb-true j 4 h) refl)
operand_clear kind a s (Access j) fit h = of_integer (37 ∷ (97 ∷ [])) (register_clear 97 (λ e. omega (arith, e))) (register_is kind a (Access j) 97 j s fit (ltb-true j 4 h) refl)
operand_clear kind a s (Mask j) fit h = of_integer [] tt (mask_is kind a (Mask j) j s fit (ltb-true j 3 h) refl)
operand_clear kind a s NonzeroMask fit h = of_integer [] tt (mask_is kind a NonzeroMask 0 s fit (omega arith) refl)
operand_clear kind a s UnnamedMask fit h = of_integer [] tt (mask_is kind a UnnamedMask 0 s fit (omega arith) refl)
operand_clear kind a s Unsigned fit h = of_integer [] tt (unsigned_is kind a s fit h)
operand_clear kind a s Signed16 fit h = of_integer [] tt (signed16_is kind a s fit h)
operand_clear kind a s Signed32 fit h = of_integer [] tt (signed32_is kind a s fit h)
operand_clear kind a s Target fit h =
    let t : ℕ = (a + cast_unsigned w64 (fields_of kind s).imm) % 2 ^ 64 in
    ((λ e. omega (arith, e)), ((λ e. omega (arith, e)), clear_digits 16 (digits 16 false t) (omega arith) (digits_is_IsNumeral 16 false (omega arith) (omega arith) t (omega arith)).0.1))
operand_clear kind a s (Storage b) fit h =
    let lt = ltb-true b 4 h in
    clear_both (signed_decimal (fields_of kind s).disp) _ (integer_clear _ (folded20 (slice_index s 9) (slot_below kind s 9 (omega arith) fit)).small)
    (registers_clear 0 _ (omega arith) (subst (λ (m : ℕ). m < 2 ^ 8) (sym (regs_at kind s b lt)) (regs_small kind s b fit lt)))
operand_clear kind a s (Indexed i b) fit h =
    let p = and_parts (nat_lt i 4) (nat_lt b 4) h in
    let li = ltb-true i 4 p.0 in
    let lb = ltb-true b 4 p.1 in
    clear_both (signed_decimal (fields_of kind s).disp) _ (integer_clear _ (folded20 (slice_index s 9) (slot_below kind s 9 (omega arith) fit)).small)
    (registers_clear _ _ (subst (λ (m : ℕ). m < 2 ^ 8) (sym (regs_at kind s i li)) (regs_small kind s i fit li)) (subst (λ (m : ℕ). m < 2 ^ 8) (sym (regs_at kind s b lb)) (regs_small kind s b fit lb)))

operands_clear : (kind : FormatKind) (a separator : ℕ) (letters s : List ℕ) (os : List Operand) → (separator ≡ 10 → ⊥) → SlotsFit (layout_of kind) s → all_suit kind os ≡ true → IsClear (operands_text separator a letters (fields_of kind s) os)
operands_clear kind a separator letters s [] sep fit h = tt
operands_clear kind a separator letters s (o ∷ os) sep fit h =
    let p = and_parts (suits kind o) (all_suit kind os) h in
    chosen (is_written letters (fields_of kind s) o) p.0 (operands_clear kind a 44 letters s os (λ e. omega (arith, e)) fit p.1) (operands_clear kind a separator letters s os sep fit p.1)
  where
    chosen : (b : Bool) → suits kind o ≡ true → IsClear (operands_text 44 a letters (fields_of kind s) os) → IsClear (operands_text separator a letters (fields_of kind s) os)
        → IsClear (if b then separator ∷ (operand_text a (fields_of kind s) o ++ operands_text 44 a letters (fields_of kind s) os) else operands_text separator a letters (fields_of kind s) os)
    chosen true suit later skipped = (sep, clear_both (operand_text a (fields_of kind s) o) (operands_text 44 a letters (fields_of kind s) os) (operand_clear kind a s o fit suit) later)
    chosen false suit later skipped = skipped

plain_clear : (m : List ℕ) → is_plain m ≡ true → IsClear m
plain_clear [] h = tt
plain_clear (c ∷ m) h = let p = and_parts (nat_lt 58 c) (is_plain m) h in ((λ e. omega (arith, e, ltb-true 58 c p.0)), plain_clear m p.1)

pub located_clear : (a : ℕ) (u : List ℕ) (l : Located) → a < 2 ^ 64 → is_unit u ≡ true → IsLocated u l → IsClear (found_text a u (Some l))
located_clear a u l small unit h =
    let r = located_row a u l h in
    subst (λ (t : List ℕ). IsClear t) (sym r.text)
    (clear_both ((get_or spellings l.at no_spelling).0 ++ letters_of (get_or spellings l.at no_spelling).1 (fields_of (get_or MACHINE_ROWS l.at no_row).format h.fetch.slots)) _
    (plain_clear _ (plain_mnemonic l.at (fields_of (get_or MACHINE_ROWS l.at no_row).format h.fetch.slots)))
    (operands_clear (get_or MACHINE_ROWS l.at no_row).format a 32 _ h.fetch.slots (operands_of (get_or spellings l.at no_spelling).2) (λ e. omega (arith, e)) r.fit (legible (get_or MACHINE_ROWS l.at no_row) (get_or spellings l.at no_spelling) r.legible).suit))
