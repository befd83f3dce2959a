-- An instruction's line has room in a text.
use Rattle.std.proofs.Common.{◌≡◌, ℕ, zero, suc, ◌+◌, ◌/◌, ◌%◌, ◌^◌, ◌<◌, ◌≤◌, Bool, true, false, ◌&&◌, ◌==◌, nat_lt, nat_le, ltb-true, leb-true, eq-eqb, if◌then◌else◌, List, [], ◌∷◌, ◌++◌, length, get_or, refl, sym, subst, arith, Some}
use Rattle.std.specs.Prelude.{slice_index, ℤ}
use Rattle.std.specs.Fmt.{decimal, signed_decimal, digits, digits_onto, digit_glyph}
use Rattle.std.specs.Int.{cast_unsigned}
use Rattle.std.proofs.lemmas.Bool.{and_parts}
use Rattle.std.proofs.lemmas.List.{length-append}
use Rattle.std.proofs.lemmas.Fmt.{length-decimal-le, length_signed_le}
use mir.Syntax.{w64}
use lib.Signed.{mag}
use Rattle.s390x_format.specs.declared.kind.FormatKind.{FormatKind}
use Rattle.s390x_format.specs.declared.decoder.Located.{Located}
use Rattle.s390x_format.specs.declared.table.TheConstants.{MACHINE_ROWS}
use Rattle.s390x_format.specs.Layout.{SlotsFit}
use Rattle.s390x_format.specs.Formats.{layout_of}
use Rattle.s390x_format.specs.Reading.{no_row}
use Rattle.s390x_format.specs.View.{fields_of}
use Rattle.s390x_format.specs.Fetch.{IsLocated}
use Rattle.s390x_format.proofs.SlotBounds.{slot_below}
use Rattle.s390x_format.specs.declared.spelling.Form.{Form}
use Rattle.s390x_format.specs.declared.spelling.Form.TheVariants.{BranchRegister}
use Rattle.s390x_disassembler.specs.declared.forms.Operand.{Operand}
use Rattle.s390x_disassembler.specs.declared.forms.Operand.TheVariants.{General, Float, Vector, Access, Mask, NonzeroMask, UnnamedMask, Unsigned, Signed16, Signed32, Target, Storage, Indexed}
use Rattle.s390x_format.specs.declared.spelling.Suffix.{Suffix}
use Rattle.s390x_format.specs.declared.spelling.Suffix.TheVariants.{Plain}
use Rattle.s390x_disassembler.specs.Forms.{operands_of}
use Rattle.s390x_disassembler.specs.Spelling.{letters_for, letters_of, choice, name_in}
use Rattle.s390x_disassembler.specs.Text.{found_text, register_text, general_text, registers_text, operand_text, operands_text, is_written, spellings}
use Rattle.s390x_disassembler.specs.Operands.{suits, all_suit}
use Rattle.s390x_disassembler.specs.Assembly.{IsInstructionLine}
use Rattle.s390x_disassembler.specs.Bare.{no_spelling}
use Rattle.s390x_disassembler.proofs.OneOperand.{IsInteger, unsigned_is, signed16_is, signed32_is, folded20, regs_at, regs_small, masks_at, masks_small}
use Rattle.s390x_disassembler.proofs.Numbers.{if_yes}
use Rattle.s390x_disassembler.proofs.Registers.{registers_base, registers_both}
use Rattle.s390x_disassembler.proofs.Spelled.{legible}
use Rattle.s390x_disassembler.proofs.Written.{located_row}

both_short : (x y : List ℕ) (m n : ℕ) → length x ≤ m → length y ≤ n → length (x ++ y) ≤ m + n
both_short x y m n h g = omega (arith, h, g, length-append x y)

one_more : (c : ℕ) (x : List ℕ) (n k : ℕ) → length x ≤ n → n < k → length (c ∷ x) ≤ k
one_more c x n k h lt = omega (arith, h, lt)

no_more : (m n k : ℕ) → m ≤ n → n ≤ k → m ≤ k
no_more m n k h le = omega (arith, h, le)

below_room : (n : ℕ) → n ≤ 81 → n < 96
below_room n h = omega (arith, h)

-- ---- mnemonics
abbrev are_short : List (List ℕ) → Bool
are_short [] = true
are_short (n ∷ ns) = nat_le (length n) 8 && are_short ns

abbrev stems_short : List (List ℕ × Suffix × Form) → Bool
stems_short [] = true
stems_short (row ∷ rows) = nat_le (length row.0) 12 && stems_short rows

short_stems : stems_short spellings ≡ true
short_stems = refl

short_letters : (s : Suffix) → are_short (letters_for s) ≡ true
short_letters Plain = refl
short_letters _ = refl

name_short : (names : List (List ℕ)) (v : ℕ) → are_short names ≡ true → length (get_or names v []) ≤ 8
name_short [] v h = omega arith
name_short (n ∷ ns) zero h = leb-true (length n) 8 (and_parts (nat_le (length n) 8) (are_short ns) h).0
name_short (n ∷ ns) (suc v) h = name_short ns v (and_parts (nat_le (length n) 8) (are_short ns) h).1

stem_short : (rows : List (List ℕ × Suffix × Form)) (j : ℕ) → stems_short rows ≡ true → length (get_or rows j no_spelling).0 ≤ 12
stem_short [] j h = omega arith
stem_short (row ∷ rows) zero h = leb-true (length row.0) 12 (and_parts (nat_le (length row.0) 12) (stems_short rows) h).0
stem_short (row ∷ rows) (suc j) h = stem_short rows j (and_parts (nat_le (length row.0) 12) (stems_short rows) h).1

mnemonic_short : (j v : ℕ) → length ((get_or spellings j no_spelling).0 ++ name_in (letters_for (get_or spellings j no_spelling).1) v) ≤ 20
unfolding name_in
mnemonic_short j v = both_short (get_or spellings j no_spelling).0 (name_in (letters_for (get_or spellings j no_spelling).1) v) 12 8 (stem_short spellings j short_stems) (name_short (letters_for (get_or spellings j no_spelling).1) v (short_letters (get_or spellings j no_spelling).1))

-- ---- numbers
onto_short : (k j n : ℕ) (acc : List ℕ) → n < 16 ^ suc j → length (digits_onto k 16 false n acc) ≤ length acc + suc j
onto_short zero j n acc h = omega arith
onto_short (suc k) zero n acc h =
    subst (λ (t : List ℕ). length t ≤ length acc + 1) (sym (if_yes (n / 16 == 0) (digit_glyph false (n % 16) ∷ acc) (digits_onto k 16 false (n / 16) (digit_glyph false (n % 16) ∷ acc)) (eq-eqb (n / 16) 0 (omega (arith, h))))) (omega arith)
onto_short (suc k) (suc j) n acc h = chosen (n / 16 == 0) (onto_short k j (n / 16) (digit_glyph false (n % 16) ∷ acc) (omega (arith, h)))
  where
    chosen : (b : Bool) → length (digits_onto k 16 false (n / 16) (digit_glyph false (n % 16) ∷ acc)) ≤ length (digit_glyph false (n % 16) ∷ acc) + suc j
        → length (if b then digit_glyph false (n % 16) ∷ acc else digits_onto k 16 false (n / 16) (digit_glyph false (n % 16) ∷ acc)) ≤ length acc + suc (suc j)
    chosen true le = omega arith
    chosen false le = omega (arith, le)

hex_short : (n : ℕ) → n < 2 ^ 64 → length (digits 16 false n) ≤ 16
unfolding digits
hex_short n lt = onto_short 64 15 n [] (omega (arith, lt))

byte_short : (n : ℕ) → n < 2 ^ 8 → length (decimal n) ≤ 3
byte_short n lt = length-decimal-le 3 n (omega arith) (omega (arith, lt)) (omega (arith, lt))

integer_short : (z : ℤ) → mag z < 2 ^ 63 → length (signed_decimal z) ≤ 20
integer_short z lt = length_signed_le 19 z (omega (arith, lt)) lt

-- ---- operands
-- how many bytes an operand has at most
abbrev most : Operand → ℕ
most (General j) = 5
most (Float j) = 5
most (Vector j) = 5
most (Access j) = 5
most (Mask j) = 3
most NonzeroMask = 3
most UnnamedMask = 3
most (Storage b) = 33
most (Indexed i b) = 33
most _ = 20

-- the same of operands, each behind a byte
abbrev most_of : List Operand → ℕ
most_of [] = 0
most_of (o ∷ os) = 1 + most o + most_of os

form_short : (form : Form) → nat_le (most_of (operands_of form)) 60 ≡ true
unfolding operands_of
form_short BranchRegister = refl
form_short _ = refl

register_short : (letter n : ℕ) → n < 2 ^ 8 → length (register_text letter n) ≤ 5
register_short letter n lt = omega (arith, byte_short n lt)

reg_below : (kind : FormatKind) (s : List ℕ) (j : ℕ) → SlotsFit (layout_of kind) s → j < 4 → slice_index (fields_of kind s).regs j < 2 ^ 8
reg_below kind s j fit lt = subst (λ (m : ℕ). m < 2 ^ 8) (sym (regs_at kind s j lt)) (regs_small kind s j fit lt)

mask_below : (kind : FormatKind) (s : List ℕ) (j : ℕ) → SlotsFit (layout_of kind) s → j < 3 → slice_index (fields_of kind s).masks j < 2 ^ 8
mask_below kind s j fit lt = subst (λ (m : ℕ). m < 2 ^ 8) (sym (masks_at kind s j lt)) (masks_small kind s j fit lt)

registers_short : (i j : ℕ) → i < 2 ^ 8 → j < 2 ^ 8 → length (registers_text i j) ≤ 13
unfolding registers_text
registers_short zero zero li lj = omega arith
registers_short zero (suc j) li lj =
    subst (λ (t : List ℕ). length t ≤ 13) (sym (registers_base j))
    (one_more 40 (general_text (suc j) ++ (41 ∷ [])) 6 13 (both_short (general_text (suc j)) (41 ∷ []) 5 1 (register_short 114 (suc j) lj) (omega arith)) (omega arith))
registers_short (suc i) j li lj =
    let p : length (general_text j ++ (41 ∷ [])) ≤ 6 = both_short (general_text j) (41 ∷ []) 5 1 (register_short 114 j lj) (omega arith) in
    let q : length (44 ∷ (general_text j ++ (41 ∷ []))) ≤ 7 = one_more 44 (general_text j ++ (41 ∷ [])) 6 7 p (omega arith) in
    subst (λ (t : List ℕ). length t ≤ 13) (sym (registers_both i j))
    (one_more 40 (general_text (suc i) ++ (44 ∷ (general_text j ++ (41 ∷ [])))) 12 13 (both_short (general_text (suc i)) (44 ∷ (general_text j ++ (41 ∷ []))) 5 7 (register_short 114 (suc i) li) q) (omega arith))

storage_short : (kind : FormatKind) (s : List ℕ) (i b : ℕ) → SlotsFit (layout_of kind) s → i < 2 ^ 8 → b < 2 ^ 8 → length (signed_decimal (fields_of kind s).disp ++ registers_text i b) ≤ 33
storage_short kind s i b fit li lb =
    both_short (signed_decimal (fields_of kind s).disp) (registers_text i b) 20 13 (integer_short _ (folded20 (slice_index s 9) (slot_below kind s 9 (omega arith) fit)).small) (registers_short i b li lb)

of_integer : {kind : FormatKind} {a : ℕ} {o : Operand} {slot m : ℕ} {s : List ℕ} {z : ℤ} → IsInteger kind a o [] slot m s z → length (operand_text a (fields_of kind s) o) ≤ 20
of_integer i = subst (λ (t : List ℕ). length t ≤ 20) (sym i.text) (integer_short _ i.small)

operand_short : (kind : FormatKind) (a : ℕ) (s : List ℕ) (o : Operand) → SlotsFit (layout_of kind) s → suits kind o ≡ true → length (operand_text a (fields_of kind s) o) ≤ most o
operand_short kind a s (General j) fit h = register_short 114 _ (reg_below kind s j fit (ltb-true j 4 h))
operand_short kind a s (Float j) fit h = register_short 102 _ (reg_below kind s j fit (ltb-true j 4 h))
operand_short kind a s (Vector j) fit h = register_short 118 _ (reg_below kind s j fit (ltb-true j 4 h))
operand_short kind a s (Access j) fit h = register_short 97 _ (reg_below kind s j fit (ltb-true j 4 h))
operand_short kind a s (Mask j) fit h = byte_short _ (mask_below kind s j fit (ltb-true j 3 h))
operand_short kind a s NonzeroMask fit h = byte_short _ (mask_below kind s 0 fit (omega arith))
operand_short kind a s UnnamedMask fit h = byte_short _ (mask_below kind s 0 fit (omega arith))
operand_short kind a s Unsigned fit h = of_integer (unsigned_is kind a s fit h)
operand_short kind a s Signed16 fit h = of_integer (signed16_is kind a s fit h)
operand_short kind a s Signed32 fit h = of_integer (signed32_is kind a s fit h)
operand_short kind a s Target fit h =
    let t : ℕ = (a + cast_unsigned w64 (fields_of kind s).imm) % 2 ^ 64 in
    one_more 48 (120 ∷ digits 16 false t) 17 20 (one_more 120 (digits 16 false t) 16 17 (hex_short t (omega arith)) (omega arith)) (omega arith)
operand_short kind a s (Storage b) fit h = storage_short kind s 0 _ fit (omega arith) (reg_below kind s b fit (ltb-true b 4 h))
operand_short kind a s (Indexed i b) fit h =
    let p = and_parts (nat_lt i 4) (nat_lt b 4) h in
    storage_short kind s _ _ fit (reg_below kind s i fit (ltb-true i 4 p.0)) (reg_below kind s b fit (ltb-true b 4 p.1))

operands_short : (kind : FormatKind) (a separator : ℕ) (letters s : List ℕ) (os : List Operand) → SlotsFit (layout_of kind) s → all_suit kind os ≡ true → length (operands_text separator a letters (fields_of kind s) os) ≤ most_of os
operands_short kind a separator letters s [] fit h = omega arith
operands_short kind a separator letters s (o ∷ os) fit h =
    let p = and_parts (suits kind o) (all_suit kind os) h in
    chosen (is_written letters (fields_of kind s) o) (operand_short kind a s o fit p.0) (operands_short kind a 44 letters s os fit p.1) (operands_short kind a separator letters s os fit p.1)
  where
    chosen : (b : Bool) → length (operand_text a (fields_of kind s) o) ≤ most o → length (operands_text 44 a letters (fields_of kind s) os) ≤ most_of os → length (operands_text separator a letters (fields_of kind s) os) ≤ most_of os
        → length (if b then separator ∷ (operand_text a (fields_of kind s) o ++ operands_text 44 a letters (fields_of kind s) os) else operands_text separator a letters (fields_of kind s) os) ≤ 1 + most o + most_of os
    chosen true own later skipped =
        one_more separator (operand_text a (fields_of kind s) o ++ operands_text 44 a letters (fields_of kind s) os) (most o + most_of os) (1 + most o + most_of os)
        (both_short (operand_text a (fields_of kind s) o) (operands_text 44 a letters (fields_of kind s) os) (most o) (most_of os) own later) (omega arith)
    chosen false own later skipped = no_more (length (operands_text separator a letters (fields_of kind s) os)) (most_of os) (1 + most o + most_of os) skipped (omega arith)

-- ---- instructions
mnemonic_of : (j : ℕ) (kind : FormatKind) (s : List ℕ) → length ((get_or spellings j no_spelling).0 ++ letters_of (get_or spellings j no_spelling).1 (fields_of kind s)) ≤ 20
unfolding letters_of
mnemonic_of j kind s = mnemonic_short j (choice (get_or spellings j no_spelling).1 (fields_of kind s))

pub located_short : (a : ℕ) (u : List ℕ) (l : Located) → IsLocated u l → length (found_text a u (Some l)) ≤ 80
located_short a u l h =
    let r = located_row a u l h in
    subst (λ (t : List ℕ). length t ≤ 80) (sym r.text)
    (both_short ((get_or spellings l.at no_spelling).0 ++ letters_of (get_or spellings l.at no_spelling).1 (fields_of (get_or MACHINE_ROWS l.at no_row).format h.fetch.slots)) _ 20 60
    (mnemonic_of l.at (get_or MACHINE_ROWS l.at no_row).format h.fetch.slots)
    (no_more _ (most_of (operands_of (get_or spellings l.at no_spelling).2)) 60
    (operands_short (get_or MACHINE_ROWS l.at no_row).format a 32 _ h.fetch.slots (operands_of (get_or spellings l.at no_spelling).2) r.fit (legible (get_or MACHINE_ROWS l.at no_row) (get_or spellings l.at no_spelling) r.legible).suit)
    (leb-true _ 60 (form_short (get_or spellings l.at no_spelling).2))))

-- no line of an instruction is longer than a text
pub line_short : (a : ℕ) (line bytes : List ℕ) → IsInstructionLine a line bytes → length line < 96
line_short a line bytes f =
    subst (λ (t : List ℕ). length t < 96) (sym f.line_is)
    (below_room _ (both_short (found_text a bytes (Some f.located)) (10 ∷ []) 80 1 (located_short a bytes f.located f.is) (omega arith)))
