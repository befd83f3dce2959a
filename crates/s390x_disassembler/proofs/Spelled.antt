-- The bytes of a row are read of its mnemonic and its operands.
use Rattle.std.proofs.Common.{◌≡◌, ℕ, zero, suc, ◌%◌, ◌<◌, true, List, length, drop, refl, sym, ap, ◌∙◌, arith, inl, inr}
use Rattle.std.specs.Prelude.{slice_index, ◌⊎◌}
use Rattle.std.proofs.lemmas.Bool.{and_parts}
use Rattle.std.proofs.lemmas.List.{drop_at}
use Rattle.s390x_format.specs.declared.row.MachineRow.{MachineRow}
use Rattle.s390x_format.specs.Reading.{encode}
use Rattle.s390x_format.specs.View.{fields_of}
use Rattle.s390x_format.specs.declared.spelling.Form.{Form}
use Rattle.s390x_disassembler.specs.declared.forms.Operand.{Operand}
use Rattle.s390x_format.specs.declared.spelling.Suffix.{Suffix}
use Rattle.s390x_format.specs.declared.spelling.Suffix.TheVariants.{Plain, Size, ThirdSize, HalfwordSize, SizeAndCode, Condition, Trap, Jump, Return}
use Rattle.s390x_disassembler.specs.Forms.{operands_of}
use Rattle.s390x_disassembler.specs.Spelling.{letters_for, letters_of}
use Rattle.s390x_disassembler.specs.Names.{place_in}
use Rattle.s390x_disassembler.specs.Operands.{tells, AreKnown, AreRead, all_suit, is_in_order}
use Rattle.s390x_disassembler.specs.Start.{start_value, told_value, is_told, is_legible}
use Rattle.s390x_disassembler.specs.Bare.{IsSpelled, IsSpelledRead}
use Rattle.s390x_disassembler.proofs.Start.{told, written_place, IsKnownAt}

-- no letters are of the opcode
opcode_plain : (s : Suffix) (p v : ℕ) → told_value s p 0 v ≡ v
opcode_plain Plain p v = refl
opcode_plain s p v = refl

-- a legible row's parts
pub record Legible (row : MachineRow) (s : Suffix) (os : List Operand) : Type 0 where
  pub suit : all_suit row.format os ≡ true
  pub order : is_in_order os ≡ true
  pub told_at : (k : ℕ) → 0 < k → k < 10 → is_told row s os k ≡ true

pub legible : (row : MachineRow) (s : List ℕ × Suffix × Form) → is_legible row s ≡ true → Legible row s.1 (operands_of s.2)
legible row s h =
    let p9 = and_parts _ _ h in
    let p8 = and_parts _ _ p9.0 in
    let p7 = and_parts _ _ p8.0 in
    let p6 = and_parts _ _ p7.0 in
    let p5 = and_parts _ _ p6.0 in
    let p4 = and_parts _ _ p5.0 in
    let p3 = and_parts _ _ p4.0 in
    let p2 = and_parts _ _ p3.0 in
    let p1 = and_parts _ _ p2.0 in
    let p0 = and_parts _ _ p1.0 in
    record { suit = p0.0; order = p0.1; told_at = each p1.1 p2.1 p3.1 p4.1 p5.1 p6.1 p7.1 p8.1 p9.1 }
  where
    each : is_told row s.1 (operands_of s.2) 1 ≡ true → is_told row s.1 (operands_of s.2) 2 ≡ true → is_told row s.1 (operands_of s.2) 3 ≡ true → is_told row s.1 (operands_of s.2) 4 ≡ true → is_told row s.1 (operands_of s.2) 5 ≡ true → is_told row s.1 (operands_of s.2) 6 ≡ true → is_told row s.1 (operands_of s.2) 7 ≡ true → is_told row s.1 (operands_of s.2) 8 ≡ true → is_told row s.1 (operands_of s.2) 9 ≡ true
        → (k : ℕ) → 0 < k → k < 10 → is_told row s.1 (operands_of s.2) k ≡ true
    each a b c d e f g h i zero some lt = absurd (omega arith)
    each a b c d e f g h i (suc zero) some lt = a
    each a b c d e f g h i (suc (suc zero)) some lt = b
    each a b c d e f g h i (suc (suc (suc zero))) some lt = c
    each a b c d e f g h i (suc (suc (suc (suc zero)))) some lt = d
    each a b c d e f g h i (suc (suc (suc (suc (suc zero))))) some lt = e
    each a b c d e f g h i (suc (suc (suc (suc (suc (suc zero)))))) some lt = f
    each a b c d e f g h i (suc (suc (suc (suc (suc (suc (suc zero))))))) some lt = g
    each a b c d e f g h i (suc (suc (suc (suc (suc (suc (suc (suc zero)))))))) some lt = h
    each a b c d e f g h i (suc (suc (suc (suc (suc (suc (suc (suc (suc zero))))))))) some lt = i
    each a b c d e f g h i (suc (suc (suc (suc (suc (suc (suc (suc (suc (suc k)))))))))) some lt = absurd (omega arith)

-- where the slots begin with what the row and the letters tell, the operands tell the others
pub known_start : (a : ℕ) (row : MachineRow) (s : List ℕ × Suffix × Form) (values m text more slots : List ℕ) → IsSpelled a row s values m text more
    → ((k : ℕ) → k < 10 → slice_index slots k ≡ start_value row s.1 (place_in (letters_for s.1) (drop (length s.0) m) % 256) k)
    → AreKnown row.format (letters_of s.1 (fields_of row.format values)) (operands_of s.2) values slots
known_start a row s values m text more slots sp start k lt = at k lt
  where
    letters : drop (length s.0) m ≡ letters_of s.1 (fields_of row.format values)
    letters = ap (drop (length s.0)) sp.mnemonic ∙ drop_at s.0 (letters_of s.1 (fields_of row.format values)) (length s.0) refl

    placed : (k : ℕ) → k < 10 → slice_index slots k ≡ start_value row s.1 (written_place row s.1 values) k
    placed k lt = start k lt ∙ ap (λ (l : List ℕ). start_value row s.1 (place_in (letters_for s.1) l % 256) k) letters

    later : (k : ℕ) → k < 10 → IsKnownAt row s.1 (letters_of s.1 (fields_of row.format values)) (operands_of s.2) values (written_place row s.1 values) k → (slice_index slots k ≡ slice_index values k) ⊎ (tells (letters_of s.1 (fields_of row.format values)) (fields_of row.format values) (operands_of s.2) k ≡ true)
    later k lt (inl h) = inl (placed k lt ∙ h)
    later k lt (inr h) = inr h

    at : (k : ℕ) → k < 10 → (slice_index slots k ≡ slice_index values k) ⊎ (tells (letters_of s.1 (fields_of row.format values)) (fields_of row.format values) (operands_of s.2) k ≡ true)
    at zero lt = inl (placed 0 lt ∙ opcode_plain s.1 (written_place row s.1 values) row.opcode ∙ sym sp.opcode)
    at (suc k) lt = later (suc k) lt (told row s.1 (operands_of s.2) values (suc k) lt sp.fit sp.allowed ((legible row s sp.legible).told_at (suc k) (omega arith) lt))

-- the values are read, and their bytes are the row's
pub spelled_read : (a : ℕ) (row : MachineRow) (s : List ℕ × Suffix × Form) (m text start slots bytes : List ℕ)
    → ((k : ℕ) → k < 10 → slice_index start k ≡ start_value row s.1 (place_in (letters_for s.1) (drop (length s.0) m) % 256) k)
    → AreRead row.format a (operands_of s.2) text start slots → bytes ≡ encode row.format slots → IsSpelledRead a row s m text bytes
spelled_read a row s m text start slots bytes starts read is values more sp =
    let l = legible row s sp.legible in
    is ∙ ap (encode row.format) (read (letters_of s.1 (fields_of row.format values)) values more (record { fit = sp.fit; suit = l.suit; order = l.order; text_is = sp.text_is }) (known_start a row s values m text more start sp starts))
