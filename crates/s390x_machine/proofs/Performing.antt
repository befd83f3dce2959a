-- The step can perform each row.
use Rattle.std.proofs.Common.{◌≡◌, ℕ, zero, suc, ◌+◌, ◌*◌, ◌^◌, ◌<◌, ◌≤◌, Bool, true, false, ◌&&◌, ◌==◌, List, [], ◌∷◌, length, get_or, Option, Some, slice_index, refl, sym, ap, ◌∙◌, subst, arith, lit<, mod-eq_of_lt}
use Rattle.std.specs.Prelude.{nat_le, nat_lt}
use Rattle.std.proofs.lemmas.Bool.{and_parts, leb-true}
use Rattle.std.proofs.lemmas.Nat.{shl_below}
use Rattle.std.proofs.Math.Nat.{pow-le-pow_right}
use Rattle.s390x_format.specs.declared.kind.FormatKind.{FormatKind}
use Rattle.s390x_format.specs.declared.fields.Fields.{Fields}
use Rattle.s390x_format.specs.declared.fields.Imm.{Imm}
use Rattle.s390x_format.specs.declared.fields.Imm.TheVariants.{Unsigned}
use Rattle.s390x_format.specs.declared.row.MachineRow.{MachineRow}
use Rattle.s390x_format.specs.declared.row.Allowed.{Allowed}
use Rattle.s390x_format.specs.declared.row.Allowed.TheVariants.{FirstMask}
use Rattle.s390x_format.specs.Rows.{is_allowed}
use Rattle.s390x_format.specs.declared.decoder.Decoded.{Decoded}
use Rattle.s390x_format.specs.declared.table.TheConstants.{MACHINE_ROWS}
use Rattle.s390x_format.specs.Formats.{layout_of}
use Rattle.s390x_format.specs.Layout.{SlotsFit, width_of_part, parts_of, bits as part_bits}
use Rattle.s390x_format.specs.View.{imm_of, imm_class_of, fields_of}
use Rattle.s390x_format.specs.Reading.{no_row}
use Rattle.s390x_format.specs.Fetch.{IsFetch, machine_rows}
use Rattle.s390x_operations.specs.Numbers.{low}
use Rattle.s390x_operations.specs.Bits.{IsWithin}
use Rattle.s390x_operations.specs.declared.size.Size.{Size}
use Rattle.s390x_operations.specs.declared.size.Size.TheVariants.{Halfword, Word, Doubleword}
use Rattle.s390x_operations.specs.declared.size.Width.{Width}
use Rattle.s390x_operations.specs.declared.size.Width.TheVariants.{Bits8, Bits16, Bits32, Bits64}
use Rattle.s390x_machine.specs.Semantics.{register_field, semantics_of, semantics_in}
use Rattle.s390x_machine.specs.Sound.{IsMeant, IsRoomy, ShiftFits, HasRegisters, HasElement, CanPerform, register_bits, register_bound, is_vector_field, fits_field, has_registers, is_small, has_element, is_performed, are_performed, is_meant, is_no_wider, is_unsigned, has_room, fits_operand}
use Rattle.s390x_format.specs.declared.semantics.OperandSource.{OperandSource}
use Rattle.s390x_format.specs.declared.semantics.OperandSource.TheVariants.{ShiftedImmediate}
use Rattle.s390x_format.specs.declared.semantics.SecondOperand.{SecondOperand}
use Rattle.s390x_format.specs.declared.semantics.RowSemantics.{RowSemantics}
use Rattle.s390x_format.specs.declared.semantics.RowSemantics.TheVariants.{Compute, Compare, MoveWhere, Store}
use Rattle.s390x_format.specs.declared.semantics.RowSemantics.TheVariants.{ExtractElement}

-- ---- the table

rows_performed : are_performed MACHINE_ROWS ≡ true
unfolding are_performed layout_of semantics_of semantics_in parts_of part_bits
rows_performed = refl

each_row : (rows : List MachineRow) (i : ℕ) → are_performed rows ≡ true → i < length rows → is_performed (semantics_of (get_or rows i no_row).opcode) (get_or rows i no_row).format (get_or rows i no_row).allowed ≡ true
unfolding are_performed
each_row [] i h lt = absurd (omega arith)
each_row (row ∷ rows) zero h lt = (and_parts (is_performed (semantics_of row.opcode) row.format row.allowed) (are_performed rows) h).0
each_row (row ∷ rows) (suc i) h lt = each_row rows i (and_parts (is_performed (semantics_of row.opcode) row.format row.allowed) (are_performed rows) h).1 (omega arith)

row_performed : (bytes : List ℕ) (d : Decoded) (h : IsFetch bytes d) → is_performed (semantics_of d.row.opcode) d.row.format (get_or MACHINE_ROWS h.reading.at no_row).allowed ≡ true
unfolding machine_rows
row_performed bytes d h =
    let at = get_or MACHINE_ROWS h.reading.at no_row in
    let there = each_row MACHINE_ROWS h.reading.at rows_performed h.reading.in_table in
    ap (λ (o : ℕ). is_performed (semantics_of o) d.row.format at.allowed) h.reading.opcode ∙ ap (λ (k : FormatKind). is_performed (semantics_of at.opcode) k at.allowed) h.reading.format ∙ there

-- ---- registers

five_bits : (w x : ℕ) (v : Bool) → nat_le w (register_bits v) ≡ true → x < 2 ^ w → x < register_bound v
five_bits w x true h lt = let up = pow-le-pow_right {n = 2} (lit< tt) {i = w} {j = 5} (leb-true w 5 h) in omega arith
five_bits w x false h lt = let up = pow-le-pow_right {n = 2} (lit< tt) {i = w} {j = 4} (leb-true w 4 h) in omega arith

four : (a b c d : Bool) → (a && b && c && d) ≡ true → (a ≡ true) × (b ≡ true) × (c ≡ true) × (d ≡ true)
four true true true true h = (refl, refl, refl, refl)
four a b c d h = cc

none_left : (v : Bool) → 0 < register_bound v
none_left true = lit< tt
none_left false = lit< tt

registers : (semantics : RowSemantics) (format : FormatKind) (slots : List ℕ) → has_registers semantics format ≡ true → SlotsFit (layout_of format) slots → HasRegisters semantics (fields_of format slots)
registers semantics format slots h fit = go
  where
    each : (fits_field semantics format 0 ≡ true) × (fits_field semantics format 1 ≡ true) × (fits_field semantics format 2 ≡ true) × (fits_field semantics format 3 ≡ true)
    each = four (fits_field semantics format 0) (fits_field semantics format 1) (fits_field semantics format 2) (fits_field semantics format 3) h

    go : (i : ℕ) → register_field (fields_of format slots) i < register_bound (is_vector_field semantics i)
    go zero = five_bits (width_of_part 1 (layout_of format)) (slice_index slots 1) (is_vector_field semantics 0) each.0 (fit.1 1 (lit< tt))
    go (suc zero) = five_bits (width_of_part 2 (layout_of format)) (slice_index slots 2) (is_vector_field semantics 1) each.1 (fit.1 2 (lit< tt))
    go (suc (suc zero)) = five_bits (width_of_part 3 (layout_of format)) (slice_index slots 3) (is_vector_field semantics 2) each.2 (fit.1 3 (lit< tt))
    go (suc (suc (suc zero))) = five_bits (width_of_part 4 (layout_of format)) (slice_index slots 4) (is_vector_field semantics 3) each.3 (fit.1 4 (lit< tt))
    go (suc (suc (suc (suc i)))) = none_left (is_vector_field semantics (suc (suc (suc (suc i)))))

-- ---- masks

small_mask : (allowed : Allowed) (slots : List ℕ) → is_small allowed ≡ true → is_allowed allowed slots ≡ true → slice_index slots 5 ≤ 3
small_mask (FirstMask low high) slots h ok =
    let each = four (nat_le low (slice_index slots 5)) (nat_le (slice_index slots 5) high) (slice_index slots 6 == 0) (slice_index slots 7 == 0) ok in
    let up = leb-true (slice_index slots 5) high each.1 in
    let few = leb-true high 3 h in
    omega arith
small_mask allowed slots h ok = cc

-- ---- immediates

plain_immediate : (class : Imm) (x : ℕ) → is_unsigned class ≡ true → x < 2 ^ 64 → low Doubleword (imm_of class x) ≡ x
plain_immediate Unsigned x h lt = mod-eq_of_lt lt
plain_immediate class x h lt = cc

room_left : (class : Imm) (n w x : ℕ) → is_unsigned class ≡ true → n + w ≤ 64 → x < 2 ^ w → low Doubleword (imm_of class x) * 2 ^ n < 2 ^ 64
room_left class n w x h fits lt =
    let up = pow-le-pow_right {n = 2} (lit< tt) {i = w} {j = 64} (omega arith) in
    let whole_up = pow-le-pow_right {n = 2} (lit< tt) {i = w + n} {j = 64} (omega arith) in
    let below = shl_below x w n lt in
    subst (λ k. k * 2 ^ n < 2 ^ 64) (sym (plain_immediate class x h (omega arith))) (omega arith)

room : (operand_source : OperandSource) (format : FormatKind) (slots : List ℕ) → has_room operand_source format ≡ true → SlotsFit (layout_of format) slots → ShiftFits operand_source (fields_of format slots)
room (ShiftedImmediate n) format slots h fit =
    let w = width_of_part 8 (layout_of format) in
    let outer = and_parts (nat_lt n 64 && nat_le (n + w) 64) (is_unsigned (imm_class_of format)) h in
    let inner = and_parts (nat_lt n 64) (nat_le (n + w) 64) outer.0 in
    (leb-true (suc n) 64 inner.0, room_left (imm_class_of format) n w (slice_index slots 8) outer.1 (leb-true (n + w) 64 inner.1) (fit.1 8 (lit< tt)))
room operand_source format slots h fit = tt

-- ---- widths

within : (width : Width) (size : Size) → is_no_wider width size ≡ true → IsWithin width size
within Bits8 Halfword h = omega arith
within Bits16 Halfword h = omega arith
within Bits32 Halfword h = cc
within Bits64 Halfword h = cc
within Bits64 Word h = cc
within width size h = omega arith

-- ---- meanings

operand_fits : (second : SecondOperand) (size : Size) (format : FormatKind) (slots : List ℕ) → fits_operand second size format ≡ true → SlotsFit (layout_of format) slots → IsWithin second.width size × ShiftFits second.operand_source (fields_of format slots)
operand_fits second size format slots h fit =
    let parts = and_parts (is_no_wider second.width size) (has_room second.operand_source format) h in
    (within second.width size parts.0, room second.operand_source format slots parts.1 fit)

meant : (semantics : RowSemantics) (format : FormatKind) (slots : List ℕ) → is_meant semantics format ≡ true → SlotsFit (layout_of format) slots → IsMeant semantics × IsRoomy semantics (fields_of format slots)
meant (Compute operator size second rule) format slots h fit = operand_fits second size format slots h fit
meant (Compare sign size second) format slots h fit = operand_fits second size format slots h fit
meant (MoveWhere size second) format slots h fit = operand_fits second size format slots h fit
meant (Store destination) format slots h fit = (tt, room destination.operand_source format slots h fit)
meant semantics format slots h fit = (tt, tt)

element : (semantics : RowSemantics) (format : FormatKind) (allowed : Allowed) (slots : List ℕ) → has_element semantics allowed ≡ true → is_allowed allowed slots ≡ true → HasElement semantics (fields_of format slots)
element ExtractElement format allowed slots h ok = small_mask allowed slots h ok
element semantics format allowed slots h ok = tt

three : (a b c : Bool) → (a && b && c) ≡ true → (a ≡ true) × (b ≡ true) × (c ≡ true)
three true true true h = (refl, refl, refl)
three a b c h = cc

-- what is fetched can be performed
pub can_perform : (bytes : List ℕ) (d : Decoded) (semantics : RowSemantics) → IsFetch bytes d → semantics_of d.row.opcode ≡ Some semantics → CanPerform semantics d.fields
unfolding machine_rows
can_perform bytes d semantics h is =
    let at = get_or MACHINE_ROWS h.reading.at no_row in
    let done = sym (ap (λ (m : Option RowSemantics). is_performed m d.row.format at.allowed) is) ∙ row_performed bytes d h in
    let parts = three (is_meant semantics d.row.format) (has_registers semantics d.row.format) (has_element semantics at.allowed) done in
    let both = meant semantics d.row.format h.slots parts.0 h.reading.fit in
    record {
      meant = both.0;
      registers = subst (λ (f : Fields). HasRegisters semantics f) (sym h.fields) (registers semantics d.row.format h.slots parts.1 h.reading.fit);
      room = subst (λ (f : Fields). IsRoomy semantics f) (sym h.fields) both.1;
      element = subst (λ (f : Fields). HasElement semantics f) (sym h.fields) (element semantics d.row.format at.allowed h.slots parts.2 h.reading.allowed);
    }
