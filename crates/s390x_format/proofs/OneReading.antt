-- A number is a row's with at most one list of fields.
use Rattle.std.proofs.Common.{◌≡◌, ℕ, suc, ◌<◌, List, [], ◌∷◌, length, get_or, refl, sym, ap, ap₂, ◌∙◌, arith}
use Rattle.s390x_format.specs.declared.kind.FormatKind.{FormatKind}
use Rattle.s390x_format.specs.declared.row.MachineRow.{MachineRow}
use Rattle.s390x_format.specs.declared.reading.Reading.{Reading}
use Rattle.s390x_format.specs.Layout.{number, field, SlotsFit}
use Rattle.s390x_format.specs.Formats.{layout_of}
use Rattle.s390x_format.specs.Reading.{IsReadAs}
use Rattle.s390x_format.proofs.Packing.{layout_slot, field-number}
use Rattle.s390x_format.proofs.FormatFacts.{layout_ok}

pub same_list : (xs ys : List ℕ) → length xs ≡ length ys → ((k : ℕ) → k < length xs → get_or xs k 0 ≡ get_or ys k 0) → xs ≡ ys
same_list [] [] e h = refl
same_list [] (y ∷ ys) e h = absurd (omega arith)
same_list (x ∷ xs) [] e h = absurd (omega arith)
same_list (x ∷ xs) (y ∷ ys) e h = ap₂ (λ (z : ℕ) (zs : List ℕ). z ∷ zs) (h 0 (omega arith)) (same_list xs ys (omega arith) (λ k lt. h (suc k) (omega arith)))

pub whole_same : (d : Reading) (f : FormatKind) (o : ℕ) (fs : List ℕ) → d.row.format ≡ f → d.row.opcode ≡ o → d.slots ≡ fs →
    ◌≡◌ {A = Reading} (record { row = record { format = f; opcode = o }; slots = fs }) d
whole_same d f o fs e g h = rw (← e, ← g, ← h) refl

pub read_same : (row : MachineRow) (bytes n : ℕ) (d : Reading) (fs : List ℕ) → IsReadAs row bytes n d → length fs ≡ 10 →
    ((k : ℕ) → k < 10 → get_or fs k 0 ≡ field (layout_of row.format) n k) → d.slots ≡ fs
read_same row bytes n d fs r len h =
    same_list d.slots fs (r.fit.0 ∙ sym len) (λ k lt.
    let k10 : k < 10 = omega (arith, r.fit.0) in
    sym (field-number (layout_of row.format) d.slots k (layout_slot _ k (layout_ok row.format) k10).0 (r.fit.1 k k10))
    ∙ ap (λ (z : ℕ). field (layout_of row.format) z k) r.number_is ∙ sym (h k k10))

-- the fields of a number in a format are these alone
pub fields_same : (f : FormatKind) (n : ℕ) (gs fs : List ℕ) → SlotsFit (layout_of f) gs → number (layout_of f) gs ≡ n → length fs ≡ 10 →
    ((k : ℕ) → k < 10 → get_or fs k 0 ≡ field (layout_of f) n k) → fs ≡ gs
fields_same f n gs fs r e len h =
    same_list fs gs (len ∙ sym r.0) (λ k lt.
    let k10 : k < 10 = omega (arith, len) in
    h k k10 ∙ ap (λ (z : ℕ). field (layout_of f) z k) (sym e)
    ∙ field-number (layout_of f) gs k (layout_slot _ k (layout_ok f) k10).0 (r.1 k k10))
