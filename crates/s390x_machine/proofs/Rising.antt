-- The semantics of an opcode in a list of rows whose opcodes rise.
use Rattle.std.proofs.Common.{◌≡◌, ℕ, zero, suc, ◌+◌, ◌<◌, ◌≤◌, true, Bool, if◌then◌else◌, List, [], ◌∷◌, Some, length, get_or, ap, ◌∙◌, arith, eq-eqb, ne_eqb}
use Rattle.std.specs.Prelude.{nat_le}
use Rattle.std.proofs.lemmas.Bool.{and_parts, leb-true}
use Rattle.s390x_format.specs.declared.row.MachineRow.{MachineRow}
use Rattle.s390x_format.specs.Rows.{rises}
use Rattle.s390x_machine.specs.Semantics.{semantics_in}

rises_low : (n : ℕ) (rows : List MachineRow) (i : ℕ) (z : MachineRow) → rises n rows ≡ true → i < length rows → n ≤ (get_or rows i z).opcode
unfolding rises
rises_low n [] i z h lt = absurd (omega arith)
rises_low n (r ∷ rows) zero z h lt = leb-true n r.opcode (and_parts (nat_le n r.opcode) (rises (r.opcode + 1) rows) h).0
rises_low n (r ∷ rows) (suc i) z h lt =
    let t = and_parts (nat_le n r.opcode) (rises (r.opcode + 1) rows) h in
    let a : n ≤ r.opcode = leb-true n r.opcode t.0 in
    let b : r.opcode + 1 ≤ (get_or rows i z).opcode = rises_low (r.opcode + 1) rows i z t.1 (omega arith) in
    omega arith

-- the row with the opcode is the one whose semantics counts
pub found : (n : ℕ) (rows : List MachineRow) (i opcode : ℕ) (z : MachineRow) → rises n rows ≡ true → i < length rows → (get_or rows i z).opcode ≡ opcode → semantics_in rows opcode ≡ Some (get_or rows i z).semantics
unfolding rises semantics_in
found n [] i opcode z h lt e = absurd (omega arith)
found n (r ∷ rows) zero opcode z h lt e = ap (λ (b : Bool). if b then Some r.semantics else semantics_in rows opcode) (eq-eqb r.opcode opcode e)
found n (r ∷ rows) (suc i) opcode z h lt e =
    let t = (and_parts (nat_le n r.opcode) (rises (r.opcode + 1) rows) h).1 in
    let above : r.opcode + 1 ≤ (get_or rows i z).opcode = rises_low (r.opcode + 1) rows i z t (omega arith) in
    ap (λ (b : Bool). if b then Some r.semantics else semantics_in rows opcode) (ne_eqb r.opcode opcode (λ same. absurd (omega (arith, above, e, same))))
    ∙ found (r.opcode + 1) rows i opcode z t (omega arith) e
