-- Each row of the table has semantics.
use Rattle.std.proofs.Common.{◌≡◌, ℕ, ◌<◌, Bool, true, false, List, Some, length, get_or, is_some, refl, sym, ap, ◌∙◌, true≢false}
use Rattle.std.proofs.lemmas.List.Folds.{list_all_at}
use Rattle.std.specs.List.{list_all}
use Rattle.s390x_format.specs.Fetch.{IsFetch, machine_rows}
use Rattle.s390x_format.specs.Reading.{no_row}
use Rattle.s390x_format.specs.declared.decoder.Decoded.{Decoded}
use Rattle.s390x_format.specs.declared.row.MachineRow.{MachineRow}
use Rattle.s390x_format.proofs.RowTable.{rows_rise}
use Rattle.s390x_machine.specs.Semantics.{semantics_in, semantics_of}
use Rattle.s390x_machine.proofs.Rising.{found}

has_semantics : MachineRow → Bool
has_semantics row = is_some (semantics_of row.opcode)

table_means : list_all has_semantics machine_rows ≡ true
unfolding has_semantics machine_rows semantics_of semantics_in
table_means = refl

pub row_means : (bytes : List ℕ) (d : Decoded) → IsFetch bytes d → is_some (semantics_of d.row.opcode) ≡ true
unfolding has_semantics
row_means bytes d h = ap (λ (o : ℕ). is_some (semantics_of o)) h.reading.opcode ∙ listed (has_semantics (get_or machine_rows h.reading.at no_row)) refl
  where
    listed : (b : Bool) → has_semantics (get_or machine_rows h.reading.at no_row) ≡ b → has_semantics (get_or machine_rows h.reading.at no_row) ≡ true
    listed true e = e
    listed false e = absurd (true≢false (sym table_means ∙ list_all_at has_semantics machine_rows h.reading.at no_row h.reading.in_table e))

-- the row at a place is the one whose semantics its opcode has
pub semantics_at_place : (i : ℕ) → i < length machine_rows → semantics_of (get_or machine_rows i no_row).opcode ≡ Some (get_or machine_rows i no_row).semantics
unfolding machine_rows semantics_of
semantics_at_place i lt = found 0 machine_rows i (get_or machine_rows i no_row).opcode no_row rows_rise lt refl
