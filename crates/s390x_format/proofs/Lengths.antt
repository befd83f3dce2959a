-- The first byte of a row's bytes tells their length.
use Rattle.std.proofs.Common.{◌≡◌, ℕ, List, get_or, sym, ap, ◌∙◌}
use Rattle.s390x_format.specs.declared.kind.FormatKind.{FormatKind}
use Rattle.s390x_format.specs.declared.first_bytes.TheConstants.{FIRST_BYTES}
use Rattle.s390x_format.specs.declared.table.TheConstants.{MACHINE_ROWS}
use Rattle.s390x_format.specs.Layout.{SlotsFit}
use Rattle.s390x_format.specs.Formats.{layout_of, length_of}
use Rattle.s390x_format.specs.Rows.{fetch_length_of}
use Rattle.s390x_format.specs.Reading.{encode}
use Rattle.s390x_format.specs.Fetch.{machine_rows}
use Rattle.s390x_format.specs.Encoded.{IsEncoded}
use Rattle.s390x_format.proofs.Finding.{Known, known}
use Rattle.s390x_format.proofs.RowTable.{rows_are, rows_indexed}
use Rattle.s390x_format.proofs.Encoding.{encoded_alone, reading_of}

pub first_tells : (kind : FormatKind) (slots bytes : List ℕ) → SlotsFit (layout_of kind) slots → bytes ≡ encode kind slots → IsEncoded machine_rows kind slots →
    fetch_length_of (get_or bytes 0 0) ≡ length_of kind
unfolding machine_rows
first_tells kind slots bytes fit same e =
    let k : Known MACHINE_ROWS FIRST_BYTES bytes (reading_of kind slots) = known MACHINE_ROWS FIRST_BYTES bytes (reading_of kind slots) rows_are rows_indexed (encoded_alone MACHINE_ROWS kind slots bytes fit same e) in
    sym (ap length_of k.read.format ∙ k.read.bytes_are)
