use Rattle.std.proofs.Common.{ℕ, ap, ◌∙◌}
use Rattle.s390x_format.specs.declared.first_bytes.TheConstants.{FIRST_BYTES}
use Rattle.s390x_format.specs.declared.row_offsets.TheConstants.{ROW_OFFSETS}
use Rattle.s390x_format.specs.Index.{place_in}
use Rattle.s390x_format.specs.Stems.{indexed_place, first_digits}
use Rattle.s390x_format.proofs.RowTable.{offsets_have_room}
use Rattle.s390x_format.proofs.mnemonic_stem.indexed_place.Goals as goal

pub row_place-requires : goal.row_place-requires
row_place-requires c = offsets_have_room

pub returns : goal.returns
unfolding indexed_place
returns c =
    c.row_place.ensures
    ∙ ap (λ (n : ℕ). place_in FIRST_BYTES ROW_OFFSETS n c.last_digits.result) c.first_digits.ensures
    ∙ ap (λ (n : ℕ). place_in FIRST_BYTES ROW_OFFSETS (first_digits c.args.opcode) n) c.last_digits.ensures
