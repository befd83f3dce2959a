use Rattle.std.proofs.Common.{ap, ◌∙◌, ℤ, w64}
use Rattle.std.proofs.lemmas.Int.{to_z-of_z}
use Rattle.s390x_lanes.specs.Rows.{immediate_bits, with_immediate, operation_of}
use Rattle.s390x_lanes.proofs.lookup.operation.Goals as goal

pub returns-clause-value : goal.returns-clause-value
unfolding operation_of
returns-clause-value c =
    c.operation_in_row.ensures.value ∙ ap (λ (z : ℤ). with_immediate c.args.row c.args.masks (immediate_bits z)) (to_z-of_z w64 c.args.imm c.ranges.imm)
