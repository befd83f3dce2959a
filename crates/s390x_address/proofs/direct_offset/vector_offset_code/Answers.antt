use Rattle.std.proofs.Common.{◌≡◌, None, Some, cond, unsigned_abs, subst}
use Rattle.std.specs.Int.{w128}
use Rattle.std.proofs.lemmas.Int.{to_z-of_z}
use Rattle.s390x_typed_steps.specs.Operands.{fits_12}
use Rattle.s390x_address.proofs.Displacing.{vector_rows}
use Rattle.s390x_address.proofs.direct_offset.vector_offset_code.Goals as goal

pub returns-in-Some : goal.returns-in-Some
returns-in-Some c = λ accesses operands_valid reads_scratch flags.
    let i = c.in-Vector in
    let d = c.in-Some in
    vector_rows c.vector_code.result c.args.rows.now i.register i.vrx i.mask d.disp c.args.base c.args.off flags accesses operands_valid reads_scratch i.is (subst (λ z. Some d.disp ≡ cond (fits_12 z) (Some (unsigned_abs z)) None) (to_z-of_z w128 c.args.off c.ranges.off) d.ensures) c.vector_code.ensures
