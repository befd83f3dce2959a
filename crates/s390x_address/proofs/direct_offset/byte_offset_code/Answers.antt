use Rattle.std.proofs.Common.{◌≡◌, None, Some, cond, unsigned_abs, subst}
use Rattle.std.specs.Int.{w128}
use Rattle.std.proofs.lemmas.Int.{to_z-of_z}
use Rattle.s390x_typed_steps.specs.Operands.{fits_12, fits_20}
use Rattle.s390x_address.proofs.Displacing.{short_byte_rows, long_byte_rows}
use Rattle.s390x_address.proofs.direct_offset.byte_offset_code.Goals as goal

pub returns-in-Some : goal.returns-in-Some
returns-in-Some c = λ accesses operands_valid reads_scratch flags.
    let i = c.in-Byte in
    let d = c.in-Some in
    short_byte_rows c.short_byte_code.result c.args.rows.now i.imm i.si i.siy d.disp c.args.base c.args.off flags accesses operands_valid reads_scratch i.is (subst (λ z. Some d.disp ≡ cond (fits_12 z) (Some (unsigned_abs z)) None) (to_z-of_z w128 c.args.off c.ranges.off) d.ensures) c.short_byte_code.ensures

pub returns-in-Some-long_displacement : goal.returns-in-Some-long_displacement
returns-in-Some-long_displacement c = λ accesses operands_valid reads_scratch flags.
    let i = c.in-Byte in
    let d = c.in-Some-long_displacement in
    let passed = to_z-of_z w128 c.args.off c.ranges.off in
    long_byte_rows c.long_byte_code.result c.args.rows.now i.imm i.si i.siy d.disp c.args.base c.args.off flags accesses operands_valid reads_scratch i.is (subst (λ z. None ≡ cond (fits_12 z) (Some (unsigned_abs z)) None) passed c.in-None.ensures) (subst (λ z. Some d.disp ≡ cond (fits_20 z) (Some z) None) passed d.ensures) c.long_byte_code.ensures
