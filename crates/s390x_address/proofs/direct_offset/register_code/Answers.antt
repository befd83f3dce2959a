use Rattle.std.proofs.Common.{◌≡◌, None, Some, cond, unsigned_abs, subst}
use Rattle.std.specs.Int.{w128}
use Rattle.std.proofs.lemmas.Int.{to_z-of_z}
use Rattle.s390x_typed_steps.specs.Operands.{fits_12}
use Rattle.s390x_address.proofs.Displacing.{short_rows, long_rows, unfit, IsLong}
use Rattle.s390x_address.proofs.direct_offset.register_code.Goals as goal

pub returns-in-Some-short_displacement : goal.returns-in-Some-short_displacement
returns-in-Some-short_displacement c = λ accesses operands_valid reads_scratch flags.
    let i = c.in-OneRegister in
    let d = c.in-Some-short_displacement in
    let passed = to_z-of_z w128 c.args.off c.ranges.off in
    short_rows c.short_code.result c.args.rows.now i.register i.rx i.rxy i.ril c.in-Some.opcode d.disp c.args.base c.args.off flags accesses operands_valid reads_scratch i.is c.in-Some.is (subst (λ z. Some d.disp ≡ cond (fits_12 z) (Some (unsigned_abs z)) None) passed d.ensures) c.short_code.ensures

pub returns-in-None-short_displacement : goal.returns-in-None-short_displacement
returns-in-None-short_displacement c = λ accesses operands_valid reads_scratch flags.
    let i = c.in-OneRegister in
    let off = c.args.off in
    let passed = to_z-of_z w128 off c.ranges.off in
    long_rows c.long_offset_code.result c.args.rows.now i.register i.rx i.rxy i.ril c.args.base off flags accesses operands_valid reads_scratch i.is (unfit (fits_12 off) (unsigned_abs off) i.rx (subst (λ z. None ≡ cond (fits_12 z) (Some (unsigned_abs z)) None) passed c.in-None-short_displacement.ensures)) (subst (λ z. IsLong c.long_offset_code.result i.register i.rxy c.args.base z) passed c.long_offset_code.ensures)

pub returns-in-None : goal.returns-in-None
returns-in-None c = λ accesses operands_valid reads_scratch flags.
    let i = c.in-OneRegister in
    let off = c.args.off in
    let found = c.long_offset_code-in-None in
    long_rows found.result c.args.rows.now i.register i.rx i.rxy i.ril c.args.base off flags accesses operands_valid reads_scratch i.is (λ h. c.in-None.is) (subst (λ z. IsLong found.result i.register i.rxy c.args.base z) (to_z-of_z w128 off c.ranges.off) found.ensures)
