use Rattle.std.proofs.Common.{◌≡◌, rules, IfSome, None, Some, cond, unsigned_abs, subst, to_z, of_z}
use Rattle.std.specs.Int.{w16, w128}
use Rattle.std.proofs.lemmas.Int.{to_z-of_z}
use Rattle.s390x_base.specs.Regs.{number_of}
use Rattle.s390x_typed_steps.specs.General.{low_12, low_halfword}
use Rattle.s390x_typed_steps.specs.MachineInstruction.{bytes_of, sil}
use Rattle.s390x_typed_steps.specs.Operands.{fits_12}
use Rattle.s390x_address.proofs.Displacing.{halfword_rows}
use Rattle.s390x_address.proofs.direct_offset.halfword_offset_code.Goals as goal

pub returns-in-Some : goal.returns-in-Some
returns-in-Some c = λ accesses operands_valid reads_scratch flags.
    let i = c.in-Halfword in
    let d = c.in-Some in
    let whole : to_z w16 (of_z w16 i.imm) ≡ i.imm = search rules in
    let same = subst (λ z. IfSome c.halfword_code.result (λ code. code ≡ bytes_of (sil i.sil (number_of c.args.base) (low_12 d.disp) (low_halfword z)))) whole c.halfword_code.ensures in
    halfword_rows c.halfword_code.result c.args.rows.now i.imm i.sil d.disp c.args.base c.args.off flags accesses operands_valid reads_scratch i.is (subst (λ z. Some d.disp ≡ cond (fits_12 z) (Some (unsigned_abs z)) None) (to_z-of_z w128 c.args.off c.ranges.off) d.ensures) same
