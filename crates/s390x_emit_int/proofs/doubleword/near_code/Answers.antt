use Rattle.std.proofs.Common.{◌≡◌, rules, Some, None, cond, IfSome, sym, subst, to_z, of_z}
use Rattle.std.specs.Int.{w64}
use Rattle.s390x_base.specs.Regs.{number_of}
use Rattle.s390x_typed_steps.specs.General.{low_displacement}
use Rattle.s390x_typed_steps.specs.MachineInstruction.{bytes_of, rxy}
use Rattle.s390x_typed_steps.specs.Operands.{fits_20}
use Rattle.s390x_emit_int.specs.Doubleword.{opcode_of}
use Rattle.s390x_emit_int.proofs.Doublewords.{near_passed}
use Rattle.s390x_emit_int.proofs.doubleword.near_code.Goals as goal

pub returns : goal.returns
returns c =
    let a = c.args.access.now in
    let disp = c.in_ok-disp.disp in
    let same = subst (λ r. IfSome c.row_code.result (λ code. code ≡ bytes_of (rxy (opcode_of a) (number_of a.register) (number_of a.base) (number_of r) (low_displacement disp)))) c.zero_reg.ensures c.row_code.ensures in
    let whole : to_z w64 (of_z w64 a.off) ≡ a.off = search rules in
    let fits = subst (λ z. Some disp ≡ cond (fits_20 z) (Some z) None) whole c.in_ok-disp.ensures in
    near_passed a disp c.row_code.result (sym c.if-not-has_valid_registers.ensures) fits same
