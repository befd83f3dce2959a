use Rattle.std.proofs.Common.{◌≡◌, None, Some, cond, subst}
use Rattle.std.specs.Int.{w128}
use Rattle.std.proofs.lemmas.Int.{to_z-of_z}
use Rattle.s390x_typed_steps.specs.Operands.{fits_20}
use Rattle.s390x_address.proofs.Displacing.{long_found}
use Rattle.s390x_address.proofs.direct_offset.long_offset_code.Goals as goal

pub returns : goal.returns
returns c =
    let d = c.in_ok-disp in
    long_found c.long_code.result c.args.opcode c.in_ok-opcode.opcode c.args.register c.args.base d.disp c.args.off c.in_ok-opcode.was (subst (λ z. Some d.disp ≡ cond (fits_20 z) (Some z) None) (to_z-of_z w128 c.args.off c.ranges.off) d.ensures) c.long_code.ensures
