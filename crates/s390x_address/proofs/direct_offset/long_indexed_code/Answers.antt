use Rattle.std.proofs.Common.{None, refl}
use Rattle.s390x_address.proofs.Displacing.{long_indexed}
use Rattle.s390x_address.proofs.direct_offset.long_indexed_code.Goals as goal

pub returns : goal.returns
returns c = λ ril_opcode accesses flags. long_indexed c.rxy_indexed_code.result c.args.register c.args.base None c.args.opcode ril_opcode c.in_ok-opcode.opcode flags accesses refl c.in_ok-opcode.was c.rxy_indexed_code.ensures
