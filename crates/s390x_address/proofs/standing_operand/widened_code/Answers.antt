use Rattle.s390x_address.proofs.Standing.{widened_standing}
use Rattle.s390x_address.proofs.standing_operand.widened_code.Goals as goal

pub returns : goal.returns
returns c = λ ril_opcode accesses operands_valid reads_scratch flags. widened_standing c.rxy_code.result c.args.register c.args.base c.args.index c.args.opcode ril_opcode c.in_ok-opcode.opcode c.args.disp c.from_uimm12.result flags accesses operands_valid reads_scratch c.in_ok-opcode.was c.from_uimm12.ensures c.rxy_code.ensures
