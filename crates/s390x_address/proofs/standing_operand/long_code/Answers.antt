use Rattle.s390x_address.proofs.Standing.{long_standing}
use Rattle.s390x_address.proofs.standing_operand.long_code.Goals as goal

pub returns-in-Some : goal.returns-in-Some
returns-in-Some c = λ accesses operands_valid reads_scratch flags.
    let i = c.in-OneRegister in
    long_standing c.rxy_code.result c.args.rows.now i.register c.args.base c.args.index i.rx i.rxy i.ril c.in-Some.opcode c.args.disp flags accesses operands_valid reads_scratch i.is c.in-Some.is c.rxy_code.ensures
