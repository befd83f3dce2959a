use Rattle.s390x_address.proofs.Standing.{vector_standing}
use Rattle.s390x_address.proofs.standing_operand.short_code.Goals as goal

pub returns-in-Vector : goal.returns-in-Vector
returns-in-Vector c = λ accesses operands_valid reads_scratch flags.
    let i = c.in-Vector in
    vector_standing c.vrx_code.result c.args.rows.now i.register c.args.base c.args.index i.vrx i.mask c.args.disp flags accesses operands_valid reads_scratch i.is c.vrx_code.ensures
