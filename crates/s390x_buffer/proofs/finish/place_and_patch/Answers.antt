use Rattle.std.proofs.Common.{arith, ap, length}
use Rattle.s390x_buffer.proofs.Placing.{length-starts_of}
use Rattle.s390x_buffer.proofs.finish.place_and_patch.Goals as goal

pub bind_starts-requires : goal.bind_starts-requires
bind_starts-requires c =
    omega (arith, length-starts_of (length c.args.bytes.now.items) c.args.constants.now, ap length c.in-Ok.ensures.0)
