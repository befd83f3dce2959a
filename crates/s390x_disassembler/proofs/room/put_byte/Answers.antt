use Rattle.std.proofs.Common.{[], ◌∷◌, arith}
use Rattle.s390x_disassembler.proofs.Fitting.{no_room}
use Rattle.s390x_disassembler.proofs.room.put_byte.Goals as goal

pub returns-else-len-lt96 : goal.returns-else-len-lt96
returns-else-len-lt96 c = no_room c.args.out.now.items (c.args.byte ∷ []) (omega (arith, c.if-len-lt96.false, c.len.ensures.value))
