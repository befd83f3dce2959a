use Rattle.s390x_emit_int.proofs.Leaves.{where_passed}
use Rattle.s390x_emit_int.proofs.instruction.emit_two_branches.Goals as goal

pub returns-clause-only_memory : goal.returns-clause-only_memory
returns-clause-only_memory c = λ p lt. c.put_jump.ensures.only_memory (where_passed c.args.sink.now c.put_cond_jump.new.sink _ c.args.taken.0 c.args.not_taken.0 c.in_ok-put_cond_jump.ensures.answer p lt)
