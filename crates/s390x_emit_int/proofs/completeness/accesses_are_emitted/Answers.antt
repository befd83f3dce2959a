use Rattle.s390x_emit_int.proofs.EachEmitter.{each_emitter}
use Rattle.s390x_emit_int.proofs.completeness.accesses_are_emitted.Goals as goal

pub returns : goal.returns
returns c = each_emitter
