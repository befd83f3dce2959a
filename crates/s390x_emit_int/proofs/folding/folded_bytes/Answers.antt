use Rattle.std.proofs.Common.{◌∙◌}
use Rattle.s390x_emit_int.specs.Function.{number_of_next}
use Rattle.s390x_emit_int.proofs.Shortening.{last_is}
use Rattle.s390x_emit_int.proofs.folding.folded_bytes.Goals as goal

pub returns-in-Some-clause-value : goal.returns-in-Some-clause-value
returns-in-Some-clause-value c = c.instruction_bytes.ensures.value ∙ last_is (number_of_next c.args.next) c.args.insts.now c.in-Some.inst.now c.in-Some.ensures.value
