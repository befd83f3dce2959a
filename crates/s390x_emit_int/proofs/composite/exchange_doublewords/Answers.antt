use Rattle.s390x_base.specs.Regs.{number_of}
use Rattle.s390x_format.specs.Formats.{length_of}
use Rattle.s390x_typed_steps.specs.VectorComposite.{exchanges_doublewords}
use Rattle.s390x_typed_steps.specs.VectorInstruction.{is_vector}
use Rattle.s390x_emit_int.proofs.Composing.{second_again}
use Rattle.s390x_emit_int.proofs.composite.exchange_doublewords.Goals as goal

pub returns-clause-only_memory : goal.returns-clause-only_memory
unfolding length_of
returns-clause-only_memory c = λ put valid.
    c.put_found.ensures.only_memory _ (exchanges_doublewords (number_of c.args.rd.now) (number_of c.args.rn.now)) c.three_vectors-found.ensures put (second_again (is_vector c.args.rd.now) (is_vector c.args.rn.now) valid)
