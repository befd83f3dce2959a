use Rattle.std.proofs.Common.{◌∙◌}
use Rattle.s390x_format.proofs.decoder.decode.Goals as goal

pub returns-clause-complete : goal.returns-clause-complete
returns-clause-complete c d h = c.decoded_in.ensures ∙ c.locate.ensures.complete d h
