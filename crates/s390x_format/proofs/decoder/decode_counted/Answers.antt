use Rattle.std.proofs.Common.{◌∙◌}
use Rattle.s390x_format.proofs.decoder.decode_counted.Goals as goal

pub returns-clause-complete : goal.returns-clause-complete
returns-clause-complete g c d h = c.decoded_in.ensures ∙ c.locate_counted.ensures.complete d h
