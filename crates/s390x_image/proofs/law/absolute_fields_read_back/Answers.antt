use Rattle.s390x_image.specs.ReadingBack.{absolute_round_trip}
use Rattle.s390x_image.proofs.law.absolute_fields_read_back.Goals as goal

pub returns : goal.returns
returns c = absolute_round_trip
