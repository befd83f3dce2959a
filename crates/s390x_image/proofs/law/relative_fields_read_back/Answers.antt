use Rattle.s390x_image.specs.ReadingBack.{relative_round_trip}
use Rattle.s390x_image.proofs.law.relative_fields_read_back.Goals as goal

pub returns : goal.returns
returns c = relative_round_trip
