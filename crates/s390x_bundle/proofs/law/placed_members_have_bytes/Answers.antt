use Rattle.s390x_bundle.proofs.Starting.{each_has_bytes}
use Rattle.s390x_bundle.proofs.law.placed_members_have_bytes.Goals as goal

pub returns : goal.returns
returns c = each_has_bytes
