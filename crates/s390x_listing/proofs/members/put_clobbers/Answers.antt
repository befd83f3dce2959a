use Rattle.std.proofs.Common.{append_assoc, arith}
use Rattle.s390x_base.specs.Sets.{has}
use Rattle.s390x_listing.proofs.SetTexts.{both_classes}
use Rattle.s390x_listing.proofs.members.put_clobbers.Goals as goal

pub returns : goal.returns
returns c = grind (arith, both_classes (has c.args.set.now), append_assoc)
