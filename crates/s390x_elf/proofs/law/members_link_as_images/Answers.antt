use Rattle.s390x_elf.proofs.Joined.{members_linked}
use Rattle.s390x_elf.proofs.law.members_link_as_images.Goals as goal

pub returns : goal.returns
returns c = members_linked
