use Rattle.s390x_elf.proofs.Finished.{object_is_filled}
use Rattle.s390x_elf.proofs.law.objects_link_as_filled.Goals as goal

pub returns : goal.returns
returns c = object_is_filled
