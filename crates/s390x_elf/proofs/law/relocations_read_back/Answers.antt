use Rattle.s390x_elf.proofs.Tables.{relocations_read}
use Rattle.s390x_elf.proofs.law.relocations_read_back.Goals as goal

pub returns : goal.returns
returns c = relocations_read
