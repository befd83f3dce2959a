use Rattle.s390x_elf.proofs.Files.{file_read}
use Rattle.s390x_elf.proofs.law.files_read_back.Goals as goal

pub returns : goal.returns
returns c = file_read
