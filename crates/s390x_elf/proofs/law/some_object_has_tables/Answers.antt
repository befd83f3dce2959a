use Rattle.s390x_elf.proofs.Example.{tables_are_read}
use Rattle.s390x_elf.proofs.law.some_object_has_tables.Goals as goal

pub returns : goal.returns
returns c = tables_are_read
