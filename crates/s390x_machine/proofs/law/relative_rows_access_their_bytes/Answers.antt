use Rattle.s390x_machine.proofs.Aligned.{bytes_accessed}
use Rattle.s390x_machine.proofs.law.relative_rows_access_their_bytes.Goals as goal

pub returns : goal.returns
returns c = bytes_accessed
