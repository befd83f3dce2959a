use Rattle.std.proofs.Common.{arith}
use Rattle.s390x_disassembler.proofs.first_line.ends_well.Goals as goal

pub returns-then-bytes-fetch_length-clause-bytes : goal.returns-then-bytes-fetch_length-clause-bytes
returns-then-bytes-fetch_length-clause-bytes c = λ i. omega (arith, c.type_inv.bytes i)

pub returns-else-bytes-fetch_length-clause-bytes : goal.returns-else-bytes-fetch_length-clause-bytes
returns-else-bytes-fetch_length-clause-bytes c = λ i. omega (arith, c.type_inv.bytes i)
