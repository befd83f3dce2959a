use Rattle.s390x_operations.proofs.byte_values.+ones_by_byte.Given as goal

abbrev pub decreases-ones_by_byte : goal.decreases-ones_by_byte
decreases-ones_by_byte l = l.n
