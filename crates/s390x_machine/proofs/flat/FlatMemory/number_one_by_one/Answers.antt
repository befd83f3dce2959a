use Rattle.s390x_machine.proofs.flat.FlatMemory.number_one_by_one.Goals as goal

pub number_from-requires-clause-holds : goal.number_from-requires-clause-holds
number_from-requires-clause-holds c = λ k lt. tt
