use Rattle.s390x_machine.proofs.flat.FlatMemory.put_one_by_one.Goals as goal

pub put_number_from-requires-clause-holds : goal.put_number_from-requires-clause-holds
put_number_from-requires-clause-holds c = λ k lt. tt
