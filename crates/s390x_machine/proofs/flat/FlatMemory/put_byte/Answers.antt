use Rattle.s390x_machine.proofs.flat.FlatMemory.put_byte.Goals as goal

pub put_in-requires : goal.put_in-requires
put_in-requires c = c.in-Some.ensures

pub returns-in-None-clause-stays : goal.returns-in-None-clause-stays
returns-in-None-clause-stays c = λ a k h. h

pub returns-in-Some-clause-stays : goal.returns-in-Some-clause-stays
returns-in-Some-clause-stays c = c.put_in.ensures.stays
