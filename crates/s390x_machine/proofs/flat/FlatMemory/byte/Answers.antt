use Rattle.s390x_machine.proofs.flat.FlatMemory.byte.Goals as goal

pub region_byte-requires : goal.region_byte-requires
region_byte-requires c = c.in-Some.ensures
