use Rattle.s390x_machine.proofs.flat.FlatMemory.byte_found.Goals as goal

pub region_byte-requires : goal.region_byte-requires
region_byte-requires c = c.in-Some.ensures

pub returns-in-Some : goal.returns-in-Some
returns-in-Some c = (c.region_byte.ensures.held, c.region_byte.ensures.value)
