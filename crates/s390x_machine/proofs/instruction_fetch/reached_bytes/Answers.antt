use Rattle.s390x_format.specs.Rows.{fetch_length_of}
use Rattle.s390x_machine.proofs.Reading.{fewer_bytes, length_few}
use Rattle.s390x_machine.proofs.instruction_fetch.reached_bytes.Goals as goal

pub returns-in-Some : goal.returns-in-Some
returns-in-Some g c =
    let held = g.M.Memory.held c.args.memory.now in
    let byte = g.M.Memory.byte c.args.memory.now in
    fewer_bytes held byte c.args.place 6 (fetch_length_of (byte c.args.place)) c.in-Some.bytes (length_few (byte c.args.place)) c.in-Some.ensures
