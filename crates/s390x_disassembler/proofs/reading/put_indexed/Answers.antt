use Rattle.std.proofs.Common.{◌+◌}
use Rattle.s390x_disassembler.specs.Operands.{IsSet}
use Rattle.s390x_disassembler.proofs.OneOperand.{indexed_read}
use Rattle.s390x_disassembler.proofs.reading.put_indexed.Goals as goal

pub returns-clause-read : goal.returns-clause-read
returns-clause-read c =
    let second : IsSet (1 + c.args.index) c.registers-index_value.result.0 c.put_number-rest.new.slots c.set.new.slots = rw c.from.ensures at c.set.ensures.set in
    let third : IsSet (1 + c.args.base) c.registers-index_value.result.1 c.set.new.slots c.set-2.new.slots = rw c.from-2.ensures at c.set-2.ensures.set in
    indexed_read c.args.format c.args.address c.args.index c.args.base c.registers-index_value.result.0 c.registers-index_value.result.1 c.args.text.now c.args.slots.now c.put_number-rest.new.slots c.set.new.slots c.set-2.new.slots c.put_number-rest.result.now c.registers-index_value.result.2.now
    c.put_number-rest.ensures.set c.put_number-rest.ensures.rest c.registers-index_value.ensures second third
