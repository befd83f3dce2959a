use Rattle.std.proofs.Common.{◌+◌}
use Rattle.s390x_disassembler.specs.Operands.{IsSet}
use Rattle.s390x_disassembler.proofs.OneOperand.{storage_read}
use Rattle.s390x_disassembler.proofs.reading.put_storage.Goals as goal

pub returns-clause-read : goal.returns-clause-read
returns-clause-read c =
    let second : IsSet (1 + c.args.base) c.registers-base_value.result.1 c.put_number-rest.new.slots c.set.new.slots = rw c.from.ensures at c.set.ensures.set in
    storage_read c.args.format c.args.address c.args.base c.registers-base_value.result.0 c.registers-base_value.result.1 c.args.text.now c.args.slots.now c.put_number-rest.new.slots c.set.new.slots c.put_number-rest.result.now c.registers-base_value.result.2.now
    c.put_number-rest.ensures.set c.put_number-rest.ensures.rest c.registers-base_value.ensures second
