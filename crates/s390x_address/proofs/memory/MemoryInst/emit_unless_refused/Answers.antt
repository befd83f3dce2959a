use Rattle.s390x_typed_steps.specs.Causes.{declared_in}
use Rattle.s390x_address.specs.Rows.{memory_instruction_of}
use Rattle.s390x_address.proofs.Lowered.{none_valid}
use Rattle.s390x_address.proofs.memory.MemoryInst.emit_unless_refused.Goals as goal

-- what has no cause has valid registers
pub returns-else-has_valid_registers-clause-only_memory : goal.returns-else-has_valid_registers-clause-only_memory
returns-else-has_valid_registers-clause-only_memory c = λ put none.
    let valid = none_valid (declared_in c.args.sink.now) c.args.state.now (memory_instruction_of c.args.self.now) none in
    let here = c.has_valid_registers.ensures in
    let no = c.if-has_valid_registers.false in
    absurd (cc)
