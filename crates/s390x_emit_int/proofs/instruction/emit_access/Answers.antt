use Rattle.std.proofs.Common.{sym, ◌∙◌}
use Rattle.s390x_typed_steps.specs.Parts.{memory_parts}
use Rattle.s390x_address.specs.Rows.{memory_instruction_of, in_state}
use Rattle.s390x_address.proofs.Putting.{memory_put}
use Rattle.s390x_emit_int.proofs.Accessing.{parts_run}
use Rattle.s390x_emit_int.proofs.Answering.{on_ok}
use Rattle.s390x_emit_int.proofs.instruction.emit_access.Goals as goal

pub returns-clause-answer : goal.returns-clause-answer
returns-clause-answer c =
    let x = in_state c.args.state.now (memory_instruction_of c.args.found.now) in
    on_ok c.emit_unless_refused.result c.emit_unless_refused.ensures.answer (λ e. (e.0, e.1 ∙ sym (parts_run (memory_parts x) c.args.sink.now (memory_put x))))

pub returns-clause-range : goal.returns-clause-range
returns-clause-range c = c.reveal_displacement_range.ensures c.args.state.now
