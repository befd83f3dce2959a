use Rattle.std.proofs.Common.{sym, ap, ◌∙◌}
use Rattle.s390x_buffer.specs.State.{put_cause}
use Rattle.s390x_typed_steps.specs.MachineInstruction.{format_e, bytes_of}
use Rattle.s390x_emit_int.specs.Fragments.{PutTrapping, apply}
use Rattle.s390x_emit_int.proofs.Answering.{on_ok}
use Rattle.s390x_emit_int.proofs.Leaves.{length-e, last_of_e}
use Rattle.s390x_emit_int.proofs.instruction.emit_trap.Goals as goal

pub returns-clause-answer : goal.returns-clause-answer
returns-clause-answer c =
    let s = c.args.sink.now in
    on_ok c.put_trapping.result c.put_trapping.ensures.answer (λ e.
    e ∙ ap (λ bs. apply s (PutTrapping bs 1 c.args.trap_code)) c.in_ok-code.ensures.bytes_are
    ∙ ap (λ n. apply s (PutTrapping (bytes_of (format_e 0)) n c.args.trap_code)) (sym (last_of_e 0)))

pub returns-clause-only_memory : goal.returns-clause-only_memory
returns-clause-only_memory c = λ put. c.put_trapping.ensures.only_memory (ap (put_cause c.args.sink.now) (length-e _ _ c.in_ok-code.ensures.bytes_are) ∙ put)
