use Rattle.std.proofs.Common.{ap, ◌∙◌, cond, length}
use Rattle.s390x_buffer.specs.State.{put_cause}
use Rattle.s390x_typed_steps.specs.MachineInstruction.{size_of}
use Rattle.s390x_emit_int.proofs.OnlyMemory.{only_memory_again, only_memory_of_call}
use Rattle.s390x_emit_int.proofs.Runs.{length-bytes}
use Rattle.s390x_emit_int.proofs.Skipping.{skip_room, move_room}
use Rattle.s390x_emit_int.proofs.conditional.put_under.Goals as goal

pub returns-in_err-put_skip-clause-only_memory : goal.returns-in_err-put_skip-clause-only_memory
returns-in_err-put_skip-clause-only_memory c = λ m is put. only_memory_again c.from_residual.result _ c.from_residual.ensures.1 (c.in_err-put_skip.ensures.only_memory (skip_room c.args.sink.now (size_of m) put))

pub returns-clause-only_memory : goal.returns-clause-only_memory
returns-clause-only_memory c = λ m is put.
    let t = c.put_skip.new.sink in
    only_memory_of_call _ _ _ c.put_code.result c.put_code.ensures.answer (ap (put_cause t) (ap length is ∙ length-bytes m) ∙ move_room c.args.sink.now t c.args.mask (cond c.args.short 3 5) (size_of m) put c.in_ok-put_skip.ensures.answer)
