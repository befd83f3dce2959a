use Rattle.std.proofs.Common.{ap, sym, ◌∙◌, length}
use Rattle.s390x_buffer.specs.State.{put_cause}
use Rattle.s390x_emit_int.proofs.Answering.{on_ok}
use Rattle.s390x_emit_int.proofs.Runs.{length-bytes}
use Rattle.s390x_emit_int.proofs.Single.{ok_code, err_code}
use Rattle.s390x_emit_int.proofs.instruction.emit_found.Goals as goal

pub returns-in-Ok-clause-answer : goal.returns-in-Ok-clause-answer
returns-in-Ok-clause-answer c = λ x is.
    let own = ok_code x.operands_valid x.row c.in-Ok.code (sym c.in-Ok.is ∙ is) in
    on_ok c.emit_code.result (c.emit_code.ensures.answer x.row own.1) (λ e. (own.0, e))

pub returns-in-Ok-clause-only_memory : goal.returns-in-Ok-clause-only_memory
returns-in-Ok-clause-only_memory c = λ x is put valid.
    let own = ok_code x.operands_valid x.row c.in-Ok.code (sym c.in-Ok.is ∙ is) in
    c.emit_code.ensures.only_memory (ap (put_cause c.args.sink.now) (ap length own.1 ∙ length-bytes x.row) ∙ put)

pub returns-in-Err-clause-only_memory : goal.returns-in-Err-clause-only_memory
returns-in-Err-clause-only_memory c = λ x is put valid.
    let own = err_code x.operands_valid x.row c.in-Err.error (sym c.in-Err.is ∙ is) in
    let invalid = own.0 in
    absurd (cc)
