use Rattle.std.proofs.Common.{arith}
use Rattle.s390x_calls.proofs.Ending.{on_job}
use Rattle.s390x_c.specs.Emit.{EmitsJobTo, NothingIsWritten}
use Rattle.s390x_c.proofs.emit.emit.Goals as goal

pub returns-in-Ok-clause-answer : goal.returns-in-Ok-clause-answer
returns-in-Ok-clause-answer c =
    on_job c.args.input.now c.args.reason.now c.emit_job.new.reason
    (NothingIsWritten c.args.out.now c.emit_job.new.out c.args.sizes.now c.emit_job.new.sizes)
    (EmitsJobTo c.args.out.now c.emit_job.new.out c.args.sizes.now c.emit_job.new.sizes c.args.reason.now c.emit_job.new.reason)
    c.in-Ok.job c.emit_job.result (omega arith) c.in-Ok.ensures.job.0 c.in-Ok.ensures.job.1 c.in-Ok.ensures.one (λ e. e) (λ e. e) (λ e. e) c.emit_job.ensures.answer
