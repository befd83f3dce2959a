use Rattle.s390x_buffer.proofs.Extending.{extends_on}
use Rattle.s390x_emit_int.proofs.OnlyMemory.{only_memory_of_call, mark_none}
use Rattle.s390x_emit_int.proofs.Sequence.{jump_emits, jump_failed}
use Rattle.s390x_emit_int.proofs.Answering.{on_both}
use Rattle.s390x_emit_int.proofs.calls.emit_tail_jump.Goals as goal

pub returns-in_err-put_tail : goal.returns-in_err-put_tail
returns-in_err-put_tail c = λ flags after depth nominal.
    jump_failed flags c.args.sink.now c.start_step.new.self c.put_tail.new.sink after depth nominal c.args.dest.now c.from_residual-in_err-put_tail.result _ c.in_ok-start_step.ensures.answer.1 (λ put. c.in_err-put_tail.ensures.only_memory put c.requires)
    c.from_residual-in_err-put_tail.ensures.1 (extends_on _ _ _ c.start_step.ensures.kept c.put_tail.ensures.kept)

pub returns : goal.returns
returns c = λ flags after depth nominal.
    jump_emits flags c.args.sink.now c.start_step.new.self c.put_tail.new.sink c.add_call_site.new.self after depth nominal c.args.dest.now c.add_call_site.result c.requires c.in_ok-start_step.ensures.answer.1 c.in_ok-put_tail.ensures.answer
    (on_both _ c.add_call_site.result c.add_call_site.ensures.answer (λ p. p.1)) (λ free. only_memory_of_call _ _ _ c.add_call_site.result c.add_call_site.ensures.answer (mark_none c.put_tail.new.sink free)) (extends_on _ _ _ c.start_step.ensures.kept (extends_on _ _ _ c.put_tail.ensures.kept c.add_call_site.ensures.kept))
