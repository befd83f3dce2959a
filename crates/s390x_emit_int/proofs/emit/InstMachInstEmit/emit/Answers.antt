use Rattle.std.proofs.Common.{sym, refl, subst, IsTrue}
use Rattle.s390x_buffer.proofs.Extending.{extends_on, extends_mark}
use Rattle.s390x_emit_int.proofs.Short.{puts_few}
use Rattle.s390x_emit_int.proofs.emit.InstMachInstEmit.emit.Goals as goal

pub returns-in-Ok-clause-few : goal.returns-in-Ok-clause-few
returns-in-Ok-clause-few c = λ short. puts_few c.args.emit_info.now.isa_flags c.args.state.now c.args.self.now c.args.sink.now c.emit_in.new.sink short c.in-Ok.ensures.answer.1

pub returns-in-Err-clause-answer : goal.returns-in-Err-clause-answer
returns-in-Err-clause-answer c = (c.in-Err.ensures.answer.0, subst (λ s. IsTrue s.is_poisoned) (sym c.poison-in-Err.ensures) refl, c.in-Err.ensures.answer.1)

pub returns-in-Err-clause-kept : goal.returns-in-Err-clause-kept
returns-in-Err-clause-kept c = extends_on _ _ _ c.emit_in.ensures.kept (extends_mark _ _ c.poison-in-Err.ensures)

pub returns-in-Err-clause-refused : goal.returns-in-Err-clause-refused
returns-in-Err-clause-refused c = (subst (λ s. IsTrue s.is_poisoned) (sym c.poison-in-Err.ensures) refl, c.in-Err.ensures.answer.1)
