use Rattle.std.proofs.Common.{sym, ◌∙◌}
use Rattle.s390x_emit_int.proofs.Single.{ok_code, err_code}
use Rattle.s390x_emit_int.proofs.conditional.emit_under.Goals as goal

pub returns-in-Ok-clause-answer : goal.returns-in-Ok-clause-answer
returns-in-Ok-clause-answer c = λ valid m is. let own = ok_code valid m c.in-Ok.code (sym c.in-Ok.is ∙ is) in c.put_under.ensures.answer m own.1

pub returns-in-Ok-clause-only_memory : goal.returns-in-Ok-clause-only_memory
returns-in-Ok-clause-only_memory c = λ valid m is put v. let own = ok_code valid m c.in-Ok.code (sym c.in-Ok.is ∙ is) in c.put_under.ensures.only_memory m own.1 put

pub returns-in-Err-clause-only_memory : goal.returns-in-Err-clause-only_memory
returns-in-Err-clause-only_memory c = λ valid m is put v.
    let own = err_code valid m c.in-Err.error (sym c.in-Err.is ∙ is) in
    let invalid = own.0 in
    absurd (cc)
