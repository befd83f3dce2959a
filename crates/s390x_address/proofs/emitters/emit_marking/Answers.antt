use Rattle.s390x_buffer.proofs.Extending.{extends_on, extends_mark}
use Rattle.s390x_address.proofs.emitters.emit_marking.Goals as goal

pub returns-in-Err-clause-kept : goal.returns-in-Err-clause-kept
returns-in-Err-clause-kept c = extends_on _ _ _ c.emit_checked.ensures.kept (extends_mark _ _ c.poison.ensures)
