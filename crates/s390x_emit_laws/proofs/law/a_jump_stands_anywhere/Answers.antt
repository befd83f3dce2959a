use Rattle.s390x_emit_laws.proofs.Example.{jump_stands}
use Rattle.s390x_emit_laws.proofs.law.a_jump_stands_anywhere.Goals as goal

pub returns : goal.returns
returns c = jump_stands
