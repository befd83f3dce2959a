use Rattle.s390x_emit_laws.proofs.Behind.{traps_behind}
use Rattle.s390x_emit_laws.proofs.Running.{finished_bytes, placed_bytes}
use Rattle.s390x_emit_laws.proofs.law.emitted_bytes_are_the_steps.Goals as goal

pub returns-clause-appended : goal.returns-clause-appended
returns-clause-appended c = placed_bytes

pub returns-clause-finished : goal.returns-clause-finished
returns-clause-finished c = finished_bytes

pub returns-clause-traps : goal.returns-clause-traps
returns-clause-traps c = traps_behind
