use Rattle.s390x_emit_laws.proofs.Running.{runs_alone}
use Rattle.s390x_emit_laws.proofs.law.emitted_instructions_run_anywhere.Goals as goal

pub returns : goal.returns
returns c = λ off flags e s i image is there k x at. runs_alone off flags e s i is image there k x at
