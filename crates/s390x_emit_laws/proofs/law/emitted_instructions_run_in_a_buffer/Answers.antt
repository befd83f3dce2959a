use Rattle.s390x_emit_laws.proofs.Behind.{runs_behind}
use Rattle.s390x_emit_laws.proofs.law.emitted_instructions_run_in_a_buffer.Goals as goal

pub returns : goal.returns
returns c = λ off flags e s i image is there k x at. runs_behind off flags e s i image is there k x at
