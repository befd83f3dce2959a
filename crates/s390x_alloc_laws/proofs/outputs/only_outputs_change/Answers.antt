use Rattle.s390x_alloc_laws.proofs.Emitted.{emits_its_steps}
use Rattle.s390x_alloc_laws.proofs.OutputLaws.{changes_outputs}
use Rattle.s390x_alloc_laws.proofs.Machine.{machine_changes_outputs}
use Rattle.s390x_alloc_laws.proofs.Passed.{emitted_changes_outputs}
use Rattle.s390x_alloc_laws.proofs.outputs.only_outputs_change.Goals as goal

pub returns-clause-step : goal.returns-clause-step
returns-clause-step c = changes_outputs

pub returns-clause-emission : goal.returns-clause-emission
returns-clause-emission c = emits_its_steps

pub returns-clause-machine : goal.returns-clause-machine
returns-clause-machine c = machine_changes_outputs

pub returns-clause-emitted : goal.returns-clause-emitted
returns-clause-emitted c = emitted_changes_outputs
