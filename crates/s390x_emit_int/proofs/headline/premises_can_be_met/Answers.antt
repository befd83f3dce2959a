use Rattle.s390x_emit_int.proofs.Example.{linked_loop_runs, linked_trap_runs, linked_call_stands}
use Rattle.s390x_emit_int.proofs.headline.premises_can_be_met.Goals as goal

pub returns-clause-goes_round : goal.returns-clause-goes_round
returns-clause-goes_round c = linked_loop_runs

pub returns-clause-stops : goal.returns-clause-stops
returns-clause-stops c = linked_trap_runs

pub returns-clause-calls : goal.returns-clause-calls
returns-clause-calls c = linked_call_stands
