use Rattle.s390x_typed_steps.proofs.CallRows.{call_stays, tail_stays}
use Rattle.s390x_typed_steps.proofs.law.calls_keep_their_steps.Goals as goal

pub returns-clause-calls : goal.returns-clause-calls
returns-clause-calls c = call_stays

pub returns-clause-tail_calls : goal.returns-clause-tail_calls
returns-clause-tail_calls c = tail_stays
