use Rattle.s390x_execution.proofs.Executing.{broken_off, walks_further}
use Rattle.s390x_execution.proofs.execution.execute.Goals as goal

pub loop-went-preserved : goal.loop-went-preserved
loop-went-preserved g c = walks_further c.loop-went.went _ _ _ c.loop-went.invariant c.in-None.ensures

pub returns-in-Some : goal.returns-in-Some
returns-in-Some g c = broken_off c.args.steps c.loop-went.went _ _ _ c.in-Some.end c.loop-went-test.true c.loop-went.invariant c.in-Some.ensures
