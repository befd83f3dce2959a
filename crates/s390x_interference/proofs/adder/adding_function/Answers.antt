use Rattle.s390x_typed_steps.specs.Calls.{safepoint}
use Rattle.s390x_interference.proofs.Adding.{function_is}
use Rattle.s390x_interference.proofs.adder.adding_function.Goals as goal

pub returns-clause-trees : goal.returns-clause-trees
returns-clause-trees c = λ flags e. function_is flags e c.in_ok-vec.field-0.items c.in_ok-insts.insts c.in_ok-adding_loop.field-0 c.gpr.result (c.in_ok-adding_loop.ensures (safepoint e c.in_ok-adding_loop.field-0)) c.gpr.ensures c.in_ok-insts.ensures.items c.in_ok-vec.ensures.items
