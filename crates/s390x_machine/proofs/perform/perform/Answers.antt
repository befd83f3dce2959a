use Rattle.std.proofs.Common.{sym, ◌∙◌}
use Rattle.s390x_operations.specs.Effects.{access}
use Rattle.s390x_machine.proofs.Reached.{none_of, reached_of}
use Rattle.s390x_machine.proofs.perform.perform.Goals as goal

pub act-requires-clause-there : goal.act-requires-clause-there
act-requires-clause-there g c =
    reached_of (access c.args.op.now.effect) (g.M.Memory.held c.args.memory.now) (sym c.access_fault-fault.ensures ∙ none_of c.access_fault-fault.result (sym c.is_some.ensures ∙ c.if-is_some.false))
