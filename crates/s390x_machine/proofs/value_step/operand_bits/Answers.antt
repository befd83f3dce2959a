use Rattle.std.proofs.Common.{ℕ, IfSome, subst}
use Rattle.s390x_operations.specs.declared.operand.Source.{Source}
use Rattle.s390x_machine.specs.State.{memory_of}
use Rattle.s390x_machine.specs.Step.{IsRead}
use Rattle.s390x_machine.proofs.value_step.operand_bits.Goals as goal

pub returns : goal.returns
returns g c =
    let m = memory_of (g.M.Memory.held c.args.memory.now) (g.M.Memory.byte c.args.memory.now) in
    subst (λ (s : Source). IfSome c.bits_of.result (λ (bits : ℕ). IsRead s c.args.second.width m bits)) c.source-operand.ensures c.bits_of.ensures
