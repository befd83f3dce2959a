use Rattle.std.proofs.Common.{refl, sym, subst}
use Rattle.s390x_operations.specs.declared.operand.Source.{Source}
use Rattle.s390x_operations.specs.declared.operand.Source.TheVariants.{Value}
use Rattle.s390x_machine.specs.State.{memory_of}
use Rattle.s390x_machine.specs.Step.{IsRead}
use Rattle.s390x_machine.proofs.value_step.bits_of.Goals as goal

pub returns-in-Value : goal.returns-in-Value
returns-in-Value g c =
    let m = memory_of (g.M.Memory.held c.args.memory.now) (g.M.Memory.byte c.args.memory.now) in
    let read : IsRead (Value c.in-Value.bits) c.args.width m c.in-Value.bits = record { reached = refl; is = refl } in
    subst (λ (s : Source). IsRead s c.args.width m c.in-Value.bits) (sym c.in-Value.is) read
