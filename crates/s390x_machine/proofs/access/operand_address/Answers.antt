use Rattle.std.proofs.Common.{refl, sym, subst, ◌∙◌}
use Rattle.s390x_operations.specs.declared.operand.Source.{Source}
use Rattle.s390x_machine.specs.Step.{StandsAt}
use Rattle.s390x_machine.proofs.access.operand_address.Goals as goal

pub returns-in-Memory : goal.returns-in-Memory
returns-in-Memory c = subst (λ (s : Source). StandsAt s c.in-Memory.address c.args.n) (sym c.in-Memory.is) refl

pub returns-else-is_misaligned : goal.returns-else-is_misaligned
returns-else-is_misaligned c = subst (λ (s : Source). StandsAt s c.in-AlignedMemory.address c.args.n) (sym c.in-AlignedMemory.is) (refl, sym c.is_misaligned.ensures ∙ c.if-is_misaligned.false)
