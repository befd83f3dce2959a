use Rattle.std.proofs.Common.{◌≡◌, ℕ, ◌++◌, List, [], length, Option, Some, None, slice_get, refl, sym, ap, subst, ◌∙◌, arith}
use Rattle.std.proofs.lemmas.List.{append-nil}
use Rattle.s390x_base.specs.declared.regs.Reg.{Reg}
use Rattle.s390x_operands.specs.declared.constraint.Reported.{Reported}
use Rattle.s390x_operands.specs.declared.constraint.Reported.TheVariants.{Operand, Fixed, Clobbers}
use Rattle.s390x_alloc.specs.declared.assigned.GivenOperand.{GivenOperand}
use Rattle.s390x_alloc.specs.Assigned.{given_operand}
use Rattle.s390x_alloc.proofs.assigned.put_operand.Goals as goal

-- without a register nothing is given
nothing_given : (x : Reported) (o : Option Reg) → o ≡ None → given_operand x o ≡ []
nothing_given (Operand r c k p) (Some q) h = absurd cc
nothing_given x o h = refl

pub returns-in-None : goal.returns-in-None
returns-in-None c =
    let before = c.args.operands.now.items in
    let regs = c.args.regs.now in
    let counted : c.len.result ≡ length before = omega (arith, c.args.operands.now.ok.0) in
    let none : slice_get regs c.len.result ≡ None = cc in
    let nothing = subst (λ (n : ℕ). slice_get regs n ≡ None) counted none in
    sym (append-nil before) ∙ sym (ap (λ (l : List GivenOperand). before ++ l) (nothing_given c.args.item.now (slice_get regs (length before)) nothing))
