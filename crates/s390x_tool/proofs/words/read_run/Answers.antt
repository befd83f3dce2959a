use Rattle.std.proofs.Common.{◌^◌, ◌<◌, arith, sym, ◌∙◌}
use Rattle.std.proofs.lemmas.Fmt.{decimal_injective}
use Rattle.s390x_tool.proofs.Told.{none_of_run}
use Rattle.s390x_tool.proofs.words.read_run.Goals as goal

pub returns-then-steps-gt-MOST_STEPS-clause-none : goal.returns-then-steps-gt-MOST_STEPS-clause-none
returns-then-steps-gt-MOST_STEPS-clause-none c =
    none_of_run c.args.base.now c.args.steps.now
    (λ m n low few first second.
    let small : c.in_ok-steps.steps < 2 ^ 64 = search in
    let same = decimal_injective n c.in_ok-steps.steps (omega arith) small (sym second ∙ c.in_ok-steps.ensures.some) in
    omega (arith, same, few, c.if-steps-gt-MOST_STEPS.true))
