use Rattle.std.proofs.Common.{◌^◌, ◌<◌, arith, sym, ◌∙◌}
use Rattle.std.proofs.lemmas.Fmt.{decimal_injective}
use Rattle.s390x_tool.proofs.Told.{none_of_simulation}
use Rattle.s390x_tool.proofs.words.read_simulation.Goals as goal

pub returns-then-count-eq0-clause-none : goal.returns-then-count-eq0-clause-none
returns-then-count-eq0-clause-none c =
    none_of_simulation c.args.base.now c.args.word.now c.args.count.now c.args.steps.now c.args.start.now
    (λ base word count steps start range first second third fourth fifth.
    let small : c.in_ok-count.count < 2 ^ 64 = search in
    let same = decimal_injective count c.in_ok-count.count (omega (arith, range.3)) small (sym third ∙ c.in_ok-count.ensures.some) in
    omega (arith, same, range.2, c.if-count-eq0.true))

pub returns-then-count-gt-MOST_PROCESSORS-clause-none : goal.returns-then-count-gt-MOST_PROCESSORS-clause-none
returns-then-count-gt-MOST_PROCESSORS-clause-none c =
    none_of_simulation c.args.base.now c.args.word.now c.args.count.now c.args.steps.now c.args.start.now
    (λ base word count steps start range first second third fourth fifth.
    let small : c.in_ok-count.count < 2 ^ 64 = search in
    let same = decimal_injective count c.in_ok-count.count (omega (arith, range.3)) small (sym third ∙ c.in_ok-count.ensures.some) in
    omega (arith, same, range.3, c.if-count-gt-MOST_PROCESSORS.true))

pub returns-then-steps-gt-MOST_STEPS-clause-none : goal.returns-then-steps-gt-MOST_STEPS-clause-none
returns-then-steps-gt-MOST_STEPS-clause-none c =
    none_of_simulation c.args.base.now c.args.word.now c.args.count.now c.args.steps.now c.args.start.now
    (λ base word count steps start range first second third fourth fifth.
    let small : c.in_ok-steps.steps < 2 ^ 64 = search in
    let same = decimal_injective steps c.in_ok-steps.steps (omega (arith, range.4)) small (sym fourth ∙ c.in_ok-steps.ensures.some) in
    omega (arith, same, range.4, c.if-steps-gt-MOST_STEPS.true))

pub returns-then-start-gt4294967295-clause-none : goal.returns-then-start-gt4294967295-clause-none
returns-then-start-gt4294967295-clause-none c =
    none_of_simulation c.args.base.now c.args.word.now c.args.count.now c.args.steps.now c.args.start.now
    (λ base word count steps start range first second third fourth fifth.
    let small : c.in_ok-start.start < 2 ^ 64 = search in
    let same = decimal_injective start c.in_ok-start.start (omega (arith, range.5)) small (sym fifth ∙ c.in_ok-start.ensures.some) in
    omega (arith, same, range.5, c.if-start-gt4294967295.true))
