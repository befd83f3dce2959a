use Rattle.std.proofs.Common.{◌≡◌, ◌∙◌, arith, subst}
use Rattle.s390x_binary_tool.specs.ImageText.{IsFirstDifference}
use Rattle.s390x_binary_tool.proofs.Differences.{differ_end, same_all}
use Rattle.s390x_binary_tool.proofs.image_text.first_difference.Goals as goal

pub returns-then-first-second : goal.returns-then-first-second
returns-then-first-second c =
    let at : c.loop-at.at ≡ c.min-least.result = omega arith in
    same_all c.args.first.now c.args.second.now c.loop-at.at c.loop-at.invariant (at ∙ c.min-least.ensures) (omega (arith, c.if-first-second.true))

pub returns-else-first-second : goal.returns-else-first-second
returns-else-first-second c =
    let at : c.loop-at.at ≡ c.min-least.result = omega arith in
    subst (λ n. IsFirstDifference c.args.first.now c.args.second.now n) at (differ_end c.args.first.now c.args.second.now c.loop-at.at c.loop-at.invariant (at ∙ c.min-least.ensures) c.if-first-second.false)
