use Rattle.std.proofs.Common.{◌^◌, ◌<◌, arith, sym, ◌∙◌}
use Rattle.std.proofs.lemmas.Fmt.{decimal_injective}
use Rattle.s390x_tool.proofs.Told.{none_of_generate}
use Rattle.s390x_tool.proofs.words.read_generate.Goals as goal

pub returns-then-count-gt-MOST_BLOCKS-clause-none : goal.returns-then-count-gt-MOST_BLOCKS-clause-none
returns-then-count-gt-MOST_BLOCKS-clause-none c =
    none_of_generate c.args.count.now c.args.start.now
    (λ m n few low first second.
    let small : c.in_ok-count.count < 2 ^ 64 = search in
    let same = decimal_injective m c.in_ok-count.count (omega (arith, few)) small (sym first ∙ c.in_ok-count.ensures.some) in
    omega (arith, same, few, c.if-count-gt-MOST_BLOCKS.true))

pub returns-then-start-gt4294967295-clause-none : goal.returns-then-start-gt4294967295-clause-none
returns-then-start-gt4294967295-clause-none c =
    none_of_generate c.args.count.now c.args.start.now
    (λ m n few low first second.
    let small : c.in_ok-start.start < 2 ^ 64 = search in
    let same = decimal_injective n c.in_ok-start.start (omega (arith, low)) small (sym second ∙ c.in_ok-start.ensures.some) in
    omega (arith, same, low, c.if-start-gt4294967295.true))
