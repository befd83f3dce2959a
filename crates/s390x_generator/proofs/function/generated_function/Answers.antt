use Rattle.std.proofs.Common.{arith, ◌∙◌}
use Rattle.s390x_generator.proofs.Blocks.{block_more}
use Rattle.s390x_generator.proofs.function.generated_function.Goals as goal

pub loop-number-preserved : goal.loop-number-preserved
loop-number-preserved c =
    block_more c.args.count c.loop-number.number c.loop-number.drawn c.next_number-drawn.result c.loop-number.blocks.items c.push.new.self.items c.in_ok-block.block
    (omega arith) c.next_number-drawn.ensures c.in_ok-block.ensures c.in_ok-push.ensures.items
    ∙ c.loop-number.invariant
