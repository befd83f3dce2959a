use Rattle.std.proofs.Common.{arith, ◌∙◌}
use Rattle.s390x_tool.proofs.Pieces.{Appends-take_more, within_rest}
use Rattle.s390x_tool.proofs.output.write_text.Goals as goal

pub loop-taken-preserved : goal.loop-taken-preserved
loop-taken-preserved g c = record {
  within = within_rest c.loop-taken.taken c.in_ok-taken.field-0 c.args.text.now (omega arith) c.in_ok-taken.ensures.bound;
  told = Appends-take_more _ _ _ _ _ _ c.loop-taken.invariant.told c.in_ok-taken.ensures.bytes;
  faults = c.in_ok-taken.ensures.cause.same ∙ c.loop-taken.invariant.faults;
}
