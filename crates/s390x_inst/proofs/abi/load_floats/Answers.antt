use Rattle.std.proofs.Common.{ap, arith, ◌++◌}
use Rattle.s390x_inst.specs.Frames.{is_saved, float_loads}
use Rattle.s390x_inst.proofs.Saved.{from_first, step, counted, ended}
use Rattle.s390x_inst.proofs.abi.load_floats.Goals as goal

pub loop-number-init : goal.loop-number-init
loop-number-init c = record {
  count = omega arith;
  rest = ap (λ l. c.args.insts.now.items ++ float_loads c.args.start 0 l) (from_first c.args.set);
}

pub loop-number-preserved : goal.loop-number-preserved
loop-number-preserved c =
    let v = c.loop-number.invariant in
    let n = c.loop-number.number in
    record {
      count = counted (is_saved c.args.set n) c.loop-number.count n c.in_ok-count.count c.in_ok-count.ensures.0 v.count;
      rest = step c.args.set c.args.start c.loop-number.count n c.in_ok-count.count c.loop-number.insts.items c.load_if_saved.new.insts.items _ c.loop-number-test.true c.in_ok-count.ensures.0 c.in_ok-count.ensures.1 v.rest;
    }

pub returns : goal.returns
returns c = ended c.args.set c.args.start c.loop-number.count c.loop-number.number c.loop-number.insts.items _ c.loop-number.auto.number-end c.loop-number-test.false c.loop-number.invariant.rest
