use Rattle.std.proofs.Common.{◌<◌, length, get_or, sym, ◌∙◌, subst}
use Rattle.s390x_schedule.proofs.Going.{goes_further, is_open_at, named_at, stops_at}
use Rattle.s390x_schedule.proofs.schedule.run_schedule.Goals as goal

pub step_one-requires : goal.step_one-requires
step_one-requires g c =
    subst (λ n. get_or c.args.schedule.now c.loop-at.at 0 < n) (sym c.loop-at.invariant.count) (named_at (length c.args.machines.now) c.args.schedule.now c.loop-at.at c.requires c.loop-at-test.true)

pub loop-at-preserved : goal.loop-at-preserved
loop-at-preserved g c = record {
  count = c.in-Went.ensures.count ∙ c.loop-at.invariant.count;
  went = goes_further _ _ _ c.args.schedule.now c.loop-at.at _ c.loop-at-test.true c.loop-at.invariant.went c.in-Went.ensures.steps c.in-Went.ensures.world;
}

pub returns-in-Stopped-clause-end : goal.returns-in-Stopped-clause-end
returns-in-Stopped-clause-end g c =
    stops_at _ _ _ c.args.schedule.now c.loop-at.at c.in-Stopped.kind c.in-Stopped.place c.loop-at-test.true c.loop-at.invariant.went c.in-Stopped.ensures.steps c.in-Stopped.ensures.world

pub returns-in-NoRow-clause-end : goal.returns-in-NoRow-clause-end
returns-in-NoRow-clause-end g c =
    is_open_at _ _ _ c.args.schedule.now c.loop-at.at c.loop-at-test.true c.loop-at.invariant.went c.in-NoRow.ensures.steps c.in-NoRow.ensures.world
