use Rattle.std.proofs.Common.{◌<◌, length, arith}
use Rattle.s390x_typed_steps.specs.Causes.{declared_in}
use Rattle.s390x_refusal.proofs.Stepping.{walk_on, walk_start}
use Rattle.s390x_refusal.proofs.members.first_member.Goals as goal

pub loop-index-init : goal.loop-index-init
loop-index-init c = walk_start c.args.flags (declared_in c.args.sink.now) c.args.scope c.args.state.now c.args.insts.now c.requires

pub loop-index-preserved : goal.loop-index-preserved
loop-index-preserved c =
    let k = c.loop-index.index in
    let lt : k < length c.args.insts.now = omega arith in
    let checked = rw c.in-Passed.is at c.in_ok-behind.ensures in
    walk_on c.args.flags (declared_in c.args.sink.now) c.args.scope c.args.state.now c.args.insts.now k c.loop-index.state c.check_member.new.state c.loop-index.labels c.args.scope.depth c.in-Passed.behind c.index-insts-index.result lt c.index-insts-index.is
    c.loop-index.invariant checked
