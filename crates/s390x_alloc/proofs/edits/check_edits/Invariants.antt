use Rattle.std.proofs.Common.{◌≤◌, length}
use Rattle.s390x_alloc.proofs.Following.{HeldAt}
use Rattle.s390x_alloc.proofs.edits.check_edits.Given as goal

abbrev pub invariant-loop-number : goal.invariant-loop-number
invariant-loop-number l = record {
  at : HeldAt l.layout l.ends l.block l.plan.edits.items l.insts l.number l.taken l.plan.entry.items l.held;
  within : l.taken ≤ length l.insts;
}
