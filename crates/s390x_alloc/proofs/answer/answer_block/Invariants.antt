use Rattle.std.proofs.Common.{◌≡◌, ◌++◌, drop, map}
use Rattle.s390x_inst.specs.Portions.{portions}
use Rattle.s390x_alloc.specs.Answers.{edits_portions}
use Rattle.s390x_alloc.proofs.answer.answer_block.Given as goal

abbrev pub invariant-loop-edit : goal.invariant-loop-edit
invariant-loop-edit l = record {
  answer : map portions l.insts.items ++ edits_portions (drop l.edit-index l.plan.edits.items) (drop l.taken l.block.insts.items) ≡ edits_portions l.plan.edits.items l.block.insts.items;
}
