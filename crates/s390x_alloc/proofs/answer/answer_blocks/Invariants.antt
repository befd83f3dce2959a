use Rattle.std.proofs.Common.{◌≡◌, ◌++◌, drop, map}
use Rattle.s390x_inst.specs.Portions.{portions}
use Rattle.s390x_inst.specs.declared.function.Block.{Block}
use Rattle.s390x_alloc.specs.Answers.{blocks_answer}
use Rattle.s390x_alloc.proofs.answer.answer_blocks.Given as goal

abbrev pub invariant-loop-number : goal.invariant-loop-number
invariant-loop-number l = map (λ (b : Block). map portions b.insts.items) l.answered.items ++ blocks_answer (drop l.number l.blocks) (drop l.number l.plans) ≡ blocks_answer l.blocks l.plans
