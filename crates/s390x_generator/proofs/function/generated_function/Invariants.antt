use Rattle.std.proofs.Common.{◌≡◌, ◌-◌, ◌++◌, map}
use Rattle.s390x_generator.specs.Generator.{generated_blocks, generated_from, insts_of}
use Rattle.s390x_generator.proofs.function.generated_function.Given as goal

-- the blocks so far, with those that are drawn from here on, are all
abbrev pub invariant-loop-number : goal.invariant-loop-number
invariant-loop-number l = map insts_of l.blocks.items ++ generated_from l.fn.count l.number (l.fn.count - l.number) l.drawn ≡ generated_blocks l.fn.count l.fn.start
