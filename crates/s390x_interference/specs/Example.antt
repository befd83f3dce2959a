-- A function of one retry loop. It adds `%r3` to the word at `%r5`, which other processors may change meanwhile: `%r2` is what the word is taken to hold at
-- first, and then what it was found to hold, and `%r4` is the sum.
use Rattle.std.specs.Prelude.{List, [], ◌∷◌, true, None}
use Rattle.s390x_base.specs.Registers.{general}
use Rattle.s390x_base.specs.declared.regs.Reg.TheVariants.{Real}
use Rattle.s390x_inst.specs.declared.args.MemArg.TheVariants.{BXD12}
use Rattle.s390x_inst.specs.declared.ops.ALUOp.TheVariants.{Add32}
use Rattle.s390x_inst.specs.declared.inst.Inst.{Inst}
use Rattle.s390x_inst.specs.declared.inst.Inst.TheVariants.{AluRRR, AtomicCas32, CondBreak, Ret}
use Rattle.s390x_typed_steps.specs.Tree.{Tree, empty, leaf, loop_node, Whole}

-- `%r4` becomes the sum of `%r2` and `%r3`
abbrev pub adds : Inst
adds = AluRRR Add32 (Real (general 4)) (Real (general 2)) (Real (general 3))

-- the word at `%r5` becomes `%r4` where it is `%r2`, else `%r2` becomes the word
abbrev pub swaps : Inst
swaps = AtomicCas32 (Real (general 2)) (Real (general 2)) (Real (general 4)) (BXD12 (Real (general 5)) (Real (general 0)) 0 (record { aligned = true; trap = None }))

-- the members of the loop
abbrev pub adding_members : Tree
adding_members = leaf (Whole adds) (leaf (Whole swaps) empty)

-- the loop, again on code 1, and a return
abbrev pub adding_trees : List Tree
adding_trees = loop_node 4 adding_members (leaf (Whole (Ret (Real (general 14)))) empty) ∷ []

-- the members of a loop that is left where the code is 0, before it swaps
abbrev pub leaving_members : Tree
leaving_members = leaf (Whole (CondBreak 8)) (leaf (Whole swaps) empty)

-- that loop, again on code 1, and a return
abbrev pub leaving_trees : List Tree
leaving_trees = loop_node 4 leaving_members (leaf (Whole (Ret (Real (general 14)))) empty) ∷ []
