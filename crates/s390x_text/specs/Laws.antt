-- The instructions of a block: their texts, and the state of emission along them.
use Rattle.std.specs.Prelude.{◌≡◌, List, [], ◌∷◌, ◌++◌, None}
use Rattle.s390x_inst.specs.Emission.{Emission}
use Rattle.s390x_inst.specs.declared.function.Block.{Block}
use Rattle.s390x_inst.specs.declared.inst.Inst.{Inst}
use Rattle.s390x_inst.specs.declared.state.IsaFlags.{IsaFlags}
use Rattle.s390x_typed_steps.specs.Baseline.{tree_for}
use Rattle.s390x_typed_steps.specs.Stack.{state_after}
use Rattle.s390x_typed_steps.specs.Tree.{Tree, block_tree}
use Rattle.s390x_text.specs.Instructions.{inst_text, insts_after, insts_text}

-- a block as a tree, on a machine by its flags and from a state of emission on
abbrev pub tree_of_block : IsaFlags → Emission → Block → Tree
tree_of_block flags e b = tree_for flags (block_tree e b.insts.items)

-- the state in which emission meets what stands behind instructions
abbrev pub states_after : Emission → List Inst → Emission
states_after e [] = e
states_after e (i ∷ is) = states_after (state_after e i) is

-- an instruction has a text in the state behind those before it, and that state is emission's; printing leaves the stack map, which no text shows and which
-- emission takes off behind each instruction
pub record HasText (flags : IsaFlags) (e : Emission) (before : List Inst) (i : Inst) : Type 0 where
  pub state : insts_after e before ≡ record (states_after e before) { stack_map = e.stack_map }
  pub text : (inst_text flags 0 (insts_after e before) i).cause ≡ None

-- so does each instruction of a block
abbrev pub AllHaveTexts : IsaFlags → Emission → Block → Type 0
AllHaveTexts flags e b = (before behind : List Inst) (i : Inst) → b.insts.items ≡ before ++ i ∷ behind → HasText flags e before i

-- all texts of a block, each in the state behind those before it, aren't refused
abbrev pub HasTextsInOrder : IsaFlags → Emission → Block → Type 0
HasTextsInOrder flags e b = (insts_text flags 0 e b.insts.items).cause ≡ None
