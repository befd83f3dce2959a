-- The steps on a machine by its flags: one that lacks relative loads, stores and compares loads such an operand's address first.
use Rattle.std.specs.Prelude.{Bool, false, true, ◌&&◌}
use Rattle.s390x_inst.specs.declared.inst.Inst.{Inst}
use Rattle.s390x_inst.specs.declared.state.IsaFlags.{IsaFlags}
use Rattle.s390x_typed_steps.specs.Memory.{memory, accesses_relative}
use Rattle.s390x_typed_steps.specs.Tree.{StepBody, Tree, Whole, Loaded, empty, leaf, loop_node}

-- an instruction whose row the machine may lack
abbrev pub whole_or_loaded : (lacks_row : Bool) → Inst → StepBody
whole_or_loaded false i = Whole i
whole_or_loaded true i = Loaded i

-- a body on such a machine
abbrev pub body_for : IsaFlags → StepBody → StepBody
body_for flags (Whole i) = whole_or_loaded (accesses_relative (memory i) && flags.no_relative_memory) i
body_for flags b = b

-- a tree of them. Nothing but the bodies changes
abbrev pub tree_for : IsaFlags → Tree → Tree
tree_for flags empty = empty
tree_for flags (leaf b rest) = leaf (body_for flags b) (tree_for flags rest)
tree_for flags (loop_node mask members rest) = loop_node mask (tree_for flags members) (tree_for flags rest)
