-- The members of blocks and loops as trees, on a machine by its flags.
use Rattle.std.specs.Prelude.{List}
use Rattle.s390x_inst.specs.Emission.{Emission}
use Rattle.s390x_inst.specs.declared.inst.Inst.{Inst}
use Rattle.s390x_inst.specs.declared.state.IsaFlags.{IsaFlags}
use Rattle.s390x_typed_steps.specs.Baseline.{tree_for}
use Rattle.s390x_typed_steps.specs.Tree.{Tree, empty, prepend, tree, block_tree}

-- one member
abbrev pub member_of : IsaFlags → Emission → Inst → Tree
member_of flags e i = tree_for flags (prepend e i empty)

-- those of a loop
abbrev pub members_of : IsaFlags → Emission → List Inst → Tree
members_of flags e is = tree_for flags (tree e is)

-- those of a block, of which each call is a safepoint
abbrev pub block_members_of : IsaFlags → Emission → List Inst → Tree
block_members_of flags e is = tree_for flags (block_tree e is)
