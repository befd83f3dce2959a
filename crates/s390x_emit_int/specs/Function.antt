-- A function: its image, and the first cause that refuses it.
use Rattle.std.specs.Prelude.{◌≡◌, ℕ, ◌+◌, ◌<◌, List, ◌++◌, length, map, ◌&&◌, nat_lt, nat_eq, Option, Some, None}
use Rattle.s390x_base.specs.declared.ir.MachLabel.{MachLabel}
use Rattle.s390x_base.specs.declared.error.EmitError.{EmitError}
use Rattle.s390x_base.specs.declared.error.EmitError.TheVariants.{BadStackState, LabelOutOfRange}
use Rattle.s390x_inst.specs.Emission.{Emission}
use Rattle.s390x_inst.specs.declared.state.IsaFlags.{IsaFlags}
use Rattle.s390x_inst.specs.declared.function.Block.{Block}
use Rattle.s390x_inst.specs.declared.function.AllocatedFunction.{AllocatedFunction}
use Rattle.s390x_buffer.specs.State.{Constant, constant_of, new_cause, limit}
use Rattle.s390x_buffer.specs.Constants.{constant_starts, constant_bytes, constants_end, greatest_align}
use Rattle.s390x_buffer.specs.Finish.{entry_of}
use Rattle.s390x_buffer.specs.declared.entries.MachBufferFinalized.{MachBufferFinalized}
use Rattle.s390x_typed_steps.specs.Tree.{Tree}
use Rattle.s390x_typed_steps.specs.Steps.{function_steps}
use Rattle.s390x_typed_steps.specs.Image.{step_offset, unlinked_environment, function_code, step_offsets, block_offsets}
use Rattle.s390x_typed_steps.specs.Traps.{function_traps}
use Rattle.s390x_typed_steps.specs.Relocs.{function_relocs}
use Rattle.s390x_typed_steps.specs.Sites.{function_sites, call_offsets, patches, stack_maps, function_try_entries}
use Rattle.s390x_typed_steps.specs.Folding.{folded_trees, peak}
use Rattle.s390x_typed_steps.specs.Sizes.{blocks_size}
use Rattle.s390x_typed_steps.specs.Causes.{first_emit_cause, unless, declared_of, blocks_cause}
use Rattle.s390x_emit_int.specs.Members.{block_members_of}

-- a block as a tree, on a machine by its flags and from a state of emission on: each of its calls is a safepoint
abbrev pub tree_of : IsaFlags → Emission → Block → Tree
tree_of flags e b = block_members_of flags e b.insts.items

-- the blocks of a function as trees
abbrev pub trees_of : IsaFlags → Emission → AllocatedFunction → List Tree
trees_of flags e f = map (tree_of flags e) f.blocks.items

-- the blocks of a function as trees, as their ends leave them
abbrev pub folded_trees_of : IsaFlags → Emission → AllocatedFunction → List Tree
folded_trees_of flags e f = folded_trees (trees_of flags e f)

-- a block's number is that of its label
abbrev pub number_of_next : Option MachLabel → Option ℕ
number_of_next None = None
number_of_next (Some l) = Some l.0

-- the constants of a function
abbrev pub constants_of : AllocatedFunction → List Constant
constants_of f = map constant_of f.constants.items

-- The finished code and its tables: the bytes of the steps and then the constants, where each block, constant and step starts, and the steps' traps, relocations and sites.
-- The blocks are those that their ends have folded.
pub record IsFinishedCode (ts : List Tree) (cs : List Constant) (f : MachBufferFinalized) : Type 0 where
  pub bytes : f.bytes.items ≡ function_code (unlinked_environment ts cs) ts ++ constant_bytes (blocks_size ts) cs
  pub block_starts : f.block_starts.items ≡ block_offsets (step_offset (function_steps ts)) 0 ts
  pub constant_starts : f.constant_starts.items ≡ constant_starts (blocks_size ts) cs
  pub starts : f.starts.items ≡ step_offsets (step_offset (function_steps ts)) 0 (function_steps ts)
  pub relocs : f.relocs.items ≡ function_relocs ts
  pub traps : f.traps.items ≡ function_traps ts
  pub call_sites : f.call_sites.items ≡ call_offsets (function_sites ts)
  pub try_call_sites : map entry_of f.try_call_sites.items ≡ function_try_entries ts
  pub patchable_sites : f.patchable_sites.items ≡ patches (function_sites ts)
  pub stack_maps : f.stack_maps.items ≡ stack_maps (function_sites ts)
  pub alignment : f.alignment ≡ greatest_align 4 cs
  pub short : length f.bytes.items < limit

-- the stack sizes at the beginning are 0
abbrev pub start_cause : Emission → Option EmitError
start_cause e = unless (nat_eq e.nominal 0 && nat_eq e.outgoing 0) BadStackState

-- the code ends below the limit at any time, a block's last step counted in full until its block has ended; and in the end with its constants
abbrev pub code_length_cause : List Tree → List Constant → Option EmitError
code_length_cause ts cs = unless (nat_lt (peak ts) limit && nat_lt (constants_end (blocks_size (folded_trees ts)) cs) limit) LabelOutOfRange

-- Of a function's blocks as they are given: the constants' alignments, the count of blocks and constants, the steps in order, the length.
abbrev pub checked_cause : IsaFlags → List Tree → List Constant → Option EmitError
checked_cause flags ts cs = first_emit_cause (new_cause (length ts) cs) (first_emit_cause (blocks_cause flags (declared_of ts cs) (length ts + length cs) ts) (code_length_cause ts cs))

-- The first cause of a function: the state, and then these.
abbrev pub function_cause : IsaFlags → List Tree → List Constant → Emission → Option EmitError
function_cause flags ts cs e = first_emit_cause (start_cause e) (checked_cause flags ts cs)
