-- The theorem about linked code isn't empty: functions, their finished code, a base, symbols and a machine that meet its premises.
use Rattle.std.specs.Prelude.{◌≡◌, List, [], Some, None, slice_get}
use Rattle.s390x_inst.specs.declared.state.IsaFlags.{IsaFlags}
use Rattle.s390x_buffer.specs.State.{Constant}
use Rattle.s390x_buffer.specs.declared.entries.MachBufferFinalized.{MachBufferFinalized}
use Rattle.s390x_image.specs.Causes.{link_cause}
use Rattle.s390x_image.specs.Symbols.{Symbols, no_symbols, with_address}
use Rattle.s390x_typed_steps.specs.Folding.{folded_trees}
use Rattle.s390x_typed_steps.specs.Ranges.{BlocksInRange}
use Rattle.s390x_typed_steps.specs.Steps.{CallingStep, function_steps}
use Rattle.s390x_typed_steps.specs.Tree.{Tree}
use Rattle.s390x_operations.specs.State.{Core, IsLoaded}
use Rattle.s390x_machine.specs.Machine.{Transition, Run}
use Rattle.s390x_machine.specs.Layout.{block_address}
use Rattle.s390x_machine.specs.Functions.{function_layout}
use Rattle.s390x_machine.specs.Example as Loop
use Rattle.s390x_machine.specs.RelativeExample as Relative
use Rattle.s390x_emit_int.specs.CallExample as Call
use Rattle.s390x_emit_int.specs.Function.{checked_cause, IsFinishedCode}
use Rattle.s390x_emit_int.specs.Headline.{linked_environment, linked_image}

-- The function has no cause on any machine, this is its finished code, and linking has no cause; the linked code lies in memory, and this is a run of the machine from the
-- first block.
pub record LinkedRun (symbols : Symbols) (ts : List Tree) (cs : List Constant) (c : Core) (trace : List Transition) : Type 0 where
  pub code : MachBufferFinalized
  pub checked : (flags : IsaFlags) → checked_cause flags ts cs ≡ None
  pub masks : BlocksInRange ts
  pub finished : IsFinishedCode (folded_trees ts) cs code
  pub links : link_cause code 4096 symbols ≡ None
  pub lies : IsLoaded (linked_image code 4096 symbols) c.memory
  pub run : Run (linked_image code 4096 symbols) (record { core = c; address = block_address (function_layout (linked_environment symbols 4096 (folded_trees ts) cs) (folded_trees ts) (linked_image code 4096 symbols)) 0 }) trace

-- a function of two blocks: a run goes round the first block, leaves it and returns
abbrev pub LinkedLoopRuns : Type 0
LinkedLoopRuns = LinkedRun no_symbols Loop.trees [] Loop.core Loop.trace

-- the symbol that the other function names, at 8192
abbrev pub symbols : Symbols
symbols = with_address no_symbols (record { 0 = 1 }) 8192

-- a function with a constant, a symbol and a trap: a run loads the constant and the symbol's address, and stops by the trap
abbrev pub LinkedTrapRuns : Type 0
LinkedTrapRuns = LinkedRun symbols Relative.trees Relative.constants Relative.core Relative.trace

-- a function with a call: its code lies in memory, and the call is its first step, so that runs from the return place are those behind it
pub record LinkedCallStands : Type 0 where
  pub stands : LinkedRun symbols Call.trees [] Call.core []
  pub calls : slice_get (function_steps (folded_trees Call.trees)) 0 ≡ Some (CallingStep Call.calling)
