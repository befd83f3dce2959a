-- Emitted and linked code runs as typed.
use Rattle.std.proofs.Common.{◌≡◌, ℕ, ◌+◌, List, length, None}
use Rattle.s390x_inst.specs.declared.state.IsaFlags.{IsaFlags}
use Rattle.s390x_buffer.specs.State.{Constant, new_cause}
use Rattle.s390x_buffer.specs.declared.entries.MachBufferFinalized.{MachBufferFinalized}
use Rattle.s390x_image.specs.Causes.{link_cause}
use Rattle.s390x_image.specs.Symbols.{Symbols}
use Rattle.s390x_machine.specs.CodeAt.{AllCodeAt}
use Rattle.s390x_machine.specs.Functions.{function_layout}
use Rattle.s390x_machine.proofs.Functions.{function_placed}
use Rattle.s390x_machine.proofs.Instructions.{block_holds, return_holds}
use Rattle.s390x_machine.proofs.Checked.{folded_steps}
use Rattle.s390x_machine.proofs.FoldedSteps.{folded_right}
use Rattle.s390x_typed_steps.specs.Folding.{folded_trees}
use Rattle.s390x_typed_steps.specs.Ranges.{BlocksInRange}
use Rattle.s390x_typed_steps.specs.Tree.{Tree}
use Rattle.s390x_typed_steps.specs.Causes.{first_emit_cause, declared_of, blocks_cause}
use Rattle.s390x_typed_steps.proofs.Causes.{first_left, first_right}
use Rattle.s390x_emit_int.specs.Function.{checked_cause, code_length_cause, IsFinishedCode}
use Rattle.s390x_emit_int.specs.Headline.{linked_environment, linked_image, RunsAsTyped}
use Rattle.s390x_emit_int.proofs.Finishing.{folded_passes}
use Rattle.s390x_emit_int.proofs.Linking.{stands_as_code}

-- the steps of linked code stand where its layout says, as emission has checked them
pub is_placed : (flags : IsaFlags) (ts : List Tree) (cs : List Constant) (f : MachBufferFinalized) (base : ℕ) (symbols : Symbols) → checked_cause flags ts cs ≡ None → BlocksInRange ts → IsFinishedCode (folded_trees ts) cs f → link_cause f base symbols ≡ None →
    AllCodeAt (function_layout (linked_environment symbols base (folded_trees ts) cs) (folded_trees ts) (linked_image f base symbols))
is_placed flags ts cs f base symbols passes ranges image links =
    let us = folded_trees ts in
    let environment = linked_environment symbols base us cs in
    let code = linked_image f base symbols in
    let n = length ts + length cs in
    let D = declared_of ts cs in
    let checked : blocks_cause flags D n ts ≡ None = first_left _ _ (first_right (new_cause (length ts) cs) (first_emit_cause (blocks_cause flags D n ts) (code_length_cause ts cs)) passes) in
    function_placed environment us code
    (stands_as_code us cs f base symbols (folded_passes flags ts cs passes).declared image links (λ image. folded_steps flags environment ts n image checked ranges) (λ image. folded_right environment ts image ranges))

pub runs_as_typed : (flags : IsaFlags) (ts : List Tree) (cs : List Constant) (f : MachBufferFinalized) (base : ℕ) (symbols : Symbols) → checked_cause flags ts cs ≡ None → BlocksInRange ts → IsFinishedCode (folded_trees ts) cs f → link_cause f base symbols ≡ None → RunsAsTyped symbols (folded_trees ts) cs (linked_image f base symbols)
runs_as_typed flags ts cs f base symbols passes ranges image links =
    let L = function_layout (linked_environment symbols base (folded_trees ts) cs) (folded_trees ts) (linked_image f base symbols) in
    let placed = is_placed flags ts cs f base symbols passes ranges image links in
    record { from_blocks = λ b lt. block_holds L placed b lt; from_returns = λ k. return_holds L placed k }
