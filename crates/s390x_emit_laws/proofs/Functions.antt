-- The steps of a function without a cause of refusal, and the places of linked code.
use Rattle.std.proofs.Common.{◌≡◌, ℕ, zero, suc, ◌+◌, ◌<◌, List, [], ◌∷◌, length, Some, None, ap, ◌∙◌, arith, slice_get}
use Rattle.s390x_buffer.specs.State.{Constant, new_cause}
use Rattle.s390x_buffer.specs.declared.entries.MachBufferFinalized.{MachBufferFinalized}
use Rattle.s390x_image.specs.Causes.{link_cause}
use Rattle.s390x_image.specs.Symbols.{Symbols}
use Rattle.s390x_inst.specs.declared.state.IsaFlags.{IsaFlags}
use Rattle.s390x_typed_steps.specs.Causes.{aligns_of, blocks_cause, declared_of, first_emit_cause}
use Rattle.s390x_typed_steps.specs.Folding.{folded_trees}
use Rattle.s390x_typed_steps.specs.Image.{block_offsets, step_offset}
use Rattle.s390x_typed_steps.specs.Ranges.{BlocksInRange}
use Rattle.s390x_typed_steps.specs.Rows.{LinkEnvironment}
use Rattle.s390x_typed_steps.specs.Steps.{Step, first_step, function_steps, step_count}
use Rattle.s390x_typed_steps.specs.Tree.{Tree}
use Rattle.s390x_typed_steps.proofs.Causes.{first_left, first_right}
use Rattle.s390x_operations.specs.State.{CodeImage}
use Rattle.s390x_machine.specs.Functions.{function_layout}
use Rattle.s390x_machine.proofs.Checked.{folded_steps}
use Rattle.s390x_emit_int.specs.Function.{IsFinishedCode, checked_cause, code_length_cause}
use Rattle.s390x_emit_int.specs.Headline.{linked_environment, linked_image}
use Rattle.s390x_emit_int.proofs.Linked.{is_placed}
use Rattle.s390x_emit_laws.specs.Built.{IsBuilt}
use Rattle.s390x_emit_laws.specs.Places.{StepLeads}
use Rattle.s390x_emit_laws.proofs.Built.{built}
use Rattle.s390x_emit_laws.proofs.Places.{branches_lead}

pub function_built : (flags : IsaFlags) (ts : List Tree) (cs : List Constant) (environment : LinkEnvironment) (image : CodeImage) → checked_cause flags ts cs ≡ None → BlocksInRange ts → environment.aligns ≡ aligns_of cs →
    (k : ℕ) (s : Step) → slice_get (function_steps (folded_trees ts)) k ≡ Some s → IsBuilt (function_layout environment (folded_trees ts) image) s
function_built flags ts cs environment image passes ranges same k s at =
    let n = length ts + length cs in
    let D = declared_of ts cs in
    let checked : blocks_cause flags D n ts ≡ None = first_left _ _ (first_right (new_cause (length ts) cs) (first_emit_cause (blocks_cause flags D n ts) (code_length_cause ts cs)) passes) in
    built (function_layout environment (folded_trees ts) image) s (folded_steps flags environment ts n image (ap (λ aligns. blocks_cause flags (record { blocks = length ts; aligns = aligns }) n ts) same ∙ checked) ranges k s at)

pub linked_branches : (flags : IsaFlags) (ts : List Tree) (cs : List Constant) (f : MachBufferFinalized) (base : ℕ) (symbols : Symbols) → checked_cause flags ts cs ≡ None → BlocksInRange ts → IsFinishedCode (folded_trees ts) cs f → link_cause f base symbols ≡ None →
    (k : ℕ) (s : Step) → slice_get (function_steps (folded_trees ts)) k ≡ Some s → StepLeads (function_layout (linked_environment symbols base (folded_trees ts) cs) (folded_trees ts) (linked_image f base symbols)) k s
linked_branches flags ts cs f base symbols passes ranges image links k s at =
    branches_lead (function_layout (linked_environment symbols base (folded_trees ts) cs) (folded_trees ts) (linked_image f base symbols)) (is_placed flags ts cs f base symbols passes ranges image links) k s at

-- where a block starts, in the table of blocks
start_in : (at : ℕ → ℕ) (k : ℕ) (ts : List Tree) (b : ℕ) → b < length ts → slice_get (block_offsets at k ts) b ≡ Some (at (k + first_step ts b))
start_in at k [] b lt = absurd (omega (arith, lt))
start_in at k (t ∷ ts) zero lt = let e : k ≡ k + 0 = omega arith in ap (λ n. Some (at n)) e
start_in at k (t ∷ ts) (suc b) lt =
    let e : k + step_count t + first_step ts b ≡ k + (step_count t + first_step ts b) = omega arith in
    start_in at (k + step_count t) ts b (omega (arith, lt)) ∙ ap (λ n. Some (at n)) e

pub block_starts_there : (ts : List Tree) (cs : List Constant) (f : MachBufferFinalized) (environment : LinkEnvironment) (image : CodeImage) → IsFinishedCode ts cs f → (b : ℕ) → b < length ts → slice_get f.block_starts.items b ≡ Some ((function_layout environment ts image).offsets.block b)
block_starts_there ts cs f environment image is b lt =
    let e : 0 + first_step ts b ≡ first_step ts b = omega arith in
    ap (λ l. slice_get l b) is.block_starts ∙ start_in (step_offset (function_steps ts)) 0 ts b lt ∙ ap (λ n. Some (step_offset (function_steps ts) n)) e
