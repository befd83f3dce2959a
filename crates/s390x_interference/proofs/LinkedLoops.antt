-- The retry loops of linked code.
use Rattle.std.proofs.Common.{◌≡◌, ℕ, List, None, sym, subst}
use Rattle.s390x_buffer.specs.State.{Constant}
use Rattle.s390x_buffer.specs.declared.entries.MachBufferFinalized.{MachBufferFinalized}
use Rattle.s390x_image.specs.Causes.{link_cause}
use Rattle.s390x_image.specs.Symbols.{Symbols}
use Rattle.s390x_inst.specs.Emission.{Emission}
use Rattle.s390x_inst.specs.declared.function.AllocatedFunction.{AllocatedFunction}
use Rattle.s390x_inst.specs.declared.state.IsaFlags.{IsaFlags}
use Rattle.s390x_typed_steps.specs.Folding.{folded_trees}
use Rattle.s390x_typed_steps.specs.Ranges.{BlocksInRange}
use Rattle.s390x_typed_steps.specs.Tree.{Tree}
use Rattle.s390x_typed_steps.proofs.Causes.{first_right}
use Rattle.s390x_machine.specs.Functions.{function_layout}
use Rattle.s390x_emit_int.specs.Function.{checked_cause, constants_of, folded_trees_of, start_cause, trees_of, IsFinishedCode}
use Rattle.s390x_emit_int.specs.FunctionImage.{IsImageOf}
use Rattle.s390x_emit_int.specs.Headline.{linked_environment, linked_image}
use Rattle.s390x_emit_int.proofs.Linked.{is_placed}
use Rattle.s390x_interference.specs.Linked.{GuardsFunction}
use Rattle.s390x_interference.proofs.Schedules.{interference}

pub linked_guards : (flags : IsaFlags) (ts : List Tree) (cs : List Constant) (f : MachBufferFinalized) (base : ℕ) (symbols : Symbols) → checked_cause flags ts cs ≡ None → BlocksInRange ts → IsFinishedCode (folded_trees ts) cs f → link_cause f base symbols ≡ None → GuardsFunction symbols (folded_trees ts) cs (linked_image f base symbols)
linked_guards flags ts cs f base symbols passes ranges finished links =
    interference (function_layout (linked_environment symbols base (folded_trees ts) cs) (folded_trees ts) (linked_image f base symbols)) (is_placed flags ts cs f base symbols passes ranges finished links)

pub image_guards : (flags : IsaFlags) (state : Emission) (f : AllocatedFunction) (base : ℕ) (symbols : Symbols) (bytes : List ℕ) → BlocksInRange (trees_of flags state f) → IsImageOf flags state f base symbols bytes → GuardsFunction symbols (folded_trees_of flags state f) (constants_of f) (record { base = base; bytes = bytes })
image_guards flags state f base symbols bytes ranges i =
    let ts = trees_of flags state f in
    let cs = constants_of f in
    let passes : checked_cause flags ts cs ≡ None = first_right (start_cause state) (checked_cause flags ts cs) i.valid in
    subst (λ bs. GuardsFunction symbols (folded_trees ts) cs (record { base = base; bytes = bs })) (sym i.is) (linked_guards flags ts cs i.code base symbols passes ranges i.finished i.linked)
