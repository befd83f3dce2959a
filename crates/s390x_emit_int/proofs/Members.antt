-- A member on a machine by its flags stands before those behind it.
use Rattle.std.proofs.Common.{◌≡◌, ℕ, ◌+◌, ◌<◌, List, get_or, length, drop, ap, ◌∙◌, Vec, Global}
use Rattle.s390x_base.specs.declared.regs.Reg.{Reg}
use Rattle.s390x_inst.specs.declared.calls.CallInfo.{CallInfo}
use Rattle.s390x_inst.specs.declared.calls.CallInstDest.{CallInstDest}
use Rattle.s390x_inst.specs.declared.calls.ReturnCallInfo.{ReturnCallInfo}
use Rattle.s390x_inst.specs.Emission.{Emission}
use Rattle.s390x_inst.specs.declared.inst.Inst.{Inst}
use Rattle.s390x_inst.specs.declared.inst.Inst.TheVariants.{Call, ReturnCall}
use Rattle.s390x_inst.specs.declared.inst.Inst.TheViews as V
use Rattle.s390x_inst.specs.declared.state.IsaFlags.{IsaFlags}
use Rattle.s390x_typed_steps.proofs.Baseline.{for_prepend, for_nominal}
use Rattle.s390x_typed_steps.proofs.Trees.{joined, behind, block_behind, prepend_nominal, not_loop, one_body}
use Rattle.s390x_typed_steps.specs.Baseline.{body_for, tree_for}
use Rattle.s390x_typed_steps.specs.Calls.{safepoint}
use Rattle.s390x_typed_steps.specs.Causes.{nominal_behind}
use Rattle.s390x_typed_steps.specs.Stack.{nominal_after, state_after}
use Rattle.s390x_typed_steps.specs.Tree.{Whole, empty, leaf, leaves, prepend, tree, block_tree}
use Rattle.s390x_typed_steps.specs.Resolved.{resolved_instruction}
use Rattle.s390x_emit_int.specs.Members.{member_of, members_of, block_members_of}

-- of a loop
pub members_behind : (flags : IsaFlags) (e : Emission) (is : List Inst) (k : ℕ) (i : Inst) → k < length is → i ≡ get_or is k i → members_of flags e (drop k is) ≡ joined (member_of flags e i) (members_of flags (state_after e i) (drop (k + 1) is))
members_behind flags e is k i lt at = ap (tree_for flags) (behind e is k i lt at) ∙ for_prepend flags e i (tree (state_after e i) (drop (k + 1) is))

-- of a block
pub block_members_behind : (flags : IsaFlags) (e : Emission) (is : List Inst) (k : ℕ) (i : Inst) → k < length is → i ≡ get_or is k i → block_members_of flags e (drop k is) ≡ joined (member_of flags (safepoint e i) i) (block_members_of flags (state_after e i) (drop (k + 1) is))
block_members_behind flags e is k i lt at = ap (tree_for flags) (block_behind e is k i lt at) ∙ for_prepend flags (safepoint e i) i (block_tree (state_after e i) (drop (k + 1) is))

-- the nominal size behind one
pub member_nominal : (flags : IsaFlags) (e : Emission) (nominal : ℕ) (i : Inst) → nominal_behind nominal (member_of flags e i) ≡ nominal_after nominal i
member_nominal flags e nominal i = for_nominal flags nominal (prepend e i empty) ∙ prepend_nominal e nominal i

-- an instruction that is neither a loop nor a call is one body
pub alone : (flags : IsaFlags) (e : Emission) (i : Inst) → ((m : ℕ) (v : Vec Inst Global) → i ≡ V.Loop m v → ⊥) → ((link : Reg) (info : CallInfo) → i ≡ Call link info → ⊥) → ((info : ReturnCallInfo CallInstDest) → i ≡ ReturnCall info → ⊥) →
    member_of flags e i ≡ leaf (body_for flags (Whole (resolved_instruction e i))) empty
alone flags e i loop call tail = ap (tree_for flags) (not_loop e i empty loop ∙ ap (λ bs. leaves bs empty) (one_body e i call tail))
