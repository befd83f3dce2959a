-- The instructions of the function that adds, as a tree.
use Rattle.std.proofs.Common.{◌≡◌, ℕ, List, [], ◌∷◌, None, true, Vec, Global, map, ap, ◌∙◌}
use Rattle.s390x_base.specs.Registers.{general}
use Rattle.s390x_base.specs.declared.regs.Reg.{Reg}
use Rattle.s390x_base.specs.declared.regs.Reg.TheVariants.{Real}
use Rattle.s390x_inst.specs.Emission.{Emission}
use Rattle.s390x_inst.specs.declared.state.IsaFlags.{IsaFlags}
use Rattle.s390x_typed_steps.specs.Baseline.{tree_for}
use Rattle.s390x_inst.specs.declared.function.Block.{Block}
use Rattle.s390x_emit_int.specs.Function.{tree_of}
use Rattle.s390x_inst.specs.declared.args.MemArg.{MemArg}
use Rattle.s390x_inst.specs.declared.args.MemArg.TheVariants.{BXD12}
use Rattle.s390x_inst.specs.declared.ops.ALUOp.TheVariants.{Add32}
use Rattle.s390x_inst.specs.declared.inst.Inst.{Inst, items_hidden-the_row-Inst-0}
use Rattle.s390x_inst.specs.declared.inst.Inst.TheBlock.{hidden-the_row-Inst-0}
use Rattle.s390x_inst.specs.declared.inst.Inst.TheVariants.{AluRRR, AtomicCas32, Ret}
use Rattle.s390x_typed_steps.specs.Calls.{safepoint, without_map}
use Rattle.s390x_typed_steps.specs.Tree.{Tree, block_tree, empty, leaf, loop_node, prepend, row_tree, tree, Whole}
use Rattle.s390x_typed_steps.proofs.Trees.{row-tree}
use Rattle.s390x_interference.specs.Example.{adds, swaps, adding_members, adding_trees}

pub adding_items : (a b d x y z : Reg) (mem : MemArg) → a ≡ Real (general 4) → b ≡ Real (general 2) → d ≡ Real (general 3) → x ≡ Real (general 2) → y ≡ Real (general 2) → z ≡ Real (general 4) → mem ≡ BXD12 (Real (general 5)) (Real (general 0)) 0 (record { aligned = true; trap = None }) →
    AluRRR Add32 a b d ∷ AtomicCas32 x y z mem ∷ [] ≡ adds ∷ swaps ∷ []
adding_items a b d x y z mem ea eb ed ex ey ez em = λ i. AluRRR Add32 (ea i) (eb i) (ed i) ∷ AtomicCas32 (ex i) (ey i) (ez i) (em i) ∷ []

pub adding_is : (e : Emission) (mask : ℕ) (v : Vec Inst Global) (rest : Tree) → mask ≡ 4 → v.items ≡ adds ∷ swaps ∷ [] → loop_node mask (row_tree (without_map e) (hidden-the_row-Inst-0 v)) rest ≡ loop_node 4 adding_members rest
adding_is e mask v rest m items =
    let inner = without_map e in
    ap (λ n. loop_node n (row_tree inner (hidden-the_row-Inst-0 v)) rest) m
    ∙ ap (λ t. loop_node 4 t rest) (row-tree inner (hidden-the_row-Inst-0 v) ∙ ap (tree inner) (items_hidden-the_row-Inst-0 v) ∙ ap (tree inner) items)

-- the block of the loop and a return
pub function_is : (flags : IsaFlags) (e : Emission) (blocks : List Block) (insts : Vec Inst Global) (i : Inst) (link : Reg) → ((rest : Tree) → prepend (safepoint e i) i rest ≡ loop_node 4 adding_members rest) → link ≡ Real (general 14) → insts.items ≡ i ∷ Ret link ∷ [] → blocks ≡ record { insts = insts } ∷ [] → map (tree_of flags e) blocks ≡ adding_trees
function_is flags e blocks insts i link is to_link items of_blocks =
    ap (map (tree_of flags e)) of_blocks ∙ ap (λ l. tree_for flags (block_tree e l) ∷ []) items ∙ ap (λ t. tree_for flags t ∷ []) (is (leaf (Whole (Ret link)) empty)) ∙ ap (λ r. loop_node 4 adding_members (leaf (Whole (Ret r)) empty) ∷ []) to_link
