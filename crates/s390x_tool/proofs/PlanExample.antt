-- A plan with code is accepted: that of a job that returns at once.
use Rattle.std.proofs.Common.{◌≡◌, List, [], ◌∷◌, ◌++◌, drop, map, None, Vec, Global, refl, sym, ap, ◌∙◌, subst, arith}
use Rattle.std.specs.Prelude.{IsOk, Result, Ok, true}
use Rattle.s390x_base.specs.declared.regs.Reg.{Reg}
use Rattle.s390x_inst.specs.declared.function.Block.{Block}
use Rattle.s390x_inst.specs.declared.inst.Inst.{Inst}
use Rattle.s390x_inst.specs.declared.state.FrameLayout.{FrameLayout}
use Rattle.s390x_alloc.specs.Blocks.{after_edits, fault_or, or_block_fault, or_fault}
use Rattle.s390x_alloc.specs.Checked.{plan_contents, then_entries, unless_entry}
use Rattle.s390x_alloc.specs.Entries.{entry_or, first_unfounded, predecessors}
use Rattle.s390x_alloc.specs.Shape.{block_ending, first_misshapen, first_unsupported, is_end}
use Rattle.s390x_alloc.specs.Steps.{after_step}
use Rattle.s390x_alloc.specs.declared.fault.PlanFault.{PlanFault}
use Rattle.s390x_alloc.specs.declared.fault.PlanFault.TheVariants.{Shape, Unsupported}
use Rattle.s390x_alloc.specs.declared.plan.BlockPlan.{BlockPlan}
use Rattle.s390x_alloc.specs.declared.plan.Edit.{Edit}
use Rattle.s390x_alloc.specs.declared.plan.Edit.TheVariants.{Move, Step}
use Rattle.s390x_alloc.specs.declared.plan.EntryPair.{EntryPair}
use Rattle.s390x_job.specs.Completions.{text_of_lines}
use Rattle.s390x_job.proofs.PlainJob.{vec}
use Rattle.s390x_job_plan.specs.Lines.{Closing, Heading, Opening, Stepping}
use Rattle.s390x_job_plan.specs.Text.{IsPlanned, blocks_lines, edit_line, pair_line, plan_lines, text_of_planned}
use Rattle.s390x_job_plan.specs.declared.planned_job.PlannedJob.{PlannedJob}
use Rattle.s390x_job_plan.proofs.Parts.{one_planned}
use Rattle.s390x_tool.specs.Allocated.{IsPlanAccepted}
use Rattle.s390x_tool.specs.Example.{one_step}
use Rattle.s390x_tool.proofs.ReturnJob.{is_job, job, job_text, return_inst}
use Rattle.s390x_tool.proofs.ReturnLines.{same_return}

-- one step without registers
planned : PlannedJob
planned = record {
  job = job;
  plan = record {
    blocks = vec (record { entry = vec [] (omega arith); edits = vec (Step (vec [] (omega arith)) ∷ []) (omega arith) } ∷ []) (omega arith);
  };
}

is_planned : IsPlanned planned
unfolding vec planned
is_planned = (is_job, (tt, (tt, (tt, (tt, tt)))))

planned_spelled : text_of_planned planned ≡ text_of_lines one_step
unfolding vec planned
planned_spelled = ap (λ t. t ++ text_of_lines (drop 3 one_step)) job_text

-- the one block of the plan: no pair, and one step without registers
record OneStep (ps : List BlockPlan) : Type 0 where
  pub plan : BlockPlan
  pub alone : ps ≡ plan ∷ []
  pub entry : plan.entry.items ≡ []
  pub regs : Vec Reg Global
  pub edits : plan.edits.items ≡ Step regs ∷ []
  pub none : regs.items ≡ []

record OneEdit (pairs : List EntryPair) (edits : List Edit) (later : List BlockPlan) : Type 0 where
  pub entry : pairs ≡ []
  pub regs : Vec Reg Global
  pub edit : edits ≡ Step regs ∷ []
  pub none : regs.items ≡ []
  pub last : later ≡ []

edit_told : (pairs : List EntryPair) (edits : List Edit) (later : List BlockPlan) → ((map pair_line pairs ++ map edit_line edits) ++ blocks_lines later) ++ Closing ∷ [] ≡ Stepping [] ∷ Closing ∷ [] → OneEdit pairs edits later
edit_told [] (Step regs ∷ []) [] e = record { entry = refl; regs = regs; edit = refl; none = cc; last = refl }
edit_told [] (Step regs ∷ Step more ∷ edits) later e = absurd cc
edit_told [] [] [] e = absurd cc
edit_told pairs edits later e = absurd cc

step_told : (ps : List BlockPlan) → plan_lines ps ≡ Heading ∷ Opening ∷ Stepping [] ∷ Closing ∷ [] → OneStep ps
step_told [] e = absurd cc
step_told (p ∷ ps) e =
    let h = edit_told p.entry.items p.edits.items ps (ap (drop 2) e) in
    record { plan = p; alone = ap (λ qs. p ∷ qs) h.last; entry = h.entry; regs = h.regs; edits = h.edit; none = h.none }

-- the first fault of one block, or what is held at its end
abbrev block_result : FrameLayout → List Inst → List Edit → List EntryPair → Result (List EntryPair) PlanFault
block_result layout is es held =
    fault_or (Unsupported 0) (first_unsupported 0 is) (fault_or (Shape 0) (first_misshapen 1 0 is) (after_edits layout (is_end (block_ending is)) 0 0 es is held))

step_held : (rs : List Reg) → rs ≡ [] → after_step return_inst rs [] ≡ Ok []
step_held rs e = ap (λ xs. after_step return_inst xs []) e

block_held : (layout : FrameLayout) (is : List Inst) (es : List Edit) (held : List EntryPair) (regs : Vec Reg Global) → is ≡ return_inst ∷ [] → es ≡ Step regs ∷ [] → held ≡ [] → regs.items ≡ []
    → block_result layout is es held ≡ Ok []
block_held layout is es held regs insts edits entry none =
    ap (λ x. block_result layout x es held) insts ∙ ap (λ x. block_result layout (return_inst ∷ []) x held) edits
    ∙ ap (λ x. block_result layout (return_inst ∷ []) (Step regs ∷ []) x) entry
    ∙ ap (λ r. or_fault 0 0 r (λ h. after_edits layout true 0 1 [] [] h)) (step_held regs.items none)

-- such a plan of such a block has no fault
no_fault : (layout : FrameLayout) (b : Block) (p : BlockPlan) (regs : Vec Reg Global) → b.insts.items ≡ return_inst ∷ [] → p.entry.items ≡ [] → p.edits.items ≡ Step regs ∷ [] → regs.items ≡ []
    → IsOk (plan_contents layout (b ∷ []) (p ∷ []))
no_fault layout b p regs insts entry edits none =
    let ends = ap (λ r. then_entries (b ∷ []) (p ∷ []) (or_block_fault r (λ h. Ok (h ∷ [])))) (block_held layout b.insts.items p.edits.items p.entry.items regs insts edits entry none) in
    let pairs = ap (λ xs. unless_entry (entry_or 0 (first_unfounded ([] ∷ []) (predecessors 1 0 0 (b ∷ [])) 0 0 xs) None) ([] ∷ [])) entry in
    subst IsOk (sym (ends ∙ pairs)) refl

faultless : (p : PlannedJob) → IsPlanned p → text_of_planned p ≡ text_of_lines one_step → IsOk (plan_contents p.job.state.layout p.job.function.blocks.items p.plan.blocks.items)
unfolding vec planned
faultless p is e =
    let same = one_planned p planned is is_planned (e ∙ sym planned_spelled) in
    let block = same_return p.job is.0 same.0 in
    let step = step_told p.plan.blocks.items same.1 in
    let layout = p.job.state.layout in
    let alone : IsOk (plan_contents layout (block.block ∷ []) (step.plan ∷ [])) = no_fault layout block.block step.plan step.regs block.insts step.entry step.edits step.none in
    let planned_alone : IsOk (plan_contents layout (block.block ∷ []) p.plan.blocks.items) = subst (λ ps. IsOk (plan_contents layout (block.block ∷ []) ps)) (sym step.alone) alone in
    subst (λ bs. IsOk (plan_contents layout bs p.plan.blocks.items)) (sym block.alone) planned_alone

pub plan_accepted : IsPlanAccepted (text_of_lines one_step)
plan_accepted = record { short = omega arith; planned = (planned, is_planned, planned_spelled); faultless = faultless }
