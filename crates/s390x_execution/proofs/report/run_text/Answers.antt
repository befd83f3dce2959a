use Rattle.std.proofs.Common.{Bool, List, ℕ, ap, sym, ◌∙◌, subst}
use Rattle.s390x_operations.specs.State.{Memory}
use Rattle.s390x_machine.specs.Regions.{is_held}
use Rattle.s390x_job.specs.declared.job.MemLine.{MemLine}
use Rattle.s390x_execution.specs.Start.{AllRegionsFit}
use Rattle.s390x_execution.specs.Text.{AllHeld}
use Rattle.s390x_execution.proofs.Executing.{walk_has}
use Rattle.s390x_execution.proofs.Fitting.{job_fits}
use Rattle.s390x_execution.proofs.Starting.{start_held}
use Rattle.s390x_execution.proofs.report.run_text.Goals as goal

pub start_memory-requires-clause-regions : goal.start_memory-requires-clause-regions
start_memory-requires-clause-regions c = subst AllRegionsFit (sym c.deref.ensures.value) (job_fits c.args.job.now c.requires.job)

pub text_of_execution-requires : goal.text_of_execution-requires
text_of_execution-requires c =
    let regions = c.deref.result.now in
    let fit = subst AllRegionsFit (sym c.deref.ensures.value) (job_fits c.args.job.now c.requires.job) in
    let started = start_held regions c.args.image.now.base c.args.image.now.bytes.items fit in
    let stays = walk_has c.execute-execution.result.went _ _ c.execute-execution.ensures.walked in
    let first = ap (λ (m : Memory). m.has) c.in_ok-memory.ensures in
    let has = subst (λ (h : ℕ → Bool). AllHeld h regions) (sym (stays ∙ first)) started in
    subst (λ (rs : List MemLine). AllHeld (is_held c.execute-execution.new.memory) rs) (c.deref.ensures.value ∙ sym c.deref-2.ensures.value) has
