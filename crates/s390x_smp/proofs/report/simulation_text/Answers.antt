use Rattle.std.proofs.Common.{length, sym, ap, ◌∙◌, subst}
use Rattle.s390x_schedule.specs.Schedule.{NameMachines}
use Rattle.s390x_smp.proofs.Drawing.{addends_count, drawn_named}
use Rattle.s390x_smp.proofs.report.simulation_text.Goals as goal

pub run-requires : goal.run-requires
run-requires c =
    let addends = c.in-Ok-new.ensures.start.addends_are ∙ c.deref.ensures.value ∙ c.in-Ok.ensures in
    let schedule = c.deref-2.ensures.value ∙ c.in-Ok-drawn_schedule.ensures in
    subst (λ n. NameMachines n c.deref-2.result.now) (sym (ap length addends ∙ addends_count 0 c.args.count))
    (subst (NameMachines c.args.count) (sym schedule) (drawn_named c.args.count c.args.steps c.args.start c.requires))
