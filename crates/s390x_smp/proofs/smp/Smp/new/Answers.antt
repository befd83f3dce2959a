use Rattle.std.proofs.Common.{refl, sym, ◌∙◌}
use Rattle.s390x_smp.proofs.Starting.{no_cause, start_simulates}
use Rattle.s390x_smp.proofs.smp.Smp.new.Goals as goal

pub invariant_of-result : goal.invariant_of-result
invariant_of-result c = record {
  running = start_simulates _ c.args.base c.args.word c.args.addends.now (sym c.start_cause.ensures ∙ no_cause c.start_cause.result c.in_default.not-Some) c.ranges.word.fits (record {
    base_is = refl;
    word_is = refl;
    addends_are = c.in-Ok-copy_of.ensures;
    machines = c.in-Ok-started_machines.ensures;
    image = c.in-Ok.ensures.0;
    zero = c.in-Ok.ensures.1;
    stores = c.in-Ok-no_stores.ensures;
  });
}
