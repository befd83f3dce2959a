use Rattle.std.proofs.Common.{◌-◌, refl, sym, ap, ◌∙◌, subst, length, true, false, [], ◌∷◌}
use Rattle.s390x_machine.specs.Regions.{byte_of, is_held}
use Rattle.s390x_machine.specs.State.{memory_of}
use Rattle.s390x_schedule.specs.Schedule.{EndsAs, world_of}
use Rattle.s390x_schedule.specs.declared.schedule.ScheduleEnd.TheVariants.{Done}
use Rattle.s390x_smp.specs.Stores.{has_stored}
use Rattle.s390x_smp.specs.View.{simulation}
use Rattle.s390x_smp.proofs.Stepping.{counts_there, goes, offset_fits, one_counted, whole_step, written_back}
use Rattle.s390x_smp.proofs.smp.Smp.step.Goals as goal

pub overflow_sub-offset : goal.overflow_sub-offset
overflow_sub-offset c = offset_fits (simulation c.args.self.now) c.args.self.now.running c.args.number c.requires c.index.result.now c.index.ensures

pub unreachable-requires : goal.unreachable-requires
unreachable-requires c =
    c.in_default.not-Done (goes (simulation c.args.self.now) c.args.self.now.running c.args.number c.requires c.run_schedule.result _
    (subst (λ ms. EndsAs (world_of ms (simulation c.args.self.now).memory) (c.args.number ∷ []) c.run_schedule.result (world_of c.run_schedule.new.machines (memory_of (is_held c.run_schedule.new.memory) (byte_of c.run_schedule.new.memory)))) c.deref_mut.ensures.value c.run_schedule.ensures.end))

pub invariant_of-self : goal.invariant_of-self
invariant_of-self c =
    let a = simulation c.args.self.now in
    let m = memory_of (is_held c.run_schedule.new.memory) (byte_of c.run_schedule.new.memory) in
    let same = c.run_schedule.ensures.count ∙ ap length c.deref_mut.ensures.value in
    record {
      running = (whole_step a c.args.self.now.running c.args.number c.requires c.run_schedule.new.machines _ m c.index.result.now c.index-2.result.now _ true same
          (written_back a.machines c.run_schedule.new.machines c.args.self.now.machines.len c.args.self.now.machines.ok.0 same)
          (subst (λ ms. EndsAs (world_of ms a.memory) (c.args.number ∷ []) Done (world_of c.run_schedule.new.machines m)) c.deref_mut.ensures.value c.in-Done.ensures.end)
          c.index.ensures c.index-2.ensures (ap (has_stored (c.index.result.now.place - a.base)) (sym c.condition_code.ensures) ∙ sym c.has_stored.ensures ∙ c.if-has_stored.true)
          (one_counted a.stores c.args.number c.index-then-has_stored.result.now (counts_there a c.args.self.now.running c.args.number c.requires) c.index-then-has_stored.ensures)).0;
    }

pub invariant_of-self-else-has_stored : goal.invariant_of-self-else-has_stored
invariant_of-self-else-has_stored c =
    let a = simulation c.args.self.now in
    let m = memory_of (is_held c.run_schedule.new.memory) (byte_of c.run_schedule.new.memory) in
    let same = c.run_schedule.ensures.count ∙ ap length c.deref_mut.ensures.value in
    record {
      running = (whole_step a c.args.self.now.running c.args.number c.requires c.run_schedule.new.machines _ m c.index.result.now c.index-2.result.now _ false same
          (written_back a.machines c.run_schedule.new.machines c.args.self.now.machines.len c.args.self.now.machines.ok.0 same)
          (subst (λ ms. EndsAs (world_of ms a.memory) (c.args.number ∷ []) Done (world_of c.run_schedule.new.machines m)) c.deref_mut.ensures.value c.in-Done.ensures.end)
          c.index.ensures c.index-2.ensures (ap (has_stored (c.index.result.now.place - a.base)) (sym c.condition_code.ensures) ∙ sym c.has_stored.ensures ∙ c.if-has_stored.false)
          refl).0;
    }

pub returns-then-has_stored : goal.returns-then-has_stored
returns-then-has_stored c =
    let a = simulation c.args.self.now in
    let m = memory_of (is_held c.run_schedule.new.memory) (byte_of c.run_schedule.new.memory) in
    let same = c.run_schedule.ensures.count ∙ ap length c.deref_mut.ensures.value in
    record {
      runs = (whole_step a c.args.self.now.running c.args.number c.requires c.run_schedule.new.machines _ m c.index.result.now c.index-2.result.now _ true same
          (written_back a.machines c.run_schedule.new.machines c.args.self.now.machines.len c.args.self.now.machines.ok.0 same)
          (subst (λ ms. EndsAs (world_of ms a.memory) (c.args.number ∷ []) Done (world_of c.run_schedule.new.machines m)) c.deref_mut.ensures.value c.in-Done.ensures.end)
          c.index.ensures c.index-2.ensures (ap (has_stored (c.index.result.now.place - a.base)) (sym c.condition_code.ensures) ∙ sym c.has_stored.ensures ∙ c.if-has_stored.true)
          (one_counted a.stores c.args.number c.index-then-has_stored.result.now (counts_there a c.args.self.now.running c.args.number c.requires) c.index-then-has_stored.ensures)).1;
    }

pub returns-else-has_stored : goal.returns-else-has_stored
returns-else-has_stored c =
    let a = simulation c.args.self.now in
    let m = memory_of (is_held c.run_schedule.new.memory) (byte_of c.run_schedule.new.memory) in
    let same = c.run_schedule.ensures.count ∙ ap length c.deref_mut.ensures.value in
    record {
      runs = (whole_step a c.args.self.now.running c.args.number c.requires c.run_schedule.new.machines _ m c.index.result.now c.index-2.result.now _ false same
          (written_back a.machines c.run_schedule.new.machines c.args.self.now.machines.len c.args.self.now.machines.ok.0 same)
          (subst (λ ms. EndsAs (world_of ms a.memory) (c.args.number ∷ []) Done (world_of c.run_schedule.new.machines m)) c.deref_mut.ensures.value c.in-Done.ensures.end)
          c.index.ensures c.index-2.ensures (ap (has_stored (c.index.result.now.place - a.base)) (sym c.condition_code.ensures) ∙ sym c.has_stored.ensures ∙ c.if-has_stored.false)
          refl).1;
    }
