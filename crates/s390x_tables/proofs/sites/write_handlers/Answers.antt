use Rattle.std.proofs.Common.{refl, ◌∙◌}
use Rattle.s390x_tables.proofs.Writing.{handlers_more, count_more}
use Rattle.s390x_tables.proofs.sites.write_handlers.Goals as goal

pub loop-entry-preserved : goal.loop-entry-preserved
loop-entry-preserved c = record {
  written = count_more c.args.tries.now c.loop-entry.entry-index c.entry-item.result c.loop-entry.written c.len-written.result
      c.loop-entry.invariant.written c.loop-entry-test.true c.entry-item.is
      (c.len-written.ensures ∙ c.entry-item.result.handlers.ok.0);
  entries = handlers_more c.args.out.now c.loop-entry.out c.write_entries.new.out c.args.tries.now c.loop-entry.entry-index c.entry-item.result
      c.deref.result.now c.loop-entry.written _ c.loop-entry.invariant.entries c.loop-entry.invariant.written c.loop-entry-test.true
      c.entry-item.is c.deref.ensures.value refl c.write_entries.ensures;
}
