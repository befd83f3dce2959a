use Rattle.std.proofs.Common.{◌∙◌}
use Rattle.s390x_tables.proofs.Writing.{tries_more, count_more}
use Rattle.s390x_tables.proofs.sites.write_tries.Goals as goal

pub loop-place-preserved : goal.loop-place-preserved
loop-place-preserved c = record {
  before = count_more c.args.tries.now c.loop-place.place c.index-tries-place.result c.loop-place.before c.len-handler_count.result
      c.loop-place.invariant.before c.loop-place-test.true c.index-tries-place.is
      (c.len-handler_count.ensures ∙ c.index-tries-place.result.handlers.ok.0);
  written = tries_more c.args.out.now c.loop-place.out c.args.tries.now c.loop-place.place c.index-tries-place.result _
      c.loop-place.invariant.written c.loop-place-test.true c.requires.room c.index-tries-place.is
      (let count = c.len-handler_count.ensures ∙ c.index-tries-place.result.handlers.ok.0 in cc);
}
