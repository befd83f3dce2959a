use Rattle.std.proofs.Common.{◌+◌, Some, length, set, get_or, arith, ap, ◌∙◌, refl, length-set}
use Rattle.s390x_buffer.proofs.Placing.{bind_step}
use Rattle.s390x_buffer.proofs.finish.bind_starts.Goals as goal

pub loop-start-preserved : goal.loop-start-preserved
loop-start-preserved c =
    let i = c.loop-start.start-index in
    let v = c.loop-start.invariant in
    let s = get_or c.args.starts.now i 0 in
    record {
      label = omega arith;
      bound =
          ap (λ k. set c.loop-start.labels k (Some s)) v.label
          ∙ ap (λ l. set l (c.args.first + i) (Some s)) v.bound
          ∙ bind_step c.args.first i c.args.starts.now c.args.labels.now s (omega arith) refl (omega arith);
      long = length-set c.loop-start.labels c.loop-start.label (Some s) ∙ v.long;
    }
