use Rattle.std.proofs.Common.{◌≡◌, ◌+◌, ◌++◌, ◌∷◌, [], ◌<◌, length, map, drop, arith, ap, ◌∙◌, subst, sym}
use Rattle.s390x_buffer.specs.State.{constant_of}
use Rattle.s390x_buffer.specs.Constants.{constant_starts}
use Rattle.s390x_buffer.proofs.Placing.{step-bytes, step-starts, step-end, end-next}
use Rattle.s390x_buffer.proofs.finish.append_constants.Goals as goal

pub append_constant-requires : goal.append_constant-requires
append_constant-requires c =
    let e = end-next (length c.loop-c.bytes.items) c.args.constants.now c.loop-c.c-index c.c-item.result (omega arith) c.c-item.is in
    omega (arith, e)

pub loop-c-preserved : goal.loop-c-preserved
loop-c-preserved c =
    let b = c.in_ok-start.ensures in
    let i = c.loop-c.c-index in
    let bs = c.loop-c.bytes.items in
    let bs' = c.append_constant.new.bytes.items in
    let cs = c.args.constants.now in
    let x = c.c-item.result in
    let pushed : c.push.new.self.items ≡ c.loop-c.starts.items ++ c.in_ok-start.start ∷ [] = c.in_ok-push.ensures.items in
    record {
      bytes = step-bytes bs bs' cs i x (omega arith) c.c-item.is b.1 ∙ c.loop-c.invariant.bytes;
      starts =
          ap (λ l. l ++ constant_starts (length bs') (map constant_of (drop (i + 1) cs))) (pushed ∙ ap (λ n. c.loop-c.starts.items ++ n ∷ []) b.0)
          ∙ step-starts bs bs' c.loop-c.starts.items cs i x (omega arith) c.c-item.is b.1
          ∙ c.loop-c.invariant.starts;
      small = subst (λ n. n < 2147483648) (sym (step-end bs bs' cs i x (omega arith) c.c-item.is b.1)) c.loop-c.invariant.small;
    }
