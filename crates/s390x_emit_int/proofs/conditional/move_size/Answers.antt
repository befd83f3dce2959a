use Rattle.std.proofs.Common.{◌+◌, ap, sym, ◌∙◌, cond}
use Rattle.s390x_typed_steps.specs.VectorComposite.{move_under}
use Rattle.s390x_emit_int.proofs.Skipping.{found_move, found_length, short_move}
use Rattle.s390x_emit_int.proofs.conditional.move_size.Goals as goal

pub returns-in-Some-clause-value : goal.returns-in-Some-clause-value
returns-in-Some-clause-value c =
    let v = c.args.inst.now in
    let f = found_move c.in-Some.field-0 (move_under v) c.in-Some.ensures in
    c.under_size.ensures.value ∙ ap (λ t. 4 + cond t 2 6) c.is_short-short.ensures ∙ ap (λ n. 4 + n) (sym (short_move v f.move f.is)) ∙ found_length c.in-Some.field-0 (move_under v) f
