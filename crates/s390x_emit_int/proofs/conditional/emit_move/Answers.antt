use Rattle.std.proofs.Common.{◌≡◌, List, OnOk, ap, sym, subst, ◌∙◌, cond}
use Rattle.s390x_buffer.specs.State.{put_cause}
use Rattle.s390x_typed_steps.specs.Parts.{CodePart}
use Rattle.s390x_typed_steps.specs.VectorComposite.{move_under}
use Rattle.s390x_emit_int.specs.Fragments.{apply_all}
use Rattle.s390x_emit_int.specs.Emission.{part_fragments}
use Rattle.s390x_emit_int.proofs.Skipping.{found_move, found_length, found_rows, short_move, valid_found}
use Rattle.s390x_emit_int.proofs.conditional.emit_move.Goals as goal

pub returns-in-Some-clause-answer : goal.returns-in-Some-clause-answer
returns-in-Some-clause-answer c =
    let v = c.args.inst.now in
    let f = found_move c.in-Some.found (move_under v) c.in-Some.ensures in
    let size = short_move v f.move f.is ∙ ap (λ t. cond t 2 6) (sym c.is_short-short.ensures) in
    subst (λ (parts : List CodePart). OnOk c.emit_under.result (c.emit_under.new.sink ≡ apply_all c.args.sink.now (part_fragments parts))) (found_rows c.in-Some.found (move_under v) f c.is_short-short.result size) (c.emit_under.ensures.answer f.move.operands_valid f.move.row f.code)

pub returns-in-Some-clause-only_memory : goal.returns-in-Some-clause-only_memory
returns-in-Some-clause-only_memory c = λ put none.
    let v = c.args.inst.now in
    let f = found_move c.in-Some.found (move_under v) c.in-Some.ensures in
    c.emit_under.ensures.only_memory f.move.operands_valid f.move.row f.code (ap (put_cause c.args.sink.now) (found_length c.in-Some.found (move_under v) f) ∙ put) (valid_found c.in-Some.found (move_under v) f none)
