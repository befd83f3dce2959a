use Rattle.std.proofs.Common.{ap, sym, ◌∙◌}
use Rattle.s390x_typed_steps.specs.VectorComposite.{cause_under, move_under}
use Rattle.s390x_emit_int.proofs.Skipping.{found_move}
use Rattle.s390x_emit_int.proofs.conditional.move_cause.Goals as goal

pub returns-in-Some : goal.returns-in-Some
returns-in-Some c =
    let f = found_move c.in-Some.found (move_under c.args.inst.now) c.in-Some.ensures in
    c.found_cause.ensures (record { row = f.move.row; operands_valid = f.move.operands_valid }) f.code ∙ sym (ap cause_under f.is)
