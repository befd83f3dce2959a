use Rattle.std.proofs.Common.{◌∙◌, sym, arith}
use Rattle.s390x_typed_steps.specs.Causes.{declared_in}
use Rattle.s390x_emit_int.specs.Members.{member_of}
use Rattle.s390x_emit_int.specs.Room.{HasRoom}
use Rattle.s390x_emit_int.proofs.Short.{emit_passed, emit_none, counted_cause, refused_by}
use Rattle.s390x_emit_int.proofs.emit.emit_in.Goals as goal
use Rattle.s390x_emit_int.proofs.Passing.{entries_declared}

pub returns-in-Ok-clause-answer : goal.returns-in-Ok-clause-answer
returns-in-Ok-clause-answer c =
    let a = c.in-Ok.ensures.answer in
    (emit_none c.args.flags c.args.state.now c.args.inst.now c.args.sink.now c.emit_and_advance.new.sink _ c.requires c.in-Ok.ensures.cause a.0 a.2 a.3, a.0, a.1)

pub returns-in-Err-clause-answer : goal.returns-in-Err-clause-answer
returns-in-Err-clause-answer c =
    let s = c.args.sink.now in
    let t = c.emit_and_advance.new.sink in
    let step = member_of c.args.flags c.args.state.now c.args.inst.now in
    let room : HasRoom s = omega (arith, c.label_count.ensures.room, c.label_count.ensures.value) in
    let cause = counted_cause c.args.flags c.args.state.now c.emit_and_advance.new.state c.args.inst.now s (declared_in t) c.label_count.result c.from.result c.in-Err.ensures.answer c.requires (entries_declared s t c.emit_and_advance.ensures.kept) c.label_count.ensures.value (c.from.ensures ∙ c.cur_offset.ensures.value) in
    (refused_by _ _ _ _ _ cause c.first_cause.ensures (λ none. c.in-Err.ensures.only_memory (emit_passed c.args.flags c.args.state.now.nominal s step room (sym cause ∙ none))) c.unwrap_or.ensures, c.in-Err.ensures.answer)
