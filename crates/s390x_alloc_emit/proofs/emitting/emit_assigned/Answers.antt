use Rattle.s390x_alloc_emit.specs.AssignedEmission.{IsGiven, cause_of}
use Rattle.s390x_alloc_emit.proofs.Changes.{only_outputs}
use Rattle.s390x_alloc_emit.proofs.Clear.{given_clear, answer_clear}
use Rattle.s390x_alloc_emit.proofs.emitting.emit_assigned.Goals as goal

pub returns-clause-suffices : goal.returns-clause-suffices
returns-clause-suffices c = λ may.
    let flags = c.args.info.now.isa_flags in
    let before = c.args.state.now in
    let sink = c.args.sink.now in
    let clears = given_clear flags before sink c.args.inst.now c.in-Ok.assigned c.args.registers.now may.allocatable may.meet may.spare c.in-Ok.ensures.value in
    answer_clear (cause_of flags before sink c.in-Ok.assigned) c.in-Err-emit.error clears c.in-Err-emit.ensures.answer.0

pub returns-in-Ok-emit-clause-changes : goal.returns-in-Ok-emit-clause-changes
returns-in-Ok-emit-clause-changes c = λ may.
    let given : IsGiven c.args.inst.now c.args.registers.now c.in-Ok.assigned =
    record { assigned = c.in-Ok.ensures.value; operands = c.in-Ok.ensures.operands; answer = c.in-Ok.ensures.cause } in
    let appended = c.in-Ok-emit.ensures.answer in
    only_outputs c.args.info.now.isa_flags c.args.state.now c.args.sink.now c.args.inst.now c.args.registers.now c.emit.new.state c.emit.new.sink may
    (record { instruction = c.in-Ok.assigned; given = given; uncaused = appended.0; appended = appended.1; state = appended.2 })
