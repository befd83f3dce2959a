use Rattle.std.proofs.Common.{sym, ◌∙◌}
use Rattle.s390x_typed_steps.specs.Causes.{declared_in}
use Rattle.s390x_typed_steps.specs.Resolved.{resolved_instruction}
use Rattle.s390x_emit_int.specs.Doubleword.{instruction_of}
use Rattle.s390x_emit_int.proofs.Answering.{on_ok}
use Rattle.s390x_emit_int.proofs.Doublewords.{as_leaf}
use Rattle.s390x_emit_int.proofs.Leaves.{memory_passed}
use Rattle.s390x_emit_int.proofs.Resolving.{single_resolved, found_memory, memory_range}
use Rattle.s390x_emit_int.proofs.instruction.emit_far_doubleword.Goals as goal

pub returns-in-Some-clause-answer : goal.returns-in-Some-clause-answer
returns-in-Some-clause-answer c =
    let s = c.args.sink.now in
    let x = instruction_of c.args.access in
    on_ok c.put_far.result c.put_far.ensures.answer (λ put. as_leaf s c.put_far.new.sink c.args.state.now c.args.inst.now x c.args.depth c.args.after.0 c.requires.single_instruction c.requires.row (c.in-Some.ensures.1 (declared_in s)) put)

pub returns-in-Some-clause-only_memory : goal.returns-in-Some-clause-only_memory
returns-in-Some-clause-only_memory c = λ flags p.
    let e = c.args.state.now in
    let i = c.args.inst.now in
    let x = instruction_of c.args.access in
    let f = memory_passed flags c.args.sink.now c.args.after.0 e.nominal c.args.depth (resolved_instruction e i) x (c.requires.single_instruction ∙ sym (single_resolved e i)) (found_memory e i x c.requires.row) p in
    c.put_far.ensures.only_memory f.0

pub returns-in-Some-clause-range : goal.returns-in-Some-clause-range
returns-in-Some-clause-range c = on_ok c.put_far.result c.put_far.ensures.answer (λ put. memory_range c.args.state.now c.args.inst.now (instruction_of c.args.access) c.requires.row tt)
