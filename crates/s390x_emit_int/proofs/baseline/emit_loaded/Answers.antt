use Rattle.std.proofs.Common.{length, sym, ap, ◌∙◌}
use Rattle.s390x_address.specs.Rows.{memory_instruction_of}
use Rattle.s390x_typed_steps.specs.Causes.{declared_in}
use Rattle.s390x_emit_int.specs.Fragments.{apply_all}
use Rattle.s390x_emit_int.proofs.Answering.{on_ok}
use Rattle.s390x_emit_int.proofs.AddressFirst.{loaded_none, loaded_outer, loaded_fragments, loaded_passed, loaded_range}
use Rattle.s390x_emit_int.proofs.baseline.emit_loaded.Goals as goal

pub returns-in-None-clause-answer : goal.returns-in-None-clause-answer
returns-in-None-clause-answer c =
    let s = c.args.sink.now in
    let e = c.args.state.now in
    let i = c.args.inst.now in
    let x = memory_instruction_of c.args.found.now in
    let outer = sym c.outer_cause.ensures ∙ c.in-None.is in
    on_ok c.emit_access.result c.emit_access.ensures.answer (λ h. (
      loaded_none c.args.flags e (declared_in s) (length s.labels) e.nominal c.args.depth i x c.requires.row outer h.0,
      h.1 ∙ ap (apply_all s) (sym (loaded_fragments e (length s.labels) 0 i x c.requires.row)),
    ))

pub returns-in-None-clause-only_memory : goal.returns-in-None-clause-only_memory
returns-in-None-clause-only_memory c = λ after p.
    let f = loaded_passed c.args.flags c.args.state.now c.args.sink.now after c.args.depth c.args.inst.now (memory_instruction_of c.args.found.now) c.requires.row p in
    c.emit_access.ensures.only_memory f.0 f.1

pub returns-in-None-clause-range : goal.returns-in-None-clause-range
returns-in-None-clause-range c = on_ok c.emit_access.result c.emit_access.ensures.answer (λ h. loaded_range c.args.state.now c.args.inst.now (memory_instruction_of c.args.found.now) c.requires.row c.emit_access.ensures.range)

-- what passed has no cause outside
pub returns-in-Some-clause-only_memory : goal.returns-in-Some-clause-only_memory
returns-in-Some-clause-only_memory c = λ after p.
    let s = c.args.sink.now in
    let e = c.args.state.now in
    let none = loaded_outer c.args.flags e (declared_in s) (length s.labels) e.nominal c.args.depth c.args.inst.now (memory_instruction_of c.args.found.now) c.requires.row p.passed in
    let some = c.outer_cause.ensures in
    let is = c.in-Some.is in
    absurd (cc)
