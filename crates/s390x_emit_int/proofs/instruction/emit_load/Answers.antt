use Rattle.std.proofs.Common.{◌≡◌, Some, ap, sym, length, ◌∙◌}
use Rattle.s390x_inst.specs.Loads.{by_load}
use Rattle.s390x_typed_steps.specs.Causes.{declared_in, memory_cause_or, branch_cause}
use Rattle.s390x_typed_steps.specs.Memory.{memory, load_memory, other_memory}
use Rattle.s390x_typed_steps.specs.Resolved.{resolved_instruction}
use Rattle.s390x_address.specs.Rows.{memory_instruction_of, in_state}
use Rattle.s390x_emit_int.specs.Fragments.{apply_all}
use Rattle.s390x_emit_int.proofs.Answering.{on_ok}
use Rattle.s390x_emit_int.proofs.Single.{memory_fragments}
use Rattle.s390x_emit_int.proofs.Leaves.{memory_passed}
use Rattle.s390x_emit_int.proofs.Resolving.{single_resolved, found_memory, memory_range}
use Rattle.s390x_emit_int.proofs.instruction.emit_load.Goals as goal

pub returns-in-Some-clause-answer : goal.returns-in-Some-clause-answer
returns-in-Some-clause-answer c =
    let s = c.args.sink.now in
    let e = c.args.state.now in
    let i = c.args.inst.now in
    let x = memory_instruction_of c.memory_of_load.result in
    let row : Some x ≡ memory i = c.memory_of_load.ensures.row ∙ ap (by_load load_memory (other_memory i)) c.in-Some.ensures in
    let found = found_memory e i x row in
    let same = memory_fragments (resolved_instruction e i) (in_state e x) (length s.labels) c.args.after.0 (c.requires.single_instruction ∙ sym (single_resolved e i)) (sym found) in
    on_ok c.emit_access.result c.emit_access.ensures.answer (λ h. (ap (λ o. memory_cause_or (declared_in s) o (branch_cause s.block_count c.args.depth i)) found ∙ h.0, h.1 ∙ ap (apply_all s) (sym same)))

pub returns-in-Some-clause-only_memory : goal.returns-in-Some-clause-only_memory
returns-in-Some-clause-only_memory c = λ flags p.
    let e = c.args.state.now in
    let i = c.args.inst.now in
    let x = memory_instruction_of c.memory_of_load.result in
    let row : Some x ≡ memory i = c.memory_of_load.ensures.row ∙ ap (by_load load_memory (other_memory i)) c.in-Some.ensures in
    let f = memory_passed flags c.args.sink.now c.args.after.0 c.args.state.now.nominal c.args.depth (resolved_instruction e i) (in_state e x) (c.requires.single_instruction ∙ sym (single_resolved e i)) (found_memory e i x row) p in
    c.emit_access.ensures.only_memory f.0 f.1

pub returns-in-Some-clause-range : goal.returns-in-Some-clause-range
returns-in-Some-clause-range c =
    let i = c.args.inst.now in
    let x = memory_instruction_of c.memory_of_load.result in
    let row : Some x ≡ memory i = c.memory_of_load.ensures.row ∙ ap (by_load load_memory (other_memory i)) c.in-Some.ensures in
    on_ok c.emit_access.result c.emit_access.ensures.answer (λ h. memory_range c.args.state.now i x row c.emit_access.ensures.range)
