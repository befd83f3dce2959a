use Rattle.std.proofs.Common.{◌≡◌, Some, None, ap, sym, length, ◌∙◌}
use Rattle.std.specs.Option.{option_map}
use Rattle.s390x_typed_steps.specs.Causes.{declared_in, memory_cause_or, branch_cause}
use Rattle.s390x_typed_steps.specs.Memory.{memory}
use Rattle.s390x_typed_steps.specs.Resolved.{resolved_instruction}
use Rattle.s390x_address.specs.Rows.{memory_instruction_of, in_state}
use Rattle.s390x_emit_int.specs.Fragments.{apply_all}
use Rattle.s390x_emit_int.proofs.Answering.{on_ok}
use Rattle.s390x_emit_int.proofs.Single.{memory_fragments, none_fragments}
use Rattle.s390x_emit_int.proofs.Leaves.{memory_passed, other_passed}
use Rattle.s390x_emit_int.proofs.Resolving.{single_resolved, found_memory, no_memory, fragments_resolved, memory_range, branch_range}
use Rattle.s390x_emit_int.proofs.instruction.emit_rows_or_control.Goals as goal

pub returns-in-Some-clause-answer : goal.returns-in-Some-clause-answer
returns-in-Some-clause-answer c =
    let s = c.args.sink.now in
    let e = c.args.state.now in
    let i = c.args.inst.now in
    let x = memory_instruction_of c.in-Some.found in
    let row : Some x ≡ memory i = sym (ap (option_map memory_instruction_of) c.in-Some.is) ∙ c.requires.row in
    let found = found_memory e i x row in
    let same = memory_fragments (resolved_instruction e i) (in_state e x) (length s.labels) c.args.after.0 (c.requires.single_instruction ∙ sym (single_resolved e i)) (sym found) in
    on_ok c.emit_access.result c.emit_access.ensures.answer (λ h. (ap (λ o. memory_cause_or (declared_in s) o (branch_cause s.block_count c.args.depth i)) found ∙ h.0, h.1 ∙ ap (apply_all s) (sym same)))

pub returns-in-Some-clause-only_memory : goal.returns-in-Some-clause-only_memory
returns-in-Some-clause-only_memory c = λ flags p.
    let e = c.args.state.now in
    let i = c.args.inst.now in
    let x = memory_instruction_of c.in-Some.found in
    let row : Some x ≡ memory i = sym (ap (option_map memory_instruction_of) c.in-Some.is) ∙ c.requires.row in
    let f = memory_passed flags c.args.sink.now c.args.after.0 c.args.state.now.nominal c.args.depth (resolved_instruction e i) (in_state e x) (c.requires.single_instruction ∙ sym (single_resolved e i)) (found_memory e i x row) p in
    c.emit_access.ensures.only_memory f.0 f.1

pub returns-in-Some-clause-range : goal.returns-in-Some-clause-range
returns-in-Some-clause-range c =
    let i = c.args.inst.now in
    let x = memory_instruction_of c.in-Some.found in
    let row : Some x ≡ memory i = sym (ap (option_map memory_instruction_of) c.in-Some.is) ∙ c.requires.row in
    on_ok c.emit_access.result c.emit_access.ensures.answer (λ h. memory_range c.args.state.now i x row c.emit_access.ensures.range)

pub returns-in-None-clause-answer : goal.returns-in-None-clause-answer
returns-in-None-clause-answer c =
    let s = c.args.sink.now in
    let e = c.args.state.now in
    let i = c.args.inst.now in
    let row : None ≡ memory c.args.inst.now = sym (ap (option_map memory_instruction_of) c.in-None.is) ∙ c.requires.row in
    let none = no_memory e i row in
    let same = none_fragments (resolved_instruction e i) (length s.labels) c.args.after.0 (c.requires.single_instruction ∙ sym (single_resolved e i)) (sym none) ∙ fragments_resolved e (length s.labels) c.args.after.0 i in
    on_ok c.emit_control.result c.emit_control.ensures.answer (λ h. (ap (λ o. memory_cause_or (declared_in s) o (branch_cause s.block_count c.args.depth i)) none ∙ h.0, h.1 ∙ ap (apply_all s) (sym same)))

pub returns-in-None-clause-only_memory : goal.returns-in-None-clause-only_memory
returns-in-None-clause-only_memory c = λ flags p.
    let row : None ≡ memory c.args.inst.now = sym (ap (option_map memory_instruction_of) c.in-None.is) ∙ c.requires.row in
    let f = other_passed flags c.args.state.now c.args.sink.now c.args.after.0 c.args.state.now.nominal c.args.depth c.args.inst.now c.requires.single_instruction row p in
    c.emit_control.ensures.only_memory f.0 f.1

pub returns-in-None-clause-range : goal.returns-in-None-clause-range
returns-in-None-clause-range c =
    let row : None ≡ memory c.args.inst.now = sym (ap (option_map memory_instruction_of) c.in-None.is) ∙ c.requires.row in
    on_ok c.emit_control.result c.emit_control.ensures.range (λ m. branch_range c.args.state.now c.args.inst.now row m)
