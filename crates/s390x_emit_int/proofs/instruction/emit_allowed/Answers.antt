use Rattle.std.proofs.Common.{ap, sym, ◌∙◌, [], ◌∷◌, length}
use Rattle.s390x_base.specs.declared.error.EmitError.TheVariants.{BadRegister}
use Rattle.s390x_typed_steps.specs.Causes.{unless, declared_in, memory_cause_or, branch_cause}
use Rattle.s390x_typed_steps.specs.Memory.{memory}
use Rattle.s390x_typed_steps.specs.Parts.{row_part}
use Rattle.s390x_typed_steps.specs.Resolved.{resolved_instruction}
use Rattle.s390x_typed_steps.specs.SingleInstruction.{single_instruction}
use Rattle.s390x_emit_int.specs.Fragments.{apply_all}
use Rattle.s390x_emit_int.specs.Emission.{part_fragments}
use Rattle.s390x_emit_int.proofs.Answering.{on_ok}
use Rattle.s390x_emit_int.proofs.Single.{some_single, no_single, some_fragments, some_other, none_other}
use Rattle.s390x_emit_int.proofs.Leaves.{single_passed}
use Rattle.s390x_emit_int.proofs.Resolving.{single_resolved, stop_resolved, single_range}
use Rattle.s390x_emit_int.proofs.instruction.emit_allowed.Goals as goal

pub returns-in-Some-clause-only_memory : goal.returns-in-Some-clause-only_memory
returns-in-Some-clause-only_memory c = λ flags p.
    let j = resolved_instruction c.args.state.now c.args.inst.now in
    let x = some_single c.in-Some.found (single_instruction c.args.inst.now) c.in-Some.ensures in
    let f = single_passed flags c.args.sink.now c.args.after.0 c.args.state.now.nominal c.args.depth j x.0 (x.1 ∙ sym (single_resolved c.args.state.now c.args.inst.now)) p in
    c.emit_found.ensures.only_memory x.0 x.2 f.0 f.1

pub returns-in-Some-clause-answer : goal.returns-in-Some-clause-answer
returns-in-Some-clause-answer c =
    let s = c.args.sink.now in
    let i = c.args.inst.now in
    let found = some_single c.in-Some.found (single_instruction i) c.in-Some.ensures in
    let x = found.0 in
    let j = resolved_instruction c.args.state.now i in
    let others = memory_cause_or (declared_in s) (memory j) (branch_cause s.block_count c.args.depth i) in
    let same = some_fragments j x (length s.labels) c.args.after.0 (found.1 ∙ sym (single_resolved c.args.state.now i)) in
    let code = c.stop_code.ensures ∙ sym (stop_resolved c.args.state.now i) in
    on_ok c.emit_found.result (c.emit_found.ensures.answer x found.2) (λ e. (
      some_other others i x found.1 ∙ ap (λ t. unless t BadRegister) e.0,
      e.1 ∙ ap (λ o. apply_all s (part_fragments (row_part x.row o ∷ []))) code ∙ ap (λ ps. apply_all s ps) (sym same),
    ))

pub returns-in-Some-clause-range : goal.returns-in-Some-clause-range
returns-in-Some-clause-range c =
    let j = resolved_instruction c.args.state.now c.args.inst.now in
    let x = some_single c.in-Some.found (single_instruction c.args.inst.now) c.in-Some.ensures in
    on_ok c.emit_found.result (c.emit_found.ensures.answer x.0 x.2) (λ e. single_range j x.0 (x.1 ∙ sym (single_resolved c.args.state.now c.args.inst.now)))

pub returns-in-None-clause-answer : goal.returns-in-None-clause-answer
returns-in-None-clause-answer c =
    let s = c.args.sink.now in
    let i = c.args.inst.now in
    let others = memory_cause_or (declared_in s) (memory (resolved_instruction c.args.state.now i)) (branch_cause s.block_count c.args.depth i) in
    on_ok c.emit_memory_or_control.result c.emit_memory_or_control.ensures.answer (λ e. (none_other others i (no_single (single_instruction i) c.in-None.ensures) ∙ e.0, e.1))

pub returns-in-None-clause-only_memory : goal.returns-in-None-clause-only_memory
returns-in-None-clause-only_memory c = c.emit_memory_or_control.ensures.only_memory
