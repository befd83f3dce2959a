use Rattle.std.proofs.Common.{ap, sym, ◌∙◌, [], ◌∷◌, length}
use Rattle.s390x_base.specs.declared.error.EmitError.TheVariants.{BadRegister}
use Rattle.s390x_typed_steps.specs.Causes.{unless, declared_in, memory_cause_or, branch_cause}
use Rattle.s390x_typed_steps.specs.Memory.{memory}
use Rattle.s390x_typed_steps.specs.Parts.{row_part}
use Rattle.s390x_typed_steps.specs.Resolved.{resolved_instruction}
use Rattle.s390x_typed_steps.specs.SingleInstruction.{single_instruction}
use Rattle.s390x_emit_int.specs.Fragments.{apply_all}
use Rattle.s390x_emit_int.specs.Emission.{part_fragments}
use Rattle.s390x_emit_int.proofs.Answering.{on_ok}
use Rattle.s390x_emit_int.proofs.Plain.{leaf_register}
use Rattle.s390x_emit_int.proofs.Single.{some_single, no_single, some_fragments, none_fragments, some_other, none_other}
use Rattle.s390x_emit_int.proofs.Leaves.{single_passed, other_passed}
use Rattle.s390x_emit_int.proofs.Resolving.{single_resolved, stop_resolved, single_range, no_memory, fragments_resolved, branch_range}
use Rattle.s390x_emit_int.proofs.instruction.emit_register.Goals as goal

pub returns-in-Some-clause-only_memory : goal.returns-in-Some-clause-only_memory
returns-in-Some-clause-only_memory c = λ flags e p.
    let x = some_single c.in-Some.found (single_instruction c.args.inst.now) c.in-Some.ensures in
    let f = single_passed flags c.args.sink.now c.args.after.0 e.nominal c.args.depth (resolved_instruction e c.args.inst.now) x.0 (x.1 ∙ sym (single_resolved e c.args.inst.now)) p in
    c.emit_found.ensures.only_memory x.0 x.2 f.0 f.1

pub returns-in-Some-clause-answer : goal.returns-in-Some-clause-answer
returns-in-Some-clause-answer c = λ flags e.
    let s = c.args.sink.now in
    let i = c.args.inst.now in
    let found = some_single c.in-Some.found (single_instruction i) c.in-Some.ensures in
    let x = found.0 in
    let j = resolved_instruction e i in
    let others = memory_cause_or (declared_in s) (memory j) (branch_cause s.block_count c.args.depth i) in
    let same = some_fragments j x (length s.labels) c.args.after.0 (found.1 ∙ sym (single_resolved e i)) in
    let code = c.requires.register.4 ∙ sym (stop_resolved e i) in
    on_ok c.emit_found.result (c.emit_found.ensures.answer x found.2) (λ h. (
      leaf_register flags e (declared_in s) (length s.labels) e.nominal c.args.depth i c.requires.register c.requires.numbers (some_other others i x found.1 ∙ ap (λ t. unless t BadRegister) h.0),
      h.1 ∙ ap (λ o. apply_all s (part_fragments (row_part x.row o ∷ []))) code ∙ ap (λ ps. apply_all s ps) (sym same),
    ))

pub returns-in-Some-clause-range : goal.returns-in-Some-clause-range
returns-in-Some-clause-range c = λ e.
    let i = c.args.inst.now in
    let x = some_single c.in-Some.found (single_instruction i) c.in-Some.ensures in
    on_ok c.emit_found.result (c.emit_found.ensures.answer x.0 x.2) (λ h. single_range (resolved_instruction e i) x.0 (x.1 ∙ sym (single_resolved e i)))

pub returns-in-None-clause-answer : goal.returns-in-None-clause-answer
returns-in-None-clause-answer c = λ flags e.
    let s = c.args.sink.now in
    let i = c.args.inst.now in
    let j = resolved_instruction e i in
    let single = no_single (single_instruction i) c.in-None.ensures in
    let none = no_memory e i c.requires.register.3 in
    let others = memory_cause_or (declared_in s) (memory j) (branch_cause s.block_count c.args.depth i) in
    let same = none_fragments j (length s.labels) c.args.after.0 (single ∙ sym (single_resolved e i)) (sym none) ∙ fragments_resolved e (length s.labels) c.args.after.0 i in
    on_ok c.emit_control.result c.emit_control.ensures.answer (λ h. (
      leaf_register flags e (declared_in s) (length s.labels) e.nominal c.args.depth i c.requires.register c.requires.numbers (none_other others i single ∙ ap (λ o. memory_cause_or (declared_in s) o (branch_cause s.block_count c.args.depth i)) none ∙ h.0),
      h.1 ∙ ap (apply_all s) (sym same),
    ))

pub returns-in-None-clause-only_memory : goal.returns-in-None-clause-only_memory
returns-in-None-clause-only_memory c = λ flags e p.
    let i = c.args.inst.now in
    let f = other_passed flags e c.args.sink.now c.args.after.0 e.nominal c.args.depth i (no_single (single_instruction i) c.in-None.ensures) c.requires.register.3 p in
    c.emit_control.ensures.only_memory f.0 f.1

pub returns-in-None-clause-range : goal.returns-in-None-clause-range
returns-in-None-clause-range c = λ e. on_ok c.emit_control.result c.emit_control.ensures.range (λ m. branch_range e c.args.inst.now c.requires.register.3 m)
