use Rattle.std.proofs.Common.{sym, ap, ◌∙◌, length}
use Rattle.s390x_typed_steps.specs.Causes.{declared_in, memory_cause_or, branch_cause}
use Rattle.s390x_typed_steps.specs.Resolved.{resolved_instruction}
use Rattle.s390x_emit_int.specs.Fragments.{apply_all}
use Rattle.s390x_emit_int.proofs.Answering.{on_ok}
use Rattle.s390x_emit_int.proofs.Emitting.{leaf_none, leaf_outer}
use Rattle.s390x_emit_int.proofs.Plain.{leaf_plain}
use Rattle.s390x_emit_int.proofs.Leaves.{other_passed}
use Rattle.s390x_emit_int.proofs.Resolving.{single_resolved, no_memory, fragments_resolved, branch_range}
use Rattle.s390x_emit_int.proofs.Single.{none_fragments}
use Rattle.s390x_emit_int.proofs.instruction.emit_leaf.Goals as goal

pub returns-in-Load-clause-answer : goal.returns-in-Load-clause-answer
returns-in-Load-clause-answer c =
    let s = c.args.sink.now in
    let plain = c.fast_path_of.ensures.load c.in-Load.is in
    on_ok c.emit_load.result c.emit_load.ensures.answer (λ h. (leaf_plain c.args.flags c.args.state.now (declared_in s) (length s.labels) c.args.state.now.nominal c.args.depth c.args.inst.now plain c.reveal_label_range.ensures h.0, h.1))

pub returns-in-Load-clause-only_memory : goal.returns-in-Load-clause-only_memory
returns-in-Load-clause-only_memory c = c.emit_load.ensures.only_memory c.args.flags

pub returns-in-Store-clause-answer : goal.returns-in-Store-clause-answer
returns-in-Store-clause-answer c =
    let s = c.args.sink.now in
    let plain = c.fast_path_of.ensures.store c.in-Store.is in
    on_ok c.emit_store.result c.emit_store.ensures.answer (λ h. (leaf_plain c.args.flags c.args.state.now (declared_in s) (length s.labels) c.args.state.now.nominal c.args.depth c.args.inst.now plain c.reveal_label_range.ensures h.0, h.1))

pub returns-in-Store-clause-only_memory : goal.returns-in-Store-clause-only_memory
returns-in-Store-clause-only_memory c = c.emit_store.ensures.only_memory c.args.flags

pub returns-in-Load64-clause-answer : goal.returns-in-Load64-clause-answer
returns-in-Load64-clause-answer c =
    let s = c.args.sink.now in
    let plain = c.fast_path_of.ensures.load64 c.in-Load64.is in
    on_ok c.emit_load64.result c.emit_load64.ensures.answer (λ h. (leaf_plain c.args.flags c.args.state.now (declared_in s) (length s.labels) c.args.state.now.nominal c.args.depth c.args.inst.now plain c.reveal_label_range.ensures h.0, h.1))

pub returns-in-Load64-clause-only_memory : goal.returns-in-Load64-clause-only_memory
returns-in-Load64-clause-only_memory c = c.emit_load64.ensures.only_memory c.args.flags

pub returns-in-Store64-clause-answer : goal.returns-in-Store64-clause-answer
returns-in-Store64-clause-answer c =
    let s = c.args.sink.now in
    let plain = c.fast_path_of.ensures.store64 c.in-Store64.is in
    on_ok c.emit_store64.result c.emit_store64.ensures.answer (λ h. (leaf_plain c.args.flags c.args.state.now (declared_in s) (length s.labels) c.args.state.now.nominal c.args.depth c.args.inst.now plain c.reveal_label_range.ensures h.0, h.1))

pub returns-in-Store64-clause-only_memory : goal.returns-in-Store64-clause-only_memory
returns-in-Store64-clause-only_memory c = c.emit_store64.ensures.only_memory c.args.flags

pub returns-in-Whole-clause-answer : goal.returns-in-Whole-clause-answer
returns-in-Whole-clause-answer c =
    let s = c.args.sink.now in
    let plain = c.fast_path_of.ensures.whole c.in-Whole.is in
    on_ok c.emit_whole.result c.emit_whole.ensures.answer (λ h. (leaf_plain c.args.flags c.args.state.now (declared_in s) (length s.labels) c.args.state.now.nominal c.args.depth c.args.inst.now plain c.reveal_label_range.ensures h.0, h.1))

pub returns-in-Whole-clause-only_memory : goal.returns-in-Whole-clause-only_memory
returns-in-Whole-clause-only_memory c = c.emit_whole.ensures.only_memory c.args.flags

pub returns-in-Access-clause-answer : goal.returns-in-Access-clause-answer
returns-in-Access-clause-answer c =
    let s = c.args.sink.now in
    let plain = c.fast_path_of.ensures.access c.in-Access.is in
    on_ok c.emit_memory_or_control.result c.emit_memory_or_control.ensures.answer (λ h. (leaf_plain c.args.flags c.args.state.now (declared_in s) (length s.labels) c.args.state.now.nominal c.args.depth c.args.inst.now plain c.reveal_label_range.ensures h.0, h.1))

pub returns-in-Access-clause-only_memory : goal.returns-in-Access-clause-only_memory
returns-in-Access-clause-only_memory c = c.emit_memory_or_control.ensures.only_memory c.args.flags

pub returns-in-Branch-clause-answer : goal.returns-in-Branch-clause-answer
returns-in-Branch-clause-answer c =
    let s = c.args.sink.now in
    let e = c.args.state.now in
    let i = c.args.inst.now in
    let known = c.fast_path_of.ensures.branch c.in-Branch.is in
    let none = no_memory e i known.1 in
    let same = none_fragments (resolved_instruction e i) (length s.labels) c.args.after.0 (known.0.2 ∙ sym (single_resolved e i)) (sym none) ∙ fragments_resolved e (length s.labels) c.args.after.0 i in
    on_ok c.emit_control.result c.emit_control.ensures.answer (λ h. (
      leaf_plain c.args.flags e (declared_in s) (length s.labels) e.nominal c.args.depth i known.0 c.reveal_label_range.ensures (ap (λ o. memory_cause_or (declared_in s) o (branch_cause s.block_count c.args.depth i)) none ∙ h.0),
      h.1 ∙ ap (apply_all s) (sym same),
    ))

pub returns-in-Branch-clause-only_memory : goal.returns-in-Branch-clause-only_memory
returns-in-Branch-clause-only_memory c = λ p.
    let known = c.fast_path_of.ensures.branch c.in-Branch.is in
    let f = other_passed c.args.flags c.args.state.now c.args.sink.now c.args.after.0 c.args.state.now.nominal c.args.depth c.args.inst.now known.0.2 known.1 p in
    c.emit_control.ensures.only_memory f.0 f.1

pub returns-in-Branch-clause-range : goal.returns-in-Branch-clause-range
returns-in-Branch-clause-range c = on_ok c.emit_control.result c.emit_control.ensures.range (λ m. branch_range c.args.state.now c.args.inst.now (c.fast_path_of.ensures.branch c.in-Branch.is).1 m)

pub emit_register-requires-clause-register : goal.emit_register-requires-clause-register
emit_register-requires-clause-register c = c.fast_path_of.ensures.register c.in-Register.is

pub returns-in-Register-clause-answer : goal.returns-in-Register-clause-answer
returns-in-Register-clause-answer c = c.emit_register.ensures.answer c.args.flags c.args.state.now

pub returns-in-Register-clause-only_memory : goal.returns-in-Register-clause-only_memory
returns-in-Register-clause-only_memory c = c.emit_register.ensures.only_memory c.args.flags c.args.state.now

pub returns-in-Register-clause-range : goal.returns-in-Register-clause-range
returns-in-Register-clause-range c = c.emit_register.ensures.range c.args.state.now

pub returns-in-None-clause-answer : goal.returns-in-None-clause-answer
returns-in-None-clause-answer c =
    let s = c.args.sink.now in
    let outer = sym c.outer_cause.ensures ∙ c.in-None.is in
    on_ok c.emit_allowed.result c.emit_allowed.ensures.answer (λ e. (leaf_none c.args.flags c.args.state.now (declared_in s) (length s.labels) c.args.state.now.nominal c.args.depth c.args.inst.now outer e.0, e.1))

pub returns-in-None-clause-only_memory : goal.returns-in-None-clause-only_memory
returns-in-None-clause-only_memory c = c.emit_allowed.ensures.only_memory c.args.flags

-- what passed has no cause outside
pub returns-in-Some-clause-only_memory : goal.returns-in-Some-clause-only_memory
returns-in-Some-clause-only_memory c = λ p.
    let s = c.args.sink.now in
    let none = leaf_outer c.args.flags c.args.state.now (declared_in s) (length s.labels) c.args.state.now.nominal c.args.depth c.args.inst.now p.passed in
    let some = c.outer_cause.ensures in
    let is = c.in-Some.is in
    absurd (cc)
