use Rattle.std.proofs.Common.{ap, sym, subst, ◌∙◌, length}
use Rattle.s390x_typed_steps.specs.Causes.{branch_cause}
use Rattle.s390x_emit_int.specs.Emission.{branch_fragments, branch_size}
use Rattle.s390x_emit_int.specs.Fragments.{apply_all}
use Rattle.s390x_emit_int.specs.Room.{MembersFit}
use Rattle.s390x_emit_int.proofs.Answering.{on_ok}
use Rattle.s390x_emit_int.proofs.instruction.emit_control.Goals as goal

pub returns-in-Jump-clause-answer : goal.returns-in-Jump-clause-answer
returns-in-Jump-clause-answer c =
    let s = c.args.sink.now in
    on_ok c.emit_jump.result c.emit_jump.ensures.answer (λ e. (ap (branch_cause s.block_count c.args.depth) c.in-Jump.is ∙ e.0, e.1 ∙ ap (λ i. apply_all s (branch_fragments (length s.labels) c.args.after.0 i)) (sym c.in-Jump.is)))

pub returns-in-Jump-clause-only_memory : goal.returns-in-Jump-clause-only_memory
returns-in-Jump-clause-only_memory c = λ p numbers. c.emit_jump.ensures.only_memory c.args.after.0 c.args.depth (subst (λ i. MembersFit c.args.sink.now c.args.after.0 c.args.depth (branch_size i) (branch_cause c.args.sink.now.block_count c.args.depth i)) c.in-Jump.is p)

pub returns-in-CondBr-clause-answer : goal.returns-in-CondBr-clause-answer
returns-in-CondBr-clause-answer c =
    let s = c.args.sink.now in
    on_ok c.emit_cond_br.result c.emit_cond_br.ensures.answer (λ e. (ap (branch_cause s.block_count c.args.depth) c.in-CondBr.is ∙ e.0, e.1 ∙ ap (λ i. apply_all s (branch_fragments (length s.labels) c.args.after.0 i)) (sym c.in-CondBr.is)))

pub returns-in-CondBr-clause-only_memory : goal.returns-in-CondBr-clause-only_memory
returns-in-CondBr-clause-only_memory c = λ p numbers. c.emit_cond_br.ensures.only_memory c.args.after.0 c.args.depth (subst (λ i. MembersFit c.args.sink.now c.args.after.0 c.args.depth (branch_size i) (branch_cause c.args.sink.now.block_count c.args.depth i)) c.in-CondBr.is p)

pub returns-in-None-clause-answer : goal.returns-in-None-clause-answer
returns-in-None-clause-answer c =
    let cause = ap (λ n. branch_cause n c.args.depth c.args.inst.now) (sym c.block_count.ensures) ∙ sym c.branch_cause.ensures ∙ c.in-None.is in
    on_ok c.emit_branch.result c.emit_branch.ensures.answer (λ e. (cause, e))

pub returns-in-None-clause-only_memory : goal.returns-in-None-clause-only_memory
returns-in-None-clause-only_memory c = c.emit_branch.ensures.only_memory c.args.depth

pub returns-in-Some-clause-only_memory : goal.returns-in-Some-clause-only_memory
returns-in-Some-clause-only_memory c = λ p numbers.
    let none = p.passed in
    let some = c.branch_cause.ensures in
    let count = c.block_count.ensures in
    let is = c.in-Some.is in
    absurd (cc)
