use Rattle.std.proofs.Common.{ap, ◌∙◌}
use Rattle.s390x_typed_steps.specs.SingleInstruction.{single_instruction}
use Rattle.s390x_typed_steps.specs.Causes.{first_emit_cause, declared_in, cause_or, memory_cause_or, branch_cause, stack_cause}
use Rattle.s390x_typed_steps.specs.Memory.{memory}
use Rattle.s390x_typed_steps.specs.Resolved.{resolved_instruction}
use Rattle.s390x_emit_int.proofs.Resolving.{cause_resolved}
use Rattle.s390x_emit_int.proofs.causes.instruction_cause.Goals as goal

pub returns-in-None : goal.returns-in-None
returns-in-None c =
    let i = c.args.inst.now in
    let D = declared_in c.args.sink.now in
    let nominal = c.args.state.now.nominal in
    let later = first_emit_cause (stack_cause nominal c.args.depth i) (cause_or (single_instruction i) (memory_cause_or D (memory (resolved_instruction c.args.state.now i)) (branch_cause D.blocks c.args.depth i))) in
    c.later_cause.ensures ∙ ap (λ f. first_emit_cause f later) c.in-None.ensures ∙ cause_resolved c.args.flags c.args.state.now D nominal c.args.depth i

pub returns-in-Some : goal.returns-in-Some
returns-in-Some c =
    let i = c.args.inst.now in
    let D = declared_in c.args.sink.now in
    let nominal = c.args.state.now.nominal in
    let later = first_emit_cause (stack_cause nominal c.args.depth i) (cause_or (single_instruction i) (memory_cause_or D (memory (resolved_instruction c.args.state.now i)) (branch_cause D.blocks c.args.depth i))) in
    ap (λ f. first_emit_cause f later) c.in-Some.ensures ∙ cause_resolved c.args.flags c.args.state.now D nominal c.args.depth i
