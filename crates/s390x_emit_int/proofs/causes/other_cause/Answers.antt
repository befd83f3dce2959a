use Rattle.std.proofs.Common.{sym, ◌∙◌}
use Rattle.s390x_typed_steps.specs.Causes.{declared_in, memory_cause_or, branch_cause}
use Rattle.s390x_typed_steps.specs.Memory.{memory}
use Rattle.s390x_typed_steps.specs.Resolved.{resolved_instruction}
use Rattle.s390x_typed_steps.specs.SingleInstruction.{single_instruction}
use Rattle.s390x_emit_int.proofs.Single.{some_single, no_single, some_other, none_other}
use Rattle.s390x_emit_int.proofs.causes.other_cause.Goals as goal

pub returns-in-Some : goal.returns-in-Some
returns-in-Some c =
    let s = c.args.sink.now in
    let i = c.args.inst.now in
    let x = some_single c.in-Some.found (single_instruction i) c.in-Some.ensures in
    c.found_cause.ensures x.0 x.2 ∙ sym (some_other (memory_cause_or (declared_in s) (memory (resolved_instruction c.args.state.now i)) (branch_cause s.block_count c.args.depth i)) i x.0 x.1)

pub returns-in-None : goal.returns-in-None
returns-in-None c =
    let s = c.args.sink.now in
    let i = c.args.inst.now in
    c.memory_cause.ensures ∙ sym (none_other (memory_cause_or (declared_in s) (memory (resolved_instruction c.args.state.now i)) (branch_cause s.block_count c.args.depth i)) i (no_single (single_instruction i) c.in-None.ensures))
