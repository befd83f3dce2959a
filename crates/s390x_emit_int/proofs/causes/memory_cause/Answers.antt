use Rattle.std.proofs.Common.{sym, ap, ◌∙◌}
use Rattle.s390x_typed_steps.specs.Causes.{declared_in, branch_cause, memory_cause_or}
use Rattle.s390x_address.specs.Rows.{memory_instruction_of}
use Rattle.s390x_emit_int.proofs.Resolving.{found_memory, no_memory}
use Rattle.s390x_emit_int.proofs.causes.memory_cause.Goals as goal

pub returns-in-Some : goal.returns-in-Some
returns-in-Some c =
    let D = declared_in c.args.sink.now in
    let others = branch_cause D.blocks c.args.depth c.args.inst.now in
    c.cause.ensures ∙ sym (ap (λ o. memory_cause_or D o others) (found_memory c.args.state.now c.args.inst.now (memory_instruction_of c.in-Some.found) c.in-Some.ensures.row))

pub returns-in-None : goal.returns-in-None
returns-in-None c =
    let D = declared_in c.args.sink.now in
    let others = branch_cause D.blocks c.args.depth c.args.inst.now in
    c.branch_cause.ensures ∙ ap (λ n. branch_cause n c.args.depth c.args.inst.now) c.block_count.ensures ∙ sym (ap (λ o. memory_cause_or D o others) (no_memory c.args.state.now c.args.inst.now c.in-None.ensures.row))
