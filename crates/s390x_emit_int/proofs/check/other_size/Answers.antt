use Rattle.std.proofs.Common.{min, None, sym, ap, ◌∙◌}
use Rattle.s390x_typed_steps.specs.Causes.{memory_cause_or}
use Rattle.s390x_address.specs.Rows.{memory_instruction_of}
use Rattle.s390x_emit_int.specs.Emission.{branch_size, memory_size_or}
use Rattle.s390x_emit_int.specs.CodeSize.{code_limit}
use Rattle.s390x_emit_int.proofs.Resolving.{found_memory, no_memory}
use Rattle.s390x_emit_int.proofs.check.other_size.Goals as goal

pub returns-in-Some-clause-value : goal.returns-in-Some-clause-value
returns-in-Some-clause-value c = λ D none.
    let m = found_memory c.args.state.now c.args.inst.now (memory_instruction_of c.in-Some.found) c.in-Some.ensures.row in
    ap (min code_limit) (c.size.ensures.value D (sym (ap (λ o. memory_cause_or D o None) m) ∙ none) ∙ sym (ap (λ o. memory_size_or o (branch_size c.args.inst.now)) m))

pub returns-in-None-clause-value : goal.returns-in-None-clause-value
returns-in-None-clause-value c = λ D none. c.branch_size.ensures.value ∙ ap (min code_limit) (sym (ap (λ o. memory_size_or o (branch_size c.args.inst.now)) (no_memory c.args.state.now c.args.inst.now c.in-None.ensures.row)))
