use Rattle.std.proofs.Common.{◌≡◌, None, sym, ap, ◌∙◌, min}
use Rattle.s390x_typed_steps.specs.SingleInstruction.{single_instruction}
use Rattle.s390x_typed_steps.specs.Memory.{memory}
use Rattle.s390x_typed_steps.specs.Resolved.{resolved_instruction}
use Rattle.s390x_base.specs.declared.error.EmitError.TheVariants.{BadRegister}
use Rattle.s390x_typed_steps.proofs.Causes.{unless_true}
use Rattle.s390x_emit_int.specs.Emission.{memory_size_or}
use Rattle.s390x_emit_int.proofs.Resolving.{single_resolved, size_resolved, or_none}
use Rattle.s390x_emit_int.proofs.Single.{some_single, no_single, some_cause, none_cause, some_size, none_size}
use Rattle.s390x_emit_int.specs.CodeSize.{code_limit}
use Rattle.s390x_emit_int.proofs.check.size_of.Goals as goal

-- the size of the code that was found
pub returns-in-Some-clause-value : goal.returns-in-Some-clause-value
returns-in-Some-clause-value c = λ flags D nominal depth none.
    let j = resolved_instruction c.args.state.now c.args.inst.now in
    let x = some_single c.in-Some.found (single_instruction c.args.inst.now) c.in-Some.ensures in
    let is = x.1 ∙ sym (single_resolved c.args.state.now c.args.inst.now) in
    let valid = unless_true x.0.operands_valid BadRegister (some_cause flags D nominal depth j x.0 is none) in
    ap (min code_limit) (c.found_size.ensures.value x.0 x.2 valid ∙ sym (some_size j x.0 is))

pub returns-in-None-clause-value : goal.returns-in-None-clause-value
returns-in-None-clause-value c = λ flags D nominal depth none.
    let i = c.args.inst.now in
    let j = resolved_instruction c.args.state.now i in
    let e : None ≡ single_instruction j = no_single (single_instruction i) c.in-None.ensures ∙ sym (single_resolved c.args.state.now i) in
    let free = or_none D (memory j) _ (none_cause flags D nominal depth j e none) in
    c.other_size.ensures.value D free ∙ ap (min code_limit) (ap (memory_size_or (memory j)) (sym (size_resolved c.args.state.now i)) ∙ sym (none_size j e))
