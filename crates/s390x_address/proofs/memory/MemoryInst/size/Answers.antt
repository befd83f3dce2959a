use Rattle.std.proofs.Common.{◌≡◌, ◌+◌, None, Some, sym, ap, ◌∙◌, arith}
use Rattle.s390x_typed_steps.specs.Causes.{operand_cause}
use Rattle.s390x_typed_steps.specs.Memory.{type_of, fault_code}
use Rattle.s390x_typed_steps.specs.Operands.{finalized_operand}
use Rattle.s390x_typed_steps.specs.Parts.{finalized_parts, parts_size}
use Rattle.s390x_address.specs.Lowerings.{finalized_of}
use Rattle.s390x_address.specs.Rows.{memory_instruction_of, in_state}
use Rattle.s390x_address.proofs.Refusing.{passes}
use Rattle.s390x_address.proofs.Sizes.{lowering_size}
use Rattle.s390x_address.proofs.memory.MemoryInst.size.Goals as goal

pub returns-in-Ok-clause-value : goal.returns-in-Ok-clause-value
returns-in-Ok-clause-value c = λ D none.
    let x = in_state c.args.state.now (memory_instruction_of c.args.self.now) in
    let p = c.in-Ok.lowering in
    let forms : c.forms.result ≡ type_of x.form x.accesses = c.forms.ensures in
    let same : finalized_of p ≡ finalized_operand (type_of x.form x.accesses) x.operand = c.in-Ok.ensures.1 ∙ ap (λ mi. finalized_operand mi x.operand) forms in
    let whole = lowering_size x.form (fault_code x) p in
    let sum : c.far_size.result + c.address_size.result + c.operand_size.result ≡ parts_size (finalized_parts x.form (fault_code x) (finalized_of p)) = omega (arith, whole, c.far_size.ensures.value, c.address_size.ensures.value, c.operand_size.ensures.value (fault_code x)) in
    sum ∙ ap (λ f. parts_size (finalized_parts x.form (fault_code x) f)) same

pub returns-in-Err-clause-value : goal.returns-in-Err-clause-value
returns-in-Err-clause-value c = λ D none.
    let x = in_state c.args.state.now (memory_instruction_of c.args.self.now) in
    let forms : c.forms.result ≡ type_of x.form x.accesses = c.forms.ensures in
    let p = passes D x none in
    let clash : None ≡ Some c.in-Err.field-0 = sym p.operand ∙ ap (λ mi. operand_cause mi x.operand) (sym forms) ∙ c.in-Err.ensures in
    absurd (cc)
