use Rattle.std.proofs.Common.{◌+◌, ap, sym, ◌∙◌}
use Rattle.std.proofs.lemmas.Bool.{and_parts}
use Rattle.s390x_buffer.specs.State.{put_cause}
use Rattle.s390x_buffer.proofs.Extending.{extends_on}
use Rattle.s390x_typed_steps.specs.Causes.{declared_in}
use Rattle.s390x_typed_steps.specs.Parts.{operand_parts, helpers_parts, parts_size}
use Rattle.s390x_address.specs.Lowerings.{far_helper, address_helper, may_stand, address_stands}
use Rattle.s390x_address.specs.Rows.{storage_form_of}
use Rattle.s390x_address.proofs.OnlyMemory.{only_memory_again, put_first, put_others}
use Rattle.s390x_address.proofs.Putting.{helpers_puts}
use Rattle.s390x_address.proofs.Sizes.{lowering_size}
use Rattle.s390x_address.proofs.memory.put_lowering.Goals as goal

pub returns-in_err-put_address-clause-only_memory : goal.returns-in_err-put_address-clause-only_memory
returns-in_err-put_address-clause-only_memory c = λ put encoded stands.
    let s = c.args.sink.now in
    let p = c.args.lowering.now in
    let form = storage_form_of c.args.rows.now in
    let far = parts_size (helpers_parts (far_helper p.offset_load)) in
    let address = parts_size (helpers_parts (address_helper p.address_load)) in
    let access = parts_size (operand_parts form c.args.trap_code p.operand) in
    let whole = sym (ap (put_cause s) (lowering_size form c.args.trap_code p)) ∙ put in
    let far_put = helpers_puts s c.put_far.new.sink (far_helper p.offset_load) c.in_ok-put_far.ensures.answer in
    let others = put_others s c.put_far.new.sink far (address + access) far_put whole in
    let D = declared_in s in
    let both = and_parts (address_stands D p.address_load) (may_stand D p.operand) stands in
    only_memory_again c.from_residual-in_err-put_address.result _ c.from_residual-in_err-put_address.ensures.1 (c.in_err-put_address.ensures.only_memory (put_first c.put_far.new.sink address access others) (ap (λ E. address_stands E p.address_load) far_put.declared ∙ both.0))

pub returns-clause-only_memory : goal.returns-clause-only_memory
returns-clause-only_memory c = λ put encoded stands.
    let s = c.args.sink.now in
    let t = c.put_far.new.sink in
    let p = c.args.lowering.now in
    let form = storage_form_of c.args.rows.now in
    let far = parts_size (helpers_parts (far_helper p.offset_load)) in
    let address = parts_size (helpers_parts (address_helper p.address_load)) in
    let access = parts_size (operand_parts form c.args.trap_code p.operand) in
    let whole = sym (ap (put_cause s) (lowering_size form c.args.trap_code p)) ∙ put in
    let far_put = helpers_puts s c.put_far.new.sink (far_helper p.offset_load) c.in_ok-put_far.ensures.answer in
    let others = put_others s t far (address + access) far_put whole in
    let address_put = helpers_puts t c.put_address.new.sink (address_helper p.address_load) c.in_ok-put_address.ensures.answer in
    let last = put_others t c.put_address.new.sink address access address_put others in
    let D = declared_in s in
    let both = and_parts (address_stands D p.address_load) (may_stand D p.operand) stands in
    c.put_operand.ensures.only_memory last encoded (ap (λ E. may_stand E p.operand) (address_put.declared ∙ far_put.declared) ∙ both.1)

pub returns-clause-kept : goal.returns-clause-kept
returns-clause-kept c = extends_on _ _ _ c.put_far.ensures.kept (extends_on _ _ _ c.put_address.ensures.kept c.put_operand.ensures.kept)
