-- How many bytes the parts of an instruction with a memory operand have.
use Rattle.std.proofs.Common.{◌≡◌, ◌+◌, ◌++◌, Option, ap, arith}
use Rattle.s390x_base.specs.declared.trap.TrapKind.{TrapKind}
use Rattle.s390x_typed_steps.specs.Memory.{StorageForm}
use Rattle.s390x_typed_steps.specs.Parts.{operand_parts, helpers_parts, finalized_parts, parts_size}
use Rattle.s390x_address.specs.Lowerings.{far_helper, address_helper, finalized_of}
use Rattle.s390x_address.specs.declared.lowering.Lowering.{Lowering}
use Rattle.s390x_address.proofs.OnlyMemory.{size_append, helpers_append}

pub lowering_size : (form : StorageForm) (code : Option TrapKind) (p : Lowering) → parts_size (finalized_parts form code (finalized_of p)) ≡ parts_size (helpers_parts (far_helper p.offset_load)) + (parts_size (helpers_parts (address_helper p.address_load)) + parts_size (operand_parts form code p.operand))
lowering_size form code p =
    let far = far_helper p.offset_load in
    let address = address_helper p.address_load in
    let access = operand_parts form code p.operand in
    omega (arith, size_append (helpers_parts (far ++ address)) access, ap parts_size (helpers_append far address), size_append (helpers_parts far) (helpers_parts address))
