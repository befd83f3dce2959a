use Rattle.std.proofs.Common.{IfSome, subst}
use Rattle.std.specs.Int.{w128}
use Rattle.std.proofs.lemmas.Int.{to_z-of_z}
use Rattle.s390x_inst.specs.declared.args.MemArg.TheVariants.{RegOffset}
use Rattle.s390x_address.specs.Lowerings.{IsPlain}
use Rattle.s390x_address.specs.Rows.{storage_form_of}
use Rattle.s390x_address.proofs.direct_offset.offset_code.Goals as goal

pub returns-in-Vector : goal.returns-in-Vector
returns-in-Vector c = λ accesses operands_valid reads_scratch flags.
    subst (λ z. IfSome c.vector_offset_code.result (λ code. IsPlain (record { form = storage_form_of c.args.rows.now; operand = RegOffset c.args.base z flags; accesses = accesses; operands_valid = operands_valid; reads_scratch = reads_scratch }) code)) (to_z-of_z w128 c.args.off c.ranges.off) (c.vector_offset_code.ensures accesses operands_valid reads_scratch flags)

pub returns-in-Byte : goal.returns-in-Byte
returns-in-Byte c = λ accesses operands_valid reads_scratch flags.
    subst (λ z. IfSome c.byte_offset_code.result (λ code. IsPlain (record { form = storage_form_of c.args.rows.now; operand = RegOffset c.args.base z flags; accesses = accesses; operands_valid = operands_valid; reads_scratch = reads_scratch }) code)) (to_z-of_z w128 c.args.off c.ranges.off) (c.byte_offset_code.ensures accesses operands_valid reads_scratch flags)

pub returns-in-Halfword : goal.returns-in-Halfword
returns-in-Halfword c = λ accesses operands_valid reads_scratch flags.
    subst (λ z. IfSome c.halfword_offset_code.result (λ code. IsPlain (record { form = storage_form_of c.args.rows.now; operand = RegOffset c.args.base z flags; accesses = accesses; operands_valid = operands_valid; reads_scratch = reads_scratch }) code)) (to_z-of_z w128 c.args.off c.ranges.off) (c.halfword_offset_code.ensures accesses operands_valid reads_scratch flags)

pub returns-in_default : goal.returns-in_default
returns-in_default c = λ accesses operands_valid reads_scratch flags.
    subst (λ z. IfSome c.register_code.result (λ code. IsPlain (record { form = storage_form_of c.args.rows.now; operand = RegOffset c.args.base z flags; accesses = accesses; operands_valid = operands_valid; reads_scratch = reads_scratch }) code)) (to_z-of_z w128 c.args.off c.ranges.off) (c.register_code.ensures accesses operands_valid reads_scratch flags)
