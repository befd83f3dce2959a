use Rattle.std.proofs.Common.{◌+◌, ◌-◌, ◌/◌, ◌%◌, ◌^◌, ap, ◌∙◌}
use Rattle.s390x_format.specs.View.{imm_class_of}
use Rattle.s390x_disassembler.specs.Numbers.{digits_read, digits_left}
use Rattle.s390x_disassembler.specs.Operands.{IsSet, half_width}
use Rattle.s390x_disassembler.proofs.OneOperand.{target_read}
use Rattle.s390x_disassembler.proofs.reading.put_target.Goals as goal

pub returns-clause-read : goal.returns-clause-read
returns-clause-read c =
    let set : IsSet 8 ((c.digits-target.result.0 + (2 ^ 64 - c.args.address)) % 2 ^ 64 / 2 % 2 ^ half_width (imm_class_of c.args.format)) c.args.slots.now c.set.new.slots = rw c.half_bits.ensures at c.set.ensures.set in
    target_read c.args.format c.args.address ((c.digits-target.result.0 + (2 ^ 64 - c.args.address)) % 2 ^ 64) c.args.text.now c.args.slots.now c.set.new.slots c.digits-target.result.1.now c.ranges.address.fits
    (ap (λ t. (t + (2 ^ 64 - c.args.address)) % 2 ^ 64) (c.digits-target.ensures.value ∙ ap (digits_read 16 0) c.text_behind.ensures)) set (c.digits-target.ensures.rest ∙ ap (digits_left 16) c.text_behind.ensures)
