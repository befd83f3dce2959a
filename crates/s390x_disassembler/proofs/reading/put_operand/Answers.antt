use Rattle.std.proofs.Common.{◌+◌, ◌%◌, ◌^◌, sym, subst, inl, inr}
use Rattle.s390x_disassembler.specs.Numbers.{number_on, signed_read}
use Rattle.s390x_disassembler.specs.Operands.{IsRead, IsSet}
use Rattle.s390x_disassembler.proofs.OneOperand.{general_read, float_read, vector_read, access_read, mask_read, nonzero_read, unnamed_read, unsigned_read, signed16_read, signed32_read}
use Rattle.s390x_disassembler.proofs.reading.put_operand.Goals as goal

pub returns-in-Mask-clause-read : goal.returns-in-Mask-clause-read
returns-in-Mask-clause-read c =
    let set : IsSet (5 + c.in-Mask.k) (signed_read (number_on c.args.text.now) % 2 ^ 32) c.args.slots.now c.put_number.new.slots = rw c.from.ensures at c.put_number.ensures.set in
    subst (λ o. IsRead c.args.format c.args.address o c.args.text.now c.args.slots.now c.put_number.new.slots c.put_number.result.now) (sym c.in-Mask.is) (mask_read c.args.format c.args.address c.in-Mask.k c.args.text.now c.args.slots.now c.put_number.new.slots c.put_number.result.now set c.put_number.ensures.rest)

pub returns-in-NonzeroMask-clause-read : goal.returns-in-NonzeroMask-clause-read
returns-in-NonzeroMask-clause-read c = elim c.in-NonzeroMask.is [
  | inl e ↦ subst (λ o. IsRead c.args.format c.args.address o c.args.text.now c.args.slots.now c.put_number-in-NonzeroMask.new.slots c.put_number-in-NonzeroMask.result.now) (sym e) (nonzero_read c.args.format c.args.address c.args.text.now c.args.slots.now c.put_number-in-NonzeroMask.new.slots c.put_number-in-NonzeroMask.result.now c.put_number-in-NonzeroMask.ensures.set c.put_number-in-NonzeroMask.ensures.rest)
  | inr e ↦ subst (λ o. IsRead c.args.format c.args.address o c.args.text.now c.args.slots.now c.put_number-in-NonzeroMask.new.slots c.put_number-in-NonzeroMask.result.now) (sym e) (unnamed_read c.args.format c.args.address c.args.text.now c.args.slots.now c.put_number-in-NonzeroMask.new.slots c.put_number-in-NonzeroMask.result.now c.put_number-in-NonzeroMask.ensures.set c.put_number-in-NonzeroMask.ensures.rest)
]

pub returns-in-Unsigned-clause-read : goal.returns-in-Unsigned-clause-read
returns-in-Unsigned-clause-read c = elim c.in-Unsigned.is [
  | inl e ↦ subst (λ o. IsRead c.args.format c.args.address o c.args.text.now c.args.slots.now c.put_number-in-Unsigned.new.slots c.put_number-in-Unsigned.result.now) (sym e) (unsigned_read c.args.format c.args.address c.args.text.now c.args.slots.now c.put_number-in-Unsigned.new.slots c.put_number-in-Unsigned.result.now c.put_number-in-Unsigned.ensures.set c.put_number-in-Unsigned.ensures.rest)
  | inr e ↦ subst (λ o. IsRead c.args.format c.args.address o c.args.text.now c.args.slots.now c.put_number-in-Unsigned.new.slots c.put_number-in-Unsigned.result.now) (sym e) (signed32_read c.args.format c.args.address c.args.text.now c.args.slots.now c.put_number-in-Unsigned.new.slots c.put_number-in-Unsigned.result.now c.put_number-in-Unsigned.ensures.set c.put_number-in-Unsigned.ensures.rest)
]

pub returns-in-Signed16-clause-read : goal.returns-in-Signed16-clause-read
returns-in-Signed16-clause-read c = subst (λ o. IsRead c.args.format c.args.address o c.args.text.now c.args.slots.now c.put_number-in-Signed16.new.slots c.put_number-in-Signed16.result.now) (sym c.in-Signed16.is) (signed16_read c.args.format c.args.address c.args.text.now c.args.slots.now c.put_number-in-Signed16.new.slots c.put_number-in-Signed16.result.now c.put_number-in-Signed16.ensures.set c.put_number-in-Signed16.ensures.rest)

pub returns-in-Target-clause-read : goal.returns-in-Target-clause-read
returns-in-Target-clause-read c = subst (λ o. IsRead c.args.format c.args.address o c.args.text.now c.args.slots.now c.put_target.new.slots c.put_target.result.now) (sym c.in-Target.is) c.put_target.ensures.read

pub returns-in-Storage-clause-read : goal.returns-in-Storage-clause-read
returns-in-Storage-clause-read c = subst (λ o. IsRead c.args.format c.args.address o c.args.text.now c.args.slots.now c.put_storage.new.slots c.put_storage.result.now) (sym c.in-Storage.is) c.put_storage.ensures.read

pub returns-in-Indexed-clause-read : goal.returns-in-Indexed-clause-read
returns-in-Indexed-clause-read c = subst (λ o. IsRead c.args.format c.args.address o c.args.text.now c.args.slots.now c.put_indexed.new.slots c.put_indexed.result.now) (sym c.in-Indexed.is) c.put_indexed.ensures.read

pub returns-in-General-clause-read : goal.returns-in-General-clause-read
returns-in-General-clause-read c =
    let set : IsSet (1 + c.in-General.k) (signed_read (number_on c.args.text.now) % 2 ^ 32) c.args.slots.now c.put_number-in-General.new.slots = rw c.from-in-General.ensures at c.put_number-in-General.ensures.set in
    elim c.in-General.is [
      | inl e ↦ subst (λ o. IsRead c.args.format c.args.address o c.args.text.now c.args.slots.now c.put_number-in-General.new.slots c.put_number-in-General.result.now) (sym e) (general_read c.args.format c.args.address c.in-General.k c.args.text.now c.args.slots.now c.put_number-in-General.new.slots c.put_number-in-General.result.now set c.put_number-in-General.ensures.rest)
      | inr (inl e) ↦ subst (λ o. IsRead c.args.format c.args.address o c.args.text.now c.args.slots.now c.put_number-in-General.new.slots c.put_number-in-General.result.now) (sym e) (float_read c.args.format c.args.address c.in-General.k c.args.text.now c.args.slots.now c.put_number-in-General.new.slots c.put_number-in-General.result.now set c.put_number-in-General.ensures.rest)
      | inr (inr (inl e)) ↦ subst (λ o. IsRead c.args.format c.args.address o c.args.text.now c.args.slots.now c.put_number-in-General.new.slots c.put_number-in-General.result.now) (sym e) (vector_read c.args.format c.args.address c.in-General.k c.args.text.now c.args.slots.now c.put_number-in-General.new.slots c.put_number-in-General.result.now set c.put_number-in-General.ensures.rest)
      | inr (inr (inr e)) ↦ subst (λ o. IsRead c.args.format c.args.address o c.args.text.now c.args.slots.now c.put_number-in-General.new.slots c.put_number-in-General.result.now) (sym e) (access_read c.args.format c.args.address c.in-General.k c.args.text.now c.args.slots.now c.put_number-in-General.new.slots c.put_number-in-General.result.now set c.put_number-in-General.ensures.rest)
    ]
