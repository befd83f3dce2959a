use Rattle.std.proofs.Common.{◌≡◌, ℕ, ◌%◌, arith}
use Rattle.s390x_format.proofs.Finding.{second_byte}
use Rattle.s390x_format.proofs.reading.rest_of.Goals as goal

low_half : (a x : ℕ) → a ≡ x % 256 → a % 16 ≡ x % 16
low_half a x e = omega (arith, e)

pub returns-in-LowHalf : goal.returns-in-LowHalf
returns-in-LowHalf c =
    rw c.in-LowHalf.is (low_half _ _ (second_byte c.args.bytes.now c.args.leading (λ i. omega (arith, c.type_inv.bytes i)) c.requires.leading c.requires.some))

pub returns-in-SecondByte : goal.returns-in-SecondByte
returns-in-SecondByte c = rw c.in-SecondByte.is (second_byte c.args.bytes.now c.args.leading (λ i. omega (arith, c.type_inv.bytes i)) c.requires.leading c.requires.some)
