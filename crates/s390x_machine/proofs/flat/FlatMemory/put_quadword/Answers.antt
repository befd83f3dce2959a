use Rattle.std.proofs.Common.{ℕ, ◌/◌, sym, ap, ◌∙◌, arith}
use Rattle.s390x_operations.specs.State.{bytes_to, wrapping_add64, write_get}
use Rattle.s390x_machine.specs.Regions.{byte_of}
use Rattle.s390x_machine.proofs.Numbers.{store_halves}
use Rattle.s390x_machine.proofs.Regions.{holds_high}
use Rattle.s390x_machine.proofs.flat.FlatMemory.put_quadword.Goals as goal

pub put_doubleword-requires : goal.put_doubleword-requires
put_doubleword-requires c = holds_high c.args.self.now.regions.items c.args.address c.args.i c.requires

pub put_doubleword-requires-2 : goal.put_doubleword-requires-2
put_doubleword-requires-2 c = λ k lt. c.put_doubleword.ensures.stays (wrapping_add64 c.args.address k) c.args.i (c.requires k (omega arith))

pub returns-clause-written : goal.returns-clause-written
returns-clause-written c =
    c.put_doubleword-2.ensures.written
    ∙ ap (λ (f : ℕ → ℕ). write_get (bytes_to c.args.address 8 (c.args.value / 18446744073709551616)) f) c.put_doubleword.ensures.written
    ∙ sym (store_halves (byte_of c.args.self.now) c.args.address c.args.value)
