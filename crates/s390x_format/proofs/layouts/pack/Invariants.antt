use Rattle.std.proofs.Common.{◌≡◌, ◌+◌, ◌*◌, ◌^◌, drop}
use Rattle.s390x_format.specs.Layout.{number, bits}
use Rattle.s390x_format.proofs.layouts.pack.Given as goal

abbrev pub invariant-loop-part : goal.invariant-loop-part
invariant-loop-part l =
    l.n * 2 ^ bits (drop l.part-index l.parts) + number (drop l.part-index l.parts) l.slots ≡ number l.parts l.slots
