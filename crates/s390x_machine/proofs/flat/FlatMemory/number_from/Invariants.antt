use Rattle.std.proofs.Common.{◌≡◌, ◌<◌, ◌^◌}
use Rattle.s390x_operations.specs.State.{number_at}
use Rattle.s390x_machine.specs.Regions.{byte_of}
use Rattle.s390x_machine.proofs.flat.FlatMemory.number_from.Given as goal

abbrev pub invariant-loop-i : goal.invariant-loop-i
invariant-loop-i l = record { number : l.total ≡ number_at (byte_of l.self) l.address l.i; small : l.total < 256 ^ l.i }
