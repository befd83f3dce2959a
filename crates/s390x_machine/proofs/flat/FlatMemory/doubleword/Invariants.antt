use Rattle.std.proofs.Common.{◌≡◌, ◌<◌, ◌^◌}
use Rattle.s390x_operations.specs.State.{number_at}
use Rattle.s390x_machine.specs.Regions.{byte_of}
use Rattle.s390x_machine.proofs.flat.FlatMemory.doubleword.Given as goal

abbrev pub invariant-loop-k : goal.invariant-loop-k
invariant-loop-k l = record { number : l.total ≡ number_at (byte_of l.self) l.address l.k; small : l.total < 256 ^ l.k }
