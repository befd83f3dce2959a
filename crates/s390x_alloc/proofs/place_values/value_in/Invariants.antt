use Rattle.std.proofs.Common.{◌≡◌, drop}
use Rattle.s390x_alloc.specs.Locations.{value_in}
use Rattle.s390x_alloc.proofs.place_values.value_in.Given as goal

abbrev pub invariant-loop-register : goal.invariant-loop-register
invariant-loop-register l = value_in (drop l.register-index l.values) l.preg ≡ value_in l.values l.preg
