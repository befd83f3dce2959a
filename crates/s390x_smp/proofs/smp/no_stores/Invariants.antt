use Rattle.std.proofs.Common.{◌≡◌, replicate}
use Rattle.s390x_smp.proofs.smp.no_stores.Given as goal

abbrev pub invariant-loop-i : goal.invariant-loop-i
invariant-loop-i l = l.stores.items ≡ replicate l._i 0
