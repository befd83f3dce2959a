use Rattle.std.proofs.Common.{◌≡◌, ◌++◌, drop, map, string_bytes}
use Rattle.s390x_operands.specs.declared.constraint.Reported.TheVariants.{Fixed}
use Rattle.s390x_listing.specs.Operands.{more_items}
use Rattle.s390x_listing.proofs.items.put_more_fixed.Given as goal

-- what is written, with the registers that are left
abbrev pub invariant-loop-preg : goal.invariant-loop-preg
invariant-loop-preg l =
    string_bytes l.out ++ more_items (map Fixed (drop l.preg-index l.pregs)) ≡ string_bytes l.initial.out ++ more_items (map Fixed l.pregs)
