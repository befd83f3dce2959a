use Rattle.std.proofs.Common.{append_assoc, arith, map}
use Rattle.s390x_operands.specs.declared.constraint.Reported.TheVariants.{Fixed}
use Rattle.s390x_listing.proofs.Lines.{more_append}
use Rattle.s390x_listing.proofs.items.put_from_fixed.Goals as goal

pub returns : goal.returns
returns c = grind (arith, more_append (map Fixed c.args.rest.now) c.args.others.now, append_assoc)
