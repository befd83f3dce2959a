use Rattle.std.proofs.Common.{◌||◌, Bool, sym, ap}
use Rattle.std.specs.BTreeMap.{get}
use Rattle.std.specs.Option.{is_some}
use Rattle.std.specs.Ordering.{nat_cmp}
use Rattle.s390x_machine.proofs.Regions.{some_held}
use Rattle.s390x_machine.proofs.flat.FlatMemory.has_byte.Goals as goal

pub returns-in-Some : goal.returns-in-Some
returns-in-Some c = sym (ap (λ (b : Bool). b || is_some (get nat_cmp c.args.self.now.older c.args.address)) (some_held c.args.self.now.regions.items c.args.address c.in-Some.field-0 c.in-Some.ensures))
