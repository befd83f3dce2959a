use Rattle.std.proofs.Common.{◌≡◌, ℕ, cond, None, ap, subst, sym}
use Rattle.std.specs.BTreeMap.{BTreeMap, get}
use Rattle.std.specs.Ordering.{nat_cmp}
use Rattle.s390x_alloc.specs.Locations.{value_of}
use Rattle.s390x_alloc.specs.Same.{same_place}
use Rattle.s390x_alloc.specs.declared.plan.Place.{Place}
use Rattle.s390x_alloc.specs.declared.plan.Place.TheVariants.{Reg as InReg}
use Rattle.s390x_alloc.proofs.Placing.{cleared}
use Rattle.s390x_alloc.proofs.place_values.PlaceValues.clear.Goals as goal

pub returns-in-Reg : goal.returns-in-Reg
returns-in-Reg c =
    subst (λ (p : Place). (q : Place) → value_of c.clear_register.new.self q ≡ cond (same_place q p) None (value_of c.args.self.now q)) (sym c.in-Reg.is)
    (cleared c.args.self.now c.clear_register.new.self (λ q. same_place q (InReg c.in-Reg.preg)) c.clear_register.ensures.registers (λ s. ap (λ (m : BTreeMap ℕ ℕ). get nat_cmp m s) c.clear_register.ensures.slots))
