use Rattle.std.proofs.Common.{◌∷◌, ◌++◌, [], sym, subst}
use Rattle.std.specs.Prelude.{IfOk}
use Rattle.s390x_base.specs.declared.regs.Reg.{Reg}
use Rattle.s390x_alloc.specs.Locations.{IsMapOf}
use Rattle.s390x_alloc.proofs.Locating.{map_real_added}
use Rattle.s390x_alloc.proofs.location_map.LocationMap.hold.Goals as goal

pub returns-in_ok-value-in-Virtual-clause-map : goal.returns-in_ok-value-in-Virtual-clause-map
returns-in_ok-value-in-Virtual-clause-map c = λ held is apart.
    subst (λ (r : Reg). IfOk c.add.result (λ u. IsMapOf c.add.new.self (held ++ record { place = c.args.pair.now.place; vreg = r } ∷ []))) (sym c.in-Virtual.is)
    (c.add.ensures.map held c.args.pair.now.place (c.in_ok-value-in-Virtual.ensures.map held is apart) (c.in_ok-value-in-Virtual.ensures.alone held is apart))

pub returns-in-Real-clause-map : goal.returns-in-Real-clause-map
returns-in-Real-clause-map c = λ held is apart.
    subst (λ (r : Reg). IsMapOf c.args.self.now (held ++ record { place = c.args.pair.now.place; vreg = r } ∷ [])) (sym c.in-Real.is)
    (map_real_added c.args.self.now held c.args.pair.now.place c.in-Real.field-0 is)
