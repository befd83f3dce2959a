use Rattle.std.proofs.Common.{◌≡◌, List, [], ◌∷◌, ◌++◌, cond, Some, ap, subst, sym, ◌∙◌}
use Rattle.s390x_alloc.specs.Locations.{value_of}
use Rattle.s390x_alloc.specs.Same.{same_place}
use Rattle.s390x_alloc.specs.declared.place_values.PlaceValues.{PlaceValues}
use Rattle.s390x_alloc.specs.declared.place_values.RegisterValue.{RegisterValue}
use Rattle.s390x_alloc.specs.declared.plan.Place.{Place}
use Rattle.s390x_alloc.proofs.Placing.{put}
use Rattle.s390x_alloc.proofs.place_values.PlaceValues.set.Goals as goal

pub returns-in_ok-push-in-Reg : goal.returns-in_ok-push-in-Reg
returns-in_ok-push-in-Reg c =
    let p = c.in-Reg.preg in
    let v = c.args.value in
    let new : PlaceValues = record { in_registers = c.push.new.self; in_slots = c.clear_register.new.self.in_slots } in
    subst (λ (at : Place). (q : Place) → value_of new q ≡ cond (same_place q at) (Some v) (value_of c.args.self.now q)) (sym c.in-Reg.is)
    (put c.args.self.now new p v (c.in_ok-push-in-Reg.ensures.items ∙ ap (λ (l : List RegisterValue). l ++ record { preg = p; value = v } ∷ []) c.clear_register.ensures.registers) c.clear_register.ensures.slots)
