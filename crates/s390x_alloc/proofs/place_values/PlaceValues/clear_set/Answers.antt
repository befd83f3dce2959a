use Rattle.std.specs.Prelude.{not}
use Rattle.std.proofs.Common.{refl, rules}
use Rattle.std.proofs.lemmas.Fn.{filter_same}
use Rattle.s390x_alloc.specs.Contents.{is_in_set}
use Rattle.s390x_alloc.specs.declared.place_values.RegisterValue.{RegisterValue}
use Rattle.s390x_alloc.specs.declared.plan.Place.TheVariants.{Reg as InReg}
use Rattle.s390x_alloc.proofs.Placing.{cleared}
use Rattle.s390x_alloc.proofs.place_values.PlaceValues.clear_set.Goals as goal

pub returns : goal.returns
returns c =
    cleared c.args.self.now (record { in_registers = c.retain.new.self; in_slots = c.args.self.now.in_slots }) (is_in_set c.args.set)
    (filter_same _ (λ (x : RegisterValue). not (is_in_set c.args.set (InReg x.preg))) _ (λ x b f' k. search rules) _ _ c.retain.ensures.filtered) (λ s. refl)
