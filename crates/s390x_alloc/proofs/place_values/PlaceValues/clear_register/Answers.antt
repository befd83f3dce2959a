use Rattle.std.specs.Prelude.{not}
use Rattle.std.proofs.Common.{rules}
use Rattle.std.proofs.lemmas.Fn.{filter_same}
use Rattle.s390x_alloc.specs.Same.{same_place}
use Rattle.s390x_alloc.specs.declared.place_values.RegisterValue.{RegisterValue}
use Rattle.s390x_alloc.specs.declared.plan.Place.TheVariants.{Reg as InReg}
use Rattle.s390x_alloc.proofs.place_values.PlaceValues.clear_register.Goals as goal

pub returns-clause-registers : goal.returns-clause-registers
returns-clause-registers c = filter_same _ (λ (x : RegisterValue). not (same_place (InReg x.preg) (InReg c.args.preg))) _ (λ x b f' k. search rules) _ _ c.retain.ensures.filtered
