use Rattle.std.proofs.Common.{◌∷◌, ◌++◌, [], sym, subst}
use Rattle.std.specs.Prelude.{IfOk, filter, not}
use Rattle.s390x_base.specs.declared.regs.Reg.{Reg}
use Rattle.s390x_base.specs.declared.regs.Reg.TheVariants.{Virtual, Real}
use Rattle.s390x_alloc.specs.Contents.{with_output, without_place}
use Rattle.s390x_alloc.specs.Locations.{IsMapOf, pair_of}
use Rattle.s390x_alloc.specs.Same.{same_register}
use Rattle.s390x_alloc.specs.declared.plan.EntryPair.{EntryPair}
use Rattle.s390x_alloc.specs.declared.plan.Place.TheVariants.{Reg as InReg}
use Rattle.s390x_alloc.proofs.Locating.{map_again, output_holds, real_output_holds}
use Rattle.s390x_alloc.proofs.Placing.{on_ok}
use Rattle.s390x_alloc.proofs.location_map.LocationMap.put_output.Goals as goal

pub returns-in_ok-value-in-Virtual : goal.returns-in_ok-value-in-Virtual
returns-in_ok-value-in-Virtual c = λ held is.
    let k = c.in-Virtual.num in
    let d = c.in-Virtual.class in
    let p = c.args.preg in
    let apart = filter (λ (x : EntryPair). not (same_register x.vreg (Virtual k d))) held in
    let forgotten = c.forget.ensures held is in
    subst (λ (r : Reg). IfOk c.add.result (λ u. IsMapOf c.add.new.self (with_output p r held))) (sym c.in-Virtual.is)
    (on_ok c.add.result (λ u after. map_again c.add.new.self (without_place (InReg p) apart ++ pair_of (InReg p) k d ∷ []) (with_output p (Virtual k d) held) (output_holds p k d held) after)
    (c.add.ensures.map (without_place (InReg p) apart) (InReg p) (c.in_ok-value-in-Virtual.ensures.map apart forgotten) (c.in_ok-value-in-Virtual.ensures.alone apart forgotten)))

pub returns-in-Real : goal.returns-in-Real
returns-in-Real c = λ held is.
    let r = c.in-Real.field-0 in
    let p = c.args.preg in
    subst (λ (x : Reg). IsMapOf c.drop_place.new.self (with_output p x held)) (sym c.in-Real.is)
    (map_again c.drop_place.new.self (without_place (InReg p) held) (with_output p (Real r) held) (real_output_holds p r held) (c.drop_place.ensures held is))
