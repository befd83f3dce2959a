use Rattle.std.proofs.Common.{◌≡◌, ℕ, cond, Some, length, refl, sym, ap, subst, ◌∙◌, arith}
use Rattle.s390x_alloc.specs.Locations.{IsAlone, value_of}
use Rattle.s390x_alloc.specs.Same.{same_place}
use Rattle.s390x_alloc.specs.declared.location_map.LocationMap.{LocationMap}
use Rattle.s390x_alloc.proofs.Locating.{alone_put, apart_put, map_put}
use Rattle.s390x_alloc.proofs.location_map.LocationMap.put_value.Goals as goal

pub returns-clause-map : goal.returns-clause-map
returns-clause-map c = λ held is.
    let m = c.args.self.now in
    let counted : c.len-value.result ≡ length m.sets.items = omega (arith, m.sets.ok.0) in
    map_put m (record { values = c.set.new.self; sets = c.push.new.self; homes = m.homes }) held c.args.place c.new.result is c.new.ensures c.in_ok-push.ensures.items refl
    (λ q. c.in_ok-set.ensures q ∙ ap (λ v. cond (same_place q c.args.place) (Some v) (value_of m.values q)) counted)

pub returns-clause-alone : goal.returns-clause-alone
returns-clause-alone c = λ held is.
    let m = c.args.self.now in
    let new : LocationMap = record { values = c.set.new.self; sets = c.push.new.self; homes = m.homes } in
    let counted : c.len-value.result ≡ length m.sets.items = omega (arith, m.sets.ok.0) in
    subst (λ (v : ℕ). IsAlone new c.args.place v) (sym counted)
    (alone_put m new held c.args.place c.new.result is c.new.ensures c.in_ok-push.ensures.items refl
    (λ q. c.in_ok-set.ensures q ∙ ap (λ v. cond (same_place q c.args.place) (Some v) (value_of m.values q)) counted))

pub returns-clause-apart : goal.returns-clause-apart
returns-clause-apart c = λ held is apart.
    let m = c.args.self.now in
    let counted : c.len-value.result ≡ length m.sets.items = omega (arith, m.sets.ok.0) in
    apart_put m (record { values = c.set.new.self; sets = c.push.new.self; homes = m.homes }) held c.args.place c.new.result is c.new.ensures c.in_ok-push.ensures.items refl
    (λ q. c.in_ok-set.ensures q ∙ ap (λ v. cond (same_place q c.args.place) (Some v) (value_of m.values q)) counted) apart
