use Rattle.std.proofs.Common.{◌≡◌, ◌<◌, List, length, take, drop, ◌++◌, refl, sym, ap, subst, ◌∙◌, arith}
use Rattle.std.specs.Vec.{with_items}
use Rattle.std.specs.Prelude.{◌&&◌, ◌||◌, nat_eq}
use Rattle.s390x_alloc.specs.Locations.{is_value_of}
use Rattle.s390x_alloc.specs.Registers.{same_virtual}
use Rattle.s390x_alloc.specs.declared.register_set.RegisterSet.{RegisterSet}
use Rattle.s390x_alloc.proofs.Leading.{written_back}
use Rattle.s390x_alloc.proofs.Locating.{map_added}
use Rattle.s390x_alloc.proofs.Placing.{on_ok}
use Rattle.s390x_alloc.proofs.location_map.LocationMap.add.Goals as goal

pub returns-clause-map : goal.returns-clause-map
returns-clause-map c = λ held p is alone.
    let m = c.args.self.now in
    let old = m.sets.items in
    let new = c.insert_at.new.sets in
    let k = c.args.num in
    let d = c.args.class in
    let w = c.args.value in
    let lent : c.deref_mut.result.now ≡ old = c.deref_mut.ensures.value in
    let size : length new ≡ length old = c.in_ok-insert_at.ensures.count ∙ ap (λ (l : List RegisterSet). length l) lent in
    let whole : take m.sets.len (new ++ drop (length new) old) ≡ new = written_back m.sets.len new (drop (length new) old) (omega (arith, size, m.sets.ok.0)) in
    let below : w < length c.deref_mut.result.now = subst (λ (l : List RegisterSet). w < length l) (sym lent) (is.below p w alone.here) in
    on_ok c.add.result
    (λ x homes.
    map_added m (record { values = m.values; sets = with_items m.sets new; homes = c.add.new.self }) held p w k d is alone refl
    (ap (λ (l : List RegisterSet). length l) whole ∙ size)
    (λ v n e. ap (λ (l : List RegisterSet). is_value_of l v n e) whole ∙ c.in_ok-insert_at.ensures.sets below v n e ∙ ap (λ (l : List RegisterSet). (nat_eq v w && same_virtual n e k d) || is_value_of l v n e) lent)
    homes)
    c.add.ensures
