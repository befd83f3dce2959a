use Rattle.std.proofs.Common.{◌≡◌, ℕ, List, [], length, take, drop, ◌++◌, refl, ap, ◌∙◌, arith}
use Rattle.std.specs.Vec.{with_items}
use Rattle.std.specs.Prelude.{◌&&◌, not, nat_eq}
use Rattle.std.specs.List.{list_any}
use Rattle.s390x_alloc.specs.Locations.{is_value_of}
use Rattle.s390x_alloc.specs.Registers.{same_virtual}
use Rattle.s390x_alloc.specs.declared.register_set.RegisterSet.{RegisterSet}
use Rattle.s390x_alloc.proofs.Leading.{written_back}
use Rattle.s390x_alloc.proofs.Locating.{map_forgotten_all}
use Rattle.s390x_alloc.proofs.location_map.LocationMap.forget.Goals as goal

pub returns-in-Some : goal.returns-in-Some
returns-in-Some c = λ held is.
    let m = c.args.self.now in
    let old = m.sets.items in
    let new = c.remove_all.new.sets in
    let k = c.args.num in
    let d = c.args.class in
    let listed : c.deref.result.now ≡ c.in-Some.values.items = c.deref.ensures.value in
    let lent : c.deref_mut.result.now ≡ old = c.deref_mut.ensures.value in
    let size : length new ≡ length old = c.remove_all.ensures.count ∙ ap (λ (l : List RegisterSet). length l) lent in
    let whole : take m.sets.len (new ++ drop (length new) old) ≡ new = written_back m.sets.len new (drop (length new) old) (omega (arith, size, m.sets.ok.0)) in
    map_forgotten_all m held k d c.in-Some.values.items is (λ h. c.in-Some.ensures.taken h) (record { values = m.values; sets = with_items m.sets new; homes = c.take.new.self }) refl
    (ap (λ (l : List RegisterSet). length l) whole ∙ size)
    (λ v n e.
    ap (λ (l : List RegisterSet). is_value_of l v n e) whole
    ∙ c.remove_all.ensures.sets v n e
    ∙ ap (λ (l : List ℕ). not (list_any (nat_eq v) l && same_virtual n e k d) && is_value_of c.deref_mut.result.now v n e) listed
    ∙ ap (λ (l : List RegisterSet). not (list_any (nat_eq v) c.in-Some.values.items && same_virtual n e k d) && is_value_of l v n e) lent)
    (λ n e h other. c.in-Some.ensures.others n e h other)

pub returns-in-None : goal.returns-in-None
returns-in-None c = λ held is.
    let m = c.args.self.now in
    map_forgotten_all m held c.args.num c.args.class [] is (λ h. c.in-None.ensures.taken h) (record { values = m.values; sets = m.sets; homes = c.take.new.self }) refl refl (λ v n e. refl) (λ n e h other. c.in-None.ensures.others n e h other)
