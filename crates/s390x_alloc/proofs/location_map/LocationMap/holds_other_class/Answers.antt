use Rattle.std.proofs.Common.{◌≡◌, List, Some, slice_get, sym, ap, subst, ◌∙◌}
use Rattle.std.proofs.lemmas.Option.{slice_get-get_or}
use Rattle.s390x_alloc.specs.Locations.{at_value}
use Rattle.s390x_alloc.specs.declared.register_set.RegisterSet.{RegisterSet}
use Rattle.s390x_alloc.proofs.Locating.{no_class, other_class}
use Rattle.s390x_alloc.proofs.location_map.LocationMap.holds_other_class.Goals as goal

pub returns-in-Some-get : goal.returns-in-Some-get
returns-in-Some-get c = λ held is.
    let m = c.args.self.now in
    let v = c.in-Some.value in
    let s = c.in-Some-get.set.now in
    let h = c.in-Some-get.ensures.lookup in
    let at : slice_get m.sets.items v ≡ Some s = subst (λ (l : List RegisterSet). slice_get l v ≡ Some s) c.deref.ensures.value (slice_get-get_or c.deref.result.now v s h.3.0 ∙ ap Some (sym h.1)) in
    other_class m held c.args.place c.args.class v s c.has_other.result is (sym c.in-Some.ensures) at c.has_other.ensures.some c.has_other.ensures.none

pub returns-in-None : goal.returns-in-None
returns-in-None c = λ held is.
    let m = c.args.self.now in
    no_class m held c.args.place c.args.class is (λ n d. ap (λ o. at_value m.sets.items o n d) (sym c.in-None.ensures))
