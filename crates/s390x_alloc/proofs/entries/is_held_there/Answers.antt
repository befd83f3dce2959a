use Rattle.std.proofs.Common.{Some, sym, ap, ◌∙◌}
use Rattle.std.proofs.lemmas.Option.{slice_get-get_or, slice_get_past}
use Rattle.s390x_alloc.specs.Locations.{pair_of}
use Rattle.s390x_alloc.proofs.Following.{nowhere, there}
use Rattle.s390x_alloc.proofs.entries.is_held_there.Goals as goal

pub returns-in-Some : goal.returns-in-Some
returns-in-Some c = λ lists are.
    let ends = c.args.ends.now in
    let m = c.in-Some.held.now in
    let h = c.in-Some.ensures.lookup in
    c.holds.ensures ∙ there ends lists c.args.block m are (slice_get-get_or ends c.args.block m h.3.0 ∙ ap Some (sym h.1)) c.args.place.now c.args.num c.args.class

pub returns-in-None : goal.returns-in-None
returns-in-None c = λ lists are.
    let ends = c.args.ends.now in
    let h = c.in-None.ensures.lookup in
    nowhere ends lists c.args.block are (slice_get_past ends c.args.block h.3) (pair_of c.args.place.now c.args.num c.args.class)
