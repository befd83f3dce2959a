use Rattle.std.proofs.Common.{◌-◌, ◌||◌, Bool, ap, get_or}
use Rattle.std.specs.BTreeMap.{get}
use Rattle.std.specs.Option.{is_some}
use Rattle.std.specs.Ordering.{nat_cmp}
use Rattle.std.specs.Prelude.{slice_set}
use Rattle.std.specs.Vec.{with_item}
use Rattle.s390x_machine.specs.declared.flat.Region.{Region}
use Rattle.s390x_machine.proofs.Folding.{byte_replaced}
use Rattle.s390x_machine.proofs.Regions.{IsChanged, held_here, held_after, byte_after, holder_after}
use Rattle.s390x_machine.proofs.flat.FlatMemory.put_in.Goals as goal

pub returns-clause-same : goal.returns-clause-same
returns-clause-same c =
    let rs = c.args.self.now.regions.items in
    let z = c.index_mut-region.result.now in
    let e = c.index_mut-region.ensures.value in
    let new : Region = record { start = z.start; bytes = with_item z.bytes (c.args.address - z.start) c.args.value } in
    let changed : IsChanged (get_or rs c.args.i z) new c.args.address c.args.value = record { start = ap (λ (r : Region). r.start) e; bytes = ap (λ (r : Region). slice_set r.bytes.items (c.args.address - r.start) c.args.value) e } in
    λ j b. ap (λ (h : Bool). h || is_some (get nat_cmp c.args.self.now.older b)) (held_after rs c.args.i c.args.address c.args.value z new b changed c.requires.0) j

pub returns-clause-written : goal.returns-clause-written
returns-clause-written c =
    let rs = c.args.self.now.regions.items in
    let h = c.requires in
    let z = c.index_mut-region.result.now in
    let e = c.index_mut-region.ensures.value in
    let new : Region = record { start = z.start; bytes = with_item z.bytes (c.args.address - z.start) c.args.value } in
    let changed : IsChanged (get_or rs c.args.i z) new c.args.address c.args.value = record { start = ap (λ (r : Region). r.start) e; bytes = ap (λ (r : Region). slice_set r.bytes.items (c.args.address - r.start) c.args.value) e } in
    λ j b. byte_replaced rs (slice_set rs c.args.i new) c.args.self.now.older c.args.address c.args.value b (held_here rs c.args.address c.args.i z h.0 h.2 (h.1 z))
    (held_after rs c.args.i c.args.address c.args.value z new b changed h.0)
    (byte_after rs c.args.i c.args.address c.args.value z new b changed h.0 h.2 (h.1 z)) j

pub returns-clause-stays : goal.returns-clause-stays
returns-clause-stays c =
    let rs = c.args.self.now.regions.items in
    let z = c.index_mut-region.result.now in
    let e = c.index_mut-region.ensures.value in
    let new : Region = record { start = z.start; bytes = with_item z.bytes (c.args.address - z.start) c.args.value } in
    let changed : IsChanged (get_or rs c.args.i z) new c.args.address c.args.value = record { start = ap (λ (r : Region). r.start) e; bytes = ap (λ (r : Region). slice_set r.bytes.items (c.args.address - r.start) c.args.value) e } in
    λ a k h. holder_after rs c.args.i c.args.address c.args.value z new changed c.requires.0 a k h
