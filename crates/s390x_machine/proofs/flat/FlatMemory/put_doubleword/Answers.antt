use Rattle.std.proofs.Common.{ℕ, Bool, ◌||◌, List, ap, ◌∙◌, get_or, arith}
use Rattle.std.specs.BTreeMap.{get}
use Rattle.std.specs.Option.{is_some}
use Rattle.std.specs.Ordering.{nat_cmp}
use Rattle.std.specs.Prelude.{slice_set}
use Rattle.std.specs.Vec.{with_items}
use Rattle.s390x_operations.specs.State.{wrapping_add64}
use Rattle.s390x_machine.specs.Regions.{contains, has_address}
use Rattle.s390x_machine.specs.declared.flat.Region.{Region}
use Rattle.s390x_machine.proofs.Writing.{are_written, is_written, AreWritten, IsWritten}
use Rattle.s390x_machine.proofs.flat.FlatMemory.put_doubleword.Goals as goal

pub put_eight-requires : goal.put_eight-requires
put_eight-requires c =
    let z = c.index_mut-region.result.now in
    λ k lt. ap (λ (bs : List ℕ). has_address z.start bs (wrapping_add64 c.args.address k)) c.deref_mut.ensures.value
    ∙ ap (λ (r : Region). contains r (wrapping_add64 c.args.address k)) c.index_mut-region.ensures.value
    ∙ (c.requires k lt).1 z

pub returns-clause-same : goal.returns-clause-same
returns-clause-same c =
    let rs = c.args.self.now.regions.items in
    let z = c.index_mut-region.result.now in
    let e = c.index_mut-region.ensures.value in
    let new : Region = record { start = z.start; bytes = with_items z.bytes c.put_eight.new.bytes } in
    let written : IsWritten (get_or rs c.args.i z) new c.args.address 8 c.args.value = is_written (get_or rs c.args.i z) z c.deref_mut.result.now c.put_eight.new.bytes c.args.address c.args.value e c.deref_mut.ensures.value c.put_eight.ensures in
    let after : AreWritten rs (slice_set rs c.args.i new) c.args.self.now.older c.args.address 8 c.args.value = are_written 8 rs c.args.self.now.older c.args.i c.args.address c.args.value z new (c.requires 0 (omega arith)).0 c.requires written in
    λ j b. ap (λ (h : Bool). h || is_some (get nat_cmp c.args.self.now.older b)) (after.held b) j

pub returns-clause-written : goal.returns-clause-written
returns-clause-written c =
    let rs = c.args.self.now.regions.items in
    let z = c.index_mut-region.result.now in
    let e = c.index_mut-region.ensures.value in
    let new : Region = record { start = z.start; bytes = with_items z.bytes c.put_eight.new.bytes } in
    let written : IsWritten (get_or rs c.args.i z) new c.args.address 8 c.args.value = is_written (get_or rs c.args.i z) z c.deref_mut.result.now c.put_eight.new.bytes c.args.address c.args.value e c.deref_mut.ensures.value c.put_eight.ensures in
    let after : AreWritten rs (slice_set rs c.args.i new) c.args.self.now.older c.args.address 8 c.args.value = are_written 8 rs c.args.self.now.older c.args.i c.args.address c.args.value z new (c.requires 0 (omega arith)).0 c.requires written in
    λ j b. after.byte b j

pub returns-clause-stays : goal.returns-clause-stays
returns-clause-stays c =
    let rs = c.args.self.now.regions.items in
    let z = c.index_mut-region.result.now in
    let e = c.index_mut-region.ensures.value in
    let new : Region = record { start = z.start; bytes = with_items z.bytes c.put_eight.new.bytes } in
    let written : IsWritten (get_or rs c.args.i z) new c.args.address 8 c.args.value = is_written (get_or rs c.args.i z) z c.deref_mut.result.now c.put_eight.new.bytes c.args.address c.args.value e c.deref_mut.ensures.value c.put_eight.ensures in
    let after : AreWritten rs (slice_set rs c.args.i new) c.args.self.now.older c.args.address 8 c.args.value = are_written 8 rs c.args.self.now.older c.args.i c.args.address c.args.value z new (c.requires 0 (omega arith)).0 c.requires written in
    λ a k h. after.stays a k h
