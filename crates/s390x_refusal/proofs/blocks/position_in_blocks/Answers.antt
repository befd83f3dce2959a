use Rattle.std.proofs.Common.{◌≡◌, ◌<◌, get_or, length, ap, ◌∙◌, arith}
use Rattle.s390x_typed_steps.specs.Causes.{declared_in}
use Rattle.s390x_refusal.proofs.Counting.{declared_fresh}
use Rattle.s390x_refusal.proofs.Placing.{at_end, at_member, blocks_on}
use Rattle.s390x_refusal.proofs.blocks.position_in_blocks.Goals as goal

pub loop-number-preserved : goal.loop-number-preserved
loop-number-preserved c =
    let flags = c.args.flags in
    let e = c.args.state.now in
    let f = c.args.function.now in
    let k = c.loop-number.number in
    let v = c.block-item.result in
    let lt : k < length f.blocks.items = omega (arith, ap length c.deref-block-items.ensures.value) in
    let at : v ≡ get_or f.blocks.items k v = c.block-item.is ∙ ap (λ l. get_or l k v) c.deref-block-items.ensures.value in
    let declared = declared_fresh flags e f c.args.sink.now c.requires.fresh in
    let checked = rw c.in-Passed.is at c.in_ok-behind.ensures in
    blocks_on flags e f k c.loop-number.labels c.in-Passed.behind v (declared_in c.args.sink.now) lt at declared c.loop-number.invariant checked.0 checked.1 checked.2

pub returns-in-Some : goal.returns-in-Some
returns-in-Some c =
    let flags = c.args.flags in
    let e = c.args.state.now in
    let f = c.args.function.now in
    let k = c.loop-number.number in
    let v = c.block-item.result in
    let lt : k < length f.blocks.items = omega (arith, ap length c.deref-block-items.ensures.value) in
    let at : v ≡ get_or f.blocks.items k v = c.block-item.is ∙ ap (λ l. get_or l k v) c.deref-block-items.ensures.value in
    let declared = declared_fresh flags e f c.args.sink.now c.requires.fresh in
    let some = rw c.in-Refused.is at c.in_ok-behind.ensures in
    at_member flags e f k c.loop-number.labels v (declared_in c.args.sink.now) c.in-Refused.field-0 c.deref.result.now c.in-Some.path c.requires.opening lt at declared c.loop-number.invariant some c.deref.ensures.value (rw c.in-Some.is at c.in_ok-path-in-Refused.ensures)

pub returns-in-None : goal.returns-in-None
returns-in-None c =
    let flags = c.args.flags in
    let e = c.args.state.now in
    let f = c.args.function.now in
    let k = c.loop-number.number in
    let v = c.block-item.result in
    let lt : k < length f.blocks.items = omega (arith, ap length c.deref-block-items.ensures.value) in
    let at : v ≡ get_or f.blocks.items k v = c.block-item.is ∙ ap (λ l. get_or l k v) c.deref-block-items.ensures.value in
    let declared = declared_fresh flags e f c.args.sink.now c.requires.fresh in
    let some = rw c.in-Refused.is at c.in_ok-behind.ensures in
    at_end flags e f k c.loop-number.labels v (declared_in c.args.sink.now) c.in-Refused.field-0 c.deref.result.now c.requires.opening lt at declared c.loop-number.invariant some c.deref.ensures.value (rw c.in-None.is at c.in_ok-path-in-Refused.ensures)
