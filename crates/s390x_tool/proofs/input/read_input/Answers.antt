use Rattle.std.proofs.Common.{◌≡◌, ◌∙◌, length, take, drop, take_at, ap, arith}
use Rattle.s390x_tool.proofs.Parts.{front_grows}
use Rattle.s390x_tool.proofs.input.read_input.Goals as goal

pub loop-held-preserved : goal.loop-held-preserved
loop-held-preserved g c =
    let size : length c.read_piece.new.input ≡ c.make_room.new.input.len = omega (arith, c.read_piece.ensures.size, c.deref_mut.ensures.len) in
    let whole = take_at c.read_piece.new.input (drop (length c.read_piece.new.input) c.make_room.new.input.items) c.make_room.new.input.len size in
    let kept : take c.loop-held.held c.read_piece.new.input ≡ take c.loop-held.held c.loop-held.input.items =
    c.read_piece.ensures.kept ∙ ap (take c.loop-held.held) c.deref_mut.ensures.value ∙ c.make_room.ensures.kept in
    record {
      within = omega (arith, c.in_ok-count.ensures.bound, size);
      bound = c.make_room.ensures.bound;
      taken = rw whole (front_grows _ _ _ c.loop-held.held c.in_ok-count.count c.loop-held.input.items c.read_piece.new.input c.loop-held.invariant.taken kept c.in_ok-count.ensures.came);
      faults = c.in_ok-count.ensures.same ∙ c.loop-held.invariant.faults;
    }
