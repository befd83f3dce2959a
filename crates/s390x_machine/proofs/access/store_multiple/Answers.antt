use Rattle.std.proofs.Common.{rules, arith, sym, ap, ◌∙◌, ◌*◌, ◌-◌}
use Rattle.s390x_operations.specs.State.{bytes_to, write_get}
use Rattle.s390x_operations.specs.Effects.{joined_doublewords}
use Rattle.s390x_machine.proofs.Multiples.{reaches_part, stored_more}
use Rattle.s390x_machine.proofs.access.store_multiple.Goals as goal

pub put_number-requires : goal.put_number-requires
put_number-requires g c = rw c.loop-i.invariant.same (reaches_part (g.M.Memory.held c.args.memory.now) c.args.address (8 * c.args.count) (8 * (c.loop-i.i - 1)) 8 c.requires.there (omega arith))

pub loop-i-preserved : goal.loop-i-preserved
loop-i-preserved g c =
    let i = c.loop-i.i in
    let write = write_get (bytes_to c.args.address (8 * (i - 1)) (joined_doublewords c.args.values.now (i - 1))) in
    record {
      same = c.put_number.ensures.same ∙ c.loop-i.invariant.same;
      left = ap write c.put_number.ensures.written ∙ sym (stored_more c.args.values.now (g.M.Memory.byte c.loop-i.memory) c.args.address i (omega arith) (search rules)) ∙ c.loop-i.invariant.left;
    }
