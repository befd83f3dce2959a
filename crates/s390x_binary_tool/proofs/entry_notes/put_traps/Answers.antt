use Rattle.std.proofs.Common.{map, arith, [], ◌∷◌}
use Rattle.s390x_binary_tool.specs.Notes.{plain_note, trap_note}
use Rattle.s390x_binary_tool.proofs.Pushing.{mapped, went}
use Rattle.s390x_binary_tool.proofs.entry_notes.put_traps.Goals as goal

pub loop-trap-preserved : goal.loop-trap-preserved
loop-trap-preserved c =
    went _ (map plain_note c.loop-trap.notes.items) _ (trap_note c.args.base c.trap-item.result ∷ []) _ _ c.in_ok-put_trap.ensures
    (mapped (trap_note c.args.base) c.args.traps.now c.loop-trap.trap-index c.trap-item.result c.trap-item.result (omega arith) c.trap-item.is) c.loop-trap.invariant
