use Rattle.s390x_emit_rows.proofs.Storing.{load_rows_encode}
use Rattle.s390x_emit_rows.proofs.memory.memory_of_load.Goals as goal

pub access-requires : goal.access-requires
access-requires c = rw c.rows_of_load-rows.ensures (load_rows_encode c.args.load.now.op)
