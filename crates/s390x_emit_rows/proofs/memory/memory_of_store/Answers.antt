use Rattle.s390x_emit_rows.proofs.Storing.{store_rows_encode}
use Rattle.s390x_emit_rows.proofs.memory.memory_of_store.Goals as goal

pub access-requires : goal.access-requires
access-requires c = rw c.rows_of_store-rows.ensures (store_rows_encode c.args.store.now.op)
