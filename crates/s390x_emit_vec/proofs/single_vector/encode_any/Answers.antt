use Rattle.std.proofs.Common.{Some, ap}
use Rattle.s390x_emit_vec.proofs.single_vector.encode_any.Goals as goal

pub returns-in-VecShiftRR-rows : goal.returns-in-VecShiftRR-rows
returns-in-VecShiftRR-rows c = rw c.in-VecShiftRR-rows.is (ap Some c.shifted.ensures)
