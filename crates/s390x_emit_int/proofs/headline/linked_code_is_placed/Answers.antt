use Rattle.s390x_emit_int.proofs.Linked.{is_placed}
use Rattle.s390x_emit_int.proofs.headline.linked_code_is_placed.Goals as goal

pub returns : goal.returns
returns c = is_placed
