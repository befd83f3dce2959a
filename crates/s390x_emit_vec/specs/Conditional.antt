-- What the look-up of a move under a condition answers.
use Rattle.std.specs.Prelude.{◌≡◌, Option, Some, None}
use Rattle.s390x_typed_steps.specs.SingleCode.{code_where}
use Rattle.s390x_typed_steps.specs.VectorComposite.{MoveUnder as Move}
use Rattle.s390x_emit_vec.specs.declared.conditional.MoveUnder.{MoveUnder}

-- the answer has the move's mask, and its code where its registers may stand there; none where there is no such move
abbrev pub IsMoveUnder : Option MoveUnder → Option Move → Type 0
IsMoveUnder None None = Unit {0}
IsMoveUnder (Some x) (Some y) = (x.mask ≡ y.mask) × (x.code ≡ code_where y.operands_valid y.row)
IsMoveUnder _ _ = ⊥
