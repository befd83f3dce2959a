use Rattle.std.proofs.Common.{sym, ◌∙◌, arith}
use Rattle.s390x_bundle.proofs.Naming.{line_turn}
use Rattle.s390x_bundle.proofs.names.named_line.Goals as goal

pub loop-line-preserved : goal.loop-line-preserved
loop-line-preserved c = λ all has.
    line_turn c.args.names.now all c.args.lines.now c.loop-line.line-index _ has (omega arith) (sym c.contains.ensures ∙ c.if-contains.false) ∙ c.loop-line.invariant all has
