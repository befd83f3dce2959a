use Rattle.std.proofs.Common.{◌≡◌, List, drop}
use Rattle.s390x_base.specs.declared.ir.ExternalName.{ExternalName}
use Rattle.s390x_bundle.specs.Names.{HasNames, line_among}
use Rattle.s390x_bundle.proofs.names.named_line.Given as goal

abbrev pub invariant-loop-line : goal.invariant-loop-line
invariant-loop-line l = (all : List ExternalName) → HasNames l.names all → line_among all (drop l.line-index l.lines) ≡ line_among all l.lines
