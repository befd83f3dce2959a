use Rattle.std.specs.Io.KnownBytes.{Keeps}
use Rattle.s390x_tool.proofs.interrupted.write_again.Given as goal

-- the writes so far took nothing
abbrev pub invariant-loop : goal.invariant-loop
invariant-loop g l = Keeps (g.W.Write.contents l.initial.output) (g.W.Write.contents l.output)
