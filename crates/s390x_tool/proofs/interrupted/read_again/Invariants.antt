use Rattle.std.specs.Io.KnownBytes.{Keeps}
use Rattle.s390x_tool.proofs.interrupted.read_again.Given as goal

-- the reads so far took nothing
abbrev pub invariant-loop : goal.invariant-loop
invariant-loop g l = Keeps (g.R.Read.remaining l.initial.input) (g.R.Read.remaining l.input)
