use Rattle.std.proofs.Common.{length}
use Rattle.s390x_disassembler.proofs.SoFar.{IsSoFar}
use Rattle.s390x_disassembler.proofs.assembly.assembled_bytes.Given as goal

-- the lines so far
abbrev pub invariant-loop-rest : goal.invariant-loop-rest
invariant-loop-rest l = IsSoFar l.base l.text l.code.items l.rest l.lines

abbrev pub decreases-loop-rest : goal.decreases-loop-rest
decreases-loop-rest l = length l.rest
