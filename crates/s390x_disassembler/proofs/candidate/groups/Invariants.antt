use Rattle.std.proofs.Common.{◌≡◌, ℕ, ◌∷◌, ◌++◌, ◌%◌, List, length}
use Rattle.hex.specs.Hex.{IsBytes}
use Rattle.s390x_disassembler.specs.Bare.{AreGroups}
use Rattle.s390x_disassembler.proofs.Groups.{AreLeft}
use Rattle.s390x_disassembler.proofs.candidate.groups.Given as goal

-- of the bytes that are written, what is read, and what is left
abbrev pub invariant-loop-rest : goal.invariant-loop-rest
invariant-loop-rest l = record {
  separator : l.separator ≡ 10 → ⊥;
  left : (write : ℕ → List ℕ → List ℕ) (u more : List ℕ) → AreGroups l.size write → IsBytes u → length u % l.size ≡ 0 → l.text ≡ write 32 u ++ (10 ∷ more) → AreLeft l.size write l.separator u l.bytes.items l.rest more;
}

abbrev pub decreases-loop-rest : goal.decreases-loop-rest
decreases-loop-rest l = length l.rest
