use Rattle.std.proofs.Common.{◌≡◌, ◌+◌, drop, map}
use Rattle.s390x_disassembler.specs.Names.{place_in}
use Rattle.s390x_disassembler.proofs.candidate.place.Given as goal

-- none of the names so far is this one
abbrev pub invariant-loop-i : goal.invariant-loop-i
invariant-loop-i l = l.i + place_in (map (λ name. name.now) (drop l.i l.table)) l.letters ≡ place_in (map (λ name. name.now) l.table) l.letters
