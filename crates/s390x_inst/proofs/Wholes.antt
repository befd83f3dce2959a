-- A load or a store of a whole vector register is read from its instruction, and the one that is read is the instruction.
use Rattle.std.proofs.Common.{◌≡◌, true, is_some, Option, Some, None}
use Rattle.s390x_inst.specs.declared.whole.WholeAccess.{WholeAccess}

-- the one that there is: in a clause that is a copy for each, `the_whole (as_whole v) refl` is the one that v is
abbrev pub the_whole : (o : Option WholeAccess) → is_some o ≡ true → WholeAccess
the_whole (Some w) is = w
the_whole None is = absurd (cc)
