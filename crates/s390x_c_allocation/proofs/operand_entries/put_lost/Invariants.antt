use Rattle.std.proofs.Common.{◌≡◌, ◌++◌, drop, map}
use Rattle.s390x_c_allocation.specs.OperandEntries.{lost_entry}
use Rattle.s390x_c_allocation.proofs.operand_entries.put_lost.Given as goal

-- what is written, with the registers that are left
abbrev pub invariant-loop-preg : goal.invariant-loop-preg
invariant-loop-preg l =
    l.out.items ++ map (lost_entry l.spot) (drop l.preg-index l.regs) ≡ l.initial.out.items ++ map (lost_entry l.spot) l.regs
