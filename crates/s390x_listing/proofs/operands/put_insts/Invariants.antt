use Rattle.std.proofs.Common.{◌≡◌, ◌++◌, drop, string_bytes}
use Rattle.s390x_listing.specs.Listings.{each}
use Rattle.s390x_listing.specs.Operands.{operands_line}
use Rattle.s390x_listing.proofs.operands.put_insts.Given as goal

abbrev pub invariant-loop-inst : goal.invariant-loop-inst
invariant-loop-inst l = record {
  bytes : string_bytes l.out ++ (each (λ n i. operands_line i) l.inst-index (drop l.inst-index l.insts)).bytes ≡ string_bytes l.initial.out ++ (each (λ n i. operands_line i) 0 l.insts).bytes;
  cause : (each (λ n i. operands_line i) l.inst-index (drop l.inst-index l.insts)).cause ≡ (each (λ n i. operands_line i) 0 l.insts).cause;
}
