use Rattle.std.proofs.Common.{◌≡◌, ◌++◌, drop, string_bytes}
use Rattle.s390x_listing.specs.Listings.{each}
use Rattle.s390x_listing.specs.Operands.{block_operands}
use Rattle.s390x_listing.proofs.operands.put_blocks.Given as goal

abbrev pub invariant-loop-number : goal.invariant-loop-number
invariant-loop-number l = record {
  bytes : string_bytes l.out ++ (each block_operands l.number (drop l.number l.blocks)).bytes ≡ string_bytes l.initial.out ++ (each block_operands 0 l.blocks).bytes;
  cause : (each block_operands l.number (drop l.number l.blocks)).cause ≡ (each block_operands 0 l.blocks).cause;
}
