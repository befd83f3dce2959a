use Rattle.std.proofs.Common.{◌≡◌, ◌++◌, drop, string_bytes}
use Rattle.s390x_listing.specs.Texts.{blocks_texts}
use Rattle.s390x_listing.proofs.texts.put_blocks.Given as goal

abbrev pub invariant-loop-number : goal.invariant-loop-number
invariant-loop-number l = record {
  bytes : string_bytes l.out ++ (blocks_texts l.fn.info.isa_flags l.state l.number (drop l.number l.blocks)).bytes ≡ string_bytes l.initial.out ++ (blocks_texts l.fn.info.isa_flags l.state 0 l.blocks).bytes;
  cause : (blocks_texts l.fn.info.isa_flags l.state l.number (drop l.number l.blocks)).cause ≡ (blocks_texts l.fn.info.isa_flags l.state 0 l.blocks).cause;
}
