use Rattle.std.proofs.Common.{◌≡◌, ◌++◌, drop, map}
use Rattle.std.specs.Prelude.{None}
use Rattle.s390x_listing.specs.Texts.{blocks_texts}
use Rattle.s390x_binary_tool.specs.Notes.{block_notes, plain_note}
use Rattle.s390x_binary_tool.proofs.block_notes.block_notes.Given as goal

-- the notes so far, with those of the blocks that are left, which have texts
abbrev pub invariant-loop-number : goal.invariant-loop-number
invariant-loop-number l = record {
  notes : map plain_note l.notes.items ++ block_notes l.fn.info.isa_flags l.state l.base l.fn.code.block_starts.items l.left l.number (drop l.number l.blocks)
      ≡ block_notes l.fn.info.isa_flags l.state l.base l.fn.code.block_starts.items l.fn.code.starts.items 0 l.blocks;
  told : (blocks_texts l.fn.info.isa_flags l.state l.number (drop l.number l.blocks)).cause ≡ None;
}
