use Rattle.std.proofs.Common.{◌≡◌, ◌++◌, drop, map}
use Rattle.std.specs.Prelude.{None}
use Rattle.s390x_listing.specs.Texts.{inst_texts}
use Rattle.s390x_binary_tool.specs.Notes.{inst_notes, plain_note, starts_behind}
use Rattle.s390x_binary_tool.proofs.block_notes.put_insts.Given as goal

-- the notes so far with those of the instructions that are left, which have texts, and the starts that these leave
abbrev pub invariant-loop-inst : goal.invariant-loop-inst
invariant-loop-inst l = record {
  notes : map plain_note l.notes.items ++ inst_notes l.fn.info.isa_flags l.state l.left (drop l.inst-index l.insts) ≡ map plain_note l.initial.notes.items ++ inst_notes l.fn.info.isa_flags l.initial.state l.starts l.insts;
  starts : starts_behind l.state l.left (drop l.inst-index l.insts) ≡ starts_behind l.initial.state l.starts l.insts;
  told : (inst_texts l.fn.info.isa_flags l.state (drop l.inst-index l.insts)).cause ≡ None;
}
