use Rattle.std.proofs.Common.{◌≡◌, List, [], ◌∙◌, ap, sym, arith, drop}
use Rattle.std.proofs.lemmas.List.{drop_all}
use Rattle.s390x_buffer.specs.declared.entries.RelocEntry.{RelocEntry}
use Rattle.s390x_bundle.proofs.Tables.{named_alike, with_named}
use Rattle.s390x_bundle.proofs.table.member_table.Goals as goal

pub returns : goal.returns
returns c = λ symbols join.
    let joint = c.args.joint.now in
    let relocs = c.args.relocs.now in
    let done : ◌≡◌ {A = List RelocEntry} (drop c.loop-reloc.reloc-index relocs) [] = drop_all c.loop-reloc.reloc-index relocs (omega arith) in
    named_alike joint c.args.lines.now relocs c.loop-reloc.table symbols (sym (ap (λ (l : List RelocEntry). with_named joint l c.loop-reloc.table) done) ∙ c.loop-reloc.invariant) join
