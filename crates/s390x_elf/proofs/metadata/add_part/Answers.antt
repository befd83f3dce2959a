use Rattle.std.proofs.Common.{◌≡◌, ℕ, List, ◌++◌, ap, subst, ◌∙◌, All}
use Rattle.s390x_elf.specs.Metadata.{part}
use Rattle.s390x_elf.specs.TableBytes.{IsWide, part_entry, wides}
use Rattle.s390x_elf.proofs.metadata.add_part.Goals as goal

pub returns : goal.returns
returns c =
    let numbers : c.deref.result.now ≡ part c.args.kind c.args.code.now = c.deref.ensures.value ∙ c.in_ok-numbers.ensures in
    record {
      content = c.in_ok-put_wides.ensures.bytes ∙ ap (λ (ns : List ℕ). c.args.table.now.content.items ++ wides ns) numbers;
      relocations = c.in_ok-put_relocation.ensures ∙ ap (λ (n : ℕ). c.args.table.now.relocations.items ++ part_entry n c.args.function) (c.len.ensures ∙ c.args.table.now.content.ok.0);
      fits = subst (λ (ns : List ℕ). All IsWide ns) numbers c.in_ok-put_wides.ensures.fits;
    }
