use Rattle.std.proofs.Common.{◌<◌, List, length, map, sym, ap, subst, ◌∙◌, All}
use Rattle.s390x_elf.specs.declared.file.SectionParts.{SectionParts}
use Rattle.s390x_elf.specs.TableBytes.{code_of}
use Rattle.s390x_elf.specs.Writing.{file_bytes, section_of}
use Rattle.s390x_elf.proofs.TableSteps.{vec_small}
use Rattle.s390x_elf.proofs.TablesRead.{parts_count, parts_short}
use Rattle.s390x_elf.proofs.object_file.file_with_tables.Goals as goal

pub write_file-requires-clause-count : goal.write_file-requires-clause-count
write_file-requires-clause-count c =
    subst (λ (ps : List SectionParts). length ps < 1000) (sym c.deref.ensures.value)
    (parts_count c.put_tables.new.sections.items (map section_of c.args.sections.items) (map code_of c.args.codes.now) c.in_ok-put_tables.ensures.sections c.requires.few)

pub write_file-requires-clause-names : goal.write_file-requires-clause-names
write_file-requires-clause-names c =
    let short = parts_short c.put_tables.new.sections.items (map section_of c.args.sections.items) (map code_of c.args.codes.now) c.in_ok-put_tables.ensures.sections c.requires.few in
    subst (λ (ps : List SectionParts). All (λ (p : SectionParts). length p.name.now < 256) ps) (sym c.deref.ensures.value) short

pub returns : goal.returns
returns c = record {
  bytes = c.in_ok-file.ensures
      ∙ ap (λ (ps : List SectionParts). file_bytes (map section_of ps)) c.deref.ensures.value
      ∙ ap file_bytes c.in_ok-put_tables.ensures.sections;
  size = vec_small c.in_ok-file.file;
  fits = c.in_ok-put_tables.ensures.fits;
}
