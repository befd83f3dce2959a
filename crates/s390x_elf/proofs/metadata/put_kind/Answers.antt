use Rattle.std.proofs.Common.{ap, ◌∙◌}
use Rattle.s390x_elf.specs.TableBytes.{table_relocation_section, table_section}
use Rattle.s390x_elf.proofs.TableSteps.{two_more}
use Rattle.s390x_elf.proofs.metadata.put_kind.Goals as goal

pub returns-clause-sections : goal.returns-clause-sections
returns-clause-sections c =
    two_more _ _ _ _ _ _ _ c.in_ok-push.ensures.items c.in_ok-push-2.ensures.items
    (c.table_section.ensures ∙ ap (table_section c.args.kind) c.in_ok-table.ensures.content)
    (c.relocation_section.ensures ∙ ap (table_relocation_section c.args.kind) c.in_ok-table.ensures.relocations)

pub returns-clause-fits : goal.returns-clause-fits
returns-clause-fits c = c.in_ok-table.ensures.fits
