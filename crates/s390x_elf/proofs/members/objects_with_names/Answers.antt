use Rattle.std.proofs.Common.{◌<◌, List, length, map, subst, sym}
use Rattle.s390x_elf.specs.declared.metadata.Coded.{Coded}
use Rattle.s390x_elf.specs.Answers.{IsFileWithTables}
use Rattle.s390x_elf.specs.TableBytes.{code_of}
use Rattle.s390x_elf.specs.Writing.{section_of}
use Rattle.s390x_elf.proofs.Joined.{members_linked}
use Rattle.s390x_elf.proofs.MemberTables.{codes_few, members_object, members_tables, members_uncaused}
use Rattle.s390x_elf.proofs.members.objects_with_names.Goals as goal

pub file_with_tables-requires-clause-count : goal.file_with_tables-requires-clause-count
file_with_tables-requires-clause-count c =
    subst (λ (cs : List Coded). length cs < 4294967295) (sym c.deref-4.ensures.value)
    (codes_few c.args.members.now c.in_ok-text.text _ _ c.in_ok-text.ensures.1 c.deref.ensures.value c.in-Ok.ensures c.in_ok-sections.ensures.count)

pub returns-clause-answer : goal.returns-clause-answer
returns-clause-answer c = (
  members_uncaused c.args.names.now c.args.members.now c.in_ok-text.text _ _ c.in_ok-text.ensures.1 c.deref.ensures.value c.deref-3.ensures.value c.in_ok-text.ensures.0 c.in_ok-sections.ensures.answer.0,
  members_object c.args.names.now c.args.members.now c.in_ok-text.text _ _ _ _ _ _ c.in_ok-text.ensures.1 c.deref.ensures.value c.deref-2.ensures.value c.deref-3.ensures.value c.in_ok-sections.ensures.answer.1
      c.in-Ok-file_with_tables.ensures,
)

pub returns-clause-linked : goal.returns-clause-linked
returns-clause-linked c =
    members_linked c.args.names.now c.args.members.now _
    (members_object c.args.names.now c.args.members.now c.in_ok-text.text _ _ _ _ _ _ c.in_ok-text.ensures.1 c.deref.ensures.value c.deref-2.ensures.value c.deref-3.ensures.value c.in_ok-sections.ensures.answer.1
    c.in-Ok-file_with_tables.ensures)

pub returns-clause-tables : goal.returns-clause-tables
returns-clause-tables c =
    members_tables c.args.names.now c.args.members.now c.in_ok-text.text _ _ _ _ c.in-Ok.codes.items _ c.in_ok-text.ensures.1 c.deref.ensures.value c.deref-2.ensures.value c.deref-3.ensures.value c.in_ok-sections.ensures.answer.1
    c.in-Ok.ensures (subst (λ (cs : List Coded). IsFileWithTables (map section_of c.in_ok-sections.sections.items) (map code_of cs) c.in-Ok-file_with_tables.file.items) c.deref-4.ensures.value c.in-Ok-file_with_tables.ensures)
