use Rattle.std.proofs.Common.{◌≡◌, None, [], ◌∷◌, map, refl, arith, rules}
use Rattle.std.proofs.lemmas.Grind.{common_steps}
use Rattle.s390x_elf.specs.Causes.{named_object_cause}
use Rattle.s390x_elf.specs.Names.{name_in}
use Rattle.s390x_elf.specs.Object.{whole_function}
use Rattle.s390x_elf.specs.Tables.{AreObjectSections}
use Rattle.s390x_elf.specs.Writing.{section_of}
use Rattle.s390x_elf.proofs.Finished.{object_from_file, object_is_filled, filled_is_image, tables_from_file}
use Rattle.s390x_elf.proofs.object_file.object_with_names.Goals as goal

pub returns-clause-answer : goal.returns-clause-answer
returns-clause-answer c =
    let both : (named_object_cause c.args.names.now c.args.name.now c.args.code.now ≡ None) ×
    AreObjectSections (name_in c.args.names.now) (whole_function c.args.name.now c.args.code.now) c.args.code.now.alignment c.args.code.now.bytes.items c.args.code.now.relocs.items (map section_of c.in_ok-sections.sections.items) =
    first_of (search rules, grind (arith, common_steps)) in
    (both.0, object_from_file _ _ _ _ _ _ (c.args.code.now ∷ []) _ both.1 c.in-Ok-file_with_tables.ensures)

pub returns-clause-linked : goal.returns-clause-linked
returns-clause-linked c =
    let are : AreObjectSections (name_in c.args.names.now) (whole_function c.args.name.now c.args.code.now) c.args.code.now.alignment c.args.code.now.bytes.items c.args.code.now.relocs.items (map section_of c.in_ok-sections.sections.items) =
    first_of (search rules, grind (arith, common_steps)) in
    filled_is_image c.args.names.now c.args.name.now c.args.code.now _
    (object_is_filled (name_in c.args.names.now) (whole_function c.args.name.now c.args.code.now) c.args.code.now.alignment c.args.code.now.bytes.items c.args.code.now.relocs.items _
    (object_from_file _ _ _ _ _ _ (c.args.code.now ∷ []) _ are c.in-Ok-file_with_tables.ensures))

pub returns-clause-tables : goal.returns-clause-tables
returns-clause-tables c =
    let are : AreObjectSections (name_in c.args.names.now) (whole_function c.args.name.now c.args.code.now) c.args.code.now.alignment c.args.code.now.bytes.items c.args.code.now.relocs.items (map section_of c.in_ok-sections.sections.items) =
    first_of (search rules, grind (arith, common_steps)) in
    tables_from_file (name_in c.args.names.now) (whole_function c.args.name.now c.args.code.now) c.args.code.now.alignment c.args.code.now.bytes.items c.args.code.now.relocs.items _ (c.args.code.now ∷ []) _ are
    c.in-Ok-file_with_tables.ensures refl
