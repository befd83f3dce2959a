use Rattle.std.proofs.Common.{[], map}
use Rattle.s390x_elf.specs.Names.{name_in}
use Rattle.s390x_elf.specs.Object.{function_of}
use Rattle.s390x_elf.proofs.Finished.{object_from_file, object_is_filled}
use Rattle.s390x_elf.proofs.object_file.text_object.Goals as goal

pub returns-clause-answer : goal.returns-clause-answer
returns-clause-answer c = (c.in_ok-sections.ensures.answer.0, object_from_file _ _ _ _ _ _ [] _ c.in_ok-sections.ensures.answer.1 c.in-Ok.ensures)

pub returns-clause-linked : goal.returns-clause-linked
returns-clause-linked c =
    object_is_filled (name_in c.args.names.now) (map function_of c.args.functions.now) c.args.alignment c.args.text.now c.args.relocs.now _
    (object_from_file _ _ _ _ _ _ [] _ c.in_ok-sections.ensures.answer.1 c.in-Ok.ensures)
