use Rattle.std.proofs.Common.{ap, ◌∙◌}
use Rattle.s390x_image.specs.Symbols.{no_symbols}
use Rattle.s390x_emit_int.specs.Function.{folded_trees_of, constants_of}
use Rattle.s390x_emit_int.proofs.Filling.{relocs_lie}
use Rattle.s390x_bundle.specs.Table.{with_lines}
use Rattle.s390x_tool.proofs.Answering.{linked_by}
use Rattle.s390x_tool.proofs.job_command.link_job.Goals as goal

pub returns-in-Ok-clause-linked : goal.returns-in-Ok-clause-linked
returns-in-Ok-clause-linked c =
    let symbols = c.in-Ok.ensures ∙ ap (with_lines no_symbols) c.deref.ensures.value in
    linked_by c.args.base c.args.job.now c.args.code.now c.link.result _ (rw symbols at c.link.ensures.answer)

pub link-requires : goal.link-requires
link-requires c = relocs_lie (folded_trees_of c.args.job.now.info.isa_flags c.args.job.now.state c.args.job.now.function) (constants_of c.args.job.now.function) c.args.code.now c.requires.emitted
