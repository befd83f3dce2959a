use Rattle.s390x_emit_int.specs.Function.{constants_of, folded_trees_of}
use Rattle.s390x_emit_int.proofs.Filling.{relocs_lie}
use Rattle.s390x_emit_int.proofs.FunctionImage.{image_of}
use Rattle.s390x_library_example.proofs.linked.emit_and_link.Goals as goal

-- the relocations of a finished code lie in it
pub link-requires : goal.link-requires
link-requires c = relocs_lie (folded_trees_of c.args.info.now.isa_flags c.args.state c.args.function.now) (constants_of c.args.function.now) c.in-Ok.code c.in-Ok.ensures.1

pub returns-in-Ok-link-clause-runs : goal.returns-in-Ok-link-clause-runs
returns-in-Ok-link-clause-runs c =
    let emitted = c.in-Ok.ensures in
    let linked = c.in-Ok-link.ensures.answer in
    (image_of c.args.info.now.isa_flags c.args.state c.args.function.now c.args.base c.args.symbols.now c.in-Ok.code _ emitted.0 emitted.1 emitted.2 linked.0 linked.2).runs
