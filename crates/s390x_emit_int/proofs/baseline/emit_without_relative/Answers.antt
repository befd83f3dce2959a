use Rattle.std.proofs.Common.{true, false, sym, subst}
use Rattle.s390x_address.specs.Rows.{memory_instruction_of}
use Rattle.s390x_typed_steps.specs.Resolved.{resolved_instruction}
use Rattle.s390x_typed_steps.specs.Tree.{Whole, Loaded, leaf, empty}
use Rattle.s390x_emit_int.specs.Sequence.{EmitsOwn}
use Rattle.s390x_emit_int.proofs.AddressFirst.{found_loaded, none_loaded, body_is, body_emits}
use Rattle.s390x_emit_int.proofs.baseline.emit_without_relative.Goals as goal

pub emit_loaded-requires-clause-row : goal.emit_loaded-requires-clause-row
emit_loaded-requires-clause-row c = (found_loaded c.args.flags c.args.inst.now (memory_instruction_of c.in-Some.found) c.in-Some.ensures.row).1

pub returns-in-Some : goal.returns-in-Some
returns-in-Some c =
    let e = c.args.state.now in
    let i = c.args.inst.now in
    let found = found_loaded c.args.flags i (memory_instruction_of c.in-Some.found) c.in-Some.ensures.row in
    subst (λ b. EmitsOwn c.args.flags c.args.sink.now c.emit_loaded.new.sink c.args.after.0 c.args.depth e.nominal (leaf b empty) c.emit_loaded.result) (sym (body_is c.args.flags e i true found.0))
    (body_emits c.args.flags c.args.sink.now c.emit_loaded.new.sink c.args.after.0 c.args.depth e.nominal (Loaded (resolved_instruction e i)) c.emit_loaded.result c.emit_loaded.ensures.answer (c.emit_loaded.ensures.only_memory c.args.after.0) c.emit_loaded.ensures.range c.emit_loaded.ensures.kept)

pub returns-in-None : goal.returns-in-None
returns-in-None c =
    let e = c.args.state.now in
    let i = c.args.inst.now in
    let none = none_loaded c.args.flags i c.in-None.ensures.row in
    subst (λ b. EmitsOwn c.args.flags c.args.sink.now c.emit_leaf.new.sink c.args.after.0 c.args.depth e.nominal (leaf b empty) c.emit_leaf.result) (sym (body_is c.args.flags e i false none))
    (body_emits c.args.flags c.args.sink.now c.emit_leaf.new.sink c.args.after.0 c.args.depth e.nominal (Whole (resolved_instruction e i)) c.emit_leaf.result c.emit_leaf.ensures.answer c.emit_leaf.ensures.only_memory c.emit_leaf.ensures.range c.emit_leaf.ensures.kept)
