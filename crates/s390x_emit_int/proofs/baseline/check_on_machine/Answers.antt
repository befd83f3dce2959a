use Rattle.std.proofs.Common.{true, false, sym, subst}
use Rattle.s390x_address.specs.Rows.{memory_instruction_of}
use Rattle.s390x_typed_steps.specs.Causes.{declared_in}
use Rattle.s390x_typed_steps.specs.Resolved.{resolved_instruction}
use Rattle.s390x_typed_steps.specs.Tree.{Whole, Loaded, leaf, empty}
use Rattle.s390x_emit_int.specs.Sequence.{ChecksTree}
use Rattle.s390x_emit_int.proofs.AddressFirst.{found_loaded, none_loaded, body_is, body_checks}
use Rattle.s390x_emit_int.proofs.baseline.check_on_machine.Goals as goal

pub check_loaded-requires-clause-row : goal.check_loaded-requires-clause-row
check_loaded-requires-clause-row c = (found_loaded c.args.flags c.args.inst.now (memory_instruction_of c.in-Some.found) c.in-Some.ensures.row).1

pub returns-in-Some : goal.returns-in-Some
returns-in-Some c =
    let e = c.args.state.now in
    let i = c.args.inst.now in
    let D = declared_in c.args.sink.now in
    let found = found_loaded c.args.flags i (memory_instruction_of c.in-Some.found) c.in-Some.ensures.row in
    subst (λ b. ChecksTree c.args.flags D c.args.t c.args.depth e.nominal (leaf b empty) c.check_loaded.result) (sym (body_is c.args.flags e i true found.0))
    (body_checks c.args.flags D c.args.t c.args.depth e.nominal (Loaded (resolved_instruction e i)) c.check_loaded.result c.check_loaded.ensures)

pub returns-in-None : goal.returns-in-None
returns-in-None c =
    let e = c.args.state.now in
    let i = c.args.inst.now in
    let D = declared_in c.args.sink.now in
    let none = none_loaded c.args.flags i c.in-None.ensures.row in
    subst (λ b. ChecksTree c.args.flags D c.args.t c.args.depth e.nominal (leaf b empty) c.check_leaf.result) (sym (body_is c.args.flags e i false none))
    (body_checks c.args.flags D c.args.t c.args.depth e.nominal (Whole (resolved_instruction e i)) c.check_leaf.result c.check_leaf.ensures)
