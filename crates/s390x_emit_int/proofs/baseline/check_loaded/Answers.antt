use Rattle.std.proofs.Common.{sym, ◌∙◌}
use Rattle.s390x_address.specs.Rows.{memory_instruction_of}
use Rattle.s390x_typed_steps.specs.Causes.{declared_in}
use Rattle.s390x_emit_int.proofs.AddressFirst.{loaded_adds, loaded_stops, access_size}
use Rattle.s390x_emit_int.proofs.baseline.check_loaded.Goals as goal

pub returns-in-Some : goal.returns-in-Some
returns-in-Some c = loaded_stops c.args.flags (declared_in c.args.sink.now) c.args.t.labels c.args.state.now c.args.inst.now _ (sym c.access_cause.ensures ∙ c.in-Some.is)

pub returns-in-None : goal.returns-in-None
returns-in-None c =
    let e = c.args.state.now in
    let i = c.args.inst.now in
    let D = declared_in c.args.sink.now in
    let x = memory_instruction_of c.args.found.now in
    let none = sym c.access_cause.ensures ∙ c.in-None.is in
    loaded_adds c.args.flags D c.args.t e i c.size.result c.add.result none (access_size c.args.flags D e i x c.size.result c.requires.row none (c.size.ensures.value D)) c.add.ensures
