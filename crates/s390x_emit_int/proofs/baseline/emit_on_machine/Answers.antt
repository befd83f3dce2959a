use Rattle.std.proofs.Common.{false, sym, subst}
use Rattle.std.proofs.lemmas.Bool.{not-true}
use Rattle.s390x_typed_steps.specs.Memory.{memory, loaded_memory, accesses_relative}
use Rattle.s390x_typed_steps.specs.Resolved.{resolved_instruction}
use Rattle.s390x_typed_steps.specs.Tree.{Whole, leaf, empty}
use Rattle.s390x_emit_int.specs.Sequence.{EmitsOwn}
use Rattle.s390x_emit_int.proofs.AddressFirst.{without_flag, none_loaded, body_is, body_emits}
use Rattle.s390x_emit_int.proofs.baseline.emit_on_machine.Goals as goal

pub returns-then-not-flags : goal.returns-then-not-flags
returns-then-not-flags c =
    let e = c.args.state.now in
    let i = c.args.inst.now in
    let none = none_loaded c.args.flags i (without_flag (accesses_relative (memory i)) c.args.flags.no_relative_memory (loaded_memory i) (not-true c.args.flags.no_relative_memory c.if-not-flags.true)) in
    subst (λ b. EmitsOwn c.args.flags c.args.sink.now c.emit_leaf.new.sink c.args.after.0 c.args.depth e.nominal (leaf b empty) c.emit_leaf.result) (sym (body_is c.args.flags e i false none))
    (body_emits c.args.flags c.args.sink.now c.emit_leaf.new.sink c.args.after.0 c.args.depth e.nominal (Whole (resolved_instruction e i)) c.emit_leaf.result c.emit_leaf.ensures.answer c.emit_leaf.ensures.only_memory c.emit_leaf.ensures.range c.emit_leaf.ensures.kept)
