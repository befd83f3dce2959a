use Rattle.std.proofs.Common.{◌∙◌}
use Rattle.s390x_typed_steps.specs.Memory.{memory, loaded_memory, accesses_relative}
use Rattle.s390x_emit_int.proofs.AddressFirst.{with_flag, without_flag}
use Rattle.s390x_emit_int.proofs.baseline.find_loaded.Goals as goal

pub returns-then-flags-clause-row : goal.returns-then-flags-clause-row
returns-then-flags-clause-row c =
    let i = c.args.inst.now in
    c.find_other_rows.ensures.row ∙ with_flag (accesses_relative (memory i)) c.args.flags.no_relative_memory (loaded_memory i) c.if-flags.true

pub returns-else-flags-clause-row : goal.returns-else-flags-clause-row
returns-else-flags-clause-row c =
    let i = c.args.inst.now in
    without_flag (accesses_relative (memory i)) c.args.flags.no_relative_memory (loaded_memory i) c.if-flags.false
