use Rattle.std.proofs.Common.{None, cond, ap, ◌∙◌}
use Rattle.s390x_typed_steps.specs.Memory.{accesses_relative, without_relative}
use Rattle.s390x_emit_int.proofs.baseline.find_other_rows.Goals as goal

pub returns-in-Some-clause-row : goal.returns-in-Some-clause-row
returns-in-Some-clause-row c = c.with_loaded_address.ensures.row ∙ ap (λ o. cond (accesses_relative o) (without_relative o) None) c.in-Some.ensures.row

pub returns-in-None-clause-row : goal.returns-in-None-clause-row
returns-in-None-clause-row c = ap (λ o. cond (accesses_relative o) (without_relative o) None) c.in-None.ensures.row
