use Rattle.std.proofs.Common.{◌+◌, ◌*◌, min, ap, sym, ◌∙◌}
use Rattle.s390x_base.specs.Regs.{number_of}
use Rattle.s390x_emit_int.specs.Emission.{branch_size}
use Rattle.s390x_emit_int.specs.CodeSize.{code_limit}
use Rattle.s390x_emit_int.proofs.Tables.{table_bytes}
use Rattle.s390x_emit_int.proofs.check.branch_size.Goals as goal

pub returns-in-JTSequence-clause-value : goal.returns-in-JTSequence-clause-value
returns-in-JTSequence-clause-value c =
    let i = c.in-JTSequence in
    c.table_size.ensures.value ∙ ap (λ n. min code_limit (20 + 4 * n)) (c.len.ensures ∙ i.targets.ok.0) ∙ ap (min code_limit) (sym (ap branch_size i.is ∙ table_bytes (number_of i.ridx) i.default_cond i.default.0 i.targets.items))

pub returns-in-Vector-clause-value : goal.returns-in-Vector-clause-value
returns-in-Vector-clause-value c = ap (min code_limit) (c.composite_size.ensures.value ∙ sym (ap branch_size c.in-Vector.is))
