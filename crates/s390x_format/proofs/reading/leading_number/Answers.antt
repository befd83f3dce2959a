use Rattle.std.proofs.Common.{ap₂, sym, ◌∙◌, arith}
use Rattle.std.proofs.Common.{ℕ, ◌+◌, ◌*◌}
use Rattle.s390x_format.proofs.Bytes.{number_2, number_4, number_6}
use Rattle.s390x_format.proofs.reading.leading_number.Goals as goal

pub returns-then-count-eq2-clause-value : goal.returns-then-count-eq2-clause-value
returns-then-count-eq2-clause-value c =
    rw c.if-count-eq2.true (c.pair_at.ensures ∙ sym (number_2 c.args.bytes.now (omega (arith, c.requires.enough, c.if-count-eq2.true))))

pub returns-then-count-eq4-clause-value : goal.returns-then-count-eq4-clause-value
returns-then-count-eq4-clause-value c =
    rw c.if-count-eq4.true (ap₂ (λ (x y : ℕ). x * 65536 + y) c.pair_at-then-count-eq4.ensures c.pair_at-then-count-eq4-2.ensures
    ∙ sym (number_4 c.args.bytes.now (omega (arith, c.requires.enough, c.if-count-eq4.true))))

pub returns-then-count-eq6-clause-value : goal.returns-then-count-eq6-clause-value
returns-then-count-eq6-clause-value c =
    rw c.if-count-eq6.true (ap₂ (λ (x y : ℕ). x * 65536 + y) (ap₂ (λ (x y : ℕ). x * 65536 + y) c.pair_at-then-count-eq6.ensures c.pair_at-then-count-eq6-2.ensures) c.pair_at-then-count-eq6-3.ensures
    ∙ sym (number_6 c.args.bytes.now (omega (arith, c.requires.enough, c.if-count-eq6.true))))
