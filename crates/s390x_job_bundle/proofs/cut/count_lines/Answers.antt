use Rattle.std.proofs.Common.{◌≡◌, [], length, ap, arith}
use Rattle.s390x_job_fields.specs.Marks.{upto}
use Rattle.s390x_job.specs.Completions.{pieces}
use Rattle.s390x_job.proofs.Above.{pieces_none}
use Rattle.s390x_job.proofs.Places.{none_left, some_left}
use Rattle.s390x_job.proofs.Whole.{nil, shorter}
use Rattle.s390x_job_bundle.proofs.Lines.{first_line}
use Rattle.s390x_job_bundle.proofs.cut.count_lines.Goals as goal

pub loop-rest-smaller : goal.loop-rest-smaller
loop-rest-smaller c =
    let r = c.loop-rest.rest.now in
    let h = shorter 10 r (some_left (length r) c.is_empty.result c.is_empty.ensures c.loop-rest-test.true) in
    omega (arith, h, ap length c.after-rest.ensures)

pub returns-then-line-rest-clause-count : goal.returns-then-line-rest-clause-count
returns-then-line-rest-clause-count c =
    let r = c.loop-rest.rest.now in
    let e : length (upto 10 r) ≡ length r = omega (arith, ap length c.before-line.ensures) in
    omega (arith, c.loop-rest.invariant.0, ap length (pieces_none r [] e))

pub loop-rest-preserved : goal.loop-rest-preserved
loop-rest-preserved c =
    let r = c.loop-rest.rest.now in
    let f = first_line r (λ e. absurd (omega (arith, ap length c.before-line.ensures, e))) in
    let h = shorter 10 r (some_left (length r) c.is_empty.result c.is_empty.ensures c.loop-rest-test.true) in
    (omega (arith, c.loop-rest.invariant.0, ap length f, ap (λ t. length (pieces t)) c.after-rest.ensures), omega (arith, c.loop-rest.invariant.1, h, ap length c.after-rest.ensures))

pub returns-clause-count : goal.returns-clause-count
returns-clause-count c =
    let r = c.loop-rest.rest.now in
    let n = nil r (none_left (length r) c.is_empty.result c.is_empty.ensures c.loop-rest-test.false) in
    omega (arith, c.loop-rest.invariant.0, ap (λ t. length (pieces t)) n)
