use Rattle.std.proofs.Common.{◌-◌, length, sym, ap, ◌∙◌, subst, arith, codes, length-append}
use Rattle.std.specs.Str.{bytes_eq}
use Rattle.std.proofs.lemmas.Slice.Eq.{bytes_eq-Decides}
use Rattle.s390x_job_fields.specs.Marks.{upto}
use Rattle.s390x_job.specs.Completions.{text_of_lines}
use Rattle.s390x_job.proofs.Places.{none_left, some_left}
use Rattle.s390x_job.proofs.Whole.{nil, shorter}
use Rattle.s390x_job_bundle.proofs.Cutting.{Scanned, scan_end, scan_none, scan_on}
use Rattle.s390x_job_bundle.proofs.cut.job_size.Goals as goal

pub loop-rest-smaller : goal.loop-rest-smaller
loop-rest-smaller c =
    let r = c.loop-rest.rest.now in
    let h = shorter 10 r (some_left (length r) c.is_empty.result c.is_empty.ensures c.loop-rest-test.true) in
    omega (arith, h, ap length c.after-rest.ensures)

pub returns-then-line-rest-clause-cut : goal.returns-then-line-rest-clause-cut
returns-then-line-rest-clause-cut c = scan_none c.args.bytes.now c.loop-rest.rest.now c.loop-rest.invariant (omega (arith, ap length c.before-line.ensures))

pub overflow_sub-result : goal.overflow_sub-result
overflow_sub-result c =
    let r = c.loop-rest.rest.now in
    let h = shorter 10 r (some_left (length r) c.is_empty.result c.is_empty.ensures c.loop-rest-test.true) in
    omega (arith, h, ap length c.after-rest.ensures, ap length c.loop-rest.invariant.text, length-append (text_of_lines c.loop-rest.invariant.lines) r)

pub returns-then-ends_job-clause-cut : goal.returns-then-ends_job-clause-cut
returns-then-ends_job-clause-cut c =
    let r = c.loop-rest.rest.now in
    let b = c.args.bytes.now in
    let h = shorter 10 r (some_left (length r) c.is_empty.result c.is_empty.ensures c.loop-rest-test.true) in
    let is = sym c.before-line.ensures ∙ (bytes_eq-Decides c.before-line.result.now (codes "end")).0 (sym c.ends_job.ensures ∙ c.if-ends_job.true) in
    scan_end b r (length b - length c.after-rest.result.now) c.loop-rest.invariant (λ e. absurd (omega (arith, ap length c.before-line.ensures, e))) is
    (omega (arith, h, ap length c.after-rest.ensures, ap length c.loop-rest.invariant.text, length-append (text_of_lines c.loop-rest.invariant.lines) r))

pub loop-rest-preserved : goal.loop-rest-preserved
loop-rest-preserved c =
    let r = c.loop-rest.rest.now in
    let other = ap (λ w. bytes_eq w (codes "end")) (sym c.before-line.ensures) ∙ sym c.ends_job.ensures ∙ c.if-ends_job.false in
    subst (Scanned c.args.bytes.now) (sym c.after-rest.ensures) (scan_on c.args.bytes.now r c.loop-rest.invariant (λ e. absurd (omega (arith, ap length c.before-line.ensures, e))) other)

pub returns-clause-cut : goal.returns-clause-cut
returns-clause-cut c =
    let r = c.loop-rest.rest.now in
    let z = nil r (none_left (length r) c.is_empty.result c.is_empty.ensures c.loop-rest-test.false) in
    scan_none c.args.bytes.now r c.loop-rest.invariant (ap (λ t. length (upto 10 t)) z ∙ sym (ap length z))
