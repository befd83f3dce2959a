use Rattle.std.proofs.Common.{◌≡◌, ◌∷◌, [], length, sym, ap, ◌∙◌, subst, arith, length-append}
use Rattle.s390x_job_fields.specs.Marks.{upto}
use Rattle.s390x_job.specs.Grammar.{AtEnd}
use Rattle.s390x_job_lines.specs.Line.{line_of}
use Rattle.s390x_job.specs.Builds.{lines_at, place_at}
use Rattle.s390x_job.proofs.Whole.{Inv, accept, one_more_line, shorter, behind}
use Rattle.s390x_job.proofs.Above.{stuck_feed, stuck_end, stuck_text}
use Rattle.s390x_job.proofs.Places.{not_done, some_left, none_left}
use Rattle.s390x_job.proofs.lines.find_job.Goals as goal

pub returns-then-line-rest : goal.returns-then-line-rest
returns-then-line-rest c =
    let r = c.loop-rest.rest.now in
    let e : length (upto 10 r) ≡ length r = omega (arith, ap length c.before-line.ensures) in
    let p = some_left (length r) c.is_empty.result c.is_empty.ensures c.loop-rest-test.true in
    rw c.loop-rest.invariant.count (stuck_feed c.args.bytes.now (lines_at c.loop-rest.progress c.loop-rest.body) (place_at c.loop-rest.progress c.loop-rest.body) r c.loop-rest.invariant.inv p e)

pub returns-in-None : goal.returns-in-None
returns-in-None c =
    let r = c.loop-rest.rest.now in
    let g = rw c.in-None.is at c.in_ok-read_line.ensures in
    let p = some_left (length r) c.is_empty.result c.is_empty.ensures c.loop-rest-test.true in
    rw c.loop-rest.invariant.count (stuck_text c.args.bytes.now (lines_at c.loop-rest.progress c.loop-rest.body) (place_at c.loop-rest.progress c.loop-rest.body) r c.loop-rest.invariant.inv p (λ e. absurd (omega (arith, ap length c.before-line.ensures, e))) (λ l ok e. g l ok (e ∙ sym c.before-line.ensures)))

pub loop-rest-smaller : goal.loop-rest-smaller
loop-rest-smaller c =
    let r = c.loop-rest.rest.now in
    let h = shorter 10 r (some_left (length r) c.is_empty.result c.is_empty.ensures c.loop-rest-test.true) in
    omega (arith, h, ap length (behind c.loop-rest.rest.now c.tail-rest.result.now c.before-line.result.now c.tail-rest.ensures c.before-line.ensures))

pub loop-rest-preserved : goal.loop-rest-preserved
loop-rest-preserved c =
    let r = c.loop-rest.rest.now in
    let l = line_of c.before-line.result.now in
    let f = rw c.in-Some.is at c.in_ok-read_line.ensures in
    let g = f.2 in
    let h = shorter 10 r (some_left (length r) c.is_empty.result c.is_empty.ensures c.loop-rest-test.true) in
    let i = one_more_line c.args.bytes.now (lines_at c.loop-rest.progress c.loop-rest.body) (lines_at c.in-Some.p c.read_line.new.b) (place_at c.loop-rest.progress c.loop-rest.body) (place_at c.in-Some.p c.read_line.new.b) r l c.loop-rest.invariant.inv (λ e. absurd (omega (arith, ap length c.before-line.ensures, e))) f.0 (f.1 ∙ c.before-line.ensures) g.lines g.place in
    record {
      inv = rw (behind r c.tail-rest.result.now c.before-line.result.now c.tail-rest.ensures c.before-line.ensures) i;
      is_state = g.state;
      count = omega (arith, c.loop-rest.invariant.count, ap length g.lines, length-append (lines_at c.loop-rest.progress c.loop-rest.body) (l ∷ []));
      small = omega (arith, c.loop-rest.invariant.small, h, ap length (behind r c.tail-rest.result.now c.before-line.result.now c.tail-rest.ensures c.before-line.ensures));
    }

pub returns-in_default : goal.returns-in_default
returns-in_default c =
    rw c.loop-rest.invariant.count (stuck_end c.args.bytes.now (lines_at c.loop-rest.progress c.loop-rest.body) (place_at c.loop-rest.progress c.loop-rest.body) c.loop-rest.rest.now c.loop-rest.invariant.inv (none_left (length c.loop-rest.rest.now) c.is_empty.result c.is_empty.ensures c.loop-rest-test.false) (not_done c.loop-rest.progress c.loop-rest.body c.in_default.not-Done))

pub returns-in-Done : goal.returns-in-Done
returns-in-Done c =
    let i = rw c.in-Done.is at c.loop-rest.invariant.inv in
    accept c.args.bytes.now c.job_of.result c.loop-rest.rest.now (subst (λ ls. Inv c.args.bytes.now ls AtEnd c.loop-rest.rest.now) (sym c.job_of.ensures.lines) i) c.job_of.ensures.whole (none_left (length c.loop-rest.rest.now) c.is_empty.result c.is_empty.ensures c.loop-rest-test.false)
