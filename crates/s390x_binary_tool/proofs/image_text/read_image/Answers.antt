use Rattle.std.proofs.Common.{◌≡◌, ◌+◌, ◌++◌, length, sym, ap, ◌∙◌, subst, arith}
use Rattle.hex.specs.Hex.{decode_of}
use Rattle.s390x_job_fields.specs.Marks.{past, upto}
use Rattle.s390x_job.proofs.Places.{none_left, some_left}
use Rattle.s390x_job.proofs.Whole.{shorter}
use Rattle.s390x_binary_tool.proofs.HexLines.{Read, read_bad, read_end, read_more, read_unended}
use Rattle.s390x_binary_tool.proofs.image_text.read_image.Goals as goal

pub returns-then-line-rest-clause-lines : goal.returns-then-line-rest-clause-lines
returns-then-line-rest-clause-lines c =
    let r = c.lines.rest.now in
    let last : length (upto 10 r) ≡ length r = omega (arith, ap length c.before-line.ensures) in
    read_unended c.args.text.now r c.lines.image.items c.lines.number c.lines.invariant.read last (some_left (length r) c.is_empty.result c.is_empty.ensures c.lines-test.true)

pub returns-in-Err : goal.returns-in-Err
returns-in-Err c =
    let r = c.lines.rest.now in
    let wrong = rw c.in-Err.is at c.in_ok-bytes.ensures in
    record {
      lines = read_bad c.args.text.now r c.lines.image.items c.lines.number c.in-Err.field-0 c.lines.invariant.read (λ e. absurd (omega (arith, ap length c.before-line.ensures, e))) (ap decode_of (sym c.before-line.ensures) ∙ wrong);
      few = omega (arith, c.lines.invariant.few);
    }

pub lines-smaller : goal.lines-smaller
lines-smaller c =
    let r = c.lines.rest.now in
    let h = shorter 10 r (some_left (length r) c.is_empty.result c.is_empty.ensures c.lines-test.true) in
    omega (arith, h, ap length c.after-rest.ensures)

pub lines-preserved : goal.lines-preserved
lines-preserved c =
    let r = c.lines.rest.now in
    let h = shorter 10 r (some_left (length r) c.is_empty.result c.is_empty.ensures c.lines-test.true) in
    let decoded = rw c.in-Ok.is at c.in_ok-bytes.ensures in
    let image = c.lines.image.items in
    let bytes = c.in-Ok.bytes.items in
    let items = c.in_ok-extend_from_slice-in-Ok.ensures.items ∙ ap (λ b. image ++ b) c.deref.ensures.value in
    record {
      read = subst (λ t. Read c.args.text.now t c.extend_from_slice.new.self.items (c.lines.number + 1)) (sym c.after-rest.ensures)
          (subst (λ b. Read c.args.text.now (past 10 r) b (c.lines.number + 1)) (sym items)
          (read_more c.args.text.now r image bytes c.lines.number c.lines.invariant.read (λ e. absurd (omega (arith, ap length c.before-line.ensures, e))) (ap decode_of (sym c.before-line.ensures) ∙ decoded)));
      few = omega (arith, c.lines.invariant.few, h, ap length c.after-rest.ensures);
    }

pub returns-clause-lines : goal.returns-clause-lines
returns-clause-lines c =
    let r = c.lines.rest.now in
    read_end c.args.text.now r c.lines.image.items c.lines.number c.lines.invariant.read (none_left (length r) c.is_empty.result c.is_empty.ensures c.lines-test.false)
