use Rattle.s390x_job.specs.Jobs.{lines_text}
use Rattle.s390x_machine.specs.State.{state_of}
use Rattle.s390x_execution.specs.Text.{content_lines, execution_end_line, status_lines, went_line}
use Rattle.s390x_execution.proofs.Reporting.{four_parts}
use Rattle.s390x_execution.proofs.report.text_of_execution.Goals as goal

pub returns : goal.returns
returns g c =
    let held = g.M.Memory.held c.args.memory.now in
    let byte = g.M.Memory.byte c.args.memory.now in
    let t = state_of c.args.machine.now held byte in
    four_parts (went_line c.args.execution.now.went) (execution_end_line c.args.located.base c.args.located.code.now c.args.execution.now.end) (status_lines t) (lines_text (content_lines c.args.regions.now t))
    _ _ _ _ _ c.new-out.ensures.bytes c.in_ok-put_went.ensures c.in_ok-put_end.ensures (c.in_ok-put_status.ensures held byte) c.in_ok-put_contents.ensures
