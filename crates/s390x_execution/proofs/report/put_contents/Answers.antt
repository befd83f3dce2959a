use Rattle.std.proofs.Common.{◌≡◌, length, string_bytes}
use Rattle.s390x_job.proofs.Texts.{on_ok}
use Rattle.s390x_execution.proofs.Reporting.{held_registers}
use Rattle.s390x_execution.proofs.report.put_contents.Goals as goal

pub returns : goal.returns
returns g c =
    let held = g.M.Memory.held c.args.memory.now in
    let byte = g.M.Memory.byte c.args.memory.now in
    let general : length c.args.machine.now.regs ≡ 16 = search in
    let vector : length c.args.machine.now.vregs ≡ 32 = search in
    on_ok c.put_regions.result (λ e. held_registers c.args.machine.now held byte c.args.regions.now (string_bytes c.args.out.now) (string_bytes c.put_registers.new.out) (string_bytes c.put_regions.new.out) general vector c.in_ok-put_registers.ensures e) c.put_regions.ensures
