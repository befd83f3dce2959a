use Rattle.s390x_page.proofs.Ends.{page_step}
use Rattle.s390x_page.proofs.stepping.s390x_page_step.Goals as goal

pub returns : goal.returns
returns c =
    page_step c.machine_of-machine.result c.step-end.new.self c.args.registers.now c.registers_after.result c.args.storage.now c.step-end.new.memory c.step-end.result c.number_of_end.result
    c.machine_of-machine.ensures.registers c.machine_of-machine.ensures.place c.registers_after.ensures.registers c.registers_after.ensures.place c.number_of_end.ensures c.step-end.ensures
