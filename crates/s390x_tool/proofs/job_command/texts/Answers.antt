use Rattle.s390x_tool.proofs.job_command.texts.Goals as goal

pub returns-in-Ok : goal.returns-in-Ok
returns-in-Ok c =
    let listed = rw c.deref.ensures.value at c.in-Ok.ensures in
    record { valid = c.requires.valid; told = listed.0; spelled = listed.1 }
