use Rattle.s390x_base.specs.Registers.{general, vector}
use Rattle.s390x_job.specs.Jobs.{start_lines}
use Rattle.s390x_job.proofs.Texts.{on_ok, two_texts}
use Rattle.s390x_job.proofs.jobs.put_registers.Goals as goal

pub returns : goal.returns
returns c =
    let r = c.args.registers.now in
    on_ok c.put_vectors.result (λ e. two_texts (start_lines general 0 r.general) (start_lines vector 0 r.vector) _ _ _ c.in_ok-put_generals.ensures e) c.put_vectors.ensures
