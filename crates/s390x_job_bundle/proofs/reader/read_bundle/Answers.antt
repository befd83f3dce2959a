use Rattle.std.proofs.Common.{subst, sym}
use Rattle.s390x_job_bundle.specs.Text.{AreFunctionsOf}
use Rattle.s390x_job_bundle.proofs.reader.read_bundle.Goals as goal

pub returns-in-Ok-clause-functions : goal.returns-in-Ok-clause-functions
returns-in-Ok-clause-functions c =
    let t = c.in-Ok.ensures.functions in
    subst (AreFunctionsOf c.args.bytes.now) (sym t.taken) t.are
