use Rattle.std.proofs.Common.{subst, sym}
use Rattle.s390x_job_bundle.specs.Text.{AreFunctionsOf}
use Rattle.s390x_job_bundle.proofs.find.find_functions.Goals as goal

pub returns-in-None : goal.returns-in-None
returns-in-None c =
    let t = rw c.in-None.is at c.in_ok-take_functions.ensures in
    subst (AreFunctionsOf c.args.bytes.now) (sym t.taken) t.are
