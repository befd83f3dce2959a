use Rattle.std.proofs.Common.{◌≡◌, arith}
use Rattle.s390x_calls.proofs.Ending.{on_text}
use Rattle.s390x_calls.specs.Put.{NoEntryIsWritten}
use Rattle.s390x_job_bundle.specs.Text.{AreFunctionsOf}
use Rattle.s390x_c.specs.Bundle.{BundlesFunctionsTo, IsBundleSyntax}
use Rattle.s390x_c.proofs.bundle.bundle_status.Goals as goal

pub returns-in-Ok : goal.returns-in-Ok
returns-in-Ok c =
    on_text c.args.input.now (AreFunctionsOf c.args.input.now) (IsBundleSyntax c.args.input.now c.image_of_functions.new.reason)
    (NoEntryIsWritten c.args.out.now c.image_of_functions.new.out c.args.count.now c.image_of_functions.new.count)
    (c.image_of_functions.new.reason ≡ c.args.reason.now)
    (BundlesFunctionsTo c.args.base c.args.out.now c.image_of_functions.new.out c.args.count.now c.image_of_functions.new.count c.args.reason.now c.image_of_functions.new.reason)
    c.in-Ok.functions.items c.image_of_functions.result (omega arith) c.in-Ok.ensures.functions (λ e. e) (λ e. e) (λ e. e) c.image_of_functions.ensures
