use Rattle.s390x_machine.proofs.Helpers.{helpers_keep}
use Rattle.s390x_machine.proofs.law.helpers_keep_the_address.Goals as goal

pub returns : goal.returns
returns c = helpers_keep
