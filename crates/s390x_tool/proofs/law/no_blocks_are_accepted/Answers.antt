use Rattle.s390x_tool.proofs.Planning.{no_blocks_accepted}
use Rattle.s390x_tool.proofs.law.no_blocks_are_accepted.Goals as goal

pub returns : goal.returns
returns c = no_blocks_accepted
