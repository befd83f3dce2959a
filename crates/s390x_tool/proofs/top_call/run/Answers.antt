use Rattle.s390x_tool.proofs.Accepting.{bundled_result}
use Rattle.s390x_tool.proofs.Completing.{completed, generated_result, simulated_result}
use Rattle.s390x_tool.proofs.Planning.{allocated_result}
use Rattle.s390x_tool.proofs.Replying.{done_result, usage_result}
use Rattle.s390x_tool.proofs.top_call.run.Goals as goal

pub returns-clause-always_usage : goal.returns-clause-always_usage
returns-clause-always_usage g c = usage_result _ _ _ _ _ _ _ _ c.reply_to-reply.ensures c.deliver.ensures

pub returns-clause-ok : goal.returns-clause-ok
returns-clause-ok g c = done_result _ _ _ _ _ _ _ _ c.reply_to-reply.ensures c.deliver.ensures

pub returns-clause-complete : goal.returns-clause-complete
returns-clause-complete g c = completed _ _ _ _ _ _ _ _ c.reply_to-reply.ensures c.deliver.ensures

pub returns-clause-generates : goal.returns-clause-generates
returns-clause-generates g c = generated_result _ _ _ _ _ _ _ _ c.reply_to-reply.ensures c.deliver.ensures

pub returns-clause-simulates : goal.returns-clause-simulates
returns-clause-simulates g c = simulated_result _ _ _ _ _ _ _ _ c.reply_to-reply.ensures c.deliver.ensures

pub returns-clause-bundles : goal.returns-clause-bundles
returns-clause-bundles g c = bundled_result _ _ _ _ _ _ _ _ c.reply_to-reply.ensures c.deliver.ensures

pub returns-clause-allocates : goal.returns-clause-allocates
returns-clause-allocates g c = allocated_result _ _ _ _ _ _ _ _ c.reply_to-reply.ensures c.deliver.ensures
