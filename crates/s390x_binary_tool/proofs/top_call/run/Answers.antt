use Rattle.s390x_binary_tool.proofs.Completing.{completed}
use Rattle.s390x_binary_tool.proofs.Replying.{always_read_fault, always_usage, always_write_fault, done, read_fault_of, too_long_of, usage_of, write_fault_of}
use Rattle.s390x_binary_tool.proofs.top_call.run.Goals as goal

pub returns-clause-usage : goal.returns-clause-usage
returns-clause-usage g c = usage_of _ _ _ _ _ _ _ _ c.reply_to-reply.ensures c.deliver.ensures

pub returns-clause-always_usage : goal.returns-clause-always_usage
returns-clause-always_usage g c = always_usage _ _ _ _ _ _ _ _ c.reply_to-reply.ensures c.deliver.ensures

pub returns-clause-read_fault : goal.returns-clause-read_fault
returns-clause-read_fault g c = read_fault_of _ _ _ _ _ _ _ _ c.reply_to-reply.ensures c.deliver.ensures

pub returns-clause-always_read_fault : goal.returns-clause-always_read_fault
returns-clause-always_read_fault g c = always_read_fault _ _ _ _ _ _ _ _ c.reply_to-reply.ensures c.deliver.ensures

pub returns-clause-too_long : goal.returns-clause-too_long
returns-clause-too_long g c = too_long_of _ _ _ _ _ _ _ _ c.reply_to-reply.ensures c.deliver.ensures

pub returns-clause-write_fault : goal.returns-clause-write_fault
returns-clause-write_fault g c = write_fault_of _ _ _ _ _ _ _ _ c.reply_to-reply.ensures c.deliver.ensures

pub returns-clause-ok : goal.returns-clause-ok
returns-clause-ok g c = done _ _ _ _ _ _ _ _ c.reply_to-reply.ensures c.deliver.ensures

pub returns-clause-always_write_fault : goal.returns-clause-always_write_fault
returns-clause-always_write_fault g c = always_write_fault _ _ _ _ _ _ _ c.deliver.ensures

pub returns-clause-complete : goal.returns-clause-complete
returns-clause-complete g c = completed _ _ _ _ _ _ _ _ c.reply_to-reply.ensures c.deliver.ensures
