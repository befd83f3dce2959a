use Rattle.std.proofs.Common.{string_bytes}
use Rattle.s390x_binary_tool.proofs.Answering.{list_text}
use Rattle.s390x_binary_tool.proofs.list.list_of_image.Goals as goal

pub returns-in-Ok : goal.returns-in-Ok
returns-in-Ok c =
    list_text c.args.base c.args.job.now c.args.code.now c.args.image.now.bytes.items (string_bytes c.in-Ok.text) _ _ c.requires.code c.requires.linked
    c.in-Ok.ensures c.with_text.ensures.status c.with_text.ensures.text
