use Rattle.std.proofs.Common.{string_bytes}
use Rattle.s390x_binary_tool.proofs.Answering.{disassemble_text}
use Rattle.s390x_binary_tool.proofs.disassemble.disassembly.Goals as goal

pub returns-in-Ok : goal.returns-in-Ok
returns-in-Ok c =
    disassemble_text c.args.base c.args.code.now (string_bytes c.in-Ok.text) _ _ c.in-Ok.ensures.lines c.in-Ok.ensures.only c.with_text.ensures.status c.with_text.ensures.text
