use Rattle.std.proofs.Common.{subst}
use Rattle.std.specs.Cow.{cow_slice_items}
use Rattle.s390x_binary_tool.specs.Disassemble.{IsDisassembleReply}
use Rattle.s390x_binary_tool.proofs.Answering.{disassemble_answer}
use Rattle.s390x_binary_tool.proofs.disassemble.disassemble.Goals as goal

pub returns-in-Ok-Ok : goal.returns-in-Ok-Ok
returns-in-Ok-Ok c =
    let s = c.disassembly.result.status in
    let text = cow_slice_items c.disassembly.result.text in
    disassemble_answer c.args.base c.args.input.now c.in-Ok-Ok.code.items s text (rw c.in-Ok-Ok.field-0-is at c.in-Ok-Ok.ensures.lines)
    (subst (λ code. IsDisassembleReply c.args.base code s text) c.deref.ensures.value c.disassembly.ensures)
