use Rattle.s390x_disassembler.proofs.BareLine.{instruction_read}
use Rattle.s390x_disassembler.proofs.candidate.instruction_bytes.Goals as goal

pub returns : goal.returns
returns c = instruction_read c.args.address c.args.text.now c.word-mnemonic.result.now c.text_behind-rest.result.now c.named_bytes.result.items c.word-mnemonic.ensures c.text_behind-rest.ensures c.named_bytes.ensures
