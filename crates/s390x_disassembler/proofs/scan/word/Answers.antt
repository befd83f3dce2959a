use Rattle.s390x_disassembler.proofs.Words.{cut_blank}
use Rattle.s390x_disassembler.proofs.scan.word.Goals as goal

pub returns : goal.returns
returns c = λ xs p h e. cut_blank c.args.text.now xs p c.position.result (record { inside = c.position.ensures.inside; none = c.position.ensures.none; there = c.position.ensures.there }) h e
