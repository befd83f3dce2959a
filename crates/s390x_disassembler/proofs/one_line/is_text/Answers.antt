use Rattle.std.proofs.Common.{length, sym, ap, ◌∙◌, arith}
use Rattle.std.specs.Str.{bytes_eq}
use Rattle.s390x_disassembler.proofs.BareLine.{same_text, other_text}
use Rattle.s390x_disassembler.proofs.one_line.is_text.Goals as goal

pub returns-clause-same : goal.returns-clause-same
returns-clause-same c = λ e. same_text c.args.line.now c.args.text.now.items (ap (λ t. bytes_eq c.args.line.now t) (sym c.as_slice.ensures.value) ∙ sym c.eq.ensures ∙ e)

pub returns-clause-other : goal.returns-clause-other
returns-clause-other c = λ e. other_text c.args.line.now c.args.text.now.items (ap (λ t. bytes_eq c.args.line.now t) (sym c.as_slice.ensures.value) ∙ sym c.eq.ensures ∙ e)

pub returns-clause-room : goal.returns-clause-room
returns-clause-room c = omega (arith, c.as_slice.ensures.fits, ap length c.as_slice.ensures.value)
