use Rattle.std.proofs.Common.{sym, subst, ◌∙◌}
use Rattle.s390x_disassembler.specs.Assembly.{IsInstructionLine}
use Rattle.s390x_disassembler.proofs.OneLine.{bytes_told}
use Rattle.s390x_disassembler.proofs.one_line.short_line.Goals as goal

pub returns-then-is_code-clause-code : goal.returns-then-is_code-clause-code
returns-then-is_code-clause-code c = subst (λ w. IsInstructionLine c.args.address c.args.line.now w) c.deref.ensures.0 (c.is_code.ensures.code c.if-is_code.true)

pub returns-then-is_code-clause-one : goal.returns-then-is_code-clause-one
returns-then-is_code-clause-one c = λ u f. bytes_told c.args.address c.args.line.now c.instruction_bytes-bytes.result.items u c.instruction_bytes-bytes.ensures f

pub returns-else-is_code-clause-none : goal.returns-else-is_code-clause-none
returns-else-is_code-clause-none c = λ u f.
    c.is_code.ensures.none c.if-is_code.false (subst (λ w. IsInstructionLine c.args.address c.args.line.now w) (sym (c.deref.ensures.0 ∙ bytes_told c.args.address c.args.line.now c.instruction_bytes-bytes.result.items u c.instruction_bytes-bytes.ensures f)) f)
