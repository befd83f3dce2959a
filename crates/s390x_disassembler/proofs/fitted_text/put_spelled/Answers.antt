use Rattle.std.proofs.Common.{◌++◌, subst}
use Rattle.s390x_disassembler.specs.Forms.{operands_of}
use Rattle.s390x_disassembler.specs.Text.{operands_text, spelled_instruction}
use Rattle.s390x_disassembler.specs.Fitted.{Adds}
use Rattle.s390x_disassembler.proofs.Fitting.{both}
use Rattle.s390x_disassembler.proofs.fitted_text.put_spelled.Goals as goal

pub returns : goal.returns
unfolding spelled_instruction
returns c =
    let stem = c.args.spelling.0.now in
    let letters = c.letters-letters.result.now in
    let text = operands_text 32 c.args.address letters c.args.fields.now c.operands.result.now in
    subst (λ ls. Adds c.args.out.now.items (stem ++ (ls ++ operands_text 32 c.args.address ls c.args.fields.now (operands_of c.args.spelling.2))) c.put_operands.new.out.items) c.letters-letters.ensures
    (subst (λ os. Adds c.args.out.now.items (stem ++ (letters ++ operands_text 32 c.args.address letters c.args.fields.now os)) c.put_operands.new.out.items) c.operands.ensures
    (both c.args.out.now.items c.put.new.out.items c.put_operands.new.out.items stem (letters ++ text) c.put.ensures
    (both c.put.new.out.items c.put-2.new.out.items c.put_operands.new.out.items letters text c.put-2.ensures c.put_operands.ensures)))
