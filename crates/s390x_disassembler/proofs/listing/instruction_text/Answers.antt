use Rattle.std.proofs.Common.{◌≡◌, string_bytes}
use Rattle.std.proofs.lemmas.Result.{IfOk-weaker}
use Rattle.s390x_disassembler.specs.Disassembly.{IsInstruction}
use Rattle.s390x_disassembler.specs.Text.{found_text}
use Rattle.s390x_disassembler.proofs.listing.instruction_text.Goals as goal

pub returns : goal.returns
returns c =
    IfOk-weaker c.found_string.result (λ t. string_bytes t ≡ found_text c.args.address c.args.bytes.now c.found_in-found.result) (λ t. IsInstruction c.args.address c.args.bytes.now (string_bytes t))
    (λ t e. record { found = c.found_in-found.result; is_found = c.found_in-found.ensures; text_is = e }) c.found_string.ensures
