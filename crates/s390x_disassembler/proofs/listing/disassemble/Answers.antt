use Rattle.std.proofs.Common.{arith, string_bytes}
use Rattle.std.proofs.lemmas.Result.{IfOk-weaker}
use Rattle.s390x_disassembler.specs.Disassembly.{IsDisassembly, IsOnlyCode}
use Rattle.s390x_disassembler.proofs.Distinct.{one_code}
use Rattle.s390x_disassembler.proofs.listing.disassemble.Goals as goal

pub returns-clause-only : goal.returns-clause-only
returns-clause-only c =
    IfOk-weaker c.listing_of_code.result (λ t. IsDisassembly c.args.base c.args.code.now (string_bytes t)) (λ t. IsOnlyCode c.args.base c.args.code.now (string_bytes t))
    (λ t d. λ other h e. one_code c.args.base other c.args.code.now (string_bytes t) h (λ i. omega (arith, c.type_inv.code i)) e d) c.listing_of_code.ensures
