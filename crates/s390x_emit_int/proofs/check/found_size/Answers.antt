use Rattle.std.proofs.Common.{ap, sym, ◌∙◌, length}
use Rattle.s390x_emit_int.proofs.Runs.{length-bytes}
use Rattle.s390x_emit_int.proofs.Single.{ok_code, err_code}
use Rattle.s390x_emit_int.proofs.check.found_size.Goals as goal

pub returns-in-Ok-clause-value : goal.returns-in-Ok-clause-value
returns-in-Ok-clause-value c = λ x is valid.
    let own = ok_code x.operands_valid x.row c.in-Ok.code (sym c.in-Ok.is ∙ is) in
    ap length (c.bytes.ensures.bytes ∙ own.1) ∙ length-bytes x.row

pub returns-in-Err-clause-value : goal.returns-in-Err-clause-value
returns-in-Err-clause-value c = λ x is valid.
    let own = err_code x.operands_valid x.row c.in-Err.field-0 (sym c.in-Err.is ∙ is) in
    let invalid = own.0 in
    absurd (cc)
