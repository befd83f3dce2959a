use Rattle.std.proofs.Common.{ap, ◌∙◌}
use Rattle.s390x_base.specs.Regs.{number_of}
use Rattle.s390x_typed_steps.specs.MachineInstruction.{rsy}
use Rattle.s390x_typed_steps.specs.SingleCode.{code_where}
use Rattle.s390x_emit_rows.proofs.Encoding.{follows, encoded, three_encode}
use Rattle.s390x_emit_rows.proofs.codes.shifted_code.Goals as goal

pub returns-then-valid : goal.returns-then-valid
returns-then-valid c =
    encoded _ _ _ _ c.enc_rsy.result c.enc_rsy.ensures c.if-valid.true (three_encode c.args.r1 c.args.r3 c.args.b2 (follows _ _ c.requires c.if-valid.true))
    ∙ ap (λ n. code_where c.args.valid (rsy c.args.opcode (number_of c.args.r1) (number_of c.args.r3) (number_of c.args.b2) n)) c.from.ensures
