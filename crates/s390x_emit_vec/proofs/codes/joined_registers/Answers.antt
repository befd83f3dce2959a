use Rattle.std.proofs.Common.{sym, ◌∙◌}
use Rattle.s390x_emit_vec.proofs.Encoding.{encoded, join_encodes}
use Rattle.s390x_emit_vec.proofs.codes.joined_registers.Goals as goal

pub returns-then-valid : goal.returns-then-valid
returns-then-valid c = let v = sym c.join_valid-valid.ensures ∙ c.if-valid.true in encoded _ _ _ _ c.enc_vrr_f.result c.enc_vrr_f.ensures v (join_encodes c.args.v1 c.args.r2 c.args.r3 v)
