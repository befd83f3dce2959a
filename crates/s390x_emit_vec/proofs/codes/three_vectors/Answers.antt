use Rattle.std.proofs.Common.{sym, ◌∙◌}
use Rattle.s390x_emit_vec.proofs.Encoding.{encoded, three_encode}
use Rattle.s390x_emit_vec.proofs.codes.three_vectors.Goals as goal

pub returns-then-valid : goal.returns-then-valid
returns-then-valid c = let v = sym c.three_valid-valid.ensures ∙ c.if-valid.true in encoded _ _ _ _ c.enc_vrr_c.result c.enc_vrr_c.ensures v (three_encode c.args.v1 c.args.v2 c.args.v3 v)
