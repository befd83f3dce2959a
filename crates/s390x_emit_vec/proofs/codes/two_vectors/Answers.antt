use Rattle.std.proofs.Common.{sym, ◌∙◌}
use Rattle.s390x_emit_vec.proofs.Encoding.{encoded, two_encode}
use Rattle.s390x_emit_vec.proofs.codes.two_vectors.Goals as goal

pub returns-then-valid : goal.returns-then-valid
returns-then-valid c = let v = sym c.two_valid-valid.ensures ∙ c.if-valid.true in encoded _ _ _ _ c.enc_vrr_a.result c.enc_vrr_a.ensures v (two_encode c.args.v1 c.args.v2 v)
