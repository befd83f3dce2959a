use Rattle.std.proofs.Common.{sym, ◌∙◌}
use Rattle.s390x_emit_vec.proofs.Encoding.{encoded, four_encode}
use Rattle.s390x_emit_vec.proofs.codes.evaluated_vectors.Goals as goal

pub returns-then-valid : goal.returns-then-valid
returns-then-valid c = let v = sym c.four_valid-valid.ensures ∙ c.if-valid.true in encoded _ _ _ _ c.enc_vri_k.result c.enc_vri_k.ensures v (four_encode c.args.v1 c.args.v2 c.args.v3 c.args.v4 v)
