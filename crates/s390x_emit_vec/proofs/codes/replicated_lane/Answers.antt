use Rattle.std.proofs.Common.{sym, ◌∙◌}
use Rattle.s390x_emit_vec.proofs.Encoding.{encoded, two_encode}
use Rattle.s390x_emit_vec.proofs.codes.replicated_lane.Goals as goal

pub returns-then-valid : goal.returns-then-valid
returns-then-valid c = let v = sym c.two_valid-valid.ensures ∙ c.if-valid.true in encoded _ _ _ _ c.enc_vri_c.result c.enc_vri_c.ensures v (two_encode c.args.v1 c.args.v3 v)
