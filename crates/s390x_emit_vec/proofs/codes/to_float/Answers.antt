use Rattle.s390x_emit_vec.proofs.Encoding.{encoded, to_float_encodes}
use Rattle.s390x_emit_vec.proofs.codes.to_float.Goals as goal

pub returns-then-valid : goal.returns-then-valid
returns-then-valid c = let v = c.if-valid.true in encoded _ _ _ _ c.enc_rre.result c.enc_rre.ensures v (to_float_encodes c.args.v1 c.args.r2 (c.requires.real v) c.requires.low)
