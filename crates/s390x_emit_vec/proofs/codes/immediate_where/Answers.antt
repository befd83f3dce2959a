use Rattle.s390x_emit_vec.proofs.Encoding.{encoded, vector_encodes}
use Rattle.s390x_emit_vec.proofs.codes.immediate_where.Goals as goal

pub returns-then-valid : goal.returns-then-valid
returns-then-valid c = let v = c.if-valid.true in encoded _ _ _ _ c.enc_vri_a.result c.enc_vri_a.ensures v (vector_encodes c.args.v1 (c.requires.real v))
