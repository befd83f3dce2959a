use Rattle.std.proofs.Common.{sym, ◌∙◌}
use Rattle.s390x_emit_vec.proofs.Encoding.{encoded, vector_encodes}
use Rattle.s390x_emit_vec.proofs.codes.bit_mask.Goals as goal

pub returns-then-valid : goal.returns-then-valid
returns-then-valid c = let v = sym c.vector-valid.ensures ∙ c.if-valid.true in encoded _ _ _ _ c.enc_vri_b.result c.enc_vri_b.ensures v (vector_encodes c.args.v1 v)
