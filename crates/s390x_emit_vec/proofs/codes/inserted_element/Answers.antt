use Rattle.s390x_emit_vec.proofs.Encoding.{encoded, insert_encodes}
use Rattle.s390x_emit_vec.proofs.codes.inserted_element.Goals as goal

pub returns-then-valid : goal.returns-then-valid
returns-then-valid c = let v = c.if-valid.true in encoded _ _ _ _ c.enc_vrs_b.result c.enc_vrs_b.ensures v (insert_encodes c.args.v1 c.args.r3 c.args.base (c.requires.real v))
