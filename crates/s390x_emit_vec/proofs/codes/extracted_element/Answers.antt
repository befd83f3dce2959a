use Rattle.s390x_emit_vec.proofs.Encoding.{encoded, extract_encodes}
use Rattle.s390x_emit_vec.proofs.codes.extracted_element.Goals as goal

pub returns-then-valid : goal.returns-then-valid
returns-then-valid c = let v = c.if-valid.true in encoded _ _ _ _ c.enc_vrs_c.result c.enc_vrs_c.ensures v (extract_encodes c.args.r1 c.args.v3 c.args.base (c.requires.real v))
