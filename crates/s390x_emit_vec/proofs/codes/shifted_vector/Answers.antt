use Rattle.std.proofs.Common.{sym, ◌∙◌}
use Rattle.s390x_emit_vec.proofs.Encoding.{encoded, shift_encodes}
use Rattle.s390x_emit_vec.proofs.codes.shifted_vector.Goals as goal

pub returns-then-valid : goal.returns-then-valid
returns-then-valid c = let v = sym c.shift_valid-valid.ensures ∙ c.if-valid.true in encoded _ _ _ _ c.enc_vrs_a.result c.enc_vrs_a.ensures v (shift_encodes c.args.v1 c.args.v3 c.args.register v)
