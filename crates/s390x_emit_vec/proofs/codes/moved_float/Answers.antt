use Rattle.std.proofs.Common.{sym, ◌∙◌}
use Rattle.s390x_emit_vec.proofs.Encoding.{encoded, floats_encode}
use Rattle.s390x_emit_vec.proofs.codes.moved_float.Goals as goal

pub returns-then-valid : goal.returns-then-valid
returns-then-valid c = let v = sym c.two_valid-valid.ensures ∙ c.if-valid.true in encoded _ _ _ _ c.enc_rr.result c.enc_rr.ensures v (floats_encode c.args.opcode c.args.v1 c.args.v2 c.requires.first c.requires.second c.requires.low v)
