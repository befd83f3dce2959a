use Rattle.s390x_emit_rows.proofs.Encoding.{follows, encoded, two_encode}
use Rattle.s390x_emit_rows.proofs.codes.selected_code.Goals as goal

pub returns-then-valid : goal.returns-then-valid
returns-then-valid c = encoded _ _ _ _ c.enc_rie_f.result c.enc_rie_f.ensures c.if-valid.true (two_encode c.args.r1 c.args.r2 (follows _ _ c.requires c.if-valid.true))
