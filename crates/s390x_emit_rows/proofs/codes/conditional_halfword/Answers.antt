use Rattle.s390x_emit_rows.proofs.Encoding.{follows, encoded, one_general}
use Rattle.s390x_emit_rows.proofs.codes.conditional_halfword.Goals as goal

pub returns-then-valid : goal.returns-then-valid
returns-then-valid c = encoded _ _ _ _ c.enc_rie_g.result c.enc_rie_g.ensures c.if-valid.true (one_general c.args.r1 (follows _ _ c.requires c.if-valid.true))
