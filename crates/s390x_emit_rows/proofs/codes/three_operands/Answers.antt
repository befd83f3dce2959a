use Rattle.s390x_emit_rows.proofs.Encoding.{encoded_where, all_three}
use Rattle.s390x_emit_rows.proofs.codes.three_operands.Goals as goal

pub returns : goal.returns
returns c = encoded_where _ _ _ _ c.enc_rrf_ab.result c.enc_rrf_ab.ensures (all_three _ _ _ _ _ _ c.reveal_number_range.ensures c.reveal_number_range-2.ensures c.reveal_number_range-3.ensures)
