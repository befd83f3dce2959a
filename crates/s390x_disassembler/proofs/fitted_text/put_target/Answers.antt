use Rattle.s390x_disassembler.proofs.Fitting.{both}
use Rattle.s390x_disassembler.proofs.fitted_text.put_target.Goals as goal

pub returns : goal.returns
returns c = both _ _ _ _ _ c.put.ensures c.put_digits.ensures
