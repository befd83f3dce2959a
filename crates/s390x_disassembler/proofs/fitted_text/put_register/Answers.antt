use Rattle.s390x_disassembler.proofs.Fitting.{byte_then}
use Rattle.s390x_disassembler.proofs.fitted_text.put_register.Goals as goal

pub returns : goal.returns
returns c = byte_then _ _ _ _ _ c.put_byte.ensures (byte_then _ _ _ _ _ c.put_byte-2.ensures c.put_natural.ensures)
