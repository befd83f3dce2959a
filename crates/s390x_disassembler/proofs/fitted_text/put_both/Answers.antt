use Rattle.s390x_disassembler.proofs.Fitting.{both, byte_then}
use Rattle.s390x_disassembler.proofs.fitted_text.put_both.Goals as goal

pub returns : goal.returns
returns c = byte_then _ _ _ _ _ c.put_byte.ensures (both _ _ _ _ _ c.put_register.ensures (byte_then _ _ _ _ _ c.put_byte-2.ensures (both _ _ _ _ _ c.put_register-2.ensures c.put_byte-3.ensures)))
