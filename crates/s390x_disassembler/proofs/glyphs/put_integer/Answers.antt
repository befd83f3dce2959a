use Rattle.std.proofs.Common.{◌≡◌, rules, true, w64, to_z, of_z, subst, pos}
use Rattle.std.specs.Prelude.{unsigned_abs}
use lib.Signed.{lt_z}
use Rattle.s390x_disassembler.specs.Fitted.{Adds}
use Rattle.s390x_disassembler.proofs.Fitting.{byte_then}
use Rattle.s390x_disassembler.proofs.Digits.{negative}
use Rattle.s390x_disassembler.proofs.glyphs.put_integer.Goals as goal

pub returns-then-z-lt0 : goal.returns-then-z-lt0
returns-then-z-lt0 c =
    let same : to_z w64 (of_z w64 c.args.z) ≡ c.args.z = search rules in
    let value : c.unsigned_abs.result ≡ unsigned_abs c.args.z = search rules in
    subst (λ text. Adds c.args.out.now.items text c.put_digits.new.out.items) (negative c.args.z c.unsigned_abs.result (subst (λ z. lt_z z (pos 0) ≡ true) same c.if-z-lt0.true) value)
    (byte_then _ _ _ _ _ c.put_byte.ensures c.put_digits.ensures)
