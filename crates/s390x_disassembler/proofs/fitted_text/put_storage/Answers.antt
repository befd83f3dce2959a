use Rattle.std.proofs.Common.{◌≡◌, rules, w64, to_z, of_z, subst, ◌++◌}
use Rattle.std.specs.Fmt.{signed_decimal}
use Rattle.s390x_disassembler.specs.Text.{registers_text}
use Rattle.s390x_disassembler.specs.Fitted.{Adds}
use Rattle.s390x_disassembler.proofs.Fitting.{both}
use Rattle.s390x_disassembler.proofs.fitted_text.put_storage.Goals as goal

pub returns : goal.returns
returns c =
    let same : to_z w64 (of_z w64 c.from.result) ≡ c.args.disp = search rules in
    subst (λ z. Adds c.args.out.now.items (signed_decimal z ++ registers_text c.args.index c.args.base) c.put_registers.new.out.items) same
    (both _ _ _ _ _ c.put_integer.ensures c.put_registers.ensures)
