use Rattle.std.proofs.Common.{◌∙◌, ap, sym}
use Rattle.std.proofs.lemmas.Bool.{and_parts}
use Rattle.s390x_enc.specs.Operands.{may_stand_first}
use Rattle.s390x_address.specs.Rows.{rows_encode}
use Rattle.s390x_address.proofs.rows.StorageRows.short_row.Goals as goal

pub returns-in-Float-clause-encodes : goal.returns-in-Float-clause-encodes
returns-in-Float-clause-encodes c = λ h k.
    let i = c.in-Float in
    let p = and_parts (may_stand_first i.rx i.register) (may_stand_first i.rxy i.register) (sym (ap rows_encode i.is) ∙ h) in
    c.float_rx_row.ensures.encodes p.0 k
