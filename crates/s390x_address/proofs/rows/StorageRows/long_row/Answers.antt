use Rattle.std.proofs.Common.{◌∙◌, ap, sym, ◌&&◌}
use Rattle.std.proofs.lemmas.Bool.{and_parts, and_from}
use Rattle.s390x_enc.specs.Operands.{is_general_class, may_stand_first}
use Rattle.s390x_address.specs.Rows.{rows_encode, rows_take_general}
use Rattle.s390x_address.proofs.rows.StorageRows.long_row.Goals as goal

pub returns-in-OneRegister-clause-encodes : goal.returns-in-OneRegister-clause-encodes
returns-in-OneRegister-clause-encodes c = λ h k.
    let i = c.in-OneRegister in
    let p = and_parts (is_general_class i.register && rows_take_general i.rx) (rows_take_general i.rxy) (sym (ap rows_encode i.is) ∙ h) in
    let q = and_parts (is_general_class i.register) (rows_take_general i.rx) p.0 in
    c.rxy_row.ensures.encodes (and_from (is_general_class i.register) (rows_take_general i.rxy) q.0 p.1) k

pub returns-in-Float-clause-encodes : goal.returns-in-Float-clause-encodes
returns-in-Float-clause-encodes c = λ h k.
    let i = c.in-Float in
    let p = and_parts (may_stand_first i.rx i.register) (may_stand_first i.rxy i.register) (sym (ap rows_encode i.is) ∙ h) in
    c.float_rxy_row.ensures.encodes p.1 k
