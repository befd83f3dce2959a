use Rattle.std.proofs.Common.{◌≡◌, Some, ap, sym, ◌∙◌, refl}
use Rattle.s390x_format.specs.declared.reading.Reading.{Reading}
use Rattle.s390x_format.specs.declared.row.Row.{Row}
use Rattle.s390x_format.specs.declared.fields.Fields.{Fields}
use Rattle.s390x_format.specs.declared.decoder.Decoded.{Decoded}
use Rattle.s390x_format.specs.Reading.{reading_in}
use Rattle.s390x_format.specs.View.{fields_of}
use Rattle.s390x_format.proofs.decoder.located_row.Goals as goal

made : (o : Row) (f : Fields) (r : Decoded) → o ≡ r.row → f ≡ r.fields → ◌≡◌ {A = Decoded} (record { row = o; fields = f }) r
made o f r p q = rw (p, q) refl

pub returns-in-Some-clause-complete : goal.returns-in-Some-clause-complete
returns-in-Some-clause-complete c r h =
    let x : Reading = record { row = r.row; slots = h.slots } in
    let e = c.requires.complete x h.reading in
    let is = ap reading_in c.in-Some.is in
    let same : c.in-Some.placed.reading ≡ x = cc (e, is) in
    let view : c.view.result ≡ r.fields = c.view.ensures ∙ ap (λ (d : Reading). fields_of d.row.format d.slots) same ∙ sym h.fields in
    ap Some (made c.in-Some.placed.reading.row c.view.result r (ap (λ (d : Reading). d.row) same) view)

pub returns-in-None-clause-complete : goal.returns-in-None-clause-complete
returns-in-None-clause-complete c r h =
    let e = c.requires.complete (record { row = r.row; slots = h.slots }) h.reading in
    let is = ap reading_in c.in-None.is in cc (e, is)
