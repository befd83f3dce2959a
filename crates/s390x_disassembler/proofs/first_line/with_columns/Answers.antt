use Rattle.std.proofs.Common.{◌∙◌}
use Rattle.s390x_disassembler.proofs.Columns.{columns_known, kept_known}
use Rattle.s390x_disassembler.proofs.first_line.with_columns.Goals as goal

pub returns-in-Some-clause-complete : goal.returns-in-Some-clause-complete
returns-in-Some-clause-complete c = λ u rest hu f.
    let k = columns_known c.args.address c.args.text.now c.args.rest.now c.word.result.now c.in_ok-bytes.bytes.items c.as_bytes.result.now c.found_in-found.result c.ranges.address.fits c.requires c.word.ensures c.in_ok-bytes.ensures
    (rw c.deref.ensures.value at c.found_in-found.ensures) (c.as_bytes.ensures.value ∙ (rw c.deref-2.ensures.value at c.in_ok-line.ensures)) u rest hu f in
    kept_known c.unit_with_rest.result (λ p. p.0.items) (λ p. p.1.now) c.args.text.now c.as_bytes.result.now c.in_ok-bytes.bytes.items c.in-Some.more.now u rest c.unit_with_rest.ensures c.in-Some.ensures f.unit k

pub returns-clause-complete : goal.returns-clause-complete
returns-clause-complete c = λ u rest hu f.
    let k = columns_known c.args.address c.args.text.now c.args.rest.now c.word.result.now c.in_ok-bytes.bytes.items c.as_bytes.result.now c.found_in-found.result c.ranges.address.fits c.requires c.word.ensures c.in_ok-bytes.ensures
    (rw c.deref.ensures.value at c.found_in-found.ensures) (c.as_bytes.ensures.value ∙ (rw c.deref-2.ensures.value at c.in_ok-line.ensures)) u rest hu f in
    c.in-None.ensures rest k.text_is
