use Rattle.s390x_base.specs.Regs.{number_of}
use Rattle.s390x_format.specs.Formats.{length_of}
use Rattle.s390x_typed_steps.specs.VectorInstruction.{is_vector}
use Rattle.std.proofs.Common.{◌&&◌}
use Rattle.s390x_emit_int.proofs.Composing.{passed_at, valid_of}
use Rattle.s390x_emit_int.proofs.composite.emit_reversal.Goals as goal

pub returns-in-2-clause-only_memory : goal.returns-in-2-clause-only_memory
unfolding length_of
returns-in-2-clause-only_memory c = λ put none.
    let valid = is_vector c.args.rd.now && is_vector c.args.rn.now in
    let p = passed_at c.args.sink.now c.args.count 2 (number_of c.args.rd.now) (number_of c.args.rn.now) valid c.in-2.is put none in
    c.exchange_doublewords.ensures.only_memory p.0 (valid_of valid p.1)

pub returns-in-4-clause-only_memory : goal.returns-in-4-clause-only_memory
unfolding length_of
returns-in-4-clause-only_memory c = λ put none.
    let valid = is_vector c.args.rd.now && is_vector c.args.rn.now in
    let p = passed_at c.args.sink.now c.args.count 4 (number_of c.args.rd.now) (number_of c.args.rn.now) valid c.in-4.is put none in
    c.reverse_words.ensures.only_memory p.0 (valid_of valid p.1)

pub returns-in-8-clause-only_memory : goal.returns-in-8-clause-only_memory
unfolding length_of
returns-in-8-clause-only_memory c = λ put none.
    let valid = is_vector c.args.rd.now && is_vector c.args.rn.now in
    let p = passed_at c.args.sink.now c.args.count 8 (number_of c.args.rd.now) (number_of c.args.rn.now) valid c.in-8.is put none in
    c.reverse_halfwords.ensures.only_memory p.0 (valid_of valid p.1)

pub returns-in-16-clause-only_memory : goal.returns-in-16-clause-only_memory
unfolding length_of
returns-in-16-clause-only_memory c = λ put none.
    let valid = is_vector c.args.rd.now && is_vector c.args.rn.now in
    let p = passed_at c.args.sink.now c.args.count 16 (number_of c.args.rd.now) (number_of c.args.rn.now) valid c.in-16.is put none in
    c.reverse_bytes.ensures.only_memory p.0 (valid_of valid p.1)
