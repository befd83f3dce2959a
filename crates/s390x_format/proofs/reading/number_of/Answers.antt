use Rattle.std.proofs.Common.{◌≡◌, sym, ◌∙◌, arith}
use Rattle.s390x_format.proofs.Bytes.{be_bound, be_step, be_done, be_number_lt}
use Rattle.s390x_format.specs.Reading.{be_number}
use Rattle.s390x_format.proofs.Finding.{be_bytes-be_number}
use Rattle.s390x_format.proofs.reading.number_of.Goals as goal

pub overflow_mul-n : goal.overflow_mul-n
overflow_mul-n c = omega (arith, be_bound c.args.bytes.now c.loop-b.b-index c.loop-b.n c.requires (λ i. omega (arith, c.type_inv.bytes i)) c.loop-b-test.true c.loop-b.invariant)

pub overflow_add-n : goal.overflow_add-n
overflow_add-n c = omega (arith, be_bound c.args.bytes.now c.loop-b.b-index c.loop-b.n c.requires (λ i. omega (arith, c.type_inv.bytes i)) c.loop-b-test.true c.loop-b.invariant)

pub loop-b-preserved : goal.loop-b-preserved
loop-b-preserved c = sym (be_step c.args.bytes.now c.loop-b.b-index c.loop-b.n c.loop-b-test.true) ∙ c.loop-b.invariant

pub returns-clause-value : goal.returns-clause-value
returns-clause-value c = be_done c.args.bytes.now c.loop-b.b-index c.loop-b.n _ c.loop-b-test.false c.loop-b.invariant

pub returns-clause-round_trip : goal.returns-clause-round_trip
returns-clause-round_trip c =
    let e : c.loop-b.n ≡ be_number c.args.bytes.now = be_done c.args.bytes.now c.loop-b.b-index c.loop-b.n _ c.loop-b-test.false c.loop-b.invariant in
    rw e (be_bytes-be_number c.args.bytes.now (λ i. omega (arith, c.type_inv.bytes i)))

pub returns-clause-below : goal.returns-clause-below
returns-clause-below c =
    let e : c.loop-b.n ≡ be_number c.args.bytes.now = be_done c.args.bytes.now c.loop-b.b-index c.loop-b.n _ c.loop-b-test.false c.loop-b.invariant in
    rw e (be_number_lt c.args.bytes.now (λ i. omega (arith, c.type_inv.bytes i)))
