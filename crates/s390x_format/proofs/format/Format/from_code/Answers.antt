use Rattle.std.proofs.Common.{◌≡◌, length, Some, ap, sym, ◌∙◌}
use Rattle.s390x_format.specs.Formats.{length_of}
use Rattle.s390x_format.specs.Reading.{be_number}
use Rattle.s390x_format.proofs.Codes.{code_known}
use Rattle.s390x_format.proofs.format.Format.from_code.Goals as goal

pub returns-then-bytes-length-clause-complete : goal.returns-then-bytes-length-clause-complete
returns-then-bytes-length-clause-complete g c s e =
    let k = code_known c.args.code.now g.Self.Format.kind_is (g.Self.Format.slots_of s) e in
    absurd (c.if-bytes-length.true (ap length c.bytes-bytes.ensures.bytes ∙ k.0 ∙ ap length_of (sym c.kind-kind.ensures) ∙ sym c.length.ensures))

pub returns-in-Some-clause-complete : goal.returns-in-Some-clause-complete
returns-in-Some-clause-complete g c s e =
    let k = code_known c.args.code.now g.Self.Format.kind_is (g.Self.Format.slots_of s) e in
    let r = c.read_slots.ensures.complete (g.Self.Format.slots_of s) (rw c.kind-kind.ensures (g.met.Self.Format.fits s)) (rw c.kind-kind.ensures (sym k.1) ∙ sym (c.number_of.ensures.value ∙ ap be_number c.bytes-bytes.ensures.bytes)) in
    let same : c.in-Some.slots ≡ g.Self.Format.slots_of s = cc (r, c.in-Some.is) in
    ap Some (g.met.Self.Format.same c.from_slots.result s (c.from_slots.ensures ∙ same))

pub returns-in-None-clause-complete : goal.returns-in-None-clause-complete
returns-in-None-clause-complete g c s e =
    let k = code_known c.args.code.now g.Self.Format.kind_is (g.Self.Format.slots_of s) e in
    let r = c.read_slots.ensures.complete (g.Self.Format.slots_of s) (rw c.kind-kind.ensures (g.met.Self.Format.fits s)) (rw c.kind-kind.ensures (sym k.1) ∙ sym (c.number_of.ensures.value ∙ ap be_number c.bytes-bytes.ensures.bytes)) in
    cc (r, c.in-None.is)
