use Rattle.std.proofs.Common.{ap, sym, ◌∙◌, length, refl}
use Rattle.s390x_format.proofs.FormatFacts.{layout_ok, length_is}
use Rattle.s390x_format.proofs.Codes.{zero_code}
use Rattle.s390x_format.proofs.Encoding.{encode-length}
use Rattle.s390x_format.proofs.Lengths.{first_tells}
use Rattle.s390x_format.proofs.format.Format.to_code.Goals as goal

pub pack-requires : goal.pack-requires
pack-requires g c = rw c.layout.ensures (layout_ok c.kind-kind.result)

pub code_of-requires : goal.code_of-requires
code_of-requires g c = rw c.length.ensures (length_is c.kind-kind.result)

pub returns-clause-zero_bits : goal.returns-clause-zero_bits
returns-clause-zero_bits g c =
    zero_code g.Self.Format.kind_is (g.Self.Format.slots_of c.args.self.now) c.code_of.result (g.met.Self.Format.fits c.args.self.now).0
    (c.code_of.ensures ∙ rw (c.length.ensures, c.pack.ensures, c.layout.ensures, c.slots.ensures, c.kind-kind.ensures) refl)

pub returns-clause-length : goal.returns-clause-length
returns-clause-length g c e =
    first_tells g.Self.Format.kind_is (g.Self.Format.slots_of c.args.self.now) c.code_of.result (g.met.Self.Format.fits c.args.self.now)
    (c.code_of.ensures ∙ rw (c.length.ensures, c.pack.ensures, c.layout.ensures, c.slots.ensures, c.kind-kind.ensures) refl) e
    ∙ sym (ap length (c.code_of.ensures ∙ rw (c.length.ensures, c.pack.ensures, c.layout.ensures, c.slots.ensures, c.kind-kind.ensures) refl) ∙ encode-length g.Self.Format.kind_is (g.Self.Format.slots_of c.args.self.now))
