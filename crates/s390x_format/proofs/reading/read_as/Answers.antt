use Rattle.std.proofs.Common.{◌≡◌, ℕ, ◌*◌, ◌^◌, ◌<◌, true, Some, refl, sym, ap, subst, ◌∙◌}
use Rattle.s390x_format.specs.Formats.{layout_of}
use Rattle.s390x_format.specs.Layout.{bits, zero_bits}
use Rattle.s390x_format.proofs.FormatFacts.{layout_ok, layout_bits_of}
use Rattle.s390x_format.proofs.Packing.{layout_slot}
use Rattle.s390x_format.proofs.Digits.{field_lt, back, zero_of}
use Rattle.s390x_format.proofs.OneReading.{read_same, whole_same}
use Rattle.s390x_format.proofs.reading.read_as.Goals as goal

pub returns-clause-sound : goal.returns-clause-sound
returns-clause-sound c =
    let un = c.unpack_as-has_zeros.ensures.values in
    let total : bits (layout_of c.args.row.now.format) ≡ 8 * c.args.bytes = layout_bits_of c.args.row.now.format ∙ ap (λ (z : ℕ). 8 * z) c.requires.length in
    let zeros : zero_bits (layout_of c.args.row.now.format) c.args.n ≡ true = sym c.unpack_as-has_zeros.ensures.zeros ∙ c.if-not-has_zeros.false in
    record {
      format = refl;
      opcode = refl;
      bytes_are = c.requires.length;
      fit = (c.unpack_as-has_zeros.ensures.ten, λ k lt. rw (un k lt) (field_lt (layout_of c.args.row.now.format) c.args.n k (layout_slot _ k (layout_ok c.args.row.now.format) lt).0));
      code = c.if-slots-row.false;
      number_is = back (layout_of c.args.row.now.format) c.args.n c.unpack_as-has_zeros.result.slots (λ k l. (layout_slot _ k (layout_ok c.args.row.now.format) l).0) un c.unpack_as-has_zeros.ensures.ten
          (subst (λ (b : ℕ). c.args.n < 2 ^ b) (sym total) c.requires.below) zeros;
      allowed = sym c.allows.ensures ∙ c.if-not-allows.false;
    }

pub returns-clause-complete : goal.returns-clause-complete
returns-clause-complete c d r =
    let un = c.unpack_as-has_zeros.ensures.values in
    ap Some (whole_same d c.args.row.now.format c.args.row.now.opcode c.unpack_as-has_zeros.result.slots r.format r.opcode (read_same c.args.row.now c.args.bytes c.args.n d c.unpack_as-has_zeros.result.slots r c.unpack_as-has_zeros.ensures.ten un))

pub returns-then-not-has_zeros-clause-complete : goal.returns-then-not-has_zeros-clause-complete
returns-then-not-has_zeros-clause-complete c d r =
    let zeros : zero_bits (layout_of c.args.row.now.format) c.args.n ≡ true =
    subst (λ (z : ℕ). zero_bits (layout_of c.args.row.now.format) z ≡ true) r.number_is (zero_of (layout_of c.args.row.now.format) d.slots r.fit.0) in
    let none = c.unpack_as-has_zeros.ensures.zeros in
    cc (zeros, none, c.if-not-has_zeros.true)

pub returns-then-slots-row-clause-complete : goal.returns-then-slots-row-clause-complete
returns-then-slots-row-clause-complete c d r =
    let un = c.unpack_as-has_zeros.ensures.values in
    let same : d.slots ≡ c.unpack_as-has_zeros.result.slots = read_same c.args.row.now c.args.bytes c.args.n d c.unpack_as-has_zeros.result.slots r c.unpack_as-has_zeros.ensures.ten un in
    absurd (c.if-slots-row.true (rw same at r.code))

pub returns-then-not-allows-clause-complete : goal.returns-then-not-allows-clause-complete
returns-then-not-allows-clause-complete c d r =
    let un = c.unpack_as-has_zeros.ensures.values in
    let same : d.slots ≡ c.unpack_as-has_zeros.result.slots = read_same c.args.row.now c.args.bytes c.args.n d c.unpack_as-has_zeros.result.slots r c.unpack_as-has_zeros.ensures.ten un in
    let t = rw same at r.allowed in cc (t, c.allows.ensures, c.if-not-allows.true)
