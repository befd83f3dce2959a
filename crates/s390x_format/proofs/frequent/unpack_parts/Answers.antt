use Rattle.std.proofs.Common.{sym, arith}
use Rattle.s390x_format.proofs.FormatFacts.{layout_ok, layout_bits_of, length_small}
use Rattle.s390x_format.proofs.frequent.unpack_parts.Goals as goal

pub overflow_cast-length : goal.overflow_cast-length
overflow_cast-length c = omega (arith, length_small c.args.kind, c.length.ensures)

pub overflow_mul-length : goal.overflow_mul-length
overflow_mul-length c = omega (arith, length_small c.args.kind, c.length.ensures)

pub unpack-requires-clause-layout : goal.unpack-requires-clause-layout
unpack-requires-clause-layout c = rw c.layout-parts.ensures (layout_ok c.args.kind)

pub unpack-requires-clause-total : goal.unpack-requires-clause-total
unpack-requires-clause-total c = rw (c.layout-parts.ensures, c.length.ensures) (sym (layout_bits_of c.args.kind))
