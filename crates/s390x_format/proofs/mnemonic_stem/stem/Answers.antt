use Rattle.std.proofs.Common.{refl, sym, ◌∙◌}
use Rattle.s390x_format.specs.Stems.{stem_of}
use Rattle.s390x_format.proofs.StemPlaces.{only_there}
use Rattle.s390x_format.proofs.mnemonic_stem.stem.Goals as goal

pub stem_at-requires-clause-beside : goal.stem_at-requires-clause-beside
stem_at-requires-clause-beside c = refl

pub stem_at-requires-clause-only : goal.stem_at-requires-clause-only
stem_at-requires-clause-only c i lt e = only_there c.args.opcode i lt e ∙ sym c.indexed_place.ensures

pub returns : goal.returns
unfolding stem_of
returns c = c.stem_at.ensures
