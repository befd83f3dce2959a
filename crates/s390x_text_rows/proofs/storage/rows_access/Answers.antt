use Rattle.std.proofs.Common.{◌∷◌, [], refl, string_bytes}
use Rattle.s390x_format.specs.Stems.{stem_of}
use Rattle.s390x_text_rows.specs.Storage.{rows_of}
use Rattle.s390x_text_rows.proofs.Near.{near_prints}
use Rattle.s390x_text_rows.proofs.storage.rows_access.Goals as goal

pub returns-in-Some : goal.returns-in-Some
returns-in-Some g c =
    near_prints c.fixed2.result (string_bytes c.args.out.now) (string_bytes c.fixed2.new.out) c.args.place.has_relative (rows_of c.args.rows.now) c.args.place.state.now c.args.place.mem.now c.in-Some.near c.args.rows.now.short c.args.rows.now.long stem_of _ (g.A.Operand.shown c.args.a.now ∷ []) [] refl refl c.in-Some.ensures c.stem.ensures c.fixed2.ensures
