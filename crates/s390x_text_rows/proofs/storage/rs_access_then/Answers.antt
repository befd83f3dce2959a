use Rattle.std.proofs.Common.{◌∷◌, [], refl, string_bytes}
use Rattle.std.specs.Option.{option_map}
use Rattle.s390x_format.specs.Stems.{stem_of}
use Rattle.s390x_text_rows.specs.Storage.{rs}
use Rattle.s390x_text_rows.proofs.Near.{near_prints}
use Rattle.s390x_text_rows.proofs.storage.rs_access_then.Goals as goal

pub returns-in-Some : goal.returns-in-Some
returns-in-Some g c =
    near_prints c.fixed2.result (string_bytes c.args.out.now) (string_bytes c.fixed2.new.out) c.args.place.has_relative (rs (option_map stem_of c.args.short) (option_map stem_of c.args.long)) c.args.place.state.now c.args.place.mem.now c.in-Some.near c.args.short c.args.long stem_of _ [] (g.A.Operand.shown c.args.a.now ∷ []) refl refl c.in-Some.ensures c.stem.ensures c.fixed2.ensures
