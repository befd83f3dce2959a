use Rattle.std.proofs.Common.{◌∷◌, [], None, refl, string_bytes}
use Rattle.std.specs.Option.{option_map}
use Rattle.s390x_format.specs.Stems.{stem_of}
use Rattle.s390x_text_rows.specs.Storage.{rx}
use Rattle.s390x_text_rows.proofs.Near.{near_prints}
use Rattle.s390x_text_rows.proofs.storage.vrx_access.Goals as goal

pub returns-in-Some : goal.returns-in-Some
returns-in-Some g c =
    near_prints c.fixed3.result (string_bytes c.args.out.now) (string_bytes c.fixed3.new.out) c.args.place.has_relative (rx (option_map stem_of c.args.opcode) None None) c.args.place.state.now c.args.place.mem.now c.in-Some.near c.args.opcode None stem_of _ (g.A.Operand.shown c.args.a.now ∷ []) (g.B.Operand.shown c.args.b.now ∷ []) refl refl c.in-Some.ensures c.stem.ensures c.fixed3.ensures
