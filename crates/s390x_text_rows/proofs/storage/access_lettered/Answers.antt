use Rattle.std.proofs.Common.{◌∷◌, [], Some, None, refl, string_bytes}
use Rattle.s390x_text_rows.specs.Storage.{rx}
use Rattle.s390x_text_rows.specs.VectorMnemonics.{mnemonic_text}
use Rattle.s390x_text_rows.proofs.Near.{near_prints}
use Rattle.s390x_text_rows.proofs.storage.access_lettered.Goals as goal

pub returns-in-Some : goal.returns-in-Some
returns-in-Some g c =
    near_prints c.fixed_lettered2.result (string_bytes c.args.out.now) (string_bytes c.fixed_lettered2.new.out) c.args.place.has_relative (rx (Some (mnemonic_text c.args.mnemonic)) None None) c.args.place.state.now c.args.place.mem.now c.in-Some.near (Some c.args.mnemonic.opcode) None (λ o. mnemonic_text c.args.mnemonic) _ (g.A.Operand.shown c.args.a.now ∷ []) [] refl refl c.in-Some.ensures refl c.fixed_lettered2.ensures
