use Rattle.std.proofs.Common.{◌∷◌, [], refl, sym, ap, string_bytes}
use Rattle.std.specs.Option.{option_map}
use Rattle.s390x_format.specs.Stems.{stem_of}
use Rattle.s390x_job_fields.specs.Atoms.{reg_text}
use Rattle.s390x_text_rows.specs.Storage.{rx_of}
use Rattle.s390x_text_rows.proofs.Near.{near_prints}
use Rattle.s390x_text_rows.proofs.register_access.put_access.Goals as goal

pub returns-in-Some : goal.returns-in-Some
returns-in-Some c =
    near_prints c.put_near.result (string_bytes c.args.out.now) (string_bytes c.put_near.new.out) c.args.place.has_relative (rx_of c.args.rows) c.args.place.state.now c.args.place.mem.now c.in-Some.near c.long_opcode.result c.args.rows.rxy stem_of (stem_of c.in-Some.near.opcode) (reg_text c.args.r.now ∷ []) [] (ap (λ o. option_map stem_of o) (sym c.long_opcode.ensures)) refl c.in-Some.ensures refl c.put_near.ensures
