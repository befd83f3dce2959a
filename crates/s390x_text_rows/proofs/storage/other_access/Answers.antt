use Rattle.std.proofs.Common.{◌∷◌, ◌∙◌, sym, [], string_bytes}
use Rattle.s390x_text_rows.specs.Storage.{rows_of}
use Rattle.s390x_text_rows.proofs.Near.{taken_prints}
use Rattle.s390x_text_rows.proofs.storage.other_access.Goals as goal

pub returns-then-is_taken : goal.returns-then-is_taken
returns-then-is_taken g c =
    taken_prints c.fixed2.result (string_bytes c.args.out.now) (string_bytes c.fixed2.new.out) c.args.place.has_relative (rows_of c.args.rows.now) c.args.place.state.now c.args.place.mem.now c.inst_type.result _ (g.A.Operand.shown c.args.a.now ∷ []) [] c.inst_type.ensures (sym c.is_taken.ensures ∙ c.if-is_taken.true) c.name_at.ensures c.fixed2.ensures
