use Rattle.std.proofs.Common.{◌∷◌, [], string_bytes}
use Rattle.s390x_text_rows.proofs.OneHelper.{helped_prints}
use Rattle.s390x_text_rows.proofs.storage.helped_access.Goals as goal

pub returns-in-Some : goal.returns-in-Some
returns-in-Some g c =
    helped_prints c.put_helped.result (string_bytes c.args.out.now) (string_bytes c.put_helped.new.out) c.args.place.has_relative c.args.rows.now c.args.place.state.now c.args.place.mem.now c.in-Some.zero.opcode c.in-Some.zero.at (g.A.Operand.shown c.args.a.now ∷ []) c.in-Some.ensures.0 c.in-Some.ensures.1 c.put_helped.ensures
