use Rattle.std.proofs.Common.{◌∷◌, [], string_bytes}
use Rattle.s390x_job_fields.specs.Atoms.{reg_text}
use Rattle.s390x_text_rows.proofs.OneHelper.{addressed_prints}
use Rattle.s390x_text_rows.proofs.register_access.put_behind_address.Goals as goal

pub returns-in-Some : goal.returns-in-Some
returns-in-Some c =
    addressed_prints c.put_addressed.result (string_bytes c.args.out.now) (string_bytes c.put_addressed.new.out) c.args.place.has_relative c.args.rows c.args.place.state.now c.args.place.mem.now c.in-Some.opcode (reg_text c.args.r.now ∷ []) c.in-Some.ensures.0 c.in-Some.ensures.1 c.put_addressed.ensures
