use Rattle.std.proofs.Common.{◌∷◌, [], string_bytes}
use Rattle.s390x_job_fields.specs.Atoms.{reg_text}
use Rattle.s390x_text_rows.proofs.OneHelper.{far_prints}
use Rattle.s390x_text_rows.proofs.register_access.put_other_access.Goals as goal

pub returns-in-Some : goal.returns-in-Some
returns-in-Some c =
    far_prints c.put_far.result (string_bytes c.args.out.now) (string_bytes c.put_far.new.out) c.args.place.has_relative c.args.rows c.args.place.state.now c.args.place.mem.now c.in-Some.far (reg_text c.args.r.now ∷ []) c.in-Some.ensures c.put_far.ensures
