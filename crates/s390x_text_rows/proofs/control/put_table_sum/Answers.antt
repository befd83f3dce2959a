use Rattle.std.proofs.Common.{string_bytes}
use Rattle.std.proofs.lemmas.Result.{on_ok_weaker}
use Rattle.std.specs.Prelude.{codes}
use Rattle.s390x_job_fields.specs.Atoms.{reg_text}
use Rattle.s390x_text_rows.proofs.Joined.{joined_two}
use Rattle.s390x_text_rows.proofs.control.put_table_sum.Goals as goal

pub returns : goal.returns
returns c =
    on_ok_weaker c.put_table_jump.result
    (λ e. joined_two (codes " ; larl %r1, 14 ; agf %r1, 0(") (reg_text c.args.index) (codes ", %r1) ; br %r1 ; jt_entries") (string_bytes c.args.out.now) (string_bytes c.put_table_load.new.out) (string_bytes c.put_table_jump.new.out) c.in_ok-put_table_load.ensures e)
    c.put_table_jump.ensures
