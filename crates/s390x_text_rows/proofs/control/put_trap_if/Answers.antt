use Rattle.std.proofs.Common.{string_bytes}
use Rattle.std.proofs.lemmas.Result.{on_ok_weaker}
use Rattle.std.specs.Prelude.{codes}
use Rattle.s390x_job_fields.specs.Atoms.{trap_text}
use Rattle.s390x_text_rows.specs.Operands.{cond_text}
use Rattle.s390x_text_rows.proofs.Joined.{joined_halves}
use Rattle.s390x_text_rows.proofs.control.put_trap_if.Goals as goal

pub returns : goal.returns
returns c =
    on_ok_weaker c.put_trap_place.result
    (λ e. joined_halves (codes "jg") (cond_text c.args.cond) (codes " .+2 # trap=") (trap_text c.args.code) (string_bytes c.args.out.now) (string_bytes c.put_branch_name.new.out) (string_bytes c.put_trap_place.new.out) c.in_ok-put_branch_name.ensures e)
    c.put_trap_place.ensures
