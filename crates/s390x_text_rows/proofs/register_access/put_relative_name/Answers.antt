use Rattle.std.proofs.Common.{string_bytes}
use Rattle.s390x_job_fields.specs.Atoms.{reg_text}
use Rattle.s390x_text_rows.proofs.Named.{named_lgrl}
use Rattle.s390x_text_rows.proofs.register_access.put_relative_name.Goals as goal

pub returns-then-opcode-eq-LGRL : goal.returns-then-opcode-eq-LGRL
returns-then-opcode-eq-LGRL c =
    named_lgrl c.put_reg_behind.result (string_bytes c.args.out.now) (string_bytes c.put_reg_behind.new.out) c.args.opcode (reg_text c.args.r.now) c.if-opcode-eq-LGRL.true c.put_reg_behind.ensures
