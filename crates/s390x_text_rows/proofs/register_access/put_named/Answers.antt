use Rattle.std.proofs.Common.{string_bytes}
use Rattle.s390x_job_fields.specs.Atoms.{reg_text}
use Rattle.s390x_text_rows.proofs.Named.{named_lg, named_stg}
use Rattle.s390x_text_rows.proofs.register_access.put_named.Goals as goal

pub returns-then-opcode-eq-LG : goal.returns-then-opcode-eq-LG
returns-then-opcode-eq-LG c =
    named_lg c.put_reg_behind.result (string_bytes c.args.out.now) (string_bytes c.put_reg_behind.new.out) c.args.opcode (reg_text c.args.r.now) c.if-opcode-eq-LG.true c.put_reg_behind.ensures

pub returns-then-opcode-eq-STG : goal.returns-then-opcode-eq-STG
returns-then-opcode-eq-STG c =
    named_stg c.put_reg_behind-then-opcode-eq-STG.result (string_bytes c.args.out.now) (string_bytes c.put_reg_behind-then-opcode-eq-STG.new.out) c.args.opcode (reg_text c.args.r.now) c.if-opcode-eq-STG.true c.put_reg_behind-then-opcode-eq-STG.ensures
