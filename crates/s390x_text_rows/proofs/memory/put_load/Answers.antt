use Rattle.std.proofs.Common.{string_bytes}
use Rattle.s390x_text_rows.proofs.Accesses.{load_prints, no_load}
use Rattle.s390x_text_rows.proofs.memory.put_load.Goals as goal

pub returns-in-Some-load_operand : goal.returns-in-Some-load_operand
returns-in-Some-load_operand c =
    load_prints c.put_access.result (string_bytes c.args.out.now) (string_bytes c.put_access.new.out) c.args.has_relative c.args.state.now c.args.inst.now c.in-Some.load c.to_reg-rd.result c.rows_of_load.result c.in-Some-load_operand.mem.now c.in-Some.ensures c.to_reg-rd.ensures c.rows_of_load.ensures c.in-Some-load_operand.ensures c.put_access.ensures

pub returns-in-None-load_operand : goal.returns-in-None-load_operand
returns-in-None-load_operand c = no_load c.args.inst.now c.in-Some.load c.in-Some.ensures c.in-None-load_operand.ensures
