use Rattle.std.proofs.Common.{string_bytes}
use Rattle.s390x_text_rows.proofs.Accesses.{store_prints, no_store}
use Rattle.s390x_text_rows.proofs.memory.put_store.Goals as goal

pub returns-in-Some-store_operand : goal.returns-in-Some-store_operand
returns-in-Some-store_operand c =
    store_prints c.put_access.result (string_bytes c.args.out.now) (string_bytes c.put_access.new.out) c.args.has_relative c.args.state.now c.args.inst.now c.in-Some.store c.rows_of_store.result c.in-Some-store_operand.mem.now c.in-Some.ensures c.rows_of_store.ensures c.in-Some-store_operand.ensures c.put_access.ensures

pub returns-in-None-store_operand : goal.returns-in-None-store_operand
returns-in-None-store_operand c = no_store c.args.inst.now c.in-Some.store c.in-Some.ensures c.in-None-store_operand.ensures
