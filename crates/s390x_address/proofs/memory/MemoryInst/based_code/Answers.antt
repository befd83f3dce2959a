use Rattle.std.proofs.Common.{true, false}
use Rattle.s390x_inst.specs.Memory.{flags_of}
use Rattle.s390x_address.specs.Rows.{storage_form_of}
use Rattle.s390x_address.proofs.SymbolAccess.{symbol_found}
use Rattle.s390x_address.proofs.memory.MemoryInst.based_code.Goals as goal

pub returns : goal.returns
returns c =
    let x = c.args.self.now in
    symbol_found c.offset_code.result (storage_form_of x.rows) c.spilltmp_reg.result x.operand x.accesses x.operands_valid x.reads_scratch c.requires.linkable c.requires.needs c.if-self.false c.spilltmp_reg.ensures (c.offset_code.ensures x.accesses true false (flags_of x.operand))
