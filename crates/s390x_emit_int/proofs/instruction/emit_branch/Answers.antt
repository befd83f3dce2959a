use Rattle.std.proofs.Common.{ap, sym, subst, ◌∙◌, ◌+◌, ◌*◌, length}
use Rattle.s390x_typed_steps.specs.Causes.{table_cause}
use Rattle.s390x_emit_int.specs.Room.{FitsWithoutCause}
use Rattle.s390x_emit_int.proofs.Tables.{jump_passed}
use Rattle.s390x_typed_steps.specs.General.{is_general}
use Rattle.s390x_emit_int.proofs.Symbols.{symbol_passed}
use Rattle.s390x_emit_int.proofs.Leaves.{indirect_passed, return_passed, address_passed, trap_passed, trap_if_passed, composite_passed, debug_passed}
use Rattle.s390x_emit_int.proofs.instruction.emit_branch.Goals as goal

pub returns-in-IndirectBr-clause-only_memory : goal.returns-in-IndirectBr-clause-only_memory
returns-in-IndirectBr-clause-only_memory c = λ depth p drawn.
    let f = indirect_passed c.args.sink.now c.args.after.0 depth c.args.inst.now c.in-IndirectBr.rn c.in-IndirectBr.targets c.in-IndirectBr.is p in
    c.emit_branch_register.ensures.only_memory f.0 f.1

pub returns-in-Ret-clause-only_memory : goal.returns-in-Ret-clause-only_memory
returns-in-Ret-clause-only_memory c = λ depth p drawn.
    let f = return_passed c.args.sink.now c.args.after.0 depth c.args.inst.now c.in-Ret.link c.in-Ret.is p in
    c.emit_branch_register-in-Ret.ensures.only_memory f.0 f.1

pub returns-in-LabelAddress-clause-only_memory : goal.returns-in-LabelAddress-clause-only_memory
returns-in-LabelAddress-clause-only_memory c = λ depth p drawn.
    let f = address_passed c.args.sink.now c.args.after.0 depth c.args.inst.now c.in-LabelAddress.dst c.in-LabelAddress.label c.in-LabelAddress.is p in
    c.emit_address.ensures.only_memory f.0 (ap is_general c.to_reg.ensures ∙ f.1)

pub returns-in-LoadSymbolReloc-clause-only_memory : goal.returns-in-LoadSymbolReloc-clause-only_memory
returns-in-LoadSymbolReloc-clause-only_memory c = λ depth p drawn.
    let i = c.in-LoadSymbolReloc in
    let f = symbol_passed c.args.sink.now c.args.after.0 depth c.args.inst.now i.rd i.symbol_reloc i.is p in
    c.emit_symbol_load.ensures.only_memory f.0 (ap is_general c.to_reg-in-LoadSymbolReloc.ensures ∙ f.1)

pub returns-in-Trap-clause-only_memory : goal.returns-in-Trap-clause-only_memory
returns-in-Trap-clause-only_memory c = λ depth p drawn. c.emit_trap.ensures.only_memory (trap_passed c.args.sink.now c.args.after.0 depth c.args.inst.now c.in-Trap.trap_code c.in-Trap.is p)

pub returns-in-TrapIf-clause-only_memory : goal.returns-in-TrapIf-clause-only_memory
returns-in-TrapIf-clause-only_memory c = λ depth p drawn. c.emit_trap_if.ensures.only_memory (trap_if_passed c.args.sink.now c.args.after.0 depth c.args.inst.now c.in-TrapIf.cond c.in-TrapIf.trap_code c.in-TrapIf.is p)

pub returns-in-Debugtrap-clause-only_memory : goal.returns-in-Debugtrap-clause-only_memory
returns-in-Debugtrap-clause-only_memory c = λ depth p drawn. c.emit_debug_trap.ensures.only_memory (debug_passed c.args.sink.now c.args.after.0 depth c.args.inst.now c.in-Debugtrap.is p)

pub returns-in-JTSequence-clause-only_memory : goal.returns-in-JTSequence-clause-only_memory
returns-in-JTSequence-clause-only_memory c = λ depth p drawn.
    let i = c.in-JTSequence in
    let f = jump_passed c.args.sink.now c.args.after.0 depth c.args.inst.now i.ridx i.default i.default_cond i.targets i.is p drawn in
    c.emit_table.ensures.only_memory i.default.0 (subst (λ ts. FitsWithoutCause c.args.sink.now i.default.0 (20 + 4 * length ts) (table_cause c.args.sink.now.block_count i.ridx i.default ts)) (sym c.deref.ensures.value) f.0) f.1

pub returns-in-Vector-clause-only_memory : goal.returns-in-Vector-clause-only_memory
returns-in-Vector-clause-only_memory c = λ depth p drawn.
    let f = composite_passed c.args.sink.now c.args.after.0 depth c.args.inst.now c.in-Vector.inst c.in-Vector.is p in
    c.emit_composite.ensures.only_memory f.0 f.1
