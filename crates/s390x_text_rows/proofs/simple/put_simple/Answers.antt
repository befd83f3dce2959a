use Rattle.std.proofs.Common.{sym, subst, string_bytes}
use Rattle.s390x_text_rows.specs.Simple.{simple_text}
use Rattle.s390x_text_rows.specs.Texts.{Prints}
use Rattle.s390x_text_rows.proofs.simple.put_simple.Goals as goal

pub returns-in-Vector : goal.returns-in-Vector
returns-in-Vector c =
    subst (λ i. Prints c.put_vector.result (string_bytes c.args.out.now) (string_bytes c.put_vector.new.out) (simple_text c.args.has_relative c.args.state.now i)) (sym c.in-Vector.is) c.put_vector.ensures

pub returns-in-AluRRR : goal.returns-in-AluRRR
returns-in-AluRRR c =
    subst (λ i. Prints c.put_alu_three.result (string_bytes c.args.out.now) (string_bytes c.put_alu_three.new.out) (simple_text c.args.has_relative c.args.state.now i)) (sym c.in-AluRRR.is) c.put_alu_three.ensures

pub returns-in-LoadAddr : goal.returns-in-LoadAddr
returns-in-LoadAddr c =
    subst (λ i. Prints c.put_address.result (string_bytes c.args.out.now) (string_bytes c.put_address.new.out) (simple_text c.args.has_relative c.args.state.now i)) (sym c.in-LoadAddr.is) c.put_address.ensures

pub returns-in-Jump : goal.returns-in-Jump
returns-in-Jump c =
    subst (λ i. Prints c.fixed1.result (string_bytes c.args.out.now) (string_bytes c.fixed1.new.out) (simple_text c.args.has_relative c.args.state.now i)) (sym c.in-Jump.is) c.fixed1.ensures

pub returns-in-CondBr : goal.returns-in-CondBr
returns-in-CondBr c =
    subst (λ i. Prints c.put_conditional_branch.result (string_bytes c.args.out.now) (string_bytes c.put_conditional_branch.new.out) (simple_text c.args.has_relative c.args.state.now i)) (sym c.in-CondBr.is) c.put_conditional_branch.ensures

pub returns-in-TrapIf : goal.returns-in-TrapIf
returns-in-TrapIf c =
    subst (λ i. Prints c.put_conditional_trap.result (string_bytes c.args.out.now) (string_bytes c.put_conditional_trap.new.out) (simple_text c.args.has_relative c.args.state.now i)) (sym c.in-TrapIf.is) c.put_conditional_trap.ensures

pub returns-in-LoadSymbolReloc : goal.returns-in-LoadSymbolReloc
returns-in-LoadSymbolReloc c =
    subst (λ i. Prints c.put_symbol_address.result (string_bytes c.args.out.now) (string_bytes c.put_symbol_address.new.out) (simple_text c.args.has_relative c.args.state.now i)) (sym c.in-LoadSymbolReloc.is) c.put_symbol_address.ensures
