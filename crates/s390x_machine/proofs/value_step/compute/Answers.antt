use Rattle.std.proofs.Common.{ℕ, ap, ◌∙◌}
use Rattle.s390x_operations.specs.Effects.{set_sized}
use Rattle.s390x_operations.specs.State.{with_code}
use Rattle.s390x_operations.specs.Values.{code_of_value, value}
use Rattle.s390x_machine.specs.State.{registers_of}
use Rattle.s390x_machine.specs.Step.{code_under}
use Rattle.s390x_machine.proofs.value_step.compute.Goals as goal

pub returns-clause-registers : goal.returns-clause-registers
returns-clause-registers c =
    let op = c.args.computation.operator in
    let size = c.args.computation.size in
    let r = registers_of c.args.machine.now in
    c.put_value.ensures.registers
    ∙ ap (λ (x : ℕ). with_code (code_under c.args.computation.rule (code_of_value op size x c.args.second) r.code) (set_sized size r c.args.target (value op size x c.args.second))) c.value_in-number.ensures.value
