use Rattle.std.proofs.Common.{[], refl, sym, arith}
use Rattle.s390x_typed_steps.specs.Causes.{declared_of}
use Rattle.s390x_typed_steps.specs.Image.{step_offset}
use Rattle.s390x_typed_steps.specs.Steps.{function_steps}
use Rattle.s390x_generator.specs.Generator.{generated_trees}
use Rattle.s390x_generator.proofs.Valid.{count_from, no_cause, no_relocs, small}
use Rattle.s390x_generator.proofs.law.generated_functions_are_valid.Goals as goal

pub returns-clause-count : goal.returns-clause-count
returns-clause-count c = λ e n start. count_from e n 0 n start

pub returns-clause-valid : goal.returns-clause-valid
returns-clause-valid c = λ flags e n start few.
    no_cause (declared_of (generated_trees e n start) []) n (sym (count_from e n 0 n start)) flags e 0 n start n (omega arith) few

pub returns-clause-size : goal.returns-clause-size
returns-clause-size c = λ e n start.
    small (record { blocks = n; aligns = [] }) n refl e 0 n start (omega arith)

pub returns-clause-relocs : goal.returns-clause-relocs
returns-clause-relocs c = λ e n start.
    no_relocs (record { blocks = n; aligns = [] }) n refl e (step_offset (function_steps (generated_trees e n start))) 0 n start (omega arith) 0 0
