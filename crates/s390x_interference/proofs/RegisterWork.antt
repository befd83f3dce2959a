-- The instructions that are register work.
use Rattle.std.proofs.Common.{◌≡◌, ℕ, Some, None, Bool, true, false, cond, not, ◌&&◌, if◌then◌else◌, is_some, nat_lt, IsTrue, refl, sym, ◌∙◌, true≢false}
use Rattle.s390x_base.specs.declared.trap.TrapKind.TheVariants.{IntegerDivisionByZero}
use Rattle.s390x_inst.specs.declared.inst.Inst.{Inst}
use Rattle.s390x_inst.specs.declared.inst.Inst.TheVariants as I
use Rattle.s390x_inst.specs.declared.vec_inst.VecInst.{VecInst}
use Rattle.s390x_inst.specs.declared.vec_inst.VecInst.TheVariants as V
use Rattle.s390x_lanes.specs.declared.operators.VectorOperation.{VectorOperation}
use Rattle.s390x_lanes.specs.declared.operators.VectorOperation.TheVariants as O
use Rattle.s390x_typed_steps.specs.VectorOpcodes.{is_division}
use Rattle.s390x_operations.specs.Access.{Untouched}
use Rattle.s390x_operations.specs.Effects.{access, stop_of_effect, MayRefuse, is_selected}
use Rattle.s390x_lanes.specs.Relation.{division_overflows}
use Rattle.s390x_operations.specs.declared.effect.Operation.{Operation}
use Rattle.s390x_operations.specs.declared.stop.StopKind.{StopKind}
use Rattle.s390x_operations.specs.State.{Registers}
use Rattle.s390x_base.specs.Regs.{number_of}
use Rattle.s390x_lanes.specs.Size.{lane_count}
use Rattle.s390x_typed_steps.specs.General.{four_bits, low_halfword}
use Rattle.s390x_operations.specs.declared.size.Size.{Size}
use Rattle.s390x_operations.specs.declared.size.Size.TheVariants.{Word, Doubleword}
use Rattle.s390x_operations.specs.declared.effect.CodeRule.TheVariants.{Kept}
use Rattle.s390x_operations.specs.declared.effect.Effect.{Effect}
use Rattle.s390x_operations.specs.declared.effect.Effect.TheVariants.{Compute, ComputeVector, PutVector}
use Rattle.s390x_operations.specs.declared.operator.Operator.TheVariants as Operator
use Rattle.s390x_machine.specs.Computations.{Second, with_rule, computes_immediate, on_doublewords, havocs, moves_where, moves_immediate_where, operand_of, unsigned_word, doubleword, signed_halfword}
use Rattle.s390x_machine.specs.VectorSteps.{elements_of, element_index}
use Rattle.s390x_machine.specs.Layout.{Layout}
use Rattle.s390x_machine.specs.Operands.{performed_where, value_in}
use Rattle.s390x_machine.specs.StepKinds.{StepKind, Performs, PerformsWhere, ComparesWide, instruction_kind}
use Rattle.s390x_machine.specs.VectorOperations.{binary_operation, unary_operation, comparison_operation, element_comparison}
use Rattle.s390x_machine.proofs.VectorSteps.{computed_vector, is_divide, divisions_agree, unary_never, comparison_never, element_never}
use Rattle.s390x_interference.specs.Retry.{StaysInRegisters, IsRegisterWork}
use Rattle.s390x_interference.specs.Loops.{is_register_work}

-- ---- operations

plain : (op : Operation) → access op.effect ≡ Untouched → stop_of_effect op.effect ≡ None → ((kind : StopKind) → MayRefuse op.effect kind → ⊥) → StaysInRegisters op
plain op untouched allowed certain = record { untouched = untouched; allowed = allowed; certain = certain }

where_stays : (selected : Bool) (op : Operation) → StaysInRegisters op → StaysInRegisters (performed_where selected op)
where_stays true op stays = stays
where_stays false op stays = record { untouched = refl; allowed = refl; certain = λ kind h. h }

vector_stays : (o : VectorOperation) (target first second third fourth : ℕ) → is_divide o ≡ false → StaysInRegisters (computed_vector o target first second third fourth)
vector_stays (O.Divide division sign size) t a b c d e = absurd (true≢false e)
vector_stays o t a b c d e = record { untouched = refl; allowed = refl; certain = λ kind by. true≢false (sym by.1) }

put_stays : (chosen : Bool) (target known value known' value' : ℕ) → StaysInRegisters (if chosen then with_rule Kept (PutVector target known value) else with_rule Kept (PutVector target known' value'))
put_stays true t k x k' x' = plain (with_rule Kept (PutVector t k x)) refl refl (λ kind by. by)
put_stays false t k x k' x' = plain (with_rule Kept (PutVector t k' x')) refl refl (λ kind by. by)

extract_stays : (chosen : Bool) (d x : ℕ) (r : Registers) → StaysInRegisters (if chosen then computes_immediate Kept (on_doublewords Operator.Move) d d x r else havocs d r)
extract_stays true d x r = plain (computes_immediate Kept (on_doublewords Operator.Move) d d x r) refl refl (λ kind by. by)
extract_stays false d x r = plain (havocs d r) refl refl (λ kind by. by)

moves_stay : (size : Size) (second : Second) (mask d m : ℕ) (r : Registers) → StaysInRegisters (moves_where size second mask d m r)
moves_stay size second mask d m r =
    where_stays (is_selected mask r.code) (with_rule Kept (Compute Operator.Move size d (value_in size r d) (operand_of second (r.general m)))) (record { untouched = refl; allowed = refl; certain = λ kind by. by })

immediate_moves_stay : (size : Size) (mask d bits : ℕ) (r : Registers) → StaysInRegisters (moves_immediate_where size mask d bits r)
immediate_moves_stay size mask d bits r =
    where_stays (is_selected mask r.code) (with_rule Kept (Compute Operator.Move size d (value_in size r d) (operand_of signed_halfword bits))) (record { untouched = refl; allowed = refl; certain = λ kind by. by })

-- ---- instructions

-- what is register work is said to be it; of any other instruction nothing is said
abbrev WorkIf : Bool → StepKind → Type 0
WorkIf true k = IsRegisterWork k
WorkIf false k = Unit {0}

work_if : (is : Bool) (k : StepKind) → (is ≡ true → IsRegisterWork k) → WorkIf is k
work_if true k work = work refl
work_if false k work = tt

work_of : (is : Bool) (k : StepKind) → WorkIf is k → is ≡ true → IsRegisterWork k
work_of true k work h = work
work_of false k work h = absurd (true≢false (sym h))

-- a lane's quotient may not fit
abbrev overflows : Effect → Bool
overflows (ComputeVector o target first second third fourth) = division_overflows o second third
overflows _ = false

certain_where : (e : Effect) → overflows e ≡ false → (kind : StopKind) → MayRefuse e kind → ⊥
certain_where (ComputeVector o target first second third fourth) fits kind by = true≢false (sym by.1 ∙ fits)
certain_where _ fits kind by = by

-- it stays in registers by computation: so does, with nothing to show, whatever is no such operation
abbrev ComputesIf : Bool → StepKind → Type 0
ComputesIf true (Performs needs operation code) = (r : Registers) → (access (operation r).effect ≡ Untouched) × (stop_of_effect (operation r).effect ≡ None) × (overflows (operation r).effect ≡ false)
ComputesIf true (PerformsWhere mask operation) = (r : Registers) → (access (operation r).effect ≡ Untouched) × (stop_of_effect (operation r).effect ≡ None) × (overflows (operation r).effect ≡ false)
ComputesIf true (ComparesWide sign tmp n m) = (r : Registers) → (true ≡ true) × (true ≡ true) × (true ≡ true)
ComputesIf true k = ⊥
ComputesIf false k = (r : Registers) → (true ≡ true) × (true ≡ true) × (true ≡ true)

by_computation : (is : Bool) (k : StepKind) → ComputesIf is k → WorkIf is k
by_computation true (Performs needs operation code) h = λ r. plain (operation r) (h r).0 (h r).1 (certain_where (operation r).effect (h r).2)
by_computation true (PerformsWhere mask operation) h = λ r. plain (operation r) (h r).0 (h r).1 (certain_where (operation r).effect (h r).2)
by_computation true (ComparesWide sign tmp n m) h = tt
by_computation true k h = absurd h
by_computation false k h = tt

no_code : (divides : Bool) → (not (is_some (cond divides (Some IntegerDivisionByZero) None)) && true) ≡ true → divides ≡ false
no_code true h = absurd (true≢false (sym h))
no_code false h = refl

-- the last clause is a copy for each other instruction on vectors
vector_work : (L : Layout) (v : VecInst) → WorkIf (is_register_work (I.Vector v)) (instruction_kind L (I.Vector v))
vector_work L (V.VecRRR op rd rn rm) = work_if _ _ (λ h r. vector_stays (binary_operation op) _ _ _ _ _ (divisions_agree op ∙ no_code (is_division op) h))
vector_work L (V.VecRR op rd rn) = λ r. vector_stays (unary_operation op) _ _ _ _ _ (unary_never op)
vector_work L (V.VecIntCmp op rd rn rm) = λ r. vector_stays (comparison_operation op false) _ _ _ _ _ (comparison_never op false)
vector_work L (V.VecIntCmpS op rd rn rm) = λ r. vector_stays (comparison_operation op true) _ _ _ _ _ (comparison_never op true)
vector_work L (V.VecIntEltCmp op rn rm) = λ r. vector_stays (element_comparison op) _ _ _ _ _ (element_never op)
vector_work L (V.VecInsertLane size rd ri rn lane base) = λ r. put_stays (nat_lt (element_index r (number_of base) lane) (lane_count (elements_of size))) _ _ _ _ _
vector_work L (V.VecInsertLaneUndef size rd rn lane base) = λ r. put_stays (nat_lt (element_index r (number_of base) lane) (lane_count (elements_of size))) _ _ _ _ _
vector_work L (V.VecExtractLane size rd rn lane base) = λ r. extract_stays (nat_lt (element_index r (number_of base) lane) (lane_count (elements_of size))) (number_of rd) _ r
vector_work L v = by_computation (is_register_work (I.Vector v)) (instruction_kind L (I.Vector v)) (λ r. (refl, refl, refl))

-- the last clause is a copy for each other instruction
work : (L : Layout) (i : Inst) → WorkIf (is_register_work i) (instruction_kind L i)
work L (I.CMov32 rd mask ri rm) = moves_stay Word unsigned_word (four_bits mask) (number_of rd) (number_of rm)
work L (I.CMov64 rd mask ri rm) = moves_stay Doubleword doubleword (four_bits mask) (number_of rd) (number_of rm)
work L (I.CMov32SImm16 rd mask ri imm) = immediate_moves_stay Word (four_bits mask) (number_of rd) (low_halfword imm)
work L (I.CMov64SImm16 rd mask ri imm) = immediate_moves_stay Doubleword (four_bits mask) (number_of rd) (low_halfword imm)
work L (I.Vector v) = vector_work L v
work L i = assumption

pub register_work : (L : Layout) (i : Inst) → IsTrue (is_register_work i) → IsRegisterWork (instruction_kind L i)
register_work L i h = work_of (is_register_work i) (instruction_kind L i) (work L i) h
