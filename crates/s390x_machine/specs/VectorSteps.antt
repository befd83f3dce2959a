-- What vector instructions on registers and immediates do (cranelift-codegen, `inst.isle`). An operation on vectors has four operands, its own old value
-- first; 0 stands for those that it doesn't take.
use Rattle.std.specs.Prelude.{ℕ, ◌+◌, ◌*◌, ◌/◌, ◌%◌, ◌^◌, ◌-◌, pos, true, false, cond, if◌then◌else◌, nat_eq, nat_lt, Option, Some, None}
use Rattle.s390x_base.specs.Regs.{number_of}
use Rattle.s390x_inst.specs.declared.vec_inst.VecInst.{VecInst}
use Rattle.s390x_inst.specs.declared.vec_inst.VecInst.TheVariants as V
use Rattle.s390x_lanes.specs.declared.operators.ShiftOperator.{ShiftOperator}
use Rattle.s390x_lanes.specs.declared.operators.VectorOperation.{VectorOperation}
use Rattle.s390x_lanes.specs.declared.operators.VectorOperation.TheVariants.{Select, Permute, Blend, Move, ShiftElements, Evaluate, PermuteDoublewords, ByteMask, ReplicateImmediate, BitMask, Replicate, InsertImmediate}
use Rattle.s390x_lanes.specs.Lanes.{lane}
use Rattle.s390x_lanes.specs.Results.{vector_result}
use Rattle.s390x_lanes.specs.Size.{element_bits, lane_count}
use Rattle.s390x_lanes.specs.declared.size.ElementSize.{ElementSize}
use Rattle.s390x_lanes.specs.declared.size.ElementSize.TheVariants.{Byte, Halfword, Word, Doubleword}
use Rattle.s390x_operations.specs.State.{Registers}
use Rattle.s390x_operations.specs.Vectors.{register_after_load, with_reversed_elements}
use Rattle.s390x_operations.specs.declared.effect.VectorLayout.{VectorLayout}
use Rattle.s390x_operations.specs.declared.operator.Operator.TheVariants as Operator
use Rattle.s390x_operations.specs.declared.effect.CodeRule.TheVariants.{Kept, Set}
use Rattle.s390x_operations.specs.declared.effect.Effect.{Effect}
use Rattle.s390x_operations.specs.declared.effect.Operation.{Operation}
use Rattle.s390x_typed_steps.specs.General.{four_bits, low_halfword, low_byte}
use Rattle.s390x_machine.specs.Computations.{with_rule, computes_immediate, on_doublewords, havocs}
use Rattle.s390x_machine.specs.Operands.{address_by_base}
use Rattle.s390x_machine.specs.Semantics.{all_bits, left_bits}
use Rattle.s390x_machine.specs.VectorOperations.{binary_operation, unary_operation, shift_operator, shifted_elements, comparison_operation, element_comparison}

-- vector register d becomes what an operation makes of vector registers n and m
abbrev pub computes_two_vectors : VectorOperation → (d n m : ℕ) → Registers → Operation
computes_two_vectors o d n m r = with_rule Set (Effect.ComputeVector o d (r.vector d) (r.vector n) (r.vector m) 0)

-- vector register d becomes what an operation makes of vector register n
abbrev pub computes_one_vector : VectorOperation → (d n : ℕ) → Registers → Operation
computes_one_vector o d n r = with_rule Set (Effect.ComputeVector o d (r.vector d) (r.vector n) 0 0)

-- vector register d becomes what an operation makes of vector registers n, m and a
abbrev pub computes_three_vectors : VectorOperation → (d n m a : ℕ) → Registers → Operation
computes_three_vectors o d n m a r = with_rule Set (Effect.ComputeVector o d (r.vector d) (r.vector n) (r.vector m) (r.vector a))

-- the condition code becomes the order of vector registers n and m, which stay
abbrev pub compares_vectors : VectorOperation → (n m : ℕ) → Registers → Operation
compares_vectors o n m = computes_one_vector o n m

-- vector register d becomes an operation's value, which takes none but the old one
abbrev pub generates_vector : VectorOperation → (d : ℕ) → Registers → Operation
generates_vector o d r = with_rule Set (Effect.ComputeVector o d (r.vector d) 0 0 0)

-- vector register d becomes n, its elements shifted by a base plus a displacement; of that sum the low six bits count
abbrev pub shifts_vector : ShiftOperator → ElementSize → (d n base displacement : ℕ) → Registers → Operation
shifts_vector operator size d n base displacement r = computes_one_vector (ShiftElements operator size (address_by_base r base (pos displacement) % 64)) d n r

-- vector register d becomes general registers n and m, one behind the other
abbrev pub joins_registers : (d n m : ℕ) → Registers → Operation
joins_registers d n m r = with_rule Kept (Effect.PutVector d all_bits (r.general n * 2 ^ 64 + r.general m))

-- elements of 8, 16 or 32 bits, and else of 64
abbrev pub elements_of : (size : ℕ) → ElementSize
elements_of size = cond (nat_eq size 8) Byte (cond (nat_eq size 16) Halfword (cond (nat_eq size 32) Word Doubleword))

-- the bits of one element
abbrev pub lane_bits : ElementSize → (lane : ℕ) → ℕ
lane_bits size lane = (2 ^ element_bits size - 1) * 2 ^ (128 - element_bits size * (lane + 1))

-- vector register d gets an immediate at one element; the other elements may become any
abbrev pub inserts_immediate_alone : ElementSize → (d bits lane : ℕ) → Registers → Operation
inserts_immediate_alone size d bits lane r = with_rule Kept (Effect.PutVector d (lane_bits size lane) (vector_result (InsertImmediate size bits lane) (r.vector d) 0 0 0))

-- vector register d gets the low bits of a number at one of its elements, of which some bits are told; where it has no such element, it may have any value
abbrev pub puts_element : ElementSize → (known d index x : ℕ) → Registers → Operation
puts_element size known d index x r =
    if nat_lt index (lane_count size) then with_rule Kept (Effect.PutVector d known (register_after_load (VectorLayout.Element size index false) (r.vector d) (x % 2 ^ element_bits size)))
    else with_rule Kept (Effect.PutVector d 0 0)

-- the number of an element: a base plus a displacement
abbrev pub element_index : Registers → (base displacement : ℕ) → ℕ
element_index r base displacement = address_by_base r base (pos displacement)

-- general register n in one element of vector register d
abbrev pub inserts_lane : ElementSize → (d n base displacement : ℕ) → Registers → Operation
inserts_lane size d n base displacement r = puts_element size all_bits d (element_index r base displacement) (r.general n) r

-- general register n in one element of vector register d, where the other elements may become any
abbrev pub inserts_lane_alone : ElementSize → (d n base displacement : ℕ) → Registers → Operation
inserts_lane_alone size d n base displacement r = puts_element size (lane_bits size (element_index r base displacement)) d (element_index r base displacement) (r.general n) r

-- general register d becomes one element of vector register n, without a sign; where it has no such element, it may have any value
abbrev pub extracts_lane : ElementSize → (d n base displacement : ℕ) → Registers → Operation
extracts_lane size d n base displacement r =
    if nat_lt (element_index r base displacement) (lane_count size) then computes_immediate Kept (on_doublewords Operator.Move) d d (lane (element_bits size) (r.vector n) (element_index r base displacement)) r
    else havocs d r

-- the leftmost element of vector register d becomes that of n; the rest may become any
abbrev pub moves_left : ElementSize → (d n : ℕ) → Registers → Operation
moves_left size d n r = with_rule Kept (Effect.PutVector d (left_bits size) (r.vector n))

-- vector register d becomes n with its elements in reverse order
abbrev pub reverses_elements : ElementSize → (d n : ℕ) → Registers → Operation
reverses_elements size d n r = with_rule Kept (Effect.PutVector d all_bits (with_reversed_elements size (r.vector n)))

-- the instructions that are one operation
abbrev pub vector_operation : VecInst → Option (Registers → Operation)
vector_operation (V.VecRRR op rd rn rm) = Some (computes_two_vectors (binary_operation op) (number_of rd) (number_of rn) (number_of rm))
vector_operation (V.VecRR op rd rn) = Some (computes_one_vector (unary_operation op) (number_of rd) (number_of rn))
vector_operation (V.VecSelect rd rn rm ra) = Some (computes_three_vectors Select (number_of rd) (number_of rn) (number_of rm) (number_of ra))
vector_operation (V.VecPermute rd rn rm ra) = Some (computes_three_vectors Permute (number_of rd) (number_of rn) (number_of rm) (number_of ra))
vector_operation (V.VecBlend rd rn rm ra) = Some (computes_three_vectors Blend (number_of rd) (number_of rn) (number_of rm) (number_of ra))
vector_operation (V.VecIntCmp op rd rn rm) = Some (computes_two_vectors (comparison_operation op false) (number_of rd) (number_of rn) (number_of rm))
vector_operation (V.VecIntCmpS op rd rn rm) = Some (computes_two_vectors (comparison_operation op true) (number_of rd) (number_of rn) (number_of rm))
vector_operation (V.VecIntEltCmp op rn rm) = Some (compares_vectors (element_comparison op) (number_of rn) (number_of rm))
vector_operation (V.VecMov rd rn) = Some (computes_one_vector Move (number_of rd) (number_of rn))
vector_operation (V.VecShiftRR op rd rn amount register) = Some (shifts_vector (shift_operator op) (shifted_elements op) (number_of rd) (number_of rn) (number_of register) (low_byte amount))
vector_operation (V.VecEvaluate imm rd rn rm ra) = Some (computes_three_vectors (Evaluate (low_byte imm)) (number_of rd) (number_of rn) (number_of rm) (number_of ra))
vector_operation (V.VecPermuteDWImm rd rn rm first second) = Some (computes_two_vectors (PermuteDoublewords first second) (number_of rd) (number_of rn) (number_of rm))
vector_operation (V.MovToVec128 rd rn rm) = Some (joins_registers (number_of rd) (number_of rn) (number_of rm))
vector_operation (V.VecImmByteMask rd mask) = Some (generates_vector (ByteMask (low_halfword (pos mask))) (number_of rd))
vector_operation (V.VecImmReplicate size rd imm) = Some (generates_vector (ReplicateImmediate (elements_of size) (low_halfword imm)) (number_of rd))
vector_operation (V.VecImmBitMask size rd start end) = Some (generates_vector (BitMask (elements_of size) start end) (number_of rd))
vector_operation (V.VecReplicateLane size rd rn lane) = Some (computes_one_vector (Replicate (elements_of size) lane) (number_of rd) (number_of rn))
vector_operation (V.VecInsertLaneImm size rd ri imm lane) = Some (generates_vector (InsertImmediate (elements_of size) (low_halfword imm) lane) (number_of rd))
vector_operation (V.VecInsertLaneImmUndef size rd imm lane) = Some (inserts_immediate_alone (elements_of size) (number_of rd) (low_halfword imm) lane)
vector_operation (V.VecInsertLane size rd ri rn lane base) = Some (inserts_lane (elements_of size) (number_of rd) (number_of rn) (number_of base) lane)
vector_operation (V.VecInsertLaneUndef size rd rn lane base) = Some (inserts_lane_alone (elements_of size) (number_of rd) (number_of rn) (number_of base) lane)
vector_operation (V.VecExtractLane size rd rn lane base) = Some (extracts_lane (elements_of size) (number_of rd) (number_of rn) (number_of base) lane)
vector_operation (V.FpuMove32 rd rn) = Some (moves_left Word (number_of rd) (number_of rn))
vector_operation (V.FpuMove64 rd rn) = Some (moves_left Doubleword (number_of rd) (number_of rn))
vector_operation (V.VecEltRev count rd rn) = Some (reverses_elements (elements_of (128 / count)) (number_of rd) (number_of rn))
vector_operation _ = None

-- an operation that is done where the mask selects the condition code
pub record ConditionalOperation : Type 0 where
  pub mask : ℕ
  pub operation : Registers → Operation

-- the instructions that are one operation under a condition
abbrev pub conditional_operation : VecInst → Option ConditionalOperation
conditional_operation (V.FpuCMov32 rd mask ri rm) = Some (record { mask = four_bits mask; operation = moves_left Word (number_of rd) (number_of rm) })
conditional_operation (V.FpuCMov64 rd mask ri rm) = Some (record { mask = four_bits mask; operation = moves_left Doubleword (number_of rd) (number_of rm) })
conditional_operation (V.VecCMov rd mask ri rm) = Some (record { mask = four_bits mask; operation = computes_one_vector Move (number_of rd) (number_of rm) })
conditional_operation _ = None
