-- The steps of one row on vector registers: an operation of its lanes, which may stop where it divides.
use Rattle.std.proofs.Common.{◌≡◌, ℕ, ◌+◌, ◌-◌, ◌*◌, ◌%◌, ◌<◌, ℤ, pos, inl, inr, [], ◌∷◌, length, Option, Some, None, Bool, true, false, cond, ◌&&◌, not, IsTrue, refl, sym, ap, ◌∙◌, subst, arith, nat_lt, nat_eq, bit_and, ltb-true, true≢false}
use Rattle.std.proofs.lemmas.Bool.{and_parts}
use Rattle.s390x_base.specs.Regs.{number_of, is_int}
use Rattle.s390x_base.specs.declared.regs.Reg.{Reg}
use Rattle.s390x_base.specs.declared.regs.Reg.TheVariants.{Real, Virtual}
use Rattle.s390x_base.specs.declared.trap.TrapKind.{TrapKind}
use Rattle.s390x_base.specs.declared.trap.TrapKind.TheVariants.{IntegerDivisionByZero}
use Rattle.s390x_inst.specs.declared.vec_inst.VecInst.{VecInst}
use Rattle.s390x_inst.specs.declared.vec_inst.VecInst.TheVariants as V
use Rattle.s390x_inst.specs.declared.vec_ops.VecBinaryOp.{VecBinaryOp}
use Rattle.s390x_inst.specs.declared.vec_ops.VecBinaryOp.TheVariants as B
use Rattle.s390x_inst.specs.declared.vec_ops.VecUnaryOp.{VecUnaryOp}
use Rattle.s390x_inst.specs.declared.vec_ops.VecUnaryOp.TheVariants as U
use Rattle.s390x_inst.specs.declared.vec_ops.VecShiftOp.{VecShiftOp}
use Rattle.s390x_inst.specs.declared.vec_ops.VecIntCmpOp.{VecIntCmpOp}
use Rattle.s390x_inst.specs.declared.vec_ops.VecIntCmpOp.TheVariants as C
use Rattle.s390x_inst.specs.declared.vec_ops.VecIntEltCmpOp.{VecIntEltCmpOp}
use Rattle.s390x_inst.specs.declared.vec_ops.VecIntEltCmpOp.TheVariants as E
use Rattle.s390x_format.specs.Formats.{layout_of}
use Rattle.s390x_format.specs.declared.kind.FormatKind.TheVariants.{Rr}
use Rattle.s390x_format.specs.declared.row.Allowed.TheVariants.{Any}
use Rattle.s390x_format.specs.Layout.{SlotsFit}
use Rattle.s390x_format.specs.View.{fields_of}
use Rattle.s390x_format.proofs.Encoding.{encode-length}
use Rattle.s390x_lanes.specs.Lanes.{from_lanes}
use Rattle.s390x_lanes.specs.Size.{element_bits, lane_count}
use Rattle.s390x_lanes.specs.declared.size.ElementSize.{ElementSize}
use Rattle.s390x_lanes.specs.declared.size.ElementSize.TheVariants.{Byte, Word, Doubleword}
use Rattle.s390x_lanes.specs.Relation.{code_of, divides_by_zero, division_overflows, is_determined}
use Rattle.s390x_lanes.specs.Rows.{operation_of}
use Rattle.s390x_lanes.specs.Results.{vector_result}
use Rattle.s390x_lanes.specs.declared.operators.VectorOperation.{VectorOperation}
use Rattle.s390x_lanes.specs.declared.operators.VectorOperation.TheVariants as O
use Rattle.s390x_operations.specs.State.{Registers}
use Rattle.s390x_operations.specs.Effects.{Refines, vector_code}
use Rattle.s390x_operations.specs.declared.effect.CodeRule.TheVariants.{Kept, Set}
use Rattle.s390x_operations.specs.declared.effect.Effect.{Effect}
use Rattle.s390x_operations.specs.declared.effect.Operation.{Operation}
use Rattle.s390x_operations.specs.declared.stop.StopKind.{StopKind}
use Rattle.s390x_operations.specs.declared.stop.StopKind.TheVariants.{Divide}
use Rattle.s390x_rows.specs.declared.opcodes.TheConstants as opcodes
use Rattle.s390x_typed_steps.specs.General.{is_general, low_halfword, low_byte}
use Rattle.s390x_typed_steps.specs.MachineInstruction.{MachineInstruction, bytes_of, size_of, rr, vri_b, vri_c, vri_a, vri_k, vrr_a, vrr_b, vrr_c, vrr_d, vrr_e, vrr_f, vrs_a}
use Rattle.s390x_typed_steps.specs.Parts.{step_parts, row_part, parts_or}
use Rattle.s390x_typed_steps.specs.SingleInstruction.{single_with}
use Rattle.s390x_typed_steps.specs.Steps.{Step}
use Rattle.s390x_typed_steps.specs.Traps.{first_code}
use Rattle.s390x_typed_steps.specs.VectorInstruction.{is_vector, element_code, doublewords_row, replicate_row, vector_row, vector_operands_valid, vector_stop, divides, replicate_lane_row, bit_mask_row, insert_immediate_opcode, insert_immediate_row, move_left_row, reuses_vector}
use Rattle.s390x_typed_steps.specs.VectorOpcodes.{binary_row, unary_row, shift_row, comparison_row, element_comparison_row, is_division}
use Rattle.s390x_format.specs.declared.semantics.RowSemantics.TheVariants.{Elements, JoinRegisters, MoveLeft}
use Rattle.s390x_format.specs.declared.semantics.RowSemantics.TheVariants as Row
use Rattle.s390x_machine.specs.declared.action_type.Action.TheVariants.{Perform}
use Rattle.s390x_machine.specs.CodeAt.{ImageAt, OperandsValidOr}
use Rattle.s390x_machine.specs.Computations.{with_rule}
use Rattle.s390x_machine.specs.Layout.{Layout, step_address}
use Rattle.s390x_machine.specs.Operands.{address_by_base}
use Rattle.s390x_machine.specs.OneStep.{StepRuns}
use Rattle.s390x_machine.specs.Semantics.{on_elements, left_bits, vector_field, register_field}
use Rattle.s390x_machine.specs.StepKinds.{Performs, Unsupported, no_code, division_code, kind_or, on_vectors}
use Rattle.s390x_machine.specs.Typed.{kind_of_step}
use Rattle.s390x_machine.specs.VectorOperations.{binary_operation, unary_operation, shift_operator, shifted_elements, comparison_operation, element_comparison}
use Rattle.s390x_machine.specs.VectorSteps.{computes_two_vectors, computes_one_vector, computes_three_vectors, generates_vector, shifts_vector, joins_registers, elements_of, vector_operation, lane_bits, inserts_immediate_alone, inserts_lane, moves_left}
use Rattle.s390x_machine.proofs.Built.{StepAt, exactly, meant_runs, step_even, some_bytes, uncoded, one_row, one_recorded, row_alone}
use Rattle.s390x_machine.proofs.Operands.{halfword_bits}
use Rattle.s390x_machine.proofs.Rows.{general_number, fits_rr}
use Rattle.s390x_machine.proofs.Listing.{Meant, few_digits, some_opcode, lists_row}
use Rattle.s390x_machine.proofs.SingleInstruction.{DoesThere, meant_at, row_tells}
use Rattle.s390x_machine.proofs.Simulation.{ValuesCoded, Coded}
use Rattle.s390x_machine.proofs.Stops.{only_by, never_by_values}
use Rattle.s390x_machine.proofs.Trapping.{division_late, late_code}
use Rattle.s390x_machine.proofs.VectorLanes.{IsOptionalRow, alone_inserted_runs, inserts_never, lane_extracted_runs, lane_inserted_runs, lane_runs}
use Rattle.s390x_machine.proofs.VectorRows.{ElementsRow, elements_listed, elements_allowed, elements_operation, elements_few, binary_rows, unary_rows, comparison_rows, asking_rows, element_rows, vector_row_of}
use Rattle.s390x_machine.proofs.VectorRows.{select_row, permute_row, blend_row, move_row, opcode_in, allowed_in, fits_vrr_a, fits_vrr_b, fits_vrr_c, fits_vrr_d, fits_vrr_e}
use Rattle.s390x_machine.proofs.VectorRows.{evaluate_row, doublewords_rows, byte_mask_row, replicate_rows, join_row, shift_rows, shift_allowed, shift_code, shift_operation, small_displacement, code_of_size, HasSize, Sized, size_of_elements, lane_rows, bit_mask_rows, insert_rows, ler_row, ldr_row, fits_vri_b, fits_vri_c, fits_vri_a, fits_vri_k, fits_vrr_f, fits_vrs_a}

-- ---- registers

pub vector_number : (r : Reg) → IsTrue (is_vector r) → number_of r < 32
vector_number (Real r) h = ltb-true r.number 32 (and_parts (not (is_int r.class)) (nat_lt r.number 32) h).1
vector_number (Virtual n c) h = absurd (cc)

pub two_vectors : (a b : Reg) → IsTrue (is_vector a && is_vector b) → (number_of a < 32) × (number_of b < 32)
two_vectors a b h = let p = and_parts (is_vector a) (is_vector b) h in (vector_number a p.0, vector_number b p.1)

pub three_vectors : (a b c : Reg) → IsTrue (is_vector a && is_vector b && is_vector c) → (number_of a < 32) × (number_of b < 32) × (number_of c < 32)
three_vectors a b c h =
    let p = and_parts (is_vector a && is_vector b) (is_vector c) h in
    let q = two_vectors a b p.0 in
    (q.0, q.1, vector_number c p.1)

pub four_vectors : (a b c d : Reg) → IsTrue (is_vector a && is_vector b && is_vector c && is_vector d) → (number_of a < 32) × (number_of b < 32) × (number_of c < 32) × (number_of d < 32)
four_vectors a b c d h =
    let p = and_parts (is_vector a && is_vector b && is_vector c) (is_vector d) h in
    let q = three_vectors a b c p.0 in
    (q.0, q.1, q.2, vector_number d p.1)

-- ---- operations on vectors

abbrev pub computed_vector : VectorOperation → (target first second third fourth : ℕ) → Operation
computed_vector o target first second third fourth = with_rule Set (Effect.ComputeVector o target first second third fourth)

-- an operation that divides
abbrev pub is_divide : VectorOperation → Bool
is_divide (O.Divide division sign size) = true
is_divide _ = false

abbrev pub stop_codes : Bool → StopKind → Option TrapKind
stop_codes divides = cond divides division_code no_code

stops_by_zero : (zero : Bool) (kind : StopKind) → cond zero (Some Divide) None ≡ Some kind → kind ≡ Divide
stops_by_zero true kind e = cc
stops_by_zero false kind e = absurd (cc)

-- each of its stops has a code
pub vector_coded : (o : VectorOperation) (target first second third fourth : ℕ) → ValuesCoded (computed_vector o target first second third fourth) (stop_codes (is_divide o))
vector_coded (O.Divide division sign size) t a b c d =
    only_by (computed_vector (O.Divide division sign size) t a b c d) division_code Divide IntegerDivisionByZero refl (stops_by_zero (divides_by_zero (O.Divide division sign size) c)) (λ kind by. by.0)
vector_coded o t a b c d = never_by_values (computed_vector o t a b c d) no_code refl (λ kind by. true≢false (sym by.1))

-- the values that an operation doesn't take may be any
unused : (o : VectorOperation) (t a b c d b2 c2 d2 : ℕ) → divides_by_zero o c ≡ divides_by_zero o c2 → division_overflows o b c ≡ division_overflows o b2 c2 → is_determined o b c ≡ is_determined o b2 c2 →
    vector_result o a b c d ≡ vector_result o a b2 c2 d2 → code_of o a b c ≡ code_of o a b2 c2 → Refines (computed_vector o t a b c d) (computed_vector o t a b2 c2 d2)
unused o t a b c d b2 c2 d2 zero over known same code = record {
  access = refl;
  refused = ap (λ z. cond z (Some Divide) None) zero;
  may_refuse = λ kind h. (h.0, subst IsTrue over h.1);
  results = λ core r h. (
    h.0,
    record {
      no_zero_divisor = sym zero ∙ h.1.no_zero_divisor;
      result = λ k. h.1.result (subst IsTrue (sym known) k) ∙ same;
      fits = h.1.fits;
      code_set = refl;
    },
    h.2,
  );
  code = λ core x h. h ∙ ap (vector_code core.registers.code) code;
}

-- operations that take a fourth value
abbrev takes_fourth : VectorOperation → Bool
takes_fourth O.Select = true
takes_fourth O.Permute = true
takes_fourth _ = false

no_fourth : (o : VectorOperation) → takes_fourth o ≡ false → (t a b c d : ℕ) → Refines (computed_vector o t a b c d) (computed_vector o t a b c 0)
no_fourth O.Select h t a b c d = absurd (true≢false h)
no_fourth O.Permute h t a b c d = absurd (true≢false h)
no_fourth o h t a b c d = unused o t a b c d b c 0 refl refl refl refl refl

-- operations on one value beside the old one
abbrev takes_second_alone : VectorOperation → Bool
takes_second_alone (O.Unary operator size) = true
takes_second_alone (O.Unpack sign half size) = true
takes_second_alone (O.Replicate size index) = true
takes_second_alone O.Move = true
takes_second_alone (O.CompareElement sign size) = true
takes_second_alone _ = false

pub no_third : (o : VectorOperation) → takes_second_alone o ≡ true → (t a b c d : ℕ) → Refines (computed_vector o t a b c d) (computed_vector o t a b 0 0)
no_third (O.Unary operator size) h t a b c d = unused (O.Unary operator size) t a b c d b 0 0 refl refl refl refl refl
no_third (O.Unpack sign half size) h t a b c d = unused (O.Unpack sign half size) t a b c d b 0 0 refl refl refl refl refl
no_third (O.Replicate size index) h t a b c d = unused (O.Replicate size index) t a b c d b 0 0 refl refl refl refl refl
no_third O.Move h t a b c d = unused O.Move t a b c d b 0 0 refl refl refl refl refl
no_third (O.CompareElement sign size) h t a b c d = unused (O.CompareElement sign size) t a b c d b 0 0 refl refl refl refl refl
no_third _ h t a b c d = absurd (true≢false (sym h))

-- operations on no value beside the old one
abbrev takes_none : VectorOperation → Bool
takes_none (O.ByteMask mask) = true
takes_none (O.BitMask size start end) = true
takes_none (O.ReplicateImmediate size value) = true
takes_none (O.InsertImmediate size value index) = true
takes_none _ = false

no_second : (o : VectorOperation) → takes_none o ≡ true → (t a b c d : ℕ) → Refines (computed_vector o t a b c d) (computed_vector o t a 0 0 0)
no_second (O.ByteMask mask) h t a b c d = unused (O.ByteMask mask) t a b c d 0 0 0 refl refl refl refl refl
no_second (O.BitMask size start end) h t a b c d = unused (O.BitMask size start end) t a b c d 0 0 0 refl refl refl refl refl
no_second (O.ReplicateImmediate size value) h t a b c d = unused (O.ReplicateImmediate size value) t a b c d 0 0 0 refl refl refl refl refl
no_second (O.InsertImmediate size value index) h t a b c d = unused (O.InsertImmediate size value index) t a b c d 0 0 0 refl refl refl refl refl
no_second _ h t a b c d = absurd (true≢false (sym h))

-- a register with an immediate at one element, of which that element alone is told
inserts_alone : (e : ElementSize) (t bits lane known a b c d : ℕ) → Refines (computed_vector (O.InsertImmediate e bits lane) t a b c d) (with_rule Kept (Effect.PutVector t known (vector_result (O.InsertImmediate e bits lane) a 0 0 0)))
inserts_alone e t bits lane known a b c d = record {
  access = refl;
  refused = refl;
  may_refuse = λ kind h. true≢false (sym h.1);
  results = λ core r h. (h.0, h.1.fits, ap (λ y. bit_and y known) (h.1.result refl), h.2);
  code = λ core x h. h;
}

whole_vector : (a b c d : ℕ) → vector_result O.Move a b c d ≡ b
unfolding from_lanes
whole_vector a b c d = omega arith

-- a whole register, of which some bits are told
pub moves_alone : (t known a b c d : ℕ) → Refines (computed_vector O.Move t a b c d) (with_rule Kept (Effect.PutVector t known b))
moves_alone t known a b c d = record {
  access = refl;
  refused = refl;
  may_refuse = λ kind h. true≢false (sym h.1);
  results = λ core r h. (h.0, h.1.fits, ap (λ y. bit_and y known) (h.1.result refl ∙ whole_vector a b c d), h.2);
  code = λ core x h. h;
}

-- ---- operators

binary_takes : (op : VecBinaryOp) → takes_fourth (binary_operation op) ≡ false
binary_takes B.Add8x16 = refl
binary_takes _ = refl

unary_takes : (op : VecUnaryOp) → takes_second_alone (unary_operation op) ≡ true
unary_takes U.Abs8x16 = refl
unary_takes _ = refl

pub unary_never : (op : VecUnaryOp) → is_divide (unary_operation op) ≡ false
unary_never U.Abs8x16 = refl
unary_never _ = refl

pub divisions_agree : (op : VecBinaryOp) → is_divide (binary_operation op) ≡ is_division op
divisions_agree B.Add8x16 = refl
divisions_agree _ = refl

comparison_takes : (op : VecIntCmpOp) (sets : Bool) → takes_fourth (comparison_operation op sets) ≡ false
comparison_takes C.CmpEq8x16 sets = refl
comparison_takes _ sets = refl

pub comparison_never : (op : VecIntCmpOp) (sets : Bool) → is_divide (comparison_operation op sets) ≡ false
comparison_never C.CmpEq8x16 sets = refl
comparison_never _ sets = refl

element_takes : (op : VecIntEltCmpOp) → takes_second_alone (element_comparison op) ≡ true
element_takes E.SCmp128 = refl
element_takes E.UCmp128 = refl

pub element_never : (op : VecIntEltCmpOp) → is_divide (element_comparison op) ≡ false
element_never E.SCmp128 = refl
element_never E.UCmp128 = refl

lane_small : (e : ElementSize) (lane : ℕ) → lane < lane_count e → lane < 65536
lane_small Byte lane lt = omega (arith, lt)
lane_small e lane lt = omega (arith, lt)

bit_small : (e : ElementSize) (bit : ℕ) → bit < element_bits e → bit < 256
bit_small Byte bit lt = omega (arith, lt)
bit_small e bit lt = omega (arith, lt)

pub reused_vector : (output input : Reg) → IsTrue (reuses_vector output input) → number_of output < 32
reused_vector output input h = (two_vectors output input (and_parts (is_vector output && is_vector input) (nat_eq (number_of output) (number_of input)) h).0).0

-- ---- one row

-- what the machine computes there
abbrev pub elements_computed : MachineInstruction → VectorOperation → Registers → Operation
elements_computed x o r =
    let f = fields_of x.format x.slots in computed_vector o (register_field f 0) (vector_field f r 0) (vector_field f r 1) (vector_field f r 2) (vector_field f r 3)

abbrev stop_of : Bool → Option TrapKind
stop_of divides = cond divides (Some IntegerDivisionByZero) None

-- a row on vector registers does its operation wherever it stands
pub vector_there : (L : Layout) (image : ImageAt L) (offset : ℕ) (even : offset % 2 ≡ 0) {code : ℕ} (x : MachineInstruction) (o : VectorOperation) → ElementsRow code x o → SlotsFit (layout_of x.format) x.slots → DoesThere L image offset even x (elements_computed x o)
vector_there L image offset even x o row fit st =
    let f = fields_of x.format x.slots in
    meant_at L image offset even x (Elements (vector_row_of (opcode_in x))) (elements_computed x o) (elements_listed row, refl) fit (elements_allowed row) (λ r p.
    ap (λ q. on_elements q (register_field f 0) (vector_field f r 0) (vector_field f r 1) (vector_field f r 2) (vector_field f r 3)) (elements_operation row)) st

module _ {L : Layout} {k : ℕ} {s : Step} (b : StepAt L k s) where
  vector_at : {code : ℕ} (x : MachineInstruction) (o : VectorOperation) → ElementsRow code x o → SlotsFit (layout_of x.format) x.slots → DoesThere L b.image (L.offsets.step k) (step_even b) x (elements_computed x o)
  vector_at x o row fit st = vector_there L b.image (L.offsets.step k) (step_even b) x o row fit st

  -- a row on vector registers whose operation is the step's or is less free; where it divides, a trap is recorded at its last byte
  pub vector_runs : {code : ℕ} (x : MachineInstruction) (o : VectorOperation) (operation : Registers → Operation) (divides : Bool) → ElementsRow code x o → SlotsFit (layout_of x.format) x.slots → ((r : Registers) → Refines (elements_computed x o r) (operation r)) → ((r : Registers) → ValuesCoded (operation r) (stop_codes divides)) →
      kind_of_step L (Some s) ≡ Some (Performs false operation (stop_codes divides)) → step_parts s ≡ row_part x (stop_of divides) ∷ [] → StepRuns L k
  vector_runs x o operation false row fit refines values is parts =
      let one = one_row b x parts in
      row_alone b operation no_code (λ r. Perform (elements_computed x o r)) (size_of x) is (vector_at x o row fit one.stands) refines (uncoded L (step_address L k)) values one.size (some_bytes x.format)
  vector_runs x o operation true row fit refines values is parts =
      let offset = L.offsets.step k in
      let some : 0 < size_of x = some_bytes x.format in
      let one = one_recorded b x (size_of x - 1) IntegerDivisionByZero parts (omega (arith, some)) in
      let long : 0 < length (bytes_of x) = omega (arith, encode-length x.format x.slots, some) in
      let tells = row_tells x (allowed_in x) (some_opcode (elements_listed row)) (lists_row (elements_listed row)) fit (elements_allowed row) in
      let with_code : Coded L (step_address L k) division_code = λ kind y e.
      let h = division_late L kind y e in
      late_code L b.image.fits offset (bytes_of x) one.row.stands long kind h.0 ∙ ap (λ n. first_code L.traps (offset + (n - 1))) tells ∙ one.found ∙ ap Some (sym h.1) in
      row_alone b operation division_code (λ r. Perform (elements_computed x o r)) (size_of x) is (vector_at x o row fit one.row.stands) refines with_code values one.row.size some

  -- a step that is one operation which never stops, and one row
  abbrev IsVectorRow : MachineInstruction → (Registers → Operation) → Type 0
  IsVectorRow x operation = (kind_of_step L (Some s) ≡ Some (Performs false operation no_code)) × (step_parts s ≡ row_part x None ∷ [])

  -- and its row has these values
  abbrev Computes : MachineInstruction → VectorOperation → (target n m a : ℕ) → Type 0
  Computes x o target n m a = (r : Registers) → elements_computed x o r ≡ computed_vector o target (r.vector target) (r.vector n) (r.vector m) (r.vector a)

  -- an operation on two, one or three vector registers. The first may be a division, and so stop
  two_vectors_run : {code : ℕ} (x : MachineInstruction) (o : VectorOperation) (divides : Bool) (d n m : ℕ) → ElementsRow code x o → SlotsFit (layout_of x.format) x.slots → takes_fourth o ≡ false → is_divide o ≡ divides → Computes x o d n m 0 →
      kind_of_step L (Some s) ≡ Some (Performs false (computes_two_vectors o d n m) (stop_codes divides)) → step_parts s ≡ row_part x (stop_of divides) ∷ [] → StepRuns L k
  two_vectors_run x o divides d n m row fit takes agrees fields kind parts =
      vector_runs x o (computes_two_vectors o d n m) divides row fit
      (λ r. subst (λ (y : Operation). Refines y (computes_two_vectors o d n m r)) (sym (fields r)) (no_fourth o takes d (r.vector d) (r.vector n) (r.vector m) (r.vector 0)))
      (λ r. subst (λ t. ValuesCoded (computes_two_vectors o d n m r) (stop_codes t)) agrees (vector_coded o d (r.vector d) (r.vector n) (r.vector m) 0)) kind parts

  one_vector_runs : {code : ℕ} (x : MachineInstruction) (o : VectorOperation) (d n : ℕ) → ElementsRow code x o → SlotsFit (layout_of x.format) x.slots → takes_second_alone o ≡ true → is_divide o ≡ false → Computes x o d n 0 0 → IsVectorRow x (computes_one_vector o d n) → StepRuns L k
  one_vector_runs x o d n row fit takes never fields is =
      vector_runs x o (computes_one_vector o d n) false row fit
      (λ r. subst (λ (y : Operation). Refines y (computes_one_vector o d n r)) (sym (fields r)) (no_third o takes d (r.vector d) (r.vector n) (r.vector 0) (r.vector 0)))
      (λ r. subst (λ t. ValuesCoded (computes_one_vector o d n r) (stop_codes t)) never (vector_coded o d (r.vector d) (r.vector n) 0 0)) is.0 is.1

  three_vectors_run : {code : ℕ} (x : MachineInstruction) (o : VectorOperation) (d n m a : ℕ) → ElementsRow code x o → SlotsFit (layout_of x.format) x.slots → is_divide o ≡ false → Computes x o d n m a → IsVectorRow x (computes_three_vectors o d n m a) → StepRuns L k
  three_vectors_run x o d n m a row fit never fields is =
      vector_runs x o (computes_three_vectors o d n m a) false row fit
      (λ r. subst (λ (y : Operation). Refines y (computes_three_vectors o d n m a r)) (sym (fields r)) (exactly (computes_three_vectors o d n m a r)))
      (λ r. subst (λ t. ValuesCoded (computes_three_vectors o d n m a r) (stop_codes t)) never (vector_coded o d (r.vector d) (r.vector n) (r.vector m) (r.vector a))) is.0 is.1

  -- by their formats
  vrr_a_runs : (opcode code d n : ℕ) (o : VectorOperation) → ElementsRow code (vrr_a opcode d n code) o → (d < 32) × (n < 32) → takes_second_alone o ≡ true → is_divide o ≡ false → IsVectorRow (vrr_a opcode d n code) (computes_one_vector o d n) → StepRuns L k
  vrr_a_runs opcode code d n o row few takes never is =
      one_vector_runs (vrr_a opcode d n code) o d n row (fits_vrr_a opcode d n code (few_digits (elements_listed row)) few.0 few.1 (elements_few row)) takes never (λ r. refl) is

  vrr_b_runs : (opcode code d n m asks : ℕ) (o : VectorOperation) → ElementsRow code (vrr_b opcode d n m code asks) o → (d < 32) × (n < 32) × (m < 32) → asks < 16 → takes_fourth o ≡ false → is_divide o ≡ false → IsVectorRow (vrr_b opcode d n m code asks) (computes_two_vectors o d n m) → StepRuns L k
  vrr_b_runs opcode code d n m asks o row few asked takes never is =
      two_vectors_run (vrr_b opcode d n m code asks) o false d n m row (fits_vrr_b opcode d n m code asks (few_digits (elements_listed row)) few.0 few.1 few.2 (elements_few row) asked) takes never (λ r. refl) is.0 is.1

  vrr_c_runs : (opcode code d n m : ℕ) (o : VectorOperation) (divides : Bool) → ElementsRow code (vrr_c opcode d n m code) o → (d < 32) × (n < 32) × (m < 32) → takes_fourth o ≡ false → is_divide o ≡ divides →
      kind_of_step L (Some s) ≡ Some (Performs false (computes_two_vectors o d n m) (stop_codes divides)) → step_parts s ≡ row_part (vrr_c opcode d n m code) (stop_of divides) ∷ [] → StepRuns L k
  vrr_c_runs opcode code d n m o divides row few takes agrees kind parts =
      two_vectors_run (vrr_c opcode d n m code) o divides d n m row (fits_vrr_c opcode d n m code (few_digits (elements_listed row)) few.0 few.1 few.2 (elements_few row)) takes agrees (λ r. refl) kind parts

  vrr_e_runs : (opcode d n m a : ℕ) (o : VectorOperation) → ElementsRow 0 (vrr_e opcode d n m a) o → (d < 32) × (n < 32) × (m < 32) × (a < 32) → is_divide o ≡ false → IsVectorRow (vrr_e opcode d n m a) (computes_three_vectors o d n m a) → StepRuns L k
  vrr_e_runs opcode d n m a o row few never is =
      three_vectors_run (vrr_e opcode d n m a) o d n m a row (fits_vrr_e opcode d n m a (few_digits (elements_listed row)) few.0 few.1 few.2 few.3) never (λ r. refl) is

  generated_runs : {code : ℕ} (x : MachineInstruction) (o : VectorOperation) (d : ℕ) → ElementsRow code x o → SlotsFit (layout_of x.format) x.slots → takes_none o ≡ true → is_divide o ≡ false → Computes x o d 0 0 0 → IsVectorRow x (generates_vector o d) → StepRuns L k
  generated_runs x o d row fit takes never fields is =
      vector_runs x o (generates_vector o d) false row fit
      (λ r. subst (λ (y : Operation). Refines y (generates_vector o d r)) (sym (fields r)) (no_second o takes d (r.vector d) (r.vector 0) (r.vector 0) (r.vector 0)))
      (λ r. subst (λ t. ValuesCoded (generates_vector o d r) (stop_codes t)) never (vector_coded o d (r.vector d) 0 0 0)) is.0 is.1

  -- two doublewords, by their numbers
  doublewords_run : (valid : Bool) (d n m first second : ℕ) → (IsTrue valid → (d < 32) × (n < 32) × (m < 32)) →
      (kind_of_step L (Some s) ≡ Some (Performs false (computes_two_vectors (O.PermuteDoublewords first second) d n m) no_code)) × (step_parts s ≡ parts_or (single_with valid (doublewords_row d n m first second)) None []) × OperandsValidOr (single_with valid (doublewords_row d n m first second)) ⊥ → StepRuns L k
  doublewords_run valid d n m first second small is = go (nat_lt first 2 && nat_lt second 2) refl is.1 is.2
    where
      go : (t : Bool) → (nat_lt first 2 && nat_lt second 2) ≡ t → step_parts s ≡ parts_or (single_with valid (cond t (Some (vrr_c opcodes.VPDI d n m (4 * first + second))) None)) None [] → OperandsValidOr (single_with valid (cond t (Some (vrr_c opcodes.VPDI d n m (4 * first + second))) None)) ⊥ → StepRuns L k
      go false e parts able = absurd able
      go true e parts able =
          let tests = and_parts (nat_lt first 2) (nat_lt second 2) e in
          let few = small able in
          let row = doublewords_rows d n m first second (ltb-true first 2 tests.0) (ltb-true second 2 tests.1) in
          let fit = fits_vrr_c opcodes.VPDI d n m (4 * first + second) (few_digits (elements_listed row)) few.0 few.1 few.2 (elements_few row) in
          two_vectors_run (vrr_c opcodes.VPDI d n m (4 * first + second)) (O.PermuteDoublewords first second) false d n m row fit refl refl (λ r. refl) is.0 parts

  -- elements shifted by an amount
  shifted_vector_runs : (op : VecShiftOp) (d n base displacement : ℕ) → (d < 32) × (n < 32) × (base < 16) → displacement < 4096 →
      IsVectorRow (vrs_a (shift_row op).opcode d base n (shift_row op).code displacement) (shifts_vector (shift_operator op) (shifted_elements op) d n base displacement) → StepRuns L k
  shifted_vector_runs op d n base displacement few small is =
      let x = vrs_a (shift_row op).opcode d base n (shift_row op).code displacement in
      let does = shifts_vector (shift_operator op) (shifted_elements op) d n base displacement in
      let fit = fits_vrs_a (shift_row op).opcode d base n (shift_row op).code displacement (few_digits (shift_rows op).0) few.0 few.2 few.1 (shift_code op) small in
      meant_runs b x (Row.ShiftElements (vector_row_of (shift_row op).opcode)) does (λ r. never_by_values (does r) no_code refl (λ kind by. true≢false (sym by.1))) is (shift_rows op) fit (shift_allowed op d base n displacement) (λ r p.
      ap (λ (z : ℤ). on_elements (operation_of (vector_row_of (shift_row op).opcode) ((shift_row op).code ∷ 0 ∷ 0 ∷ []) (pos (address_by_base r base z % 64))) d (r.vector d) (r.vector n) 0 0) (small_displacement displacement small)
      ∙ ap (λ q. on_elements q d (r.vector d) (r.vector n) 0 0) (shift_operation op (address_by_base r base (pos displacement) % 64) (omega arith)))

  -- two general registers, one behind the other
  joined_runs : (d n m : ℕ) → (d < 32) × (n < 16) × (m < 16) → IsVectorRow (vrr_f opcodes.VLVGP d n m) (joins_registers d n m) → StepRuns L k
  joined_runs d n m few is =
      meant_runs b (vrr_f opcodes.VLVGP d n m) JoinRegisters (joins_registers d n m) (λ r. never_by_values (joins_registers d n m r) no_code refl (λ kind h. h)) is join_row (fits_vrr_f opcodes.VLVGP d n m (few_digits join_row.0) few.0 few.1 few.2) refl (λ r p. refl)

  -- an immediate in each element
  replicated_runs : (valid : Bool) (size d bits : ℕ) → (IsTrue valid → d < 32) → bits < 65536 →
      (kind_of_step L (Some s) ≡ Some (Performs false (generates_vector (O.ReplicateImmediate (elements_of size) bits) d) no_code)) × (step_parts s ≡ parts_or (single_with valid (replicate_row (element_code size) d bits)) None []) × OperandsValidOr (single_with valid (replicate_row (element_code size) d bits)) ⊥ → StepRuns L k
  replicated_runs valid size d bits small few is = go (size_of_elements size)
    where
      go : HasSize size → StepRuns L k
      go (inl none) = absurd (subst (λ o. OperandsValidOr (single_with valid (replicate_row o d bits)) ⊥) none is.2)
      go (inr (e, z)) =
          let x = vri_a opcodes.VREPI d bits (code_of_size e) in
          let o = O.ReplicateImmediate e bits in
          let row = replicate_rows e z.narrow d bits few in
          let able = subst (λ c. OperandsValidOr (single_with valid (replicate_row c d bits)) ⊥) z.code is.2 in
          let fit = fits_vri_a opcodes.VREPI d bits (code_of_size e) (few_digits (elements_listed row)) (small able) few (elements_few row) in
          let parts = is.1 ∙ ap (λ c. parts_or (single_with valid (replicate_row c d bits)) None []) z.code in
          generated_runs x o d row fit refl refl (λ r. refl) (is.0 ∙ ap (λ z. Some (Performs false (generates_vector (O.ReplicateImmediate z bits) d) no_code)) z.elements, parts)

  -- one element for all
  lane_replicated_runs : (valid : Bool) (size d n lane : ℕ) → (IsTrue valid → (d < 32) × (n < 32)) → IsOptionalRow b valid (replicate_lane_row (element_code size) size d n lane) (computes_one_vector (O.Replicate (elements_of size) lane) d n) → StepRuns L k
  lane_replicated_runs valid size d n lane small is =
      lane_runs b valid size lane (λ c. vri_c opcodes.VREP d n lane c) (λ e. computes_one_vector (O.Replicate e lane) d n) (λ e narrow within able parts.
      let row = lane_rows e narrow d n lane within in
      let few = small able in
      let fit = fits_vri_c opcodes.VREP d n lane (code_of_size e) (few_digits (elements_listed row)) few.0 few.1 (lane_small e lane within) (elements_few row) in
      one_vector_runs (vri_c opcodes.VREP d n lane (code_of_size e)) (O.Replicate e lane) d n row fit refl refl (λ r. refl) parts) is

  -- ones from a bit to another one
  bit_mask_runs : (valid : Bool) (size d start end : ℕ) → (IsTrue valid → d < 32) →
      (kind_of_step L (Some s) ≡ Some (Performs false (generates_vector (O.BitMask (elements_of size) start end) d) no_code)) × (step_parts s ≡ parts_or (single_with valid (bit_mask_row (element_code size) size d start end)) None []) × OperandsValidOr (single_with valid (bit_mask_row (element_code size) size d start end)) ⊥ → StepRuns L k
  bit_mask_runs valid size d start end small is = go (size_of_elements size)
    where
      sized : (e : ElementSize) → Sized size e → (t : Bool) → (nat_lt start size && nat_lt end size) ≡ t → step_parts s ≡ parts_or (single_with valid (cond t (Some (vri_b opcodes.VGM d start end (code_of_size e))) None)) None [] → OperandsValidOr (single_with valid (cond t (Some (vri_b opcodes.VGM d start end (code_of_size e))) None)) ⊥ → StepRuns L k
      sized e z false test parts able = absurd able
      sized e z true test parts able =
          let tests = and_parts (nat_lt start size) (nat_lt end size) test in
          let ls = subst (λ w. start < w) z.bits (ltb-true start size tests.0) in
          let le = subst (λ w. end < w) z.bits (ltb-true end size tests.1) in
          let row = bit_mask_rows e z.narrow d start end ls le in
          let fit = fits_vri_b opcodes.VGM d start end (code_of_size e) (few_digits (elements_listed row)) (small able) (bit_small e start ls) (bit_small e end le) (elements_few row) in
          generated_runs (vri_b opcodes.VGM d start end (code_of_size e)) (O.BitMask e start end) d row fit refl refl (λ r. refl) (is.0 ∙ ap (λ z. Some (Performs false (generates_vector (O.BitMask z start end) d) no_code)) z.elements, parts)

      go : HasSize size → StepRuns L k
      go (inl none) = absurd (subst (λ o. OperandsValidOr (single_with valid (bit_mask_row o size d start end)) ⊥) none is.2)
      go (inr (e, z)) =
          sized e z (nat_lt start size && nat_lt end size) refl (is.1 ∙ ap (λ c. parts_or (single_with valid (bit_mask_row c size d start end)) None []) z.code) (subst (λ c. OperandsValidOr (single_with valid (bit_mask_row c size d start end)) ⊥) z.code is.2)

  -- an immediate in one element, whatever is told of the others
  immediate_inserted_runs : (valid : Bool) (size d bits lane : ℕ) (does : ElementSize → Registers → Operation) → ((e : ElementSize) (r : Registers) → Refines (computed_vector (O.InsertImmediate e bits lane) d (r.vector d) (r.vector 0) (r.vector 0) (r.vector 0)) (does e r)) → ((e : ElementSize) (r : Registers) → ValuesCoded (does e r) no_code) → (IsTrue valid → d < 32) → bits < 65536 →
      IsOptionalRow b valid (insert_immediate_row (element_code size) size d bits lane) (does (elements_of size)) → StepRuns L k
  immediate_inserted_runs valid size d bits lane does refines values small lb is =
      lane_runs b valid size lane (λ c. vri_a (insert_immediate_opcode c) d bits lane) does (λ e narrow within able parts.
      let row = insert_rows e narrow d bits lane lb within in
      let x = vri_a (insert_immediate_opcode (code_of_size e)) d bits lane in
      let fit = fits_vri_a (insert_immediate_opcode (code_of_size e)) d bits lane (few_digits (elements_listed row)) (small able) lb (elements_few row) in
      vector_runs x (O.InsertImmediate e bits lane) (does e) false row fit (refines e) (values e) parts.0 parts.1) is

  -- a move of the leftmost element
  left_moved_runs : (opcode : ℕ) (e : ElementSize) → opcode < 256 → Meant Rr Any opcode (MoveLeft e) → (d n : ℕ) → (d < 32) × (n < 32) → IsVectorRow (move_left_row opcode d n) (moves_left e d n) → StepRuns L k
  left_moved_runs opcode e short row d n few is = go (nat_lt d 16 && nat_lt n 16) refl is.1
    where
      go : (t : Bool) → (nat_lt d 16 && nat_lt n 16) ≡ t → step_parts s ≡ row_part (cond t (rr opcode d n) (vrr_a opcodes.VLR d n 0)) None ∷ [] → StepRuns L k
      go true test parts =
          let tests = and_parts (nat_lt d 16) (nat_lt n 16) test in
          meant_runs b (rr opcode d n) (MoveLeft e) (moves_left e d n) (λ r. never_by_values (moves_left e d n r) no_code refl (λ kind h. h)) (is.0, parts) row (fits_rr opcode d n short (ltb-true d 16 tests.0) (ltb-true n 16 tests.1)) refl (λ r p. refl)
      go false test parts =
          let whole = move_row d n in
          vector_runs (vrr_a opcodes.VLR d n 0) O.Move (moves_left e d n) false whole (fits_vrr_a opcodes.VLR d n 0 (few_digits (elements_listed whole)) few.0 few.1 (omega arith)) (λ r. moves_alone d (left_bits e) (r.vector d) (r.vector n) (r.vector 0) (r.vector 0)) (λ r. never_by_values (moves_left e d n r) no_code refl (λ kind h. h)) is.0 parts

-- ---- all of them

-- a step that is a vector instruction's operation, and its row
abbrev pub IsVectorStep : Layout → Step → VecInst → Type 0
IsVectorStep L s v =
    let single = single_with (vector_operands_valid v) (vector_row v) in
    (kind_of_step L (Some s) ≡ Some (kind_or (on_vectors (divides v) (vector_operation v)) Unsupported)) × (step_parts s ≡ parts_or single (vector_stop v) []) × OperandsValidOr single ⊥

pub vector_instruction_runs : {L : Layout} {k : ℕ} {s : Step} (b : StepAt L k s) (v : VecInst) → IsVectorStep L s v → StepRuns L k
vector_instruction_runs b (V.VecRRR op rd rn rm) is = vrr_c_runs b (binary_row op).opcode (binary_row op).code (number_of rd) (number_of rn) (number_of rm) (binary_operation op) (is_division op) (binary_rows op (number_of rd) (number_of rn) (number_of rm)) (three_vectors rd rn rm is.2) (binary_takes op) (divisions_agree op) is.0 is.1
vector_instruction_runs b (V.VecRR op rd rn) is = vrr_a_runs b (unary_row op).opcode (unary_row op).code (number_of rd) (number_of rn) (unary_operation op) (unary_rows op (number_of rd) (number_of rn)) (two_vectors rd rn is.2) (unary_takes op) (unary_never op) (is.0, is.1)
vector_instruction_runs b (V.VecSelect rd rn rm ra) is = vrr_e_runs b opcodes.VSEL (number_of rd) (number_of rn) (number_of rm) (number_of ra) O.Select (select_row (number_of rd) (number_of rn) (number_of rm) (number_of ra)) (four_vectors rd rn rm ra is.2) refl (is.0, is.1)
vector_instruction_runs b (V.VecPermute rd rn rm ra) is = vrr_e_runs b opcodes.VPERM (number_of rd) (number_of rn) (number_of rm) (number_of ra) O.Permute (permute_row (number_of rd) (number_of rn) (number_of rm) (number_of ra)) (four_vectors rd rn rm ra is.2) refl (is.0, is.1)
vector_instruction_runs b (V.VecBlend rd rn rm ra) is =
    let few = four_vectors rd rn rm ra is.2 in
    let row = blend_row (number_of rd) (number_of rn) (number_of rm) (number_of ra) in
    let fit = fits_vrr_d opcodes.VBLEND (number_of rd) (number_of rn) (number_of rm) (number_of ra) 0 (few_digits (elements_listed row)) few.0 few.1 few.2 few.3 (omega arith) in
    three_vectors_run b (vrr_d opcodes.VBLEND (number_of rd) (number_of rn) (number_of rm) (number_of ra) 0) O.Blend (number_of rd) (number_of rn) (number_of rm) (number_of ra) row fit refl (λ r. refl) (is.0, is.1)
vector_instruction_runs b (V.VecIntCmp op rd rn rm) is = vrr_b_runs b (comparison_row op).opcode (comparison_row op).code (number_of rd) (number_of rn) (number_of rm) 0 (comparison_operation op false) (comparison_rows op (number_of rd) (number_of rn) (number_of rm)) (three_vectors rd rn rm is.2) (omega arith) (comparison_takes op false) (comparison_never op false) (is.0, is.1)
vector_instruction_runs b (V.VecIntCmpS op rd rn rm) is = vrr_b_runs b (comparison_row op).opcode (comparison_row op).code (number_of rd) (number_of rn) (number_of rm) 1 (comparison_operation op true) (asking_rows op (number_of rd) (number_of rn) (number_of rm)) (three_vectors rd rn rm is.2) (omega arith) (comparison_takes op true) (comparison_never op true) (is.0, is.1)
vector_instruction_runs b (V.VecIntEltCmp op rn rm) is = vrr_a_runs b (element_comparison_row op).opcode (element_comparison_row op).code (number_of rn) (number_of rm) (element_comparison op) (element_rows op (number_of rn) (number_of rm)) (two_vectors rn rm is.2) (element_takes op) (element_never op) (is.0, is.1)
vector_instruction_runs b (V.VecMov rd rn) is = vrr_a_runs b opcodes.VLR 0 (number_of rd) (number_of rn) O.Move (move_row (number_of rd) (number_of rn)) (two_vectors rd rn is.2) refl refl (is.0, is.1)
vector_instruction_runs b (V.VecShiftRR op rd rn amount register) is =
    let few = and_parts (is_vector rd && is_vector rn) (is_general register) is.2 in
    let two = two_vectors rd rn few.0 in
    shifted_vector_runs b op (number_of rd) (number_of rn) (number_of register) (low_byte amount) (two.0, two.1, general_number register few.1) (omega arith) (is.0, is.1)
vector_instruction_runs b (V.VecEvaluate imm rd rn rm ra) is =
    let few = four_vectors rd rn rm ra is.2 in
    let byte : low_byte imm < 256 = omega arith in
    let row = evaluate_row (low_byte imm) (number_of rd) (number_of rn) (number_of rm) (number_of ra) byte in
    let fit = fits_vri_k opcodes.VEVAL (low_byte imm) (number_of rd) (number_of rn) (number_of rm) (number_of ra) (few_digits (elements_listed row)) byte few.0 few.1 few.2 few.3 in
    three_vectors_run b (vri_k opcodes.VEVAL (low_byte imm) (number_of rd) (number_of rn) (number_of rm) (number_of ra)) (O.Evaluate (low_byte imm)) (number_of rd) (number_of rn) (number_of rm) (number_of ra) row fit refl (λ r. refl) (is.0, is.1)
vector_instruction_runs b (V.VecPermuteDWImm rd rn rm first second) is =
    doublewords_run b (is_vector rd && is_vector rn && is_vector rm) (number_of rd) (number_of rn) (number_of rm) first second (three_vectors rd rn rm) (is.0, is.1, is.2)
vector_instruction_runs b (V.MovToVec128 rd rn rm) is =
    let few = and_parts (is_vector rd && is_general rn) (is_general rm) is.2 in
    let two = and_parts (is_vector rd) (is_general rn) few.0 in
    joined_runs b (number_of rd) (number_of rn) (number_of rm) (vector_number rd two.0, general_number rn two.1, general_number rm few.1) (is.0, is.1)
vector_instruction_runs b (V.VecImmByteMask rd mask) is =
    let bits : low_halfword (pos mask) < 65536 = halfword_bits (pos mask) in
    let row = byte_mask_row (number_of rd) (low_halfword (pos mask)) bits in
    let fit = fits_vri_a opcodes.VGBM (number_of rd) (low_halfword (pos mask)) 0 (few_digits (elements_listed row)) (vector_number rd is.2) bits (omega arith) in
    generated_runs b (vri_a opcodes.VGBM (number_of rd) (low_halfword (pos mask)) 0) (O.ByteMask (low_halfword (pos mask))) (number_of rd) row fit refl refl (λ r. refl) (is.0, is.1)
vector_instruction_runs b (V.VecImmReplicate size rd imm) is =
    replicated_runs b (is_vector rd) size (number_of rd) (low_halfword imm) (vector_number rd) (halfword_bits imm) (is.0, is.1, is.2)
vector_instruction_runs b (V.VecImmBitMask size rd start end) is = bit_mask_runs b (is_vector rd) size (number_of rd) start end (vector_number rd) (is.0, is.1, is.2)
vector_instruction_runs b (V.VecReplicateLane size rd rn lane) is = lane_replicated_runs b (is_vector rd && is_vector rn) size (number_of rd) (number_of rn) lane (two_vectors rd rn) (is.0, is.1, is.2)
vector_instruction_runs b (V.VecInsertLaneImm size rd ri imm lane) is =
    let d = number_of rd in
    let bits = low_halfword imm in
    let does : ElementSize → Registers → Operation = λ e. generates_vector (O.InsertImmediate e bits lane) d in
    immediate_inserted_runs b (reuses_vector rd ri) size d bits lane does (λ e r. no_second (O.InsertImmediate e bits lane) refl d (r.vector d) (r.vector 0) (r.vector 0) (r.vector 0)) (λ e r. vector_coded (O.InsertImmediate e bits lane) d (r.vector d) 0 0 0) (reused_vector rd ri) (halfword_bits imm) (is.0, is.1, is.2)
vector_instruction_runs b (V.VecInsertLaneImmUndef size rd imm lane) is =
    let d = number_of rd in
    let bits = low_halfword imm in
    let does : ElementSize → Registers → Operation = λ e. inserts_immediate_alone e d bits lane in
    immediate_inserted_runs b (is_vector rd) size d bits lane does (λ e r. inserts_alone e d bits lane (lane_bits e lane) (r.vector d) (r.vector 0) (r.vector 0) (r.vector 0)) (λ e r. never_by_values (does e r) no_code refl (λ kind h. h)) (vector_number rd) (halfword_bits imm) (is.0, is.1, is.2)
vector_instruction_runs b (V.VecInsertLane size rd ri rn lane base) is =
    let d = number_of rd in
    let n = number_of rn in
    let m = number_of base in
    lane_inserted_runs b (reuses_vector rd ri && is_general rn && is_general base) size d n m lane (λ e. inserts_lane e d n m lane) (λ e r. exactly (inserts_lane e d n m lane r)) (λ e. inserts_never e d n m lane) (λ h.
    let p = and_parts (reuses_vector rd ri && is_general rn) (is_general base) h in
    let q = and_parts (reuses_vector rd ri) (is_general rn) p.0 in
    (reused_vector rd ri q.0, general_number rn q.1, general_number base p.1)) (is.0, is.1, is.2)
vector_instruction_runs b (V.VecInsertLaneUndef size rd rn lane base) is =
    alone_inserted_runs b (is_vector rd && is_general rn && is_general base) size (number_of rd) (number_of rn) (number_of base) lane (λ h.
    let p = and_parts (is_vector rd && is_general rn) (is_general base) h in
    let q = and_parts (is_vector rd) (is_general rn) p.0 in
    (vector_number rd q.0, general_number rn q.1, general_number base p.1)) (is.0, is.1, is.2)
vector_instruction_runs b (V.VecExtractLane size rd rn lane base) is =
    lane_extracted_runs b (is_general rd && is_vector rn && is_general base) size (number_of rd) (number_of rn) (number_of base) lane (λ h.
    let p = and_parts (is_general rd && is_vector rn) (is_general base) h in
    let q = and_parts (is_general rd) (is_vector rn) p.0 in
    (general_number rd q.0, vector_number rn q.1, general_number base p.1)) (is.0, is.1, is.2)
vector_instruction_runs b (V.FpuMove32 rd rn) is = left_moved_runs b opcodes.LER Word (omega arith) ler_row (number_of rd) (number_of rn) (two_vectors rd rn is.2) (is.0, is.1)
vector_instruction_runs b (V.FpuMove64 rd rn) is = left_moved_runs b opcodes.LDR Doubleword (omega arith) ldr_row (number_of rd) (number_of rn) (two_vectors rd rn is.2) (is.0, is.1)
vector_instruction_runs b _ is = absurd is.2
