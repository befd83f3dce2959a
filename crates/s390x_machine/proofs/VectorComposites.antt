-- The steps of vector instructions that are several machine instructions.
use Rattle.std.proofs.Common.{◌≡◌, ℕ, zero, suc, ◌+◌, ◌-◌, ◌/◌, ◌%◌, ◌^◌, ◌<◌, pos, [], ◌∷◌, Option, Some, None, Bool, true, false, cond, ◌&&◌, not, refl, sym, ap, ◌∙◌, subst, arith, nat_lt, nat_eq, ltb-true, true≢false}
use Rattle.std.specs.Prelude.{◌*ℤ◌}
use Rattle.std.specs.Int.{w16, cast_signed}
use Rattle.std.proofs.lemmas.Bool.{and_parts}
use Rattle.s390x_base.specs.Regs.{number_of}
use Rattle.s390x_base.specs.declared.error.EmitError.TheVariants.{BadOperator, BadRegister}
use Rattle.s390x_base.specs.declared.regs.Reg.{Reg}
use Rattle.s390x_inst.specs.declared.vec_inst.VecInst.{VecInst}
use Rattle.s390x_inst.specs.declared.vec_inst.VecInst.TheVariants as V
use Rattle.s390x_inst.specs.declared.whole.WholeAccess.{WholeAccess}
use Rattle.s390x_inst.specs.Wholes.{as_whole, by_whole, by_direction}
use Rattle.s390x_format.specs.declared.kind.FormatKind.TheVariants.{Rr}
use Rattle.s390x_format.specs.declared.row.Allowed.TheVariants.{Any}
use Rattle.s390x_format.specs.Formats.{length_of}
use Rattle.s390x_lanes.specs.declared.operators.Signedness.TheVariants.{Signed, Unsigned}
use Rattle.s390x_lanes.specs.declared.operators.VectorOperation.TheVariants as O
use Rattle.s390x_lanes.specs.declared.size.ElementSize.{ElementSize}
use Rattle.s390x_lanes.specs.declared.size.ElementSize.TheVariants.{Word, Doubleword}
use Rattle.s390x_operations.specs.Access.{Untouched}
use Rattle.s390x_operations.specs.Effects.{Refines, MayRefuse, access, is_selected, stop_of_effect}
use Rattle.s390x_operations.specs.State.{Registers, wrapping_add64}
use Rattle.s390x_operations.specs.declared.effect.Operation.{Operation}
use Rattle.s390x_operations.specs.declared.stop.ConditionCode.{ConditionCode}
use Rattle.s390x_operations.specs.declared.stop.ConditionCode.TheVariants.{Code0, Code1, Code2, Code3}
use Rattle.s390x_operations.specs.declared.stop.StopKind.{StopKind}
use Rattle.s390x_rows.specs.declared.opcodes.TheConstants as opcodes
use Rattle.s390x_typed_steps.specs.General.{four_bits}
use Rattle.s390x_typed_steps.specs.MachineInstruction.{MachineInstruction, size_of, ri_c, rr, vrr_a}
use Rattle.s390x_typed_steps.specs.Memory.{access_elements, vector_memory, whole_memory}
use Rattle.s390x_typed_steps.specs.Parts.{Row, memory_or, parts_or, row_parts, step_parts}
use Rattle.s390x_typed_steps.specs.SingleInstruction.{SingleInstruction, single_with}
use Rattle.s390x_typed_steps.specs.Steps.{Step}
use Rattle.s390x_typed_steps.specs.VectorComposite.{composite_cause, composite_rows, skipping}
use Rattle.s390x_typed_steps.specs.VectorInstruction.{divides, is_vector, move_left_row, reuses_vector, vector_operands_valid, vector_row, vector_stop}
use Rattle.s390x_machine.specs.declared.action_type.Action.TheVariants.{Perform, Branch}
use Rattle.s390x_format.specs.declared.semantics.RowSemantics.TheVariants.{MoveLeft}
use Rattle.s390x_machine.specs.CodeAt.{OperandsValidOr, ValidMemoryOr}
use Rattle.s390x_machine.specs.Layout.{Layout, step_address}
use Rattle.s390x_machine.specs.OneStep.{StepRuns}
use Rattle.s390x_machine.specs.Semantics.{all_bits, left_bits}
use Rattle.s390x_machine.specs.StepKinds.{PerformsWhere, Unsupported, composite_kind, kind_or, on_vectors, performed_by}
use Rattle.s390x_machine.specs.Storage.{layout_of, loads_vector, stores_vector, vector_forms, vector_operand_step}
use Rattle.s390x_machine.specs.Typed.{kind_of_step}
use Rattle.s390x_machine.specs.VectorSteps.{computes_one_vector, moves_left, vector_operation}
use Rattle.s390x_machine.proofs.Addresses.{sum_more}
use Rattle.s390x_machine.proofs.Built.{StepAt, exactly, size_as, stand_as, step_even, step_form}
use Rattle.s390x_machine.proofs.Composites.{where_runs}
use Rattle.s390x_machine.proofs.Listing.{Meant, few_digits}
use Rattle.s390x_machine.proofs.Rows.{fits_rr}
use Rattle.s390x_machine.proofs.Reversing.{reversal_runs}
use Rattle.s390x_machine.proofs.ShortBranches.{brc_at}
use Rattle.s390x_machine.proofs.Simulation.{RowAt}
use Rattle.s390x_machine.proofs.SingleInstruction.{DoesThere, meant_at}
use Rattle.s390x_machine.proofs.Standing.{inside_at, inside_first, next_place}
use Rattle.s390x_machine.proofs.VectorRows.{compare_signed_row, compare_unsigned_row, elements_listed, fits_vrr_a, ldr_row, ler_row, move_row}
use Rattle.s390x_machine.proofs.VectorSteps.{elements_computed, moves_alone, no_third, three_vectors, two_vectors, reused_vector, vector_instruction_runs, vector_number, vector_there}
use Rattle.s390x_machine.proofs.WideComparing.{wide_runs}
use Rattle.s390x_machine.proofs.VectorStorage.{Accesses, load_alone_runs, load_lane_runs, load_reversed_alone_runs, load_reversed_runs, replicated_runs, reversed_replicated_runs, store_lane_runs, store_reversed_runs, whole_runs}

-- ---- the codes of a branch over a row

-- of two digits one is set
other_digit : (a b : ℕ) → a + b ≡ 1 → nat_eq a 1 ≡ not (nat_eq b 1)
other_digit zero (suc zero) e = refl
other_digit (suc zero) zero e = refl
other_digit a b e = absurd (omega (arith, e))

-- a code is selected by a mask or by its inverse
pub inverts : (mask : ℕ) → mask < 16 → (code : ConditionCode) → is_selected (15 - mask) code ≡ not (is_selected mask code)
inverts mask lt Code0 = other_digit ((15 - mask) / 8 % 2) (mask / 8 % 2) (omega (arith, lt))
inverts mask lt Code1 = other_digit ((15 - mask) / 4 % 2) (mask / 4 % 2) (omega (arith, lt))
inverts mask lt Code2 = other_digit ((15 - mask) / 2 % 2) (mask / 2 % 2) (omega (arith, lt))
inverts mask lt Code3 = other_digit ((15 - mask) % 2) (mask % 2) (omega (arith, lt))

-- ---- moves under a condition

half_even : (o : ℕ) → o % 2 ≡ 0 → (o + 4) % 2 ≡ 0
half_even o e = omega (arith, e)

module _ {L : Layout} {k : ℕ} {s : Step} (b : StepAt L k s) where
  -- a row that is skipped under the codes that the mask doesn't select. The branch over it leads so many bytes on
  skip_runs : (mask half distance : ℕ) (row : MachineInstruction) (does operation : Registers → Operation) → kind_of_step L (Some s) ≡ Some (PerformsWhere mask operation) → step_parts s ≡ Row (ri_c opcodes.BRC (15 - mask) half) ∷ Row row ∷ [] → mask < 16 → half < 2 ^ 16 → pos 2 *ℤ cast_signed w16 (half % 2 ^ 16) ≡ pos distance →
      4 + size_of row ≡ distance → 0 < size_of row → DoesThere L b.image (L.offsets.step k + 4) (half_even (L.offsets.step k) (step_even b)) row does → ((r : Registers) → Refines (does r) (operation r)) → ((r : Registers) → access (operation r).effect ≡ Untouched) → ((r : Registers) → stop_of_effect (operation r).effect ≡ None) → ((r : Registers) (kind : StopKind) → MayRefuse (operation r).effect kind → ⊥) → StepRuns L k
  unfolding length_of
  skip_runs mask half distance row does operation is parts lm lh words long some there refines untouched never_refused never_stops =
      let o = L.offsets.step k in
      let stands = stand_as b _ parts in
      let size : L.offsets.step (suc k) ≡ o + distance = size_as b _ parts ∙ omega (arith, long) in
      let second : wrapping_add64 (step_address L k) 4 ≡ wrapping_add64 L.image.base (o + 4) = sum_more L.image.base o 4 in
      where_runs L k mask operation (step_form b _ is) (record {
        inverse = 15 - mask;
        size = 4;
        row_size = size_of row;
        act = λ r. Perform (does r);
        branch_row = subst (λ q. RowAt L (step_address L k) (λ r. Branch (15 - mask) q) 4) (next_place L k distance size) (brc_at L b.image o (step_even b) (15 - mask) half distance (omega arith) lh words stands.0);
        row = subst (λ q. RowAt L q (λ r. Perform (does r)) (size_of row)) (sym second) (there stands.1.0);
        here = inside_first L k distance size (omega (arith, long));
        here_row = inside_at L k 4 distance size (omega (arith, long, some));
        next = sum_more (step_address L k) 4 (size_of row) ∙ ap (λ n. wrapping_add64 (step_address L k) n) long ∙ next_place L k distance size;
        inverts = λ r. inverts mask lm r.code;
        does = refines;
        untouched = untouched;
        never_refused = never_refused;
        never_stops = never_stops;
      })

  -- a move of a whole register
  skipped_vector : (mask d n : ℕ) (operation : Registers → Operation) → kind_of_step L (Some s) ≡ Some (PerformsWhere mask operation) → step_parts s ≡ row_parts (skipping mask (vrr_a opcodes.VLR d n 0)) → mask < 16 → d < 32 → n < 32 → ((r : Registers) → Refines (elements_computed (vrr_a opcodes.VLR d n 0) O.Move r) (operation r)) →
      ((r : Registers) → access (operation r).effect ≡ Untouched) → ((r : Registers) → stop_of_effect (operation r).effect ≡ None) → ((r : Registers) (kind : StopKind) → MayRefuse (operation r).effect kind → ⊥) → StepRuns L k
  unfolding length_of
  skipped_vector mask d n operation is parts lm ld ln refines untouched never_refused never_stops =
      let x = vrr_a opcodes.VLR d n 0 in
      let row = move_row d n in
      let fit = fits_vrr_a opcodes.VLR d n 0 (few_digits (elements_listed row)) ld ln (omega arith) in
      skip_runs mask 5 10 x (elements_computed x O.Move) operation is parts lm (omega arith) refl refl (omega arith) (vector_there L b.image (L.offsets.step k + 4) (half_even (L.offsets.step k) (step_even b)) x O.Move row fit) refines untouched never_refused never_stops

  -- a move of the leftmost element
  skipped_left : (opcode : ℕ) (e : ElementSize) → opcode < 256 → Meant Rr Any opcode (MoveLeft e) → (mask d n : ℕ) → kind_of_step L (Some s) ≡ Some (PerformsWhere mask (moves_left e d n)) → mask < 16 → (d < 32) × (n < 32) → step_parts s ≡ row_parts (skipping mask (move_left_row opcode d n)) → StepRuns L k
  unfolding length_of
  skipped_left opcode e short listed mask d n is lm few = go (nat_lt d 16 && nat_lt n 16) refl
    where
      go : (t : Bool) → (nat_lt d 16 && nat_lt n 16) ≡ t → step_parts s ≡ row_parts (skipping mask (cond t (rr opcode d n) (vrr_a opcodes.VLR d n 0))) → StepRuns L k
      go true test parts =
          let tests = and_parts (nat_lt d 16) (nat_lt n 16) test in
          let even = half_even (L.offsets.step k) (step_even b) in
          skip_runs mask 3 6 (rr opcode d n) (moves_left e d n) (moves_left e d n) is parts lm (omega arith) refl refl (omega arith) (λ st.
          meant_at L b.image (L.offsets.step k + 4) even (rr opcode d n) (MoveLeft e) (moves_left e d n) listed (fits_rr opcode d n short (ltb-true d 16 tests.0) (ltb-true n 16 tests.1)) refl (λ r p. refl) st) (λ r. exactly (moves_left e d n r)) (λ r. refl) (λ r. refl) (λ r kind h. h)
      go false test parts =
          skipped_vector mask d n (moves_left e d n) is parts lm few.0 few.1 (λ r. moves_alone d (left_bits e) (r.vector d) (r.vector n) (r.vector 0) (r.vector 0)) (λ r. refl) (λ r. refl) (λ r kind h. h)

-- ---- all of them

-- where a cause would stand, a row's registers may stand there
no_several : (o : Option SingleInstruction) → OperandsValidOr o (Some BadOperator ≡ None) → OperandsValidOr o ⊥
no_several None h = absurd (cc)
no_several (Some x) h = h

moved_registers : (rd ri rm : Reg) → cond (reuses_vector rd ri && is_vector rm) None (Some BadRegister) ≡ None → (number_of rd < 32) × (number_of rm < 32)
moved_registers rd ri rm h = go (reuses_vector rd ri && is_vector rm) refl h
  where
    go : (t : Bool) → (reuses_vector rd ri && is_vector rm) ≡ t → cond t None (Some BadRegister) ≡ None → (number_of rd < 32) × (number_of rm < 32)
    go false e h = absurd (cc)
    go true e h =
        let p = and_parts (reuses_vector rd ri) (is_vector rm) e in
        let q = and_parts (is_vector rd && is_vector ri) (nat_eq (number_of rd) (number_of ri)) p.0 in
        ((two_vectors rd ri q.0).0, vector_number rm p.1)

compared_registers : (tmp rn rm : Reg) → cond (is_vector tmp && is_vector rn && is_vector rm) None (Some BadRegister) ≡ None → (number_of tmp < 32) × (number_of rn < 32) × (number_of rm < 32)
compared_registers tmp rn rm h = go (is_vector tmp && is_vector rn && is_vector rm) refl h
  where
    go : (t : Bool) → (is_vector tmp && is_vector rn && is_vector rm) ≡ t → cond t None (Some BadRegister) ≡ None → (number_of tmp < 32) × (number_of rn < 32) × (number_of rm < 32)
    go false e h = absurd (cc)
    go true e h = three_vectors tmp rn rm e

-- a step that is a vector instruction: one machine instruction, an access, or several machine instructions
abbrev pub IsAnyVectorStep : Layout → Step → VecInst → Type 0
IsAnyVectorStep L s v =
    let single = single_with (vector_operands_valid v) (vector_row v) in
    (kind_of_step L (Some s) ≡ Some (kind_or (on_vectors (divides v) (vector_operation v)) (kind_or (performed_by L (vector_operand_step v)) (composite_kind v))))
    × (step_parts s ≡ parts_or single (vector_stop v) (memory_or (vector_memory v) (row_parts (composite_rows v))))
    × OperandsValidOr single (ValidMemoryOr L (vector_memory v) (composite_cause v ≡ None))

-- one that is one machine instruction on registers
abbrev IsSingleStep : Layout → Step → VecInst → Type 0
IsSingleStep L s v =
    let single = single_with (vector_operands_valid v) (vector_row v) in
    (kind_of_step L (Some s) ≡ Some (kind_or (on_vectors (divides v) (vector_operation v)) Unsupported))
    × (step_parts s ≡ parts_or single (vector_stop v) [])
    × OperandsValidOr single (Some BadOperator ≡ None)

-- a load or a store of a whole register, or one machine instruction on registers
whole_or_single : {L : Layout} {k : ℕ} {s : Step} (b : StepAt L k s) (v : VecInst) (o : Option WholeAccess) →
    by_whole (λ w. Accesses b (whole_memory w) w.mem vector_forms (by_direction w.direction (loads_vector (layout_of w.layout) all_bits (number_of w.rd)) (stores_vector (layout_of w.layout) (number_of w.rd)))) (IsSingleStep L s v) o → StepRuns L k
whole_or_single b v None is = vector_instruction_runs b v (is.0, is.1, no_several (single_with (vector_operands_valid v) (vector_row v)) is.2)
whole_or_single b v (Some w) is = whole_runs b w.direction w.layout w.rd w.mem is

pub any_vector_runs : {L : Layout} {k : ℕ} {s : Step} (b : StepAt L k s) (v : VecInst) → IsAnyVectorStep L s v → StepRuns L k
any_vector_runs b (V.FpuCMov32 rd mask ri rm) is = skipped_left b opcodes.LER Word (omega arith) ler_row (four_bits mask) (number_of rd) (number_of rm) is.0 (omega arith) (moved_registers rd ri rm is.2) is.1
any_vector_runs b (V.FpuCMov64 rd mask ri rm) is = skipped_left b opcodes.LDR Doubleword (omega arith) ldr_row (four_bits mask) (number_of rd) (number_of rm) is.0 (omega arith) (moved_registers rd ri rm is.2) is.1
any_vector_runs b (V.VecCMov rd mask ri rm) is =
    let d = number_of rd in
    let n = number_of rm in
    let few = moved_registers rd ri rm is.2 in
    skipped_vector b (four_bits mask) d n (computes_one_vector O.Move d n) is.0 is.1 (omega arith) few.0 few.1 (λ r. no_third O.Move refl d (r.vector d) (r.vector n) (r.vector 0) (r.vector 0)) (λ r. refl) (λ r. refl) (λ r kind h. true≢false (sym h.1))
any_vector_runs b (V.VecEltRev count rd rn) is = reversal_runs b count (number_of rd) (number_of rn) (is_vector rd && is_vector rn) (two_vectors rd rn) is
any_vector_runs b (V.VecInt128SCmpHi tmp rn rm) is = wide_runs b opcodes.VEC Signed (number_of tmp) (number_of rn) (number_of rm) (compare_signed_row (number_of rm) (number_of rn)) (compared_registers tmp rn rm is.2) is.0 is.1
any_vector_runs b (V.VecInt128UCmpHi tmp rn rm) is = wide_runs b opcodes.VECL Unsigned (number_of tmp) (number_of rn) (number_of rm) (compare_unsigned_row (number_of rm) (number_of rn)) (compared_registers tmp rn rm is.2) is.0 is.1
any_vector_runs b (V.VecLoadReplicate size rd mem) is = replicated_runs b (is_vector rd) size (number_of rd) mem (λ o. access_elements opcodes.VLREP rd o mem) refl (λ c. refl) (vector_number rd) is
any_vector_runs b (V.VecLoadReplicateRev size rd mem) is = reversed_replicated_runs b (is_vector rd) size (number_of rd) mem (λ o. access_elements opcodes.VLBRREP rd o mem) refl (λ c. refl) (vector_number rd) is
any_vector_runs b (V.VecLoadLane size rd ri mem lane) is = load_lane_runs b (reuses_vector rd ri) size lane (number_of rd) mem (reused_vector rd ri) is
any_vector_runs b (V.VecLoadLaneRev size rd ri mem lane) is = load_reversed_runs b (reuses_vector rd ri) size lane (number_of rd) mem (reused_vector rd ri) is
any_vector_runs b (V.VecLoadLaneUndef size rd mem lane) is = load_alone_runs b (is_vector rd) size lane (number_of rd) mem (vector_number rd) is
any_vector_runs b (V.VecLoadLaneRevUndef size rd mem lane) is = load_reversed_alone_runs b (is_vector rd) size lane (number_of rd) mem (vector_number rd) is
any_vector_runs b (V.VecStoreLane size rd mem lane) is = store_lane_runs b (is_vector rd) size lane (number_of rd) mem (vector_number rd) is
any_vector_runs b (V.VecStoreLaneRev size rd mem lane) is = store_reversed_runs b (is_vector rd) size lane (number_of rd) mem (vector_number rd) is
any_vector_runs b v is = whole_or_single b v (as_whole v) is
