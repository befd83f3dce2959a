-- The steps that may stop by their values, and those of no instruction.
use Rattle.std.proofs.Common.{◌≡◌, ℕ, suc, ◌+◌, ◌%◌, ◌^◌, ◌<◌, [], ◌∷◌, Option, Some, None, Bool, false, IsTrue, refl, sym, ap, ◌∙◌, subst, arith}
use Rattle.s390x_base.specs.declared.trap.TrapKind.{TrapKind}
use Rattle.s390x_base.specs.declared.trap.TrapKind.TheVariants.{IntegerDivisionByZero}
use Rattle.s390x_format.specs.declared.kind.FormatKind.TheVariants.{Rre, RrfCde, RieA}
use Rattle.s390x_format.specs.declared.row.Allowed.TheVariants.{Any}
use Rattle.s390x_format.specs.Formats.{length_of}
use Rattle.s390x_format.specs.View.{fields_of}
use Rattle.s390x_rows.specs.declared.opcodes.TheConstants as opcodes
use Rattle.s390x_typed_steps.specs.SingleInstruction.{single_with, masked_row, masked_halfword_row}
use Rattle.s390x_typed_steps.specs.MachineInstruction.{MachineInstruction, bytes_of, format_e, rre, rrf_cde, rie_a, ril_c}
use Rattle.s390x_typed_steps.specs.Parts.{Row, Trapping, parts_or, step_parts, stopping}
use Rattle.s390x_typed_steps.specs.Rows.{half_distance}
use Rattle.s390x_typed_steps.specs.Steps.{Step}
use Rattle.s390x_typed_steps.specs.Traps.{parts_traps, first_code}
use Rattle.s390x_operations.specs.Bits.{extended_bits}
use Rattle.s390x_operations.specs.State.{Registers, wrapping_add64}
use Rattle.s390x_operations.specs.declared.effect.Operation.{Operation}
use Rattle.s390x_operations.specs.declared.effect.CodeRule.TheVariants.{Kept}
use Rattle.s390x_operations.specs.declared.size.Size.{Size}
use Rattle.s390x_operations.specs.declared.size.Size.TheVariants.{Doubleword}
use Rattle.s390x_operations.specs.declared.size.Width.{Width}
use Rattle.s390x_operations.specs.declared.size.Width.TheVariants.{Bits16}
use Rattle.s390x_operations.specs.declared.stop.StopKind.{StopKind}
use Rattle.s390x_lanes.specs.declared.operators.Signedness.TheVariants.{Signed}
use Rattle.s390x_format.specs.declared.semantics.RowSemantics.{RowSemantics}
use Rattle.s390x_format.specs.declared.semantics.RowSemantics.TheVariants.{CompareAndTrap, CompareImmediateAndTrap}
use Rattle.s390x_machine.specs.declared.action_type.Action.TheVariants.{Perform}
use Rattle.s390x_machine.specs.Computations.{Comparison, divides_signed, divides_logical, compares_and_traps, compares_immediate_and_traps}
use Rattle.s390x_machine.specs.StepKinds.{Performs, TrapsAlways, TrapsWhere, DebugStops, division_code, comparison_code}
use Rattle.s390x_machine.specs.Layout.{Layout, InStep}
use Rattle.s390x_machine.specs.OneStep.{StepRuns}
use Rattle.s390x_machine.specs.Operands.{value_in}
use Rattle.s390x_machine.specs.CodeAt.{OperandsValidOr}
use Rattle.s390x_machine.specs.Typed.{kind_of_step}
use Rattle.s390x_machine.proofs.Addresses.{sum_more}
use Rattle.s390x_machine.proofs.SingleInstruction.{Doing, meant_at, pair_at, row_tells, low_small}
use Rattle.s390x_machine.proofs.Bits.{any_mask, mask_allowed}
use Rattle.s390x_machine.proofs.Built.{StepAt, step_within, step_even, step_small, step_form, one_row, one_recorded, coded_runs}
use Rattle.s390x_machine.proofs.Composites.{trap_runs, trap_where_runs, debug_runs}
use Rattle.s390x_machine.proofs.Fetching.{StandsAt}
use Rattle.s390x_machine.proofs.Listing.{few_digits, some_opcode, lists_row, PairRow, MeantRows}
use Rattle.s390x_machine.proofs.RegisterNumbers.{even_pair}
use Rattle.s390x_machine.proofs.Rows.{brcl_at, fits_rre, fits_rrf_cde, fits_rie_a}
use Rattle.s390x_machine.proofs.Simulation.{ValuesCoded}
use Rattle.s390x_machine.proofs.Standing.{inside_at, inside_first, next_place}
use Rattle.s390x_machine.proofs.Stops.{division_coded, logical_division_coded, comparison_coded}
use Rattle.s390x_machine.proofs.Trapping.{division_late, comparison_late, stops_at, zeros, zero_and_one, zeros_behind}

-- the stop of a division has its code
pub signed_coded : (width : Width) (pair m : ℕ) (r : Registers) → ValuesCoded (divides_signed width pair m r) division_code
signed_coded width pair m r = division_coded Kept pair (r.general (pair + 1)) (extended_bits Signed width Doubleword (r.general m))

pub logical_coded : (size : Size) (pair m : ℕ) (r : Registers) → ValuesCoded (divides_logical size pair m r) division_code
logical_coded size pair m r = logical_division_coded Kept size pair (value_in size r pair) (value_in size r (pair + 1)) (value_in size r m)

-- a step that is this operation, and one row that stops with a code
abbrev IsStopping : Layout → Step → MachineInstruction → (Registers → Operation) → (StopKind → Option TrapKind) → TrapKind → Type 0
IsStopping L s x operation code n = (kind_of_step L (Some s) ≡ Some (Performs false operation code)) × (step_parts s ≡ stopping x n ∷ [])

abbrev MayStop : Layout → Step → (operands_valid : Bool) → Option MachineInstruction → (Registers → Operation) → TrapKind → Type 0
MayStop L s operands_valid o operation code =
    (kind_of_step L (Some s) ≡ Some (Performs false operation (comparison_code code))) × (step_parts s ≡ parts_or (single_with operands_valid o) (Some code) []) × OperandsValidOr (single_with operands_valid o) ⊥

module _ {L : Layout} {k : ℕ} {s : Step} (b : StepAt L k s) where
  pub divide_runs : (opcode : ℕ) (semantics : RowSemantics) → PairRow Rre Any opcode semantics → (operation : Registers → Operation) → ((r : Registers) → ValuesCoded (operation r) division_code) → (pair m : ℕ) → (pair < 16) × (pair % 2 ≡ 0) × (m < 16) →
      Doing (fields_of Rre (rre opcode pair m).slots) semantics operation → IsStopping L s (rre opcode pair m) operation division_code IntegerDivisionByZero → StepRuns L k
  divide_runs opcode semantics row operation values pair m l acts is =
      let x = rre opcode pair m in
      let fit = fits_rre opcode pair m (few_digits row) l.0 l.2 in
      coded_runs b x operation division_code IntegerDivisionByZero values (division_late L) is.0 is.1 (row_tells x Any (some_opcode row) (lists_row row) fit refl) (λ st.
      pair_at L b.image (L.offsets.step k) (step_even b) x semantics operation row (even_pair semantics (fields_of Rre x.slots) l.1) fit refl acts st)

  pub compare_trap_runs : (operands_valid : Bool) (o : Option ℕ) (c : Comparison) → MeantRows RrfCde any_mask o (CompareAndTrap c.sign c.size) → (n m mask : ℕ) (code : TrapKind) → mask < 16 → MayStop L s operands_valid (masked_row o n m mask) (compares_and_traps c n m mask) code → (IsTrue operands_valid → (n < 16) × (m < 16)) → StepRuns L k
  compare_trap_runs operands_valid None c row n m mask code lm is few = absurd is.2
  compare_trap_runs operands_valid (Some opcode) c row n m mask code lm is few =
      let l = few is.2 in
      let x = rrf_cde opcode n m mask 0 in
      let op = compares_and_traps c n m mask in
      let fit = fits_rrf_cde opcode n m mask (few_digits row.0) l.0 l.1 lm in
      let allowed = mask_allowed opcode n m mask lm in
      let values : (r : Registers) → ValuesCoded (op r) (comparison_code code) = λ r. comparison_coded Kept code c.sign c.size (value_in c.size r n) (value_in c.size r m) mask in
      coded_runs b x op (comparison_code code) code values (comparison_late L code) is.0 is.1 (row_tells x any_mask (some_opcode row.0) (lists_row row.0) fit allowed) (λ st.
      meant_at L b.image (L.offsets.step k) (step_even b) x (CompareAndTrap c.sign c.size) op row fit allowed (λ r p. refl) st)

  pub compare_immediate_trap_runs : (operands_valid : Bool) (o : Option ℕ) (c : Comparison) → MeantRows RieA Any o (CompareImmediateAndTrap c.sign c.size) → (n bits mask : ℕ) (code : TrapKind) → bits < 2 ^ 16 → mask < 16 → MayStop L s operands_valid (masked_halfword_row o n bits mask) (compares_immediate_and_traps c n bits mask) code → (IsTrue operands_valid → n < 16) → StepRuns L k
  compare_immediate_trap_runs operands_valid None c row n bits mask code lb lm is few = absurd is.2
  compare_immediate_trap_runs operands_valid (Some opcode) c row n bits mask code lb lm is few =
      let x = rie_a opcode n bits mask in
      let op = compares_immediate_and_traps c n bits mask in
      let fit = fits_rie_a opcode n bits mask (few_digits row.0) (few is.2) lb lm in
      let values : (r : Registers) → ValuesCoded (op r) (comparison_code code) = λ r. comparison_coded Kept code c.sign c.size (value_in c.size r n) (extended_bits c.sign Bits16 c.size bits) mask in
      coded_runs b x op (comparison_code code) code values (comparison_late L code) is.0 is.1 (row_tells x Any (some_opcode row.0) (lists_row row.0) fit refl) (λ st.
      meant_at L b.image (L.offsets.step k) (step_even b) x (CompareImmediateAndTrap c.sign c.size) op row fit refl (λ r p. ap (λ y. Perform (compares_immediate_and_traps c n y mask r)) (low_small bits (omega (arith, lb)))) st)

  -- ---- stops where there is no instruction

  pub always_traps : (code : TrapKind) → kind_of_step L (Some s) ≡ Some (TrapsAlways code) → step_parts s ≡ stopping (format_e 0) code ∷ [] → StepRuns L k
  unfolding length_of
  always_traps code is parts =
      let one = one_recorded b (format_e 0) 1 code parts (omega arith) in
      let stands : StandsAt L.image (L.offsets.step k) (0 ∷ 0 ∷ []) = subst (StandsAt L.image (L.offsets.step k)) zeros one.row.stands in
      trap_runs L k code (step_form b _ is) (stops_at L b.image (L.offsets.step k) 0 (Some code) (step_even b) stands one.found) (inside_first L k 2 one.row.size (omega arith))

  pub traps_where : (mask : ℕ) (code : TrapKind) → kind_of_step L (Some s) ≡ Some (TrapsWhere mask code) → step_parts s ≡ Trapping (ril_c opcodes.BRCL mask 1) 3 code ∷ [] → mask < 16 → StepRuns L k
  unfolding length_of
  traps_where mask code is parts lm =
      let o = L.offsets.step k in
      let even = step_even b in
      let one = one_recorded b (ril_c opcodes.BRCL mask 1) 3 code parts (omega arith) in
      let near : o + 6 < 2 ^ 31 = omega (arith, one.row.size, (b.image.step_places (suc k) (step_within b)).1) in
      let half : half_distance o (o + 2) ≡ 1 = omega arith in
      let stands : StandsAt L.image o (bytes_of (ril_c opcodes.BRCL mask (half_distance o (o + 2)))) = subst (λ h. StandsAt L.image o (bytes_of (ril_c opcodes.BRCL mask h))) (sym half) one.row.stands in
      let third : o + 3 ≡ o + 2 + 1 = omega arith in
      trap_where_runs L k mask code (step_form b _ is) (record {
        size = 6;
        target = wrapping_add64 L.image.base (o + 2);
        row = brcl_at L b.image o even mask (o + 2) lm (step_small b) (omega (arith, even)) (omega (arith, near)) stands;
        stops = stops_at L b.image (o + 2) 0 (Some code) (omega (arith, even)) (zeros_behind L o mask one.row.stands) (ap (first_code L.traps) (sym third) ∙ one.found);
        here = inside_first L k 6 one.row.size (omega arith);
        here_target = subst (InStep L k) (sum_more L.image.base o 2) (inside_at L k 2 6 one.row.size (omega arith));
        next = next_place L k 6 one.row.size;
      })

  pub debug_stops : kind_of_step L (Some s) ≡ Some DebugStops → step_parts s ≡ Row (format_e 1) ∷ [] → StepRuns L k
  unfolding length_of
  debug_stops is parts =
      let o = L.offsets.step k in
      let one = one_row b (format_e 1) parts in
      let none : first_code L.traps (o + 1) ≡ None = b.code.traps (o + 1) (omega arith) (omega (arith, one.size)) ∙ ap (λ ps. first_code (parts_traps o ps) (o + 1)) parts in
      debug_runs L k (step_form b _ is) (stops_at L b.image o 1 None (step_even b) (subst (StandsAt L.image o) zero_and_one one.stands) none) (inside_first L k 2 one.size (omega arith))
