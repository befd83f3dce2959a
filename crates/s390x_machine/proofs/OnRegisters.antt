-- The steps of one row on registers: operators, comparisons, moves, pairs, counts and free results.
use Rattle.std.proofs.Common.{◌≡◌, ℕ, ◌<◌, ◌%◌, ◌^◌, Option, Some, None, Bool, true, false, cond, IsTrue, refl, ap, subst, arith, eqb-true, nat_eq}
use Rattle.s390x_inst.specs.declared.ops.ALUOp.{ALUOp}
use Rattle.s390x_format.specs.Rows.{is_allowed}
use Rattle.s390x_format.specs.declared.row.Allowed.TheVariants.{Any, CountMode}
use Rattle.s390x_format.specs.declared.kind.FormatKind.TheVariants.{RieG, RrfCde}
use Rattle.s390x_rows.specs.declared.opcodes.TheConstants as opcodes
use Rattle.s390x_typed_steps.specs.SingleInstruction.{two_operands, two_row, three_row, indexed_row}
use Rattle.s390x_typed_steps.specs.General.{four_bits}
use Rattle.s390x_typed_steps.specs.MachineInstruction.{rre, rrf_ab, rrf_cde, rie_g, rxy}
use Rattle.s390x_typed_steps.specs.Opcodes.{alu_three, alu_two}
use Rattle.s390x_typed_steps.specs.Steps.{Step}
use Rattle.s390x_operations.specs.State.{Registers}
use Rattle.s390x_operations.specs.Effects.{Refines, is_selected}
use Rattle.s390x_operations.specs.declared.effect.Operation.{Operation}
use Rattle.s390x_operations.specs.declared.effect.CodeRule.{CodeRule}
use Rattle.s390x_operations.specs.declared.effect.CodeRule.TheVariants.{Kept, Set}
use Rattle.s390x_operations.specs.declared.operator.Operator.TheVariants.{Move}
use Rattle.s390x_operations.specs.declared.size.Size.{Size}
use Rattle.s390x_format.specs.declared.semantics.RowSemantics.{RowSemantics}
use Rattle.s390x_format.specs.declared.semantics.RowSemantics.TheVariants.{MoveWhere, CountOnes, MultiplySigned, MultiplyLogical, FindLeftmostOne, Havoc}
use Rattle.s390x_format.specs.declared.semantics.OperandSource.TheVariants.{Register, ThreeRegisters, Immediate, AccessRegister}
use Rattle.s390x_machine.specs.declared.action_type.Action.TheVariants.{Perform}
use Rattle.s390x_machine.specs.Computations.{Second, Computation, Comparison, alu_computation, alu_three_rule, alu_two_rule, computes, compares, copies_access, on_words, on_doublewords, signed_halfword, multiplies_signed, multiplies_logical, finds_leftmost, havocs, moves_where, moves_immediate_where}
use Rattle.s390x_machine.specs.StepKinds.{no_code}
use Rattle.s390x_machine.specs.Layout.{Layout}
use Rattle.s390x_machine.specs.OneStep.{StepRuns}
use Rattle.s390x_machine.specs.Semantics.{count_operator}
use Rattle.s390x_machine.proofs.SingleInstruction.{Doing, second_register, computed, compared_with, register_fields, alu_three_rows, alu_two_rows, two_at, three_at, loosens, three_looser, two_looser, low_small}
use Rattle.s390x_machine.proofs.Bits.{any_mask, ear_row, popcnt_row, AnyRows, mgrk_row, mlgr_row, flogr_row, mask_allowed}
use Rattle.s390x_machine.proofs.Built.{StepAt, IsRow, IsSingle, NeverStops, computes_always, compares_always, where_never, step_even, looser_runs, row_runs, meant_runs, pair_runs}
use Rattle.s390x_machine.proofs.Listing.{few_digits, TwoRow, TwoRows, ThreeRow, ThreeRows, Meant}
use Rattle.s390x_machine.proofs.RegisterNumbers.{mask_bits}
use Rattle.s390x_machine.proofs.Rows.{fits_rre, fits_rrf_ab, fits_rrf_cde, fits_rie_g, fits_rxy}
use Rattle.s390x_machine.proofs.Stops.{never_by_values}

module _ {L : Layout} {k : ℕ} {s : Step} (b : StepAt L k s) where
  -- ---- two registers, and three

  -- one row of two registers, where its operator has one
  pub one_of_two : (operands_valid : Bool) (o : Option ℕ) (semantics : RowSemantics) → TwoRows o semantics → (operation : Registers → Operation) (d m : ℕ) → IsSingle L s operands_valid (two_row o d m) operation → (IsTrue operands_valid → (d < 16) × (m < 16)) → Doing (register_fields d m 0) semantics operation → NeverStops operation → StepRuns L k
  one_of_two operands_valid None semantics row operation d m is small acts never = absurd is.2
  one_of_two operands_valid (Some opcode) semantics row operation d m is small acts never =
      let l = small is.2 in
      row_runs b (two_operands opcode d m) operation never (is.0, is.1) (λ st. two_at L b.image (L.offsets.step k) (step_even b) opcode semantics row operation d m l.0 l.1 acts st)

  pub computes_two : (operands_valid : Bool) (o : Option ℕ) (c : Computation) (rule : CodeRule) → TwoRows o (computed c Register rule) → (d m : ℕ) → IsSingle L s operands_valid (two_row o d m) (computes rule c d d m) → (IsTrue operands_valid → (d < 16) × (m < 16)) → StepRuns L k
  computes_two operands_valid o c rule row d m is small = one_of_two operands_valid o (computed c Register rule) row (computes rule c d d m) d m is small (λ r p. refl) (computes_always rule c d d m)

  pub compares_two : (operands_valid : Bool) (o : Option ℕ) (c : Comparison) → TwoRows o (compared_with Register c) → (n m : ℕ) → IsSingle L s operands_valid (two_row o n m) (compares c n m) → (IsTrue operands_valid → (n < 16) × (m < 16)) → StepRuns L k
  compares_two operands_valid o c row n m is small = one_of_two operands_valid o (compared_with Register c) row (compares c n m) n m is small (λ r p. refl) (compares_always c n m)

  -- a copy of an access register
  pub copies_runs : (operands_valid : Bool) (d a : ℕ) → IsSingle L s operands_valid (two_row (Some opcodes.EAR) d a) (copies_access d a) → (IsTrue operands_valid → (d < 16) × (a < 16)) → StepRuns L k
  copies_runs operands_valid d a is small = one_of_two operands_valid (Some opcodes.EAR) (computed (on_words Move) AccessRegister Kept) ear_row (copies_access d a) d a is small (λ r p. refl) (λ r. never_by_values (copies_access d a r) no_code refl (λ kind h. h))

  -- an operator on three registers: its row of three, or that of two where the first input is the output
  module _ (op : ALUOp) (d n m : ℕ) where
    abbrev does_op : Registers → Operation
    does_op = computes (alu_three_rule op) (alu_computation op) d n m

    by_three : (opcode : ℕ) → ThreeRow opcode (computed (alu_computation op) ThreeRegisters Set) → IsRow L s (rrf_ab opcode d n m 0) does_op → (d < 16) × (n < 16) × (m < 16) → StepRuns L k
    by_three opcode row is l =
        let c = alu_computation op in
        looser_runs b (rrf_ab opcode d n m 0) (computes Set c d n m) does_op (λ r. loosens _ Set (alu_three_rule op) (three_looser op)) (computes_always (alu_three_rule op) c d n m) is (λ st.
        three_at L b.image (L.offsets.step k) (step_even b) opcode (computed c ThreeRegisters Set) row (computes Set c d n m) d n m l.0 l.1 l.2 (λ r p. refl) st)

    by_two : (three two : ℕ) → alu_three op ≡ Some three → d ≡ n → TwoRow two (computed (alu_computation op) Register (alu_two_rule op)) → IsRow L s (two_operands two d m) does_op → (d < 16) × (n < 16) × (m < 16) → StepRuns L k
    by_two three two some same row is l =
        let c = alu_computation op in
        let does = computes (alu_two_rule op) c d d m in
        let refines : (r : Registers) → Refines (does r) (does_op r) = λ r. subst (λ i. Refines (does r) (computes (alu_three_rule op) c d i m r)) same (loosens _ (alu_two_rule op) (alu_three_rule op) (two_looser op three some)) in
        looser_runs b (two_operands two d m) does does_op refines (computes_always (alu_three_rule op) c d n m) is (λ st.
        two_at L b.image (L.offsets.step k) (step_even b) two (computed c Register (alu_two_rule op)) row does d m l.0 l.2 (λ r p. refl) st)

    pub alu_three_runs : (operands_valid : Bool) → IsSingle L s operands_valid (three_row (alu_three op) (alu_two op) d n m) does_op → (IsTrue operands_valid → (d < 16) × (n < 16) × (m < 16)) → StepRuns L k
    alu_three_runs operands_valid is small = go (alu_three op) refl (alu_three_rows op) (alu_two op) (alu_two_rows op) is
      where
        either : (same : Bool) → nat_eq d n ≡ same → (three : ℕ) → alu_three op ≡ Some three → ThreeRow three (computed (alu_computation op) ThreeRegisters Set) → (two : ℕ) → TwoRow two (computed (alu_computation op) Register (alu_two_rule op)) → IsRow L s (cond same (two_operands two d m) (rrf_ab three d n m 0)) does_op → IsTrue operands_valid → StepRuns L k
        either true e three some row two row2 is h = by_two three two some (eqb-true d n e) row2 is (small h)
        either false e three some row two row2 is h = by_three three row is (small h)

        go : (three : Option ℕ) → alu_three op ≡ three → ThreeRows three (computed (alu_computation op) ThreeRegisters Set) → (two : Option ℕ) → TwoRows two (computed (alu_computation op) Register (alu_two_rule op)) → IsSingle L s operands_valid (three_row three two d n m) does_op → StepRuns L k
        go None some row two row2 is = absurd is.2
        go (Some three) some row None row2 is = by_three three row (is.0, is.1) (small is.2)
        go (Some three) some row (Some two) row2 is = either (nat_eq d n) refl three some row two row2 (is.0, is.1) is.2

  -- ---- conditional moves

  pub move_where_runs : (opcode : ℕ) (size : Size) (second : Second) → Meant RrfCde any_mask opcode (MoveWhere size (second_register Register second)) → (mask d m : ℕ) → IsRow L s (rrf_cde opcode d m (four_bits mask) 0) (moves_where size second (four_bits mask) d m) → (d < 16) × (m < 16) → StepRuns L k
  move_where_runs opcode size second row mask d m is l =
      let lm = mask_bits mask in
      meant_runs b (rrf_cde opcode d m (four_bits mask) 0) (MoveWhere size (second_register Register second)) (moves_where size second (four_bits mask) d m) (λ r. where_never (is_selected (four_bits mask) r.code) _ no_code refl (λ kind h. h)) is row (fits_rrf_cde opcode d m (four_bits mask) (few_digits row.0) l.0 l.1 lm) (mask_allowed opcode d m (four_bits mask) lm) (λ r p. refl)

  pub move_immediate_where_runs : (opcode : ℕ) (size : Size) → Meant RieG Any opcode (MoveWhere size (second_register Immediate signed_halfword)) → (mask d bits : ℕ) → IsRow L s (rie_g opcode d bits (four_bits mask)) (moves_immediate_where size (four_bits mask) d bits) → d < 16 → bits < 2 ^ 16 → StepRuns L k
  move_immediate_where_runs opcode size row mask d bits is ld lb =
      meant_runs b (rie_g opcode d bits (four_bits mask)) (MoveWhere size (second_register Immediate signed_halfword)) (moves_immediate_where size (four_bits mask) d bits) (λ r. where_never (is_selected (four_bits mask) r.code) _ no_code refl (λ kind h. h)) is row (fits_rie_g opcode d bits (four_bits mask) (few_digits row.0) ld lb (mask_bits mask)) refl (λ r p.
      ap (λ x. Perform (moves_immediate_where size (four_bits mask) d x r)) (low_small bits (omega (arith, lb))))

  -- ---- pairs

  pub signed_runs : (pair n m : ℕ) → IsRow L s (rrf_ab opcodes.MGRK pair n m 0) (multiplies_signed pair n m) → (pair < 16) × (pair % 2 ≡ 0) × (n < 16) × (m < 16) → StepRuns L k
  signed_runs pair n m is l =
      pair_runs b (rrf_ab opcodes.MGRK pair n m 0) MultiplySigned (multiplies_signed pair n m) (λ r. never_by_values (multiplies_signed pair n m r) no_code refl (λ kind h. h)) is mgrk_row l.1 (fits_rrf_ab opcodes.MGRK pair n m (omega arith) l.0 l.2 l.3) refl (λ r p. refl)

  pub logical_runs : (pair m : ℕ) → IsRow L s (rre opcodes.MLGR pair m) (multiplies_logical pair m) → (pair < 16) × (pair % 2 ≡ 0) × (m < 16) → StepRuns L k
  logical_runs pair m is l =
      pair_runs b (rre opcodes.MLGR pair m) MultiplyLogical (multiplies_logical pair m) (λ r. never_by_values (multiplies_logical pair m r) no_code refl (λ kind h. h)) is mlgr_row l.1 (fits_rre opcodes.MLGR pair m (omega arith) l.0 l.2) refl (λ r p. refl)

  pub leftmost_runs : (pair n : ℕ) → IsRow L s (rre opcodes.FLOGR pair n) (finds_leftmost pair n) → (pair < 16) × (pair % 2 ≡ 0) × (n < 16) → StepRuns L k
  leftmost_runs pair n is l =
      pair_runs b (rre opcodes.FLOGR pair n) FindLeftmostOne (finds_leftmost pair n) (λ r. never_by_values (finds_leftmost pair n r) no_code refl (λ kind h. h)) is flogr_row l.1 (fits_rre opcodes.FLOGR pair n (omega arith) l.0 l.2) refl (λ r p. refl)

  -- ---- others

  -- a count of the ones of each byte, or of the register in mode 8
  pub count_runs : (mode : ℕ) → mode < 16 → is_allowed CountMode (rrf_cde opcodes.POPCNT 0 0 mode 0).slots ≡ true → (d n : ℕ) → IsRow L s (rrf_cde opcodes.POPCNT d n mode 0) (computes Set (on_doublewords (count_operator mode)) d d n) → (d < 16) × (n < 16) → StepRuns L k
  count_runs mode few allowed d n is l =
      let op = computes Set (on_doublewords (count_operator mode)) d d n in
      meant_runs b (rrf_cde opcodes.POPCNT d n mode 0) CountOnes op (computes_always Set (on_doublewords (count_operator mode)) d d n) is popcnt_row (fits_rrf_cde opcodes.POPCNT d n mode (omega arith) l.0 l.1 few) allowed (λ r p. refl)

  -- an indexed address, whose result is free
  pub any_runs : (operands_valid : Bool) (o : Option ℕ) → AnyRows o → (d base index displacement : ℕ) → IsSingle L s operands_valid (indexed_row o d base index displacement) (havocs d) → (IsTrue operands_valid → (d < 16) × (base < 16) × (index < 16)) → displacement < 2 ^ 20 → StepRuns L k
  any_runs operands_valid None row d base index displacement is small ld = absurd is.2
  any_runs operands_valid (Some opcode) row d base index displacement is small ld =
      let l = small is.2 in
      meant_runs b (rxy opcode d base index displacement) Havoc (havocs d) (λ r. never_by_values (havocs d r) no_code refl (λ kind h. h)) (is.0, is.1) row (fits_rxy opcode d base index displacement (few_digits row.0) l.0 l.1 l.2 ld) refl (λ r p. refl)
