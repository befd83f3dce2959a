-- The steps of one row of a register and an immediate: operators, comparisons, parts of registers, and bytes taken from the stack.
use Rattle.std.proofs.Common.{◌≡◌, ℕ, ◌*◌, ◌^◌, ◌<◌, Option, Some, None, Bool, true, false, cond, IsTrue, refl, ap, ◌∙◌, subst, arith, eqb-true, nat_lt, nat_eq, pos, ltb-true}
use Rattle.std.specs.Prelude.{neg_ℤ}
use Rattle.s390x_inst.specs.declared.ops.ALUOp.TheVariants as A
use Rattle.s390x_format.specs.declared.kind.FormatKind.TheVariants.{RiA, RieD, RilA}
use Rattle.s390x_rows.specs.declared.opcodes.TheConstants as opcodes
use Rattle.s390x_typed_steps.specs.SingleInstruction.{allocate_row, halfword_row, word_row, three_halfword_row}
use Rattle.s390x_typed_steps.specs.General.{low_halfword, low_word}
use Rattle.s390x_typed_steps.specs.MachineInstruction.{ri_a, rie_d, ril_a}
use Rattle.s390x_typed_steps.specs.Opcodes.{insert_half}
use Rattle.s390x_typed_steps.specs.Steps.{Step}
use Rattle.s390x_operations.specs.declared.effect.CodeRule.{CodeRule}
use Rattle.s390x_operations.specs.declared.effect.CodeRule.TheVariants.{Kept, Set, Unspecified}
use Rattle.s390x_operations.specs.declared.operator.Operator.{Operator}
use Rattle.s390x_operations.specs.declared.operator.Operator.TheVariants.{Move, SelectedBits}
use Rattle.s390x_operations.specs.declared.operator.SelectedBitsOperator.TheVariants as Select
use Rattle.s390x_machine.specs.declared.action_type.Action.TheVariants.{Perform}
use Rattle.s390x_format.specs.declared.semantics.OperandSource.TheVariants.{Immediate, ThreeImmediate}
use Rattle.s390x_machine.specs.Computations.{Computation, Comparison, alu_computation, on_words, on_doublewords, unsigned_word, signed_halfword, on_immediate, computes_immediate, compares_immediate, half_mask, on_selected, at_half, inserts_half, takes_from_stack}
use Rattle.s390x_machine.specs.Layout.{Layout}
use Rattle.s390x_machine.specs.OneStep.{StepRuns}
use Rattle.s390x_machine.proofs.Allocating.{adds_negated}
use Rattle.s390x_machine.proofs.SingleInstruction.{DoesThere, computed, compared, halfword_rows, unsigned_word_rows, iilf_row, halfword_at, word_at, three_halfword_at, compare_halfword_at, compare_word_at, loosens, ri_a_at, ril_a_at, low_small}
use Rattle.s390x_machine.proofs.Bits.{immediate_at, iihf_row}
use Rattle.s390x_machine.proofs.Built.{StepAt, IsRow, IsSingle, NeverStops, computes_immediate_always, compares_immediate_always, step_even, looser_runs, row_runs}
use Rattle.s390x_machine.proofs.Listing.{OpcodeRow, OpcodeRows}
use Rattle.s390x_machine.proofs.Operands.{halfword_bits, word_bits}

module _ {L : Layout} {k : ℕ} {s : Step} (b : StepAt L k s) where
  -- ---- an operator, or a comparison, with an immediate of 16 bits or of 32, where it has a row

  pub one_of_halfword : (operands_valid : Bool) (o : Option ℕ) (c : Computation) (rule : CodeRule) → OpcodeRows RiA 4096 o (computed c Immediate rule) → (d bits : ℕ) → IsSingle L s operands_valid (halfword_row o d bits) (computes_immediate rule c d d bits) → (IsTrue operands_valid → d < 16) → bits < 2 ^ 16 → StepRuns L k
  one_of_halfword operands_valid None c rule row d bits is small lb = absurd is.2
  one_of_halfword operands_valid (Some opcode) c rule row d bits is small lb =
      row_runs b (ri_a opcode d bits) (computes_immediate rule c d d bits) (computes_immediate_always rule c d d bits) (is.0, is.1) (λ st. halfword_at L b.image (L.offsets.step k) (step_even b) opcode c rule row d bits (small is.2) lb st)

  pub one_of_word : (operands_valid : Bool) (o : Option ℕ) (c : Computation) (rule : CodeRule) → OpcodeRows RilA 4096 o (computed c Immediate rule) → (d bits : ℕ) → IsSingle L s operands_valid (word_row o d bits) (computes_immediate rule c d d bits) → (IsTrue operands_valid → d < 16) → bits < 2 ^ 32 → StepRuns L k
  one_of_word operands_valid None c rule row d bits is small lb = absurd is.2
  one_of_word operands_valid (Some opcode) c rule row d bits is small lb =
      row_runs b (ril_a opcode d bits) (computes_immediate rule c d d bits) (computes_immediate_always rule c d d bits) (is.0, is.1) (λ st. word_at L b.image (L.offsets.step k) (step_even b) opcode c rule row d bits (small is.2) lb st)

  pub compare_of_halfword : (operands_valid : Bool) (o : Option ℕ) (c : Comparison) → OpcodeRows RiA 4096 o (compared c) → (n bits : ℕ) → IsSingle L s operands_valid (halfword_row o n bits) (compares_immediate c n bits) → (IsTrue operands_valid → n < 16) → bits < 2 ^ 16 → StepRuns L k
  compare_of_halfword operands_valid None c row n bits is small lb = absurd is.2
  compare_of_halfword operands_valid (Some opcode) c row n bits is small lb =
      row_runs b (ri_a opcode n bits) (compares_immediate c n bits) (compares_immediate_always c n bits) (is.0, is.1) (λ st. compare_halfword_at L b.image (L.offsets.step k) (step_even b) opcode c row n bits (small is.2) lb st)

  pub compare_of_word : (operands_valid : Bool) (o : Option ℕ) (c : Comparison) → OpcodeRows RilA 4096 o (compared c) → (n bits : ℕ) → IsSingle L s operands_valid (word_row o n bits) (compares_immediate c n bits) → (IsTrue operands_valid → n < 16) → bits < 2 ^ 32 → StepRuns L k
  compare_of_word operands_valid None c row n bits is small lb = absurd is.2
  compare_of_word operands_valid (Some opcode) c row n bits is small lb =
      row_runs b (ril_a opcode n bits) (compares_immediate c n bits) (compares_immediate_always c n bits) (is.0, is.1) (λ st. compare_word_at L b.image (L.offsets.step k) (step_even b) opcode c row n bits (small is.2) lb st)

  -- an immediate of 16 bits into another register, or two operands where the input is the output
  module _ (c : Computation) (rule : CodeRule) (d n bits : ℕ) where
    by_three : (three : ℕ) → OpcodeRow RieD 65536 three (computed c ThreeImmediate rule) → IsRow L s (rie_d three d n bits) (computes_immediate rule c d n bits) → (d < 16) × (n < 16) → bits < 2 ^ 16 → StepRuns L k
    by_three three row is l lb = row_runs b (rie_d three d n bits) (computes_immediate rule c d n bits) (computes_immediate_always rule c d n bits) is (λ st. three_halfword_at L b.image (L.offsets.step k) (step_even b) three c rule row d n bits l.0 l.1 lb st)

    by_two : (two : ℕ) → d ≡ n → OpcodeRow RiA 4096 two (computed c Immediate rule) → IsRow L s (ri_a two d bits) (computes_immediate rule c d n bits) → d < 16 → bits < 2 ^ 16 → StepRuns L k
    by_two two same row is ld lb =
        let op : computes_immediate rule c d d bits ≡ computes_immediate rule c d n bits = ap (λ i. computes_immediate rule c d i bits) same in
        row_runs b (ri_a two d bits) (computes_immediate rule c d n bits) (computes_immediate_always rule c d n bits) is (subst (λ o. DoesThere L b.image (L.offsets.step k) (step_even b) (ri_a two d bits) o) op (λ st.
        halfword_at L b.image (L.offsets.step k) (step_even b) two c rule row d bits ld lb st))

    pub three_halfword_runs : (operands_valid : Bool) (three two : Option ℕ) → OpcodeRows RieD 65536 three (computed c ThreeImmediate rule) → OpcodeRows RiA 4096 two (computed c Immediate rule) → IsSingle L s operands_valid (three_halfword_row three two d n bits) (computes_immediate rule c d n bits) → (IsTrue operands_valid → (d < 16) × (n < 16)) → bits < 2 ^ 16 → StepRuns L k
    three_halfword_runs operands_valid None two row3 row2 is small lb = absurd is.2
    three_halfword_runs operands_valid (Some three) None row3 row2 is small lb = by_three three row3 (is.0, is.1) (small is.2) lb
    three_halfword_runs operands_valid (Some three) (Some two) row3 row2 is small lb = go (nat_eq d n) refl (is.0, is.1)
      where
        go : (same : Bool) → nat_eq d n ≡ same → IsRow L s (cond same (ri_a two d bits) (rie_d three d n bits)) (computes_immediate rule c d n bits) → StepRuns L k
        go true e is_row = by_two two (eqb-true d n e) row2 is_row (small is.2).0 lb
        go false e is_row = by_three three row3 is_row (small is.2) lb

  -- ---- an immediate at its place in the register

  pub placed_halfword : (operands_valid : Bool) (o : Option ℕ) (operator : Operator) (rule : CodeRule) (n : ℕ) → OpcodeRows RiA 4096 o (immediate_at (on_doublewords operator) n rule) → (d bits : ℕ) → IsSingle L s operands_valid (halfword_row o d bits) (computes_immediate rule (on_doublewords operator) d d (bits * 2 ^ n)) → (IsTrue operands_valid → d < 16) → bits < 2 ^ 16 → StepRuns L k
  placed_halfword operands_valid None operator rule n row d bits is small lb = absurd is.2
  placed_halfword operands_valid (Some opcode) operator rule n row d bits is small lb =
      let c = on_doublewords operator in
      let op = computes_immediate rule c d d (bits * 2 ^ n) in
      row_runs b (ri_a opcode d bits) op (computes_immediate_always rule c d d (bits * 2 ^ n)) (is.0, is.1) (λ st. ri_a_at L b.image (L.offsets.step k) (step_even b) opcode (immediate_at c n rule) row op d bits (small is.2) lb (λ r p. ap (λ x. Perform (computes_immediate rule c d d (x * 2 ^ n) r)) (low_small bits (omega (arith, lb)))) st)

  pub placed_word : (operands_valid : Bool) (o : Option ℕ) (operator : Operator) (rule : CodeRule) (n : ℕ) → OpcodeRows RilA 4096 o (immediate_at (on_doublewords operator) n rule) → (d bits : ℕ) → IsSingle L s operands_valid (word_row o d bits) (computes_immediate rule (on_doublewords operator) d d (bits * 2 ^ n)) → (IsTrue operands_valid → d < 16) → bits < 2 ^ 32 → StepRuns L k
  placed_word operands_valid None operator rule n row d bits is small lb = absurd is.2
  placed_word operands_valid (Some opcode) operator rule n row d bits is small lb =
      let c = on_doublewords operator in
      let op = computes_immediate rule c d d (bits * 2 ^ n) in
      row_runs b (ril_a opcode d bits) op (computes_immediate_always rule c d d (bits * 2 ^ n)) (is.0, is.1) (λ st. ril_a_at L b.image (L.offsets.step k) (step_even b) opcode (immediate_at c n rule) row op d bits (small is.2) lb (λ r p. ap (λ x. Perform (computes_immediate rule c d d (x * 2 ^ n) r)) (low_small bits (omega (arith, lb)))) st)

  -- a half is inserted: the right one by the row of a move of 32 bits
  pub inserted_half : (operands_valid : Bool) (shift d bits : ℕ) → IsSingle L s operands_valid (word_row (insert_half shift) d bits) (computes_immediate Kept (inserts_half shift) d d (at_half shift bits)) → (IsTrue operands_valid → d < 16) → bits < 2 ^ 32 → StepRuns L k
  inserted_half operands_valid shift d bits is small lb = go (nat_eq shift 0) refl (nat_eq shift 1) refl is
    where
      go : (t : Bool) → nat_eq shift 0 ≡ t → (u : Bool) → nat_eq shift 1 ≡ u → IsSingle L s operands_valid (word_row (cond t (Some opcodes.IILF) (cond u (Some opcodes.IIHF) None)) d bits) (computes_immediate Kept (cond t (on_words Move) (on_selected Select.Insert (half_mask shift))) d d (bits * 2 ^ (32 * shift))) → StepRuns L k
      go true e u f is2 =
          let same : bits * 2 ^ (32 * shift) ≡ bits = ap (λ i. bits * 2 ^ (32 * i)) (eqb-true shift 0 e) ∙ omega arith in
          one_of_word operands_valid (Some opcodes.IILF) (on_words Move) Kept iilf_row d bits (subst (λ x. IsSingle L s operands_valid (word_row (Some opcodes.IILF) d bits) (computes_immediate Kept (on_words Move) d d x)) same is2) small lb
      go false e true f is2 =
          placed_word operands_valid (Some opcodes.IIHF) (SelectedBits Select.Insert (half_mask 1)) Kept 32 iihf_row d bits (subst (λ i. IsSingle L s operands_valid (word_row (Some opcodes.IIHF) d bits) (computes_immediate Kept (on_selected Select.Insert (half_mask i)) d d (bits * 2 ^ (32 * i)))) (eqb-true shift 1 f) is2) small lb
      go false e false f is2 = absurd is2.2

  -- ---- the stack pointer

  -- bytes are taken from it: their number is added with a minus sign, or it is subtracted
  pub allocate_runs : (size : ℕ) → IsRow L s (allocate_row size) (takes_from_stack size) → StepRuns L k
  allocate_runs size is = go (nat_lt size 32768) refl is
    where
      never : NeverStops (takes_from_stack size)
      never = computes_immediate_always Unspecified (on_immediate (alu_computation A.SubLogical64) unsigned_word) 15 15 (low_word (pos size))

      go : (fits : Bool) → nat_lt size 32768 ≡ fits → IsRow L s (cond fits (ri_a opcodes.AGHI 15 (low_halfword (neg_ℤ (pos size)))) (ril_a opcodes.SLGFI 15 (low_word (pos size)))) (takes_from_stack size) → StepRuns L k
      go true e is_row =
          let bits = low_halfword (neg_ℤ (pos size)) in
          let adds = on_immediate (alu_computation A.Add64) signed_halfword in
          looser_runs b (ri_a opcodes.AGHI 15 bits) (computes_immediate Set adds 15 15 bits) (takes_from_stack size) (adds_negated size (ltb-true size 32768 e)) never is_row (λ st. halfword_at L b.image (L.offsets.step k) (step_even b) opcodes.AGHI adds Set (halfword_rows A.Add64) 15 bits (omega arith) (halfword_bits (neg_ℤ (pos size))) st)
      go false e is_row =
          let bits = low_word (pos size) in
          let subtracts = on_immediate (alu_computation A.SubLogical64) unsigned_word in
          looser_runs b (ril_a opcodes.SLGFI 15 bits) (computes_immediate Set subtracts 15 15 bits) (takes_from_stack size) (λ r. loosens _ Set Unspecified tt) never is_row (λ st. word_at L b.image (L.offsets.step k) (step_even b) opcodes.SLGFI subtracts Set (unsigned_word_rows A.SubLogical64) 15 bits (omega arith) (word_bits (pos size)) st)
