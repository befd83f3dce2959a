-- The steps of shifts, and of rotations that select bits.
use Rattle.std.proofs.Common.{◌≡◌, ℕ, ◌+◌, ◌-◌, ◌^◌, ◌<◌, ◌&&◌, Some, None, Bool, true, false, cond, IsTrue, refl, ap, ◌∙◌, arith, nat_lt, ℤ, pos, ltb-true}
use Rattle.std.specs.Prelude.{◌-ℤ◌}
use Rattle.std.proofs.lemmas.Bool.{and_parts, lt-ltb, le-ltb}
use Rattle.s390x_inst.specs.declared.ops.ShiftOp.{ShiftOp}
use Rattle.s390x_inst.specs.declared.ops.RxSBGOp.{RxSBGOp}
use Rattle.s390x_inst.specs.declared.ops.RxSBGOp.TheVariants as R
use Rattle.s390x_format.specs.Rows.{is_allowed}
use Rattle.s390x_format.specs.declared.row.Allowed.TheVariants.{RotateBitsOrTest}
use Rattle.s390x_typed_steps.specs.SingleInstruction.{rotated_row}
use Rattle.s390x_typed_steps.specs.General.{low_byte, rotation}
use Rattle.s390x_typed_steps.specs.MachineInstruction.{MachineInstruction, rie_f, rsy}
use Rattle.s390x_typed_steps.specs.Opcodes.{shift_opcode, rotate_then, rotate_then_test}
use Rattle.s390x_typed_steps.specs.Steps.{Step}
use Rattle.s390x_operations.specs.Bits.{selection}
use Rattle.s390x_operations.specs.State.{Registers}
use Rattle.s390x_operations.specs.declared.effect.CodeRule.TheVariants.{Set}
use Rattle.s390x_operations.specs.declared.effect.Effect.TheVariants as Effect
use Rattle.s390x_operations.specs.declared.effect.Operation.{Operation}
use Rattle.s390x_operations.specs.declared.operator.Operator.TheVariants.{Shift, SelectedBits}
use Rattle.s390x_operations.specs.declared.size.Size.TheVariants.{Doubleword}
use Rattle.s390x_machine.specs.declared.action_type.Action.TheVariants.{Perform}
use Rattle.s390x_format.specs.declared.semantics.RowSemantics.TheVariants.{RotateThen}
use Rattle.s390x_machine.specs.Computations.{with_rule, operand_of, shift_operator, shift_size, shift_rule, shift_computation, shifts, rotate_operator, rotate_rule, rotates_into, rotates_to_test}
use Rattle.s390x_machine.specs.StepKinds.{no_code}
use Rattle.s390x_machine.specs.Layout.{Layout}
use Rattle.s390x_machine.specs.OneStep.{StepRuns}
use Rattle.s390x_machine.specs.Operands.{value_in, address_by_base, rotated_operand}
use Rattle.s390x_machine.proofs.Bits.{shift_semantics, shift_rows, rotate_allows, rotate_rows, rotation_allowed, test_allowed}
use Rattle.s390x_machine.proofs.Built.{StepAt, IsRow, IsSingle, meant_runs}
use Rattle.s390x_machine.proofs.Listing.{few_digits}
use Rattle.s390x_machine.proofs.RegisterNumbers.{rotation_small}
use Rattle.s390x_machine.proofs.Rows.{fits_rie_f, fits_rsy}
use Rattle.s390x_machine.proofs.Stops.{never_by_values}

-- what a rotation does with a first bit number: the register gets the bits, or the code alone is set
abbrev rotated : RxSBGOp → (d n start end amount : ℕ) → Registers → Operation
rotated op d n start end amount r = with_rule (rotate_rule op) (Effect.Compute (SelectedBits (rotate_operator op) (selection start end)) Doubleword d (r.general d) (rotated_operand r n amount))

abbrev compared_only : RxSBGOp → (d n start end amount : ℕ) → Registers → Operation
compared_only op d n start end amount r = with_rule Set (Effect.Test (SelectedBits (rotate_operator op) (selection (start - 128) end)) Doubleword (r.general d) (rotated_operand r n amount))

module _ {L : Layout} {k : ℕ} {s : Step} (b : StepAt L k s) where
  pub shift_runs : (op : ShiftOp) (d n base amount : ℕ) → IsRow L s (rsy (shift_opcode op) d n base (low_byte amount)) (shifts op d n base (low_byte amount)) → (d < 16) × (n < 16) × (base < 16) → StepRuns L k
  shift_runs op d n base amount is l =
      let byte : low_byte amount < 2 ^ 19 = omega arith in
      meant_runs b (rsy (shift_opcode op) d n base (low_byte amount)) (shift_semantics op) (shifts op d n base (low_byte amount)) (λ r. never_by_values (shifts op d n base (low_byte amount) r) no_code refl (λ kind h. h)) is (shift_rows op) (fits_rsy (shift_opcode op) d n base (low_byte amount) (few_digits (shift_rows op).0) l.0 l.1 l.2 (omega arith)) refl (λ r p.
      ap (λ t. Perform (with_rule (shift_rule op) (Effect.Compute (Shift (shift_operator op)) (shift_size op) d (value_in (shift_size op) r n) (operand_of (shift_computation op).second (address_by_base r base (cond t (pos (low_byte amount)) (pos (low_byte amount) -ℤ pos (2 ^ 20)))))))) (lt-ltb (low_byte amount) (2 ^ 19) byte))

  pub rotate_runs : (op : RxSBGOp) (operands_valid : Bool) (d n start end : ℕ) (amount : ℤ) → IsSingle L s operands_valid (rotated_row (Some (rotate_then op)) d n start end start (rotation amount)) (rotates_into op d n start end (rotation amount)) → (IsTrue operands_valid → (d < 16) × (n < 16)) → StepRuns L k
  rotate_runs op operands_valid d n start end amount is small = go (nat_lt start 64 && nat_lt end 64) refl is
    where
      am : ℕ
      am = rotation amount

      x : MachineInstruction
      x = rie_f (rotate_then op) d n start end am

      go : (t : Bool) → (nat_lt start 64 && nat_lt end 64) ≡ t → IsSingle L s operands_valid (cond t (Some x) None) (rotates_into op d n start end am) → StepRuns L k
      go false e is2 = absurd is2.2
      go true e is2 =
          let l = small is2.2 in
          let tests = and_parts (nat_lt start 64) (nat_lt end 64) e in
          let ls = ltb-true start 64 tests.0 in
          let le = ltb-true end 64 tests.1 in
          let fit = fits_rie_f (rotate_then op) d n start end am (few_digits (rotate_rows op).0) l.0 l.1 (omega (arith, ls)) (omega (arith, le)) (omega (arith, rotation_small amount)) in
          meant_runs b x (RotateThen (rotate_operator op) (rotate_rule op)) (rotates_into op d n start end am) (λ r. never_by_values (rotates_into op d n start end am r) no_code refl (λ kind h. h)) (is2.0, is2.1) (rotate_rows op) fit (rotation_allowed op d n start end am ls le (rotation_small amount)) (λ r p.
          ap (λ t. cond t (Perform (rotated op d n start end am r)) (Perform (compared_only op d n start end am r))) (lt-ltb start 64 ls))

  -- the same for the code alone
  tested : (op : RxSBGOp) → rotate_allows op ≡ RotateBitsOrTest → (operands_valid : Bool) (d n start end : ℕ) (amount : ℤ) → IsSingle L s operands_valid (rotated_row (Some (rotate_then op)) d n start end (start + 128) (rotation amount)) (rotates_to_test op d n start end (rotation amount)) → (IsTrue operands_valid → (d < 16) × (n < 16)) → StepRuns L k
  tested op tests_alone operands_valid d n start end amount is small = go (nat_lt start 64 && nat_lt end 64) refl is
    where
      am : ℕ
      am = rotation amount

      x : MachineInstruction
      x = rie_f (rotate_then op) d n (start + 128) end am

      go : (t : Bool) → (nat_lt start 64 && nat_lt end 64) ≡ t → IsSingle L s operands_valid (cond t (Some x) None) (rotates_to_test op d n start end am) → StepRuns L k
      go false e is2 = absurd is2.2
      go true e is2 =
          let l = small is2.2 in
          let tests = and_parts (nat_lt start 64) (nat_lt end 64) e in
          let ls = ltb-true start 64 tests.0 in
          let le = ltb-true end 64 tests.1 in
          let back : start + 128 - 128 ≡ start = omega arith in
          let fit = fits_rie_f (rotate_then op) d n (start + 128) end am (few_digits (rotate_rows op).0) l.0 l.1 (omega (arith, ls)) (omega (arith, le)) (omega (arith, rotation_small amount)) in
          let allowed : is_allowed (rotate_allows op) x.slots ≡ true = ap (λ a. is_allowed a x.slots) tests_alone ∙ test_allowed (rotate_then op) d n start end am ls le (rotation_small amount) in
          meant_runs b x (RotateThen (rotate_operator op) (rotate_rule op)) (rotates_to_test op d n start end am) (λ r. never_by_values (rotates_to_test op d n start end am r) no_code refl (λ kind h. h)) (is2.0, is2.1) (rotate_rows op) fit allowed (λ r p.
          ap (λ t. cond t (Perform (rotated op d n (start + 128) end am r)) (Perform (compared_only op d n (start + 128) end am r))) (le-ltb (start + 128) 64 (omega arith)) ∙ ap (λ i. Perform (rotates_to_test op d n i end am r)) back)

  pub test_runs : (op : RxSBGOp) (operands_valid : Bool) (d n start end : ℕ) (amount : ℤ) → IsSingle L s operands_valid (rotated_row (rotate_then_test op) d n start end (start + 128) (rotation amount)) (rotates_to_test op d n start end (rotation amount)) → (IsTrue operands_valid → (d < 16) × (n < 16)) → StepRuns L k
  test_runs R.Insert operands_valid d n start end amount is small = absurd is.2
  test_runs R.And operands_valid d n start end amount is small = tested R.And refl operands_valid d n start end amount is small
  test_runs R.Or operands_valid d n start end amount is small = tested R.Or refl operands_valid d n start end amount is small
  test_runs R.Xor operands_valid d n start end amount is small = tested R.Xor refl operands_valid d n start end amount is small
