-- A step with an operand in memory whose access stands as it is, or behind helpers that put an offset or an address into `%r1`.
use Rattle.std.proofs.Common.{◌≡◌, ℕ, ◌+◌, ◌%◌, ◌^◌, ◌<◌, List, [], ◌∷◌, ◌++◌, Option, Some, None, Bool, true, false, ◌==◌, refl, sym, ap, ◌∙◌, subst, arith}
use Rattle.std.specs.Prelude.{ℤ, pos, negsuc, ◌+ℤ◌, ◌≤ℤ◌}
use Rattle.s390x_base.specs.Regs.{number_of}
use Rattle.s390x_base.specs.declared.regs.Reg.{Reg}
use Rattle.s390x_base.specs.declared.trap.TrapKind.{TrapKind}
use Rattle.s390x_inst.specs.declared.args.MemArg.{MemArg}
use Rattle.s390x_format.specs.Formats.{length_of}
use Rattle.s390x_rows.specs.declared.opcodes.TheConstants as opcodes
use Rattle.s390x_typed_steps.specs.General.{low_word}
use Rattle.s390x_typed_steps.specs.MachineInstruction.{size_of, ril_a}
use Rattle.s390x_typed_steps.specs.Memory.{StorageForm, address_form}
use Rattle.s390x_typed_steps.specs.Operands.{scratch}
use Rattle.s390x_typed_steps.specs.Parts.{Row, part_size, operand_parts, step_parts}
use Rattle.s390x_typed_steps.specs.Steps.{Step}
use Rattle.s390x_operations.specs.State.{Registers, Core, set_general, wrapping_add64}
use Rattle.s390x_machine.specs.declared.action_type.Action.TheVariants.{Perform}
use Rattle.s390x_operations.specs.Effects.{Refines}
use Rattle.s390x_operations.specs.declared.effect.CodeRule.TheVariants.{Kept}
use Rattle.s390x_operations.specs.declared.effect.Operation.{Operation}
use Rattle.s390x_operations.specs.declared.operator.Operator.TheVariants.{Move}
use Rattle.s390x_machine.specs.Computations.{doubleword, signed_word, on_doublewords, on_immediate}
use Rattle.s390x_machine.specs.StepKinds.{Performs, access_code}
use Rattle.s390x_machine.specs.Layout.{Layout}
use Rattle.s390x_machine.specs.Machine.{Transition}
use Rattle.s390x_machine.specs.OneStep.{StepRuns}
use Rattle.s390x_machine.specs.Operands.{address_by_index, address_by_base, address_part}
use Rattle.s390x_machine.specs.Storage.{loads_address}
use Rattle.s390x_machine.specs.Typed.{with_scratch_value, kind_at}
use Rattle.s390x_machine.proofs.Addresses.{sum_more}
use Rattle.s390x_machine.proofs.SingleInstruction.{lgfi_row, word_at}
use Rattle.s390x_machine.proofs.Built.{StepAt, step_even, exactly}
use Rattle.s390x_machine.proofs.Operands.{word_bits, put_twice, low_below, loaded_address, far_offset}
use Rattle.s390x_machine.proofs.Simulation.{Inside, Simulates, ValuesCoded, at_start, general_step}
use Rattle.s390x_machine.proofs.Storage.{Stands, LastRow, step_rows_before, moved, helper_then}

module _ {L : Layout} {k : ℕ} {s : Step} (x : StepAt L k s) (form : StorageForm) (operation : ℕ → Registers → Operation) (code : Option TrapKind) (never : (a : ℕ) (r : Registers) → ValuesCoded (operation a r) (access_code code)) where
  -- the access ends the step
  last_runs : (needs : Bool) (v : ℕ) (address to : Registers → ℕ) (operand : MemArg) (st : Stands L form operand operation to) (c : Core) (g : List Transition) (p : ℕ) → kind_at L k ≡ Some (Performs needs (λ r. operation (address r) r) (access_code code)) → LastRow L k st.part code p →
      Inside L k c g (with_scratch_value needs v c.registers) (wrapping_add64 L.image.base p) → Refines (operation (to (with_scratch_value needs v c.registers)) (with_scratch_value needs v c.registers)) (operation (address c.registers) c.registers) → Simulates L k c g (with_scratch_value needs v c.registers) (wrapping_add64 L.image.base p)
  last_runs needs v address to operand st c g p is last i refines =
      general_step L k c g (wrapping_add64 L.image.base p) (λ r. Perform (operation (to r) r)) (part_size st.part) needs v (λ r. operation (address r) r) (access_code code) is i (st.row p last.even last.stands last.reaches) refines (sum_more L.image.base p (part_size st.part) ∙ ap (wrapping_add64 L.image.base) (sym last.next)) last.with_code (never (address c.registers) c.registers)

  -- no helper
  pub direct : (address : Registers → ℕ) (operand : MemArg) → Stands L form operand operation address → kind_at L k ≡ Some (Performs false (λ r. operation (address r) r) (access_code code)) → step_parts s ≡ operand_parts form code operand → StepRuns L k
  direct address operand st is parts c is_loaded =
      let b = step_rows_before L x.image k s x.at x.code [] tt st.part code st.some (parts ∙ st.is code) in
      last_runs false 0 address address operand st c [] (L.offsets.step k) is b (at_start L k c (record { offset = L.offsets.step k; above = omega arith; below = omega (arith, b.next, st.some); is = refl }) is_loaded) (exactly (operation (address c.registers) c.registers))

  -- the address is loaded first
  pub after_address : (address : Registers → ℕ) (first operand : MemArg) → Stands L (address_form scratch) first (loads_address 1) address → Stands L form operand operation (λ r. address_by_index r 1 0 (pos 0)) → ((r : Registers) → address r < 2 ^ 64) →
      ((a : ℕ) (r : Registers) (v : ℕ) → Refines (operation a (set_general r 1 v)) (operation a r)) → kind_at L k ≡ Some (Performs true (λ r. operation (address r) r) (access_code code)) → step_parts s ≡ (operand_parts (address_form scratch) None first ++ []) ++ operand_parts form code operand → StepRuns L k
  after_address address first operand hst st small ignores is parts c is_loaded =
      let is_rows = parts ∙ ap (λ ps. (ps ++ []) ++ operand_parts form code operand) (hst.is None) ∙ ap (λ ps. hst.part ∷ ps) (st.is code) in
      let b = step_rows_before L x.image k s x.at x.code (hst.part ∷ []) (hst.untrapped, tt) st.part code st.some is_rows in
      let next = b.1.next in
      let w = address c.registers % 2 ^ 64 in
      helper_then L x.image k c [] c.registers (L.offsets.step k) (part_size hst.part) doubleword address refl (at_start L k c (record { offset = L.offsets.step k; above = omega arith; below = omega (arith, next, hst.some); is = refl }) is_loaded) (omega arith) (omega arith) (omega (arith, next, st.some)) (hst.row (L.offsets.step k) (step_even x) b.0.0 b.0.1) (λ g n i.
      last_runs true w address (λ r. address_by_index r 1 0 (pos 0)) operand st c g (L.offsets.step k + part_size hst.part) is b.1 i
      (subst (λ a. Refines (operation a (set_general c.registers 1 w)) (operation (address c.registers) c.registers)) (sym (loaded_address c.registers (address c.registers) (small c.registers))) (ignores (address c.registers) c.registers w)))

  -- the offset is loaded first, and stands as the index
  pub after_offset : (reg : Reg) (off : ℤ) (operand : MemArg) → (number_of reg == 1) ≡ false → negsuc 2147483647 ≤ℤ off → off ≤ℤ pos 2147483647 → Stands L form operand operation (λ r. address_by_index r (number_of reg) 1 (pos 0)) →
      ((a : ℕ) (r : Registers) (v : ℕ) → Refines (operation a (set_general r 1 v)) (operation a r)) → kind_at L k ≡ Some (Performs true (λ r. operation (address_by_base r (number_of reg) off) r) (access_code code)) → step_parts s ≡ Row (ril_a opcodes.LGFI 1 (low_word off)) ∷ operand_parts form code operand → StepRuns L k
  unfolding length_of
  after_offset reg off operand other least most st ignores is parts c is_loaded =
      let h = ril_a opcodes.LGFI 1 (low_word off) in
      let b = step_rows_before L x.image k s x.at x.code (Row h ∷ []) ((λ p. refl), tt) st.part code st.some (parts ∙ ap (λ ps. Row h ∷ ps) (st.is code)) in
      let next = b.1.next in
      let w = moved L x.image k signed_word (low_word off) in
      let same : address_by_index (set_general c.registers 1 w) (number_of reg) 1 (pos 0) ≡ address_by_base c.registers (number_of reg) off = far_offset c.registers (number_of reg) off other least most in
      helper_then L x.image k c [] c.registers (L.offsets.step k) (size_of h) signed_word (λ r. low_word off) refl (at_start L k c (record { offset = L.offsets.step k; above = omega arith; below = omega (arith, next); is = refl }) is_loaded) (omega arith) (omega arith) (omega (arith, next, st.some))
      (word_at L x.image (L.offsets.step k) (step_even x) opcodes.LGFI (on_immediate (on_doublewords Move) signed_word) Kept lgfi_row 1 (low_word off) (omega arith) (word_bits off) b.0.0) (λ g n i.
      last_runs true w (λ r. address_by_base r (number_of reg) off) (λ r. address_by_index r (number_of reg) 1 (pos 0)) operand st c g (L.offsets.step k + size_of h) is b.1 i
      (subst (λ a. Refines (operation a (set_general c.registers 1 w)) (operation (address_by_base c.registers (number_of reg) off) c.registers)) (sym same) (ignores (address_by_base c.registers (number_of reg) off) c.registers w)))

  -- the offset is loaded, and then the address
  pub after_both : (reg : Reg) (off : ℤ) (first operand : MemArg) → (number_of reg == 1) ≡ false → negsuc 2147483647 ≤ℤ off → off ≤ℤ pos 2147483647 → Stands L (address_form scratch) first (loads_address 1) (λ r. address_by_index r (number_of reg) 1 (pos 0)) →
      Stands L form operand operation (λ r. address_by_index r 1 0 (pos 0)) → ((a : ℕ) (r : Registers) (v : ℕ) → Refines (operation a (set_general r 1 v)) (operation a r)) → kind_at L k ≡ Some (Performs true (λ r. operation (address_by_base r (number_of reg) off) r) (access_code code)) →
      step_parts s ≡ (Row (ril_a opcodes.LGFI 1 (low_word off)) ∷ (operand_parts (address_form scratch) None first ++ [])) ++ operand_parts form code operand → StepRuns L k
  unfolding length_of
  after_both reg off first operand other least most hst st ignores is parts c is_loaded =
      let h = ril_a opcodes.LGFI 1 (low_word off) in
      let is_rows = parts ∙ ap (λ ps. (Row h ∷ (ps ++ [])) ++ operand_parts form code operand) (hst.is None) ∙ ap (λ ps. Row h ∷ hst.part ∷ ps) (st.is code) in
      let b = step_rows_before L x.image k s x.at x.code (Row h ∷ hst.part ∷ []) ((λ p. refl), (hst.untrapped, tt)) st.part code st.some is_rows in
      let next = b.1.1.next in
      let v = moved L x.image k signed_word (low_word off) in
      let r1 = set_general c.registers 1 v in
      let a = address_by_base c.registers (number_of reg) off in
      let same : address_by_index r1 (number_of reg) 1 (pos 0) ≡ a = far_offset c.registers (number_of reg) off other least most in
      let w = address_by_index r1 (number_of reg) 1 (pos 0) % 2 ^ 64 in
      let small : a < 2 ^ 64 = low_below (pos (address_part c.registers (number_of reg)) +ℤ off) in
      let there : address_by_index (set_general c.registers 1 w) 1 0 (pos 0) ≡ a = ap (λ x. address_by_index (set_general c.registers 1 (x % 2 ^ 64)) 1 0 (pos 0)) same ∙ loaded_address c.registers a small in
      helper_then L x.image k c [] c.registers (L.offsets.step k) (size_of h) signed_word (λ r. low_word off) refl (at_start L k c (record { offset = L.offsets.step k; above = omega arith; below = omega (arith, next); is = refl }) is_loaded) (omega arith) (omega arith) (omega (arith, next, st.some))
      (word_at L x.image (L.offsets.step k) (step_even x) opcodes.LGFI (on_immediate (on_doublewords Move) signed_word) Kept lgfi_row 1 (low_word off) (omega arith) (word_bits off) b.0.0) (λ g n i.
      helper_then L x.image k c g r1 (L.offsets.step k + size_of h) (part_size hst.part) doubleword (λ r. address_by_index r (number_of reg) 1 (pos 0)) refl i (omega (arith, n)) (omega arith) (omega (arith, next, st.some)) (hst.row (L.offsets.step k + size_of h) (omega (arith, step_even x)) b.1.0.0 b.1.0.1) (λ g2 n2.
      subst (λ r. Inside L k c g2 r (wrapping_add64 L.image.base (L.offsets.step k + size_of h + part_size hst.part)) → Simulates L k c g2 r (wrapping_add64 L.image.base (L.offsets.step k + size_of h + part_size hst.part))) (sym (put_twice c.registers v w)) (λ i2.
      last_runs true w (λ r. address_by_base r (number_of reg) off) (λ r. address_by_index r 1 0 (pos 0)) operand st c g2 (L.offsets.step k + size_of h + part_size hst.part) is b.1.1 i2
      (subst (λ x. Refines (operation x (set_general c.registers 1 w)) (operation a c.registers)) (sym there) (ignores a c.registers w)))))
