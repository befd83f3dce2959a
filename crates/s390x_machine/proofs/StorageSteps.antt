-- Each kind of instruction with an operand in memory runs as its step.
use Rattle.std.proofs.Common.{◌≡◌, ℕ, zero, suc, ◌+◌, ◌-◌, ◌*◌, ◌%◌, ◌^◌, ◌<◌, ◌≤◌, [], Option, Some, None, Bool, true, false, ◌&&◌, ◌||◌, ◌==◌, IsTrue, slice_index, refl, sym, ap, ap₂, ◌∙◌, subst, arith}
use Rattle.std.specs.Prelude.{nat_eq, nat_le}
use Rattle.std.proofs.lemmas.Bool.{and_parts, eqb-true, leb-true, or_parts, le-leb}
use Rattle.s390x_base.specs.Regs.{number_of}
use Rattle.s390x_base.specs.declared.regs.Reg.{Reg}
use Rattle.s390x_inst.specs.declared.args.MemArg.{MemArg}
use Rattle.s390x_format.specs.declared.kind.FormatKind.TheVariants.{Rx, Rxy, Rsy, Sil}
use Rattle.s390x_format.specs.View.{disp_of}
use Rattle.s390x_rows.specs.declared.opcodes.TheConstants as opcodes
use Rattle.s390x_typed_steps.specs.General.{is_general, reuses, low_byte}
use Rattle.s390x_typed_steps.specs.Memory.{MemoryInstruction, RxForm, RsForm, SiForm, SilForm, type_of, fault_code, operate, load_and_operate, is_range, holds_scratch}
use Rattle.s390x_typed_steps.specs.Operands.{is_numbered, operand_general}
use Rattle.s390x_typed_steps.specs.declared.mem_inst_type.MemInstType.{MemInstType}
use Rattle.s390x_typed_steps.specs.Parts.{memory_or, memory_parts, step_parts}
use Rattle.s390x_typed_steps.specs.Steps.{Step}
use Rattle.s390x_operations.specs.State.{Registers, set_general}
use Rattle.s390x_operations.specs.Access.{Stores}
use Rattle.s390x_operations.specs.Values.{in_byte_order}
use Rattle.s390x_operations.specs.Effects.{Refines, joined_doublewords}
use Rattle.s390x_operations.specs.declared.size.Size.{Size}
use Rattle.s390x_operations.specs.declared.size.Size.TheVariants.{Halfword, Word, Doubleword}
use Rattle.s390x_operations.specs.declared.size.Width.{Width}
use Rattle.s390x_operations.specs.declared.size.Width.TheVariants.{Bits8}
use Rattle.s390x_operations.specs.declared.operand.Source.TheVariants.{Memory as InMemory}
use Rattle.s390x_operations.specs.declared.operator.Operator.TheVariants.{Move}
use Rattle.s390x_operations.specs.declared.effect.Effect.TheVariants as Effect
use Rattle.s390x_operations.specs.declared.effect.CodeRule.{CodeRule}
use Rattle.s390x_operations.specs.declared.effect.CodeRule.TheVariants.{Kept, Set}
use Rattle.s390x_operations.specs.declared.effect.Operation.{Operation}
use Rattle.s390x_format.specs.declared.semantics.RowSemantics.TheVariants.{Compute, StoreByte, StoreImmediate, LoadMultiple, StoreMultiple, LoadAndOperate, CompareAndSwap}
use Rattle.s390x_format.specs.declared.semantics.OperandSource.TheVariants.{Indexed, IndexedAddress, Relative, RelativeAddress}
use Rattle.s390x_machine.specs.declared.action_type.Action.TheVariants.{Perform}
use Rattle.s390x_machine.specs.Computations.{Second, Computation, Comparison, doubleword, with_rule}
use Rattle.s390x_machine.specs.StepKinds.{Unsupported, kind_or, performed_at, access_code}
use Rattle.s390x_machine.specs.Layout.{Layout}
use Rattle.s390x_machine.specs.OneStep.{StepRuns}
use Rattle.s390x_machine.specs.Semantics.{registers_between}
use Rattle.s390x_machine.specs.Operands.{value_in, address_by_base, values_from}
use Rattle.s390x_machine.specs.CodeAt.{IsValidMemory, ValidMemoryOr}
use Rattle.s390x_machine.specs.Storage.{operand_address, operand_at, computes_at, compares_at, loads_at, loads_address, stores_at, stores_value, signed_immediate, loads_multiple, stores_multiple, operates_at, swaps_at}
use Rattle.s390x_machine.specs.Typed.{kind_of_step}
use Rattle.s390x_machine.proofs.Listing.{OpcodeRow, OpcodeRows}
use Rattle.s390x_machine.proofs.SingleInstruction.{computed, compared_with, second_register}
use Rattle.s390x_machine.proofs.Built.{StepAt, exactly}
use Rattle.s390x_machine.proofs.Finalizing.{memory_runs}
use Rattle.s390x_machine.proofs.Relative.{RelativeForm, RelativeDoes}
use Rattle.s390x_machine.proofs.RelativeRows.{RelativeRows, relative_loading, relative_storing, relative_address_row}
use Rattle.s390x_machine.proofs.Operands.{other_kept, not_scratch, signed_read}
use Rattle.s390x_machine.proofs.Rows.{general_number}
use Rattle.s390x_machine.proofs.Stops.{never_by_values}
use Rattle.s390x_machine.proofs.Simulation.{ValuesCoded}
use Rattle.s390x_machine.proofs.Storage.{IndexedForm, FormDoes}
use Rattle.s390x_machine.proofs.StorageRows.{IndexedRows, BasedRows, loading, storing, load_address, store_byte, load_multiple, store_multiple}
use Rattle.s390x_machine.proofs.RegisterNumbers.{output_small}

-- ---- what an operation reads

-- the same operation
same_operation : (m op : Operation) → m ≡ op → Refines m op
same_operation m op e = subst (λ x. Refines x op) (sym e) (exactly op)

value_kept : (size : Size) (r : Registers) (v i : ℕ) → (i == 1) ≡ false → value_in size (set_general r 1 v) i ≡ value_in size r i
value_kept Halfword r v i e = ap (λ n. n % 2 ^ 16) (other_kept r v i e)
value_kept Word r v i e = ap (λ n. n % 2 ^ 32) (other_kept r v i e)
value_kept Doubleword r v i e = other_kept r v i e

-- an input that is the output, and isn't %r1
reused_other : (output input : Reg) → IsTrue (reuses output input) → is_numbered 1 input ≡ false → (number_of output == 1) ≡ false
reused_other output input h e =
    let p = and_parts (is_general output && is_general input) (nat_eq (number_of output) (number_of input)) h in
    ap (λ n. n == 1) (eqb-true (number_of output) (number_of input) p.1) ∙ not_scratch input (and_parts (is_general output) (is_general input) p.0).1 e

-- ---- registers of a multiple

counted : (first last : ℕ) → first ≤ last → last < 16 → registers_between first last ≡ last + 1 - first
counted first last le lt = omega (arith, le, lt)

value_at : (r : Registers) (first n m : ℕ) → n < m → slice_index (values_from r first m) n ≡ r.general ((first + n) % 16)
value_at r first n zero lt = absurd (omega arith)
value_at r first zero (suc m) lt = let e : first ≡ first + 0 = omega arith in ap (λ i. r.general (i % 16)) e
value_at r first (suc n) (suc m) lt = let e : first + 1 + n ≡ first + suc n = omega arith in value_at r (first + 1) n m (omega (arith, lt)) ∙ ap (λ i. r.general (i % 16)) e

-- a register of the range isn't %r1
other_in_range : (first last j : ℕ) → (nat_le first 1 && nat_le 1 last) ≡ false → first ≤ j → j ≤ last → (j == 1) ≡ false
other_in_range first last j none above below = go (j == 1) refl
  where
    go : (t : Bool) → (j == 1) ≡ t → (j == 1) ≡ false
    go false e = e
    go true e =
        let one : j ≡ 1 = eqb-true j 1 e in
        let both : (nat_le first 1 && nat_le 1 last) ≡ true = ap (λ t. t && nat_le 1 last) (le-leb first 1 (omega (arith, one, above))) ∙ le-leb 1 last (omega (arith, one, below)) in
        absurd (cc)

joined_kept : (r : Registers) (v first last n : ℕ) → (nat_le first 1 && nat_le 1 last) ≡ false → last < 16 → first + n ≤ last + 1 → joined_doublewords (values_from (set_general r 1 v) first 16) n ≡ joined_doublewords (values_from r first 16) n
joined_kept r v first last zero none lt le = refl
joined_kept r v first last (suc n) none lt le =
    let small : (first + n) % 16 ≡ first + n = omega (arith, lt, le) in
    let kept = other_kept r v ((first + n) % 16) (ap (λ i. i == 1) small ∙ other_in_range first last (first + n) none (omega arith) (omega (arith, le))) in
    let few : n < 16 = omega (arith, lt, le) in
    let here : slice_index (values_from (set_general r 1 v) first 16) n ≡ slice_index (values_from r first 16) n = value_at (set_general r 1 v) first n 16 few ∙ kept ∙ sym (value_at r first n 16 few) in
    ap₂ (λ a b. a * 2 ^ 64 + b) (joined_kept r v first last n none lt (omega (arith, le))) here

-- ---- the helper's rows

pub address_rows : (d : ℕ) → d < 16 → IndexedForm d (Some opcodes.LA) (Some opcodes.LAY) (loads_address d)
address_rows d lt = record {
  few = lt;
  semantics = Compute Move Doubleword (second_register IndexedAddress doubleword) Kept;
  short_rows = load_address.0;
  long_rows = load_address.1;
  acts = λ kind opcode base index n r p. refl;
}

-- and the row for an operand relative to the instruction
pub relative_address_rows : (d : ℕ) → d < 16 → RelativeForm d (Some opcodes.LARL) (loads_address d)
relative_address_rows d lt = record {
  few = lt;
  semantics = Compute Move Doubleword (second_register RelativeAddress doubleword) Kept;
  rows = relative_address_row;
  acts = λ opcode half r p. refl;
}

module _ {L : Layout} {k : ℕ} {s : Step} (b : StepAt L k s) where
  -- its form and its parts are those of an instruction with an operand in memory that does this, and whose rows have these forms
  abbrev pub Is : MemoryInstruction → MemInstType → (ℕ → Registers → Operation) → Type 0
  Is x forms operation = (forms ≡ type_of x.form x.accesses) × (kind_of_step L (Some s) ≡ Some (kind_or (performed_at (record { operand = x.operand; forms = forms; accesses = x.accesses; operation = operation }) (operand_address L x.operand)) Unsupported)) × (step_parts s ≡ memory_parts x) × IsValidMemory L x

  -- the same of one that may have no rows
  abbrev pub MayBe : Option MemoryInstruction → MemArg → MemInstType → (ℕ → Registers → Operation) → Type 0
  MayBe x mem forms operation = (kind_of_step L (Some s) ≡ Some (kind_or (performed_at (record { operand = mem; forms = forms; accesses = true; operation = operation }) (operand_address L mem)) Unsupported)) × (step_parts s ≡ memory_or x []) × ValidMemoryOr L x ⊥

  memory_steps : (x : MemoryInstruction) (forms : MemInstType) (operation : ℕ → Registers → Operation) → FormDoes x.form operation → RelativeDoes x.form x.accesses operation → ((a : ℕ) (r : Registers) → ValuesCoded (operation a r) (access_code (fault_code x))) →
      (x.reads_scratch ≡ false → (a : ℕ) (r : Registers) (v : ℕ) → Refines (operation a (set_general r 1 v)) (operation a r)) → Is x forms operation → StepRuns L k
  memory_steps x forms operation does relative never ignores is =
      memory_runs b (address_rows 1 (omega arith)) (relative_address_rows 1 (omega arith)) x forms operation does relative never ignores is.0 is.1 is.2 is.3

  pub loads : (size : Size) (second : Second) (short long relative : Option ℕ) → IndexedRows short long (loading size second) → RelativeRows relative (relative_loading size second) → (rd : Reg) (mem : MemArg) (forms : MemInstType) →
      Is (record { form = RxForm (number_of rd) short long relative; operand = mem; accesses = true; operands_valid = is_general rd; reads_scratch = false }) forms (loads_at size second (number_of rd)) → StepRuns L k
  loads size second short long relative rows relative_row rd mem forms is =
      let d = number_of rd in
      let x : MemoryInstruction = record { form = RxForm d short long relative; operand = mem; accesses = true; operands_valid = is_general rd; reads_scratch = false } in
      let lt = general_number rd (and_parts (is_general rd) (operand_general mem) is.3.registers).0 in
      memory_steps x forms (loads_at size second d) (record { few = lt; semantics = loading size second; short_rows = rows.0; long_rows = rows.1; acts = λ kind opcode base index n r p. refl })
      (record { few = lt; semantics = relative_loading size second; rows = relative_row; acts = λ opcode half r p. refl }) (λ a r. never_by_values (loads_at size second d a r) (access_code (fault_code x)) refl (λ kind h. h))
      (λ e a r v. record { access = refl; refused = refl; may_refuse = λ kind h. h; results = λ c q h. h; code = λ c code h. h }) is

  pub loads_an_address : (rd : Reg) (mem : MemArg) (forms : MemInstType) → Is (record { form = RxForm (number_of rd) (Some opcodes.LA) (Some opcodes.LAY) (Some opcodes.LARL); operand = mem; accesses = false; operands_valid = is_general rd; reads_scratch = false }) forms (loads_address (number_of rd)) → StepRuns L k
  loads_an_address rd mem forms is =
      let d = number_of rd in
      let x : MemoryInstruction = record { form = RxForm d (Some opcodes.LA) (Some opcodes.LAY) (Some opcodes.LARL); operand = mem; accesses = false; operands_valid = is_general rd; reads_scratch = false } in
      let lt = general_number rd (and_parts (is_general rd) (operand_general mem) is.3.registers).0 in
      memory_steps x forms (loads_address d) (address_rows d lt) (relative_address_rows d lt) (λ a r. never_by_values (loads_address d a r) (access_code (fault_code x)) refl (λ kind h. h))
      (λ e a r v. record { access = refl; refused = refl; may_refuse = λ kind h. h; results = λ c q h. h; code = λ c code h. h }) is

  pub stores : (second : Second) (short long relative : Option ℕ) → IndexedRows short long (storing second) → RelativeRows relative (relative_storing second) → (rd : Reg) (mem : MemArg) (forms : MemInstType) →
      Is (record { form = RxForm (number_of rd) short long relative; operand = mem; accesses = true; operands_valid = is_general rd; reads_scratch = is_numbered 1 rd }) forms (stores_at second (number_of rd)) → StepRuns L k
  stores second short long relative rows relative_row rd mem forms is =
      let d = number_of rd in
      let x : MemoryInstruction = record { form = RxForm d short long relative; operand = mem; accesses = true; operands_valid = is_general rd; reads_scratch = is_numbered 1 rd } in
      let general = (and_parts (is_general rd) (operand_general mem) is.3.registers).0 in
      memory_steps x forms (stores_at second d) (record { few = general_number rd general; semantics = storing second; short_rows = rows.0; long_rows = rows.1; acts = λ kind opcode base index n r p. refl })
      (record { few = general_number rd general; semantics = relative_storing second; rows = relative_row; acts = λ opcode half r p. refl }) (λ a r. never_by_values (stores_at second d a r) (access_code (fault_code x)) refl (λ kind h. h)) (λ e a r v.
      same_operation (stores_at second d a (set_general r 1 v)) (stores_at second d a r) (ap (λ n. with_rule Kept (Effect.Store second.width (in_byte_order second.reversed second.width n) (InMemory a))) (other_kept r v d (not_scratch rd general e)))) is

  pub compares_in_memory : (c : Comparison) (short long relative : Option ℕ) → OpcodeRows Rx 256 short (compared_with Indexed c) → OpcodeRows Rxy 65536 long (compared_with Indexed c) → RelativeRows relative (compared_with Relative c) → (rn : Reg) (mem : MemArg) (forms : MemInstType) →
      Is (record { form = RxForm (number_of rn) short long relative; operand = mem; accesses = true; operands_valid = is_general rn; reads_scratch = is_numbered 1 rn }) forms (compares_at c (number_of rn)) → StepRuns L k
  compares_in_memory c short long relative short_rows long_rows relative_row rn mem forms is =
      let d = number_of rn in
      let x : MemoryInstruction = record { form = RxForm d short long relative; operand = mem; accesses = true; operands_valid = is_general rn; reads_scratch = is_numbered 1 rn } in
      let general = (and_parts (is_general rn) (operand_general mem) is.3.registers).0 in
      memory_steps x forms (compares_at c d) (record { few = general_number rn general; semantics = compared_with Indexed c; short_rows = short_rows; long_rows = long_rows; acts = λ kind opcode base index n r p. refl })
      (record { few = general_number rn general; semantics = compared_with Relative c; rows = relative_row; acts = λ opcode half r p. refl }) (λ a r. never_by_values (compares_at c d a r) (access_code (fault_code x)) refl (λ kind h. h)) (λ e a r v.
      same_operation (compares_at c d a (set_general r 1 v)) (compares_at c d a r) (ap (λ n. with_rule Set (Effect.Compare c.sign c.size n (operand_at c.second a))) (value_kept c.size r v d (not_scratch rn general e)))) is

  pub computes_in_memory : (have : Bool) (c : Computation) (rule : CodeRule) (short long : Option ℕ) → OpcodeRows Rx 256 short (computed c Indexed rule) → OpcodeRows Rxy 65536 long (computed c Indexed rule) → (rd ri : Reg) (mem : MemArg) (forms : MemInstType) →
      (have ≡ true → forms ≡ type_of (RxForm (number_of rd) short long None) true) → MayBe (operate have short long rd ri mem) mem forms (computes_at rule c (number_of rd)) → StepRuns L k
  computes_in_memory false c rule short long short_rows long_rows rd ri mem forms same is = absurd is.2
  computes_in_memory true c rule short long short_rows long_rows rd ri mem forms same is =
      let d = number_of rd in
      let x : MemoryInstruction = record { form = RxForm d short long None; operand = mem; accesses = true; operands_valid = reuses rd ri; reads_scratch = is_numbered 1 ri } in
      let reused = (and_parts (reuses rd ri) (operand_general mem) is.2.registers).0 in
      memory_steps x forms (computes_at rule c d) (record { few = output_small rd ri reused; semantics = computed c Indexed rule; short_rows = short_rows; long_rows = long_rows; acts = λ kind opcode base index n r p. refl })
      (record { few = output_small rd ri reused; semantics = computed c Relative rule; rows = tt; acts = λ opcode half r p. refl }) (λ a r. never_by_values (computes_at rule c d a r) (access_code (fault_code x)) refl (λ kind h. h)) (λ e a r v.
      same_operation (computes_at rule c d a (set_general r 1 v)) (computes_at rule c d a r) (ap (λ n. with_rule rule (Effect.Compute c.operator c.size d n (operand_at c.second a))) (value_kept c.size r v d (reused_other rd ri reused e)))) (same refl, is.0, is.1, is.2)

  pub stores_a_byte : (imm : ℕ) (mem : MemArg) (forms : MemInstType) → Is (record { form = SiForm (low_byte imm) opcodes.MVI opcodes.MVIY; operand = mem; accesses = true; operands_valid = true; reads_scratch = false }) forms (stores_value Bits8 (low_byte imm)) → StepRuns L k
  stores_a_byte imm mem forms is =
      let x : MemoryInstruction = record { form = SiForm (low_byte imm) opcodes.MVI opcodes.MVIY; operand = mem; accesses = true; operands_valid = true; reads_scratch = false } in
      memory_steps x forms (stores_value Bits8 (low_byte imm)) (record { few = omega arith; semantics = StoreByte; short_row = store_byte.0; long_row = store_byte.1; acts = λ kind opcode base n r p. refl }) tt
      (λ a r. never_by_values (stores_value Bits8 (low_byte imm) a r) (access_code (fault_code x)) refl (λ kind h. h)) (λ e a r v. exactly (stores_value Bits8 (low_byte imm) a r)) is

  pub stores_an_immediate : (width : Width) (opcode bits : ℕ) → bits < 2 ^ 16 → OpcodeRow Sil 65536 opcode (StoreImmediate width) → (mem : MemArg) (forms : MemInstType) → Is (record { form = SilForm bits opcode; operand = mem; accesses = true; operands_valid = true; reads_scratch = false }) forms (stores_value width (signed_immediate bits)) → StepRuns L k
  stores_an_immediate width opcode bits lt row mem forms is =
      let x : MemoryInstruction = record { form = SilForm bits opcode; operand = mem; accesses = true; operands_valid = true; reads_scratch = false } in
      memory_steps x forms (stores_value width (signed_immediate bits)) (record { few = lt; semantics = StoreImmediate width; row = row; acts = λ base n r p. ap (λ y. Perform (stores_value width y (address_by_base r base (disp_of n)) r)) (signed_read bits lt) }) tt
      (λ a r. never_by_values (stores_value width (signed_immediate bits) a r) (access_code (fault_code x)) refl (λ kind h. h)) (λ e a r v. exactly (stores_value width (signed_immediate bits) a r)) is

  pub loads_registers : (rt rt2 : Reg) (mem : MemArg) (forms : MemInstType) → Is (record { form = RsForm (number_of rt) (number_of rt2) None (Some opcodes.LMG); operand = mem; accesses = true; operands_valid = is_range rt rt2; reads_scratch = false }) forms (loads_multiple (number_of rt) (number_of rt2)) → StepRuns L k
  loads_registers rt rt2 mem forms is =
      let first = number_of rt in
      let last = number_of rt2 in
      let x : MemoryInstruction = record { form = RsForm first last None (Some opcodes.LMG); operand = mem; accesses = true; operands_valid = is_range rt rt2; reads_scratch = false } in
      let p = and_parts (is_general rt && is_general rt2) (nat_le first last) (and_parts (is_range rt rt2) (operand_general mem) is.3.registers).0 in
      let g = and_parts (is_general rt) (is_general rt2) p.0 in
      let count = counted first last (leb-true first last p.1) (general_number rt2 g.1) in
      memory_steps x forms (loads_multiple first last)
      (record { few = general_number rt g.0; few_second = general_number rt2 g.1; semantics = LoadMultiple; short_rows = load_multiple.0; long_rows = load_multiple.1; acts = λ kind opcode base n r q. ap (λ m. Perform (with_rule Kept (Effect.LoadMultiple first m (address_by_base r base (disp_of n))))) count }) tt
      (λ a r. never_by_values (loads_multiple first last a r) (access_code (fault_code x)) refl (λ kind h. h)) (λ e a r v. exactly (loads_multiple first last a r)) is

  pub stores_registers : (rt rt2 : Reg) (mem : MemArg) (forms : MemInstType) → Is (record { form = RsForm (number_of rt) (number_of rt2) None (Some opcodes.STMG); operand = mem; accesses = true; operands_valid = is_range rt rt2; reads_scratch = holds_scratch rt rt2 }) forms (stores_multiple (number_of rt) (number_of rt2)) → StepRuns L k
  stores_registers rt rt2 mem forms is =
      let first = number_of rt in
      let last = number_of rt2 in
      let x : MemoryInstruction = record { form = RsForm first last None (Some opcodes.STMG); operand = mem; accesses = true; operands_valid = is_range rt rt2; reads_scratch = holds_scratch rt rt2 } in
      let p = and_parts (is_general rt && is_general rt2) (nat_le first last) (and_parts (is_range rt rt2) (operand_general mem) is.3.registers).0 in
      let g = and_parts (is_general rt) (is_general rt2) p.0 in
      let le : first ≤ last = leb-true first last p.1 in
      let lt = general_number rt2 g.1 in
      memory_steps x forms (stores_multiple first last)
      (record { few = general_number rt g.0; few_second = lt; semantics = StoreMultiple; short_rows = store_multiple.0; long_rows = store_multiple.1; acts = λ kind opcode base n r q. ap (λ m. Perform (with_rule Kept (Effect.StoreMultiple (values_from r first 16) m (address_by_base r base (disp_of n))))) (counted first last le lt) }) tt
      (λ a r. never_by_values (stores_multiple first last a r) (access_code (fault_code x)) refl (λ kind h. h)) (λ e a r v.
      record { access = ap (λ y. Stores false a (8 * (last + 1 - first)) y) (joined_kept r v first last (last + 1 - first) e lt (omega (arith, le))); refused = refl; may_refuse = λ kind h. h; results = λ c q h. h; code = λ c code h. h }) is

  pub operates : (c : Computation) (o : Option ℕ) → OpcodeRows Rsy 65536 o (LoadAndOperate c.operator c.size) → (rd rn : Reg) (mem : MemArg) (forms : MemInstType) → ((opcode : ℕ) → forms ≡ type_of (RsForm (number_of rd) (number_of rn) None (Some opcode)) true) → MayBe (load_and_operate o rd rn mem) mem forms (operates_at c (number_of rd) (number_of rn)) → StepRuns L k
  operates c None rows rd rn mem forms same is = absurd is.2
  operates c (Some opcode) rows rd rn mem forms same is =
      let d = number_of rd in
      let n = number_of rn in
      let x : MemoryInstruction = record { form = RsForm d n None (Some opcode); operand = mem; accesses = true; operands_valid = is_general rd && is_general rn; reads_scratch = is_numbered 1 rn } in
      let g = and_parts (is_general rd) (is_general rn) (and_parts (is_general rd && is_general rn) (operand_general mem) is.2.registers).0 in
      memory_steps x forms (operates_at c d n) (record { few = general_number rd g.0; few_second = general_number rn g.1; semantics = LoadAndOperate c.operator c.size; short_rows = tt; long_rows = rows; acts = λ kind opcode2 base m r p. refl }) tt
      (λ a r. never_by_values (operates_at c d n a r) (access_code (fault_code x)) refl (λ kind h. h)) (λ e a r v.
      same_operation (operates_at c d n a (set_general r 1 v)) (operates_at c d n a r) (ap (λ y. with_rule Set (Effect.LoadAndOperate c.operator c.size d y a)) (value_kept c.size r v n (not_scratch rn g.1 e)))) (same opcode, is.0, is.1, is.2)

  pub swaps : (size : Size) (short long : Option ℕ) → BasedRows short long (CompareAndSwap size) → (rd ri rn : Reg) (mem : MemArg) (forms : MemInstType) →
      Is (record { form = RsForm (number_of rd) (number_of rn) short long; operand = mem; accesses = true; operands_valid = reuses rd ri && is_general rn; reads_scratch = is_numbered 1 ri || is_numbered 1 rn }) forms (swaps_at size (number_of rd) (number_of rn)) → StepRuns L k
  swaps size short long rows rd ri rn mem forms is =
      let d = number_of rd in
      let n = number_of rn in
      let x : MemoryInstruction = record { form = RsForm d n short long; operand = mem; accesses = true; operands_valid = reuses rd ri && is_general rn; reads_scratch = is_numbered 1 ri || is_numbered 1 rn } in
      let g = and_parts (reuses rd ri) (is_general rn) (and_parts (reuses rd ri && is_general rn) (operand_general mem) is.3.registers).0 in
      memory_steps x forms (swaps_at size d n) (record { few = output_small rd ri g.0; few_second = general_number rn g.1; semantics = CompareAndSwap size; short_rows = rows.0; long_rows = rows.1; acts = λ kind opcode base m r p. refl }) tt
      (λ a r. never_by_values (swaps_at size d n a r) (access_code (fault_code x)) refl (λ kind h. h)) (λ e a r v.
      let other = or_parts (is_numbered 1 ri) (is_numbered 1 rn) e in
      same_operation (swaps_at size d n a (set_general r 1 v)) (swaps_at size d n a r) (ap₂ (λ y z. with_rule Set (Effect.CompareAndSwap size d y z a)) (value_kept size r v d (reused_other rd ri g.0 other.0)) (value_kept size r v n (not_scratch rn g.1 other.1)))) is
