-- The steps of loads and stores of vector registers.
use Rattle.std.proofs.Common.{◌≡◌, ℕ, ◌+◌, ◌-◌, ◌*◌, ◌^◌, ◌<◌, ◌≤◌, ◌⊎◌, inl, inr, [], Option, Some, None, Bool, true, false, cond, ◌&&◌, ◌||◌, IsTrue, refl, sym, ap, ◌∙◌, subst, arith, nat_lt, nat_le, nat_eq, bit_and, ltb-true, eqb-true}
use Rattle.std.proofs.lemmas.Bool.{and_parts, le-leb}
use Rattle.std.proofs.lemmas.Nat.{and_assoc, and_mask}
use Rattle.std.proofs.Math.Nat.{mod-eq_of_lt}
use Rattle.s390x_base.specs.declared.error.EmitError.TheVariants.{BadOperator}
use Rattle.s390x_base.specs.Regs.{number_of}
use Rattle.s390x_base.specs.declared.regs.Reg.{Reg}
use Rattle.s390x_inst.specs.declared.args.MemArg.{MemArg}
use Rattle.s390x_inst.specs.declared.whole.Direction.{Direction}
use Rattle.s390x_inst.specs.declared.whole.Direction.TheVariants.{Load, Store}
use Rattle.s390x_inst.specs.declared.whole.WholeLayout.{WholeLayout}
use Rattle.s390x_inst.specs.declared.whole.WholeLayout.TheVariants.{Straight}
use Rattle.s390x_inst.specs.Wholes.{by_direction}
use Rattle.s390x_format.specs.declared.kind.FormatKind.TheVariants.{Vrx}
use Rattle.s390x_format.specs.declared.row.Allowed.TheVariants.{FirstMask}
use Rattle.s390x_format.specs.Fetch.{machine_rows}
use Rattle.s390x_format.specs.Lookup.{row_for}
use Rattle.s390x_format.specs.Rows.{is_allowed}
use Rattle.s390x_format.specs.View.{fields_of, disp_of}
use Rattle.s390x_lanes.proofs.Powers.{pow_le}
use Rattle.s390x_lanes.specs.Size.{lane_count}
use Rattle.s390x_lanes.specs.declared.size.ElementSize.{ElementSize}
use Rattle.s390x_lanes.specs.declared.size.ElementSize.TheVariants.{Byte, Halfword, Word, Doubleword, Quadword}
use Rattle.s390x_operations.specs.Effects.{Refines}
use Rattle.s390x_operations.specs.State.{Registers, set_general}
use Rattle.s390x_operations.specs.declared.effect.CodeRule.TheVariants.{Kept}
use Rattle.s390x_operations.specs.declared.effect.Effect.{Effect}
use Rattle.s390x_operations.specs.declared.effect.Operation.{Operation}
use Rattle.s390x_operations.specs.declared.effect.VectorLayout.{VectorLayout}
use Rattle.s390x_operations.specs.declared.effect.VectorLayout.TheVariants as Layouts
use Rattle.s390x_rows.specs.declared.opcodes.TheConstants as opcodes
use Rattle.s390x_typed_steps.specs.MachineInstruction.{vrx}
use Rattle.s390x_typed_steps.specs.Memory.{MemoryInstruction, StorageForm, VrxForm, FloatForm, type_of, access_vector, access_lane, layout_rows, whole_memory, reversed_code, is_left_lane, load_left, store_left, load_lane_opcode, store_lane_opcode, load_reversed_opcode, store_reversed_opcode, fault_code}
use Rattle.s390x_typed_steps.specs.Operands.{operand_general}
use Rattle.s390x_typed_steps.specs.Parts.{memory_or, step_parts}
use Rattle.s390x_typed_steps.specs.Steps.{Step}
use Rattle.s390x_typed_steps.specs.VectorInstruction.{element_code, is_lane, is_vector}
use Rattle.s390x_typed_steps.specs.declared.mem_inst_type.MemInstType.{MemInstType}
use Rattle.s390x_format.specs.declared.semantics.RowSemantics.TheVariants as Row
use Rattle.s390x_format.specs.declared.semantics.VectorStorage.{VectorStorage}
use Rattle.s390x_machine.specs.CodeAt.{ValidMemoryOr}
use Rattle.s390x_machine.specs.Layout.{Layout}
use Rattle.s390x_machine.specs.OneStep.{StepRuns}
use Rattle.s390x_machine.specs.Operands.{address_by_index}
use Rattle.s390x_machine.specs.Semantics.{all_bits, performs, semantics_in, semantics_of, vector_layout_of}
use Rattle.s390x_machine.specs.StepKinds.{Unsupported, kind_or, performed_at, access_code}
use Rattle.s390x_machine.specs.Storage.{indexed_forms, lane_forms, layout_of, loads_vector, operand_address, stores_vector, vector_forms}
use Rattle.s390x_machine.specs.Typed.{kind_of_step}
use Rattle.s390x_machine.specs.VectorSteps.{elements_of, lane_bits}
use Rattle.s390x_machine.proofs.Built.{StepAt}
use Rattle.s390x_machine.proofs.Finalizing.{memory_runs}
use Rattle.s390x_machine.proofs.Listing.{Meant}
use Rattle.s390x_machine.proofs.Relative.{RelativeDoes}
use Rattle.s390x_machine.proofs.Simulation.{ValuesCoded}
use Rattle.s390x_machine.proofs.Stops.{never_by_values}
use Rattle.s390x_machine.proofs.Storage.{FormDoes, VectorForm}
use Rattle.s390x_machine.proofs.StorageRows.{IndexedRows}
use Rattle.s390x_machine.proofs.StorageSteps.{address_rows, relative_address_rows}
use Rattle.s390x_machine.proofs.VectorSteps.{vector_number}
use Rattle.s390x_machine.proofs.VectorRows.{IsNarrow, Sized, HasSize, code_of_size, lane_within, size_of_elements}

-- ---- what is told of a register

same_part : (y v known : ℕ) → bit_and all_bits known ≡ known → bit_and y all_bits ≡ bit_and v all_bits → bit_and y known ≡ bit_and v known
same_part y v known within e =
    ap (bit_and y) (sym within) ∙ sym (and_assoc known y all_bits) ∙ ap (λ n. bit_and n known) e ∙ and_assoc known v all_bits ∙ ap (bit_and v) within

-- a load of which less is told
loads_part : (layout : VectorLayout) (known d : ℕ) → bit_and all_bits known ≡ known → (a : ℕ) (r : Registers) → Refines (loads_vector layout all_bits d a r) (loads_vector layout known d a r)
loads_part layout known d within a r = record {
  access = refl;
  refused = refl;
  may_refuse = λ kind h. h;
  results = λ core q h. (h.0, h.1, same_part h.0 _ known within h.2, h.3);
  code = λ core x h. h;
}

below_all : (n : ℕ) → n < 2 ^ 128 → bit_and all_bits n ≡ n
below_all n lt = Rattle.std.proofs.lemmas.Nat.and_comm all_bits n ∙ and_mask n 128 ∙ mod-eq_of_lt lt

-- the bits of one element are among those of the register
lane_known : (e : ElementSize) (lane : ℕ) → lane < lane_count e → bit_and all_bits (lane_bits e lane) ≡ lane_bits e lane
lane_known e lane lt = below_all (lane_bits e lane) (bound e lt)
  where
    bound : (e : ElementSize) → lane < lane_count e → lane_bits e lane < 2 ^ 128
    bound Byte lt = let le : 2 ^ (128 - 8 * (lane + 1)) ≤ 2 ^ 120 = pow_le (128 - 8 * (lane + 1)) 120 (omega arith) in omega (arith, le)
    bound Halfword lt = let le : 2 ^ (128 - 16 * (lane + 1)) ≤ 2 ^ 112 = pow_le (128 - 16 * (lane + 1)) 112 (omega arith) in omega (arith, le)
    bound Word lt = let le : 2 ^ (128 - 32 * (lane + 1)) ≤ 2 ^ 96 = pow_le (128 - 32 * (lane + 1)) 96 (omega arith) in omega (arith, le)
    bound Doubleword lt = let le : 2 ^ (128 - 64 * (lane + 1)) ≤ 2 ^ 64 = pow_le (128 - 64 * (lane + 1)) 64 (omega arith) in omega (arith, le)
    bound Quadword lt = let le : 2 ^ (128 - 128 * (lane + 1)) ≤ 2 ^ 0 = pow_le (128 - 128 * (lane + 1)) 0 (omega arith) in omega (arith, le)

-- ---- rows

-- the row's mask tells this layout
abbrev Tells : VectorStorage → VectorLayout → (opcode mask d : ℕ) → Type 0
Tells storage layout opcode mask d = (base index n : ℕ) → vector_layout_of storage (fields_of Vrx (vrx opcode d base index mask n).slots) ≡ layout

-- a load by a row whose mask tells this layout
loaded_form : (storage : VectorStorage) (layout : VectorLayout) (opcode mask low high known d : ℕ) → Meant Vrx (FirstMask low high) opcode (Row.LoadVector storage) → mask < 16 → is_allowed (FirstMask low high) (vrx opcode d 0 0 mask 0).slots ≡ true → Tells storage layout opcode mask d →
    bit_and all_bits known ≡ known → d < 32 → VectorForm d opcode mask (loads_vector layout known d)
loaded_form storage layout opcode mask low high known d row lm allows tells within lt = record {
  few = lt;
  few_mask = lm;
  semantics = Row.LoadVector storage;
  allowed = FirstMask low high;
  row = row;
  allows = λ base index n. allows;
  does = loads_vector layout all_bits d;
  acts = λ base index n r p. ap (λ l. performs Kept (Effect.LoadVector l d (r.vector d) all_bits (address_by_index r base index (disp_of n)))) (tells base index n);
  refines = loads_part layout known d within;
}

stored_form : (storage : VectorStorage) (layout : VectorLayout) (opcode mask low high d : ℕ) → Meant Vrx (FirstMask low high) opcode (Row.StoreVector storage) → mask < 16 → is_allowed (FirstMask low high) (vrx opcode d 0 0 mask 0).slots ≡ true → Tells storage layout opcode mask d →
    d < 32 → VectorForm d opcode mask (stores_vector layout d)
stored_form storage layout opcode mask low high d row lm allows tells lt = record {
  few = lt;
  few_mask = lm;
  semantics = Row.StoreVector storage;
  allowed = FirstMask low high;
  row = row;
  allows = λ base index n. allows;
  does = stores_vector layout d;
  acts = λ base index n r p. ap (λ l. performs Kept (Effect.StoreVector l (r.vector d) (address_by_index r base index (disp_of n)))) (tells base index n);
  refines = λ a r. Rattle.s390x_machine.proofs.Built.exactly (stores_vector layout d a r);
}

-- what stands in the machine's row of a layout, and which masks the row takes
abbrev pub storage_of : VectorLayout → VectorStorage
storage_of (Layouts.ReversedBytes e) = VectorStorage.ReversedBytes
storage_of (Layouts.ReversedElements e) = VectorStorage.ReversedElements
storage_of _ = VectorStorage.Whole

abbrev pub first_mask : VectorLayout → ℕ
first_mask (Layouts.ReversedBytes e) = 1
first_mask (Layouts.ReversedElements e) = 1
first_mask _ = 0

abbrev pub last_mask : VectorLayout → ℕ
last_mask (Layouts.ReversedBytes e) = 4
last_mask (Layouts.ReversedElements e) = 3
last_mask _ = 0

-- the rows of each layout: the last clause is a copy for each other
load_row : (layout : WholeLayout) → Meant Vrx (FirstMask (first_mask (layout_of layout)) (last_mask (layout_of layout))) (layout_rows layout).load_opcode (Row.LoadVector (storage_of (layout_of layout)))
unfolding machine_rows row_for semantics_in semantics_of
load_row Straight = (record { is = refl }, refl)
load_row layout = (record { is = refl }, refl)

store_row : (layout : WholeLayout) → Meant Vrx (FirstMask (first_mask (layout_of layout)) (last_mask (layout_of layout))) (layout_rows layout).store_opcode (Row.StoreVector (storage_of (layout_of layout)))
unfolding machine_rows row_for semantics_in semantics_of
store_row Straight = (record { is = refl }, refl)
store_row layout = (record { is = refl }, refl)

load_replicated : Meant Vrx (FirstMask 0 3) opcodes.VLREP (Row.LoadVector (VectorStorage.Replicated false))
unfolding machine_rows row_for semantics_in semantics_of
load_replicated = (record { is = refl }, refl)

load_replicated_reversed : Meant Vrx (FirstMask 1 3) opcodes.VLBRREP (Row.LoadVector (VectorStorage.Replicated true))
unfolding machine_rows row_for semantics_in semantics_of
load_replicated_reversed = (record { is = refl }, refl)

-- elements of several bytes
abbrev IsWide : ElementSize → Type 0
IsWide Halfword = Unit {0}
IsWide Word = Unit {0}
IsWide Doubleword = Unit {0}
IsWide _ = ⊥

load_lane_row : (e : ElementSize) → IsNarrow e → Meant Vrx (FirstMask 0 (lane_count e - 1)) (load_lane_opcode (code_of_size e)) (Row.LoadVector (VectorStorage.Element e false))
unfolding machine_rows row_for semantics_in semantics_of
load_lane_row Quadword narrow = absurd narrow
load_lane_row e narrow = (record { is = refl }, refl)

store_lane_row : (e : ElementSize) → IsNarrow e → Meant Vrx (FirstMask 0 (lane_count e - 1)) (store_lane_opcode (code_of_size e)) (Row.StoreVector (VectorStorage.Element e false))
unfolding machine_rows row_for semantics_in semantics_of
store_lane_row Quadword narrow = absurd narrow
store_lane_row e narrow = (record { is = refl }, refl)

load_reversed_row : (e : ElementSize) → IsWide e → Meant Vrx (FirstMask 0 (lane_count e - 1)) (load_reversed_opcode (code_of_size e)) (Row.LoadVector (VectorStorage.Element e true))
unfolding machine_rows row_for semantics_in semantics_of
load_reversed_row Byte wide = absurd wide
load_reversed_row Quadword wide = absurd wide
load_reversed_row e wide = (record { is = refl }, refl)

store_reversed_row : (e : ElementSize) → IsWide e → Meant Vrx (FirstMask 0 (lane_count e - 1)) (store_reversed_opcode (code_of_size e)) (Row.StoreVector (VectorStorage.Element e true))
unfolding machine_rows row_for semantics_in semantics_of
store_reversed_row Byte wide = absurd wide
store_reversed_row Quadword wide = absurd wide
store_reversed_row e wide = (record { is = refl }, refl)

-- the leftmost element of a float register
load_word_left : IndexedRows (Some opcodes.LE) (Some opcodes.LEY) (Row.LoadLeft Word)
unfolding machine_rows row_for semantics_in semantics_of
load_word_left = ((record { is = refl }, refl), (record { is = refl }, refl))

load_doubleword_left : IndexedRows (Some opcodes.LD) (Some opcodes.LDY) (Row.LoadLeft Doubleword)
unfolding machine_rows row_for semantics_in semantics_of
load_doubleword_left = ((record { is = refl }, refl), (record { is = refl }, refl))

store_word_left : IndexedRows (Some opcodes.STE) (Some opcodes.STEY) (Row.StoreLeft Word)
unfolding machine_rows row_for semantics_in semantics_of
store_word_left = ((record { is = refl }, refl), (record { is = refl }, refl))

store_doubleword_left : IndexedRows (Some opcodes.STD) (Some opcodes.STDY) (Row.StoreLeft Doubleword)
unfolding machine_rows row_for semantics_in semantics_of
store_doubleword_left = ((record { is = refl }, refl), (record { is = refl }, refl))

-- ---- an element's row

lane_allowed : (n opcode d lane : ℕ) → lane < n → is_allowed (FirstMask 0 (n - 1)) (vrx opcode d 0 0 lane 0).slots ≡ true
lane_allowed n opcode d lane lt = ap (λ t. (t && nat_le lane (n - 1)) && true && true) (le-leb 0 lane (omega arith)) ∙ ap (λ t. (true && t) && true && true) (le-leb lane (n - 1) (omega (arith, lt)))

lane_few : (e : ElementSize) (lane : ℕ) → lane < lane_count e → lane < 16
lane_few Byte lane lt = lt
lane_few e lane lt = omega (arith, lt)

load_lane_form : (e : ElementSize) (backwards : Bool) (opcode lane known d : ℕ) → Meant Vrx (FirstMask 0 (lane_count e - 1)) opcode (Row.LoadVector (VectorStorage.Element e backwards)) → lane < lane_count e → bit_and all_bits known ≡ known → d < 32 → VectorForm d opcode lane (loads_vector (VectorLayout.Element e lane backwards) known d)
load_lane_form e backwards opcode lane known d row lt within few =
    loaded_form (VectorStorage.Element e backwards) (VectorLayout.Element e lane backwards) opcode lane 0 (lane_count e - 1) known d row (lane_few e lane lt) (lane_allowed (lane_count e) opcode d lane lt) (λ base index n. refl) within few

store_lane_form : (e : ElementSize) (backwards : Bool) (opcode lane d : ℕ) → Meant Vrx (FirstMask 0 (lane_count e - 1)) opcode (Row.StoreVector (VectorStorage.Element e backwards)) → lane < lane_count e → d < 32 → VectorForm d opcode lane (stores_vector (VectorLayout.Element e lane backwards) d)
store_lane_form e backwards opcode lane d row lt few =
    stored_form (VectorStorage.Element e backwards) (VectorLayout.Element e lane backwards) opcode lane 0 (lane_count e - 1) d row (lane_few e lane lt) (lane_allowed (lane_count e) opcode d lane lt) (λ base index n. refl) few

-- ---- sizes of elements

-- a code of a size: there is none, or it is that of these elements
record Coding (o : Option ℕ) (size : ℕ) (e : ElementSize) : Type 0 where
  code : o ≡ Some (code_of_size e)
  sized : Sized size e

abbrev HasCode : (ElementSize → Type 0) → Option ℕ → ℕ → Type 0
HasCode P o size = (o ≡ None) ⊎ ((e : ElementSize) × Coding o size e × P e)

of_elements : (size : ℕ) → HasCode IsNarrow (element_code size) size
of_elements size = go (size_of_elements size)
  where
    go : HasSize size → HasCode IsNarrow (element_code size) size
    go (inl none) = inl none
    go (inr (e, z)) = inr (e, record { code = z.code; sized = z }, z.narrow)

of_reversed : (size : ℕ) → HasCode IsWide (reversed_code size) size
of_reversed size = go (nat_eq size 8) refl (of_elements size)
  where
    wide : (e : ElementSize) → nat_eq size 8 ≡ false → Sized size e → IsWide e
    wide Byte h z = let e : true ≡ nat_eq size 8 = ap (λ n. nat_eq n 8) (sym z.bits) in absurd (cc)
    wide Halfword h z = tt
    wide Word h z = tt
    wide Doubleword h z = tt
    wide Quadword h z = absurd z.narrow

    go : (t : Bool) → nat_eq size 8 ≡ t → HasCode IsNarrow (element_code size) size → HasCode IsWide (reversed_code size) size
    go true h c = inl (ap (λ t. cond t None (element_code size)) h)
    go false h (inl none) = inl (ap (λ t. cond t None (element_code size)) h ∙ none)
    go false h (inr (e, c, narrow)) = inr (e, record { code = ap (λ t. cond t None (element_code size)) h ∙ c.code; sized = c.sized }, wide e h c.sized)

-- ---- the steps

-- an operation that stops by no values and reads no general register
record Steady (operation : ℕ → Registers → Operation) : Type 0 where
  never : (a : ℕ) (r : Registers) (code : Option Rattle.s390x_base.specs.declared.trap.TrapKind.TrapKind) → ValuesCoded (operation a r) (access_code code)
  ignores : (a : ℕ) (r : Registers) (v : ℕ) → Refines (operation a (set_general r 1 v)) (operation a r)

loads_steady : (layout : VectorLayout) (known d : ℕ) → Steady (loads_vector layout known d)
loads_steady layout known d = record {
  never = λ a r code. never_by_values (loads_vector layout known d a r) (access_code code) refl (λ kind h. h);
  ignores = λ a r v. record { access = refl; refused = refl; may_refuse = λ kind h. h; results = λ c q h. h; code = λ c code h. h };
}

stores_steady : (layout : VectorLayout) (d : ℕ) → Steady (stores_vector layout d)
stores_steady layout d = record {
  never = λ a r code. never_by_values (stores_vector layout d a r) (access_code code) refl (λ kind h. h);
  ignores = λ a r v. record { access = refl; refused = refl; may_refuse = λ kind h. h; results = λ c q h. h; code = λ c code h. h };
}

module _ {L : Layout} {k : ℕ} {s : Step} (b : StepAt L k s) where
  -- its form and its parts are those of an access with this operand and operation, where its row is
  abbrev pub Accesses : Option MemoryInstruction → MemArg → MemInstType → (ℕ → Registers → Operation) → Type 0
  Accesses x mem forms operation =
      (kind_of_step L (Some s) ≡ Some (kind_or (performed_at (record { operand = mem; forms = forms; accesses = true; operation = operation }) (operand_address L mem)) Unsupported)) × (step_parts s ≡ memory_or x []) × ValidMemoryOr L x (Some BadOperator ≡ None)

  access_runs : (valid : Bool) (form : StorageForm) (mem : MemArg) (forms : MemInstType) (operation : ℕ → Registers → Operation) → forms ≡ type_of form true → (IsTrue valid → FormDoes form operation) → RelativeDoes form true operation → Steady operation → Accesses (access_vector valid form mem) mem forms operation → StepRuns L k
  access_runs valid form mem forms operation same does relative steady is =
      let x : MemoryInstruction = record { form = form; operand = mem; accesses = true; operands_valid = valid; reads_scratch = false } in
      memory_runs b (address_rows 1 (omega arith)) (relative_address_rows 1 (omega arith)) x forms operation (does (and_parts valid (operand_general mem) is.2.registers).0) relative (λ a r. steady.never a r (fault_code x)) (λ e a r v. steady.ignores a r v) same is.0 is.1 is.2

  -- a load of a register, by the mask of its row
  loads_runs : (storage : VectorStorage) (layout : VectorLayout) (opcode mask low high : ℕ) → Meant Vrx (FirstMask low high) opcode (Row.LoadVector storage) → mask < 16 → (valid : Bool) (d : ℕ) → is_allowed (FirstMask low high) (vrx opcode d 0 0 mask 0).slots ≡ true → Tells storage layout opcode mask d → (IsTrue valid → d < 32) →
      (mem : MemArg) → Accesses (access_vector valid (VrxForm d opcode mask) mem) mem vector_forms (loads_vector layout all_bits d) → StepRuns L k
  loads_runs storage layout opcode mask low high row lm valid d allows tells few mem is =
      access_runs valid (VrxForm d opcode mask) mem vector_forms (loads_vector layout all_bits d) refl (λ h. loaded_form storage layout opcode mask low high all_bits d row lm allows tells refl (few h)) tt (loads_steady layout all_bits d) is

  stores_runs : (storage : VectorStorage) (layout : VectorLayout) (opcode mask low high : ℕ) → Meant Vrx (FirstMask low high) opcode (Row.StoreVector storage) → mask < 16 → (valid : Bool) (d : ℕ) → is_allowed (FirstMask low high) (vrx opcode d 0 0 mask 0).slots ≡ true → Tells storage layout opcode mask d → (IsTrue valid → d < 32) →
      (mem : MemArg) → Accesses (access_vector valid (VrxForm d opcode mask) mem) mem vector_forms (stores_vector layout d) → StepRuns L k
  stores_runs storage layout opcode mask low high row lm valid d allows tells few mem is =
      access_runs valid (VrxForm d opcode mask) mem vector_forms (stores_vector layout d) refl (λ h. stored_form storage layout opcode mask low high d row lm allows tells (few h)) tt (stores_steady layout d) is

  -- a whole register, in any layout: the clauses without `Straight` are a copy for each other one
  pub whole_runs : (direction : Direction) (layout : WholeLayout) (rd : Reg) (mem : MemArg) → Accesses (whole_memory (record { direction = direction; layout = layout; rd = rd; mem = mem })) mem vector_forms (by_direction direction (loads_vector (layout_of layout) all_bits (number_of rd)) (stores_vector (layout_of layout) (number_of rd))) → StepRuns L k
  whole_runs Load Straight rd mem is =
      loads_runs (storage_of (layout_of Straight)) (layout_of Straight) (layout_rows Straight).load_opcode (layout_rows Straight).mask (first_mask (layout_of Straight)) (last_mask (layout_of Straight)) (load_row Straight) (ltb-true (layout_rows Straight).mask 16 refl) (is_vector rd) (number_of rd) refl (λ base index n. refl) (vector_number rd) mem is
  whole_runs Load layout rd mem is =
      loads_runs (storage_of (layout_of layout)) (layout_of layout) (layout_rows layout).load_opcode (layout_rows layout).mask (first_mask (layout_of layout)) (last_mask (layout_of layout)) (load_row layout) (ltb-true (layout_rows layout).mask 16 refl) (is_vector rd) (number_of rd) refl (λ base index n. refl) (vector_number rd) mem is
  whole_runs Store Straight rd mem is =
      stores_runs (storage_of (layout_of Straight)) (layout_of Straight) (layout_rows Straight).store_opcode (layout_rows Straight).mask (first_mask (layout_of Straight)) (last_mask (layout_of Straight)) (store_row Straight) (ltb-true (layout_rows Straight).mask 16 refl) (is_vector rd) (number_of rd) refl (λ base index n. refl) (vector_number rd) mem is
  whole_runs Store layout rd mem is =
      stores_runs (storage_of (layout_of layout)) (layout_of layout) (layout_rows layout).store_opcode (layout_rows layout).mask (first_mask (layout_of layout)) (last_mask (layout_of layout)) (store_row layout) (ltb-true (layout_rows layout).mask 16 refl) (is_vector rd) (number_of rd) refl (λ base index n. refl) (vector_number rd) mem is

  -- a replicated element, of any size with a code
  replicates : (e : ElementSize) (backwards : Bool) (opcode low high : ℕ) → Meant Vrx (FirstMask low high) opcode (Row.LoadVector (VectorStorage.Replicated backwards)) → (valid : Bool) (d : ℕ) → is_allowed (FirstMask low high) (vrx opcode d 0 0 (code_of_size e) 0).slots ≡ true → (IsTrue valid → d < 32) →
      (mem : MemArg) → Accesses (access_vector valid (VrxForm d opcode (code_of_size e)) mem) mem vector_forms (loads_vector (VectorLayout.Replicated e backwards) all_bits d) → StepRuns L k
  replicates e backwards opcode low high row valid d allows few mem is =
      loads_runs (VectorStorage.Replicated backwards) (VectorLayout.Replicated e backwards) opcode (code_of_size e) low high row (Rattle.s390x_machine.proofs.VectorLanes.code_few e) valid d allows (λ base index n. ap (λ z. VectorLayout.Replicated z backwards) (Rattle.s390x_machine.proofs.VectorLanes.size_again e)) few mem is

  sized_runs : (P : ElementSize → Type 0) (o : Option ℕ) (size : ℕ) → HasCode P o size → (x : Option ℕ → Option MemoryInstruction) → x None ≡ None → (mem : MemArg) (forms : MemInstType) (does : ElementSize → ℕ → Registers → Operation) →
      ((e : ElementSize) → P e → Sized size e → Accesses (x (Some (code_of_size e))) mem forms (does e) → StepRuns L k) → Accesses (x o) mem forms (does (elements_of size)) → StepRuns L k
  sized_runs P o size (inl none) x nothing mem forms does run is =
      let lost = subst (λ q. Accesses q mem forms (does (elements_of size))) nothing (subst (λ q. Accesses (x q) mem forms (does (elements_of size))) none is) in
      let clash = lost.2 in
      absurd (cc)
  sized_runs P o size (inr (e, c, p)) x nothing mem forms does run is =
      run e p c.sized (subst (λ z. Accesses (x (Some (code_of_size e))) mem forms (does z)) c.sized.elements (subst (λ q. Accesses (x q) mem forms (does (elements_of size))) c.code is))

  pub replicated_runs : (valid : Bool) (size d : ℕ) (mem : MemArg) (x : Option ℕ → Option MemoryInstruction) → x None ≡ None → ((c : ℕ) → x (Some c) ≡ access_vector valid (VrxForm d opcodes.VLREP c) mem) → (IsTrue valid → d < 32) → Accesses (x (element_code size)) mem vector_forms (loads_vector (VectorLayout.Replicated (elements_of size) false) all_bits d) → StepRuns L k
  replicated_runs valid size d mem x nothing some few is = sized_runs IsNarrow (element_code size) size (of_elements size) x nothing mem vector_forms (λ e. loads_vector (VectorLayout.Replicated e false) all_bits d) (λ e narrow z is.
      replicates e false opcodes.VLREP 0 3 load_replicated valid d (allowed e narrow) few mem (subst (λ q. Accesses q mem vector_forms (loads_vector (VectorLayout.Replicated e false) all_bits d)) (some (code_of_size e)) is)) is
    where
      allowed : (e : ElementSize) → IsNarrow e → is_allowed (FirstMask 0 3) (vrx opcodes.VLREP d 0 0 (code_of_size e) 0).slots ≡ true
      allowed Byte h = refl
      allowed Halfword h = refl
      allowed Word h = refl
      allowed Doubleword h = refl
      allowed Quadword h = absurd h

  pub reversed_replicated_runs : (valid : Bool) (size d : ℕ) (mem : MemArg) (x : Option ℕ → Option MemoryInstruction) → x None ≡ None → ((c : ℕ) → x (Some c) ≡ access_vector valid (VrxForm d opcodes.VLBRREP c) mem) → (IsTrue valid → d < 32) → Accesses (x (reversed_code size)) mem vector_forms (loads_vector (VectorLayout.Replicated (elements_of size) true) all_bits d) → StepRuns L k
  reversed_replicated_runs valid size d mem x nothing some few is = sized_runs IsWide (reversed_code size) size (of_reversed size) x nothing mem vector_forms (λ e. loads_vector (VectorLayout.Replicated e true) all_bits d) (λ e wide z is.
      replicates e true opcodes.VLBRREP 1 3 load_replicated_reversed valid d (allowed e wide) few mem (subst (λ q. Accesses q mem vector_forms (loads_vector (VectorLayout.Replicated e true) all_bits d)) (some (code_of_size e)) is)) is
    where
      allowed : (e : ElementSize) → IsWide e → is_allowed (FirstMask 1 3) (vrx opcodes.VLBRREP d 0 0 (code_of_size e) 0).slots ≡ true
      allowed Byte h = absurd h
      allowed Halfword h = refl
      allowed Word h = refl
      allowed Doubleword h = refl
      allowed Quadword h = absurd h

  -- one element, by the opcode for its size
  lanes_run : (P : ElementSize → Type 0) (o : Option ℕ) (size lane : ℕ) → HasCode P o size → (valid : Bool) (opcode : ℕ → ℕ) (d : ℕ) (mem : MemArg) (does : ElementSize → ℕ → Registers → Operation) → ((e : ElementSize) → P e → lane < lane_count e → IsTrue valid → FormDoes (VrxForm d (opcode (code_of_size e)) lane) (does e)) →
      ((e : ElementSize) → Steady (does e)) → Accesses (access_lane valid opcode d o size lane mem) mem vector_forms (does (elements_of size)) → StepRuns L k
  lanes_run P o size lane has valid opcode d mem does form steady is = sized_runs P o size has (λ q. access_lane valid opcode d q size lane mem) refl mem vector_forms does (λ e p z is. go e p z (is_lane size lane) refl is) is
    where
      go : (e : ElementSize) → P e → Sized size e → (t : Bool) → is_lane size lane ≡ t → Accesses (cond t (access_vector valid (VrxForm d (opcode (code_of_size e)) lane) mem) None) mem vector_forms (does e) → StepRuns L k
      go e p z true h is = access_runs valid (VrxForm d (opcode (code_of_size e)) lane) mem vector_forms (does e) refl (form e p (lane_within z lane h)) tt (steady e) is
      go e p z false h is = let clash = is.2 in absurd (cc)

  -- loads of one element; of the others all is told, or nothing
  pub load_lane_runs : (valid : Bool) (size lane d : ℕ) (mem : MemArg) → (IsTrue valid → d < 32) → Accesses (access_lane valid load_lane_opcode d (element_code size) size lane mem) mem vector_forms (loads_vector (VectorLayout.Element (elements_of size) lane false) all_bits d) → StepRuns L k
  load_lane_runs valid size lane d mem few is =
      lanes_run IsNarrow (element_code size) size lane (of_elements size) valid load_lane_opcode d mem (λ e. loads_vector (VectorLayout.Element e lane false) all_bits d) (λ e p lt h. load_lane_form e false (load_lane_opcode (code_of_size e)) lane all_bits d (load_lane_row e p) lt refl (few h)) (λ e. loads_steady (VectorLayout.Element e lane false) all_bits d) is

  pub load_reversed_runs : (valid : Bool) (size lane d : ℕ) (mem : MemArg) → (IsTrue valid → d < 32) → Accesses (access_lane valid load_reversed_opcode d (reversed_code size) size lane mem) mem vector_forms (loads_vector (VectorLayout.Element (elements_of size) lane true) all_bits d) → StepRuns L k
  load_reversed_runs valid size lane d mem few is =
      lanes_run IsWide (reversed_code size) size lane (of_reversed size) valid load_reversed_opcode d mem (λ e. loads_vector (VectorLayout.Element e lane true) all_bits d) (λ e p lt h. load_lane_form e true (load_reversed_opcode (code_of_size e)) lane all_bits d (load_reversed_row e p) lt refl (few h)) (λ e. loads_steady (VectorLayout.Element e lane true) all_bits d) is

  pub load_reversed_alone_runs : (valid : Bool) (size lane d : ℕ) (mem : MemArg) → (IsTrue valid → d < 32) → Accesses (access_lane valid load_reversed_opcode d (reversed_code size) size lane mem) mem vector_forms (loads_vector (VectorLayout.Element (elements_of size) lane true) (lane_bits (elements_of size) lane) d) → StepRuns L k
  load_reversed_alone_runs valid size lane d mem few is =
      lanes_run IsWide (reversed_code size) size lane (of_reversed size) valid load_reversed_opcode d mem (λ e. loads_vector (VectorLayout.Element e lane true) (lane_bits e lane) d) (λ e p lt h.
      load_lane_form e true (load_reversed_opcode (code_of_size e)) lane (lane_bits e lane) d (load_reversed_row e p) lt (lane_known e lane lt) (few h)) (λ e. loads_steady (VectorLayout.Element e lane true) (lane_bits e lane) d) is

  pub store_reversed_runs : (valid : Bool) (size lane d : ℕ) (mem : MemArg) → (IsTrue valid → d < 32) → Accesses (access_lane valid store_reversed_opcode d (reversed_code size) size lane mem) mem vector_forms (stores_vector (VectorLayout.Element (elements_of size) lane true) d) → StepRuns L k
  store_reversed_runs valid size lane d mem few is =
      lanes_run IsWide (reversed_code size) size lane (of_reversed size) valid store_reversed_opcode d mem (λ e. stores_vector (VectorLayout.Element e lane true) d) (λ e p lt h. store_lane_form e true (store_reversed_opcode (code_of_size e)) lane d (store_reversed_row e p) lt (few h)) (λ e. stores_steady (VectorLayout.Element e lane true) d) is

  -- the leftmost element of a float register
  left_runs : (valid : Bool) (left : ℕ → ℕ → StorageForm) (does : ElementSize → ℕ → ℕ → Registers → Operation) (size lane d : ℕ) (mem : MemArg) → is_left_lane size lane d ≡ true →
      (d < 16 → Accesses (access_vector valid (left 32 d) mem) mem (indexed_forms true true false) (does Word 0) → StepRuns L k) → (d < 16 → Accesses (access_vector valid (left 64 d) mem) mem (indexed_forms true true false) (does Doubleword 0) → StepRuns L k) →
      Accesses (access_vector valid (left size d) mem) mem (indexed_forms true true false) (does (elements_of size) lane) → StepRuns L k
  left_runs valid left does size lane d mem h word doubleword is =
      let p = and_parts ((nat_eq size 32 || nat_eq size 64) && nat_eq lane 0) (nat_lt d 16) h in
      let q = and_parts (nat_eq size 32 || nat_eq size 64) (nat_eq lane 0) p.0 in
      let low = ltb-true d 16 p.1 in
      go low (nat_eq size 32) refl (nat_eq size 64) refl q.0 (subst (λ n. Accesses (access_vector valid (left size d) mem) mem (indexed_forms true true false) (does (elements_of size) n)) (eqb-true lane 0 q.1) is)
    where
      go : d < 16 → (t : Bool) → nat_eq size 32 ≡ t → (u : Bool) → nat_eq size 64 ≡ u → (t || u) ≡ true → Accesses (access_vector valid (left size d) mem) mem (indexed_forms true true false) (does (elements_of size) 0) → StepRuns L k
      go low true e u f or is = word low (subst (λ n. Accesses (access_vector valid (left n d) mem) mem (indexed_forms true true false) (does (elements_of n) 0)) (eqb-true size 32 e) is)
      go low false e true f or is = doubleword low (subst (λ n. Accesses (access_vector valid (left n d) mem) mem (indexed_forms true true false) (does (elements_of n) 0)) (eqb-true size 64 f) is)
      go low false e false f or is = absurd (cc)

  -- a load of one element, where the others may become any
  pub load_alone_runs : (valid : Bool) (size lane d : ℕ) (mem : MemArg) → (IsTrue valid → d < 32) →
      Accesses (cond (is_left_lane size lane d) (access_vector valid (load_left size d) mem) (access_lane valid load_lane_opcode d (element_code size) size lane mem)) mem (lane_forms size lane d) (loads_vector (VectorLayout.Element (elements_of size) lane false) (lane_bits (elements_of size) lane) d) → StepRuns L k
  load_alone_runs valid size lane d mem few is = go (is_left_lane size lane d) refl is
    where
      word : d < 16 → Accesses (access_vector valid (FloatForm d opcodes.LE opcodes.LEY) mem) mem (indexed_forms true true false) (loads_vector (VectorLayout.Element Word 0 false) (lane_bits Word 0) d) → StepRuns L k
      word low is = access_runs valid (FloatForm d opcodes.LE opcodes.LEY) mem (indexed_forms true true false) (loads_vector (VectorLayout.Element Word 0 false) (lane_bits Word 0) d) refl (λ h.
          record { few = low; semantics = Row.LoadLeft Word; short_rows = load_word_left.0; long_rows = load_word_left.1; acts = λ kind opcode base index n r p. refl }) tt (loads_steady (VectorLayout.Element Word 0 false) (lane_bits Word 0) d) is

      doubleword : d < 16 → Accesses (access_vector valid (FloatForm d opcodes.LD opcodes.LDY) mem) mem (indexed_forms true true false) (loads_vector (VectorLayout.Element Doubleword 0 false) (lane_bits Doubleword 0) d) → StepRuns L k
      doubleword low is = access_runs valid (FloatForm d opcodes.LD opcodes.LDY) mem (indexed_forms true true false) (loads_vector (VectorLayout.Element Doubleword 0 false) (lane_bits Doubleword 0) d) refl (λ h.
          record { few = low; semantics = Row.LoadLeft Doubleword; short_rows = load_doubleword_left.0; long_rows = load_doubleword_left.1; acts = λ kind opcode base index n r p. refl }) tt (loads_steady (VectorLayout.Element Doubleword 0 false) (lane_bits Doubleword 0) d) is

      go : (t : Bool) → is_left_lane size lane d ≡ t → Accesses (cond t (access_vector valid (load_left size d) mem) (access_lane valid load_lane_opcode d (element_code size) size lane mem)) mem (indexed_forms true t false) (loads_vector (VectorLayout.Element (elements_of size) lane false) (lane_bits (elements_of size) lane) d) → StepRuns L k
      go true h is = left_runs valid load_left (λ e i. loads_vector (VectorLayout.Element e i false) (lane_bits e i) d) size lane d mem h word doubleword is
      go false h is =
          lanes_run IsNarrow (element_code size) size lane (of_elements size) valid load_lane_opcode d mem (λ e. loads_vector (VectorLayout.Element e lane false) (lane_bits e lane) d) (λ e p lt v.
          load_lane_form e false (load_lane_opcode (code_of_size e)) lane (lane_bits e lane) d (load_lane_row e p) lt (lane_known e lane lt) (few v)) (λ e. loads_steady (VectorLayout.Element e lane false) (lane_bits e lane) d) is

  pub store_lane_runs : (valid : Bool) (size lane d : ℕ) (mem : MemArg) → (IsTrue valid → d < 32) →
      Accesses (cond (is_left_lane size lane d) (access_vector valid (store_left size d) mem) (access_lane valid store_lane_opcode d (element_code size) size lane mem)) mem (lane_forms size lane d) (stores_vector (VectorLayout.Element (elements_of size) lane false) d) → StepRuns L k
  store_lane_runs valid size lane d mem few is = go (is_left_lane size lane d) refl is
    where
      word : d < 16 → Accesses (access_vector valid (FloatForm d opcodes.STE opcodes.STEY) mem) mem (indexed_forms true true false) (stores_vector (VectorLayout.Element Word 0 false) d) → StepRuns L k
      word low is = access_runs valid (FloatForm d opcodes.STE opcodes.STEY) mem (indexed_forms true true false) (stores_vector (VectorLayout.Element Word 0 false) d) refl (λ h.
          record { few = low; semantics = Row.StoreLeft Word; short_rows = store_word_left.0; long_rows = store_word_left.1; acts = λ kind opcode base index n r p. refl }) tt (stores_steady (VectorLayout.Element Word 0 false) d) is

      doubleword : d < 16 → Accesses (access_vector valid (FloatForm d opcodes.STD opcodes.STDY) mem) mem (indexed_forms true true false) (stores_vector (VectorLayout.Element Doubleword 0 false) d) → StepRuns L k
      doubleword low is = access_runs valid (FloatForm d opcodes.STD opcodes.STDY) mem (indexed_forms true true false) (stores_vector (VectorLayout.Element Doubleword 0 false) d) refl (λ h.
          record { few = low; semantics = Row.StoreLeft Doubleword; short_rows = store_doubleword_left.0; long_rows = store_doubleword_left.1; acts = λ kind opcode base index n r p. refl }) tt (stores_steady (VectorLayout.Element Doubleword 0 false) d) is

      go : (t : Bool) → is_left_lane size lane d ≡ t → Accesses (cond t (access_vector valid (store_left size d) mem) (access_lane valid store_lane_opcode d (element_code size) size lane mem)) mem (indexed_forms true t false) (stores_vector (VectorLayout.Element (elements_of size) lane false) d) → StepRuns L k
      go true h is = left_runs valid store_left (λ e i. stores_vector (VectorLayout.Element e i false) d) size lane d mem h word doubleword is
      go false h is =
          lanes_run IsNarrow (element_code size) size lane (of_elements size) valid store_lane_opcode d mem (λ e. stores_vector (VectorLayout.Element e lane false) d) (λ e p lt v.
          store_lane_form e false (store_lane_opcode (code_of_size e)) lane d (store_lane_row e p) lt (few v)) (λ e. stores_steady (VectorLayout.Element e lane false) d) is
