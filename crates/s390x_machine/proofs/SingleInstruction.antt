-- The rows of the instructions that are one machine instruction on registers and immediates: each is listed, and does its instruction's operation.
use Rattle.std.proofs.Common.{◌≡◌, ℕ, ◌%◌, ◌==◌, ◌&&◌, ◌<◌, [], ◌∷◌, get_or, slice_index, Some, Bool, true, false, cond, refl, ap, ◌∙◌, subst, arith, nat_lt, ltb-true, pos, ◌^◌}
use Rattle.s390x_format.specs.declared.kind.FormatKind.{FormatKind}
use Rattle.s390x_format.specs.declared.kind.FormatKind.TheVariants.{Rr, Rre, RrfAb, RiA, RieD, RilA, RilB}
use Rattle.s390x_format.specs.declared.row.Allowed.{Allowed}
use Rattle.s390x_format.specs.declared.row.Allowed.TheVariants.{Any}
use Rattle.s390x_format.specs.Formats.{length_of, layout_of}
use Rattle.s390x_format.specs.Layout.{SlotsFit}
use Rattle.s390x_format.specs.Rows.{is_allowed, fetch_length_of}
use Rattle.s390x_format.specs.Lookup.{row_for}
use Rattle.s390x_format.specs.Fetch.{machine_rows}
use Rattle.s390x_format.specs.Encoded.{IsEncoded, decoded_of}
use Rattle.s390x_format.specs.View.{fields_of}
use Rattle.s390x_format.specs.declared.fields.Fields.{Fields}
use Rattle.s390x_format.proofs.Encoding.{listed}
use Rattle.s390x_inst.specs.declared.ops.ALUOp.{ALUOp}
use Rattle.s390x_inst.specs.declared.ops.ALUOp.TheVariants as A
use Rattle.s390x_inst.specs.declared.ops.CmpOp.{CmpOp}
use Rattle.s390x_inst.specs.declared.ops.CmpOp.TheVariants as C
use Rattle.s390x_inst.specs.declared.ops.UnaryOp.{UnaryOp}
use Rattle.s390x_inst.specs.declared.ops.UnaryOp.TheVariants as U
use Rattle.s390x_rows.specs.declared.opcodes.TheConstants as opcodes
use Rattle.s390x_typed_steps.specs.Opcodes.{alu_three, alu_two, cmp_two, unary_two, alu_halfword, alu_three_halfword, alu_signed_word, alu_unsigned_word, cmp_halfword, cmp_signed_word, cmp_unsigned_word}
use Rattle.s390x_typed_steps.specs.SingleInstruction.{two_operands}
use Rattle.s390x_typed_steps.specs.MachineInstruction.{MachineInstruction, bytes_of, size_of, rr, rre, rrf_ab, ri_a, rie_d, ril_a, ril_b}
use Rattle.s390x_operations.specs.State.{Registers, Core, State, wrapping_add64}
use Rattle.s390x_operations.specs.Effects.{CodeAfter, Refines}
use Rattle.s390x_operations.specs.declared.stop.ConditionCode.{ConditionCode}
use Rattle.s390x_operations.specs.declared.effect.Effect.{Effect}
use Rattle.s390x_operations.specs.Numbers.{low}
use Rattle.s390x_operations.specs.declared.size.Size.TheVariants.{Doubleword}
use Rattle.s390x_operations.specs.declared.effect.CodeRule.{CodeRule}
use Rattle.s390x_operations.specs.declared.effect.CodeRule.TheVariants.{Kept, Set, Unspecified}
use Rattle.s390x_operations.specs.declared.effect.Operation.{Operation}
use Rattle.s390x_operations.specs.declared.operator.Operator.TheVariants.{Move}
use Rattle.s390x_format.specs.declared.semantics.RowSemantics.{RowSemantics}
use Rattle.s390x_format.specs.declared.semantics.RowSemantics.TheVariants.{Compute, Compare}
use Rattle.s390x_format.specs.declared.semantics.OperandSource.{OperandSource}
use Rattle.s390x_format.specs.declared.semantics.OperandSource.TheVariants.{Register, ThreeRegisters, Immediate, ThreeImmediate}
use Rattle.s390x_format.specs.declared.semantics.SecondOperand.{SecondOperand}
use Rattle.s390x_machine.specs.declared.action_type.Action.TheVariants.{Perform}
use Rattle.s390x_machine.specs.Computations.{Second, Computation, Comparison, alu_computation, alu_three_rule, alu_two_rule, unary_computation, unary_rule, comparison, on_words, on_doublewords, unsigned_word, signed_word, signed_halfword, on_immediate, compares_on_immediate, computes_immediate, compares_immediate, with_rule}
use Rattle.s390x_machine.specs.Fetch.{Found}
use Rattle.s390x_machine.specs.Machine.{Event, ActionStep, OddPairStep, RowStep, FetchedStep}
use Rattle.s390x_machine.specs.Semantics.{action, semantics_in, semantics_of, names_pair, is_odd_pair, register_field}
use Rattle.s390x_machine.specs.Layout.{Layout}
use Rattle.s390x_machine.specs.CodeAt.{ImageAt}
use Rattle.s390x_machine.proofs.Decoding.{encoded_length}
use Rattle.s390x_machine.proofs.Fetching.{StandsAt, row_at}
use Rattle.s390x_machine.proofs.Listing.{Lists, ListedRow, PairRow, Agrees, rows, some_opcode, few_digits, lists_row, means_this, none_but_zero, two_format, TwoRow, TwoRows, ThreeRow, ThreeRows, OpcodeRow, OpcodeRows}
use Rattle.s390x_machine.proofs.Rows.{fits_rr, fits_rre, fits_rrf_ab, fits_ri_a, fits_rie_d, fits_ril_a, fits_ril_b}
use Rattle.s390x_machine.proofs.Simulation.{RowAt}

-- a register as the second operand of a row
abbrev pub second_register : OperandSource → Second → SecondOperand
second_register operand_source s = record { operand_source = operand_source; width = s.width; sign = s.sign; reversed = s.reversed }

-- ---- the rows of each operator

abbrev pub computed : Computation → OperandSource → CodeRule → RowSemantics
computed c operand_source rule = Compute c.operator c.size (second_register operand_source c.second) rule

abbrev pub compared_with : OperandSource → Comparison → RowSemantics
compared_with operand_source c = Compare c.sign c.size (second_register operand_source c.second)

pub alu_three_rows : (op : ALUOp) → ThreeRows (alu_three op) (computed (alu_computation op) ThreeRegisters Set)
unfolding machine_rows row_for semantics_in semantics_of
alu_three_rows op = rows (λ n. RrfAb) none_but_zero 65536 (alu_three op) (computed (alu_computation op) ThreeRegisters Set) refl (agrees op)
  where
    agrees : (op : ALUOp) → Agrees (λ n. RrfAb) none_but_zero 65536 (alu_three op) (computed (alu_computation op) ThreeRegisters Set)
    agrees A.Add32 = refl
    agrees _ = refl

pub alu_two_rows : (op : ALUOp) → TwoRows (alu_two op) (computed (alu_computation op) Register (alu_two_rule op))
unfolding machine_rows row_for semantics_in semantics_of
alu_two_rows op = rows two_format Any 65536 (alu_two op) (computed (alu_computation op) Register (alu_two_rule op)) refl (agrees op)
  where
    agrees : (op : ALUOp) → Agrees two_format Any 65536 (alu_two op) (computed (alu_computation op) Register (alu_two_rule op))
    agrees A.Add32 = refl
    agrees _ = refl

pub cmp_rows : (op : CmpOp) → TwoRows (cmp_two op) (compared_with Register (comparison op))
unfolding machine_rows row_for semantics_in semantics_of
cmp_rows op = rows two_format Any 65536 (cmp_two op) (compared_with Register (comparison op)) refl (agrees op)
  where
    agrees : (op : CmpOp) → Agrees two_format Any 65536 (cmp_two op) (compared_with Register (comparison op))
    agrees C.CmpS32 = refl
    agrees _ = refl

pub unary_rows : (op : UnaryOp) → TwoRows (unary_two op) (computed (unary_computation op) Register (unary_rule op))
unfolding machine_rows row_for semantics_in semantics_of
unary_rows op = rows two_format Any 65536 (unary_two op) (computed (unary_computation op) Register (unary_rule op)) refl (agrees op)
  where
    agrees : (op : UnaryOp) → Agrees two_format Any 65536 (unary_two op) (computed (unary_computation op) Register (unary_rule op))
    agrees U.Abs32 = refl
    agrees _ = refl

pub lgr_row : TwoRow opcodes.LGR (computed (on_doublewords Move) Register Kept)
unfolding machine_rows row_for semantics_in semantics_of
lgr_row = (record { is = refl }, refl)

pub lr_row : TwoRow opcodes.LR (computed (on_words Move) Register Kept)
unfolding machine_rows row_for semantics_in semantics_of
lr_row = (record { is = refl }, refl)

-- ---- rows of a register and an immediate

-- an operator's meaning with an immediate that is read like this
abbrev pub computed_immediate : Computation → Second → OperandSource → CodeRule → RowSemantics
computed_immediate c second operand_source rule = computed (on_immediate c second) operand_source rule

abbrev pub compared : Comparison → RowSemantics
compared c = compared_with Immediate c

pub halfword_rows : (op : ALUOp) → OpcodeRows RiA 4096 (alu_halfword op) (computed_immediate (alu_computation op) signed_halfword Immediate (alu_two_rule op))
unfolding machine_rows row_for semantics_in semantics_of
halfword_rows op = rows (λ n. RiA) Any 4096 (alu_halfword op) (computed_immediate (alu_computation op) signed_halfword Immediate (alu_two_rule op)) refl (agrees op)
  where
    agrees : (op : ALUOp) → Agrees (λ n. RiA) Any 4096 (alu_halfword op) (computed_immediate (alu_computation op) signed_halfword Immediate (alu_two_rule op))
    agrees A.Add32 = refl
    agrees _ = refl

pub three_halfword_rows : (op : ALUOp) → OpcodeRows RieD 65536 (alu_three_halfword op) (computed_immediate (alu_computation op) signed_halfword ThreeImmediate (alu_two_rule op))
unfolding machine_rows row_for semantics_in semantics_of
three_halfword_rows op = rows (λ n. RieD) Any 65536 (alu_three_halfword op) (computed_immediate (alu_computation op) signed_halfword ThreeImmediate (alu_two_rule op)) refl (agrees op)
  where
    agrees : (op : ALUOp) → Agrees (λ n. RieD) Any 65536 (alu_three_halfword op) (computed_immediate (alu_computation op) signed_halfword ThreeImmediate (alu_two_rule op))
    agrees A.Add32 = refl
    agrees _ = refl

pub signed_word_rows : (op : ALUOp) → OpcodeRows RilA 4096 (alu_signed_word op) (computed_immediate (alu_computation op) signed_word Immediate (alu_two_rule op))
unfolding machine_rows row_for semantics_in semantics_of
signed_word_rows op = rows (λ n. RilA) Any 4096 (alu_signed_word op) (computed_immediate (alu_computation op) signed_word Immediate (alu_two_rule op)) refl (agrees op)
  where
    agrees : (op : ALUOp) → Agrees (λ n. RilA) Any 4096 (alu_signed_word op) (computed_immediate (alu_computation op) signed_word Immediate (alu_two_rule op))
    agrees A.Add32 = refl
    agrees _ = refl

pub unsigned_word_rows : (op : ALUOp) → OpcodeRows RilA 4096 (alu_unsigned_word op) (computed_immediate (alu_computation op) unsigned_word Immediate (alu_two_rule op))
unfolding machine_rows row_for semantics_in semantics_of
unsigned_word_rows op = rows (λ n. RilA) Any 4096 (alu_unsigned_word op) (computed_immediate (alu_computation op) unsigned_word Immediate (alu_two_rule op)) refl (agrees op)
  where
    agrees : (op : ALUOp) → Agrees (λ n. RilA) Any 4096 (alu_unsigned_word op) (computed_immediate (alu_computation op) unsigned_word Immediate (alu_two_rule op))
    agrees A.AddLogical32 = refl
    agrees _ = refl

pub cmp_halfword_rows : (op : CmpOp) → OpcodeRows RiA 4096 (cmp_halfword op) (compared (compares_on_immediate (comparison op) signed_halfword))
unfolding machine_rows row_for semantics_in semantics_of
cmp_halfword_rows op = rows (λ n. RiA) Any 4096 (cmp_halfword op) (compared (compares_on_immediate (comparison op) signed_halfword)) refl (agrees op)
  where
    agrees : (op : CmpOp) → Agrees (λ n. RiA) Any 4096 (cmp_halfword op) (compared (compares_on_immediate (comparison op) signed_halfword))
    agrees C.CmpS32 = refl
    agrees _ = refl

pub cmp_signed_word_rows : (op : CmpOp) → OpcodeRows RilA 4096 (cmp_signed_word op) (compared (compares_on_immediate (comparison op) signed_word))
unfolding machine_rows row_for semantics_in semantics_of
cmp_signed_word_rows op = rows (λ n. RilA) Any 4096 (cmp_signed_word op) (compared (compares_on_immediate (comparison op) signed_word)) refl (agrees op)
  where
    agrees : (op : CmpOp) → Agrees (λ n. RilA) Any 4096 (cmp_signed_word op) (compared (compares_on_immediate (comparison op) signed_word))
    agrees C.CmpS32 = refl
    agrees _ = refl

pub cmp_unsigned_word_rows : (op : CmpOp) → OpcodeRows RilA 4096 (cmp_unsigned_word op) (compared (compares_on_immediate (comparison op) unsigned_word))
unfolding machine_rows row_for semantics_in semantics_of
cmp_unsigned_word_rows op = rows (λ n. RilA) Any 4096 (cmp_unsigned_word op) (compared (compares_on_immediate (comparison op) unsigned_word)) refl (agrees op)
  where
    agrees : (op : CmpOp) → Agrees (λ n. RilA) Any 4096 (cmp_unsigned_word op) (compared (compares_on_immediate (comparison op) unsigned_word))
    agrees C.CmpL32 = refl
    agrees _ = refl

pub iilf_row : OpcodeRow RilA 4096 opcodes.IILF (computed (on_words Move) Immediate Kept)
unfolding machine_rows row_for semantics_in semantics_of
iilf_row = (record { is = refl }, refl)

pub lhi_row : OpcodeRow RiA 4096 opcodes.LHI (computed_immediate (on_words Move) signed_halfword Immediate Kept)
unfolding machine_rows row_for semantics_in semantics_of
lhi_row = (record { is = refl }, refl)

pub lghi_row : OpcodeRow RiA 4096 opcodes.LGHI (computed_immediate (on_doublewords Move) signed_halfword Immediate Kept)
unfolding machine_rows row_for semantics_in semantics_of
lghi_row = (record { is = refl }, refl)

pub lgfi_row : OpcodeRow RilA 4096 opcodes.LGFI (computed_immediate (on_doublewords Move) signed_word Immediate Kept)
unfolding machine_rows row_for semantics_in semantics_of
lgfi_row = (record { is = refl }, refl)

-- a number of up to 64 bits is its own low part
pub low_small : (n : ℕ) → n < 2 ^ 64 → low Doubleword (pos n) ≡ n
low_small n lt = omega (arith, lt)

abbrev pub immediate_fields : (kind : FormatKind) (d n bits : ℕ) → Fields
immediate_fields kind d n bits = fields_of kind (0 ∷ d ∷ n ∷ 0 ∷ 0 ∷ 0 ∷ 0 ∷ 0 ∷ bits ∷ 0 ∷ [])

-- ---- the fields that a row has

abbrev pub register_fields : (d n m : ℕ) → Fields
register_fields d n m = fields_of Rr (0 ∷ d ∷ n ∷ m ∷ 0 ∷ 0 ∷ 0 ∷ 0 ∷ 0 ∷ 0 ∷ [])

-- a row that names no pair, or an even one, isn't odd
single_pair : (semantics : RowSemantics) (f : Fields) → names_pair semantics ≡ false → is_odd_pair semantics f ≡ false
single_pair semantics f e = ap (λ b. b && (register_field f 0 % 2 == 1)) e

-- the table has an instruction's row, which allows what stands in it
encoded : (x : MachineInstruction) (allowed : Allowed) → 0 < slice_index x.slots 0 → Lists (slice_index x.slots 0) x.format allowed → is_allowed allowed x.slots ≡ true → IsEncoded machine_rows x.format x.slots
encoded x allowed some lists allows = listed machine_rows x.format x.slots some (lists.0, lists.1, ap (λ a. is_allowed a x.slots) lists.2 ∙ allows)

-- the first byte of a row's bytes tells how many they are
pub row_tells : (x : MachineInstruction) (allowed : Allowed) → 0 < slice_index x.slots 0 → Lists (slice_index x.slots 0) x.format allowed → SlotsFit (layout_of x.format) x.slots → is_allowed allowed x.slots ≡ true → fetch_length_of (get_or (bytes_of x) 0 0) ≡ size_of x
row_tells x allowed some lists fit allows = encoded_length x.format x.slots fit (encoded x allowed some lists allows)

-- ---- what the machine does there

-- a row's action is an operation, wherever it stands
abbrev pub Doing : Fields → RowSemantics → (Registers → Operation) → Type 0
Doing f semantics operation = (r : Registers) (p : ℕ) → action semantics f r p ≡ Perform (operation r)

-- what is fetched does the row's action, also one of its place
acts_there : (x : MachineInstruction) (semantics : RowSemantics) (operation : Registers → Operation) → semantics_of (slice_index x.slots 0) ≡ Some semantics → is_odd_pair semantics (fields_of x.format x.slots) ≡ false → (s : State) (event : Event) (t : State) →
    action semantics (fields_of x.format x.slots) s.core.registers s.address ≡ Perform (operation s.core.registers) → FetchedStep (Found (decoded_of x.format x.slots)) s event t → ActionStep (Perform (operation s.core.registers)) (size_of x) s event t
acts_there x semantics operation means even s event t does h =
    let f = fields_of x.format x.slots in
    let meant : RowStep (Some semantics) f (length_of x.format) s event t = subst (λ o. RowStep o f (length_of x.format) s event t) means h in
    let acts : ActionStep (action semantics f s.core.registers s.address) (size_of x) s event t = subst (λ b. OddPairStep b (action semantics f s.core.registers s.address) (size_of x) s event t) even meant in
    subst (λ a. ActionStep a (size_of x) s event t) does acts

module _ (L : Layout) (image : ImageAt L) (offset : ℕ) (even : offset % 2 ≡ 0) where
  -- where its bytes stand, an instruction is this operation
  abbrev pub DoesThere : MachineInstruction → (Registers → Operation) → Type 0
  DoesThere x operation = StandsAt L.image offset (bytes_of x) → RowAt L (wrapping_add64 L.image.base offset) (λ r. Perform (operation r)) (size_of x)

  -- any row whose action at its place is an operation
  acting_at : (x : MachineInstruction) (allowed : Allowed) (semantics : RowSemantics) (operation : Registers → Operation) → 0 < slice_index x.slots 0 → Lists (slice_index x.slots 0) x.format allowed → semantics_of (slice_index x.slots 0) ≡ Some semantics → is_odd_pair semantics (fields_of x.format x.slots) ≡ false →
      SlotsFit (layout_of x.format) x.slots → is_allowed allowed x.slots ≡ true → ((r : Registers) → action semantics (fields_of x.format x.slots) r (wrapping_add64 L.image.base offset) ≡ Perform (operation r)) → DoesThere x operation
  acting_at x allowed semantics operation some lists means single fit allows does s =
      row_at L offset x (λ r. Perform (operation r)) image.even even image.fits s fit (encoded x allowed some lists allows) (λ state event t at h.
      acts_there x semantics operation means single state event t (ap (λ p. action semantics (fields_of x.format x.slots) state.core.registers p) at ∙ does state.core.registers) h)

  -- any row whose action is an operation
  pub meant_at : {allowed : Allowed} {digits : ℕ} (x : MachineInstruction) (semantics : RowSemantics) (operation : Registers → Operation) → ListedRow x.format allowed digits (slice_index x.slots 0) semantics → SlotsFit (layout_of x.format) x.slots → is_allowed allowed x.slots ≡ true → Doing (fields_of x.format x.slots) semantics operation → DoesThere x operation
  meant_at {allowed = allowed} x semantics operation row fit allows does s =
      acting_at x allowed semantics operation (some_opcode row.0) (lists_row row.0) (means_this row.0) (single_pair semantics (fields_of x.format x.slots) row.1) fit allows (λ r. does r (wrapping_add64 L.image.base offset)) s

  -- one that names an even pair
  pub pair_at : {allowed : Allowed} (x : MachineInstruction) (semantics : RowSemantics) (operation : Registers → Operation) → PairRow x.format allowed (slice_index x.slots 0) semantics →
      is_odd_pair semantics (fields_of x.format x.slots) ≡ false → SlotsFit (layout_of x.format) x.slots → is_allowed allowed x.slots ≡ true → Doing (fields_of x.format x.slots) semantics operation → DoesThere x operation
  pair_at {allowed = allowed} x semantics operation row is_even fit allows does s = acting_at x allowed semantics operation (some_opcode row) (lists_row row) (means_this row) is_even fit allows (λ r. does r (wrapping_add64 L.image.base offset)) s

  -- one of a register and a distance
  pub relative_at : (opcode register half : ℕ) (semantics : RowSemantics) (operation : Registers → Operation) → OpcodeRow RilB 4096 opcode semantics → register < 16 → half < 2 ^ 32 → ((r : Registers) → action semantics (fields_of RilB (ril_b opcode register half).slots) r (wrapping_add64 L.image.base offset) ≡ Perform (operation r)) → DoesThere (ril_b opcode register half) operation
  relative_at opcode register half semantics operation row few small does s =
      let x = ril_b opcode register half in
      acting_at x Any semantics operation (some_opcode row.0) (lists_row row.0) (means_this row.0) (single_pair semantics (fields_of RilB x.slots) row.1) (fits_ril_b opcode register half (few_digits row.0) few small) refl does s

  pub three_at : (opcode : ℕ) (semantics : RowSemantics) → ThreeRow opcode semantics → (operation : Registers → Operation) (d n m : ℕ) → d < 16 → n < 16 → m < 16 → Doing (register_fields d n m) semantics operation → DoesThere (rrf_ab opcode d n m 0) operation
  three_at opcode semantics row operation d n m ld ln lm does s = meant_at (rrf_ab opcode d n m 0) semantics operation row (fits_rrf_ab opcode d n m (few_digits row.0) ld ln lm) refl does s

  two_at_as : (opcode : ℕ) (semantics : RowSemantics) → TwoRow opcode semantics → (operation : Registers → Operation) (d m : ℕ) → d < 16 → m < 16 → Doing (register_fields d m 0) semantics operation → (short : Bool) → nat_lt opcode 256 ≡ short → DoesThere (cond short (rr opcode d m) (rre opcode d m)) operation
  two_at_as opcode semantics row operation d m ld lm does true e s =
      let is : two_format opcode ≡ Rr = ap (λ b. (cond b (rr opcode 0 0) (rre opcode 0 0)).format) e in
      meant_at (rr opcode d m) semantics operation (subst (λ kind. OpcodeRow kind 65536 opcode semantics) is row) (fits_rr opcode d m (ltb-true opcode 256 e) ld lm) refl does s
  two_at_as opcode semantics row operation d m ld lm does false e s =
      let is : two_format opcode ≡ Rre = ap (λ b. (cond b (rr opcode 0 0) (rre opcode 0 0)).format) e in
      meant_at (rre opcode d m) semantics operation (subst (λ kind. OpcodeRow kind 65536 opcode semantics) is row) (fits_rre opcode d m (few_digits row.0) ld lm) refl does s

  pub two_at : (opcode : ℕ) (semantics : RowSemantics) → TwoRow opcode semantics → (operation : Registers → Operation) (d m : ℕ) → d < 16 → m < 16 → Doing (register_fields d m 0) semantics operation → DoesThere (two_operands opcode d m) operation
  two_at opcode semantics row operation d m ld lm does s = two_at_as opcode semantics row operation d m ld lm does (nat_lt opcode 256) refl s

  -- the operations with an immediate
  pub ri_a_at : (opcode : ℕ) (semantics : RowSemantics) → OpcodeRow RiA 4096 opcode semantics → (operation : Registers → Operation) (d bits : ℕ) → d < 16 → bits < 2 ^ 16 → Doing (immediate_fields RiA d 0 bits) semantics operation → DoesThere (ri_a opcode d bits) operation
  ri_a_at opcode semantics row operation d bits ld lb does s = meant_at (ri_a opcode d bits) semantics operation row (fits_ri_a opcode d bits (few_digits row.0) ld lb) refl does s

  pub ril_a_at : (opcode : ℕ) (semantics : RowSemantics) → OpcodeRow RilA 4096 opcode semantics → (operation : Registers → Operation) (d bits : ℕ) → d < 16 → bits < 2 ^ 32 → Doing (immediate_fields RilA d 0 bits) semantics operation → DoesThere (ril_a opcode d bits) operation
  ril_a_at opcode semantics row operation d bits ld lb does s = meant_at (ril_a opcode d bits) semantics operation row (fits_ril_a opcode d bits (few_digits row.0) ld lb) refl does s

  rie_d_at : (opcode : ℕ) (semantics : RowSemantics) → OpcodeRow RieD 65536 opcode semantics → (operation : Registers → Operation) (d n bits : ℕ) → d < 16 → n < 16 → bits < 2 ^ 16 → Doing (immediate_fields RieD d n bits) semantics operation → DoesThere (rie_d opcode d n bits) operation
  rie_d_at opcode semantics row operation d n bits ld ln lb does s = meant_at (rie_d opcode d n bits) semantics operation row (fits_rie_d opcode d n bits (few_digits row.0) ld ln lb) refl does s

  pub halfword_at : (opcode : ℕ) (c : Computation) (rule : CodeRule) → OpcodeRow RiA 4096 opcode (computed c Immediate rule) → (d bits : ℕ) → d < 16 → bits < 2 ^ 16 → DoesThere (ri_a opcode d bits) (computes_immediate rule c d d bits)
  halfword_at opcode c rule row d bits ld lb s =
      ri_a_at opcode (computed c Immediate rule) row (computes_immediate rule c d d bits) d bits ld lb (λ r p. ap (λ x. Perform (computes_immediate rule c d d x r)) (low_small bits (omega (arith, lb)))) s

  pub word_at : (opcode : ℕ) (c : Computation) (rule : CodeRule) → OpcodeRow RilA 4096 opcode (computed c Immediate rule) → (d bits : ℕ) → d < 16 → bits < 2 ^ 32 → DoesThere (ril_a opcode d bits) (computes_immediate rule c d d bits)
  word_at opcode c rule row d bits ld lb s =
      ril_a_at opcode (computed c Immediate rule) row (computes_immediate rule c d d bits) d bits ld lb (λ r p. ap (λ x. Perform (computes_immediate rule c d d x r)) (low_small bits (omega (arith, lb)))) s

  pub three_halfword_at : (opcode : ℕ) (c : Computation) (rule : CodeRule) → OpcodeRow RieD 65536 opcode (computed c ThreeImmediate rule) → (d n bits : ℕ) → d < 16 → n < 16 → bits < 2 ^ 16 → DoesThere (rie_d opcode d n bits) (computes_immediate rule c d n bits)
  three_halfword_at opcode c rule row d n bits ld ln lb s =
      rie_d_at opcode (computed c ThreeImmediate rule) row (computes_immediate rule c d n bits) d n bits ld ln lb (λ r p. ap (λ x. Perform (computes_immediate rule c d n x r)) (low_small bits (omega (arith, lb)))) s

  pub compare_halfword_at : (opcode : ℕ) (c : Comparison) → OpcodeRow RiA 4096 opcode (compared c) → (n bits : ℕ) → n < 16 → bits < 2 ^ 16 → DoesThere (ri_a opcode n bits) (compares_immediate c n bits)
  compare_halfword_at opcode c row n bits ln lb s = ri_a_at opcode (compared c) row (compares_immediate c n bits) n bits ln lb (λ r p. ap (λ x. Perform (compares_immediate c n x r)) (low_small bits (omega (arith, lb)))) s

  pub compare_word_at : (opcode : ℕ) (c : Comparison) → OpcodeRow RilA 4096 opcode (compared c) → (n bits : ℕ) → n < 16 → bits < 2 ^ 32 → DoesThere (ril_a opcode n bits) (compares_immediate c n bits)
  compare_word_at opcode c row n bits ln lb s = ril_a_at opcode (compared c) row (compares_immediate c n bits) n bits ln lb (λ r p. ap (λ x. Perform (compares_immediate c n x r)) (low_small bits (omega (arith, lb)))) s

-- ---- condition codes that leave more free

abbrev pub Looser : CodeRule → CodeRule → Type 0
Looser rule Unspecified = Unit {0}
Looser Set Set = Unit {0}
Looser Kept Kept = Unit {0}
Looser rule other = ⊥

looser_code : (a b : CodeRule) (effect : Effect) (c : Core) (code : ConditionCode) → Looser a b → CodeAfter a effect c code → CodeAfter b effect c code
looser_code a Unspecified effect c code l h = tt
looser_code Set Set effect c code l h = h
looser_code Kept Kept effect c code l h = h
looser_code a b effect c code l h = absurd l

pub loosens : (effect : Effect) (a b : CodeRule) → Looser a b → Refines (with_rule a effect) (with_rule b effect)
loosens effect a b l = record { access = refl; refused = refl; may_refuse = λ kind h. h; results = λ c r h. h; code = λ c code h. looser_code a b effect c code l h }

pub three_looser : (op : ALUOp) → Looser Set (alu_three_rule op)
three_looser A.Mul32 = tt
three_looser op = tt

-- where there are both rows
pub two_looser : (op : ALUOp) (opcode : ℕ) → alu_three op ≡ Some opcode → Looser (alu_two_rule op) (alu_three_rule op)
two_looser A.Mul32Ext16 opcode e = absurd (cc)
two_looser A.Mul64Ext16 opcode e = absurd (cc)
two_looser A.Mul64Ext32 opcode e = absurd (cc)
two_looser op opcode e = tt
