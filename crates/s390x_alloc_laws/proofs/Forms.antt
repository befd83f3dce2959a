-- Each instruction, by the shape of its registers.
use Rattle.std.proofs.Common.{◌≡◌, pos, false, ◌||◌, List, [], ◌∷◌, Some, None, refl, is_some, ◌&&◌, ◌++◌}
use Rattle.s390x_base.specs.Regs.{number_of}
use Rattle.s390x_base.specs.declared.regs.Reg.{Reg}
use Rattle.s390x_base.specs.declared.regs.Reg.TheVariants.{Real}
use Rattle.s390x_inst.specs.declared.load.LoadOp.{LoadOp}
use Rattle.s390x_inst.specs.declared.load.LoadOp.TheVariants as LoadOps
use Rattle.s390x_inst.specs.Loads.{load_instruction}
use Rattle.s390x_inst.specs.declared.store.StoreOp.{StoreOp}
use Rattle.s390x_inst.specs.declared.store.StoreOp.TheVariants as StoreOps
use Rattle.s390x_inst.specs.Stores.{store_instruction}
use Rattle.s390x_inst.specs.declared.whole.WholeAccess.{WholeAccess}
use Rattle.s390x_inst.specs.declared.whole.Direction.{Direction}
use Rattle.s390x_inst.specs.declared.whole.Direction.TheVariants.{Load, Store}
use Rattle.s390x_inst.specs.declared.whole.WholeLayout.{WholeLayout}
use Rattle.s390x_inst.specs.declared.whole.WholeLayout.TheVariants.{Straight}
use Rattle.s390x_inst.specs.Wholes.{as_whole, whole_instruction}
use Rattle.s390x_inst.proofs.Transfers.{Transfer, LoadOf, StoreOf, as_transfer, transfer_instruction, the_transfer}
use Rattle.s390x_inst.proofs.Wholes.{the_whole}
use Rattle.s390x_inst.specs.declared.args.MemArg.{MemArg}
use Rattle.s390x_inst.specs.declared.inst.Inst.{Inst}
use Rattle.s390x_inst.specs.declared.inst.Inst.TheVariants as I
use Rattle.s390x_operands.specs.Requests.{items_of, scratch_request, reported_use, range_requests, fixed_use, fixed_def}
use Rattle.s390x_rows.specs.declared.opcodes.TheConstants as opcodes
use Rattle.s390x_typed_steps.specs.Memory.{address_form, layout_rows, load_memory, access_elements, reversed_code, load_lane_opcode, load_reversed_opcode, load_left, vector_memory, operate, compare_and_swap, load_and_operate}
use Rattle.s390x_typed_steps.specs.General.{is_general, is_access, four_bits, low_byte, low_displacement, low_halfword, low_word, rotation, reuses}
use Rattle.s390x_typed_steps.specs.VectorInstruction.{is_vector, vector_row, reuses_vector, element_code, move_left_row}
use Rattle.s390x_alloc_laws.specs.Allocatable.{Place, MayStand}
use Rattle.s390x_typed_steps.specs.Opcodes.{alu_half, alu_halfword, alu_part, alu_signed_word, alu_three, alu_three_halfword, alu_two, alu_unsigned_word, extend_two, indexed_opcode, insert_half, insert_part, load_half, load_part}
use Rattle.s390x_typed_steps.specs.Opcodes.{logical_indexed_opcode, rotate_then, shift_opcode}
use Rattle.s390x_typed_steps.specs.Storage.{alu_rx, alu_rxy, atomic_rsy}
use Rattle.s390x_typed_steps.specs.SingleInstruction.{halfword_row, indexed_row, rotated_row, three_halfword_row, three_row, two_row, unary_row, word_row}
use Rattle.s390x_typed_steps.specs.MachineInstruction.{rie_g, rrf_cde, rsy, vrr_a}
use Rattle.s390x_inst.specs.declared.vec_inst.VecInst.TheVariants as V
use Rattle.s390x_operands.specs.declared.constraint.Reported.TheVariants.{Fixed}
use Rattle.s390x_operands.specs.Operands.{leaf_requests}
use Rattle.s390x_inst.specs.Portions.{first_portion}
use Rattle.s390x_assign.specs.Assignments.{portion_at, register_at, after, memory_at, pair_at}
use Rattle.s390x_alloc_laws.proofs.Vectors.{elements_accessed, lane_accessed, left_accessed, first_row, reverse_single}
use Rattle.s390x_alloc_laws.proofs.Control.{portion_refusal}
use Rattle.std.specs.Prelude.{true, cond, ◌/◌}
use Rattle.s390x_lanes.specs.declared.operators.Signedness.TheVariants.{Signed, Unsigned}
use Rattle.s390x_operations.specs.declared.size.Size.TheVariants.{Word, Doubleword}
use Rattle.s390x_operations.specs.declared.size.Width.TheVariants.{Bits32, Bits64}
use Rattle.s390x_operations.specs.declared.effect.CodeRule.TheVariants.{Kept, Set}
use Rattle.s390x_machine.specs.Computations.{computes, compares, alu_computation, alu_three_rule, alu_two_rule, unary_computation, unary_rule, comparison, on_words, on_doublewords, unsigned_word, signed_word, signed_halfword, on_immediate}
use Rattle.s390x_machine.specs.Computations.{compares_on_immediate, computes_immediate, compares_immediate, doubleword, part_mask, on_selected, part_operator, at_part, at_half, half_mask, inserts_half, extension, shifts, rotates_into}
use Rattle.s390x_machine.specs.Computations.{rotates_to_test, multiplies_signed, multiplies_logical, divides_signed, divides_logical, compares_and_traps, compares_immediate_and_traps, finds_leftmost, idles, havocs, copies_access, moves_where, moves_immediate_where}
use Rattle.s390x_machine.specs.Storage.{operand_step}
use Rattle.s390x_machine.specs.Layout.{Layout, block_address}
use Rattle.s390x_machine.specs.VectorOperations.{binary_operation, unary_operation, shift_operator, shifted_elements, comparison_operation}
use Rattle.s390x_operands.specs.Meets.{MeetsEach}
use Rattle.s390x_typed_steps.specs.Operands.{resolved_operand, operand_general}
use Rattle.s390x_alloc_laws.proofs.Given.{and_left}
use Rattle.s390x_alloc_laws.specs.Outputs.{outputs, loaded_range}
use Rattle.s390x_alloc_laws.proofs.StepKinds.{nothing, condition_keeps, comparison_keeps, silence, jump_keeps, choice_keeps, branch_keeps, trap_keeps, trap_where_keeps, debug_keeps, table_keeps}
use Rattle.s390x_alloc_laws.proofs.Effects.{pair_targets}
use Rattle.s390x_alloc_laws.proofs.Shapes.{general_def, general_reuse, vector_def, vector_reuse, BothKeep, scratch_target, memory_scratch, memory_listed, alike_first, scratch_listed}
use Rattle.s390x_alloc_laws.proofs.Shapes.{kept1, kept2, kept3, kept4, kept_reuse1, kept_reuse1_and, kept_reuse2, kept_reuse3, kept1_and, behind_one, behind_two}
use Rattle.s390x_typed_steps.specs.VectorComposite.{reversing_rows}
use Rattle.s390x_machine.specs.VectorSteps.{computes_two_vectors, computes_one_vector, computes_three_vectors, generates_vector, shifts_vector, joins_registers, elements_of, inserts_immediate_alone, inserts_lane, inserts_lane_alone, extracts_lane, moves_left, reverses_elements}
use Rattle.s390x_machine.specs.StepKinds.{no_code, division_code, comparison_code}
use Rattle.s390x_alloc_laws.proofs.Stores.{accessed, load_kept, store_kept, load_kept2, swap_kept, load_range_kept, pair_listed}
use Rattle.s390x_alloc_laws.proofs.Doing.{does, moves_written, moves_immediate_written, extracts_written, inserts_written, inserts_alone_written, comparing_keeps, operate_valid, change_valid, vector_valid, relocation_kept, named_kept}
use Rattle.s390x_alloc_laws.proofs.Portions.{portion_kind, portion_loaded_kind}
use Rattle.s390x_typed_steps.specs.VectorOpcodes.{is_division}
use Rattle.s390x_operations.specs.declared.operator.Operator.TheVariants.{Move}
use Rattle.s390x_operations.specs.declared.operator.SelectedBitsOperator.TheVariants as Select
use Rattle.s390x_lanes.specs.declared.operators.VectorOperation.TheVariants as Lanes
use Rattle.s390x_lanes.specs.declared.size.ElementSize.TheVariants as ElementSize

-- a load: the last clause is a copy for each
kept_load : (P : Place) (L : Layout) (op : LoadOp) (rd : Reg) (mem : MemArg) (s : List Reg) → MayStand (load_instruction op rd mem) → MeetsEach s (items_of (leaf_requests (load_instruction op rd mem))) s → portion_refusal P (portion_at (first_portion (load_instruction op rd mem)) s).0 ≡ None →
    BothKeep L (loaded_range (load_instruction op rd mem) ++ outputs (items_of (leaf_requests (load_instruction op rd mem))) s) (portion_kind L P.state (portion_at (first_portion (load_instruction op rd mem)) s).0) (portion_loaded_kind L P.state (portion_at (first_portion (load_instruction op rd mem)) s).0)
kept_load P L LoadOps.Load64 rd mem s m g h =
    load_kept P L general_def (load_instruction LoadOps.Load64) (λ rd mem. load_memory (record { op = LoadOps.Load64; rd = rd; mem = mem })) (λ a m v. and_left (is_general a) (operand_general m) v) (λ a x. (refl, refl))
    (λ a x changed f free. accessed L changed (operand_step (load_instruction LoadOps.Load64 a (resolved_operand P.state x))) (λ address r. f) free) rd mem s m.0 g h
kept_load P L op rd mem s m g h =
    load_kept P L general_def (load_instruction op) (λ rd mem. load_memory (record { op = op; rd = rd; mem = mem })) (λ a m v. and_left (is_general a) (operand_general m) v) (λ a x. (refl, refl))
    (λ a x changed f free. accessed L changed (operand_step (load_instruction op a (resolved_operand P.state x))) (λ address r. f) free) rd mem s m.0 g h

-- a store, likewise
kept_store : (P : Place) (L : Layout) (op : StoreOp) (rd : Reg) (mem : MemArg) (s : List Reg) → MayStand (store_instruction op rd mem) → MeetsEach s (items_of (leaf_requests (store_instruction op rd mem))) s → portion_refusal P (portion_at (first_portion (store_instruction op rd mem)) s).0 ≡ None →
    BothKeep L (loaded_range (store_instruction op rd mem) ++ outputs (items_of (leaf_requests (store_instruction op rd mem))) s) (portion_kind L P.state (portion_at (first_portion (store_instruction op rd mem)) s).0) (portion_loaded_kind L P.state (portion_at (first_portion (store_instruction op rd mem)) s).0)
kept_store P L StoreOps.Store64 rd mem s m g h = store_kept P L (store_instruction StoreOps.Store64) (λ a x changed f free. accessed L changed (operand_step (store_instruction StoreOps.Store64 a (resolved_operand P.state x))) (λ address r. f) free) rd mem s g
kept_store P L op rd mem s m g h = store_kept P L (store_instruction op) (λ a x changed f free. accessed L changed (operand_step (store_instruction op a (resolved_operand P.state x))) (λ address r. f) free) rd mem s g

kept_transfer : (P : Place) (L : Layout) (t : Transfer) (s : List Reg) → MayStand (transfer_instruction t) → MeetsEach s (items_of (leaf_requests (transfer_instruction t))) s → portion_refusal P (portion_at (first_portion (transfer_instruction t)) s).0 ≡ None →
    BothKeep L (loaded_range (transfer_instruction t) ++ outputs (items_of (leaf_requests (transfer_instruction t))) s) (portion_kind L P.state (portion_at (first_portion (transfer_instruction t)) s).0) (portion_loaded_kind L P.state (portion_at (first_portion (transfer_instruction t)) s).0)
kept_transfer P L (LoadOf l) s m g h = kept_load P L l.op l.rd l.mem s m g h
kept_transfer P L (StoreOf t) s m g h = kept_store P L t.op t.rd t.mem s m g h

-- a load or a store of a whole vector register: the clauses without `Straight` are a copy for each other layout
kept_whole : (P : Place) (L : Layout) (direction : Direction) (layout : WholeLayout) (rd : Reg) (mem : MemArg) (s : List Reg) → MayStand (I.Vector (whole_instruction direction layout rd mem)) → MeetsEach s (items_of (leaf_requests (I.Vector (whole_instruction direction layout rd mem)))) s → portion_refusal P (portion_at (first_portion (I.Vector (whole_instruction direction layout rd mem))) s).0 ≡ None →
    BothKeep L (loaded_range (I.Vector (whole_instruction direction layout rd mem)) ++ outputs (items_of (leaf_requests (I.Vector (whole_instruction direction layout rd mem)))) s) (portion_kind L P.state (portion_at (first_portion (I.Vector (whole_instruction direction layout rd mem))) s).0) (portion_loaded_kind L P.state (portion_at (first_portion (I.Vector (whole_instruction direction layout rd mem))) s).0)
kept_whole P L Load Straight rd mem s m g h =
    load_kept P L vector_def (λ a x. I.Vector (whole_instruction Load Straight a x)) (λ a x. access_elements (layout_rows Straight).load_opcode a (Some (layout_rows Straight).mask) x) (λ a x v. vector_valid (is_vector a) x (access_elements (layout_rows Straight).load_opcode a (Some (layout_rows Straight).mask) x) (elements_accessed (layout_rows Straight).load_opcode a (Some (layout_rows Straight).mask) x) v) (λ a x. (refl, refl))
    (λ a x changed f free. accessed L changed (operand_step (I.Vector (whole_instruction Load Straight a (resolved_operand P.state x)))) (λ address r. f) free) rd mem s m.0 g h
kept_whole P L Load layout rd mem s m g h =
    load_kept P L vector_def (λ a x. I.Vector (whole_instruction Load layout a x)) (λ a x. access_elements (layout_rows layout).load_opcode a (Some (layout_rows layout).mask) x) (λ a x v. vector_valid (is_vector a) x (access_elements (layout_rows layout).load_opcode a (Some (layout_rows layout).mask) x) (elements_accessed (layout_rows layout).load_opcode a (Some (layout_rows layout).mask) x) v) (λ a x. (refl, refl))
    (λ a x changed f free. accessed L changed (operand_step (I.Vector (whole_instruction Load layout a (resolved_operand P.state x)))) (λ address r. f) free) rd mem s m.0 g h
kept_whole P L Store Straight rd mem s m g h = store_kept P L (λ a x. I.Vector (whole_instruction Store Straight a x)) (λ a x changed f free. accessed L changed (operand_step (I.Vector (whole_instruction Store Straight a (resolved_operand P.state x)))) (λ address r. f) free) rd mem s g
kept_whole P L Store layout rd mem s m g h = store_kept P L (λ a x. I.Vector (whole_instruction Store layout a x)) (λ a x changed f free. accessed L changed (operand_step (I.Vector (whole_instruction Store layout a (resolved_operand P.state x)))) (λ address r. f) free) rd mem s g

-- the last two clauses are a copy for each load and store of a vector register and of another one
pub kept : (P : Place) (L : Layout) (i : Inst) (s : List Reg) → MayStand i → MeetsEach s (items_of (leaf_requests i)) s → portion_refusal P (portion_at (first_portion i) s).0 ≡ None →
    BothKeep L (loaded_range i ++ outputs (items_of (leaf_requests i)) s) (portion_kind L P.state (portion_at (first_portion i) s).0) (portion_loaded_kind L P.state (portion_at (first_portion i) s).0)
kept P L (I.LoadIndexedAddr rd base index offset size) s m g h =
    kept3 P L general_def (λ rd base index. I.LoadIndexedAddr rd base index offset size) is_general is_general (λ rd base index. indexed_row (indexed_opcode size) (number_of rd) (number_of base) (number_of index) (low_displacement offset))
    (λ rd base index. refl) (λ rd base index changed f. does L changed (havocs (number_of rd)) no_code (λ r. f)) rd base index (reported_use base ∷ reported_use index ∷ []) s m.0 g h
kept P L (I.LoadLogicalIndexedAddr rd base index offset size) s m g h =
    kept3 P L general_def (λ rd base index. I.LoadLogicalIndexedAddr rd base index offset size) is_general is_general (λ rd base index. indexed_row (logical_indexed_opcode size) (number_of rd) (number_of base) (number_of index) (low_displacement offset)) (λ rd base index. refl)
    (λ rd base index changed f. does L changed (havocs (number_of rd)) no_code (λ r. f)) rd base index (reported_use base ∷ reported_use index ∷ []) s m.0 g h
kept P L (I.Mov64 rd rm) s m g h = kept2 P L general_def I.Mov64 is_general (λ rd rm. two_row (Some opcodes.LGR) (number_of rd) (number_of rm)) (λ rd rm. refl) (λ rd rm changed f. does L changed (computes Kept (on_doublewords Move) (number_of rd) (number_of rd) (number_of rm)) no_code (λ r. f)) rd rm (reported_use rm ∷ []) s m.0 g h
kept P L (I.Mov32 rd rm) s m g h = kept2 P L general_def I.Mov32 is_general (λ rd rm. two_row (Some opcodes.LR) (number_of rd) (number_of rm)) (λ rd rm. refl) (λ rd rm changed f. does L changed (computes Kept (on_words Move) (number_of rd) (number_of rd) (number_of rm)) no_code (λ r. f)) rd rm (reported_use rm ∷ []) s m.0 g h
kept P L (I.Mov32Imm rd imm) s m g h = kept1 P L general_def (λ rd. I.Mov32Imm rd imm) (λ rd. word_row (Some opcodes.IILF) (number_of rd) (low_word (pos imm))) (λ rd. refl) (λ rd changed f. does L changed (computes_immediate Kept (on_words Move) (number_of rd) (number_of rd) (low_word (pos imm))) no_code (λ r. f)) rd [] s m.0 g h
kept P L (I.Mov32SImm16 rd imm) s m g h =
    kept1 P L general_def (λ rd. I.Mov32SImm16 rd imm) (λ rd. halfword_row (Some opcodes.LHI) (number_of rd) (low_halfword imm)) (λ rd. refl) (λ rd changed f. does L changed (computes_immediate Kept (on_immediate (on_words Move) signed_halfword) (number_of rd) (number_of rd) (low_halfword imm)) no_code (λ r. f)) rd [] s m.0 g h
kept P L (I.Mov64SImm16 rd imm) s m g h =
    kept1 P L general_def (λ rd. I.Mov64SImm16 rd imm) (λ rd. halfword_row (Some opcodes.LGHI) (number_of rd) (low_halfword imm)) (λ rd. refl) (λ rd changed f. does L changed (computes_immediate Kept (on_immediate (on_doublewords Move) signed_halfword) (number_of rd) (number_of rd) (low_halfword imm)) no_code (λ r. f)) rd [] s m.0 g h
kept P L (I.Mov64SImm32 rd imm) s m g h =
    kept1 P L general_def (λ rd. I.Mov64SImm32 rd imm) (λ rd. word_row (Some opcodes.LGFI) (number_of rd) (low_word imm)) (λ rd. refl) (λ rd changed f. does L changed (computes_immediate Kept (on_immediate (on_doublewords Move) signed_word) (number_of rd) (number_of rd) (low_word imm)) no_code (λ r. f)) rd [] s m.0 g h
kept P L (I.Mov64UImm16Shifted rd imm) s m g h =
    kept1 P L general_def (λ rd. I.Mov64UImm16Shifted rd imm) (λ rd. halfword_row (load_part imm.shift) (number_of rd) (low_halfword (pos imm.bits))) (λ rd. refl)
    (λ rd changed f. does L changed (computes_immediate Kept (on_doublewords Move) (number_of rd) (number_of rd) (at_part imm.shift (low_halfword (pos imm.bits)))) no_code (λ r. f)) rd [] s m.0 g h
kept P L (I.Mov64UImm32Shifted rd imm) s m g h =
    kept1 P L general_def (λ rd. I.Mov64UImm32Shifted rd imm) (λ rd. word_row (load_half imm.shift) (number_of rd) (low_word (pos imm.bits))) (λ rd. refl) (λ rd changed f. does L changed (computes_immediate Kept (on_doublewords Move) (number_of rd) (number_of rd) (at_half imm.shift (low_word (pos imm.bits)))) no_code (λ r. f)) rd [] s m.0 g h
kept P L (I.Insert64UImm16Shifted rd ri imm) s m g h =
    kept_reuse1 P L general_reuse (λ rd ri. I.Insert64UImm16Shifted rd ri imm) (λ rd ri. halfword_row (insert_part imm.shift) (number_of rd) (low_halfword (pos imm.bits))) (λ rd ri. refl)
    (λ rd ri changed f. does L changed (computes_immediate Kept (on_selected Select.Insert (part_mask imm.shift)) (number_of rd) (number_of rd) (at_part imm.shift (low_halfword (pos imm.bits)))) no_code (λ r. f)) rd ri (reported_use ri ∷ []) s m.0 g h
kept P L (I.Insert64UImm32Shifted rd ri imm) s m g h =
    kept_reuse1 P L general_reuse (λ rd ri. I.Insert64UImm32Shifted rd ri imm) (λ rd ri. word_row (insert_half imm.shift) (number_of rd) (low_word (pos imm.bits))) (λ rd ri. refl)
    (λ rd ri changed f. does L changed (computes_immediate Kept (inserts_half imm.shift) (number_of rd) (number_of rd) (at_half imm.shift (low_word (pos imm.bits)))) no_code (λ r. f)) rd ri (reported_use ri ∷ []) s m.0 g h
kept P L (I.CMov32 rd mask ri rm) s m g h =
    kept_reuse2 P L general_reuse (λ rd ri rm. I.CMov32 rd mask ri rm) is_general (λ rd ri rm. Some (rrf_cde opcodes.LOCR (number_of rd) (number_of rm) (four_bits mask) 0)) (λ rd ri rm. refl)
    (λ rd ri rm changed f. does L changed (moves_where Word unsigned_word (four_bits mask) (number_of rd) (number_of rm)) no_code (λ r. moves_written Word unsigned_word (four_bits mask) (number_of rd) (number_of rm) r changed f)) rd ri rm (reported_use ri ∷ reported_use rm ∷ []) s m.0 g h
kept P L (I.CMov64 rd mask ri rm) s m g h =
    kept_reuse2 P L general_reuse (λ rd ri rm. I.CMov64 rd mask ri rm) is_general (λ rd ri rm. Some (rrf_cde opcodes.LOCGR (number_of rd) (number_of rm) (four_bits mask) 0)) (λ rd ri rm. refl)
    (λ rd ri rm changed f. does L changed (moves_where Doubleword doubleword (four_bits mask) (number_of rd) (number_of rm)) no_code (λ r. moves_written Doubleword doubleword (four_bits mask) (number_of rd) (number_of rm) r changed f)) rd ri rm (reported_use ri ∷ reported_use rm ∷ []) s m.0 g h
kept P L (I.CMov32SImm16 rd mask ri imm) s m g h =
    kept_reuse1 P L general_reuse (λ rd ri. I.CMov32SImm16 rd mask ri imm) (λ rd ri. Some (rie_g opcodes.LOCHI (number_of rd) (low_halfword imm) (four_bits mask))) (λ rd ri. refl)
    (λ rd ri changed f. does L changed (moves_immediate_where Word (four_bits mask) (number_of rd) (low_halfword imm)) no_code (λ r. moves_immediate_written Word (four_bits mask) (number_of rd) (low_halfword imm) r changed f)) rd ri (reported_use ri ∷ []) s m.0 g h
kept P L (I.CMov64SImm16 rd mask ri imm) s m g h =
    kept_reuse1 P L general_reuse (λ rd ri. I.CMov64SImm16 rd mask ri imm) (λ rd ri. Some (rie_g opcodes.LOCGHI (number_of rd) (low_halfword imm) (four_bits mask))) (λ rd ri. refl)
    (λ rd ri changed f. does L changed (moves_immediate_where Doubleword (four_bits mask) (number_of rd) (low_halfword imm)) no_code (λ r. moves_immediate_written Doubleword (four_bits mask) (number_of rd) (low_halfword imm) r changed f)) rd ri (reported_use ri ∷ []) s m.0 g h
kept P L (I.Extend rd rn signed from to) s m g h =
    kept2 P L general_def (λ rd rn. I.Extend rd rn signed from to) is_general (λ rd rn. two_row (extend_two signed from to) (number_of rd) (number_of rn)) (λ rd rn. refl)
    (λ rd rn changed f. does L changed (computes Kept (extension signed from to) (number_of rd) (number_of rd) (number_of rn)) no_code (λ r. f)) rd rn (reported_use rn ∷ []) s m.0 g h
kept P L (I.AluRRR op rd rn rm) s m g h =
    kept3 P L general_def (I.AluRRR op) is_general is_general (λ rd rn rm. three_row (alu_three op) (alu_two op) (number_of rd) (number_of rn) (number_of rm)) (λ rd rn rm. refl)
    (λ rd rn rm changed f. does L changed (computes (alu_three_rule op) (alu_computation op) (number_of rd) (number_of rn) (number_of rm)) no_code (λ r. f)) rd rn rm (reported_use rn ∷ reported_use rm ∷ []) s m.0 g h
kept P L (I.AluRRSImm16 op rd rn imm) s m g h =
    kept2 P L general_def (λ rd rn. I.AluRRSImm16 op rd rn imm) is_general (λ rd rn. three_halfword_row (alu_three_halfword op) (alu_halfword op) (number_of rd) (number_of rn) (low_halfword imm)) (λ rd rn. refl)
    (λ rd rn changed f. does L changed (computes_immediate (alu_two_rule op) (on_immediate (alu_computation op) signed_halfword) (number_of rd) (number_of rn) (low_halfword imm)) no_code (λ r. f)) rd rn (reported_use rn ∷ []) s m.0 g h
kept P L (I.AluRR op rd ri rm) s m g h =
    kept_reuse2 P L general_reuse (I.AluRR op) is_general (λ rd ri rm. two_row (alu_two op) (number_of rd) (number_of rm)) (λ rd ri rm. refl)
    (λ rd ri rm changed f. does L changed (computes (alu_two_rule op) (alu_computation op) (number_of rd) (number_of rd) (number_of rm)) no_code (λ r. f)) rd ri rm (reported_use ri ∷ reported_use rm ∷ []) s m.0 g h
kept P L (I.AluRSImm16 op rd ri imm) s m g h =
    kept_reuse1 P L general_reuse (λ rd ri. I.AluRSImm16 op rd ri imm) (λ rd ri. halfword_row (alu_halfword op) (number_of rd) (low_halfword imm)) (λ rd ri. refl)
    (λ rd ri changed f. does L changed (computes_immediate (alu_two_rule op) (on_immediate (alu_computation op) signed_halfword) (number_of rd) (number_of rd) (low_halfword imm)) no_code (λ r. f)) rd ri (reported_use ri ∷ []) s m.0 g h
kept P L (I.AluRSImm32 op rd ri imm) s m g h =
    kept_reuse1 P L general_reuse (λ rd ri. I.AluRSImm32 op rd ri imm) (λ rd ri. word_row (alu_signed_word op) (number_of rd) (low_word imm)) (λ rd ri. refl)
    (λ rd ri changed f. does L changed (computes_immediate (alu_two_rule op) (on_immediate (alu_computation op) signed_word) (number_of rd) (number_of rd) (low_word imm)) no_code (λ r. f)) rd ri (reported_use ri ∷ []) s m.0 g h
kept P L (I.AluRUImm32 op rd ri imm) s m g h =
    kept_reuse1 P L general_reuse (λ rd ri. I.AluRUImm32 op rd ri imm) (λ rd ri. word_row (alu_unsigned_word op) (number_of rd) (low_word (pos imm))) (λ rd ri. refl)
    (λ rd ri changed f. does L changed (computes_immediate (alu_two_rule op) (on_immediate (alu_computation op) unsigned_word) (number_of rd) (number_of rd) (low_word (pos imm))) no_code (λ r. f)) rd ri (reported_use ri ∷ []) s m.0 g h
kept P L (I.AluRUImm16Shifted op rd ri imm) s m g h =
    kept_reuse1 P L general_reuse (λ rd ri. I.AluRUImm16Shifted op rd ri imm) (λ rd ri. halfword_row (alu_part op imm.shift) (number_of rd) (low_halfword (pos imm.bits))) (λ rd ri. refl)
    (λ rd ri changed f. does L changed (computes_immediate Set (on_selected (part_operator op) (part_mask imm.shift)) (number_of rd) (number_of rd) (at_part imm.shift (low_halfword (pos imm.bits)))) no_code (λ r. f)) rd ri (reported_use ri ∷ []) s m.0 g h
kept P L (I.AluRUImm32Shifted op rd ri imm) s m g h =
    kept_reuse1 P L general_reuse (λ rd ri. I.AluRUImm32Shifted op rd ri imm) (λ rd ri. word_row (alu_half op imm.shift) (number_of rd) (low_word (pos imm.bits))) (λ rd ri. refl)
    (λ rd ri changed f. does L changed (computes_immediate Set (on_selected (part_operator op) (half_mask imm.shift)) (number_of rd) (number_of rd) (at_half imm.shift (low_word (pos imm.bits)))) no_code (λ r. f)) rd ri (reported_use ri ∷ []) s m.0 g h
kept P L (I.ShiftRR op rd rn amount register) s m g h =
    kept3 P L general_def (λ rd rn register. I.ShiftRR op rd rn amount register) is_general is_general (λ rd rn register. Some (rsy (shift_opcode op) (number_of rd) (number_of rn) (number_of register) (low_byte amount))) (λ rd rn register. refl)
    (λ rd rn register changed f. does L changed (shifts op (number_of rd) (number_of rn) (number_of register) (low_byte amount)) no_code (λ r. f)) rd rn register (reported_use rn ∷ reported_use register ∷ []) s m.0 g h
kept P L (I.RxSBG op rd ri rn start end amount) s m g h =
    kept_reuse2 P L general_reuse (λ rd ri rn. I.RxSBG op rd ri rn start end amount) is_general (λ rd ri rn. rotated_row (Some (rotate_then op)) (number_of rd) (number_of rn) start end start (rotation amount)) (λ rd ri rn. refl)
    (λ rd ri rn changed f. does L changed (rotates_into op (number_of rd) (number_of rn) start end (rotation amount)) no_code (λ r. f)) rd ri rn (reported_use ri ∷ reported_use rn ∷ []) s m.0 g h
kept P L (I.RxSBGTest op rd rn start end amount) s m g h = does L _ (rotates_to_test op (number_of (register_at rd s)) (number_of (register_at rn (after rd s))) start end (rotation amount)) no_code (λ r q a. tt)
kept P L (I.UnaryRR op rd rn) s m g h = kept2 P L general_def (I.UnaryRR op) is_general (λ rd rn. unary_row op (number_of rd) (number_of rn)) (λ rd rn. refl) (λ rd rn changed f. does L changed (computes (unary_rule op) (unary_computation op) (number_of rd) (number_of rd) (number_of rn)) no_code (λ r. f)) rd rn (reported_use rn ∷ []) s m.0 g h
kept P L (I.CmpRR op rn rm) s m g h = does L _ (compares (comparison op) (number_of (register_at rn s)) (number_of (register_at rm (after rn s)))) no_code (λ r q a. tt)
kept P L (I.CmpRSImm16 op rn imm) s m g h = does L _ (compares_immediate (compares_on_immediate (comparison op) signed_halfword) (number_of (register_at rn s)) (low_halfword imm)) no_code (λ r q a. tt)
kept P L (I.CmpRSImm32 op rn imm) s m g h = does L _ (compares_immediate (compares_on_immediate (comparison op) signed_word) (number_of (register_at rn s)) (low_word imm)) no_code (λ r q a. tt)
kept P L (I.CmpRUImm32 op rn imm) s m g h = does L _ (compares_immediate (compares_on_immediate (comparison op) unsigned_word) (number_of (register_at rn s)) (low_word (pos imm))) no_code (λ r q a. tt)
kept P L (I.CmpTrapRR op rn rm mask code) s m g h = does L _ (compares_and_traps (comparison op) (number_of (register_at rn s)) (number_of (register_at rm (after rn s))) (four_bits mask)) (comparison_code code) (λ r q a. tt)
kept P L (I.CmpTrapRSImm16 op rn imm mask code) s m g h = does L _ (compares_immediate_and_traps (comparison op) (number_of (register_at rn s)) (low_halfword imm) (four_bits mask)) (comparison_code code) (λ r q a. tt)
kept P L (I.CmpTrapRUImm16 op rn imm mask code) s m g h = does L _ (compares_immediate_and_traps (comparison op) (number_of (register_at rn s)) (low_halfword (pos imm)) (four_bits mask)) (comparison_code code) (λ r q a. tt)
kept P L (I.LoadAR rd ar) s m g h = kept1_and P L general_def (λ d. I.LoadAR d ar) (is_access ar) (λ d. two_row (Some opcodes.EAR) (number_of d) (four_bits ar)) (λ d. refl) (λ rd changed f. does L changed (copies_access (number_of rd) (four_bits ar)) no_code (λ r. f)) rd [] s m.0 g h
kept P L (I.InsertAR rd ri ar) s m g h = kept_reuse1_and P L general_reuse (λ d i. I.InsertAR d i ar) (is_access ar) (λ d i. two_row (Some opcodes.EAR) (number_of d) (four_bits ar)) (λ d i. refl) (λ rd ri changed f. does L changed (copies_access (number_of rd) (four_bits ar)) no_code (λ r. f)) rd ri (reported_use ri ∷ []) s m.0 g h
kept P L (I.MovPReg rd rm) s m g h =
    kept1_and P L general_def (λ d. I.MovPReg d rm) (is_general (Real rm)) (λ d. two_row (Some opcodes.LGR) (number_of d) (number_of (Real rm))) (λ d. refl) (λ rd changed f. does L changed (computes Kept (on_doublewords Move) (number_of rd) (number_of rd) (number_of (Real rm))) no_code (λ r. f)) rd (Some (Fixed rm) ∷ []) s m.0 g h
kept P L (I.SMulWide rd rn rm) s m g h =
    does L _ (multiplies_signed (number_of (pair_at rd (after rm (after rn s))).hi) (number_of (register_at rn s)) (number_of (register_at rm (after rn s)))) no_code
    (λ r. behind_two rn rm (fixed_def rd.hi 2 ∷ fixed_def rd.lo 3 ∷ []) s g (pair_targets (number_of (pair_at rd (after rm (after rn s))).hi)) (λ k. pair_listed rd [] s (after rm (after rn s)) k))
kept P L (I.Flogr rd rn) s m g h = does L _ (finds_leftmost (number_of (pair_at rd (after rn s)).hi) (number_of (register_at rn s))) no_code (λ r. behind_one rn (fixed_def rd.hi 2 ∷ fixed_def rd.lo 3 ∷ []) s g (pair_targets (number_of (pair_at rd (after rn s)).hi)) (λ k. pair_listed rd [] s (after rn s) k))
kept P L (I.UMulWide rd ri rn) s m g h =
    does L _ (multiplies_logical (number_of (pair_at rd (after rn s)).hi) (number_of (register_at rn s))) no_code (λ r. behind_one rn (fixed_def rd.hi 2 ∷ fixed_def rd.lo 3 ∷ fixed_use ri 3 ∷ []) s g (pair_targets (number_of (pair_at rd (after rn s)).hi)) (λ k. pair_listed rd (fixed_use ri 3 ∷ []) s (after rn s) k))
kept P L (I.SDivMod32 rd ri rn) s m g h =
    does L _ (divides_signed Bits32 (number_of (pair_at rd (after rn s)).hi) (number_of (register_at rn s))) division_code (λ r. behind_one rn (fixed_def rd.hi 2 ∷ fixed_def rd.lo 3 ∷ fixed_use ri 3 ∷ []) s g (pair_targets (number_of (pair_at rd (after rn s)).hi)) (λ k. pair_listed rd (fixed_use ri 3 ∷ []) s (after rn s) k))
kept P L (I.SDivMod64 rd ri rn) s m g h =
    does L _ (divides_signed Bits64 (number_of (pair_at rd (after rn s)).hi) (number_of (register_at rn s))) division_code (λ r. behind_one rn (fixed_def rd.hi 2 ∷ fixed_def rd.lo 3 ∷ fixed_use ri 3 ∷ []) s g (pair_targets (number_of (pair_at rd (after rn s)).hi)) (λ k. pair_listed rd (fixed_use ri 3 ∷ []) s (after rn s) k))
kept P L (I.UDivMod32 rd ri rn) s m g h =
    does L _ (divides_logical Word (number_of (pair_at rd (after rn s)).hi) (number_of (register_at rn s))) division_code
    (λ r. behind_one rn (fixed_def rd.hi 2 ∷ fixed_def rd.lo 3 ∷ fixed_use ri.hi 2 ∷ fixed_use ri.lo 3 ∷ []) s g (pair_targets (number_of (pair_at rd (after rn s)).hi)) (λ k. pair_listed rd (fixed_use ri.hi 2 ∷ fixed_use ri.lo 3 ∷ []) s (after rn s) k))
kept P L (I.UDivMod64 rd ri rn) s m g h =
    does L _ (divides_logical Doubleword (number_of (pair_at rd (after rn s)).hi) (number_of (register_at rn s))) division_code
    (λ r. behind_one rn (fixed_def rd.hi 2 ∷ fixed_def rd.lo 3 ∷ fixed_use ri.hi 2 ∷ fixed_use ri.lo 3 ∷ []) s g (pair_targets (number_of (pair_at rd (after rn s)).hi)) (λ k. pair_listed rd (fixed_use ri.hi 2 ∷ fixed_use ri.lo 3 ∷ []) s (after rn s) k))
kept P L (I.Vector (V.VecRRR op rd rn rm)) s m g h =
    kept3 P L vector_def (λ rd rn rm. I.Vector (V.VecRRR op rd rn rm)) is_vector is_vector (λ rd rn rm. vector_row (V.VecRRR op rd rn rm)) (λ rd rn rm. refl)
    (λ rd rn rm changed f. does L changed (computes_two_vectors (binary_operation op) (number_of rd) (number_of rn) (number_of rm)) (cond (is_division op) division_code no_code) (λ r. f)) rd rn rm (reported_use rn ∷ reported_use rm ∷ []) s m.0 g h
kept P L (I.Vector (V.VecRR op rd rn)) s m g h = kept2 P L vector_def (λ rd rn. I.Vector (V.VecRR op rd rn)) is_vector (λ rd rn. vector_row (V.VecRR op rd rn)) (λ rd rn. refl) (λ rd rn changed f. does L changed (computes_one_vector (unary_operation op) (number_of rd) (number_of rn)) no_code (λ r. f)) rd rn (reported_use rn ∷ []) s m.0 g h
kept P L (I.Vector (V.VecShiftRR op rd rn amount register)) s m g h =
    kept3 P L vector_def (λ rd rn register. I.Vector (V.VecShiftRR op rd rn amount register)) is_vector is_general (λ rd rn register. vector_row (V.VecShiftRR op rd rn amount register)) (λ rd rn register. refl)
    (λ rd rn register changed f. does L changed (shifts_vector (shift_operator op) (shifted_elements op) (number_of rd) (number_of rn) (number_of register) (low_byte amount)) no_code (λ r. f)) rd rn register (reported_use rn ∷ reported_use register ∷ []) s m.0 g h
kept P L (I.Vector (V.VecSelect rd rn rm ra)) s m g h =
    kept4 P L vector_def (λ rd rn rm ra. I.Vector (V.VecSelect rd rn rm ra)) is_vector is_vector is_vector (λ rd rn rm ra. vector_row (V.VecSelect rd rn rm ra)) (λ rd rn rm ra. refl)
    (λ rd rn rm ra changed f. does L changed (computes_three_vectors Lanes.Select (number_of rd) (number_of rn) (number_of rm) (number_of ra)) no_code (λ r. f)) rd rn rm ra (reported_use rn ∷ reported_use rm ∷ reported_use ra ∷ []) s m.0 g h
kept P L (I.Vector (V.VecPermute rd rn rm ra)) s m g h =
    kept4 P L vector_def (λ rd rn rm ra. I.Vector (V.VecPermute rd rn rm ra)) is_vector is_vector is_vector (λ rd rn rm ra. vector_row (V.VecPermute rd rn rm ra)) (λ rd rn rm ra. refl)
    (λ rd rn rm ra changed f. does L changed (computes_three_vectors Lanes.Permute (number_of rd) (number_of rn) (number_of rm) (number_of ra)) no_code (λ r. f)) rd rn rm ra (reported_use rn ∷ reported_use rm ∷ reported_use ra ∷ []) s m.0 g h
kept P L (I.Vector (V.VecBlend rd rn rm ra)) s m g h =
    kept4 P L vector_def (λ rd rn rm ra. I.Vector (V.VecBlend rd rn rm ra)) is_vector is_vector is_vector (λ rd rn rm ra. vector_row (V.VecBlend rd rn rm ra)) (λ rd rn rm ra. refl)
    (λ rd rn rm ra changed f. does L changed (computes_three_vectors Lanes.Blend (number_of rd) (number_of rn) (number_of rm) (number_of ra)) no_code (λ r. f)) rd rn rm ra (reported_use rn ∷ reported_use rm ∷ reported_use ra ∷ []) s m.0 g h
kept P L (I.Vector (V.VecEvaluate imm rd rn rm ra)) s m g h =
    kept4 P L vector_def (λ rd rn rm ra. I.Vector (V.VecEvaluate imm rd rn rm ra)) is_vector is_vector is_vector (λ rd rn rm ra. vector_row (V.VecEvaluate imm rd rn rm ra)) (λ rd rn rm ra. refl)
    (λ rd rn rm ra changed f. does L changed (computes_three_vectors (Lanes.Evaluate (low_byte imm)) (number_of rd) (number_of rn) (number_of rm) (number_of ra)) no_code (λ r. f)) rd rn rm ra (reported_use rn ∷ reported_use rm ∷ reported_use ra ∷ []) s m.0 g h
kept P L (I.Vector (V.VecPermuteDWImm rd rn rm first second)) s m g h =
    kept3 P L vector_def (λ rd rn rm. I.Vector (V.VecPermuteDWImm rd rn rm first second)) is_vector is_vector (λ rd rn rm. vector_row (V.VecPermuteDWImm rd rn rm first second)) (λ rd rn rm. refl)
    (λ rd rn rm changed f. does L changed (computes_two_vectors (Lanes.PermuteDoublewords first second) (number_of rd) (number_of rn) (number_of rm)) no_code (λ r. f)) rd rn rm (reported_use rn ∷ reported_use rm ∷ []) s m.0 g h
kept P L (I.Vector (V.VecIntCmp op rd rn rm)) s m g h =
    kept3 P L vector_def (λ rd rn rm. I.Vector (V.VecIntCmp op rd rn rm)) is_vector is_vector (λ rd rn rm. vector_row (V.VecIntCmp op rd rn rm)) (λ rd rn rm. refl)
    (λ rd rn rm changed f. does L changed (computes_two_vectors (comparison_operation op false) (number_of rd) (number_of rn) (number_of rm)) no_code (λ r. f)) rd rn rm (reported_use rn ∷ reported_use rm ∷ []) s m.0 g h
kept P L (I.Vector (V.VecIntCmpS op rd rn rm)) s m g h =
    kept3 P L vector_def (λ rd rn rm. I.Vector (V.VecIntCmpS op rd rn rm)) is_vector is_vector (λ rd rn rm. vector_row (V.VecIntCmpS op rd rn rm)) (λ rd rn rm. refl)
    (λ rd rn rm changed f. does L changed (computes_two_vectors (comparison_operation op true) (number_of rd) (number_of rn) (number_of rm)) no_code (λ r. f)) rd rn rm (reported_use rn ∷ reported_use rm ∷ []) s m.0 g h
kept P L (I.Vector (V.VecIntEltCmp op rn rm)) s m g h = (comparing_keeps L _ op (number_of (register_at rn s)) (number_of (register_at rm (after rn s))), nothing L _)
kept P L (I.Vector (V.VecMov rd rn)) s m g h = kept2 P L vector_def (λ rd rn. I.Vector (V.VecMov rd rn)) is_vector (λ rd rn. vector_row (V.VecMov rd rn)) (λ rd rn. refl) (λ rd rn changed f. does L changed (computes_one_vector Lanes.Move (number_of rd) (number_of rn)) no_code (λ r. f)) rd rn (reported_use rn ∷ []) s m.0 g h
kept P L (I.Vector (V.FpuMove32 rd rn)) s m g h = kept2 P L vector_def (λ rd rn. I.Vector (V.FpuMove32 rd rn)) is_vector (λ rd rn. vector_row (V.FpuMove32 rd rn)) (λ rd rn. refl) (λ rd rn changed f. does L changed (moves_left ElementSize.Word (number_of rd) (number_of rn)) no_code (λ r. f)) rd rn (reported_use rn ∷ []) s m.0 g h
kept P L (I.Vector (V.FpuMove64 rd rn)) s m g h = kept2 P L vector_def (λ rd rn. I.Vector (V.FpuMove64 rd rn)) is_vector (λ rd rn. vector_row (V.FpuMove64 rd rn)) (λ rd rn. refl) (λ rd rn changed f. does L changed (moves_left ElementSize.Doubleword (number_of rd) (number_of rn)) no_code (λ r. f)) rd rn (reported_use rn ∷ []) s m.0 g h
kept P L (I.Vector (V.MovToVec128 rd rn rm)) s m g h =
    kept3 P L vector_def (λ rd rn rm. I.Vector (V.MovToVec128 rd rn rm)) is_general is_general (λ rd rn rm. vector_row (V.MovToVec128 rd rn rm)) (λ rd rn rm. refl) (λ rd rn rm changed f. does L changed (joins_registers (number_of rd) (number_of rn) (number_of rm)) no_code (λ r. f)) rd rn rm (reported_use rn ∷ reported_use rm ∷ []) s m.0 g h
kept P L (I.Vector (V.VecImmByteMask rd mask)) s m g h = kept1 P L vector_def (λ rd. I.Vector (V.VecImmByteMask rd mask)) (λ rd. vector_row (V.VecImmByteMask rd mask)) (λ rd. refl) (λ rd changed f. does L changed (generates_vector (Lanes.ByteMask (low_halfword (pos mask))) (number_of rd)) no_code (λ r. f)) rd [] s m.0 g h
kept P L (I.Vector (V.VecImmBitMask size rd start end)) s m g h =
    kept1 P L vector_def (λ rd. I.Vector (V.VecImmBitMask size rd start end)) (λ rd. vector_row (V.VecImmBitMask size rd start end)) (λ rd. refl) (λ rd changed f. does L changed (generates_vector (Lanes.BitMask (elements_of size) start end) (number_of rd)) no_code (λ r. f)) rd [] s m.0 g h
kept P L (I.Vector (V.VecImmReplicate size rd imm)) s m g h =
    kept1 P L vector_def (λ rd. I.Vector (V.VecImmReplicate size rd imm)) (λ rd. vector_row (V.VecImmReplicate size rd imm)) (λ rd. refl) (λ rd changed f. does L changed (generates_vector (Lanes.ReplicateImmediate (elements_of size) (low_halfword imm)) (number_of rd)) no_code (λ r. f)) rd [] s m.0 g h
kept P L (I.Vector (V.VecInsertLaneUndef size rd rn lane base)) s m g h =
    kept3 P L vector_def (λ rd rn base. I.Vector (V.VecInsertLaneUndef size rd rn lane base)) is_general is_general (λ rd rn base. vector_row (V.VecInsertLaneUndef size rd rn lane base)) (λ rd rn base. refl)
    (λ rd rn base changed f. does L changed (inserts_lane_alone (elements_of size) (number_of rd) (number_of rn) (number_of base) lane) no_code (λ r. inserts_alone_written (elements_of size) (number_of rd) (number_of rn) (number_of base) lane r changed f)) rd rn base (reported_use rn ∷ reported_use base ∷ []) s m.0 g h
kept P L (I.Vector (V.VecExtractLane size rd rn lane base)) s m g h =
    kept3 P L general_def (λ rd rn base. I.Vector (V.VecExtractLane size rd rn lane base)) is_vector is_general (λ rd rn base. vector_row (V.VecExtractLane size rd rn lane base)) (λ rd rn base. refl)
    (λ rd rn base changed f. does L changed (extracts_lane (elements_of size) (number_of rd) (number_of rn) (number_of base) lane) no_code (λ r. extracts_written (elements_of size) (number_of rd) (number_of rn) (number_of base) lane r changed f)) rd rn base (reported_use rn ∷ reported_use base ∷ []) s m.0 g h
kept P L (I.Vector (V.VecInsertLaneImmUndef size rd imm lane)) s m g h =
    kept1 P L vector_def (λ rd. I.Vector (V.VecInsertLaneImmUndef size rd imm lane)) (λ rd. vector_row (V.VecInsertLaneImmUndef size rd imm lane)) (λ rd. refl) (λ rd changed f. does L changed (inserts_immediate_alone (elements_of size) (number_of rd) (low_halfword imm) lane) no_code (λ r. f)) rd [] s m.0 g h
kept P L (I.Vector (V.VecReplicateLane size rd rn lane)) s m g h =
    kept2 P L vector_def (λ rd rn. I.Vector (V.VecReplicateLane size rd rn lane)) is_vector (λ rd rn. vector_row (V.VecReplicateLane size rd rn lane)) (λ rd rn. refl)
    (λ rd rn changed f. does L changed (computes_one_vector (Lanes.Replicate (elements_of size) lane) (number_of rd) (number_of rn)) no_code (λ r. f)) rd rn (reported_use rn ∷ []) s m.0 g h
kept P L (I.AluRX op rd ri mem) s m g h =
    load_kept2 P L general_reuse (I.AluRX op) (λ d i x. operate (is_some (alu_rx op) || is_some (alu_rxy op)) (alu_rx op) (alu_rxy op) d i x) (λ d i x v. alike_first is_general d i (operate_valid (is_some (alu_rx op) || is_some (alu_rxy op)) (alu_rx op) (alu_rxy op) d i x v)) (λ d i x. (refl, refl))
    (λ d i x changed f free. accessed L changed (operand_step (I.AluRX op d i (resolved_operand P.state x))) (λ address r. f) free) rd ri mem s m.0 g h
kept P L (I.AtomicCas32 rd ri rn mem) s m g h =
    swap_kept P L I.AtomicCas32 (compare_and_swap (Some opcodes.CS) opcodes.CSY) (λ d i n x v. alike_first is_general d i (and_left (reuses d i) (is_general n) (and_left (reuses d i && is_general n) (operand_general x) v))) (λ d i n x. (refl, refl))
    (λ d i n x changed f free. accessed L changed (operand_step (I.AtomicCas32 d i n (resolved_operand P.state x))) (λ address r. f) free) rd ri rn mem s m.0 g h
kept P L (I.AtomicCas64 rd ri rn mem) s m g h =
    swap_kept P L I.AtomicCas64 (compare_and_swap None opcodes.CSG) (λ d i n x v. alike_first is_general d i (and_left (reuses d i) (is_general n) (and_left (reuses d i && is_general n) (operand_general x) v))) (λ d i n x. (refl, refl))
    (λ d i n x changed f free. accessed L changed (operand_step (I.AtomicCas64 d i n (resolved_operand P.state x))) (λ address r. f) free) rd ri rn mem s m.0 g h
kept P L (I.Jump dest) s m g h = (jump_keeps L _ dest.0, nothing L _)
kept P L (I.CondBr taken not_taken mask) s m g h = (choice_keeps L _ mask taken.0 not_taken.0, nothing L _)
kept P L (I.CondBreak mask) s m g h = (nothing L _, nothing L _)
kept P L I.Nop0 s m g h = (silence L _, nothing L _)
kept P L I.Nop2 s m g h = does L _ idles no_code (λ r q a. tt)
kept P L I.Fence s m g h = does L _ idles no_code (λ r q a. tt)
kept P L (I.Trap code) s m g h = (trap_keeps L _ code, nothing L _)
kept P L (I.TrapIf mask code) s m g h = (trap_where_keeps L _ mask code, nothing L _)
kept P L I.Debugtrap s m g h = (debug_keeps L _, nothing L _)
kept P L I.SequencePoint s m g h = (silence L _, nothing L _)
kept P L (I.DummyUse reg) s m g h = (silence L _, nothing L _)
kept P L (I.CmpRX op rn mem) s m g h = store_kept P L (I.CmpRX op) (λ a x changed f free. accessed L changed (operand_step (I.CmpRX op a (resolved_operand P.state x))) (λ address r. f) free) rn mem s g
kept P L (I.StoreImm8 imm mem) s m g h = accessed L _ (operand_step (I.StoreImm8 imm (resolved_operand P.state (memory_at mem s).0))) (λ address r q a. tt) (memory_listed mem s s g)
kept P L (I.StoreImm16 imm mem) s m g h = accessed L _ (operand_step (I.StoreImm16 imm (resolved_operand P.state (memory_at mem s).0))) (λ address r q a. tt) (memory_listed mem s s g)
kept P L (I.StoreImm32SExt16 imm mem) s m g h = accessed L _ (operand_step (I.StoreImm32SExt16 imm (resolved_operand P.state (memory_at mem s).0))) (λ address r q a. tt) (memory_listed mem s s g)
kept P L (I.StoreImm64SExt16 imm mem) s m g h = accessed L _ (operand_step (I.StoreImm64SExt16 imm (resolved_operand P.state (memory_at mem s).0))) (λ address r q a. tt) (memory_listed mem s s g)
kept P L (I.LoadAddr rd mem) s m g h =
    load_kept P L general_def I.LoadAddr (λ rd mem. Some (record { form = address_form rd; operand = mem; accesses = false; operands_valid = is_general rd; reads_scratch = false }))
    (λ a m v. and_left (is_general a) (operand_general m) v) (λ a x. (refl, refl)) (λ a x changed f free. accessed L changed (operand_step (I.LoadAddr a (resolved_operand P.state x))) (λ address r. f) free) rd mem s m.0 g h
kept P L (I.LoadMultiple64 rt rt2 mem) s m g h = load_range_kept P L (I.LoadMultiple64 rt rt2 (memory_at mem s).0) rt rt2 mem s m.0 (λ changed f free. accessed L changed (operand_step (I.LoadMultiple64 rt rt2 (resolved_operand P.state (memory_at mem s).0))) (λ address r. f) free) (refl, refl) g h
kept P L (I.StoreMultiple64 rt rt2 mem) s m g h = accessed L _ (operand_step (I.StoreMultiple64 rt rt2 (resolved_operand P.state (memory_at mem s).0))) (λ address r q a. tt) (memory_scratch mem (range_requests rt rt2) s s g)
kept P L (I.AtomicRmw op rd rn mem) s m g h =
    load_kept2 P L general_def (I.AtomicRmw op) (λ d n x. load_and_operate (atomic_rsy op) d n x) (λ d n x v. change_valid (atomic_rsy op) d n x v) (λ d n x. (refl, refl)) (λ d n x changed f free. accessed L changed (operand_step (I.AtomicRmw op d n (resolved_operand P.state x))) (λ address r. f) free) rd rn mem s m.0 g h
kept P L (I.IndirectBr rn targets) s m g h = (branch_keeps L _ (number_of (register_at rn s)) targets.items, nothing L _)
kept P L (I.JTSequence ridx other mask targets) s m g h = (table_keeps L _ (number_of (register_at ridx s)) mask other.0 targets.items (behind_one ridx (scratch_request ∷ []) s g scratch_target (λ k. scratch_listed [] (after ridx s))), nothing L _)
kept P L (I.LoadSymbolReloc rd reloc) s m g h = relocation_kept P L rd reloc s m.0 g h
kept P L (I.LabelAddress dst label) s m g h = named_kept P L (λ x. I.LabelAddress x label) label (λ x. (refl, λ changed f. does L changed (computes_immediate Kept (on_doublewords Move) (number_of x) (number_of x) (block_address L label.0)) no_code (λ r. f))) dst s m.0 g h
kept P L (I.Args args) s m g h = (silence L _, nothing L _)
kept P L (I.Rets rets) s m g h = (silence L _, nothing L _)
kept P L (I.Vector (V.VecInsertLane size rd ri rn lane base)) s m g h =
    kept_reuse3 P L vector_reuse (λ d i n b. I.Vector (V.VecInsertLane size d i n lane b)) is_general is_general (λ d i n b. vector_row (V.VecInsertLane size d i n lane b)) (λ d i n b. refl)
    (λ rd ri rn base changed f. does L changed (inserts_lane (elements_of size) (number_of rd) (number_of rn) (number_of base) lane) no_code (λ r. inserts_written (elements_of size) (number_of rd) (number_of rn) (number_of base) lane r changed f)) rd ri rn base (reported_use ri ∷ reported_use rn ∷ reported_use base ∷ []) s m.0 g h
kept P L (I.Vector (V.VecInsertLaneImm size rd ri imm lane)) s m g h =
    kept_reuse1 P L vector_reuse (λ d i. I.Vector (V.VecInsertLaneImm size d i imm lane)) (λ d i. vector_row (V.VecInsertLaneImm size d i imm lane)) (λ d i. refl)
    (λ rd ri changed f. does L changed (generates_vector (Lanes.InsertImmediate (elements_of size) (low_halfword imm) lane) (number_of rd)) no_code (λ r. f)) rd ri (reported_use ri ∷ []) s m.0 g h
kept P L (I.Vector (V.FpuCMov32 rd mask ri rm)) s m g h =
    kept_reuse2 P L vector_reuse (λ d i n. I.Vector (V.FpuCMov32 d mask i n)) is_vector (λ d i n. Some (move_left_row opcodes.LER (number_of d) (number_of n))) (λ d i n. refl)
    (λ rd ri rm changed f. (condition_keeps L changed (four_bits mask) (moves_left ElementSize.Word (number_of rd) (number_of rm)) (λ r. f), nothing L changed)) rd ri rm (reported_use ri ∷ reported_use rm ∷ []) s m.0 g h
kept P L (I.Vector (V.FpuCMov64 rd mask ri rm)) s m g h =
    kept_reuse2 P L vector_reuse (λ d i n. I.Vector (V.FpuCMov64 d mask i n)) is_vector (λ d i n. Some (move_left_row opcodes.LDR (number_of d) (number_of n))) (λ d i n. refl)
    (λ rd ri rm changed f. (condition_keeps L changed (four_bits mask) (moves_left ElementSize.Doubleword (number_of rd) (number_of rm)) (λ r. f), nothing L changed)) rd ri rm (reported_use ri ∷ reported_use rm ∷ []) s m.0 g h
kept P L (I.Vector (V.VecCMov rd mask ri rm)) s m g h =
    kept_reuse2 P L vector_reuse (λ d i n. I.Vector (V.VecCMov d mask i n)) is_vector (λ d i n. Some (vrr_a opcodes.VLR (number_of d) (number_of n) 0)) (λ d i n. refl)
    (λ rd ri rm changed f. (condition_keeps L changed (four_bits mask) (computes_one_vector Lanes.Move (number_of rd) (number_of rm)) (λ r. f), nothing L changed)) rd ri rm (reported_use ri ∷ reported_use rm ∷ []) s m.0 g h
kept P L (I.Vector (V.VecEltRev count rd rn)) s m g h =
    kept2 P L vector_def (λ rd rn. I.Vector (V.VecEltRev count rd rn)) is_vector (λ rd rn. first_row (reversing_rows count (number_of rd) (number_of rn))) (λ rd rn. reverse_single P count rd rn)
    (λ rd rn changed f. does L changed (reverses_elements (elements_of (128 / count)) (number_of rd) (number_of rn)) no_code (λ r. f)) rd rn (reported_use rn ∷ []) s m.0 g h
kept P L (I.Vector (V.VecInt128SCmpHi tmp rn rm)) s m g h =
    kept3 P L vector_def (λ d n m. I.Vector (V.VecInt128SCmpHi d n m)) is_vector is_vector (λ d n m. Some (vrr_a opcodes.VEC (number_of m) (number_of n) 3)) (λ d n m. refl)
    (λ d n m changed f. (comparison_keeps L changed Signed (number_of d) (number_of n) (number_of m) f, nothing L changed)) tmp rn rm (reported_use rn ∷ reported_use rm ∷ []) s m.0 g h
kept P L (I.Vector (V.VecInt128UCmpHi tmp rn rm)) s m g h =
    kept3 P L vector_def (λ d n m. I.Vector (V.VecInt128UCmpHi d n m)) is_vector is_vector (λ d n m. Some (vrr_a opcodes.VECL (number_of m) (number_of n) 3)) (λ d n m. refl)
    (λ d n m changed f. (comparison_keeps L changed Unsigned (number_of d) (number_of n) (number_of m) f, nothing L changed)) tmp rn rm (reported_use rn ∷ reported_use rm ∷ []) s m.0 g h
kept P L (I.Vector (V.VecLoadReplicate size rd mem)) s m g h =
    load_kept P L vector_def (λ a x. I.Vector (V.VecLoadReplicate size a x)) (λ a x. access_elements opcodes.VLREP a (element_code size) x) (λ a x v. vector_valid (is_vector a) x (access_elements opcodes.VLREP a (element_code size) x) (elements_accessed opcodes.VLREP a (element_code size) x) v)
    (λ a x. (refl, refl)) (λ a x changed f free. accessed L changed (operand_step (I.Vector (V.VecLoadReplicate size a (resolved_operand P.state x)))) (λ address r. f) free) rd mem s m.0 g h
kept P L (I.Vector (V.VecLoadReplicateRev size rd mem)) s m g h =
    load_kept P L vector_def (λ a x. I.Vector (V.VecLoadReplicateRev size a x)) (λ a x. access_elements opcodes.VLBRREP a (reversed_code size) x) (λ a x v. vector_valid (is_vector a) x (access_elements opcodes.VLBRREP a (reversed_code size) x) (elements_accessed opcodes.VLBRREP a (reversed_code size) x) v)
    (λ a x. (refl, refl)) (λ a x changed f free. accessed L changed (operand_step (I.Vector (V.VecLoadReplicateRev size a (resolved_operand P.state x)))) (λ address r. f) free) rd mem s m.0 g h
kept P L (I.Vector (V.VecLoadLane size rd ri mem lane)) s m g h =
    load_kept2 P L vector_reuse (λ d i x. I.Vector (V.VecLoadLane size d i x lane)) (λ d i x. vector_memory (V.VecLoadLane size d i x lane))
    (λ d i x v. alike_first is_vector d i (vector_valid (reuses_vector d i) x (vector_memory (V.VecLoadLane size d i x lane)) (lane_accessed (reuses_vector d i) (λ c. load_lane_opcode c) (number_of d) (element_code size) size lane x) v)) (λ d i x. (refl, refl))
    (λ d i x changed f free. accessed L changed (operand_step (I.Vector (V.VecLoadLane size d i (resolved_operand P.state x) lane))) (λ address r. f) free) rd ri mem s m.0 g h
kept P L (I.Vector (V.VecLoadLaneRev size rd ri mem lane)) s m g h =
    load_kept2 P L vector_reuse (λ d i x. I.Vector (V.VecLoadLaneRev size d i x lane)) (λ d i x. vector_memory (V.VecLoadLaneRev size d i x lane))
    (λ d i x v. alike_first is_vector d i (vector_valid (reuses_vector d i) x (vector_memory (V.VecLoadLaneRev size d i x lane)) (lane_accessed (reuses_vector d i) (λ c. load_reversed_opcode c) (number_of d) (reversed_code size) size lane x) v)) (λ d i x. (refl, refl))
    (λ d i x changed f free. accessed L changed (operand_step (I.Vector (V.VecLoadLaneRev size d i (resolved_operand P.state x) lane))) (λ address r. f) free) rd ri mem s m.0 g h
kept P L (I.Vector (V.VecLoadLaneUndef size rd mem lane)) s m g h =
    load_kept P L vector_def (λ a x. I.Vector (V.VecLoadLaneUndef size a x lane)) (λ a x. vector_memory (V.VecLoadLaneUndef size a x lane)) (λ a x v. vector_valid (is_vector a) x (vector_memory (V.VecLoadLaneUndef size a x lane)) (left_accessed (λ z r. load_left z r) (λ c. load_lane_opcode c) a size lane x) v) (λ a x. (refl, refl))
    (λ a x changed f free. accessed L changed (operand_step (I.Vector (V.VecLoadLaneUndef size a (resolved_operand P.state x) lane))) (λ address r. f) free) rd mem s m.0 g h
kept P L (I.Vector (V.VecStoreLane size rd mem lane)) s m g h = store_kept P L (λ a x. I.Vector (V.VecStoreLane size a x lane)) (λ a x changed f free. accessed L changed (operand_step (I.Vector (V.VecStoreLane size a (resolved_operand P.state x) lane))) (λ address r. f) free) rd mem s g
kept P L (I.Vector (V.VecLoadLaneRevUndef size rd mem lane)) s m g h =
    load_kept P L vector_def (λ a x. I.Vector (V.VecLoadLaneRevUndef size a x lane)) (λ a x. vector_memory (V.VecLoadLaneRevUndef size a x lane))
    (λ a x v. vector_valid (is_vector a) x (vector_memory (V.VecLoadLaneRevUndef size a x lane)) (lane_accessed (is_vector a) (λ c. load_reversed_opcode c) (number_of a) (reversed_code size) size lane x) v) (λ a x. (refl, refl))
    (λ a x changed f free. accessed L changed (operand_step (I.Vector (V.VecLoadLaneRevUndef size a (resolved_operand P.state x) lane))) (λ address r. f) free) rd mem s m.0 g h
kept P L (I.Vector (V.VecStoreLaneRev size rd mem lane)) s m g h = store_kept P L (λ a x. I.Vector (V.VecStoreLaneRev size a x lane)) (λ a x changed f free. accessed L changed (operand_step (I.Vector (V.VecStoreLaneRev size a (resolved_operand P.state x) lane))) (λ address r. f) free) rd mem s g
kept P L (I.Loop' mask body all) s m g h = absurd m
kept P L (I.Call link info) s m g h = absurd m
kept P L (I.ReturnCall info) s m g h = absurd m
kept P L (I.Ret link) s m g h = absurd m
kept P L (I.AllocateArgs size) s m g h = absurd m
kept P L (I.Vector v) s m g h = let w : WholeAccess = the_whole (as_whole v) refl in kept_whole P L w.direction w.layout w.rd w.mem s m g h
kept P L i s m g h = kept_transfer P L (the_transfer (as_transfer i) refl) s m g h
