-- Of an instruction whose registers meet the constraints, none is a cause of refusal, where that is so for some registers.
use Rattle.std.proofs.Common.{◌≡◌, ◌+◌, pos, true, false, ◌||◌, List, [], ◌∷◌, Option, Some, None, refl, ◌∙◌, is_some}
use Rattle.s390x_base.specs.Regs.{number_of}
use Rattle.s390x_base.specs.declared.regs.Reg.{Reg}
use Rattle.s390x_base.specs.declared.regs.Reg.TheVariants.{Real}
use Rattle.s390x_inst.specs.declared.inst.Inst.{Inst}
use Rattle.s390x_operands.specs.Requests.{items_of, scratch_request, reported_use, reported_def}
use Rattle.s390x_rows.specs.declared.opcodes.TheConstants as opcodes
use Rattle.s390x_typed_steps.specs.Memory.{SiForm, SilForm, address_form, layout_rows, load_memory, store_memory, store_immediate, compare, access_elements, reversed_code, load_lane_opcode, store_lane_opcode, load_reversed_opcode, store_reversed_opcode, load_left}
use Rattle.s390x_typed_steps.specs.Memory.{holds_scratch, store_left, vector_memory}
use Rattle.s390x_typed_steps.specs.General.{is_general, is_access, four_bits, low_byte, low_displacement, low_halfword, low_word, rotation}
use Rattle.s390x_typed_steps.specs.VectorInstruction.{is_vector, vector_row, reuses_vector, element_code, move_left_row}
use Rattle.s390x_alloc_laws.specs.Allocatable.{IsNotBlamed, Place, MayStand}
use Rattle.s390x_typed_steps.specs.Opcodes.{alu_half, alu_halfword, alu_part, alu_signed_word, alu_three, alu_three_halfword, alu_two, alu_unsigned_word, cmp_halfword, cmp_signed_word, cmp_trap, cmp_trap_signed, cmp_trap_unsigned, cmp_two}
use Rattle.s390x_typed_steps.specs.Opcodes.{cmp_unsigned_word, extend_two, indexed_opcode, insert_half, insert_part, load_half, load_part, logical_indexed_opcode, rotate_then, rotate_then_test, shift_opcode}
use Rattle.s390x_typed_steps.specs.Storage.{alu_rx, alu_rxy, cmp_ril, cmp_rx, cmp_rxy, atomic_rsy}
use Rattle.s390x_typed_steps.specs.SingleInstruction.{halfword_row, indexed_row, masked_halfword_row, masked_row, rotated_row, three_halfword_row, three_row, two_row, unary_row, word_row}
use Rattle.s390x_typed_steps.specs.MachineInstruction.{rie_g, rre, rrf_cde, rsy, vrr_a}
use Rattle.s390x_inst.specs.declared.vec_inst.VecInst.TheVariants as V
use Rattle.s390x_inst.specs.declared.inst.Inst.TheVariants as I
use Rattle.s390x_operands.specs.declared.constraint.Reported.TheVariants.{Fixed}
use Rattle.s390x_operands.specs.Operands.{leaf_requests}
use Rattle.s390x_inst.specs.declared.args.MemArg.{MemArg}
use Rattle.s390x_inst.specs.declared.load.LoadOp.{LoadOp}
use Rattle.s390x_inst.specs.declared.load.LoadOp.TheVariants as LoadOps
use Rattle.s390x_inst.specs.Loads.{load_instruction}
use Rattle.s390x_inst.specs.declared.store.StoreOp.{StoreOp}
use Rattle.s390x_inst.specs.declared.store.StoreOp.TheVariants as StoreOps
use Rattle.s390x_inst.specs.Stores.{store_instruction}
use Rattle.s390x_inst.specs.declared.whole.WholeAccess.{WholeAccess}
use Rattle.s390x_inst.specs.declared.whole.Direction.{Direction}
use Rattle.s390x_inst.specs.declared.whole.Direction.TheVariants.{Load, Store}
use Rattle.s390x_inst.specs.declared.whole.WholeLayout.{WholeLayout}
use Rattle.s390x_inst.specs.declared.whole.WholeLayout.TheVariants.{Straight}
use Rattle.s390x_inst.specs.Wholes.{as_whole, whole_instruction}
use Rattle.s390x_inst.proofs.Transfers.{Transfer, LoadOf, StoreOf, as_transfer, by_transfer}
use Rattle.s390x_inst.proofs.Wholes.{the_whole}
use Rattle.s390x_inst.specs.Portions.{first_portion}
use Rattle.s390x_assign.specs.Assignments.{portion_at}
use Rattle.s390x_alloc_laws.proofs.Given.{clear, Gives, used_given, defined_given, int_kept, float_kept}
use Rattle.s390x_alloc_laws.proofs.Single.{general1_before, general1, general2, general3, reuse1, reuse2, general1_and, reuse1_and}
use Rattle.s390x_alloc_laws.proofs.Pairs.{products, by_one, by_low, by_pair}
use Rattle.s390x_alloc_laws.proofs.Accesses.{access1, access0, range_access, range_spares, reuse_access, swap_access, change_access}
use Rattle.s390x_alloc_laws.proofs.Vectors.{mixed1, mixed2, mixed3, mixed4, reuse_vector1, reuse_vector2, reuse_vector3, reverse, elements_accessed, lane_accessed, left_accessed, vector_access, reuse_vector_access}
use Rattle.s390x_alloc_laws.proofs.Control.{portion_refusal, unread, branch, table, named}

-- a load: the last clause is a copy for each
load_blames : (P : Place) (op : LoadOp) (rd : Reg) (mem : MemArg) (s s' : List Reg) → MayStand (load_instruction op rd mem) → Gives s s' s s' (items_of (leaf_requests (load_instruction op rd mem))) → portion_refusal P (portion_at (first_portion (load_instruction op rd mem)) s').0 ≡ None →
    IsNotBlamed (portion_refusal P (portion_at (first_portion (load_instruction op rd mem)) s).0)
load_blames P LoadOps.Load64 rd mem s s' m g h = access1 P reported_def defined_given (load_instruction LoadOps.Load64) (λ rd mem. load_memory (record { op = LoadOps.Load64; rd = rd; mem = mem })) (λ q q' x x' v n p k. record { valid = v; general = p; keeps_base = k; reads_none = refl }) (λ a x. (refl, refl)) rd mem s s' m.0 m.1 g h
load_blames P op rd mem s s' m g h = access1 P reported_def defined_given (load_instruction op) (λ rd mem. load_memory (record { op = op; rd = rd; mem = mem })) (λ q q' x x' v n p k. record { valid = v; general = p; keeps_base = k; reads_none = refl }) (λ a x. (refl, refl)) rd mem s s' m.0 m.1 g h

-- a store, likewise
store_blames : (P : Place) (op : StoreOp) (rd : Reg) (mem : MemArg) (s s' : List Reg) → MayStand (store_instruction op rd mem) → Gives s s' s s' (items_of (leaf_requests (store_instruction op rd mem))) → portion_refusal P (portion_at (first_portion (store_instruction op rd mem)) s').0 ≡ None →
    IsNotBlamed (portion_refusal P (portion_at (first_portion (store_instruction op rd mem)) s).0)
store_blames P StoreOps.Store64 rd mem s s' m g h = access1 P reported_use used_given (store_instruction StoreOps.Store64) (λ rd mem. store_memory (record { op = StoreOps.Store64; rd = rd; mem = mem })) (λ q q' x x' v n p k. record { valid = v; general = p; keeps_base = k; reads_none = n }) (λ a x. (refl, refl)) rd mem s s' m.0 m.1 g h
store_blames P op rd mem s s' m g h = access1 P reported_use used_given (store_instruction op) (λ rd mem. store_memory (record { op = op; rd = rd; mem = mem })) (λ q q' x x' v n p k. record { valid = v; general = p; keeps_base = k; reads_none = n }) (λ a x. (refl, refl)) rd mem s s' m.0 m.1 g h

-- a load or a store, or one whose refusal no register changes
transfer_or_unread : (P : Place) (i : Inst) (o : Option Transfer) (s s' : List Reg) → by_transfer (λ l. true ≡ true) (λ t. true ≡ true) (portion_refusal P (portion_at (first_portion i) s).0 ≡ portion_refusal P (portion_at (first_portion i) s').0) o →
    MayStand (by_transfer (λ l. load_instruction l.op l.rd l.mem) (λ t. store_instruction t.op t.rd t.mem) i o) → Gives s s' s s' (items_of (leaf_requests (by_transfer (λ l. load_instruction l.op l.rd l.mem) (λ t. store_instruction t.op t.rd t.mem) i o))) →
    portion_refusal P (portion_at (first_portion (by_transfer (λ l. load_instruction l.op l.rd l.mem) (λ t. store_instruction t.op t.rd t.mem) i o)) s').0 ≡ None → IsNotBlamed (portion_refusal P (portion_at (first_portion (by_transfer (λ l. load_instruction l.op l.rd l.mem) (λ t. store_instruction t.op t.rd t.mem) i o)) s).0)
transfer_or_unread P i None s s' same m g h = unread _ (same ∙ h)
transfer_or_unread P i (Some (LoadOf l)) s s' same m g h = load_blames P l.op l.rd l.mem s s' m g h
transfer_or_unread P i (Some (StoreOf t)) s s' same m g h = store_blames P t.op t.rd t.mem s s' m g h

-- a load or a store of a whole vector register: the clauses without `Straight` are a copy for each other layout
whole_blames : (P : Place) (direction : Direction) (layout : WholeLayout) (rd : Reg) (mem : MemArg) (s s' : List Reg) → MayStand (I.Vector (whole_instruction direction layout rd mem)) → Gives s s' s s' (items_of (leaf_requests (I.Vector (whole_instruction direction layout rd mem)))) → portion_refusal P (portion_at (first_portion (I.Vector (whole_instruction direction layout rd mem))) s').0 ≡ None →
    IsNotBlamed (portion_refusal P (portion_at (first_portion (I.Vector (whole_instruction direction layout rd mem))) s).0)
whole_blames P Load Straight rd mem s s' m g h = vector_access P reported_def defined_given (λ a x. I.Vector (whole_instruction Load Straight a x)) (λ a x. access_elements (layout_rows Straight).load_opcode a (Some (layout_rows Straight).mask) x) (λ a x. elements_accessed (layout_rows Straight).load_opcode a (Some (layout_rows Straight).mask) x) (λ a x. (refl, refl)) rd mem s s' m.1 g h
whole_blames P Load layout rd mem s s' m g h = vector_access P reported_def defined_given (λ a x. I.Vector (whole_instruction Load layout a x)) (λ a x. access_elements (layout_rows layout).load_opcode a (Some (layout_rows layout).mask) x) (λ a x. elements_accessed (layout_rows layout).load_opcode a (Some (layout_rows layout).mask) x) (λ a x. (refl, refl)) rd mem s s' m.1 g h
whole_blames P Store Straight rd mem s s' m g h = vector_access P reported_use used_given (λ a x. I.Vector (whole_instruction Store Straight a x)) (λ a x. access_elements (layout_rows Straight).store_opcode a (Some (layout_rows Straight).mask) x) (λ a x. elements_accessed (layout_rows Straight).store_opcode a (Some (layout_rows Straight).mask) x) (λ a x. (refl, refl)) rd mem s s' m.1 g h
whole_blames P Store layout rd mem s s' m g h = vector_access P reported_use used_given (λ a x. I.Vector (whole_instruction Store layout a x)) (λ a x. access_elements (layout_rows layout).store_opcode a (Some (layout_rows layout).mask) x) (λ a x. elements_accessed (layout_rows layout).store_opcode a (Some (layout_rows layout).mask) x) (λ a x. (refl, refl)) rd mem s s' m.1 g h

-- each instruction, by the shape of its registers; the last two clauses are a copy for each load and store of a vector register, and for each other one and what reads
-- no register
pub blames : (P : Place) (i : Inst) (s s' : List Reg) → MayStand i → Gives s s' s s' (items_of (leaf_requests i)) → portion_refusal P (portion_at (first_portion i) s').0 ≡ None → IsNotBlamed (portion_refusal P (portion_at (first_portion i) s).0)
blames P (I.LoadIndexedAddr rd base index offset size) s s' m g h = general3 P reported_def defined_given (λ rd base index. I.LoadIndexedAddr rd base index offset size) (λ rd base index. indexed_row (indexed_opcode size) (number_of rd) (number_of base) (number_of index) (low_displacement offset)) (λ rd base index. refl) rd base index s s' g h
blames P (I.LoadLogicalIndexedAddr rd base index offset size) s s' m g h = general3 P reported_def defined_given (λ rd base index. I.LoadLogicalIndexedAddr rd base index offset size) (λ rd base index. indexed_row (logical_indexed_opcode size) (number_of rd) (number_of base) (number_of index) (low_displacement offset)) (λ rd base index. refl) rd base index s s' g h
blames P (I.Mov64 rd rm) s s' m g h = general2 P reported_def defined_given I.Mov64 (λ rd rm. two_row (Some opcodes.LGR) (number_of rd) (number_of rm)) (λ rd rm. refl) rd rm s s' g h
blames P (I.Mov32 rd rm) s s' m g h = general2 P reported_def defined_given I.Mov32 (λ rd rm. two_row (Some opcodes.LR) (number_of rd) (number_of rm)) (λ rd rm. refl) rd rm s s' g h
blames P (I.Mov32Imm rd imm) s s' m g h = general1 P reported_def defined_given (λ rd. I.Mov32Imm rd imm) (λ rd. word_row (Some opcodes.IILF) (number_of rd) (low_word (pos imm))) (λ rd. refl) rd s s' g h
blames P (I.Mov32SImm16 rd imm) s s' m g h = general1 P reported_def defined_given (λ rd. I.Mov32SImm16 rd imm) (λ rd. halfword_row (Some opcodes.LHI) (number_of rd) (low_halfword imm)) (λ rd. refl) rd s s' g h
blames P (I.Mov64SImm16 rd imm) s s' m g h = general1 P reported_def defined_given (λ rd. I.Mov64SImm16 rd imm) (λ rd. halfword_row (Some opcodes.LGHI) (number_of rd) (low_halfword imm)) (λ rd. refl) rd s s' g h
blames P (I.Mov64SImm32 rd imm) s s' m g h = general1 P reported_def defined_given (λ rd. I.Mov64SImm32 rd imm) (λ rd. word_row (Some opcodes.LGFI) (number_of rd) (low_word imm)) (λ rd. refl) rd s s' g h
blames P (I.Mov64UImm16Shifted rd imm) s s' m g h = general1 P reported_def defined_given (λ rd. I.Mov64UImm16Shifted rd imm) (λ rd. halfword_row (load_part imm.shift) (number_of rd) (low_halfword (pos imm.bits))) (λ rd. refl) rd s s' g h
blames P (I.Mov64UImm32Shifted rd imm) s s' m g h = general1 P reported_def defined_given (λ rd. I.Mov64UImm32Shifted rd imm) (λ rd. word_row (load_half imm.shift) (number_of rd) (low_word (pos imm.bits))) (λ rd. refl) rd s s' g h
blames P (I.Insert64UImm16Shifted rd ri imm) s s' m g h = reuse1 P (λ rd ri. I.Insert64UImm16Shifted rd ri imm) (λ rd ri. halfword_row (insert_part imm.shift) (number_of rd) (low_halfword (pos imm.bits))) (λ rd ri. refl) rd ri s s' m.0 m.1.0 g h
blames P (I.Insert64UImm32Shifted rd ri imm) s s' m g h = reuse1 P (λ rd ri. I.Insert64UImm32Shifted rd ri imm) (λ rd ri. word_row (insert_half imm.shift) (number_of rd) (low_word (pos imm.bits))) (λ rd ri. refl) rd ri s s' m.0 m.1.0 g h
blames P (I.CMov32 rd mask ri rm) s s' m g h = reuse2 P (λ rd ri rm. I.CMov32 rd mask ri rm) (λ rd ri rm. Some (rrf_cde opcodes.LOCR (number_of rd) (number_of rm) (four_bits mask) 0)) (λ rd ri rm. refl) rd ri rm s s' m.0 m.1.0 g h
blames P (I.CMov64 rd mask ri rm) s s' m g h = reuse2 P (λ rd ri rm. I.CMov64 rd mask ri rm) (λ rd ri rm. Some (rrf_cde opcodes.LOCGR (number_of rd) (number_of rm) (four_bits mask) 0)) (λ rd ri rm. refl) rd ri rm s s' m.0 m.1.0 g h
blames P (I.CMov32SImm16 rd mask ri imm) s s' m g h = reuse1 P (λ rd ri. I.CMov32SImm16 rd mask ri imm) (λ rd ri. Some (rie_g opcodes.LOCHI (number_of rd) (low_halfword imm) (four_bits mask))) (λ rd ri. refl) rd ri s s' m.0 m.1.0 g h
blames P (I.CMov64SImm16 rd mask ri imm) s s' m g h = reuse1 P (λ rd ri. I.CMov64SImm16 rd mask ri imm) (λ rd ri. Some (rie_g opcodes.LOCGHI (number_of rd) (low_halfword imm) (four_bits mask))) (λ rd ri. refl) rd ri s s' m.0 m.1.0 g h
blames P (I.Extend rd rn signed from to) s s' m g h = general2 P reported_def defined_given (λ rd rn. I.Extend rd rn signed from to) (λ rd rn. two_row (extend_two signed from to) (number_of rd) (number_of rn)) (λ rd rn. refl) rd rn s s' g h
blames P (I.AluRRR op rd rn rm) s s' m g h = general3 P reported_def defined_given (I.AluRRR op) (λ rd rn rm. three_row (alu_three op) (alu_two op) (number_of rd) (number_of rn) (number_of rm)) (λ rd rn rm. refl) rd rn rm s s' g h
blames P (I.AluRRSImm16 op rd rn imm) s s' m g h = general2 P reported_def defined_given (λ rd rn. I.AluRRSImm16 op rd rn imm) (λ rd rn. three_halfword_row (alu_three_halfword op) (alu_halfword op) (number_of rd) (number_of rn) (low_halfword imm)) (λ rd rn. refl) rd rn s s' g h
blames P (I.AluRR op rd ri rm) s s' m g h = reuse2 P (I.AluRR op) (λ rd ri rm. two_row (alu_two op) (number_of rd) (number_of rm)) (λ rd ri rm. refl) rd ri rm s s' m.0 m.1.0 g h
blames P (I.AluRSImm16 op rd ri imm) s s' m g h = reuse1 P (λ rd ri. I.AluRSImm16 op rd ri imm) (λ rd ri. halfword_row (alu_halfword op) (number_of rd) (low_halfword imm)) (λ rd ri. refl) rd ri s s' m.0 m.1.0 g h
blames P (I.AluRSImm32 op rd ri imm) s s' m g h = reuse1 P (λ rd ri. I.AluRSImm32 op rd ri imm) (λ rd ri. word_row (alu_signed_word op) (number_of rd) (low_word imm)) (λ rd ri. refl) rd ri s s' m.0 m.1.0 g h
blames P (I.AluRUImm32 op rd ri imm) s s' m g h = reuse1 P (λ rd ri. I.AluRUImm32 op rd ri imm) (λ rd ri. word_row (alu_unsigned_word op) (number_of rd) (low_word (pos imm))) (λ rd ri. refl) rd ri s s' m.0 m.1.0 g h
blames P (I.AluRUImm16Shifted op rd ri imm) s s' m g h = reuse1 P (λ rd ri. I.AluRUImm16Shifted op rd ri imm) (λ rd ri. halfword_row (alu_part op imm.shift) (number_of rd) (low_halfword (pos imm.bits))) (λ rd ri. refl) rd ri s s' m.0 m.1.0 g h
blames P (I.AluRUImm32Shifted op rd ri imm) s s' m g h = reuse1 P (λ rd ri. I.AluRUImm32Shifted op rd ri imm) (λ rd ri. word_row (alu_half op imm.shift) (number_of rd) (low_word (pos imm.bits))) (λ rd ri. refl) rd ri s s' m.0 m.1.0 g h
blames P (I.ShiftRR op rd rn amount register) s s' m g h = general3 P reported_def defined_given (λ rd rn register. I.ShiftRR op rd rn amount register) (λ rd rn register. Some (rsy (shift_opcode op) (number_of rd) (number_of rn) (number_of register) (low_byte amount))) (λ rd rn register. refl) rd rn register s s' g h
blames P (I.RxSBG op rd ri rn start end amount) s s' m g h = reuse2 P (λ rd ri rn. I.RxSBG op rd ri rn start end amount) (λ rd ri rn. rotated_row (Some (rotate_then op)) (number_of rd) (number_of rn) start end start (rotation amount)) (λ rd ri rn. refl) rd ri rn s s' m.0 m.1.0 g h
blames P (I.RxSBGTest op rd rn start end amount) s s' m g h = general2 P reported_use used_given (λ rd rn. I.RxSBGTest op rd rn start end amount) (λ rd rn. rotated_row (rotate_then_test op) (number_of rd) (number_of rn) start end (start + 128) (rotation amount)) (λ rd rn. refl) rd rn s s' g h
blames P (I.UnaryRR op rd rn) s s' m g h = general2 P reported_def defined_given (I.UnaryRR op) (λ rd rn. unary_row op (number_of rd) (number_of rn)) (λ rd rn. refl) rd rn s s' g h
blames P (I.CmpRR op rn rm) s s' m g h = general2 P reported_use used_given (I.CmpRR op) (λ rn rm. two_row (cmp_two op) (number_of rn) (number_of rm)) (λ rn rm. refl) rn rm s s' g h
blames P (I.CmpRSImm16 op rn imm) s s' m g h = general1 P reported_use used_given (λ rn. I.CmpRSImm16 op rn imm) (λ rn. halfword_row (cmp_halfword op) (number_of rn) (low_halfword imm)) (λ rn. refl) rn s s' g h
blames P (I.CmpRSImm32 op rn imm) s s' m g h = general1 P reported_use used_given (λ rn. I.CmpRSImm32 op rn imm) (λ rn. word_row (cmp_signed_word op) (number_of rn) (low_word imm)) (λ rn. refl) rn s s' g h
blames P (I.CmpRUImm32 op rn imm) s s' m g h = general1 P reported_use used_given (λ rn. I.CmpRUImm32 op rn imm) (λ rn. word_row (cmp_unsigned_word op) (number_of rn) (low_word (pos imm))) (λ rn. refl) rn s s' g h
blames P (I.CmpTrapRR op rn rm mask code) s s' m g h = general2 P reported_use used_given (λ rn rm. I.CmpTrapRR op rn rm mask code) (λ rn rm. masked_row (cmp_trap op) (number_of rn) (number_of rm) (four_bits mask)) (λ rn rm. refl) rn rm s s' g h
blames P (I.CmpTrapRSImm16 op rn imm mask code) s s' m g h = general1 P reported_use used_given (λ rn. I.CmpTrapRSImm16 op rn imm mask code) (λ rn. masked_halfword_row (cmp_trap_signed op) (number_of rn) (low_halfword imm) (four_bits mask)) (λ rn. refl) rn s s' g h
blames P (I.CmpTrapRUImm16 op rn imm mask code) s s' m g h = general1 P reported_use used_given (λ rn. I.CmpTrapRUImm16 op rn imm mask code) (λ rn. masked_halfword_row (cmp_trap_unsigned op) (number_of rn) (low_halfword (pos imm)) (four_bits mask)) (λ rn. refl) rn s s' g h
blames P (I.LoadAR rd ar) s s' m g h = general1_and P reported_def defined_given (λ d. I.LoadAR d ar) (is_access ar) (λ d. two_row (Some opcodes.EAR) (number_of d) (four_bits ar)) (λ d. refl) rd [] s s' g h
blames P (I.InsertAR rd ri ar) s s' m g h = reuse1_and P (λ d i. I.InsertAR d i ar) (is_access ar) (λ d i. two_row (Some opcodes.EAR) (number_of d) (four_bits ar)) (λ d i. refl) rd ri s s' m.0 m.1.0 g h
blames P (I.MovPReg rd rm) s s' m g h = general1_and P reported_def defined_given (λ d. I.MovPReg d rm) (is_general (Real rm)) (λ d. two_row (Some opcodes.LGR) (number_of d) (number_of (Real rm))) (λ d. refl) rd (Some (Fixed rm) ∷ []) s s' g h
blames P (I.SMulWide rd rn rm) s s' m g h = products P rd rn rm s s' g h
blames P (I.Flogr rd rn) s s' m g h = by_one P I.Flogr (λ d n. Some (rre opcodes.FLOGR (number_of d.hi) (number_of n))) (λ d n. refl) rd rn s s' g h
blames P (I.UMulWide rd ri rn) s s' m g h = by_low P I.UMulWide (λ d i n. Some (rre opcodes.MLGR (number_of d.hi) (number_of n))) (λ d i n. refl) rd ri rn s s' g h
blames P (I.SDivMod32 rd ri rn) s s' m g h = by_low P I.SDivMod32 (λ d i n. Some (rre opcodes.DSGFR (number_of d.hi) (number_of n))) (λ d i n. refl) rd ri rn s s' g h
blames P (I.SDivMod64 rd ri rn) s s' m g h = by_low P I.SDivMod64 (λ d i n. Some (rre opcodes.DSGR (number_of d.hi) (number_of n))) (λ d i n. refl) rd ri rn s s' g h
blames P (I.UDivMod32 rd ri rn) s s' m g h = by_pair P I.UDivMod32 (λ d i n. Some (rre opcodes.DLR (number_of d.hi) (number_of n))) (λ d i n. refl) rd ri rn s s' g h
blames P (I.UDivMod64 rd ri rn) s s' m g h = by_pair P I.UDivMod64 (λ d i n. Some (rre opcodes.DLGR (number_of d.hi) (number_of n))) (λ d i n. refl) rd ri rn s s' g h
blames P (I.Vector (V.VecRRR op rd rn rm)) s s' m g h = mixed3 P reported_def defined_given (λ rd rn rm. I.Vector (V.VecRRR op rd rn rm)) is_vector is_vector is_vector float_kept float_kept float_kept (λ rd rn rm. vector_row (V.VecRRR op rd rn rm)) (λ rd rn rm. refl) rd rn rm s s' g h
blames P (I.Vector (V.VecRR op rd rn)) s s' m g h = mixed2 P reported_def defined_given (λ rd rn. I.Vector (V.VecRR op rd rn)) is_vector is_vector float_kept float_kept (λ rd rn. vector_row (V.VecRR op rd rn)) (λ rd rn. refl) rd rn s s' g h
blames P (I.Vector (V.VecShiftRR op rd rn amount register)) s s' m g h = mixed3 P reported_def defined_given (λ rd rn register. I.Vector (V.VecShiftRR op rd rn amount register)) is_vector is_vector is_general float_kept float_kept int_kept (λ rd rn register. vector_row (V.VecShiftRR op rd rn amount register)) (λ rd rn register. refl) rd rn register s s' g h
blames P (I.Vector (V.VecSelect rd rn rm ra)) s s' m g h = mixed4 P reported_def defined_given (λ rd rn rm ra. I.Vector (V.VecSelect rd rn rm ra)) is_vector is_vector is_vector is_vector float_kept float_kept float_kept float_kept (λ rd rn rm ra. vector_row (V.VecSelect rd rn rm ra)) (λ rd rn rm ra. refl) rd rn rm ra s s' g h
blames P (I.Vector (V.VecPermute rd rn rm ra)) s s' m g h = mixed4 P reported_def defined_given (λ rd rn rm ra. I.Vector (V.VecPermute rd rn rm ra)) is_vector is_vector is_vector is_vector float_kept float_kept float_kept float_kept (λ rd rn rm ra. vector_row (V.VecPermute rd rn rm ra)) (λ rd rn rm ra. refl) rd rn rm ra s s' g h
blames P (I.Vector (V.VecBlend rd rn rm ra)) s s' m g h = mixed4 P reported_def defined_given (λ rd rn rm ra. I.Vector (V.VecBlend rd rn rm ra)) is_vector is_vector is_vector is_vector float_kept float_kept float_kept float_kept (λ rd rn rm ra. vector_row (V.VecBlend rd rn rm ra)) (λ rd rn rm ra. refl) rd rn rm ra s s' g h
blames P (I.Vector (V.VecEvaluate imm rd rn rm ra)) s s' m g h = mixed4 P reported_def defined_given (λ rd rn rm ra. I.Vector (V.VecEvaluate imm rd rn rm ra)) is_vector is_vector is_vector is_vector float_kept float_kept float_kept float_kept (λ rd rn rm ra. vector_row (V.VecEvaluate imm rd rn rm ra)) (λ rd rn rm ra. refl) rd rn rm ra s s' g h
blames P (I.Vector (V.VecPermuteDWImm rd rn rm first second)) s s' m g h = mixed3 P reported_def defined_given (λ rd rn rm. I.Vector (V.VecPermuteDWImm rd rn rm first second)) is_vector is_vector is_vector float_kept float_kept float_kept (λ rd rn rm. vector_row (V.VecPermuteDWImm rd rn rm first second)) (λ rd rn rm. refl) rd rn rm s s' g h
blames P (I.Vector (V.VecIntCmp op rd rn rm)) s s' m g h = mixed3 P reported_def defined_given (λ rd rn rm. I.Vector (V.VecIntCmp op rd rn rm)) is_vector is_vector is_vector float_kept float_kept float_kept (λ rd rn rm. vector_row (V.VecIntCmp op rd rn rm)) (λ rd rn rm. refl) rd rn rm s s' g h
blames P (I.Vector (V.VecIntCmpS op rd rn rm)) s s' m g h = mixed3 P reported_def defined_given (λ rd rn rm. I.Vector (V.VecIntCmpS op rd rn rm)) is_vector is_vector is_vector float_kept float_kept float_kept (λ rd rn rm. vector_row (V.VecIntCmpS op rd rn rm)) (λ rd rn rm. refl) rd rn rm s s' g h
blames P (I.Vector (V.VecIntEltCmp op rn rm)) s s' m g h = mixed2 P reported_use used_given (λ rn rm. I.Vector (V.VecIntEltCmp op rn rm)) is_vector is_vector float_kept float_kept (λ rn rm. vector_row (V.VecIntEltCmp op rn rm)) (λ rn rm. refl) rn rm s s' g h
blames P (I.Vector (V.VecMov rd rn)) s s' m g h = mixed2 P reported_def defined_given (λ rd rn. I.Vector (V.VecMov rd rn)) is_vector is_vector float_kept float_kept (λ rd rn. vector_row (V.VecMov rd rn)) (λ rd rn. refl) rd rn s s' g h
blames P (I.Vector (V.FpuMove32 rd rn)) s s' m g h = mixed2 P reported_def defined_given (λ rd rn. I.Vector (V.FpuMove32 rd rn)) is_vector is_vector float_kept float_kept (λ rd rn. vector_row (V.FpuMove32 rd rn)) (λ rd rn. refl) rd rn s s' g h
blames P (I.Vector (V.FpuMove64 rd rn)) s s' m g h = mixed2 P reported_def defined_given (λ rd rn. I.Vector (V.FpuMove64 rd rn)) is_vector is_vector float_kept float_kept (λ rd rn. vector_row (V.FpuMove64 rd rn)) (λ rd rn. refl) rd rn s s' g h
blames P (I.Vector (V.MovToVec128 rd rn rm)) s s' m g h = mixed3 P reported_def defined_given (λ rd rn rm. I.Vector (V.MovToVec128 rd rn rm)) is_vector is_general is_general float_kept int_kept int_kept (λ rd rn rm. vector_row (V.MovToVec128 rd rn rm)) (λ rd rn rm. refl) rd rn rm s s' g h
blames P (I.Vector (V.VecImmByteMask rd mask)) s s' m g h = mixed1 P reported_def defined_given (λ rd. I.Vector (V.VecImmByteMask rd mask)) is_vector float_kept (λ rd. vector_row (V.VecImmByteMask rd mask)) (λ rd. refl) rd s s' g h
blames P (I.Vector (V.VecImmBitMask size rd start end)) s s' m g h = mixed1 P reported_def defined_given (λ rd. I.Vector (V.VecImmBitMask size rd start end)) is_vector float_kept (λ rd. vector_row (V.VecImmBitMask size rd start end)) (λ rd. refl) rd s s' g h
blames P (I.Vector (V.VecImmReplicate size rd imm)) s s' m g h = mixed1 P reported_def defined_given (λ rd. I.Vector (V.VecImmReplicate size rd imm)) is_vector float_kept (λ rd. vector_row (V.VecImmReplicate size rd imm)) (λ rd. refl) rd s s' g h
blames P (I.Vector (V.VecInsertLaneUndef size rd rn lane base)) s s' m g h = mixed3 P reported_def defined_given (λ rd rn base. I.Vector (V.VecInsertLaneUndef size rd rn lane base)) is_vector is_general is_general float_kept int_kept int_kept (λ rd rn base. vector_row (V.VecInsertLaneUndef size rd rn lane base)) (λ rd rn base. refl) rd rn base s s' g h
blames P (I.Vector (V.VecExtractLane size rd rn lane base)) s s' m g h = mixed3 P reported_def defined_given (λ rd rn base. I.Vector (V.VecExtractLane size rd rn lane base)) is_general is_vector is_general int_kept float_kept int_kept (λ rd rn base. vector_row (V.VecExtractLane size rd rn lane base)) (λ rd rn base. refl) rd rn base s s' g h
blames P (I.Vector (V.VecInsertLaneImmUndef size rd imm lane)) s s' m g h = mixed1 P reported_def defined_given (λ rd. I.Vector (V.VecInsertLaneImmUndef size rd imm lane)) is_vector float_kept (λ rd. vector_row (V.VecInsertLaneImmUndef size rd imm lane)) (λ rd. refl) rd s s' g h
blames P (I.Vector (V.VecReplicateLane size rd rn lane)) s s' m g h = mixed2 P reported_def defined_given (λ rd rn. I.Vector (V.VecReplicateLane size rd rn lane)) is_vector is_vector float_kept float_kept (λ rd rn. vector_row (V.VecReplicateLane size rd rn lane)) (λ rd rn. refl) rd rn s s' g h
blames P (I.AluRX op rd ri mem) s s' m g h = reuse_access P (I.AluRX op) (is_some (alu_rx op) || is_some (alu_rxy op)) (alu_rx op) (alu_rxy op) (λ d i x. (refl, refl)) rd ri mem s s' m.0 m.1.0 m.1.1.0 g h
blames P (I.AtomicCas32 rd ri rn mem) s s' m g h = swap_access P I.AtomicCas32 (Some opcodes.CS) opcodes.CSY (λ d i n x. (refl, refl)) rd ri rn mem s s' m.0 m.1.0 m.1.1.0 m.1.1.1.0 g h
blames P (I.AtomicCas64 rd ri rn mem) s s' m g h = swap_access P I.AtomicCas64 None opcodes.CSG (λ d i n x. (refl, refl)) rd ri rn mem s s' m.0 m.1.0 m.1.1.0 m.1.1.1.0 g h
blames P (I.CmpRX op rn mem) s s' m g h = access1 P reported_use used_given (I.CmpRX op) (λ rn mem. compare rn (cmp_rx op) (cmp_rxy op) (cmp_ril op) mem) (λ q q' x x' v n p k. record { valid = v; general = p; keeps_base = k; reads_none = n }) (λ a x. (refl, refl)) rn mem s s' m.0 m.1.0 g h
blames P (I.StoreImm8 imm mem) s s' m g h = access0 P (I.StoreImm8 imm) (λ mem. store_immediate (SiForm (low_byte imm) opcodes.MVI opcodes.MVIY) mem) (λ x x' p k. record { valid = λ z. z; general = p; keeps_base = k; reads_none = refl }) (λ x. (refl, refl)) mem s s' m.0 g h
blames P (I.StoreImm16 imm mem) s s' m g h = access0 P (I.StoreImm16 imm) (λ mem. store_immediate (SilForm (low_halfword imm) opcodes.MVHHI) mem) (λ x x' p k. record { valid = λ z. z; general = p; keeps_base = k; reads_none = refl }) (λ x. (refl, refl)) mem s s' m.0 g h
blames P (I.StoreImm32SExt16 imm mem) s s' m g h = access0 P (I.StoreImm32SExt16 imm) (λ mem. store_immediate (SilForm (low_halfword imm) opcodes.MVHI) mem) (λ x x' p k. record { valid = λ z. z; general = p; keeps_base = k; reads_none = refl }) (λ x. (refl, refl)) mem s s' m.0 g h
blames P (I.StoreImm64SExt16 imm mem) s s' m g h = access0 P (I.StoreImm64SExt16 imm) (λ mem. store_immediate (SilForm (low_halfword imm) opcodes.MVGHI) mem) (λ x x' p k. record { valid = λ z. z; general = p; keeps_base = k; reads_none = refl }) (λ x. (refl, refl)) mem s s' m.0 g h
blames P (I.LoadAddr rd mem) s s' m g h = access1 P reported_def defined_given I.LoadAddr (λ rd mem. Some (record { form = address_form rd; operand = mem; accesses = false; operands_valid = is_general rd; reads_scratch = false })) (λ q q' x x' v n p k. record { valid = v; general = p; keeps_base = k; reads_none = refl }) (λ a x. (refl, refl)) rd mem s s' m.0 m.1.0 g h
blames P (I.LoadMultiple64 rt rt2 mem) s s' m g h = range_access P (I.LoadMultiple64 rt rt2) rt rt2 opcodes.LMG false refl (λ x. (refl, refl)) mem s s' m.1 g h
blames P (I.StoreMultiple64 rt rt2 mem) s s' m g h = range_access P (I.StoreMultiple64 rt rt2) rt rt2 opcodes.STMG (holds_scratch rt rt2) (range_spares rt rt2 m.0) (λ x. (refl, refl)) mem s s' m.1 g h
blames P (I.AtomicRmw op rd rn mem) s s' m g h = change_access P (I.AtomicRmw op) (atomic_rsy op) (λ d n x. (refl, refl)) rd rn mem s s' m.1.0 m.1.1.0 g h
blames P (I.IndirectBr rn targets) s s' m g h = branch P rn targets.items s s' m g h
blames P (I.JTSequence ridx other mask targets) s s' m g h = table P ridx other mask targets.items s s' m g h
blames P (I.LoadSymbolReloc rd reloc) s s' m g h = general1_before P reported_def defined_given (λ d. I.LoadSymbolReloc d reloc) (λ d. two_row (Some opcodes.LGR) (number_of d) 0) (λ d. refl) rd (scratch_request ∷ []) s s' g h
blames P (I.LabelAddress dst label) s s' m g h = named P.declared.blocks dst label s s' g h
blames P (I.Args args) s s' m g h = clear
blames P (I.Rets rets) s s' m g h = clear
blames P (I.Vector (V.VecInsertLane size rd ri rn lane base)) s s' m g h = reuse_vector3 P (λ d i n b. I.Vector (V.VecInsertLane size d i n lane b)) (λ d i n b. vector_row (V.VecInsertLane size d i n lane b)) (λ d i n b. refl) rd ri rn base s s' m.0 m.1 g h
blames P (I.Vector (V.VecInsertLaneImm size rd ri imm lane)) s s' m g h = reuse_vector1 P (λ d i. I.Vector (V.VecInsertLaneImm size d i imm lane)) (λ d i. vector_row (V.VecInsertLaneImm size d i imm lane)) (λ d i. refl) rd ri s s' m.0 m.1.0 g h
blames P (I.Vector (V.FpuCMov32 rd mask ri rm)) s s' m g h = reuse_vector2 P (λ d i n. I.Vector (V.FpuCMov32 d mask i n)) (λ d i n. Some (move_left_row opcodes.LER (number_of d) (number_of n))) (λ d i n. refl) rd ri rm s s' m.0 m.1.0 g h
blames P (I.Vector (V.FpuCMov64 rd mask ri rm)) s s' m g h = reuse_vector2 P (λ d i n. I.Vector (V.FpuCMov64 d mask i n)) (λ d i n. Some (move_left_row opcodes.LDR (number_of d) (number_of n))) (λ d i n. refl) rd ri rm s s' m.0 m.1.0 g h
blames P (I.Vector (V.VecCMov rd mask ri rm)) s s' m g h = reuse_vector2 P (λ d i n. I.Vector (V.VecCMov d mask i n)) (λ d i n. Some (vrr_a opcodes.VLR (number_of d) (number_of n) 0)) (λ d i n. refl) rd ri rm s s' m.0 m.1.0 g h
blames P (I.Vector (V.VecEltRev count rd rn)) s s' m g h = reverse P count rd rn s s' g h
blames P (I.Vector (V.VecInt128SCmpHi tmp rn rm)) s s' m g h = mixed3 P reported_def defined_given (λ d n m. I.Vector (V.VecInt128SCmpHi d n m)) is_vector is_vector is_vector float_kept float_kept float_kept (λ d n m. Some (vrr_a opcodes.VEC (number_of m) (number_of n) 3)) (λ d n m. refl) tmp rn rm s s' g h
blames P (I.Vector (V.VecInt128UCmpHi tmp rn rm)) s s' m g h = mixed3 P reported_def defined_given (λ d n m. I.Vector (V.VecInt128UCmpHi d n m)) is_vector is_vector is_vector float_kept float_kept float_kept (λ d n m. Some (vrr_a opcodes.VECL (number_of m) (number_of n) 3)) (λ d n m. refl) tmp rn rm s s' g h
blames P (I.Vector (V.VecLoadReplicate size rd mem)) s s' m g h = vector_access P reported_def defined_given (λ a x. I.Vector (V.VecLoadReplicate size a x)) (λ a x. access_elements opcodes.VLREP a (element_code size) x) (λ a x. elements_accessed opcodes.VLREP a (element_code size) x) (λ a x. (refl, refl)) rd mem s s' m.1.0 g h
blames P (I.Vector (V.VecLoadReplicateRev size rd mem)) s s' m g h = vector_access P reported_def defined_given (λ a x. I.Vector (V.VecLoadReplicateRev size a x)) (λ a x. access_elements opcodes.VLBRREP a (reversed_code size) x) (λ a x. elements_accessed opcodes.VLBRREP a (reversed_code size) x) (λ a x. (refl, refl)) rd mem s s' m.1.0 g h
blames P (I.Vector (V.VecLoadLane size rd ri mem lane)) s s' m g h = reuse_vector_access P (λ d i x. I.Vector (V.VecLoadLane size d i x lane)) (λ d i x. vector_memory (V.VecLoadLane size d i x lane)) (λ d i x. lane_accessed (reuses_vector d i) (λ c. load_lane_opcode c) (number_of d) (element_code size) size lane x) (λ d i x. (refl, refl)) rd ri mem s s' m.0 m.1.0 m.1.1.0 g h
blames P (I.Vector (V.VecLoadLaneRev size rd ri mem lane)) s s' m g h = reuse_vector_access P (λ d i x. I.Vector (V.VecLoadLaneRev size d i x lane)) (λ d i x. vector_memory (V.VecLoadLaneRev size d i x lane)) (λ d i x. lane_accessed (reuses_vector d i) (λ c. load_reversed_opcode c) (number_of d) (reversed_code size) size lane x) (λ d i x. (refl, refl)) rd ri mem s s' m.0 m.1.0 m.1.1.0 g h
blames P (I.Vector (V.VecLoadLaneUndef size rd mem lane)) s s' m g h = vector_access P reported_def defined_given (λ a x. I.Vector (V.VecLoadLaneUndef size a x lane)) (λ a x. vector_memory (V.VecLoadLaneUndef size a x lane)) (λ a x. left_accessed (λ z r. load_left z r) (λ c. load_lane_opcode c) a size lane x) (λ a x. (refl, refl)) rd mem s s' m.1.0 g h
blames P (I.Vector (V.VecStoreLane size rd mem lane)) s s' m g h = vector_access P reported_use used_given (λ a x. I.Vector (V.VecStoreLane size a x lane)) (λ a x. vector_memory (V.VecStoreLane size a x lane)) (λ a x. left_accessed (λ z r. store_left z r) (λ c. store_lane_opcode c) a size lane x) (λ a x. (refl, refl)) rd mem s s' m.1.0 g h
blames P (I.Vector (V.VecLoadLaneRevUndef size rd mem lane)) s s' m g h = vector_access P reported_def defined_given (λ a x. I.Vector (V.VecLoadLaneRevUndef size a x lane)) (λ a x. vector_memory (V.VecLoadLaneRevUndef size a x lane)) (λ a x. lane_accessed (is_vector a) (λ c. load_reversed_opcode c) (number_of a) (reversed_code size) size lane x) (λ a x. (refl, refl)) rd mem s s' m.1.0 g h
blames P (I.Vector (V.VecStoreLaneRev size rd mem lane)) s s' m g h = vector_access P reported_use used_given (λ a x. I.Vector (V.VecStoreLaneRev size a x lane)) (λ a x. vector_memory (V.VecStoreLaneRev size a x lane)) (λ a x. lane_accessed (is_vector a) (λ c. store_reversed_opcode c) (number_of a) (reversed_code size) size lane x) (λ a x. (refl, refl)) rd mem s s' m.1.0 g h
blames P (I.Loop' mask body all) s s' m g h = absurd m
blames P (I.Call link info) s s' m g h = absurd m
blames P (I.ReturnCall info) s s' m g h = absurd m
blames P (I.Ret link) s s' m g h = absurd m
blames P (I.AllocateArgs size) s s' m g h = absurd m
blames P (I.Vector v) s s' m g h = let w : WholeAccess = the_whole (as_whole v) refl in whole_blames P w.direction w.layout w.rd w.mem s s' m g h
blames P i s s' m g h = transfer_or_unread P i (as_transfer i) s s' refl m g h
