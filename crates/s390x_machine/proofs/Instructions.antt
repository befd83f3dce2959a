-- Each built step runs as its typed step, and so every run is allowed.
use Rattle.std.proofs.Common.{◌≡◌, ℕ, suc, [], ◌∷◌, Some, None, true, false, ◌&&◌, ◌||◌, is_some, refl, sym, ap, subst, arith, slice_get, pos, ◌*◌}
use Rattle.std.proofs.lemmas.Bool.{and_parts}
use Rattle.s390x_base.specs.Regs.{number_of}
use Rattle.s390x_base.specs.declared.regs.Reg.TheVariants.{Real}
use Rattle.s390x_inst.specs.declared.ops.UnaryOp.TheVariants as U
use Rattle.s390x_base.specs.declared.regs.Reg.{Reg}
use Rattle.s390x_inst.specs.declared.args.MemArg.{MemArg}
use Rattle.s390x_inst.specs.declared.load.LoadOp.{LoadOp}
use Rattle.s390x_inst.specs.declared.load.LoadOp.TheVariants as LoadOps
use Rattle.s390x_inst.specs.Loads.{load_instruction}
use Rattle.s390x_inst.specs.declared.store.StoreOp.{StoreOp}
use Rattle.s390x_inst.specs.declared.store.StoreOp.TheVariants as StoreOps
use Rattle.s390x_inst.specs.Stores.{store_instruction}
use Rattle.s390x_inst.proofs.Transfers.{Transfer, LoadOf, StoreOf, as_transfer, transfer_instruction, the_transfer}
use Rattle.s390x_inst.specs.declared.inst.Inst.{Inst}
use Rattle.s390x_inst.specs.declared.inst.Inst.TheVariants as I
use Rattle.s390x_format.specs.Formats.{length_of}
use Rattle.s390x_format.specs.declared.kind.FormatKind.TheVariants.{Rr}
use Rattle.s390x_rows.specs.declared.opcodes.TheConstants as opcodes
use Rattle.s390x_typed_steps.specs.General.{is_general, reuses, reuses_pair, low_halfword, low_word, four_bits, low_displacement, is_access}
use Rattle.s390x_typed_steps.specs.Opcodes.{alu_two, cmp_two, unary_two, alu_halfword, alu_three_halfword, alu_signed_word, alu_unsigned_word, cmp_halfword, cmp_trap, cmp_trap_signed, cmp_trap_unsigned, cmp_signed_word, cmp_unsigned_word, alu_part, alu_half, load_part, load_half, insert_part, extend_two, indexed_opcode, logical_indexed_opcode}
use Rattle.s390x_typed_steps.specs.StepBody.{AtCall}
use Rattle.s390x_typed_steps.specs.Steps.{Step, Plain, LoadedStep, Shortened, Opening, Back, Break, CallingStep, NoLoadStep, TailOpeningStep, TailJumpStep}
use Rattle.s390x_operations.specs.declared.effect.CodeRule.TheVariants.{Kept, Set}
use Rattle.s390x_operations.specs.declared.size.Size.TheVariants.{Word, Doubleword}
use Rattle.s390x_operations.specs.declared.size.Width.TheVariants.{Bits16, Bits32, Bits64}
use Rattle.s390x_operations.specs.declared.operator.SelectedBitsOperator.TheVariants as Select
use Rattle.s390x_operations.specs.declared.operator.Operator.TheVariants.{Move, SelectedBits}
use Rattle.s390x_format.specs.declared.semantics.RowSemantics.TheVariants.{DivideSigned, DivideLogical}
use Rattle.s390x_machine.specs.Computations.{alu_computation, alu_two_rule, unary_computation, unary_rule, comparison, on_words, on_doublewords, unsigned_word, signed_word, signed_halfword, on_immediate, compares_on_immediate, doubleword, part_mask, half_mask, part_operator, extension, divides_signed, divides_logical}
use Rattle.s390x_machine.specs.Typed.{kind_of_step}
use Rattle.s390x_machine.specs.Match.{EveryRunFrom, EveryRun, EveryReturnRun, EveryBlockRun}
use Rattle.s390x_machine.specs.OneStep.{StepRuns, StepHolds}
use Rattle.s390x_machine.specs.Layout.{Layout}
use Rattle.s390x_machine.specs.CodeAt.{AllCodeAt, IsBlock, IsValidInstruction, IsValidStep}
use Rattle.s390x_machine.proofs.Standing.{block_at, step_at}
use Rattle.s390x_machine.proofs.Operands.{halfword_bits, word_bits, displacement_bits}
use Rattle.s390x_machine.proofs.Rows.{general_number, nonzero_number, unscratched_number}
use Rattle.s390x_machine.proofs.Bits.{part_rows, half_rows, load_part_rows, load_half_rows, insert_part_rows, extend_rows, locr_row, locgr_row, lochi_row, locghi_row, indexed_rows, logical_indexed_rows, dsgfr_row, dsgr_row, dlr_row, dlgr_row, trap_rows, trap_signed_rows, trap_unsigned_rows}
use Rattle.s390x_machine.proofs.SingleInstruction.{alu_two_rows, cmp_rows, unary_rows, lgr_row, lr_row, halfword_rows, three_halfword_rows, signed_word_rows, unsigned_word_rows, cmp_halfword_rows, cmp_signed_word_rows, cmp_unsigned_word_rows, iilf_row, lhi_row, lghi_row, lgfi_row}
use Rattle.s390x_typed_steps.specs.Memory.{load_rows, store_rows}
use Rattle.s390x_typed_steps.specs.Storage.{alu_rx, alu_rxy, cmp_rx, cmp_rxy, cmp_ril, atomic_rsy}
use Rattle.s390x_machine.specs.Storage.{loaded_value, stored_value, based_forms, alu_forms, cmp_forms}
use Rattle.s390x_machine.proofs.RelativeRows.{relative_load_rows, relative_store_rows, cmp_relative_rows}
use Rattle.s390x_machine.proofs.StorageRows.{load_indexed_rows, store_indexed_rows, store_immediate_16, store_immediate_32, store_immediate_64, swap_32, swap_64, alu_same, cmp_same, alu_short_rows, alu_long_rows, cmp_short_rows, cmp_long_rows, atomic_rows}
use Rattle.s390x_machine.proofs.StorageSteps.{loads, loads_an_address, stores, stores_a_byte, stores_an_immediate, loads_registers, stores_registers, computes_in_memory, compares_in_memory, operates, swaps}
use Rattle.s390x_machine.proofs.LoadedSteps.{loaded_runs}
use Rattle.s390x_machine.proofs.Branches.{returns_runs, address_runs}
use Rattle.s390x_machine.proofs.Calls.{calling_runs, tail_jump_runs, returns_to}
use Rattle.s390x_machine.proofs.Induction.{trace_of, one_step}
use Rattle.s390x_machine.proofs.Built.{StepAt}
use Rattle.s390x_machine.proofs.Folded.{shortened_runs}
use Rattle.s390x_machine.proofs.OnRegisters.{computes_two, compares_two, copies_runs, alu_three_runs, move_where_runs, move_immediate_where_runs, signed_runs, logical_runs, leftmost_runs, count_runs, any_runs}
use Rattle.s390x_machine.proofs.OnImmediates.{one_of_halfword, one_of_word, compare_of_halfword, compare_of_word, three_halfword_runs, placed_halfword, placed_word, inserted_half, allocate_runs}
use Rattle.s390x_machine.proofs.Rotating.{shift_runs, rotate_runs, test_runs}
use Rattle.s390x_machine.proofs.StoppingSteps.{signed_coded, logical_coded, divide_runs, compare_trap_runs, compare_immediate_trap_runs, always_traps, traps_where, debug_stops}
use Rattle.s390x_machine.proofs.VectorComposites.{any_vector_runs}
use Rattle.s390x_machine.proofs.Leading.{register_row, fence_runs, idle_runs, goto_runs, condbr_runs, label_runs, jump_by_table_runs, load_symbol_runs, loop_runs, opening_runs}
use Rattle.s390x_machine.proofs.RegisterNumbers.{two_small, three_small, reused_small, output_small, mask_bits, access_small, pair_small, pair_small2, pair_tested_small, small_mask}

-- ---- loads and stores

-- the last clause is a copy for each
load_runs : (L : Layout) (k : ℕ) (op : LoadOp) (rd : Reg) (mem : MemArg) → StepAt L k (Plain (load_instruction op rd mem)) → IsValidInstruction L (load_instruction op rd mem) → StepRuns L k
load_runs L k LoadOps.Load64 rd mem b operands_valid = loads b (loaded_value LoadOps.Load64).size (loaded_value LoadOps.Load64).second (load_rows LoadOps.Load64).rx (load_rows LoadOps.Load64).rxy (load_rows LoadOps.Load64).ril (load_indexed_rows LoadOps.Load64) (relative_load_rows LoadOps.Load64) rd mem (loaded_value LoadOps.Load64).forms (refl, refl, refl, operands_valid)
load_runs L k op rd mem b operands_valid = loads b (loaded_value op).size (loaded_value op).second (load_rows op).rx (load_rows op).rxy (load_rows op).ril (load_indexed_rows op) (relative_load_rows op) rd mem (loaded_value op).forms (refl, refl, refl, operands_valid)

-- a store, likewise
store_runs : (L : Layout) (k : ℕ) (op : StoreOp) (rd : Reg) (mem : MemArg) → StepAt L k (Plain (store_instruction op rd mem)) → IsValidInstruction L (store_instruction op rd mem) → StepRuns L k
store_runs L k StoreOps.Store64 rd mem b operands_valid =
    stores b (stored_value StoreOps.Store64).second (store_rows StoreOps.Store64).rx (store_rows StoreOps.Store64).rxy (store_rows StoreOps.Store64).ril (store_indexed_rows StoreOps.Store64) (relative_store_rows StoreOps.Store64) rd mem (stored_value StoreOps.Store64).forms (refl, refl, refl, operands_valid)
store_runs L k op rd mem b operands_valid = stores b (stored_value op).second (store_rows op).rx (store_rows op).rxy (store_rows op).ril (store_indexed_rows op) (relative_store_rows op) rd mem (stored_value op).forms (refl, refl, refl, operands_valid)

transfer_runs : (L : Layout) (k : ℕ) (t : Transfer) → StepAt L k (Plain (transfer_instruction t)) → IsValidInstruction L (transfer_instruction t) → StepRuns L k
transfer_runs L k (LoadOf l) b operands_valid = load_runs L k l.op l.rd l.mem b operands_valid
transfer_runs L k (StoreOf s) b operands_valid = store_runs L k s.op s.rd s.mem b operands_valid

-- ---- all of them

-- the last clause is a copy for each load
instruction_runs : (L : Layout) (k : ℕ) (i : Inst) → StepAt L k (Plain i) → IsValidInstruction L i → StepRuns L k
instruction_runs L k (I.AluRRR op rd rn rm) b operands_valid = alu_three_runs b op (number_of rd) (number_of rn) (number_of rm) (is_general rd && is_general rn && is_general rm) (refl, refl, operands_valid) (three_small rd rn rm)
instruction_runs L k (I.AluRR op rd ri rm) b operands_valid = computes_two b (reuses rd ri && is_general rm) (alu_two op) (alu_computation op) (alu_two_rule op) (alu_two_rows op) (number_of rd) (number_of rm) (refl, refl, operands_valid) (reused_small rd ri rm)
instruction_runs L k (I.UnaryRR U.PopcntByte rd rn) b operands_valid = count_runs b 0 (omega arith) refl (number_of rd) (number_of rn) (refl, refl) (two_small rd rn operands_valid)
instruction_runs L k (I.UnaryRR U.PopcntReg rd rn) b operands_valid = count_runs b 8 (omega arith) refl (number_of rd) (number_of rn) (refl, refl) (two_small rd rn operands_valid)
instruction_runs L k (I.UnaryRR op rd rn) b operands_valid = computes_two b (is_general rd && is_general rn) (unary_two op) (unary_computation op) (unary_rule op) (unary_rows op) (number_of rd) (number_of rn) (refl, refl, operands_valid) (two_small rd rn)
instruction_runs L k (I.CmpRR op rn rm) b operands_valid = compares_two b (is_general rn && is_general rm) (cmp_two op) (comparison op) (cmp_rows op) (number_of rn) (number_of rm) (refl, refl, operands_valid) (two_small rn rm)
instruction_runs L k (I.Mov64 rd rm) b operands_valid = computes_two b (is_general rd && is_general rm) (Some opcodes.LGR) (on_doublewords Move) Kept lgr_row (number_of rd) (number_of rm) (refl, refl, operands_valid) (two_small rd rm)
instruction_runs L k (I.MovPReg rd rm) b operands_valid = computes_two b (is_general rd && is_general (Real rm)) (Some opcodes.LGR) (on_doublewords Move) Kept lgr_row (number_of rd) (number_of (Real rm)) (refl, refl, operands_valid) (two_small rd (Real rm))
instruction_runs L k (I.Mov32 rd rm) b operands_valid = computes_two b (is_general rd && is_general rm) (Some opcodes.LR) (on_words Move) Kept lr_row (number_of rd) (number_of rm) (refl, refl, operands_valid) (two_small rd rm)
instruction_runs L k (I.AluRRSImm16 op rd rn imm) b operands_valid =
    three_halfword_runs b (on_immediate (alu_computation op) signed_halfword) (alu_two_rule op) (number_of rd) (number_of rn) (low_halfword imm) (is_general rd && is_general rn) (alu_three_halfword op) (alu_halfword op) (three_halfword_rows op) (halfword_rows op) (refl, refl, operands_valid) (two_small rd rn) (halfword_bits imm)
instruction_runs L k (I.AluRSImm16 op rd ri imm) b operands_valid =
    one_of_halfword b (reuses rd ri) (alu_halfword op) (on_immediate (alu_computation op) signed_halfword) (alu_two_rule op) (halfword_rows op) (number_of rd) (low_halfword imm) (refl, refl, operands_valid) (output_small rd ri) (halfword_bits imm)
instruction_runs L k (I.AluRSImm32 op rd ri imm) b operands_valid =
    one_of_word b (reuses rd ri) (alu_signed_word op) (on_immediate (alu_computation op) signed_word) (alu_two_rule op) (signed_word_rows op) (number_of rd) (low_word imm) (refl, refl, operands_valid) (output_small rd ri) (word_bits imm)
instruction_runs L k (I.CmpRSImm16 op rn imm) b operands_valid =
    compare_of_halfword b (is_general rn) (cmp_halfword op) (compares_on_immediate (comparison op) signed_halfword) (cmp_halfword_rows op) (number_of rn) (low_halfword imm) (refl, refl, operands_valid) (general_number rn) (halfword_bits imm)
instruction_runs L k (I.CmpRSImm32 op rn imm) b operands_valid = compare_of_word b (is_general rn) (cmp_signed_word op) (compares_on_immediate (comparison op) signed_word) (cmp_signed_word_rows op) (number_of rn) (low_word imm) (refl, refl, operands_valid) (general_number rn) (word_bits imm)
instruction_runs L k (I.AluRUImm32 op rd ri imm) b operands_valid =
    one_of_word b (reuses rd ri) (alu_unsigned_word op) (on_immediate (alu_computation op) unsigned_word) (alu_two_rule op) (unsigned_word_rows op) (number_of rd) (low_word (pos imm)) (refl, refl, operands_valid) (output_small rd ri) (word_bits (pos imm))
instruction_runs L k (I.CmpRUImm32 op rn imm) b operands_valid =
    compare_of_word b (is_general rn) (cmp_unsigned_word op) (compares_on_immediate (comparison op) unsigned_word) (cmp_unsigned_word_rows op) (number_of rn) (low_word (pos imm)) (refl, refl, operands_valid) (general_number rn) (word_bits (pos imm))
instruction_runs L k (I.Mov32Imm rd imm) b operands_valid = one_of_word b (is_general rd) (Some opcodes.IILF) (on_words Move) Kept iilf_row (number_of rd) (low_word (pos imm)) (refl, refl, operands_valid) (general_number rd) (word_bits (pos imm))
instruction_runs L k (I.Mov32SImm16 rd imm) b operands_valid = one_of_halfword b (is_general rd) (Some opcodes.LHI) (on_immediate (on_words Move) signed_halfword) Kept lhi_row (number_of rd) (low_halfword imm) (refl, refl, operands_valid) (general_number rd) (halfword_bits imm)
instruction_runs L k (I.Mov64SImm16 rd imm) b operands_valid = one_of_halfword b (is_general rd) (Some opcodes.LGHI) (on_immediate (on_doublewords Move) signed_halfword) Kept lghi_row (number_of rd) (low_halfword imm) (refl, refl, operands_valid) (general_number rd) (halfword_bits imm)
instruction_runs L k (I.Mov64SImm32 rd imm) b operands_valid = one_of_word b (is_general rd) (Some opcodes.LGFI) (on_immediate (on_doublewords Move) signed_word) Kept lgfi_row (number_of rd) (low_word imm) (refl, refl, operands_valid) (general_number rd) (word_bits imm)
instruction_runs L k (I.AluRUImm16Shifted op rd ri imm) b operands_valid =
    placed_halfword b (reuses rd ri) (alu_part op imm.shift) (SelectedBits (part_operator op) (part_mask imm.shift)) Set (16 * imm.shift) (part_rows op imm.shift) (number_of rd) (low_halfword (pos imm.bits)) (refl, refl, operands_valid) (output_small rd ri) (halfword_bits (pos imm.bits))
instruction_runs L k (I.AluRUImm32Shifted op rd ri imm) b operands_valid =
    placed_word b (reuses rd ri) (alu_half op imm.shift) (SelectedBits (part_operator op) (half_mask imm.shift)) Set (32 * imm.shift) (half_rows op imm.shift) (number_of rd) (low_word (pos imm.bits)) (refl, refl, operands_valid) (output_small rd ri) (word_bits (pos imm.bits))
instruction_runs L k (I.Mov64UImm16Shifted rd imm) b operands_valid =
    placed_halfword b (is_general rd) (load_part imm.shift) Move Kept (16 * imm.shift) (load_part_rows imm.shift) (number_of rd) (low_halfword (pos imm.bits)) (refl, refl, operands_valid) (general_number rd) (halfword_bits (pos imm.bits))
instruction_runs L k (I.Mov64UImm32Shifted rd imm) b operands_valid = placed_word b (is_general rd) (load_half imm.shift) Move Kept (32 * imm.shift) (load_half_rows imm.shift) (number_of rd) (low_word (pos imm.bits)) (refl, refl, operands_valid) (general_number rd) (word_bits (pos imm.bits))
instruction_runs L k (I.Insert64UImm16Shifted rd ri imm) b operands_valid =
    placed_halfword b (reuses rd ri) (insert_part imm.shift) (SelectedBits Select.Insert (part_mask imm.shift)) Kept (16 * imm.shift) (insert_part_rows imm.shift) (number_of rd) (low_halfword (pos imm.bits)) (refl, refl, operands_valid) (output_small rd ri) (halfword_bits (pos imm.bits))
instruction_runs L k (I.Insert64UImm32Shifted rd ri imm) b operands_valid = inserted_half b (reuses rd ri) imm.shift (number_of rd) (low_word (pos imm.bits)) (refl, refl, operands_valid) (output_small rd ri) (word_bits (pos imm.bits))
instruction_runs L k (I.Extend rd rn signed from to) b operands_valid = computes_two b (is_general rd && is_general rn) (extend_two signed from to) (extension signed from to) Kept (extend_rows signed from to) (number_of rd) (number_of rn) (refl, refl, operands_valid) (two_small rd rn)
instruction_runs L k (I.LoadAR rd ar) b operands_valid = copies_runs b (is_general rd && is_access ar) (number_of rd) (four_bits ar) (refl, refl, operands_valid) (λ h. access_small rd ar (general_number rd (and_parts (is_general rd) (is_access ar) h).0))
instruction_runs L k (I.InsertAR rd ri ar) b operands_valid = copies_runs b (reuses rd ri && is_access ar) (number_of rd) (four_bits ar) (refl, refl, operands_valid) (λ h. access_small rd ar (output_small rd ri (and_parts (reuses rd ri) (is_access ar) h).0))
instruction_runs L k (I.ShiftRR op rd rn amount register) b operands_valid = shift_runs b op (number_of rd) (number_of rn) (number_of register) amount (refl, refl) (three_small rd rn register operands_valid)
instruction_runs L k (I.RxSBG op rd ri rn start end amount) b operands_valid = rotate_runs b op (reuses rd ri && is_general rn) (number_of rd) (number_of rn) start end amount (refl, refl, operands_valid) (reused_small rd ri rn)
instruction_runs L k (I.RxSBGTest op rd rn start end amount) b operands_valid = test_runs b op (is_general rd && is_general rn) (number_of rd) (number_of rn) start end amount (refl, refl, operands_valid) (two_small rd rn)
instruction_runs L k (I.SMulWide rd rn rm) b operands_valid = signed_runs b (number_of rd.hi) (number_of rn) (number_of rm) (refl, refl) (pair_small2 rd.hi rd.lo rn rm operands_valid)
instruction_runs L k (I.UMulWide rd ri rn) b operands_valid = logical_runs b (number_of rd.hi) (number_of rn) (refl, refl) (pair_tested_small rd.hi rd.lo rn (reuses rd.lo ri) operands_valid)
instruction_runs L k (I.Flogr rd rn) b operands_valid = leftmost_runs b (number_of rd.hi) (number_of rn) (refl, refl) (pair_small rd.hi rd.lo rn operands_valid)
instruction_runs L k (I.SDivMod32 rd ri rn) b operands_valid =
    divide_runs b opcodes.DSGFR (DivideSigned Bits32) dsgfr_row (divides_signed Bits32 (number_of rd.hi) (number_of rn)) (signed_coded Bits32 (number_of rd.hi) (number_of rn)) (number_of rd.hi) (number_of rn) (pair_tested_small rd.hi rd.lo rn (reuses rd.lo ri) operands_valid) (λ r q. refl) (refl, refl)
instruction_runs L k (I.SDivMod64 rd ri rn) b operands_valid =
    divide_runs b opcodes.DSGR (DivideSigned Bits64) dsgr_row (divides_signed Bits64 (number_of rd.hi) (number_of rn)) (signed_coded Bits64 (number_of rd.hi) (number_of rn)) (number_of rd.hi) (number_of rn) (pair_tested_small rd.hi rd.lo rn (reuses rd.lo ri) operands_valid) (λ r q. refl) (refl, refl)
instruction_runs L k (I.UDivMod32 rd ri rn) b operands_valid =
    divide_runs b opcodes.DLR (DivideLogical Word) dlr_row (divides_logical Word (number_of rd.hi) (number_of rn)) (logical_coded Word (number_of rd.hi) (number_of rn)) (number_of rd.hi) (number_of rn) (pair_tested_small rd.hi rd.lo rn (reuses_pair rd ri) operands_valid) (λ r q. refl) (refl, refl)
instruction_runs L k (I.UDivMod64 rd ri rn) b operands_valid =
    divide_runs b opcodes.DLGR (DivideLogical Doubleword) dlgr_row (divides_logical Doubleword (number_of rd.hi) (number_of rn)) (logical_coded Doubleword (number_of rd.hi) (number_of rn)) (number_of rd.hi) (number_of rn) (pair_tested_small rd.hi rd.lo rn (reuses_pair rd ri) operands_valid) (λ r q. refl) (refl, refl)
instruction_runs L k (I.CmpTrapRR op rn rm mask code) b operands_valid = compare_trap_runs b (is_general rn && is_general rm) (cmp_trap op) (comparison op) (trap_rows op) (number_of rn) (number_of rm) (four_bits mask) code (mask_bits mask) (refl, refl, operands_valid) (two_small rn rm)
instruction_runs L k (I.CmpTrapRSImm16 op rn imm mask code) b operands_valid =
    compare_immediate_trap_runs b (is_general rn) (cmp_trap_signed op) (comparison op) (trap_signed_rows op) (number_of rn) (low_halfword imm) (four_bits mask) code (halfword_bits imm) (mask_bits mask) (refl, refl, operands_valid) (general_number rn)
instruction_runs L k (I.CmpTrapRUImm16 op rn imm mask code) b operands_valid =
    compare_immediate_trap_runs b (is_general rn) (cmp_trap_unsigned op) (comparison op) (trap_unsigned_rows op) (number_of rn) (low_halfword (pos imm)) (four_bits mask) code (halfword_bits (pos imm)) (mask_bits mask) (refl, refl, operands_valid) (general_number rn)
instruction_runs L k (I.CMov32 rd mask ri rm) b operands_valid = move_where_runs b opcodes.LOCR Word unsigned_word locr_row mask (number_of rd) (number_of rm) (refl, refl) (reused_small rd ri rm operands_valid)
instruction_runs L k (I.CMov64 rd mask ri rm) b operands_valid = move_where_runs b opcodes.LOCGR Doubleword doubleword locgr_row mask (number_of rd) (number_of rm) (refl, refl) (reused_small rd ri rm operands_valid)
instruction_runs L k (I.CMov32SImm16 rd mask ri imm) b operands_valid = move_immediate_where_runs b opcodes.LOCHI Word lochi_row mask (number_of rd) (low_halfword imm) (refl, refl) (output_small rd ri operands_valid) (halfword_bits imm)
instruction_runs L k (I.CMov64SImm16 rd mask ri imm) b operands_valid = move_immediate_where_runs b opcodes.LOCGHI Doubleword locghi_row mask (number_of rd) (low_halfword imm) (refl, refl) (output_small rd ri operands_valid) (halfword_bits imm)
instruction_runs L k (I.LoadIndexedAddr rd base index offset size) b operands_valid =
    any_runs b (is_general rd && is_general base && is_general index) (indexed_opcode size) (indexed_rows size) (number_of rd) (number_of base) (number_of index) (low_displacement offset) (refl, refl, operands_valid) (three_small rd base index) (displacement_bits offset)
instruction_runs L k (I.LoadLogicalIndexedAddr rd base index offset size) b operands_valid =
    any_runs b (is_general rd && is_general base && is_general index) (logical_indexed_opcode size) (logical_indexed_rows size) (number_of rd) (number_of base) (number_of index) (low_displacement offset) (refl, refl, operands_valid) (three_small rd base index) (displacement_bits offset)
instruction_runs L k (I.AllocateArgs size) b operands_valid = allocate_runs b size (refl, refl)
instruction_runs L k I.Fence b operands_valid = fence_runs b (refl, refl)
instruction_runs L k I.Nop2 b operands_valid = idle_runs b (refl, refl)
instruction_runs L k I.Nop0 b operands_valid = opening_runs b refl refl
instruction_runs L k (I.Args args) b operands_valid = opening_runs b refl refl
instruction_runs L k (I.Rets rets) b operands_valid = opening_runs b refl refl
instruction_runs L k (I.DummyUse reg) b operands_valid = opening_runs b refl refl
instruction_runs L k I.SequencePoint b operands_valid = opening_runs b refl refl
instruction_runs L k (I.Jump dest) b operands_valid = goto_runs b dest.0 refl refl operands_valid
instruction_runs L k (I.CondBr taken not_taken mask) b operands_valid = condbr_runs b mask taken.0 not_taken.0 refl refl (small_mask mask operands_valid.2) operands_valid.0 operands_valid.1
instruction_runs L k (I.IndirectBr rn targets) b operands_valid =
    let row = register_row b (number_of rn) refl (general_number rn operands_valid.0) (nonzero_number rn operands_valid.0 operands_valid.1) in
    address_runs L b.image k (number_of rn) (length_of Rr) targets.items (ap (kind_of_step L) b.at) operands_valid.2 row.0 row.1
instruction_runs L k (I.Ret link) b operands_valid = let row = register_row b (number_of link) refl (general_number link operands_valid.0) (nonzero_number link operands_valid.0 operands_valid.1) in returns_runs L k (number_of link) (length_of Rr) (ap (kind_of_step L) b.at) row.0 row.1
instruction_runs L k (I.JTSequence ridx other mask targets) b operands_valid =
    jump_by_table_runs b (number_of ridx) mask other.0 targets.items refl refl (general_number ridx operands_valid.0) (nonzero_number ridx operands_valid.0 operands_valid.1) (unscratched_number ridx operands_valid.0 operands_valid.2) (small_mask mask operands_valid.5) operands_valid.3 operands_valid.4
instruction_runs L k (I.LabelAddress dst label) b operands_valid = label_runs b (number_of dst) label.0 refl refl (general_number dst operands_valid.0) operands_valid.1
instruction_runs L k (I.LoadSymbolReloc rd reloc) b operands_valid = load_symbol_runs b (number_of rd) reloc refl refl (general_number rd operands_valid)
instruction_runs L k (I.Trap code) b operands_valid = always_traps b code refl refl
instruction_runs L k (I.TrapIf mask code) b operands_valid = traps_where b mask code refl refl (small_mask mask operands_valid)
instruction_runs L k I.Debugtrap b operands_valid = debug_stops b refl refl
instruction_runs L k (I.LoadAddr rd mem) b operands_valid = loads_an_address b rd mem (record { have_d12 = true; have_d20 = true; have_pcrel = true; have_unaligned_pcrel = true; have_index = true }) (refl, refl, refl, operands_valid)
instruction_runs L k (I.StoreImm8 imm mem) b operands_valid = stores_a_byte b imm mem (based_forms true true) (refl, refl, refl, operands_valid)
instruction_runs L k (I.StoreImm16 imm mem) b operands_valid = stores_an_immediate b Bits16 opcodes.MVHHI (low_halfword imm) (halfword_bits imm) store_immediate_16 mem (based_forms true false) (refl, refl, refl, operands_valid)
instruction_runs L k (I.StoreImm32SExt16 imm mem) b operands_valid = stores_an_immediate b Bits32 opcodes.MVHI (low_halfword imm) (halfword_bits imm) store_immediate_32 mem (based_forms true false) (refl, refl, refl, operands_valid)
instruction_runs L k (I.StoreImm64SExt16 imm mem) b operands_valid = stores_an_immediate b Bits64 opcodes.MVGHI (low_halfword imm) (halfword_bits imm) store_immediate_64 mem (based_forms true false) (refl, refl, refl, operands_valid)
instruction_runs L k (I.LoadMultiple64 rt rt2 mem) b operands_valid = loads_registers b rt rt2 mem (based_forms false true) (refl, refl, refl, operands_valid)
instruction_runs L k (I.StoreMultiple64 rt rt2 mem) b operands_valid = stores_registers b rt rt2 mem (based_forms false true) (refl, refl, refl, operands_valid)
instruction_runs L k (I.AluRX op rd ri mem) b operands_valid =
    computes_in_memory b (is_some (alu_rx op) || is_some (alu_rxy op)) (alu_computation op) (alu_two_rule op) (alu_rx op) (alu_rxy op) (alu_short_rows op) (alu_long_rows op) rd ri mem (alu_forms op) (alu_same op (number_of rd)) (refl, refl, operands_valid)
instruction_runs L k (I.CmpRX op rn mem) b operands_valid = compares_in_memory b (comparison op) (cmp_rx op) (cmp_rxy op) (Some (cmp_ril op)) (cmp_short_rows op) (cmp_long_rows op) (cmp_relative_rows op) rn mem (cmp_forms op) (cmp_same op (number_of rn), refl, refl, operands_valid)
instruction_runs L k (I.AtomicRmw op rd rn mem) b operands_valid = operates b (alu_computation op) (atomic_rsy op) (atomic_rows op) rd rn mem (based_forms false true) (λ opcode. refl) (refl, refl, operands_valid)
instruction_runs L k (I.AtomicCas32 rd ri rn mem) b operands_valid = swaps b Word (Some opcodes.CS) (Some opcodes.CSY) swap_32 rd ri rn mem (based_forms true true) (refl, refl, refl, operands_valid)
instruction_runs L k (I.AtomicCas64 rd ri rn mem) b operands_valid = swaps b Doubleword None (Some opcodes.CSG) swap_64 rd ri rn mem (based_forms false true) (refl, refl, refl, operands_valid)
instruction_runs L k (I.Vector v) b operands_valid = any_vector_runs b v (refl, refl, operands_valid)
instruction_runs L k (I.Loop' mask body all) b operands_valid = absurd operands_valid
instruction_runs L k (I.CondBreak mask) b operands_valid = absurd operands_valid
instruction_runs L k (I.Call link info) b operands_valid = absurd operands_valid
instruction_runs L k (I.ReturnCall info) b operands_valid = absurd operands_valid
instruction_runs L k i b operands_valid = transfer_runs L k (the_transfer (as_transfer i) refl) b operands_valid

pub step_runs : (L : Layout) (k : ℕ) (s : Step) → StepAt L k s → IsValidStep L s → StepRuns L k
step_runs L k (Plain i) b operands_valid = instruction_runs L k i b operands_valid
step_runs L k (Shortened r i) b operands_valid = shortened_runs L k r i b operands_valid b.code.folded
step_runs L k (LoadedStep i) b operands_valid = loaded_runs L k i b operands_valid
step_runs L k Opening b operands_valid = opening_runs b refl refl
step_runs L k (Back mask target) b operands_valid = loop_runs b mask target refl refl (small_mask mask operands_valid.0) operands_valid.1
step_runs L k (Break mask target) b operands_valid = loop_runs b mask target refl refl (small_mask mask operands_valid.0) operands_valid.1
step_runs L k (CallingStep c) b operands_valid = calling_runs b c.link c.target c.sites refl refl operands_valid.0 operands_valid.1
step_runs L k NoLoadStep b operands_valid = absurd operands_valid
step_runs L k (TailOpeningStep target first_saved is_lost) b operands_valid = opening_runs b refl refl
step_runs L k (TailJumpStep target) b operands_valid = tail_jump_runs b target (AtCall ∷ []) refl refl operands_valid

-- one whose own bytes stand at its place
pub step_runs_there : (L : Layout) (k : ℕ) (s : Step) → StepAt L k s → StepRuns L k
step_runs_there L k s x = step_runs L k s x x.code.valid

pub step_runs_placed : (L : Layout) → AllCodeAt L → (k : ℕ) (s : Step) → slice_get L.steps k ≡ Some s → StepRuns L k
step_runs_placed L all k s at = step_runs_there L k s (step_at L all k s at)

-- each step by itself
pub step_holds_there : (L : Layout) (k : ℕ) (s : Step) → StepAt L k s → StepHolds L k
step_holds_there L k s x = one_step L k (step_runs_there L k s x)

pub step_holds : (L : Layout) → AllCodeAt L → (k : ℕ) (s : Step) → slice_get L.steps k ≡ Some s → StepHolds L k
step_holds L all k s at = one_step L k (step_runs_placed L all k s at)

-- every run
pub runs_hold : (L : Layout) → AllCodeAt L → (k : ℕ) → EveryRun L k
runs_hold L all = trace_of L (λ k s at. step_holds L all k s at)

-- from each call's return place
pub return_holds : (L : Layout) → AllCodeAt L → (k : ℕ) → EveryReturnRun L k
return_holds L all k c at = subst (λ p. EveryRunFrom L p (suc k)) (sym (returns_to L all k c at)) (runs_hold L all (suc k))

-- from each block's start
pub block_holds : (L : Layout) → AllCodeAt L → (b : ℕ) → IsBlock L b → EveryBlockRun L b
block_holds L all b is = subst (λ p. EveryRunFrom L p (L.first_step b)) (sym (block_at L all b is)) (runs_hold L all (L.first_step b))
