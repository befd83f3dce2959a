-- What each typed step does (cranelift-codegen, `emit.rs`). It knows no bytes: its operations are those of the common relation.
use Rattle.std.specs.Prelude.{ℕ, pos, Bool, true, false, cond, List, Option, Some, None, option_map}
use Rattle.s390x_base.specs.Regs.{number_of}
use Rattle.s390x_base.specs.declared.regs.Reg.TheVariants.{Real}
use Rattle.s390x_base.specs.declared.ir.MachLabel.{MachLabel}
use Rattle.s390x_base.specs.declared.trap.TrapKind.{TrapKind}
use Rattle.s390x_base.specs.declared.trap.TrapKind.TheVariants.{IntegerDivisionByZero}
use Rattle.s390x_inst.specs.declared.inst.Inst.{Inst}
use Rattle.s390x_inst.specs.declared.inst.Inst.TheVariants as I
use Rattle.s390x_inst.specs.declared.vec_inst.VecInst.{VecInst}
use Rattle.s390x_inst.specs.declared.vec_inst.VecInst.TheVariants.{VecInt128SCmpHi, VecInt128UCmpHi}
use Rattle.s390x_lanes.specs.declared.operators.Signedness.{Signedness}
use Rattle.s390x_lanes.specs.declared.operators.Signedness.TheVariants.{Signed, Unsigned}
use Rattle.s390x_operations.specs.State.{Registers}
use Rattle.s390x_operations.specs.declared.operator.Operator.TheVariants.{Move}
use Rattle.s390x_operations.specs.declared.size.Size.TheVariants.{Word, Doubleword}
use Rattle.s390x_operations.specs.declared.size.Width.TheVariants.{Bits32, Bits64}
use Rattle.s390x_operations.specs.declared.operator.SelectedBitsOperator.TheVariants as Select
use Rattle.s390x_operations.specs.declared.effect.CodeRule.TheVariants.{Kept, Set}
use Rattle.s390x_operations.specs.declared.effect.Operation.{Operation}
use Rattle.s390x_operations.specs.declared.stop.StopKind.{StopKind}
use Rattle.s390x_operations.specs.declared.stop.StopKind.TheVariants.{Access, Specification, Divide, CompareTrap}
use Rattle.s390x_machine.specs.Computations.{computes, compares, alu_computation, alu_three_rule, alu_two_rule, unary_computation, unary_rule, comparison, on_words, on_doublewords, unsigned_word, signed_word, signed_halfword, on_immediate, compares_on_immediate, computes_immediate, compares_immediate, doubleword}
use Rattle.s390x_machine.specs.Computations.{part_mask, on_selected, part_operator, at_part, at_half, half_mask, inserts_half, extension, shifts, rotates_into, rotates_to_test, multiplies_signed, multiplies_logical, divides_signed, divides_logical, compares_and_traps, compares_immediate_and_traps, finds_leftmost, idles, havocs, copies_access, moves_where, moves_immediate_where, takes_from_stack}
use Rattle.s390x_machine.specs.Storage.{operand_address, needs_scratch, aligned_where, is_relative_access, OperandStep, operand_step, loaded_step}
use Rattle.s390x_inst.specs.Memory.{flags_of}
use Rattle.s390x_inst.specs.declared.calls.CallInstDest.{CallInstDest}
use Rattle.s390x_inst.specs.declared.calls.CallInstDest.TheVariants.{Direct, Indirect}
use Rattle.s390x_inst.specs.declared.calls.SymbolReloc.{SymbolReloc}
use Rattle.s390x_typed_steps.specs.Parts.{name_in, offset_in}
use Rattle.s390x_typed_steps.specs.General.{low_halfword, low_word, low_byte, four_bits, rotation}
use Rattle.s390x_typed_steps.specs.VectorInstruction.{divides}
use Rattle.s390x_machine.specs.VectorSteps.{ConditionalOperation, conditional_operation, vector_operation}
use Rattle.s390x_machine.specs.Layout.{Layout, block_address}
use Rattle.s390x_typed_steps.specs.Steps.{Step, Plain, LoadedStep, Shortened, Opening, Back, Break, CallingStep, NoLoadStep, TailOpeningStep, TailJumpStep}

-- what a typed step does
pub data StepKind : Type 0 where
  -- an operation on the registers. Where it needs `%r1`, that register may have any value after it, but for what the operation writes there.
  -- Each kind of stop ends the run by a trap with its code. A fault of an access that has no code is wrong
  Performs : (needs : Bool) → (operation : Registers → Operation) → (code : StopKind → Option TrapKind) → StepKind
  -- a block
  GoesTo : (block : ℕ) → StepKind
  -- the one block where the mask selects the condition code, else the other
  Chooses : (mask taken other : ℕ) → StepKind
  -- the listed block whose address the register holds
  GoesByAddress : (register : ℕ) → (targets : List MachLabel) → StepKind
  -- a step where the mask selects the condition code, else the next one
  Leads : (mask step : ℕ) → StepKind
  -- the other block where the mask selects the code; else the listed block whose number is a quarter of the index. `%r1` and the code may be any after that
  GoesByTable : (index mask other : ℕ) → (targets : List MachLabel) → StepKind
  -- an operation where the mask selects the condition code, else nothing
  PerformsWhere : (mask : ℕ) → (operation : Registers → Operation) → StepKind
  -- a comparison of vector registers n and m as numbers of 128 bits, which sets the condition code. Register `tmp` may have any value after it
  ComparesWide : (sign : Signedness) → (tmp n m : ℕ) → StepKind
  -- a return to the address in a register
  Returns : (link : ℕ) → StepKind
  -- a call of an address; the link register gets the address of the next step
  Calls : (link : ℕ) → (target : Registers → ℕ) → StepKind
  TailCalls : (target : Registers → ℕ) → StepKind
  TrapsAlways : (code : TrapKind) → StepKind
  TrapsWhere : (mask : ℕ) → (code : TrapKind) → StepKind
  DebugStops : StepKind
  -- nothing, and no bytes
  Silent : StepKind
  -- a step that emission refuses
  Unsupported : StepKind

-- what an instruction does that is one operation
pub record Performed : Type 0 where
  pub operation : Registers → Operation
  -- whether it needs `%r1`
  pub needs : Bool
  -- the code of each kind of stop
  pub code : StopKind → Option TrapKind

-- no stop has a code
abbrev pub no_code : StopKind → Option TrapKind
no_code kind = None

-- the stop of a division has the code `int_divz`
abbrev pub division_code : StopKind → Option TrapKind
division_code Divide = Some IntegerDivisionByZero
division_code kind = None

-- the stop of a compare and trap has the instruction's code
abbrev pub comparison_code : TrapKind → StopKind → Option TrapKind
comparison_code n CompareTrap = Some n
comparison_code n kind = None

-- the faults of an access have the code of its flags, if there is one
abbrev pub access_code : Option TrapKind → StopKind → Option TrapKind
access_code flags Access = flags
access_code flags Specification = flags
access_code flags kind = None

-- an operation on registers and immediates, which never stops
abbrev pub on_registers : (Registers → Operation) → Option Performed
on_registers operation = Some (record { operation = operation; needs = false; code = no_code })

-- an operation on registers and immediates that may stop by its values, with the codes of its stops
abbrev pub may_stop : (StopKind → Option TrapKind) → (Registers → Operation) → Option Performed
may_stop code operation = Some (record { operation = operation; needs = false; code = code })

-- an operation on registers and immediates that needs `%r1`
abbrev pub by_scratch : (Registers → Operation) → Option Performed
by_scratch operation = Some (record { operation = operation; needs = true; code = no_code })

-- an operation on vectors, which stops by its values where it divides
abbrev pub on_vectors : (divides : Bool) → Option (Registers → Operation) → Option Performed
on_vectors divides None = None
on_vectors divides (Some operation) = may_stop (cond divides division_code no_code) operation

-- what a relocation's doubleword holds once it is linked
abbrev pub linked_value : Layout → SymbolReloc → ℕ
linked_value L reloc = L.offsets.environment.symbol_value (name_in reloc) (offset_in reloc)

-- where a call leads: a symbol's address once it is linked, or what a register holds before the link is written
abbrev pub called_address : Layout → CallInstDest → Registers → ℕ
called_address L (Direct name) r = L.offsets.environment.symbol_value name (pos 0)
called_address L (Indirect reg) r = r.general (number_of reg)

-- the instructions that are one operation; a move has no first operand. The layout tells the addresses of blocks and of symbols
abbrev pub single_operation : Layout → Inst → Option Performed
single_operation L (I.AluRRR op rd rn rm) = on_registers (computes (alu_three_rule op) (alu_computation op) (number_of rd) (number_of rn) (number_of rm))
single_operation L (I.AluRR op rd ri rm) = on_registers (computes (alu_two_rule op) (alu_computation op) (number_of rd) (number_of rd) (number_of rm))
single_operation L (I.UnaryRR op rd rn) = on_registers (computes (unary_rule op) (unary_computation op) (number_of rd) (number_of rd) (number_of rn))
single_operation L (I.CmpRR op rn rm) = on_registers (compares (comparison op) (number_of rn) (number_of rm))
single_operation L (I.Mov64 rd rm) = on_registers (computes Kept (on_doublewords Move) (number_of rd) (number_of rd) (number_of rm))
single_operation L (I.MovPReg rd rm) = on_registers (computes Kept (on_doublewords Move) (number_of rd) (number_of rd) (number_of (Real rm)))
single_operation L (I.Mov32 rd rm) = on_registers (computes Kept (on_words Move) (number_of rd) (number_of rd) (number_of rm))
single_operation L (I.AluRRSImm16 op rd rn imm) = on_registers (computes_immediate (alu_two_rule op) (on_immediate (alu_computation op) signed_halfword) (number_of rd) (number_of rn) (low_halfword imm))
single_operation L (I.AluRSImm16 op rd ri imm) = on_registers (computes_immediate (alu_two_rule op) (on_immediate (alu_computation op) signed_halfword) (number_of rd) (number_of rd) (low_halfword imm))
single_operation L (I.AluRSImm32 op rd ri imm) = on_registers (computes_immediate (alu_two_rule op) (on_immediate (alu_computation op) signed_word) (number_of rd) (number_of rd) (low_word imm))
single_operation L (I.AluRUImm32 op rd ri imm) = on_registers (computes_immediate (alu_two_rule op) (on_immediate (alu_computation op) unsigned_word) (number_of rd) (number_of rd) (low_word (pos imm)))
single_operation L (I.CmpRSImm16 op rn imm) = on_registers (compares_immediate (compares_on_immediate (comparison op) signed_halfword) (number_of rn) (low_halfword imm))
single_operation L (I.CmpRSImm32 op rn imm) = on_registers (compares_immediate (compares_on_immediate (comparison op) signed_word) (number_of rn) (low_word imm))
single_operation L (I.CmpRUImm32 op rn imm) = on_registers (compares_immediate (compares_on_immediate (comparison op) unsigned_word) (number_of rn) (low_word (pos imm)))
single_operation L (I.Mov32Imm rd imm) = on_registers (computes_immediate Kept (on_words Move) (number_of rd) (number_of rd) (low_word (pos imm)))
single_operation L (I.Mov32SImm16 rd imm) = on_registers (computes_immediate Kept (on_immediate (on_words Move) signed_halfword) (number_of rd) (number_of rd) (low_halfword imm))
single_operation L (I.Mov64SImm16 rd imm) = on_registers (computes_immediate Kept (on_immediate (on_doublewords Move) signed_halfword) (number_of rd) (number_of rd) (low_halfword imm))
single_operation L (I.Mov64SImm32 rd imm) = on_registers (computes_immediate Kept (on_immediate (on_doublewords Move) signed_word) (number_of rd) (number_of rd) (low_word imm))
single_operation L (I.AluRUImm16Shifted op rd ri imm) = on_registers (computes_immediate Set (on_selected (part_operator op) (part_mask imm.shift)) (number_of rd) (number_of rd) (at_part imm.shift (low_halfword (pos imm.bits))))
single_operation L (I.AluRUImm32Shifted op rd ri imm) = on_registers (computes_immediate Set (on_selected (part_operator op) (half_mask imm.shift)) (number_of rd) (number_of rd) (at_half imm.shift (low_word (pos imm.bits))))
single_operation L (I.Mov64UImm16Shifted rd imm) = on_registers (computes_immediate Kept (on_doublewords Move) (number_of rd) (number_of rd) (at_part imm.shift (low_halfword (pos imm.bits))))
single_operation L (I.Mov64UImm32Shifted rd imm) = on_registers (computes_immediate Kept (on_doublewords Move) (number_of rd) (number_of rd) (at_half imm.shift (low_word (pos imm.bits))))
single_operation L (I.Insert64UImm16Shifted rd ri imm) = on_registers (computes_immediate Kept (on_selected Select.Insert (part_mask imm.shift)) (number_of rd) (number_of rd) (at_part imm.shift (low_halfword (pos imm.bits))))
single_operation L (I.Insert64UImm32Shifted rd ri imm) = on_registers (computes_immediate Kept (inserts_half imm.shift) (number_of rd) (number_of rd) (at_half imm.shift (low_word (pos imm.bits))))
single_operation L (I.Extend rd rn signed from to) = on_registers (computes Kept (extension signed from to) (number_of rd) (number_of rd) (number_of rn))
single_operation L (I.LoadAR rd ar) = on_registers (copies_access (number_of rd) (four_bits ar))
single_operation L (I.InsertAR rd ri ar) = on_registers (copies_access (number_of rd) (four_bits ar))
single_operation L (I.ShiftRR op rd rn amount register) = on_registers (shifts op (number_of rd) (number_of rn) (number_of register) (low_byte amount))
single_operation L (I.RxSBG op rd ri rn first last amount) = on_registers (rotates_into op (number_of rd) (number_of rn) first last (rotation amount))
single_operation L (I.RxSBGTest op rd rn first last amount) = on_registers (rotates_to_test op (number_of rd) (number_of rn) first last (rotation amount))
single_operation L (I.SMulWide rd rn rm) = on_registers (multiplies_signed (number_of rd.hi) (number_of rn) (number_of rm))
single_operation L (I.UMulWide rd ri rn) = on_registers (multiplies_logical (number_of rd.hi) (number_of rn))
single_operation L (I.Flogr rd rn) = on_registers (finds_leftmost (number_of rd.hi) (number_of rn))
single_operation L (I.SDivMod32 rd ri rn) = may_stop division_code (divides_signed Bits32 (number_of rd.hi) (number_of rn))
single_operation L (I.SDivMod64 rd ri rn) = may_stop division_code (divides_signed Bits64 (number_of rd.hi) (number_of rn))
single_operation L (I.UDivMod32 rd ri rn) = may_stop division_code (divides_logical Word (number_of rd.hi) (number_of rn))
single_operation L (I.UDivMod64 rd ri rn) = may_stop division_code (divides_logical Doubleword (number_of rd.hi) (number_of rn))
single_operation L (I.CmpTrapRR op rn rm mask code) = may_stop (comparison_code code) (compares_and_traps (comparison op) (number_of rn) (number_of rm) (four_bits mask))
single_operation L (I.CmpTrapRSImm16 op rn imm mask code) = may_stop (comparison_code code) (compares_immediate_and_traps (comparison op) (number_of rn) (low_halfword imm) (four_bits mask))
single_operation L (I.CmpTrapRUImm16 op rn imm mask code) = may_stop (comparison_code code) (compares_immediate_and_traps (comparison op) (number_of rn) (low_halfword (pos imm)) (four_bits mask))
single_operation L (I.CMov32 rd mask ri rm) = on_registers (moves_where Word unsigned_word (four_bits mask) (number_of rd) (number_of rm))
single_operation L (I.CMov64 rd mask ri rm) = on_registers (moves_where Doubleword doubleword (four_bits mask) (number_of rd) (number_of rm))
single_operation L (I.CMov32SImm16 rd mask ri imm) = on_registers (moves_immediate_where Word (four_bits mask) (number_of rd) (low_halfword imm))
single_operation L (I.CMov64SImm16 rd mask ri imm) = on_registers (moves_immediate_where Doubleword (four_bits mask) (number_of rd) (low_halfword imm))
single_operation L (I.LoadIndexedAddr rd base index offset size) = on_registers (havocs (number_of rd))
single_operation L (I.LoadLogicalIndexedAddr rd base index offset size) = on_registers (havocs (number_of rd))
single_operation L (I.AllocateArgs size) = on_registers (takes_from_stack size)
single_operation L I.Fence = on_registers idles
single_operation L I.Nop2 = on_registers idles
single_operation L (I.LabelAddress dst label) = on_registers (computes_immediate Kept (on_doublewords Move) (number_of dst) (number_of dst) (block_address L label.0))
single_operation L (I.LoadSymbolReloc rd reloc) = by_scratch (computes_immediate Kept (on_doublewords Move) (number_of rd) (number_of rd) (linked_value L reloc))
single_operation L (I.Vector v) = on_vectors (divides v) (vector_operation v)
single_operation L _ = None

-- the code of an access's faults: that of its flags, if there is one. What accesses nothing has none
abbrev pub fault_codes : OperandStep → StopKind → Option TrapKind
fault_codes x = access_code (cond x.accesses (flags_of x.operand).trap None)

-- an instruction with an operand in memory does its operation at the operand's address, where it has one
abbrev pub performed_at : OperandStep → Option (Registers → ℕ) → Option Performed
performed_at x None = None
performed_at x (Some address) =
    Some (record { operation = λ r. aligned_where (is_relative_access x) (x.operation (address r) r); needs = needs_scratch x.forms x.operand; code = fault_codes x })

-- an instruction does its operation at its operand's address, where it is one with an operand in memory
abbrev pub performed_by : Layout → Option OperandStep → Option Performed
performed_by L None = None
performed_by L (Some x) = performed_at x (operand_address L x.operand)

-- the instructions that are one operation with an operand in memory
abbrev pub performed_in_memory : Layout → Inst → Option Performed
performed_in_memory L i = performed_by L (operand_step i)

-- an operation under a condition
abbrev pub where_kind : Option ConditionalOperation → StepKind
where_kind None = Unsupported
where_kind (Some x) = PerformsWhere x.mask x.operation

-- a vector instruction that is several operations
abbrev pub composite_kind : VecInst → StepKind
composite_kind (VecInt128SCmpHi tmp rn rm) = ComparesWide Signed (number_of tmp) (number_of rn) (number_of rm)
composite_kind (VecInt128UCmpHi tmp rn rm) = ComparesWide Unsigned (number_of tmp) (number_of rn) (number_of rm)
composite_kind v = where_kind (conditional_operation v)

-- one that goes elsewhere or ends the run, or is several operations
abbrev pub branch_kind : Inst → StepKind
branch_kind (I.Jump dest) = GoesTo dest.0
branch_kind (I.CondBr taken not_taken mask) = Chooses mask taken.0 not_taken.0
branch_kind (I.IndirectBr rn targets) = GoesByAddress (number_of rn) targets.items
branch_kind (I.Ret link) = Returns (number_of link)
branch_kind (I.JTSequence ridx other mask targets) = GoesByTable (number_of ridx) mask other.0 targets.items
branch_kind I.Nop0 = Silent
branch_kind (I.Args args) = Silent
branch_kind (I.Rets rets) = Silent
branch_kind (I.DummyUse reg) = Silent
branch_kind I.SequencePoint = Silent
branch_kind (I.Trap code) = TrapsAlways code
branch_kind (I.TrapIf mask code) = TrapsWhere mask code
branch_kind I.Debugtrap = DebugStops
branch_kind (I.Vector v) = composite_kind v
branch_kind _ = Unsupported

-- an instruction that is one operation performs it; another one has its own kind
abbrev pub kind_or : Option Performed → StepKind → StepKind
kind_or None others = others
kind_or (Some x) others = Performs x.needs x.operation x.code

-- what an instruction does
abbrev pub instruction_kind : Layout → Inst → StepKind
instruction_kind L i = kind_or (single_operation L i) (kind_or (performed_in_memory L i) (branch_kind i))

-- what an instruction does whose operand's address is loaded first
abbrev pub loaded_kind : Layout → Inst → StepKind
loaded_kind L i = kind_or (performed_by L (option_map loaded_step (operand_step i))) Unsupported

-- an opening is a step without bytes; a loop's back branch and its breaks lead to steps; a call and the jump of a tail call end the run
abbrev pub step_kind : Layout → Step → StepKind
step_kind L (Plain i) = instruction_kind L i
step_kind L (Shortened r i) = instruction_kind L i
step_kind L (LoadedStep i) = loaded_kind L i
step_kind L Opening = Silent
step_kind L (Back mask target) = Leads mask target
step_kind L (Break mask target) = Leads mask target
step_kind L (CallingStep c) = Calls (number_of c.link) (called_address L c.target)
step_kind L NoLoadStep = Unsupported
step_kind L (TailOpeningStep target first_saved is_lost) = Silent
step_kind L (TailJumpStep target) = TailCalls (called_address L target)
