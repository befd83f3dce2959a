-- What a step consists of, before its targets have offsets: its machine instructions and the words of its tables, and where their distances lead
-- (cranelift-codegen, `emit.rs`).
use Rattle.std.specs.Prelude.{ℕ, ◌+◌, ◌-◌, List, [], ◌∷◌, ◌++◌, Option, Some, None, ℤ, cond}
use Rattle.s390x_base.specs.Regs.{number_of}
use Rattle.s390x_base.specs.declared.ir.ExternalName.{ExternalName}
use Rattle.s390x_base.specs.declared.ir.MachLabel.{MachLabel}
use Rattle.s390x_base.specs.declared.regs.Reg.{Reg}
use Rattle.s390x_base.specs.declared.trap.TrapKind.{TrapKind}
use Rattle.s390x_inst.specs.declared.calls.CallInstDest.{CallInstDest}
use Rattle.s390x_inst.specs.declared.calls.CallInstDest.TheVariants.{Direct, Indirect}
use Rattle.s390x_inst.specs.declared.calls.SymbolReloc.{SymbolReloc}
use Rattle.s390x_inst.specs.declared.calls.SymbolReloc.TheVariants.{Absolute}
use Rattle.s390x_inst.specs.declared.inst.Inst.{Inst}
use Rattle.s390x_inst.specs.declared.inst.Inst.TheVariants as I
use Rattle.s390x_rows.specs.declared.opcodes.TheConstants as opcodes
use Rattle.s390x_typed_steps.specs.General.{low_word}
use Rattle.s390x_typed_steps.specs.MachineInstruction.{MachineInstruction, size_of, format_e, rr, ri_b, ril_a, ril_c, ril_b, rxy}
use Rattle.s390x_typed_steps.specs.SingleInstruction.{SingleInstruction, single_instruction, stop_code}
use Rattle.s390x_inst.specs.declared.args.MemArg.{MemArg}
use Rattle.s390x_inst.specs.declared.args.MemArg.TheVariants.{Label, Constant, Symbol}
use Rattle.s390x_typed_steps.specs.Operands.{Finalized, finalized_operand, is_relative}
use Rattle.s390x_typed_steps.specs.Memory.{StorageForm, RxForm, MemoryInstruction, memory, loaded_memory, type_of, storage_row, address_form, fault_code}
use Rattle.s390x_typed_steps.specs.VectorComposite.{composite_rows}
use Rattle.s390x_typed_steps.specs.StepBody.{Site, AtCall, Remainder, NothingLeft, BranchLeft}
use Rattle.s390x_typed_steps.specs.Steps.{Step, Plain, LoadedStep, Shortened, Opening, Back, Break, CallingStep, NoLoadStep, TailOpeningStep, TailJumpStep}

-- where a distance leads
pub data Target : Type 0 where
  ToBlock : ℕ → Target
  ToStep : ℕ → Target

-- a machine instruction, or one with a distance whose target has no offset yet, or data
pub data CodePart : Type 0 where
  -- a machine instruction
  Row : MachineInstruction → CodePart
  -- a machine instruction with a trap recorded at one of its bytes: the code of a stop there
  Trapping : MachineInstruction → (byte : ℕ) → TrapKind → CodePart
  -- BRANCH RELATIVE ON CONDITION LONG under a mask
  Branch : (mask : ℕ) → Target → CodePart
  -- one of format RIL-B: a register, and an address relative to the instruction
  Relative : (opcode register : ℕ) → Target → CodePart
  -- one of format RIL-B: a register, and the address of a constant
  RelativeConstant : (opcode register constant : ℕ) → CodePart
  -- one of format RIL-B: a register, and a symbol's address plus an offset, to which linking fills in the distance
  RelativeSymbol : (opcode register : ℕ) → (name : ExternalName) → (offset : ℤ) → CodePart
  -- eight bytes that linking fills: a symbol's address plus an offset
  SymbolValue : (name : ExternalName) → (offset : ℤ) → CodePart
  -- no bytes: a trap recorded at the first byte of the next part
  TrapHere : TrapKind → CodePart
  -- a word of a table that begins so many bytes before it: the distance from the table's beginning to the target
  TableWord : (before : ℕ) → Target → CodePart
  -- BRANCH RELATIVE AND SAVE LONG of the return place into the link register, or without one BRANCH RELATIVE ON CONDITION LONG, which is always taken: to a
  -- symbol, to which linking fills in the distance
  CallSymbol : (link : Option ℕ) → (name : ExternalName) → CodePart
  -- no bytes: what is recorded behind a call
  SiteHere : Site → CodePart

-- a machine instruction whose stop by what it does has a code: the trap is recorded at its last byte
abbrev pub stopping : MachineInstruction → TrapKind → CodePart
stopping m code = Trapping m (size_of m - 1) code

-- an access: where its faults have a code, the trap is recorded at its first byte; none where there is no row
abbrev pub access_parts : Option MachineInstruction → Option TrapKind → List CodePart
access_parts None code = []
access_parts (Some m) None = Row m ∷ []
access_parts (Some m) (Some code) = Trapping m 0 code ∷ []

-- a trap recorded at the first byte of what follows, where its faults have a code
abbrev pub trap_here : Option TrapKind → List CodePart
trap_here None = []
trap_here (Some code) = TrapHere code ∷ []

-- a register and an operand that is relative to the instruction
abbrev pub relative_part : (opcode register : ℕ) → MemArg → List CodePart
relative_part opcode register (Label target) = Relative opcode register (ToBlock target.0) ∷ []
relative_part opcode register (Constant c) = RelativeConstant opcode register c.0 ∷ []
relative_part opcode register (Symbol name offset flags) = RelativeSymbol opcode register name offset ∷ []
relative_part opcode register m = []

-- an access by the row that takes such an operand; none where there is no row
abbrev pub relative_parts : StorageForm → Option TrapKind → MemArg → List CodePart
relative_parts (RxForm register rx_opcode rxy_opcode (Some opcode)) code m = trap_here code ++ relative_part opcode register m
relative_parts form code m = []

-- an access of an operand that stands in it as it is
abbrev pub operand_parts : StorageForm → Option TrapKind → MemArg → List CodePart
operand_parts form code m = cond (is_relative m) (relative_parts form code m) (access_parts (storage_row form m) code)

-- the parts of a helper, whose operand stands in it as it is
abbrev pub helper_parts : Inst → List CodePart
helper_parts (I.Mov64SImm32 rd imm) = Row (ril_a opcodes.LGFI (number_of rd) (low_word imm)) ∷ []
helper_parts (I.LoadAddr rd mem) = operand_parts (address_form rd) None mem
helper_parts _ = []

-- those of helpers, in order
abbrev pub helpers_parts : List Inst → List CodePart
helpers_parts [] = []
helpers_parts (i ∷ is) = helper_parts i ++ helpers_parts is

-- the helpers, and then the access
abbrev pub finalized_parts : StorageForm → Option TrapKind → Finalized → List CodePart
finalized_parts form code f = helpers_parts f.helpers ++ operand_parts form code f.operand

-- the parts of an instruction with a memory operand
abbrev pub memory_parts : MemoryInstruction → List CodePart
memory_parts x = finalized_parts x.form (fault_code x) (finalized_operand (type_of x.form x.accesses) x.operand)

-- the words of a table that leads to blocks, the first of them so many bytes behind the table's beginning
abbrev pub table_words : (before : ℕ) → List MachLabel → List CodePart
table_words before [] = []
table_words before (l ∷ ls) = TableWord before (ToBlock l.0) ∷ table_words (before + 4) ls

-- a branch to the other block under the mask. Else LOAD ADDRESS RELATIVE LONG of the table, seven halfwords on, into %r1; ADD (64 from 32 bits) of the word
-- at the index, which is counted in bytes; and a branch there. The table stands behind these
abbrev pub table_parts : (index mask other : ℕ) → List MachLabel → List CodePart
table_parts index mask other targets =
    Branch mask (ToBlock other) ∷ Row (ril_b opcodes.LARL 1 7) ∷ Row (rxy opcodes.AGF 1 1 index 0) ∷ Row (rr opcodes.BCR 15 1) ∷ table_words 0 targets

-- the symbol that a relocation names
abbrev pub name_in : SymbolReloc → ExternalName
name_in (Absolute name offset) = name

-- the offset that it adds to the symbol's address
abbrev pub offset_in : SymbolReloc → ℤ
offset_in (Absolute name offset) = offset

-- BRANCH RELATIVE AND SAVE to six halfwords on, over a doubleword, whose address goes into %r1; that doubleword; LOAD (64) of it
abbrev pub symbol_parts : (register : ℕ) → SymbolReloc → List CodePart
symbol_parts register reloc = Row (ri_b opcodes.BRAS 1 6) ∷ SymbolValue (name_in reloc) (offset_in reloc) ∷ Row (rxy opcodes.LG register 1 0 0) ∷ []

-- machine instructions one behind the other
abbrev pub row_parts : List MachineInstruction → List CodePart
row_parts [] = []
row_parts (m ∷ ms) = Row m ∷ row_parts ms

-- the parts of an instruction that names a place, goes elsewhere or ends the run; of any other, none: emission refuses it
abbrev pub branch_parts : Inst → List CodePart
branch_parts (I.Jump dest) = Branch 15 (ToBlock dest.0) ∷ []
branch_parts (I.CondBr taken not_taken mask) = Branch mask (ToBlock taken.0) ∷ Branch 15 (ToBlock not_taken.0) ∷ []
branch_parts (I.IndirectBr rn targets) = Row (rr opcodes.BCR 15 (number_of rn)) ∷ []
branch_parts (I.Ret link) = Row (rr opcodes.BCR 15 (number_of link)) ∷ []
branch_parts (I.JTSequence ridx other mask targets) = table_parts (number_of ridx) mask other.0 targets.items
branch_parts (I.LabelAddress dst label) = Relative opcodes.LARL (number_of dst) (ToBlock label.0) ∷ []
branch_parts (I.LoadSymbolReloc rd reloc) = symbol_parts (number_of rd) reloc
-- no machine instruction begins with a byte of zeros
branch_parts (I.Trap code) = stopping (format_e 0x0000) code ∷ []
-- a branch into its own bytes, to the zeros of its distance
branch_parts (I.TrapIf mask code) = Trapping (ril_c opcodes.BRCL mask 1) 3 code ∷ []
branch_parts I.Debugtrap = Row (format_e 0x0001) ∷ []
branch_parts (I.Vector v) = row_parts (composite_rows v)
branch_parts _ = []

-- a machine instruction whose stop may have a code
abbrev pub row_part : MachineInstruction → Option TrapKind → CodePart
row_part m None = Row m
row_part m (Some code) = stopping m code

-- an instruction that is one machine instruction has that part alone; another one has its own
abbrev pub parts_or : Option SingleInstruction → Option TrapKind → List CodePart → List CodePart
parts_or None code others = others
parts_or (Some x) code others = row_part x.row code ∷ []

-- an instruction with a memory operand has its helpers and its access; another one has its own parts
abbrev pub memory_or : Option MemoryInstruction → List CodePart → List CodePart
memory_or None others = others
memory_or (Some x) others = memory_parts x

-- the parts of an instruction
abbrev pub instruction_parts : Inst → List CodePart
instruction_parts i = parts_or (single_instruction i) (stop_code i) (memory_or (memory i) (branch_parts i))

-- the machine instruction of a call. BRANCH AND SAVE goes to the address in a register
abbrev pub call_part : (link : Reg) → CallInstDest → CodePart
call_part link (Direct name) = CallSymbol (Some (number_of link)) name
call_part link (Indirect reg) = Row (rr opcodes.BASR (number_of link) (number_of reg))

-- that of a tail call's jump
abbrev pub tail_part : CallInstDest → CodePart
tail_part (Direct name) = CallSymbol None name
tail_part (Indirect reg) = Row (rr opcodes.BCR 15 (number_of reg))

-- what is recorded behind it
abbrev pub site_parts : List Site → List CodePart
site_parts [] = []
site_parts (s ∷ ss) = SiteHere s ∷ site_parts ss

-- what is left of a step's branches
abbrev pub remainder_parts : Remainder → List CodePart
remainder_parts NothingLeft = []
remainder_parts (BranchLeft mask b) = Branch mask (ToBlock b) ∷ []

-- the parts of a step; an opening has none
abbrev pub step_parts : Step → List CodePart
step_parts (Plain i) = instruction_parts i
step_parts (Shortened r i) = remainder_parts r
step_parts (LoadedStep i) = memory_or (loaded_memory i) []
step_parts Opening = []
step_parts (Back mask target) = Branch mask (ToStep target) ∷ []
step_parts (Break mask target) = Branch mask (ToStep target) ∷ []
step_parts (CallingStep c) = call_part c.link c.target ∷ site_parts c.sites
step_parts NoLoadStep = []
step_parts (TailOpeningStep target first_saved is_lost) = []
step_parts (TailJumpStep target) = tail_part target ∷ site_parts (AtCall ∷ [])

-- the parts' sizes don't depend on where they lead
abbrev pub part_size : CodePart → ℕ
part_size (Row m) = size_of m
part_size (Trapping m byte code) = size_of m
part_size (Branch mask target) = 6
part_size (Relative opcode register target) = 6
part_size (RelativeConstant opcode register constant) = 6
part_size (RelativeSymbol opcode register name offset) = 6
part_size (SymbolValue name offset) = 8
part_size (TrapHere code) = 0
part_size (TableWord before target) = 4
part_size (CallSymbol link name) = 6
part_size (SiteHere site) = 0

-- how many bytes the parts have
abbrev pub parts_size : List CodePart → ℕ
parts_size [] = 0
parts_size (part ∷ parts) = part_size part + parts_size parts

-- how many bytes a step has
abbrev pub step_size : Step → ℕ
step_size s = parts_size (step_parts s)
