-- Why emission refuses an instruction: the first cause, in the order of the steps.
pub use Rattle.s390x_typed_steps.specs.Operands.{is_helped}
use Rattle.std.specs.Prelude.{ℕ, ◌+◌, ◌-◌, pos, ◌+ℤ◌, List, [], ◌∷◌, length, map, get_or, Bool, true, cond, not, ◌&&◌, ◌||◌, nat_eq, nat_le, nat_lt, Option, Some, None}
use Rattle.s390x_base.specs.declared.ir.MachLabel.{MachLabel}
use Rattle.s390x_base.specs.declared.regs.Reg.{Reg}
use Rattle.s390x_base.specs.declared.error.EmitError.{EmitError}
use Rattle.s390x_base.specs.declared.error.EmitError.TheVariants.{MissingFacility, BadOperator, BadRegister, ScratchConflict, OffsetOutOfRange, BreakOutsideLoop, BadStackState, UnboundLabel, BadAlignment, LabelOutOfRange}
use Rattle.s390x_buffer.specs.State.{BufferState, Constant as DeclaredConstant}
use Rattle.s390x_inst.specs.declared.args.MemArg.{MemArg}
use Rattle.s390x_inst.specs.declared.args.MemArg.TheVariants.{Label, Constant, Symbol}
use Rattle.s390x_inst.specs.declared.calls.CallInstDest.{CallInstDest}
use Rattle.s390x_inst.specs.declared.inst.Inst.{Inst}
use Rattle.s390x_inst.specs.declared.inst.Inst.TheVariants as I
use Rattle.s390x_inst.specs.declared.state.IsaFlags.{IsaFlags}
use Rattle.s390x_inst.specs.Facilities.{facility_of, has_facility}
use Rattle.s390x_typed_steps.specs.Calls.{is_target, is_first_saved, site_labels}
use Rattle.s390x_typed_steps.specs.General.{is_general, is_nonzero, is_scratch}
use Rattle.s390x_typed_steps.specs.SingleInstruction.{SingleInstruction, single_instruction}
use Rattle.s390x_typed_steps.specs.Operands.{finalized_operand, is_relative, has_form, needs_address, fits_32, loses_base, offset_fits, operand_general}
use Rattle.s390x_typed_steps.specs.Memory.{StorageForm, RxForm, MemoryInstruction, memory, loaded_memory, type_of}
use Rattle.s390x_typed_steps.specs.Stack.{nominal_after}
use Rattle.s390x_typed_steps.specs.StepBody.{Calling}
use Rattle.s390x_typed_steps.specs.Storage.{relative_bytes}
use Rattle.s390x_typed_steps.specs.VectorComposite.{composite_cause}
use Rattle.s390x_typed_steps.specs.declared.mem_inst_type.MemInstType.{MemInstType}
use Rattle.s390x_typed_steps.specs.Tree.{Remainder, NothingLeft, BranchLeft, StepBody, Tree, Whole, Loaded, Folded, CallStep, NoLoad, TailOpening, TailJump, empty, leaf, loop_node}

-- the first of two causes
abbrev pub first_emit_cause : Option EmitError → Option EmitError → Option EmitError
first_emit_cause None later = later
first_emit_cause (Some e) later = Some e

-- no cause where a test holds, else this one
abbrev pub unless : Bool → EmitError → Option EmitError
unless holds e = cond holds None (Some e)

-- a cause: the label names no block
abbrev pub target_label_cause : ℕ → MachLabel → Option EmitError
target_label_cause blocks l = unless (nat_lt l.0 blocks) UnboundLabel

-- a cause: one of the labels names no block
abbrev pub labels_cause : ℕ → List MachLabel → Option EmitError
labels_cause blocks [] = None
labels_cause blocks (l ∷ ls) = first_emit_cause (target_label_cause blocks l) (labels_cause blocks ls)

-- the causes of a jump by a table: the index can't be added as an index, it stands where the table's address goes, or a label names no block
abbrev pub table_cause : (blocks : ℕ) → (index : Reg) → (other : MachLabel) → List MachLabel → Option EmitError
table_cause blocks index other targets =
    first_emit_cause (unless (is_general index && is_nonzero index) BadRegister) (first_emit_cause (unless (not (is_scratch index)) ScratchConflict) (first_emit_cause (target_label_cause blocks other) (labels_cause blocks targets)))

-- the causes of an instruction that names a place, goes elsewhere or ends the run, inside so many loops; any other is refused
abbrev pub branch_cause : (blocks depth : ℕ) → Inst → Option EmitError
branch_cause blocks depth (I.Jump dest) = target_label_cause blocks dest
branch_cause blocks depth (I.CondBr taken not_taken mask) = first_emit_cause (target_label_cause blocks taken) (target_label_cause blocks not_taken)
branch_cause blocks depth (I.IndirectBr rn targets) = first_emit_cause (unless (is_general rn && is_nonzero rn) BadRegister) (labels_cause blocks targets.items)
branch_cause blocks depth (I.Ret link) = unless (is_general link && is_nonzero link) BadRegister
branch_cause blocks depth (I.JTSequence ridx other mask targets) = table_cause blocks ridx other targets.items
branch_cause blocks depth (I.CondBreak mask) = unless (nat_lt 0 depth) BreakOutsideLoop
branch_cause blocks depth I.Nop0 = None
branch_cause blocks depth (I.LabelAddress dst label) = first_emit_cause (unless (is_general dst) BadRegister) (target_label_cause blocks label)
branch_cause blocks depth (I.LoadSymbolReloc rd reloc) = unless (is_general rd) BadRegister
branch_cause blocks depth (I.Trap code) = None
branch_cause blocks depth (I.TrapIf mask code) = None
branch_cause blocks depth I.Debugtrap = None
branch_cause blocks depth (I.Args args) = None
branch_cause blocks depth (I.Rets rets) = None
branch_cause blocks depth (I.DummyUse reg) = None
branch_cause blocks depth I.SequencePoint = None
branch_cause blocks depth (I.Vector v) = composite_cause v
branch_cause blocks depth _ = Some BadOperator

-- the causes of an operand: no row has a form for it, its offset is loaded over its base, its exact offset doesn't fit 32 bits
abbrev pub operand_cause : MemInstType → MemArg → Option EmitError
operand_cause type m = first_emit_cause (unless (has_form type m) BadOperator) (first_emit_cause (unless (not (loses_base m)) ScratchConflict) (unless (offset_fits m) OffsetOutOfRange))

-- what an instruction may name: so many blocks, and constants with these alignments
pub record Declared : Type 0 where
  pub blocks : ℕ
  pub aligns : List ℕ

-- the constants' alignments
abbrev pub aligns_of : List DeclaredConstant → List ℕ
aligns_of cs = map (λ (c : DeclaredConstant). c.align) cs

-- what the instructions of a buffer may name
abbrev pub declared_in : BufferState → Declared
declared_in s = record { blocks = s.block_count; aligns = aligns_of s.constants }

-- what the instructions of a function may name
abbrev pub declared_of : List Tree → List DeclaredConstant → Declared
declared_of ts cs = record { blocks = length ts; aligns = aligns_of cs }

-- a helper writes %r1 before it is read, as the base of the operand or by the access
abbrev pub loses_scratch : MemoryInstruction → Bool
loses_scratch x = loses_base x.operand || (x.reads_scratch && is_helped (finalized_operand (type_of x.form x.accesses) x.operand).helpers)

-- a relocation's addend is the offset plus 2, since its field stands two bytes behind the instruction's beginning
abbrev pub addend_fits : MemArg → Bool
addend_fits (Symbol name offset flags) = fits_32 (offset +ℤ pos 2)
addend_fits m = true

-- the causes behind those of the rows and the registers
abbrev pub late_cause : MemoryInstruction → Option EmitError
late_cause x = first_emit_cause (unless (not (loses_scratch x)) ScratchConflict) (unless (offset_fits x.operand && addend_fits x.operand) OffsetOutOfRange)

-- a cause: the operand's label names no block, or its constant isn't declared
abbrev pub bound_cause : Declared → MemArg → Option EmitError
bound_cause D (Label target) = target_label_cause D.blocks target
bound_cause D (Constant c) = unless (nat_lt c.0 (length D.aligns)) UnboundLabel
bound_cause D m = None

-- an access of an operand that stands in it relative to the instruction, by so many bytes
abbrev pub relative_access : StorageForm → MemInstType → (accesses : Bool) → MemArg → ℕ
relative_access (RxForm register rx_opcode rxy_opcode (Some opcode)) mi accesses m = cond (accesses && is_relative m && not (needs_address mi m)) (relative_bytes opcode) 1
relative_access form mi accesses m = 1

-- the boundary on which such an operand has to stand; 1 where the access is none of these
abbrev pub boundary : MemoryInstruction → ℕ
boundary x = relative_access x.form (type_of x.form x.accesses) x.accesses x.operand

-- a cause: nothing tells that the operand stands on the boundary. Code stands at even places, and constants as they are declared; of symbols the
-- flags told it
abbrev pub alignment_cause : Declared → (boundary : ℕ) → MemArg → Option EmitError
alignment_cause D boundary (Label target) = unless (nat_le boundary 2) BadAlignment
alignment_cause D boundary (Constant c) = unless (nat_le boundary (get_or D.aligns c.0 0)) BadAlignment
alignment_cause D boundary m = None

-- the causes of the place that an operand names
abbrev pub target_cause : Declared → MemoryInstruction → Option EmitError
target_cause D x = first_emit_cause (bound_cause D x.operand) (alignment_cause D (boundary x) x.operand)

-- the causes of an instruction with a memory operand
abbrev pub memory_cause : Declared → MemoryInstruction → Option EmitError
memory_cause D x =
    first_emit_cause (unless (has_form (type_of x.form x.accesses) x.operand) BadOperator)
    (first_emit_cause (unless (x.operands_valid && operand_general x.operand) BadRegister)
    (first_emit_cause (late_cause x) (target_cause D x)))

-- an instruction with a memory operand has these; another one has its own causes
abbrev pub memory_cause_or : Declared → Option MemoryInstruction → Option EmitError → Option EmitError
memory_cause_or D None others = others
memory_cause_or D (Some x) others = memory_cause D x

-- an instruction that is one machine instruction is refused for its registers alone; another one has its own causes
abbrev pub cause_or : Option SingleInstruction → Option EmitError → Option EmitError
cause_or None others = others
cause_or (Some x) others = unless x.operands_valid BadRegister

-- a cause: the machine, by its flags, lacks the facility that the instruction needs
abbrev pub facility_cause : IsaFlags → Inst → Option EmitError
facility_cause flags i = unless (has_facility flags (facility_of i)) MissingFacility

-- a cause: arguments are allocated where some already are, or in a loop
abbrev pub stack_cause : (nominal depth : ℕ) → Inst → Option EmitError
stack_cause nominal depth (I.AllocateArgs size) = unless (nat_eq nominal 0 && nat_eq depth 0) BadStackState
stack_cause nominal depth _ = None

-- the causes of an instruction that is no `Loop`, at a nominal size and inside so many loops: its facility first. What has a cause by the stack sizes
-- has none of the later ones
abbrev pub instruction_cause : IsaFlags → Declared → (nominal depth : ℕ) → Inst → Option EmitError
instruction_cause flags D nominal depth i =
    first_emit_cause (facility_cause flags i) (first_emit_cause (stack_cause nominal depth i) (cause_or (single_instruction i) (memory_cause_or D (memory i) (branch_cause D.blocks depth i))))

-- label numbers end below 2 ^ 32; n are in use, and so many more are drawn
abbrev pub numbers_cause : (n more : ℕ) → Option EmitError
numbers_cause n more = unless (nat_lt (n + more) 4294967297) LabelOutOfRange

-- how many labels an instruction draws that is no `Loop`: one for a table
abbrev pub instruction_fresh_labels : Inst → ℕ
instruction_fresh_labels (I.JTSequence ridx other mask targets) = 1
instruction_fresh_labels _ = 0

-- the causes of an instruction that is no `Loop`, with n labels in use: its own, and the numbers of the labels that it draws
abbrev pub leaf_cause : IsaFlags → Declared → (n nominal depth : ℕ) → Inst → Option EmitError
leaf_cause flags D n nominal depth i = first_emit_cause (instruction_cause flags D nominal depth i) (numbers_cause n (instruction_fresh_labels i))

-- the causes of an instruction whose operand's address is loaded first: those that it has where no row is relative to it
abbrev pub loaded_cause : IsaFlags → Declared → (n : ℕ) → Inst → Option EmitError
loaded_cause flags D n i = first_emit_cause (first_emit_cause (facility_cause flags i) (memory_cause_or D (loaded_memory i) (Some BadOperator))) (numbers_cause n 0)

-- how many labels a body draws
abbrev pub body_fresh_labels : StepBody → ℕ
body_fresh_labels (Whole i) = instruction_fresh_labels i
body_fresh_labels _ = 0

-- the causes of a call: a register can't be encoded there, or its target is `%r0`; it takes from the stack another size than the allocated one, or any in a loop;
-- a handler's label names no block
abbrev pub call_cause : (blocks nominal depth : ℕ) → Calling → Option EmitError
call_cause blocks nominal depth c =
    first_emit_cause (unless (is_general c.link && is_target c.target) BadRegister)
    (first_emit_cause (unless (nat_eq c.popped nominal && (nat_eq c.popped 0 || nat_eq depth 0)) BadStackState) (labels_cause blocks (site_labels c.sites)))

-- the causes of a tail call before its frame is taken down: its target can't be called, or the saved registers begin at none of 6 to 14; the target is lost
abbrev pub tail_cause : CallInstDest → (first_saved : Option ℕ) → (is_lost : Bool) → Option EmitError
tail_cause target first_saved is_lost = first_emit_cause (unless (is_target target && is_first_saved first_saved) BadRegister) (unless (not is_lost) ScratchConflict)

-- a cause: what is left of an instruction's branches names no block
abbrev pub remainder_cause : (blocks : ℕ) → Remainder → Option EmitError
remainder_cause blocks NothingLeft = None
remainder_cause blocks (BranchLeft mask b) = unless (nat_lt b blocks) UnboundLabel

-- the causes of a body, with n labels in use. A tail call's jump has none that its opening hasn't
abbrev pub body_cause : IsaFlags → Declared → (n nominal depth : ℕ) → StepBody → Option EmitError
body_cause flags D n nominal depth (Whole i) = leaf_cause flags D n nominal depth i
body_cause flags D n nominal depth (Folded r i) = first_emit_cause (leaf_cause flags D n nominal depth i) (remainder_cause D.blocks r)
body_cause flags D n nominal depth (Loaded i) = loaded_cause flags D n i
body_cause flags D n nominal depth (CallStep c) = call_cause D.blocks nominal depth c
body_cause flags D n nominal depth NoLoad = Some BadOperator
body_cause flags D n nominal depth (TailOpening target first_saved is_lost) = tail_cause target first_saved is_lost
body_cause flags D n nominal depth (TailJump target) = unless (is_target target) BadRegister

-- the nominal size behind a body
abbrev pub body_nominal_after : (nominal : ℕ) → StepBody → ℕ
body_nominal_after nominal (Whole i) = nominal_after nominal i
body_nominal_after nominal (Folded r i) = nominal_after nominal i
body_nominal_after nominal (CallStep c) = nominal - c.popped
body_nominal_after nominal _ = nominal

-- how many labels a tree draws: two for each loop, and one for each table
abbrev pub fresh_labels : Tree → ℕ
fresh_labels empty = 0
fresh_labels (leaf b rest) = body_fresh_labels b + fresh_labels rest
fresh_labels (loop_node mask members rest) = 2 + fresh_labels members + fresh_labels rest

-- how deep loops may be nested
abbrev pub nesting_cause : ℕ → Option EmitError
nesting_cause depth = unless (nat_lt depth 8) BadOperator

-- the nominal size behind a tree; in a loop it doesn't change
abbrev pub nominal_behind : (nominal : ℕ) → Tree → ℕ
nominal_behind nominal empty = nominal
nominal_behind nominal (leaf b rest) = nominal_behind (body_nominal_after nominal b) rest
nominal_behind nominal (loop_node mask members rest) = nominal_behind nominal rest

-- the first cause in a tree, at a nominal size and inside so many loops, with n labels in use
abbrev pub tree_cause : IsaFlags → Declared → (n nominal depth : ℕ) → Tree → Option EmitError
tree_cause flags D n nominal depth empty = None
tree_cause flags D n nominal depth (leaf b rest) =
    first_emit_cause (body_cause flags D n nominal depth b) (tree_cause flags D (n + body_fresh_labels b) (body_nominal_after nominal b) depth rest)
tree_cause flags D n nominal depth (loop_node mask members rest) =
    first_emit_cause
    (first_emit_cause (first_emit_cause (nesting_cause depth) (numbers_cause n 2)) (tree_cause flags D (n + 2) nominal (depth + 1) members))
    (tree_cause flags D (n + 2 + fresh_labels members) nominal depth rest)

-- the causes of a block, which begins at the nominal size 0 and has to end there
abbrev pub block_cause : IsaFlags → Declared → (n : ℕ) → Tree → Option EmitError
block_cause flags D n t = first_emit_cause (tree_cause flags D n 0 0 t) (unless (nat_eq (nominal_behind 0 t) 0) BadStackState)

-- the first cause in the blocks
abbrev pub blocks_cause : IsaFlags → Declared → (n : ℕ) → List Tree → Option EmitError
blocks_cause flags D n [] = None
blocks_cause flags D n (t ∷ ts) = first_emit_cause (block_cause flags D n t) (blocks_cause flags D (n + fresh_labels t) ts)
