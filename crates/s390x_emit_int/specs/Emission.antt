-- The fragments of a tree of instructions, with label numbers.
use Rattle.s390x_rows.specs.declared.opcodes.TheConstants as opcodes
use Rattle.s390x_typed_steps.specs.Steps.{step_of}
use Rattle.std.specs.Prelude.{ℕ, ◌+◌, ◌-◌, pos, ◌+ℤ◌, List, [], ◌∷◌, ◌++◌, Option, Some, None}
use Rattle.std.specs.Int.{w64, to_be_bytes}
use Rattle.s390x_base.specs.declared.ir.Reloc.TheVariants.{S390xPCRel32Dbl, S390xPLTRel32Dbl, Abs8}
use Rattle.s390x_buffer.specs.declared.label_use.LabelUse.TheVariants.{BranchRIL, PCRel32}
use Rattle.s390x_inst.specs.declared.inst.Inst.{Inst}
use Rattle.s390x_inst.specs.declared.inst.Inst.TheVariants.{Jump, CondBr, CondBreak, JTSequence}
use Rattle.s390x_base.specs.Regs.{number_of}
use Rattle.s390x_base.specs.declared.ir.MachLabel.{MachLabel}
use Rattle.s390x_typed_steps.specs.Tree.{StepBody, Tree, Whole, empty, leaf, loop_node}
use Rattle.s390x_typed_steps.specs.MachineInstruction.{ril_b, ril_c, bytes_of, rr, rxy}
use Rattle.s390x_typed_steps.specs.Parts.{CodePart, Row, Trapping, Branch, Relative, RelativeConstant, RelativeSymbol, TableWord, ToBlock, ToStep, branch_parts, memory_parts, parts_size, instruction_parts, table_words, SymbolValue, TrapHere, CallSymbol, SiteHere, step_parts}
use Rattle.s390x_typed_steps.specs.Memory.{MemoryInstruction}
use Rattle.s390x_typed_steps.specs.Rows.{symbol_call, word_bytes}
use Rattle.s390x_typed_steps.specs.Causes.{body_fresh_labels, fresh_labels}
use Rattle.s390x_emit_int.specs.Fragments.{Fragment, Put, PutTrapping, PutReloc, Link, LinkConstant, StartStep, Draw, Bind, AddSite, RecordBranch, AlwaysTaken, TakenWhere}

-- a branch to a label, its distance still zero
abbrev pub branch : (mask label : ℕ) → Fragment
branch mask label = Link BranchRIL label (bytes_of (ril_c opcodes.BRCL mask 0))

-- a branch that is always taken, recorded for the end of its block
abbrev pub jump_fragments : (label : ℕ) → List Fragment
jump_fragments label = RecordBranch (AlwaysTaken label) ∷ branch 15 label ∷ []

-- a branch under the mask, recorded for the end of its block with its code under the inverse mask
abbrev pub where_fragments : (mask label : ℕ) → List Fragment
where_fragments mask label = RecordBranch (TakenWhere label (bytes_of (ril_c opcodes.BRCL (15 - mask) 0))) ∷ branch mask label ∷ []

-- a branch to one label under the mask, or else to the other, each recorded
abbrev pub choice_fragments : (mask taken not_taken : ℕ) → List Fragment
choice_fragments mask taken not_taken = where_fragments mask taken ++ jump_fragments not_taken

-- an address relative to the instruction, its distance still zero. The distance stands where a branch has it, and counts from the same place
abbrev pub relative_fragment : (opcode register label : ℕ) → Fragment
relative_fragment opcode register label = Link BranchRIL label (bytes_of (ril_b opcode register 0))

-- a word of a table, so far its distance from the table's beginning; the distance from the word to the label is added to it
abbrev pub table_word : (before label : ℕ) → Fragment
table_word before label = Link PCRel32 label (word_bytes before)

-- a block's label has the block's number
abbrev pub part_fragment : CodePart → Fragment
part_fragment (Row m) = Put (bytes_of m)
part_fragment (Trapping m byte code) = PutTrapping (bytes_of m) byte code
part_fragment (Branch mask (ToBlock b)) = branch mask b
part_fragment (Branch mask (ToStep k)) = branch mask k
part_fragment (Relative opcode register (ToBlock b)) = relative_fragment opcode register b
part_fragment (Relative opcode register (ToStep k)) = relative_fragment opcode register k
part_fragment (RelativeConstant opcode register c) = LinkConstant c (bytes_of (ril_b opcode register 0))
part_fragment (RelativeSymbol opcode register name offset) = PutReloc (bytes_of (ril_b opcode register 0)) 2 S390xPCRel32Dbl name (offset +ℤ pos 2)
part_fragment (SymbolValue name offset) = PutReloc (to_be_bytes w64 0) 0 Abs8 name offset
part_fragment (TrapHere code) = PutTrapping [] 0 code
part_fragment (TableWord before (ToBlock b)) = table_word before b
part_fragment (TableWord before (ToStep k)) = table_word before k
part_fragment (CallSymbol link name) = PutReloc (bytes_of (symbol_call link 0)) 2 S390xPLTRel32Dbl name (pos 2)
part_fragment (SiteHere site) = AddSite site

-- the fragments of parts, in order
abbrev pub part_fragments : List CodePart → List Fragment
part_fragments [] = []
part_fragments (part ∷ parts) = part_fragment part ∷ part_fragments parts

-- the machine instructions before a table with the label n
abbrev pub table_rows : (n index mask other : ℕ) → List Fragment
table_rows n index mask other = branch mask other ∷ relative_fragment opcodes.LARL 1 n ∷ Put (bytes_of (rxy opcodes.AGF 1 1 index 0)) ∷ Put (bytes_of (rr opcodes.BCR 15 1)) ∷ []

-- what stands before the words of a table: its label, the next to be drawn, is bound behind the machine instructions
abbrev pub table_head : (n index mask other : ℕ) → List Fragment
table_head n index mask other = Draw ∷ (table_rows n index mask other ++ Bind n ∷ [])

-- the fragments of a jump by a table
abbrev pub table_fragments : (n index mask other : ℕ) → List MachLabel → List Fragment
table_fragments n index mask other targets = table_head n index mask other ++ part_fragments (table_words 0 targets)

-- the fragments of an instruction that names a place, goes elsewhere or ends the run; the next label to be drawn is n, and `after` is the label
-- behind the innermost loop
abbrev pub branch_fragments : (n after : ℕ) → Inst → List Fragment
branch_fragments n after (Jump dest) = jump_fragments dest.0
branch_fragments n after (CondBr taken not_taken mask) = choice_fragments mask taken.0 not_taken.0
branch_fragments n after (CondBreak mask) = branch mask after ∷ []
branch_fragments n after (JTSequence ridx other mask targets) = table_fragments n (number_of ridx) mask other.0 targets.items
branch_fragments n after i = part_fragments (branch_parts i)

-- how many bytes they have
abbrev pub branch_size : Inst → ℕ
branch_size (CondBreak mask) = 6
branch_size i = parts_size (branch_parts i)

-- how many bytes an instruction with a memory operand has, or another one
abbrev pub memory_size_or : Option MemoryInstruction → ℕ → ℕ
memory_size_or None others = others
memory_size_or (Some x) others = parts_size (memory_parts x)

-- the fragments of an instruction that is no loop
abbrev pub leaf_fragments : (n after : ℕ) → Inst → List Fragment
leaf_fragments n after (Jump dest) = jump_fragments dest.0
leaf_fragments n after (CondBr taken not_taken mask) = choice_fragments mask taken.0 not_taken.0
leaf_fragments n after (CondBreak mask) = branch mask after ∷ []
leaf_fragments n after (JTSequence ridx other mask targets) = table_fragments n (number_of ridx) mask other.0 targets.items
leaf_fragments n after i = part_fragments (instruction_parts i)

-- the fragments of a body
abbrev pub body_fragments : (n after : ℕ) → StepBody → List Fragment
body_fragments n after (Whole i) = leaf_fragments n after i
body_fragments n after b = part_fragments (step_parts (step_of 0 b))

-- a loop's end: its back branch, and the label behind it
abbrev pub back_fragments : (start mask : ℕ) → List Fragment
back_fragments start mask = StartStep ∷ branch mask start ∷ Bind (start + 1) ∷ []

-- a step offset before each member; the next label to be drawn is n
abbrev pub fragments : (n after : ℕ) → Tree → List Fragment
fragments n after empty = []
fragments n after (leaf b rest) = StartStep ∷ (body_fragments n after b ++ fragments (n + body_fresh_labels b) after rest)
fragments n after (loop_node mask members rest) =
    StartStep ∷ Draw ∷ Draw ∷ Bind n ∷ (fragments (n + 2) (n + 1) members ++ (back_fragments n mask ++ fragments (n + 2 + fresh_labels members) after rest))

-- the fragments of what one member is made of, without the first step offset; behind a loop nothing else stands
abbrev pub own_fragments : (n after : ℕ) → Tree → List Fragment
own_fragments n after empty = []
own_fragments n after (leaf b rest) = body_fragments n after b ++ fragments (n + body_fresh_labels b) after rest
own_fragments n after (loop_node mask members rest) = Draw ∷ Draw ∷ Bind n ∷ (fragments (n + 2) (n + 1) members ++ back_fragments n mask)

-- each block's label is bound before its members
abbrev pub function_fragments : (n b : ℕ) → List Tree → List Fragment
function_fragments n b [] = []
function_fragments n b (t ∷ ts) = Bind b ∷ (fragments n 0 t ++ function_fragments (n + fresh_labels t) (b + 1) ts)
