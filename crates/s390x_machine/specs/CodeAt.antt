-- What has to be told of an image: that each step's bytes lie in it at the step's offset.
use Rattle.std.specs.Prelude.{◌≡◌, ℕ, ℤ, suc, ◌+◌, pos, ◌+ℤ◌, ◌*ℤ◌, ◌%◌, ◌^◌, ◌<◌, ◌≤◌, List, [], ◌∷◌, ◌++◌, length, get_or, ◌-◌, ◌⊎◌, ◌&&◌, not, IsTrue, Option, Some, None, slice_get}
use Rattle.std.specs.Int.{w32, cast_signed}
use Rattle.s390x_buffer.specs.State.{is_alignment}
use Rattle.s390x_base.specs.declared.ir.ExternalName.{ExternalName}
use Rattle.s390x_base.specs.declared.ir.MachLabel.{MachLabel}
use Rattle.s390x_inst.specs.declared.inst.Inst.{Inst}
use Rattle.s390x_inst.specs.declared.inst.Inst.TheVariants as I
use Rattle.s390x_typed_steps.specs.SingleInstruction.{SingleInstruction, single_instruction}
use Rattle.s390x_typed_steps.specs.General.{is_general, is_nonzero, is_scratch}
use Rattle.s390x_typed_steps.specs.Calls.{is_target}
use Rattle.s390x_typed_steps.specs.Causes.{loses_scratch, target_cause}
use Rattle.s390x_typed_steps.specs.Memory.{MemoryInstruction, memory, loaded_memory, type_of}
use Rattle.s390x_typed_steps.specs.Operands.{has_form, operand_general, offset_fits}
use Rattle.s390x_typed_steps.specs.Ranges.{IsConditionMask, OperandInRange}
use Rattle.s390x_typed_steps.specs.StepBody.{Remainder, NothingLeft, BranchLeft}
use Rattle.s390x_typed_steps.specs.Steps.{Step, Plain, LoadedStep, Shortened, Opening, Back, Break, CallingStep, NoLoadStep, TailOpeningStep, TailJumpStep}
use Rattle.s390x_typed_steps.specs.Parts.{CodePart, RelativeConstant, RelativeSymbol, CallSymbol, part_size, step_parts, step_size}
use Rattle.s390x_typed_steps.specs.VectorComposite.{composite_cause}
use Rattle.s390x_typed_steps.specs.Rows.{step_bytes}
use Rattle.s390x_typed_steps.specs.Traps.{step_traps, first_code}
use Rattle.s390x_operations.specs.Numbers.{low}
use Rattle.s390x_operations.specs.State.{wrapping_add64}
use Rattle.s390x_operations.specs.declared.size.Size.TheVariants.{Doubleword}
use Rattle.s390x_machine.specs.Layout.{Layout, constant_address, declarations}

-- the number is a block's
abbrev pub IsBlock : Layout → ℕ → Type 0
IsBlock L b = b < L.block_count

-- each label's number is a block's
abbrev pub AreBlocks : Layout → List MachLabel → Type 0
AreBlocks L [] = Unit {0}
AreBlocks L (l ∷ ls) = IsBlock L l.0 × AreBlocks L ls

-- what emission has checked of an instruction that names a place, goes elsewhere or ends the run: its register is a real general one, that of a branch none
-- of `%r0`, that of a table's index neither `%r0` nor `%r1`, its blocks are there, and its mask is one of a condition
abbrev pub IsValidBranch : Layout → Inst → Type 0
IsValidBranch L (I.Jump dest) = IsBlock L dest.0
IsValidBranch L (I.CondBr taken not_taken mask) = IsBlock L taken.0 × IsBlock L not_taken.0 × IsConditionMask mask
IsValidBranch L (I.IndirectBr rn targets) = IsTrue (is_general rn) × IsTrue (is_nonzero rn) × AreBlocks L targets.items
IsValidBranch L (I.Ret link) = IsTrue (is_general link) × IsTrue (is_nonzero link)
IsValidBranch L (I.JTSequence ridx other mask targets) =
    IsTrue (is_general ridx) × IsTrue (is_nonzero ridx) × IsTrue (not (is_scratch ridx)) × IsBlock L other.0 × AreBlocks L targets.items × IsConditionMask mask
IsValidBranch L I.Nop0 = Unit {0}
IsValidBranch L (I.Args args) = Unit {0}
IsValidBranch L (I.Rets rets) = Unit {0}
IsValidBranch L (I.DummyUse reg) = Unit {0}
IsValidBranch L I.SequencePoint = Unit {0}
IsValidBranch L (I.LabelAddress dst label) = IsTrue (is_general dst) × IsBlock L label.0
IsValidBranch L (I.LoadSymbolReloc rd reloc) = IsTrue (is_general rd)
IsValidBranch L (I.Trap code) = Unit {0}
IsValidBranch L (I.TrapIf mask code) = IsConditionMask mask
IsValidBranch L I.Debugtrap = Unit {0}
IsValidBranch L (I.Vector v) = composite_cause v ≡ None
IsValidBranch L _ = ⊥

-- of an instruction that is one machine instruction, that its registers may stand there; of another one, what is asked of it
abbrev pub OperandsValidOr : Option SingleInstruction → Type 0 → Type 0
OperandsValidOr None others = others
OperandsValidOr (Some x) others = IsTrue x.operands_valid

-- of an instruction with a memory operand: its rows have a form for the operand, its registers may stand there, no helper writes a register that is
-- read after it, the offset and the displacement lie in their ranges, and the block or constant that it names is there and stands on its boundary
pub record IsValidMemory (L : Layout) (x : MemoryInstruction) : Type 0 where
  pub form : IsTrue (has_form (type_of x.form x.accesses) x.operand)
  pub registers : IsTrue (x.operands_valid && operand_general x.operand)
  pub kept : IsTrue (not (loses_scratch x))
  pub offset : IsTrue (offset_fits x.operand)
  pub range : OperandInRange x.operand
  pub target : target_cause (declarations L) x ≡ None

-- an instruction with a memory operand is so; of another one, what is asked of it
abbrev pub ValidMemoryOr : Layout → Option MemoryInstruction → Type 0 → Type 0
ValidMemoryOr L None others = others
ValidMemoryOr L (Some x) others = IsValidMemory L x

-- what emission has checked of an instruction: it has rows, and its registers may stand where they do
abbrev pub IsValidInstruction : Layout → Inst → Type 0
IsValidInstruction L i = OperandsValidOr (single_instruction i) (ValidMemoryOr L (memory i) (IsValidBranch L i))

-- what emission has checked of a step: of an instruction its own; of a branch of a loop that its mask is one of a condition,
-- and that it leads to a step or past the last one; of an instruction whose operand's address is loaded first, what is asked of its other rows; of a call and of a tail call's jump that their registers may stand there
abbrev pub IsValidStep : Layout → Step → Type 0
IsValidStep L (Plain i) = IsValidInstruction L i
IsValidStep L (Shortened r i) = IsValidInstruction L i
IsValidStep L (LoadedStep i) = ValidMemoryOr L (loaded_memory i) ⊥
IsValidStep L Opening = Unit {0}
IsValidStep L (Back mask target) = IsConditionMask mask × (target ≤ length L.steps)
IsValidStep L (Break mask target) = IsConditionMask mask × (target ≤ length L.steps)
IsValidStep L (CallingStep c) = IsTrue (is_general c.link) × IsTrue (is_target c.target)
IsValidStep L NoLoadStep = ⊥
IsValidStep L (TailOpeningStep target first_saved is_lost) = Unit {0}
IsValidStep L (TailJumpStep target) = IsTrue (is_target target)

-- the branches that the end of a block left away lead to the next step, and what is left does what the others did
abbrev pub LeadsOn : Layout → (k : ℕ) → Remainder → Inst → Type 0
LeadsOn L k NothingLeft (I.Jump dest) = L.first_step dest.0 ≡ suc k
LeadsOn L k NothingLeft (I.CondBr taken not_taken mask) = (L.first_step taken.0 ≡ suc k) × (L.first_step not_taken.0 ≡ suc k)
LeadsOn L k (BranchLeft m b) (I.CondBr taken not_taken mask) =
    ((m ≡ mask) × (b ≡ taken.0) × (L.first_step not_taken.0 ≡ suc k)) ⊎ ((m ≡ 15 - mask) × (b ≡ not_taken.0) × (L.first_step taken.0 ≡ suc k))
LeadsOn L k r i = ⊥

-- of a step that has lost branches, that it leads on so
abbrev pub IsFoldedRight : Layout → (k : ℕ) → Step → Type 0
IsFoldedRight L k (Shortened r i) = LeadsOn L k r i
IsFoldedRight L k s = Unit {0}

-- the distance to a symbol plus an offset leads from a part's beginning to what the symbol's doubleword would hold
abbrev pub SymbolReached : Layout → ℕ → ExternalName → ℤ → Type 0
SymbolReached L p name offset =
    let half = L.offsets.environment.symbol_distance p name offset in
    (half < 2 ^ 32) × (low Doubleword (pos (wrapping_add64 L.image.base p) +ℤ pos 2 *ℤ cast_signed w32 half) ≡ L.offsets.environment.symbol_value name offset)

-- the distance of a part that is relative to a symbol leads from its beginning to what the symbol's doubleword would hold
abbrev pub PartReaches : Layout → ℕ → CodePart → Type 0
PartReaches L p (RelativeSymbol opcode register name offset) = SymbolReached L p name offset
PartReaches L p (CallSymbol link name) = SymbolReached L p name (pos 0)
PartReaches L p _ = Unit {0}

-- each part from an offset on that is relative to a symbol leads to what the symbol's doubleword would hold
abbrev pub PartsReach : Layout → ℕ → List CodePart → Type 0
PartsReach L p [] = Unit {0}
PartsReach L p (part ∷ parts) = PartReaches L p part × PartsReach L (p + part_size part) parts

-- a declared constant stands at an even offset in the image or at its end, and on its boundary
pub record ConstantStands (L : Layout) (c : ℕ) : Type 0 where
  pub within : L.offsets.environment.constant c ≤ length L.image.bytes
  pub even : L.offsets.environment.constant c % 2 ≡ 0
  pub alignment : IsTrue (is_alignment (get_or L.offsets.environment.aligns c 0))
  pub aligned : constant_address L c % get_or L.offsets.environment.aligns c 0 ≡ 0

-- the step's bytes stand in the image at its offset, and the next step stands behind them; inside them the table has the step's traps and no others
pub record CodeAt (L : Layout) (k : ℕ) (s : Step) : Type 0 where
  pub earlier : List ℕ
  pub later : List ℕ
  pub offset : L.offsets.step k ≡ length earlier
  pub bytes : L.image.bytes ≡ earlier ++ (step_bytes L.offsets (L.offsets.step k) s ++ later)
  pub size : L.offsets.step (suc k) ≡ L.offsets.step k + step_size s
  pub traps : (offset : ℕ) → L.offsets.step k ≤ offset → offset < L.offsets.step (suc k) → first_code L.traps offset ≡ first_code (step_traps (L.offsets.step k) s) offset
  pub valid : IsValidStep L s
  pub folded : IsFoldedRight L k s
  pub reached : PartsReach L (L.offsets.step k) (step_parts s)

-- an even offset below the limit of a distance
abbrev pub IsPlace : ℕ → Type 0
IsPlace offset = (offset % 2 ≡ 0) × (offset < 2 ^ 31)

-- An image at an even address below 2 ^ 64, shorter than 2 ^ 31 bytes. Its steps and blocks have places; of the bytes there nothing is told. A block's first step may be any
-- number, also one past the last step
pub record ImageAt (L : Layout) : Type 0 where
  pub even : L.image.base % 2 ≡ 0
  pub fits : L.image.base + length L.image.bytes ≤ 2 ^ 64
  pub short : length L.image.bytes < 2 ^ 31
  pub step_places : (k : ℕ) → k ≤ length L.steps → IsPlace (L.offsets.step k)
  pub block_places : (b : ℕ) → IsBlock L b → IsPlace (L.offsets.block b)
  pub blocks : (b : ℕ) → IsBlock L b → L.offsets.block b ≡ L.offsets.step (L.first_step b)

-- one of the parts names the constant by its distance
abbrev pub NamesConstant : ℕ → List CodePart → Type 0
NamesConstant c [] = ⊥
NamesConstant c (RelativeConstant opcode register d ∷ parts) = (d ≡ c) ⊎ NamesConstant c parts
NamesConstant c (part ∷ parts) = NamesConstant c parts

-- a step's code lies at its offset in such an image, and each constant that it names by its distance stands there. Nothing is asked of the bytes around
pub record StepAt (L : Layout) (k : ℕ) (s : Step) : Type 0 where
  pub image : ImageAt L
  pub at : slice_get L.steps k ≡ Some s
  pub code : CodeAt L k s
  pub constants : (c : ℕ) → c < length L.offsets.environment.aligns → NamesConstant c (step_parts s) → ConstantStands L c

-- each step's code lies where its offset says, and the first one at the beginning; each block stands where its first step does, and each constant. The image lies at an even address
-- below 2 ^ 64 and is shorter than 2 ^ 31 bytes
pub record AllCodeAt (L : Layout) : Type 0 where
  pub even : L.image.base % 2 ≡ 0
  pub fits : L.image.base + length L.image.bytes ≤ 2 ^ 64
  pub short : length L.image.bytes < 2 ^ 31
  pub begins : L.offsets.step 0 ≡ 0
  pub steps : (k : ℕ) (s : Step) → slice_get L.steps k ≡ Some s → CodeAt L k s
  pub first_steps : (b : ℕ) → IsBlock L b → L.first_step b ≤ length L.steps
  pub blocks : (b : ℕ) → IsBlock L b → L.offsets.block b ≡ L.offsets.step (L.first_step b)
  pub constants : (c : ℕ) → c < length L.offsets.environment.aligns → ConstantStands L c
