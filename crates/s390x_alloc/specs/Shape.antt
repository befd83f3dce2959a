-- Where a block leads, and which instructions a plan can't be made for.
use Rattle.std.specs.Prelude.{ℕ, ◌+◌, ◌-◌, Bool, true, false, ◌&&◌, ◌||◌, not, is_some, nat_eq, nat_lt, List, [], ◌∷◌, length, slice_get, Option, Some, None, cond}
use Rattle.s390x_base.specs.declared.ir.MachLabel.{MachLabel}
use Rattle.s390x_inst.specs.declared.args.MemArg.{MemArg}
use Rattle.s390x_inst.specs.declared.args.MemArg.TheVariants.{Label}
use Rattle.s390x_inst.specs.declared.inst.Inst.{Inst}
use Rattle.s390x_inst.specs.declared.inst.Inst.TheVariants as I
use Rattle.s390x_inst.specs.Loads.{as_load, by_load}
use Rattle.s390x_inst.specs.Stores.{as_store, by_store}
use Rattle.s390x_inst.specs.Wholes.{as_whole, by_whole}
use Rattle.s390x_inst.specs.declared.vec_inst.VecInst.{VecInst}
use Rattle.s390x_inst.specs.declared.vec_inst.VecInst.TheVariants as V
use Rattle.s390x_operands.specs.Operands.{is_loop}

-- ---- where a block leads

-- how an instruction goes on where it is the last one of its block
pub data Ending : Type 0 where
  -- to one of the blocks with these labels
  leads_to : List MachLabel → Ending
  -- it leaves the function, or stops
  leaves : Ending
  -- to the next block
  falls : Ending

abbrev pub ending : Inst → Ending
ending (I.Jump dest) = leads_to (dest ∷ [])
ending (I.CondBr taken not_taken mask) = leads_to (taken ∷ not_taken ∷ [])
ending (I.IndirectBr rn targets) = leads_to targets.items
ending (I.JTSequence ridx default mask targets) = leads_to (default ∷ targets.items)
ending (I.Ret link) = leaves
ending (I.ReturnCall info) = leaves
ending (I.Trap code) = leaves
ending i = falls

-- where a last instruction leads; an empty block goes on to the next one
abbrev pub ending_of : Option Inst → Ending
ending_of None = falls
ending_of (Some i) = ending i

-- where a block's instructions lead
abbrev pub block_ending : List Inst → Ending
block_ending is = ending_of (slice_get is (length is - 1))

-- it names the blocks that it leads to
abbrev pub is_leading : Ending → Bool
is_leading (leads_to labels) = true
is_leading leaves = false
is_leading falls = false

-- nothing behind it runs
abbrev pub is_end : Ending → Bool
is_end (leads_to labels) = true
is_end leaves = true
is_end falls = false

-- a label is among these
abbrev pub is_label_in : List MachLabel → ℕ → Bool
is_label_in [] n = false
is_label_in (l ∷ ls) n = nat_eq l.0 n || is_label_in ls n

-- block `here` of `count` blocks, with this ending, has block n as a successor
abbrev pub ends_before : (count here : ℕ) → Ending → ℕ → Bool
ends_before count here (leads_to labels) n = is_label_in labels n
ends_before count here leaves n = false
ends_before count here falls n = nat_eq (here + 1) n && nat_lt n count

-- block `here` of `count` blocks, with these instructions, has block n as a successor
abbrev pub precedes : (count here : ℕ) → List Inst → ℕ → Bool
precedes count here is n = ends_before count here (block_ending is) n

-- ---- the labels that an instruction names

-- the operand in memory of a load or a store of elements
abbrev pub part_operand : VecInst → Option MemArg
part_operand (V.VecLoadReplicate size rd mem) = Some mem
part_operand (V.VecLoadReplicateRev size rd mem) = Some mem
part_operand (V.VecLoadLane size rd ri mem lane_imm) = Some mem
part_operand (V.VecLoadLaneRev size rd ri mem lane_imm) = Some mem
part_operand (V.VecLoadLaneUndef size rd mem lane_imm) = Some mem
part_operand (V.VecLoadLaneRevUndef size rd mem lane_imm) = Some mem
part_operand (V.VecStoreLane size rd mem lane_imm) = Some mem
part_operand (V.VecStoreLaneRev size rd mem lane_imm) = Some mem
part_operand v = None

-- the operand in memory of a vector instruction
abbrev pub vector_memory : VecInst → Option MemArg
vector_memory v = by_whole (λ w. Some w.mem) (part_operand v) (as_whole v)

-- the operand in memory of an instruction that is neither a load nor a store of one register
abbrev pub rest_operand : Inst → Option MemArg
rest_operand (I.AluRX alu_op rd ri mem) = Some mem
rest_operand (I.CmpRX op rn mem) = Some mem
rest_operand (I.StoreImm8 imm mem) = Some mem
rest_operand (I.StoreImm16 imm mem) = Some mem
rest_operand (I.StoreImm32SExt16 imm mem) = Some mem
rest_operand (I.StoreImm64SExt16 imm mem) = Some mem
rest_operand (I.LoadMultiple64 rt rt2 mem) = Some mem
rest_operand (I.StoreMultiple64 rt rt2 mem) = Some mem
rest_operand (I.LoadAddr rd mem) = Some mem
rest_operand (I.AtomicRmw alu_op rd rn mem) = Some mem
rest_operand (I.AtomicCas32 rd ri rn mem) = Some mem
rest_operand (I.AtomicCas64 rd ri rn mem) = Some mem
rest_operand (I.Vector v) = vector_memory v
rest_operand i = None

-- the operand in memory of an instruction that is no load of one register
abbrev pub other_operand : Inst → Option MemArg
other_operand i = by_store (λ s. Some s.mem) (rest_operand i) (as_store i)

-- the operand in memory of an instruction
abbrev pub memory_operand : Inst → Option MemArg
memory_operand i = by_load (λ l. Some l.mem) (other_operand i) (as_load i)

-- the label of an operand in memory
abbrev pub memory_labels : Option MemArg → List MachLabel
memory_labels None = []
memory_labels (Some (Label target)) = target ∷ []
memory_labels (Some mem) = []

-- all labels that an instruction names, but for the handlers of a call
abbrev pub named_labels : Inst → List MachLabel
named_labels (I.Jump dest) = dest ∷ []
named_labels (I.CondBr taken not_taken mask) = taken ∷ not_taken ∷ []
named_labels (I.IndirectBr rn targets) = targets.items
named_labels (I.JTSequence ridx default mask targets) = default ∷ targets.items
named_labels (I.LabelAddress dst label) = label ∷ []
named_labels i = memory_labels (memory_operand i)

-- ---- what a plan can't be made for

-- it is a call with handlers of exceptions
abbrev pub is_try_call : Inst → Bool
is_try_call (I.Call link info) = is_some info.try_call_info
is_try_call i = false

-- a loop, or a call with handlers
abbrev pub is_unsupported : Inst → Bool
is_unsupported i = is_loop i || is_try_call i

-- the first such instruction, where the first of these has this number
abbrev pub first_unsupported : (number : ℕ) → List Inst → Option ℕ
first_unsupported number [] = None
first_unsupported number (i ∷ is) = cond (is_unsupported i) (Some number) (first_unsupported (number + 1) is)

-- some label is none of so many blocks
abbrev pub names_no_block : (count : ℕ) → List MachLabel → Bool
names_no_block count [] = false
names_no_block count (l ∷ ls) = not (nat_lt l.0 count) || names_no_block count ls

abbrev pub is_empty : List Inst → Bool
is_empty is = nat_eq (length is) 0

-- an instruction leads to other blocks before the end of its own, or names a label that is no block
abbrev pub is_misshapen : (count : ℕ) → Inst → (behind : List Inst) → Bool
is_misshapen count i behind = (is_leading (ending i) && not (is_empty behind)) || names_no_block count (named_labels i)

-- the first such instruction, where the first of these has this number
abbrev pub first_misshapen : (count number : ℕ) → List Inst → Option ℕ
first_misshapen count number [] = None
first_misshapen count number (i ∷ is) = cond (is_misshapen count i is) (Some number) (first_misshapen count (number + 1) is)
