-- For which instructions it suffices that an allocator's registers meet the constraints.
use Rattle.std.specs.Prelude.{◌≡◌, ℕ, ◌<◌, Bool, true, false, ◌&&◌, List, [], ◌∷◌, Option, Some, None, ◌⊎◌, ⊤}
use Rattle.std.specs.List.{All}
use Rattle.s390x_base.specs.Registers.{IsRegister, general}
use Rattle.s390x_base.specs.declared.error.EmitError.{EmitError}
use Rattle.s390x_base.specs.declared.error.EmitError.TheVariants.{BadOperator, BadRegister, ScratchConflict}
use Rattle.s390x_base.specs.declared.regs.Reg.{Reg}
use Rattle.s390x_base.specs.declared.regs.Reg.TheVariants.{Real, Virtual}
use Rattle.s390x_inst.specs.Emission.{Emission}
use Rattle.s390x_inst.specs.Portions.{portions}
use Rattle.s390x_inst.specs.declared.args.MemArg.{MemArg}
use Rattle.s390x_inst.specs.declared.args.MemArg.TheVariants.{BXD12, BXD20, RegOffset}
use Rattle.s390x_inst.specs.declared.calls.ArgPair.{ArgPair}
use Rattle.s390x_inst.specs.declared.calls.RetPair.{RetPair}
use Rattle.s390x_inst.specs.declared.inst.Inst.{Inst}
use Rattle.s390x_inst.specs.declared.inst.Inst.TheVariants as I
use Rattle.s390x_inst.specs.declared.state.IsaFlags.{IsaFlags}
use Rattle.s390x_inst.specs.Loads.{as_load, by_load}
use Rattle.s390x_inst.specs.Stores.{as_store, by_store}
use Rattle.s390x_inst.specs.Wholes.{as_whole, by_whole}
use Rattle.s390x_inst.specs.declared.vec_inst.VecInst.{VecInst}
use Rattle.s390x_inst.specs.declared.vec_inst.VecInst.TheVariants as V
use Rattle.s390x_described.specs.Instructions.{described_part, description_of}
use Rattle.s390x_described.specs.Roles.{Role, Written, Tied, Read, WrittenPair, LowRead, ReadPair, InMemory, Described}
use Rattle.s390x_operands.specs.Meets.{Meets}
use Rattle.s390x_operands.specs.Operands.{operands}
use Rattle.s390x_operands.specs.declared.constraint.Reported.{Reported}
use Rattle.s390x_operands.specs.declared.constraint.Reported.TheVariants.{Operand}
use Rattle.s390x_assign.specs.Assignments.{assigned_portions}
use Rattle.s390x_typed_steps.specs.Baseline.{tree_for}
use Rattle.s390x_typed_steps.specs.Causes.{Declared, first_emit_cause, facility_cause, memory_cause_or, instruction_cause, tree_cause}
use Rattle.s390x_typed_steps.specs.Memory.{memory, loaded_memory, accesses_relative}
use Rattle.s390x_typed_steps.specs.Resolved.{resolved_instruction}
use Rattle.s390x_typed_steps.specs.Tree.{empty, prepend}

-- ---- which of its registers may be real

abbrev pub IsVirtual : Reg → Type 0
IsVirtual (Real p) = ⊥
IsVirtual (Virtual n class) = ⊤

-- a base, an index, or the register of a shift or of a lane may be %r0 or %r15 too
abbrev pub MayAddress : Reg → Type 0
MayAddress (Real p) = (p ≡ general 0) ⊎ (p ≡ general 15)
MayAddress (Virtual n class) = ⊤

-- an operand that is fixed to a register may be real, but not %r1
abbrev pub IsNotScratch : Reg → Type 0
IsNotScratch (Real p) = p ≡ general 1 → ⊥
IsNotScratch (Virtual n class) = ⊤

abbrev pub MemoryMayStand : MemArg → Type 0
MemoryMayStand (BXD12 base index disp flags) = MayAddress base × MayAddress index
MemoryMayStand (BXD20 base index disp flags) = MayAddress base × MayAddress index
MemoryMayStand (RegOffset reg off flags) = MayAddress reg
MemoryMayStand mem = ⊤

-- the place of an argument or a result is a real register, and not %r1
abbrev pub IsPlace : Reg → Type 0
IsPlace (Real p) = p ≡ general 1 → ⊥
IsPlace (Virtual n class) = ⊥

abbrev pub MayTakeIn : ArgPair → Type 0
MayTakeIn x = IsPlace x.preg × IsNotScratch x.vreg

abbrev pub MayHandBack : RetPair → Type 0
MayHandBack x = IsPlace x.preg × IsNotScratch x.vreg

-- a range of real registers without %r1
abbrev pub IsFreeRange : Reg → Reg → Type 0
IsFreeRange (Real p) (Real q) = (1 < p.number) ⊎ (q.number < 1)
IsFreeRange first last = ⊥

-- of what stands in a role
abbrev pub RoleMayStand : Role → Type 0
RoleMayStand (Written r) = IsVirtual r
RoleMayStand (Tied r) = IsVirtual r
RoleMayStand (Read r) = IsVirtual r
RoleMayStand (WrittenPair d) = IsNotScratch d.hi × IsNotScratch d.lo
RoleMayStand (LowRead r) = IsNotScratch r
RoleMayStand (ReadPair d) = IsNotScratch d.hi × IsNotScratch d.lo
RoleMayStand (InMemory mem) = MemoryMayStand mem

abbrev pub RolesMayStand : List Role → Type 0
RolesMayStand [] = ⊤
RolesMayStand (x ∷ xs) = RoleMayStand x × RolesMayStand xs

-- an instruction that is described by the roles of its registers
abbrev pub DescribedMayStand : Option (Described Inst) → Type 0
DescribedMayStand None = ⊥
DescribedMayStand (Some d) = RolesMayStand d.roles

-- of a vector instruction that is no load or store of a whole register
abbrev pub PartMayStand : VecInst → Type 0
PartMayStand (V.VecShiftRR shift_op rd rn shift_imm shift_reg) = IsVirtual rd × IsVirtual rn × MayAddress shift_reg
PartMayStand (V.VecInsertLane size rd ri rn lane_imm lane_reg) = IsVirtual rd × IsVirtual ri × IsVirtual rn × MayAddress lane_reg
PartMayStand (V.VecInsertLaneUndef size rd rn lane_imm lane_reg) = IsVirtual rd × IsVirtual rn × MayAddress lane_reg
PartMayStand (V.VecExtractLane size rd rn lane_imm lane_reg) = IsVirtual rd × IsVirtual rn × MayAddress lane_reg
PartMayStand v = RolesMayStand (described_part v).roles

abbrev pub VectorMayStand : VecInst → Type 0
VectorMayStand v = by_whole (λ w. IsVirtual w.rd × MemoryMayStand w.mem) (PartMayStand v) (as_whole v)

-- What isn't named here may have the registers of its description, where all of them are virtual but those of pairs and of memory. A `Loop`, a call and
-- an allocation of arguments have no description and aren't meant, and the register of a `Ret` isn't reported.
abbrev pub OtherMayStand : Inst → Type 0
OtherMayStand (I.IndirectBr rn targets) = IsVirtual rn
OtherMayStand (I.JTSequence ridx default default_cond targets) = IsVirtual ridx
OtherMayStand (I.Args args) = All MayTakeIn args.items
OtherMayStand (I.Rets rets) = All MayHandBack rets.items
OtherMayStand (I.Vector v) = VectorMayStand v
OtherMayStand (I.LoadMultiple64 rt rt2 mem) = IsFreeRange rt rt2 × MemoryMayStand mem
OtherMayStand (I.StoreMultiple64 rt rt2 mem) = IsFreeRange rt rt2 × MemoryMayStand mem
OtherMayStand (I.LoadIndexedAddr rd base index offset size) = IsVirtual rd × MayAddress base × MayAddress index
OtherMayStand (I.LoadLogicalIndexedAddr rd base index offset size) = IsVirtual rd × MayAddress base × MayAddress index
OtherMayStand (I.MovPReg rd rm) = IsVirtual rd × (rm ≡ general 1 → ⊥)
OtherMayStand (I.ShiftRR shift_op rd rn shift_imm shift_reg) = IsVirtual rd × IsVirtual rn × MayAddress shift_reg
OtherMayStand (I.Jump dest) = ⊤
OtherMayStand (I.CondBr taken not_taken mask) = ⊤
OtherMayStand (I.CondBreak mask) = ⊤
OtherMayStand I.Nop0 = ⊤
OtherMayStand I.Nop2 = ⊤
OtherMayStand I.Fence = ⊤
OtherMayStand (I.Trap code) = ⊤
OtherMayStand (I.TrapIf mask code) = ⊤
OtherMayStand I.Debugtrap = ⊤
OtherMayStand I.SequencePoint = ⊤
OtherMayStand i = DescribedMayStand (description_of i)

-- the registers of an instruction may stand there, be it a load, a store or another one
abbrev pub MayStand : Inst → Type 0
MayStand i = by_load (λ l. IsVirtual l.rd × MemoryMayStand l.mem) (by_store (λ s. IsVirtual s.rd × MemoryMayStand s.mem) (OtherMayStand i) (as_store i)) (as_load i)

-- ---- what an allocator may give

-- a register that exists, other than %r0, %r1 and %r15
abbrev pub IsOrdinary : Reg → Type 0
IsOrdinary (Real p) = IsRegister p × (p ≡ general 0 → ⊥) × (p ≡ general 1 → ⊥) × (p ≡ general 15 → ⊥)
IsOrdinary (Virtual n class) = ⊥

-- each virtual operand is given such a register
abbrev pub Spares : List Reported → List Reg → Type 0
Spares [] s = ⊤
Spares (Operand (Virtual n class) constraint kind pos ∷ xs) (q ∷ s) = IsOrdinary q × Spares xs s
Spares (Operand (Real p) constraint kind pos ∷ xs) (q ∷ s) = Spares xs s
Spares (Operand reg constraint kind pos ∷ xs) [] = ⊥
Spares (x ∷ xs) s = Spares xs s

-- ---- why emission refuses

-- where an instruction is emitted
pub record Place : Type 0 where
  pub flags : IsaFlags
  pub declared : Declared
  -- inside so many loops
  pub depth : ℕ
  pub state : Emission

-- the machine of the flags lacks the row by which the instruction accesses an operand that is relative to it
abbrev pub lacks_row : Place → Inst → Bool
lacks_row P i = accesses_relative (memory i) && P.flags.no_relative_memory

-- the first cause by which a whole instruction is refused, or one whose operand's address is loaded first
abbrev pub own_refusal : Place → (lacks : Bool) → Inst → Option EmitError
own_refusal P false i = instruction_cause P.flags P.declared P.state.nominal P.depth i
own_refusal P true i = first_emit_cause (facility_cause P.flags i) (memory_cause_or P.declared (loaded_memory i) (Some BadOperator))

-- the first cause by which an instruction's step is refused there, as the machine of the flags has it
abbrev pub refusal : Place → Inst → Option EmitError
refusal P i = own_refusal P (lacks_row P (resolved_instruction P.state i)) (resolved_instruction P.state i)

-- one instruction is another with these registers
abbrev pub IsAssigned : Inst → List Reg → Inst → Type 0
IsAssigned i regs j = portions j ≡ (assigned_portions (portions i) regs).0

-- some registers that meet the constraints give an instruction that isn't refused, so that an instruction has no cause but its virtual registers
pub record IsPossible (P : Place) (i : Inst) : Type 0 where
  pub registers : List Reg
  pub meet : Meets (operands i) registers
  pub instruction : Inst
  pub assigned : IsAssigned i registers instruction
  pub unrefused : refusal P instruction ≡ None

-- an instruction for which it suffices that the constraints are met
pub record IsAllocatable (P : Place) (i : Inst) : Type 0 where
  pub stands : MayStand i
  pub possible : IsPossible P i

-- neither of these causes
abbrev pub IsNotBlamed : Option EmitError → Type 0
IsNotBlamed cause = (cause ≡ Some BadRegister → ⊥) × (cause ≡ Some ScratchConflict → ⊥)

-- its registers are no cause of its step's refusal, whichever meet the constraints
abbrev pub AssignmentsSuffice : Place → Inst → Type 0
AssignmentsSuffice P i = (registers : List Reg) (j : Inst) → Meets (operands i) registers → Spares (operands i) registers → IsAssigned i registers j → IsNotBlamed (refusal P j)

-- the first cause by which emission refuses it there, with so many labels in use
abbrev pub emission_refusal : Place → ℕ → Inst → Option EmitError
emission_refusal P labels i = tree_cause P.flags P.declared labels P.state.nominal P.depth (tree_for P.flags (prepend P.state i empty))

-- registers that meet the constraints on its operands, and spare what they have to, aren't to blame where emission refuses it
abbrev pub EmissionsSuffice : Place → Inst → Type 0
EmissionsSuffice P i =
    (labels : ℕ) (registers : List Reg) (j : Inst) → Meets (operands i) registers → Spares (operands i) registers → IsAssigned i registers j → IsNotBlamed (emission_refusal P labels j)
