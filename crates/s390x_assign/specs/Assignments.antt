-- The instruction that an allocator's registers give: in the order of the report each operand takes the next register of a list. A real register that is
-- reported as fixed is no operand, so it stays and takes none.
use Rattle.std.specs.Prelude.{◌≡◌, ◌≢◌, ℕ, ◌+◌, drop, length, List, [], ◌∷◌, false, Option, Some, None, Result, Ok, Err, ⊤}
use Rattle.s390x_base.specs.declared.regs.Reg.{Reg}
use Rattle.s390x_base.specs.declared.regs.Reg.TheVariants.{Real, Virtual}
use Rattle.s390x_base.specs.declared.regs.RegPair.{RegPair}
use Rattle.s390x_base.specs.declared.regs.WritableRegPair.{WritableRegPair}
use Rattle.s390x_inst.specs.declared.args.MemArg.{MemArg}
use Rattle.s390x_inst.specs.declared.args.MemArg.TheVariants.{BXD12, BXD20, RegOffset}
use Rattle.s390x_inst.specs.declared.calls.ArgPair.{ArgPair}
use Rattle.s390x_inst.specs.declared.calls.CallArgPair.{CallArgPair}
use Rattle.s390x_inst.specs.declared.calls.CallInstDest.{CallInstDest}
use Rattle.s390x_inst.specs.declared.calls.CallInstDest.TheVariants.{Direct, Indirect}
use Rattle.s390x_inst.specs.declared.calls.CallRetPair.{CallRetPair}
use Rattle.s390x_inst.specs.declared.calls.RetLocation.{RetLocation}
use Rattle.s390x_inst.specs.declared.calls.RetLocation.TheVariants.{Reg as InReg, Stack}
use Rattle.s390x_inst.specs.declared.calls.RetPair.{RetPair}
use Rattle.s390x_inst.specs.declared.inst.Inst.{Inst}
use Rattle.s390x_inst.specs.declared.vec_inst.VecInst.{VecInst}
use Rattle.s390x_described.specs.Instructions.{description_of, described_vector}
use Rattle.s390x_described.specs.Roles.{Role, Written, Tied, Read, WrittenPair, LowRead, ReadPair, InMemory, Described, described_again}
use Rattle.s390x_assign.specs.declared.assigning.AssignError.{AssignError}
use Rattle.s390x_assign.specs.declared.assigning.AssignError.TheVariants.{Count, Operands, NoMemory}
use Rattle.s390x_operands.specs.declared.constraint.OperandConstraint.{OperandConstraint}
use Rattle.s390x_operands.specs.declared.constraint.OperandConstraint.TheVariants.{Any, FixedReg}
use Rattle.s390x_operands.specs.declared.constraint.OperandKind.{OperandKind}
use Rattle.s390x_operands.specs.declared.constraint.OperandPos.{OperandPos}
use Rattle.s390x_operands.specs.declared.constraint.Reported.{Reported}
use Rattle.s390x_operands.specs.declared.constraint.Reported.TheVariants.{Operand}
use Rattle.s390x_operands.specs.Visits.{placed_or}
use Rattle.s390x_operands.specs.Operands.{operands, operands_cause}
use Rattle.s390x_inst.specs.Portions.{first_portion, Portion, plain, indirect_branch, jump_table, calling, tail_calling, arguments, results, opening, closing}

-- what a list of registers gives an operand
abbrev pub operand_at : Reg → List Reg → Reg
operand_at r [] = r
operand_at r (q ∷ s) = q

-- what a list of registers gives a register that is an operand where it is virtual
abbrev pub register_at : Reg → List Reg → Reg
register_at (Real p) s = Real p
register_at (Virtual n c) s = operand_at (Virtual n c) s

-- what is left of the list behind it
abbrev pub after : Reg → List Reg → List Reg
after (Real p) s = s
after (Virtual n c) s = drop 1 s

-- what a list of registers gives a register whose place has to be real: it is an operand where that is so
abbrev pub placed_at : (place r : Reg) → List Reg → Reg
placed_at (Real p) r s = operand_at r s
placed_at (Virtual n c) r s = r

abbrev pub after_placed : (place : Reg) → List Reg → List Reg
after_placed (Real p) s = drop 1 s
after_placed (Virtual n c) s = s

-- an output that is a pair, both of them operands
abbrev pub pair_at : WritableRegPair → List Reg → WritableRegPair
pair_at d s = record { hi = operand_at d.hi s; lo = operand_at d.lo (drop 1 s) }

-- an input that is a pair, both of them operands
abbrev pub dividend_at : RegPair → List Reg → RegPair
dividend_at i s = record { hi = operand_at i.hi s; lo = operand_at i.lo (drop 1 s) }

-- a memory operand, and what is left of the list
abbrev pub memory_at : MemArg → List Reg → MemArg × List Reg
memory_at (BXD12 base index disp flags) s = (BXD12 (register_at base s) (register_at index (after base s)) disp flags, after index (after base s))
memory_at (BXD20 base index disp flags) s = (BXD20 (register_at base s) (register_at index (after base s)) disp flags, after index (after base s))
memory_at (RegOffset reg off flags) s = (RegOffset (register_at reg s) off flags, after reg s)
memory_at mem s = (mem, s)

-- what stands in a role instead, and what is left of the list
abbrev pub assigned_role : Role → List Reg → Role × List Reg
assigned_role (Written r) s = (Written (register_at r s), after r s)
assigned_role (Tied r) s = (Tied (register_at r s), after r s)
assigned_role (Read r) s = (Read (register_at r s), after r s)
assigned_role (WrittenPair d) s = (WrittenPair (pair_at d s), drop 2 s)
assigned_role (LowRead r) s = (LowRead (operand_at r s), drop 1 s)
assigned_role (ReadPair i) s = (ReadPair (dividend_at i s), drop 2 s)
assigned_role (InMemory m) s = (InMemory (memory_at m s).0, (memory_at m s).1)

-- an instruction on vector or float registers with its registers
abbrev pub assigned_vector : VecInst → List Reg → VecInst × List Reg
assigned_vector v s = described_again assigned_role (described_vector v) s

-- an instruction that takes no register
abbrev pub as_it_is : Inst → List Reg → Inst × List Reg
as_it_is i s = (i, s)

-- an instruction with its registers by a description, as it is where there is none
abbrev pub assigned_by : Option (Described Inst) → Inst → List Reg → Inst × List Reg
assigned_by None i s = as_it_is i s
assigned_by (Some d) i s = described_again assigned_role d s

-- an instruction without lists and members, with its registers: each role takes what it needs of the list, in order, and all else stays
abbrev pub assigned_operator : Inst → List Reg → Inst × List Reg
assigned_operator i s = assigned_by (description_of i) i s

-- the items of a list, one after the other
abbrev pub each_at : {T : Type 0} → (T → List Reg → T × List Reg) → List T → List Reg → List T × List Reg
each_at f [] s = ([], s)
each_at f (x ∷ xs) s = ((f x s).0 ∷ (each_at f xs (f x s).1).0, (each_at f xs (f x s).1).1)

-- what is made of a register
abbrev pub with_one : {T : Type 0} → (Reg → T) → Reg → List Reg → T × List Reg
with_one f a s = (f (register_at a s), after a s)

-- the target of a call
abbrev pub destination_at : CallInstDest → List Reg → CallInstDest × List Reg
destination_at (Direct name) s = (Direct name, s)
destination_at (Indirect reg) s = with_one Indirect reg s

-- an argument of a call, a result of it, an argument and a result of the function
abbrev pub argument_at : CallArgPair → List Reg → CallArgPair × List Reg
argument_at x s = (record { vreg = placed_at x.preg x.vreg s; preg = x.preg }, after_placed x.preg s)

abbrev pub result_at : Reg → RetLocation → List Reg → Reg × List Reg
result_at r (InReg p ty) s = (placed_at p r s, after_placed p s)
result_at r (Stack offset ty) s = (operand_at r s, drop 1 s)

abbrev pub call_result_at : CallRetPair → List Reg → CallRetPair × List Reg
call_result_at x s = (record { vreg = (result_at x.vreg x.location s).0; location = x.location }, (result_at x.vreg x.location s).1)

abbrev pub incoming_at : ArgPair → List Reg → ArgPair × List Reg
incoming_at x s = (record { vreg = placed_at x.preg x.vreg s; preg = x.preg }, after_placed x.preg s)

abbrev pub outgoing_at : RetPair → List Reg → RetPair × List Reg
outgoing_at x s = (record { vreg = placed_at x.preg x.vreg s; preg = x.preg }, after_placed x.preg s)

-- what is made of the items of a list
abbrev pub with_list : {T P : Type 0} → (T → List Reg → T × List Reg) → (List T → P) → List T → List Reg → P × List Reg
with_list g f xs s = (f (each_at g xs s).0, (each_at g xs s).1)

-- what is made of the target and of the arguments of a call
abbrev pub with_call : {P : Type 0} → (CallInstDest → List CallArgPair → P) → CallInstDest → List CallArgPair → List Reg → P × List Reg
with_call f dest uses s = with_list argument_at (f (destination_at dest s).0) uses (destination_at dest s).1

-- what is made of the target, the arguments and the results of a call
abbrev pub with_call_results : {P : Type 0} → (CallInstDest → List CallArgPair → List CallRetPair → P) → CallInstDest → List CallArgPair → List CallRetPair → List Reg → P × List Reg
with_call_results f dest uses defs s = with_list call_result_at ((with_call f dest uses s).0) defs (with_call f dest uses s).1

-- a part, where it is known what an instruction without vectors becomes
abbrev pub portion_by : (Inst → List Reg → Inst × List Reg) → Portion → List Reg → Portion × List Reg
portion_by f (plain i) s = (plain (f i s).0, (f i s).1)
portion_by f (indirect_branch rn targets) s = with_one (λ n. indirect_branch n targets) rn s
portion_by f (jump_table ridx default mask targets) s = with_one (λ j. jump_table j default mask targets) ridx s
portion_by f (calling link dest uses defs terms) s = with_call_results (λ d us rs. calling link d us rs terms) dest uses defs s
portion_by f (tail_calling dest uses pop) s = with_call (λ d us. tail_calling d us pop) dest uses s
portion_by f (arguments xs) s = with_list incoming_at arguments xs s
portion_by f (results xs) s = with_list outgoing_at results xs s
portion_by f (opening mask) s = (opening mask, s)
portion_by f closing s = (closing, s)

-- a part of an instruction with its registers
abbrev pub portion_at : Portion → List Reg → Portion × List Reg
portion_at p s = portion_by assigned_operator p s

-- the portions of an instruction with their registers: its operands are replaced one by one, and all else stays
abbrev pub assigned_portions : List Portion → List Reg → List Portion × List Reg
assigned_portions ps s = each_at portion_at ps s

-- an instruction has become this part, and so much is left of the list
abbrev pub IsPortion : Portion × List Reg → Inst → List Reg → Type 0
IsPortion p j s = ◌≡◌ {A = Portion × List Reg} p (first_portion j, s)

-- an instruction has become these portions, and so much is left of the list
abbrev pub ArePortions : List Portion × List Reg → List Portion → List Reg → Type 0
ArePortions ps qs s = ◌≡◌ {A = List Portion × List Reg} ps (qs, s)

-- an operand in place of another one: where its constraint names no register, a real one is fixed
abbrev pub reported_again : Reg → OperandConstraint → OperandKind → OperandPos → Reported
reported_again q (FixedReg p) kind pos = Operand q (FixedReg p) kind pos
reported_again q Any kind pos = Operand q Any kind pos
reported_again q constraint kind pos = placed_or constraint kind pos q

-- the items with the k-th operand replaced by the k-th register
abbrev pub replaced_operands : List Reported → List Reg → List Reported
replaced_operands [] s = []
replaced_operands (Operand reg constraint kind pos ∷ xs) s = reported_again (operand_at reg s) constraint kind pos ∷ replaced_operands xs (drop 1 s)
replaced_operands (x ∷ xs) s = x ∷ replaced_operands xs s

-- how many of the items are operands
abbrev pub operand_count : List Reported → ℕ
operand_count [] = 0
operand_count (Operand reg constraint kind pos ∷ xs) = operand_count xs + 1
operand_count (x ∷ xs) = operand_count xs

-- the answer of an assignment: by the first cause of the report, else by a number of registers other than that of operands; want of memory is free
abbrev pub IsAssignAnswer : Inst → List Reg → Result Inst AssignError → Type 0
IsAssignAnswer i regs (Ok j) = (operands_cause false i ≡ None) × (operand_count (operands i) ≡ length regs)
IsAssignAnswer i regs (Err (Operands e)) = operands_cause false i ≡ Some e
IsAssignAnswer i regs (Err (Count wanted given)) = (operands_cause false i ≡ None) × ((wanted ≡ operand_count (operands i)) × ((given ≡ length regs) × (wanted ≢ given)))
IsAssignAnswer i regs (Err NoMemory) = ⊤
