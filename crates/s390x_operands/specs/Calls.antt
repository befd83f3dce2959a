-- What is reported of calls, arguments and results.
use Rattle.std.specs.Prelude.{List, [], ◌∷◌, ◌++◌, map, Option, Some, None}
use Rattle.s390x_base.specs.declared.regs.Reg.{Reg}
use Rattle.s390x_base.specs.declared.regs.Reg.TheVariants.{Real, Virtual}
use Rattle.s390x_base.specs.Sets.{with_register}
use Rattle.s390x_base.specs.declared.sets.PRegSet.{PRegSet}
use Rattle.s390x_inst.specs.declared.calls.CallInstDest.{CallInstDest}
use Rattle.s390x_inst.specs.declared.calls.CallInstDest.TheVariants.{Direct, Indirect}
use Rattle.s390x_inst.specs.declared.calls.CallArgPair.{CallArgPair}
use Rattle.s390x_inst.specs.declared.calls.CallInfo.{CallInfo}
use Rattle.s390x_inst.specs.declared.calls.ReturnCallInfo.{ReturnCallInfo}
use Rattle.s390x_inst.specs.declared.calls.CallRetPair.{CallRetPair}
use Rattle.s390x_inst.specs.declared.calls.RetLocation.{RetLocation}
use Rattle.s390x_inst.specs.declared.calls.RetLocation.TheVariants.{Reg as InReg, Stack}
use Rattle.s390x_inst.specs.declared.calls.ArgPair.{ArgPair}
use Rattle.s390x_inst.specs.declared.calls.RetPair.{RetPair}
use Rattle.s390x_operands.specs.declared.constraint.OperandConstraint.TheVariants.{Any, FixedReg}
use Rattle.s390x_operands.specs.declared.constraint.OperandKind.TheVariants.{Def, Use}
use Rattle.s390x_operands.specs.declared.constraint.OperandPos.TheVariants.{Early, Late}
use Rattle.s390x_operands.specs.declared.constraint.Reported.{Reported}
use Rattle.s390x_operands.specs.declared.constraint.Reported.TheVariants.{Operand, Clobbers}
use Rattle.s390x_operands.specs.Requests.{reported_use}

-- an input in a register that has to be real
abbrev pub placed_use : Reg → Reg → Option Reported
placed_use r (Real p) = Some (Operand r (FixedReg p) Use Early)
placed_use r (Virtual n c) = None

-- an output in a register that has to be real
abbrev pub placed_def : Reg → Reg → Option Reported
placed_def r (Real p) = Some (Operand r (FixedReg p) Def Late)
placed_def r (Virtual n c) = None

-- the target of a call
abbrev pub destination_requests : CallInstDest → List (Option Reported)
destination_requests (Direct name) = []
destination_requests (Indirect reg) = reported_use reg ∷ []

-- an argument of a call
abbrev pub argument : CallArgPair → Option Reported
argument x = placed_use x.vreg x.preg

-- a result of a call: in a register, or read from the stack behind it
abbrev pub result_in : Reg → RetLocation → Option Reported
result_in r (InReg p ty) = placed_def r p
result_in r (Stack offset ty) = Some (Operand r Any Def Late)

abbrev pub call_result : CallRetPair → Option Reported
call_result x = result_in x.vreg x.location

-- an argument of the function
abbrev pub reported_argument : ArgPair → Option Reported
reported_argument x = placed_def x.vreg x.preg

-- a result of the function
abbrev pub reported_result : RetPair → Option Reported
reported_result x = placed_use x.vreg x.preg

-- the registers that a call overwrites, with its link
abbrev pub reported_clobbers : PRegSet → Reg → Option Reported
reported_clobbers s (Real p) = Some (Clobbers (with_register s p))
reported_clobbers s (Virtual n c) = None

-- a call: its target, its arguments, its results, and what it overwrites
abbrev pub call_requests : Reg → CallInfo → List (Option Reported)
call_requests link info = destination_requests info.dest ++ (map argument info.uses.items ++ (map call_result info.defs.items ++ reported_clobbers info.clobbers link ∷ []))

-- a tail call: its target and its arguments
abbrev pub return_call_requests : ReturnCallInfo CallInstDest → List (Option Reported)
return_call_requests info = destination_requests info.dest ++ map argument info.uses.items
