-- The steps of calls and of tail calls (cranelift-codegen, `emit.rs` of s390x).
use Rattle.std.specs.Prelude.{ℕ, ◌-◌, Bool, true, false, cond, ◌&&◌, ◌||◌, nat_le, List, [], ◌∷◌, ◌++◌, map, Option, Some, None}
use Rattle.s390x_base.specs.declared.ir.MachLabel.{MachLabel}
use Rattle.s390x_base.specs.declared.regs.Reg.{Reg}
use Rattle.s390x_buffer.specs.declared.entries.TryHandler.{TryHandler}
use Rattle.s390x_inst.specs.Constructors.{load_of}
use Rattle.s390x_inst.specs.Emission.{Emission}
use Rattle.s390x_inst.specs.Frames.{is_lost, copied_target, caller_at, epilogue}
use Rattle.s390x_inst.specs.declared.args.MemArg.TheVariants.{OutgoingArgOffset}
use Rattle.s390x_inst.specs.declared.calls.CallInfo.{CallInfo}
use Rattle.s390x_inst.specs.declared.calls.CallInstDest.{CallInstDest}
use Rattle.s390x_inst.specs.declared.calls.CallInstDest.TheVariants.{Direct, Indirect}
use Rattle.s390x_inst.specs.declared.calls.CallRetPair.{CallRetPair}
use Rattle.s390x_inst.specs.declared.calls.RetLocation.{RetLocation}
use Rattle.s390x_inst.specs.declared.calls.RetLocation.TheVariants.{Stack}
use Rattle.s390x_inst.specs.declared.calls.TryCallHandler.{TryCallHandler}
use Rattle.s390x_inst.specs.declared.calls.TryCallHandler.TheVariants.{Tag, Default}
use Rattle.s390x_inst.specs.declared.calls.TryCallInfo.{TryCallInfo}
use Rattle.s390x_inst.specs.declared.inst.Inst.{Inst}
use Rattle.s390x_inst.specs.declared.inst.Inst.TheVariants.{Call, ReturnCall, Jump}
use Rattle.s390x_inst.specs.declared.state.FrameLayout.{FrameLayout}
use Rattle.s390x_typed_steps.specs.General.{is_general, is_nonzero}
use Rattle.s390x_typed_steps.specs.Memory.{MemoryInstruction, memory, type_of}
use Rattle.s390x_typed_steps.specs.Operands.{finalized_operand, is_helped, is_numbered}
use Rattle.s390x_typed_steps.specs.Resolved.{resolved_instruction}
use Rattle.s390x_typed_steps.specs.StepBody.{Site, AtCall, AtTry, AtPatchable, AtStackMap, Calling, StepBody, Whole, CallStep, NoLoad, TailOpening, TailJump}

-- a target that can be called: a name, or a real general register other than `%r0`
abbrev pub is_target : CallInstDest → Bool
is_target (Direct name) = true
is_target (Indirect reg) = is_general reg && is_nonzero reg

-- instructions as steps, each with its operand resolved
abbrev pub wholes : Emission → List Inst → List StepBody
wholes e [] = []
wholes e (i ∷ is) = Whole (resolved_instruction e i) ∷ wholes e is

-- ---- a call

-- a handler with its tag; none where it takes every exception
abbrev pub handler_of : TryCallHandler → TryHandler
handler_of (Tag tag label) = record { tag = Some tag; label = label }
handler_of (Default label) = record { tag = None; label = label }

-- a named target is called by 6 bytes, one in a register by 2
abbrev pub call_size : CallInstDest → ℕ
call_size (Direct name) = 6
call_size (Indirect reg) = 2

-- the stack map, where the state has one
abbrev pub map_site : Option ℕ → List Site
map_site None = []
map_site (Some n) = AtStackMap n ∷ []

-- the call's own site: one with handlers, where it has a try
abbrev pub return_site : FrameLayout → Option TryCallInfo → Site
return_site layout None = AtCall
return_site layout (Some t) = AtTry (map handler_of t.exception_handlers.items) (caller_at layout)

-- besides, that the call may be patched
abbrev pub patchable_site : (patchable : Bool) → CallInstDest → List Site
patchable_site false target = []
patchable_site true target = AtPatchable (call_size target) ∷ []

-- what is recorded at a call's return place
abbrev pub sites_of : Emission → CallInfo → List Site
sites_of e info = map_site e.stack_map ++ (return_site e.layout info.try_call_info ∷ patchable_site info.patchable info.dest)

-- the labels of the handlers among what is recorded
abbrev pub site_labels : List Site → List MachLabel
site_labels [] = []
site_labels (AtTry handlers sp_to_fp ∷ ss) = map (λ (h : TryHandler). h.label) handlers ++ site_labels ss
site_labels (_ ∷ ss) = site_labels ss

-- the call itself
abbrev pub calling : Emission → Reg → CallInfo → Calling
calling e link info = record { link = link; target = info.dest; popped = info.callee_pop_size; sites = sites_of e info }

-- the state in which a call's results are loaded: the callee has taken its arguments, and the results lie below
abbrev pub behind_call : Emission → (popped : ℕ) → Emission
behind_call e popped = record e { nominal = e.nominal - popped; outgoing = popped }

-- the load of a result, where its type has one
abbrev pub load_or : Emission → Option Inst → StepBody
load_or e (Some i) = Whole (resolved_instruction e i)
load_or e None = NoLoad

-- the load of what comes back on the stack, before other steps
abbrev pub load_before : Emission → Reg → RetLocation → List StepBody → List StepBody
load_before e rd (Stack off ty) rest = load_or e (load_of rd (OutgoingArgOffset off) ty) ∷ rest
load_before e rd _ rest = rest

-- the loads of a call's results that come back on the stack, in order
abbrev pub load_bodies : Emission → List CallRetPair → List StepBody
load_bodies e [] = []
load_bodies e (d ∷ ds) = load_before e d.vreg d.location (load_bodies e ds)

-- a call that may be patched loads none
abbrev pub result_bodies : Emission → CallInfo → List StepBody
result_bodies e info = cond info.patchable [] (load_bodies (behind_call e info.callee_pop_size) info.defs.items)

-- the jump to where a call with a try goes on
abbrev pub continuation_bodies : Option TryCallInfo → List StepBody
continuation_bodies None = []
continuation_bodies (Some t) = Whole (Jump t.continuation) ∷ []

-- the call, the loads of its results, and the jump of its try
abbrev pub call_bodies : Emission → Reg → CallInfo → List StepBody
call_bodies e link info = CallStep (calling e link info) ∷ (result_bodies e info ++ continuation_bodies info.try_call_info)

-- ---- a tail call

-- the target stands in `%r1` before the jump: it was given there, or is copied there
abbrev pub stands_in_scratch : CallInstDest → Bool
stands_in_scratch (Direct name) = false
stands_in_scratch (Indirect reg) = is_lost reg || is_numbered 1 reg

-- an operand needs `%r1` for its helpers
abbrev pub is_access_helped : Option MemoryInstruction → Bool
is_access_helped None = false
is_access_helped (Some x) = is_helped (finalized_operand (type_of x.form x.accesses) x.operand).helpers

-- that of one of these instructions does
abbrev pub any_helped : List Inst → Bool
any_helped [] = false
any_helped (i ∷ is) = is_access_helped (memory i) || any_helped is

-- taking the frame down overwrites the target; its copy needs no register
abbrev pub loses_target : FrameLayout → (popped : ℕ) → CallInstDest → Bool
loses_target layout popped dest = stands_in_scratch dest && any_helped (epilogue layout popped dest)

-- the saved general registers are none, or begin at one of 6 to 14
abbrev pub is_first_saved : Option ℕ → Bool
is_first_saved None = true
is_first_saved (Some g) = nat_le 6 g && nat_le g 14

-- a register, or where it was copied to
abbrev pub copied_or : Option Reg → CallInstDest → CallInstDest
copied_or None dest = dest
copied_or (Some reg) dest = Indirect reg

-- where the target stands before the jump
abbrev pub jump_target : CallInstDest → CallInstDest
jump_target dest = copied_or (copied_target dest) dest

-- the opening, what takes the frame down, and the jump
abbrev pub tail_bodies : Emission → (popped : ℕ) → CallInstDest → List StepBody
tail_bodies e popped dest =
    TailOpening dest e.layout.first_saved_gpr (loses_target e.layout popped dest) ∷ (wholes e (epilogue e.layout popped dest) ++ TailJump (jump_target dest) ∷ [])

-- ---- any instruction that is no `Loop`

-- its steps, in a state of emission
abbrev pub bodies : Emission → Inst → List StepBody
bodies e (Call link info) = call_bodies e link info
bodies e (ReturnCall info) = tail_bodies e info.callee_pop_size info.dest
bodies e i = Whole (resolved_instruction e i) ∷ []

-- the state before a member of a block: a call's stack map is that of the safepoint
abbrev pub safepoint : Emission → Inst → Emission
safepoint e (Call link info) = record e { stack_map = info.stack_map }
safepoint e i = e

-- the state in which the members of a `Loop` begin: no call there has a stack map
abbrev pub without_map : Emission → Emission
without_map e = record e { stack_map = None }
