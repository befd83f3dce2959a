-- The texts of calls and tail calls (cranelift-codegen, `mod.rs`).
use Rattle.std.specs.Prelude.{ℕ, ◌+◌, pos, ◌-ℤ◌, Bool, true, false, cond, ◌&&◌, is_none, nat_eq, nat_le, List, [], ◌∷◌, ◌++◌, codes, Option, Some, None}
use Rattle.std.specs.Fmt.{decimal}
use Rattle.s390x_base.specs.Registers.{general}
use Rattle.s390x_base.specs.declared.regs.Reg.{Reg}
use Rattle.s390x_base.specs.declared.regs.Reg.TheVariants.{Real}
use Rattle.s390x_inst.specs.Constructors.{load_of}
use Rattle.s390x_inst.specs.Emission.{Emission}
use Rattle.s390x_inst.specs.Frames.{above_stack, caller_at, copied_target, epilogue}
use Rattle.s390x_inst.specs.declared.state.FrameLayout.{FrameLayout}
use Rattle.s390x_inst.specs.declared.args.MemArg.TheVariants.{OutgoingArgOffset}
use Rattle.s390x_inst.specs.declared.calls.CallInfo.{CallInfo}
use Rattle.s390x_inst.specs.declared.calls.CallInstDest.{CallInstDest}
use Rattle.s390x_inst.specs.declared.calls.CallInstDest.TheVariants.{Direct, Indirect}
use Rattle.s390x_inst.specs.declared.calls.CallRetPair.{CallRetPair}
use Rattle.s390x_inst.specs.declared.calls.RetLocation.{RetLocation}
use Rattle.s390x_inst.specs.declared.calls.RetLocation.TheVariants.{Stack}
use Rattle.s390x_inst.specs.declared.calls.ReturnCallInfo.{ReturnCallInfo}
use Rattle.s390x_inst.specs.declared.calls.TryCallHandler.{TryCallHandler}
use Rattle.s390x_inst.specs.declared.calls.TryCallHandler.TheVariants.{Tag, Default}
use Rattle.s390x_inst.specs.declared.calls.TryCallInfo.{TryCallInfo}
use Rattle.s390x_inst.specs.declared.inst.Inst.{Inst}
use Rattle.s390x_inst.specs.declared.inst.Inst.TheVariants.{Call, LoadAddr, ReturnCall}
use Rattle.s390x_job_fields.specs.Atoms.{reg_text}
use Rattle.s390x_text_rows.specs.Texts.{Text, fixed_text, both, before_semicolon, instruction_text}
use Rattle.s390x_text_rows.specs.Operands.{label_text, name_text}
use Rattle.s390x_text_rows.specs.Simple.{unbuilt, simple_text}

-- the branch of a call, by its target
abbrev pub branch_and_link_text : (link : Reg) → CallInstDest → List ℕ
branch_and_link_text link (Direct name) = instruction_text (codes "brasl") (reg_text link ∷ name_text name.0 ∷ [])
branch_and_link_text link (Indirect reg) = instruction_text (codes "basr") (reg_text link ∷ reg_text reg ∷ [])

-- how many bytes of arguments the callee takes, where it takes any
abbrev pub popped_text : ℕ → List ℕ
popped_text n = cond (nat_eq n 0) [] (codes " ; callee_pop_size " ++ decimal n)

-- the load of a result, where its type has one, behind a semicolon
abbrev pub loaded_text : Emission → Option Inst → Text
loaded_text e None = unbuilt
loaded_text e (Some load) = both (fixed_text (codes " ; ")) (simple_text true e load)

-- the load of a result that comes back on the stack; nothing of one that comes back in a register
abbrev pub result_at : Emission → (rd : Reg) → RetLocation → Text
result_at e rd (Stack off ty) = loaded_text e (load_of rd (OutgoingArgOffset off) ty)
result_at e rd _ = fixed_text []

abbrev pub result_text : Emission → CallRetPair → Text
result_text e d = result_at e d.vreg d.location

abbrev pub results_text : Emission → List CallRetPair → Text
results_text e [] = fixed_text []
results_text e (d ∷ ds) = both (result_text e d) (results_text e ds)

-- the loads of a call that isn't patchable, in the state in which the popped bytes lie above the stack pointer
abbrev pub loads_text : Emission → CallInfo → Text
loads_text e info = cond info.patchable (fixed_text []) (results_text (record e { nominal = 0; outgoing = info.callee_pop_size }) info.defs.items)

-- a handler
abbrev pub handler_text : TryCallHandler → List ℕ
handler_text (Tag n label) = codes "tag" ++ (decimal n ++ (codes ": " ++ label_text label.0))
handler_text (Default label) = codes "default: " ++ label_text label.0

-- handlers, each behind a comma and a space
abbrev pub more_handlers : List TryCallHandler → List ℕ
more_handlers [] = []
more_handlers (h ∷ hs) = codes ", " ++ (handler_text h ++ more_handlers hs)

-- handlers, joined by commas and spaces
abbrev pub handlers_text : List TryCallHandler → List ℕ
handlers_text [] = []
handlers_text (h ∷ hs) = handler_text h ++ more_handlers hs

-- where a call with handlers goes on
abbrev pub try_text : Option TryCallInfo → List ℕ
try_text None = []
try_text (Some t) = codes "; jg " ++ (label_text t.continuation.0 ++ (codes "; catch [" ++ (handlers_text t.exception_handlers.items ++ codes "]")))

-- a call, the loads of its results, and where it goes on
abbrev pub plain_call_text : Emission → (link : Reg) → CallInfo → Text
plain_call_text e link info =
    both (fixed_text (branch_and_link_text link info.dest ++ popped_text info.callee_pop_size)) (both (loads_text e info) (fixed_text (try_text info.try_call_info)))

-- ---- tail calls

-- a frame saves no general register, or those from one of 6 to 14 on
abbrev pub is_first_saved : Option ℕ → Bool
is_first_saved None = true
is_first_saved (Some g) = nat_le 6 g && nat_le g 14

-- instructions, each before a semicolon
abbrev pub simple_texts : Emission → List Inst → Text
simple_texts e [] = fixed_text []
simple_texts e (i ∷ is) = both (before_semicolon (simple_text true e i)) (simple_texts e is)

-- what sets the stack pointer to the caller's frame, by the tail arguments higher and by the popped bytes lower
abbrev pub stack_raise : FrameLayout → (popped : ℕ) → Inst
stack_raise layout popped = LoadAddr (Real (general 15)) (above_stack (pos (caller_at layout + layout.tail_args_size) -ℤ pos popped))

-- a frame saves no registers, and the target is a symbol
abbrev pub is_only_raised : FrameLayout → CallInstDest → Bool
is_only_raised layout (Direct name) = nat_eq layout.saved_fprs 0 && is_none layout.first_saved_gpr
is_only_raised layout (Indirect reg) = false

-- what takes the frame down
abbrev pub epilogue_text : Emission → (popped : ℕ) → CallInstDest → Text
epilogue_text e popped dest = cond (is_first_saved e.layout.first_saved_gpr) (simple_texts e (epilogue e.layout popped dest)) unbuilt

-- the branch of a tail call, to the target or to where it is copied
abbrev pub tail_branch_text : CallInstDest → (copied : Option Reg) → List ℕ
tail_branch_text (Direct name) copied = instruction_text (codes "jg") (name_text name.0 ∷ [])
tail_branch_text (Indirect reg) None = instruction_text (codes "br") (reg_text reg ∷ [])
tail_branch_text (Indirect reg) (Some copy) = instruction_text (codes "br") (reg_text copy ∷ [])

abbrev pub tail_call_text : Emission → ReturnCallInfo CallInstDest → Text
tail_call_text e info =
    both (epilogue_text e info.callee_pop_size info.dest) (fixed_text (tail_branch_text info.dest (copied_target info.dest) ++ popped_text info.callee_pop_size))

-- calls and tail calls
abbrev pub call_text : Emission → Inst → Option Text
call_text e (Call link info) = Some (plain_call_text e link info)
call_text e (ReturnCall info) = Some (tail_call_text e info)
call_text e _ = None
