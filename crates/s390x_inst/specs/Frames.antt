-- What loads results from the stack behind a call, and what takes a frame down before a tail call (cranelift-codegen, `abi.rs` of s390x).
use Rattle.std.specs.Prelude.{◌≢◌, ℕ, ◌+◌, ◌*◌, ◌/◌, ◌%◌, ◌^◌, ◌≤◌, Bool, false, cond, ◌&&◌, nat_eq, nat_le, ℤ, pos, ◌-ℤ◌, Option, Some, None, List, [], ◌∷◌, ◌++◌}
use Rattle.std.specs.List.{filter, range_with_len}
use Rattle.s390x_base.specs.Registers.{general, vector}
use Rattle.s390x_base.specs.Regs.{is_int}
use Rattle.s390x_base.specs.declared.ir.ValueType.TheVariants.{I8X8}
use Rattle.s390x_base.specs.declared.regs.Reg.{Reg}
use Rattle.s390x_base.specs.declared.regs.Reg.TheVariants.{Real, Virtual}
use Rattle.s390x_inst.specs.Constructors.{load_of}
use Rattle.s390x_inst.specs.Memory.{trusted}
use Rattle.s390x_inst.specs.declared.args.MemArg.{MemArg}
use Rattle.s390x_inst.specs.declared.args.MemArg.TheVariants.{RegOffset, OutgoingArgOffset}
use Rattle.s390x_inst.specs.declared.calls.CallInstDest.{CallInstDest}
use Rattle.s390x_inst.specs.declared.calls.CallInstDest.TheVariants.{Direct, Indirect}
use Rattle.s390x_inst.specs.declared.calls.CallRetPair.{CallRetPair}
use Rattle.s390x_inst.specs.declared.calls.RetLocation.{RetLocation}
use Rattle.s390x_inst.specs.declared.calls.RetLocation.TheVariants.{Stack}
use Rattle.s390x_inst.specs.declared.inst.Inst.{Inst}
use Rattle.s390x_inst.specs.declared.inst.Inst.TheVariants.{Mov64, LoadMultiple64, LoadAddr, Vector}
use Rattle.s390x_inst.specs.declared.state.FrameLayout.{FrameLayout}
use Rattle.s390x_inst.specs.declared.vec_inst.VecInst.TheVariants.{VecLoadLaneUndef}

-- a result on the stack can be loaded: its type isn't `I8X8`
abbrev pub CanLoad : RetLocation → Type 0
CanLoad (Stack off ty) = ty ≢ I8X8
CanLoad _ = Unit {0}

-- a call's result can be loaded, where it comes back on the stack
abbrev pub HasLoad : CallRetPair → Type 0
HasLoad d = CanLoad d.location

-- the load of what comes back on the stack, from the outgoing arguments; none for what comes back in a register
abbrev pub load_from : (rd : Reg) → RetLocation → Option Inst
load_from rd (Stack off ty) = load_of rd (OutgoingArgOffset off) ty
load_from rd _ = None

-- an instruction before others, where there is one
abbrev pub before : Option Inst → List Inst → List Inst
before (Some i) rest = i ∷ rest
before None rest = rest

-- the loads of a call's results that come back on the stack, in order
abbrev pub return_loads : List CallRetPair → List Inst
return_loads [] = []
return_loads (d ∷ ds) = before (load_from d.vreg d.location) (return_loads ds)

-- a frame saves no general register, or those from one of 6 to 14 on
abbrev pub IsFirstSaved : Option ℕ → Type 0
IsFirstSaved None = Unit {0}
IsFirstSaved (Some g) = (6 ≤ g) × (g ≤ 14)

-- so far above the stack pointer
abbrev pub above_stack : ℤ → MemArg
above_stack off = RegOffset (Real (general 15)) off trusted

-- whether the register of a target may be loaded by the epilogue: a real general one of 6 to 15
abbrev pub is_lost : Reg → Bool
is_lost (Real r) = is_int r.class && nat_le 6 r.number && nat_le r.number 15
is_lost (Virtual n c) = false

-- the copy of such a target to `%r1`
abbrev pub target_copy : CallInstDest → List Inst
target_copy (Direct name) = []
target_copy (Indirect reg) = cond (is_lost reg) (Mov64 (Real (general 1)) reg ∷ []) []

-- where such a target then stands
abbrev pub copied_target : CallInstDest → Option Reg
copied_target (Direct name) = None
copied_target (Indirect reg) = cond (is_lost reg) (Some (Real (general 1))) None

-- whether a float register is saved: its bit in the set
abbrev pub is_saved : (set n : ℕ) → Bool
is_saved set n = nat_eq (set / 2 ^ n % 2) 1

-- the saved float registers, rising
unfoldable pub saved_floats : (set : ℕ) → List ℕ
saved_floats set = filter (is_saved set) (range_with_len 0 16)

-- the load of a float register's 64 bits; the rest of its vector register may have any value
abbrev pub float_load : (n off : ℕ) → Inst
float_load n off = Vector (VecLoadLaneUndef 64 (Real (vector n)) (above_stack (pos off)) 0)

-- the loads of float registers, the first of them counted as the k-th: each stands 8k bytes behind a start
abbrev pub float_loads : (start k : ℕ) → List ℕ → List Inst
float_loads start k [] = []
float_loads start k (n ∷ ns) = float_load n (start + 8 * k) ∷ float_loads start (k + 1) ns

-- the load of the saved general registers up to `%r14`, from the save area of the caller's frame
abbrev pub general_load : (caller : ℕ) → Option ℕ → List Inst
general_load caller None = []
general_load caller (Some g) = LoadMultiple64 (Real (general g)) (Real (general 14)) (above_stack (pos (caller + 8 * g))) ∷ []

-- where the saved float registers begin, counted from the stack pointer
abbrev pub floats_at : FrameLayout → ℕ
floats_at layout = layout.outgoing_args_size + layout.fixed_frame_storage_size

-- where the caller's frame begins
abbrev pub caller_at : FrameLayout → ℕ
caller_at layout = floats_at layout + layout.clobber_size

-- what stands before the jump of a tail call that pops arguments: the target's copy, the float registers, the general ones, and the stack pointer
abbrev pub epilogue : FrameLayout → (popped : ℕ) → CallInstDest → List Inst
epilogue layout popped dest =
    target_copy dest
    ++ float_loads (floats_at layout) 0 (saved_floats layout.saved_fprs)
    ++ general_load (caller_at layout) layout.first_saved_gpr
    ++ LoadAddr (Real (general 15)) (above_stack (pos (caller_at layout + layout.tail_args_size) -ℤ pos popped)) ∷ []
