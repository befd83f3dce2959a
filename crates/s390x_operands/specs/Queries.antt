-- What a register allocator asks of an instruction beside its operands (cranelift-codegen, `mod.rs`).
use Rattle.std.specs.Prelude.{◌≡◌, ℕ, ◌≤◌, ◌<◌, nat_eq, nat_le, Bool, true, false, ◌||◌, not, cond, is_some, List, [], ◌∷◌, Option, Some, None, Result, Ok, Err}
use Rattle.s390x_base.specs.Regs.{class_of}
use Rattle.s390x_base.specs.Types.{bits_of}
use Rattle.s390x_base.specs.declared.ir.ValueType.{ValueType}
use Rattle.s390x_base.specs.declared.ir.ValueType.TheVariants.{I8, I16, I32, I64, I128, F16, F32, F64, F128, I8X8, I8X16, I16X8, I32X4, I64X2, F32X4, F64X2}
use Rattle.s390x_base.specs.declared.regs.Reg.{Reg}
use Rattle.s390x_base.specs.declared.regs.RegClass.{RegClass}
use Rattle.s390x_base.specs.declared.regs.RegClass.TheVariants.{Int, Float}
use Rattle.s390x_inst.specs.Constructors.{move32_of, move64_of}
use Rattle.s390x_inst.specs.declared.calls.CallConv.{CallConv}
use Rattle.s390x_inst.specs.declared.calls.CallConv.TheVariants.{Fast, Tail, SystemV}
use Rattle.s390x_inst.specs.declared.calls.CallInfo.{CallInfo}
use Rattle.s390x_inst.specs.declared.inst.Inst.{Inst}
use Rattle.s390x_inst.specs.declared.inst.Inst.TheVariants as I
use Rattle.s390x_inst.specs.declared.vec_inst.VecInst.{VecInst}
use Rattle.s390x_inst.specs.declared.vec_inst.VecInst.TheVariants.{FpuMove32, FpuMove64, VecMov}
use Rattle.s390x_operands.specs.declared.mach_inst.CallType.{CallType}
use Rattle.s390x_operands.specs.declared.mach_inst.CallType.TheVariants.{None as NoCall, Regular, TailCall}
use Rattle.s390x_operands.specs.declared.mach_inst.CodegenError.{CodegenError}
use Rattle.s390x_operands.specs.declared.mach_inst.CodegenError.TheVariants.{Unsupported}
use Rattle.s390x_operands.specs.declared.mach_inst.MachTerminator.{MachTerminator}
use Rattle.s390x_operands.specs.declared.mach_inst.MachTerminator.TheVariants.{None as NoEnd, Ret as Returns, RetCall, Branch}

-- output and input of a move between vector or float registers
abbrev pub vector_move_of : VecInst → Option (Reg × Reg)
vector_move_of (FpuMove32 rd rn) = Some (rd, rn)
vector_move_of (FpuMove64 rd rn) = Some (rd, rn)
vector_move_of (VecMov rd rn) = Some (rd, rn)
vector_move_of _ = None

-- output and input of a move
abbrev pub move_of : Inst → Option (Reg × Reg)
move_of (I.Mov32 rd rm) = Some (rd, rm)
move_of (I.Mov64 rd rm) = Some (rd, rm)
move_of (I.Vector v) = vector_move_of v
move_of _ = None

abbrev pub is_trap : Inst → Bool
is_trap (I.Trap code) = true
is_trap _ = false

abbrev pub is_args : Inst → Bool
is_args (I.Args args) = true
is_args _ = false

abbrev pub is_safepoint : Inst → Bool
is_safepoint (I.Call link info) = true
is_safepoint _ = false

-- whether an instruction calls, and how
abbrev pub call_type_of : Inst → CallType
call_type_of (I.Call link info) = Regular
call_type_of (I.ReturnCall info) = TailCall
call_type_of _ = NoCall

-- two calling conventions are the same
abbrev pub is_same_convention : CallConv → CallConv → Bool
is_same_convention Fast Fast = true
is_same_convention Tail Tail = true
is_same_convention SystemV SystemV = true
is_same_convention _ _ = false

-- a call has handlers of exceptions
abbrev pub has_handlers : CallInfo → Bool
has_handlers info = is_some info.try_call_info

-- what it overwrites counts for the function: not that of its arguments, nor of a call of equal conventions without handlers
abbrev pub is_included_in_clobbers : Inst → Bool
is_included_in_clobbers (I.Args args) = false
is_included_in_clobbers (I.Call link info) = not (is_same_convention info.caller_conv info.callee_conv) || has_handlers info
is_included_in_clobbers _ = true

-- whether an instruction ends a block, and how
abbrev pub terminator_of : Inst → MachTerminator
terminator_of (I.Rets rets) = Returns
terminator_of (I.ReturnCall info) = RetCall
terminator_of (I.Jump dest) = Branch
terminator_of (I.CondBr taken not_taken mask) = Branch
terminator_of (I.IndirectBr rn targets) = Branch
terminator_of (I.JTSequence ridx default mask targets) = Branch
terminator_of (I.Call link info) = cond (has_handlers info) Branch NoEnd
terminator_of _ = NoEnd

-- up to 64 bits the registers are of one class, above both are Float
abbrev pub CanMove : (to from : Reg) → ValueType → Type 0
CanMove to from ty = (bits_of ty ≤ 64 → class_of to ≡ class_of from) × (64 < bits_of ty → (class_of to ≡ Float) × (class_of from ≡ Float))

-- the move of a value of a type
abbrev pub move_of_type : (to from : Reg) → ValueType → Inst
move_of_type to from ty = cond (nat_le (bits_of ty) 32) (move32_of to from) (cond (nat_le (bits_of ty) 64) (move64_of to from) (I.Vector (VecMov to from)))

-- what does nothing, for a wanted size in bytes
abbrev pub nop_of : ℕ → Inst
nop_of n = cond (nat_eq n 0) I.Nop0 I.Nop2

-- the bytes of the one that has two
abbrev pub two_byte_nop : List ℕ
two_byte_nop = 7 ∷ 7 ∷ []

-- the class of the registers that hold a value of a type, and the type as which they hold it
abbrev pub register_for : ValueType → Result (RegClass × ValueType) CodegenError
register_for I8 = Ok (Int, I8)
register_for I16 = Ok (Int, I16)
register_for I32 = Ok (Int, I32)
register_for I64 = Ok (Int, I64)
register_for I128 = Ok (Float, I128)
register_for F16 = Ok (Float, F16)
register_for F32 = Ok (Float, F32)
register_for F64 = Ok (Float, F64)
register_for F128 = Ok (Float, F128)
register_for I8X8 = Err (Unsupported I8X8)
register_for I8X16 = Ok (Float, I8X16)
register_for I16X8 = Ok (Float, I8X16)
register_for I32X4 = Ok (Float, I8X16)
register_for I64X2 = Ok (Float, I8X16)
register_for F32X4 = Ok (Float, I8X16)
register_for F64X2 = Ok (Float, I8X16)

-- the type of a whole register of a class
abbrev pub type_of_class : RegClass → ValueType
type_of_class Int = I64
type_of_class Float = I8X16
