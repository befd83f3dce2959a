-- The fields of a line: each kind has a spelling, a range and a reader. A field is spelled with the space before it.
use Rattle.std.specs.Prelude.{ℕ, ◌≡◌, ◌^◌, ◌<◌, Bool, Option, Some, None, List, [], ◌∷◌, ◌++◌, codes, ℤ, if◌then◌else◌, drop}
use Rattle.std.specs.Fmt.{decimal, signed_decimal}
use Rattle.std.specs.Str.{bytes_eq}
use Rattle.hex.specs.Hex.{IsBytes}
use Rattle.s390x_base.specs.Registers.{RealRegister, IsRegister}
use Rattle.s390x_base.specs.Traps.{IsKind}
use Rattle.s390x_base.specs.declared.regs.Reg.{Reg}
use Rattle.s390x_base.specs.declared.trap.TrapKind.{TrapKind}
use Rattle.s390x_base.specs.declared.ir.MachLabel.{MachLabel}
use Rattle.s390x_inst.specs.declared.args.MemArg.{MemArg}
use Rattle.s390x_inst.specs.declared.calls.ArgPair.{ArgPair}
use Rattle.s390x_inst.specs.declared.calls.RetPair.{RetPair}
use Rattle.s390x_inst.specs.declared.calls.CallArgPair.{CallArgPair}
use Rattle.s390x_inst.specs.declared.calls.CallRetPair.{CallRetPair}
use Rattle.s390x_inst.specs.declared.calls.CallInstDest.{CallInstDest}
use Rattle.s390x_inst.specs.declared.calls.SymbolReloc.{SymbolReloc}
use Rattle.s390x_inst.specs.declared.state.IsaFlags.{IsaFlags}
use Rattle.s390x_job_fields.specs.Marks.{word, after_word, past}
use Rattle.s390x_job_fields.specs.Numbers.{Width, width_bits, SignedWidth, signed_limit, IsBelow, natural_of, integer_of, W8}
use Rattle.s390x_job_fields.specs.Atoms.{real_text, real_register_of, reg_text, reg_of, IsReg, mask_of, IsMask, trap_text, trap_of, bool_text, bool_of, name_of}
use Rattle.s390x_job_fields.specs.Memory.{memory_text, memory_operand_of, IsMemory}
use Rattle.s390x_job_fields.specs.Lists.{list_text, list_of, AllItems}
use Rattle.s390x_job_fields.specs.Sets.{members_of, is_in}
use Rattle.s390x_job_fields.specs.Calls.{target_text, call_target_of, IsCallTarget, reloc_text, reloc_of, IsReloc, result_text, call_result_of, IsResult, TryPart, try_text, try_of, after_try, IsTry, arg_text, IsArg, arg_of, ret_text, IsRet, ret_of, use_text, IsUse, use_of, label_text, IsLabel, label_of}
use Rattle.s390x_job_fields.specs.Bytes.{bytes_text, bytes_of_text, value_text, value_limit, value_of, facilities_text, facilities_of}
use Rattle.s390x_job_fields.specs.Operators.{alu_text, alu_of, cmp_text, cmp_of, shift_text, shift_of, rxsbg_text, rxsbg_of, unary_text, unary_of, vec_binary_text, vec_binary_of, vec_unary_text, vec_unary_of, vec_shift_text, vec_shift_of, vec_compare_text, vec_compare_of, vec_element_compare_text, vec_element_compare_of, convention_text, convention_of}
use Rattle.s390x_inst.specs.declared.ops.ALUOp.{ALUOp}
use Rattle.s390x_inst.specs.declared.ops.CmpOp.{CmpOp}
use Rattle.s390x_inst.specs.declared.ops.ShiftOp.{ShiftOp}
use Rattle.s390x_inst.specs.declared.ops.RxSBGOp.{RxSBGOp}
use Rattle.s390x_inst.specs.declared.ops.UnaryOp.{UnaryOp}
use Rattle.s390x_inst.specs.declared.vec_ops.VecBinaryOp.{VecBinaryOp}
use Rattle.s390x_inst.specs.declared.vec_ops.VecUnaryOp.{VecUnaryOp}
use Rattle.s390x_inst.specs.declared.vec_ops.VecShiftOp.{VecShiftOp}
use Rattle.s390x_inst.specs.declared.vec_ops.VecIntCmpOp.{VecIntCmpOp}
use Rattle.s390x_inst.specs.declared.vec_ops.VecIntEltCmpOp.{VecIntEltCmpOp}
use Rattle.s390x_inst.specs.declared.calls.CallConv.{CallConv}

-- a number or `-`
abbrev pub option_text : Option ℕ → List ℕ
option_text None = codes "-"
option_text (Some n) = decimal n

-- the number, where there is one, lies in the range of its width
abbrev pub IsOption : Width → Option ℕ → Type 0
IsOption w None = Unit {0}
IsOption w (Some n) = n < 2 ^ width_bits w

-- the number that a word spells, or none
abbrev pub option_of : Width → List ℕ → Option ℕ
option_of w s = if bytes_eq s (codes "-") then None else Some (natural_of w s)

-- a field of a line: its kind, and its value
pub data Field : Type 0 where
  FReg : Reg → Field
  FReal : RealRegister → Field
  FPair : Reg → Reg → Field
  FAlu : ALUOp → Field
  FCmp : CmpOp → Field
  FShift : ShiftOp → Field
  FRxsbg : RxSBGOp → Field
  FUnary : UnaryOp → Field
  FVecBinary : VecBinaryOp → Field
  FVecUnary : VecUnaryOp → Field
  FVecShift : VecShiftOp → Field
  FVecCompare : VecIntCmpOp → Field
  FVecElementCompare : VecIntEltCmpOp → Field
  FConvention : CallConv → Field
  FBool : Bool → Field
  FNatural : Width → ℕ → Field
  FInteger : SignedWidth → ℤ → Field
  FShifted : Width → ℕ → ℕ → Field
  FMemory : MemArg → Field
  FCond : ℕ → Field
  FTrap : TrapKind → Field
  FLabels : List MachLabel → Field
  FArgs : List ArgPair → Field
  FRets : List RetPair → Field
  FUses : List CallArgPair → Field
  FDefs : List CallRetPair → Field
  FSet : List RealRegister → Field
  FTarget : CallInstDest → Field
  FTry : TryPart → Field
  FOption : Width → Option ℕ → Field
  FReloc : SymbolReloc → Field
  FName : ℕ → Field
  FBytes : List ℕ → Field
  FStart : RealRegister → ℕ → Field
  FFlags : IsaFlags → Field

-- the kinds of fields; that of a number has its width
pub data Kind : Type 0 where
  KReg : Kind
  KReal : Kind
  KPair : Kind
  KAlu : Kind
  KCmp : Kind
  KShift : Kind
  KRxsbg : Kind
  KUnary : Kind
  KVecBinary : Kind
  KVecUnary : Kind
  KVecShift : Kind
  KVecCompare : Kind
  KVecElementCompare : Kind
  KConvention : Kind
  KBool : Kind
  KNatural : Width → Kind
  KInteger : SignedWidth → Kind
  KShifted : Width → Kind
  KMemory : Kind
  KCond : Kind
  KTrap : Kind
  KLabels : Kind
  KArgs : Kind
  KRets : Kind
  KUses : Kind
  KDefs : Kind
  KSet : Kind
  KTarget : Kind
  KTry : Kind
  KOption : Width → Kind
  KReloc : Kind
  KName : Kind
  KBytes : Kind
  KStart : Kind
  KFlags : Kind

-- the kind of a field
abbrev pub kind_of : Field → Kind
kind_of (FReg r) = KReg
kind_of (FReal r) = KReal
kind_of (FPair h l) = KPair
kind_of (FAlu o) = KAlu
kind_of (FCmp o) = KCmp
kind_of (FShift o) = KShift
kind_of (FRxsbg o) = KRxsbg
kind_of (FUnary o) = KUnary
kind_of (FVecBinary o) = KVecBinary
kind_of (FVecUnary o) = KVecUnary
kind_of (FVecShift o) = KVecShift
kind_of (FVecCompare o) = KVecCompare
kind_of (FVecElementCompare o) = KVecElementCompare
kind_of (FConvention o) = KConvention
kind_of (FBool b) = KBool
kind_of (FNatural w n) = KNatural w
kind_of (FInteger w z) = KInteger w
kind_of (FShifted w b n) = KShifted w
kind_of (FMemory m) = KMemory
kind_of (FCond n) = KCond
kind_of (FTrap k) = KTrap
kind_of (FLabels xs) = KLabels
kind_of (FArgs xs) = KArgs
kind_of (FRets xs) = KRets
kind_of (FUses xs) = KUses
kind_of (FDefs xs) = KDefs
kind_of (FSet rs) = KSet
kind_of (FTarget d) = KTarget
kind_of (FTry t) = KTry
kind_of (FOption w o) = KOption w
kind_of (FReloc x) = KReloc
kind_of (FName n) = KName
kind_of (FBytes bs) = KBytes
kind_of (FStart r v) = KStart
kind_of (FFlags f) = KFlags

-- the text of a field
abbrev pub spell : Field → List ℕ
spell (FReg r) = 32 ∷ reg_text r
spell (FReal r) = 32 ∷ real_text r
spell (FPair h l) = 32 ∷ (reg_text h ++ (47 ∷ reg_text l))
spell (FAlu o) = 32 ∷ alu_text o
spell (FCmp o) = 32 ∷ cmp_text o
spell (FShift o) = 32 ∷ shift_text o
spell (FRxsbg o) = 32 ∷ rxsbg_text o
spell (FUnary o) = 32 ∷ unary_text o
spell (FVecBinary o) = 32 ∷ vec_binary_text o
spell (FVecUnary o) = 32 ∷ vec_unary_text o
spell (FVecShift o) = 32 ∷ vec_shift_text o
spell (FVecCompare o) = 32 ∷ vec_compare_text o
spell (FVecElementCompare o) = 32 ∷ vec_element_compare_text o
spell (FConvention o) = 32 ∷ convention_text o
spell (FBool b) = 32 ∷ bool_text b
spell (FNatural w n) = 32 ∷ decimal n
spell (FInteger w z) = 32 ∷ signed_decimal z
spell (FShifted w b n) = 32 ∷ (decimal b ++ (58 ∷ decimal n))
spell (FMemory m) = 32 ∷ memory_text m
spell (FCond n) = 32 ∷ decimal n
spell (FTrap k) = 32 ∷ trap_text k
spell (FLabels xs) = 32 ∷ list_text label_text xs
spell (FArgs xs) = 32 ∷ list_text arg_text xs
spell (FRets xs) = 32 ∷ list_text ret_text xs
spell (FUses xs) = 32 ∷ list_text use_text xs
spell (FDefs xs) = 32 ∷ list_text result_text xs
spell (FSet rs) = 32 ∷ list_text real_text rs
spell (FTarget d) = 32 ∷ target_text d
spell (FTry t) = 32 ∷ try_text t
spell (FOption w o) = 32 ∷ option_text o
spell (FReloc x) = 32 ∷ reloc_text x
spell (FName n) = 32 ∷ 117 ∷ decimal n
spell (FBytes bs) = 32 ∷ bytes_text bs
spell (FStart r v) = 32 ∷ (real_text r ++ (32 ∷ value_text r.class v))
spell (FFlags f) = facilities_text f

-- the number lies in its range
abbrev pub IsField : Field → Type 0
IsField (FReg r) = IsReg r
IsField (FReal r) = IsRegister r
IsField (FPair h l) = IsReg h × IsReg l
IsField (FAlu o) = Unit {0}
IsField (FCmp o) = Unit {0}
IsField (FShift o) = Unit {0}
IsField (FRxsbg o) = Unit {0}
IsField (FUnary o) = Unit {0}
IsField (FVecBinary o) = Unit {0}
IsField (FVecUnary o) = Unit {0}
IsField (FVecShift o) = Unit {0}
IsField (FVecCompare o) = Unit {0}
IsField (FVecElementCompare o) = Unit {0}
IsField (FConvention o) = Unit {0}
IsField (FBool b) = Unit {0}
IsField (FNatural w n) = n < 2 ^ width_bits w
IsField (FInteger w z) = IsBelow (signed_limit w) z
IsField (FShifted w b n) = (b < 2 ^ width_bits w) × (n < 256)
IsField (FMemory m) = IsMemory m
IsField (FCond n) = IsMask n
IsField (FTrap k) = IsKind k
IsField (FLabels xs) = AllItems IsLabel xs
IsField (FArgs xs) = AllItems IsArg xs
IsField (FRets xs) = AllItems IsRet xs
IsField (FUses xs) = AllItems IsUse xs
IsField (FDefs xs) = AllItems IsResult xs
IsField (FSet rs) = rs ≡ members_of (is_in rs)
IsField (FTarget d) = IsCallTarget d
IsField (FTry t) = IsTry t
IsField (FOption w o) = IsOption w o
IsField (FReloc x) = IsReloc x
IsField (FName n) = n < 4294967296
IsField (FBytes bs) = IsBytes bs
IsField (FStart r v) = IsRegister r × (v < value_limit r.class)
IsField (FFlags f) = Unit {0}

-- the field of a kind that a text begins with; where none stands there, some field of the kind
abbrev pub value_as : Kind → List ℕ → Field
value_as KReg s = FReg (reg_of (word s))
value_as KReal s = FReal (real_register_of (word s))
value_as KPair s = FPair (reg_of (word s)) (reg_of (word (after_word s)))
value_as KAlu s = FAlu (alu_of (word s))
value_as KCmp s = FCmp (cmp_of (word s))
value_as KShift s = FShift (shift_of (word s))
value_as KRxsbg s = FRxsbg (rxsbg_of (word s))
value_as KUnary s = FUnary (unary_of (word s))
value_as KVecBinary s = FVecBinary (vec_binary_of (word s))
value_as KVecUnary s = FVecUnary (vec_unary_of (word s))
value_as KVecShift s = FVecShift (vec_shift_of (word s))
value_as KVecCompare s = FVecCompare (vec_compare_of (word s))
value_as KVecElementCompare s = FVecElementCompare (vec_element_compare_of (word s))
value_as KConvention s = FConvention (convention_of (word s))
value_as KBool s = FBool (bool_of (word s))
value_as (KNatural w) s = FNatural w (natural_of w (word s))
value_as (KInteger w) s = FInteger w (integer_of w (word s))
value_as (KShifted w) s = FShifted w (natural_of w (word s)) (natural_of W8 (word (after_word s)))
value_as KMemory s = FMemory (memory_operand_of s)
value_as KCond s = FCond (mask_of (word s))
value_as KTrap s = FTrap (trap_of (word s))
value_as KLabels s = FLabels (list_of label_of (drop 1 s))
value_as KArgs s = FArgs (list_of arg_of (drop 1 s))
value_as KRets s = FRets (list_of ret_of (drop 1 s))
value_as KUses s = FUses (list_of use_of (drop 1 s))
value_as KDefs s = FDefs (list_of call_result_of (drop 1 s))
value_as KSet s = FSet (members_of (is_in (list_of (λ s. real_register_of (word s)) (drop 1 s))))
value_as KTarget s = FTarget (call_target_of (word s))
value_as KTry s = FTry (try_of s)
value_as (KOption w) s = FOption w (option_of w (word s))
value_as KReloc s = FReloc (reloc_of s)
value_as KName s = FName (name_of (word s))
value_as KBytes s = FBytes (bytes_of_text (word s))
value_as KStart s = FStart (real_register_of (word s)) (value_of (real_register_of (word s)).class (word (after_word s)))
value_as KFlags s = FFlags (facilities_of s)

-- what follows the field of a kind that a text begins with
abbrev pub after_as : Kind → List ℕ → List ℕ
after_as KPair s = after_word (after_word s)
after_as (KShifted w) s = after_word (after_word s)
after_as KMemory s = past 41 s
after_as KLabels s = past 93 s
after_as KArgs s = past 93 s
after_as KRets s = past 93 s
after_as KUses s = past 93 s
after_as KDefs s = past 93 s
after_as KSet s = past 93 s
after_as KTry s = after_try s
after_as KReloc s = past 41 s
after_as KStart s = after_word (after_word s)
after_as KFlags s = []
after_as _ s = after_word s
