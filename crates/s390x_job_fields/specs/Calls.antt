-- The parts of calls: targets, argument pairs, results and handlers.
use Rattle.std.specs.Prelude.{ℕ, ◌<◌, Option, Some, None, List, [], ◌∷◌, ◌++◌, codes, if◌then◌else◌, ◌==◌, slice_index, drop}
use Rattle.std.specs.Fmt.{decimal, signed_decimal}
use Rattle.std.specs.Str.{bytes_eq}
use Rattle.s390x_base.specs.declared.ir.MachLabel.{MachLabel}
use Rattle.s390x_inst.specs.declared.calls.ArgPair.{ArgPair}
use Rattle.s390x_inst.specs.declared.calls.RetPair.{RetPair}
use Rattle.s390x_inst.specs.declared.calls.CallArgPair.{CallArgPair}
use Rattle.s390x_inst.specs.declared.calls.CallInstDest.{CallInstDest}
use Rattle.s390x_inst.specs.declared.calls.CallInstDest.TheVariants.{Direct, Indirect}
use Rattle.s390x_inst.specs.declared.calls.CallRetPair.{CallRetPair}
use Rattle.s390x_inst.specs.declared.calls.RetLocation.{RetLocation}
use Rattle.s390x_inst.specs.declared.calls.RetLocation.TheVariants as L
use Rattle.s390x_inst.specs.declared.calls.TryCallHandler.{TryCallHandler}
use Rattle.s390x_inst.specs.declared.calls.TryCallHandler.TheVariants.{Tag, Default}
use Rattle.s390x_inst.specs.declared.calls.TryCallInfo.{TryCallInfo}
use Rattle.s390x_inst.specs.declared.calls.SymbolReloc.{SymbolReloc}
use Rattle.s390x_inst.specs.declared.calls.SymbolReloc.TheVariants.{Absolute}
use Rattle.s390x_base.specs.declared.regs.Reg.{Reg}
use Rattle.s390x_job_fields.specs.Marks.{equals_sign, at_sign, colon, word, after_word, past}
use Rattle.s390x_job_fields.specs.Numbers.{natural_of, integer_of, IsBelow, signed_limit, W32, S64}
use Rattle.s390x_job_fields.specs.Operators.{type_text, value_type_of}
use Rattle.s390x_job_fields.specs.Atoms.{reg_text, reg_of, IsReg, name_of}
use Rattle.s390x_job_fields.specs.Lists.{list_text, list_of, AllItems}

-- the target of a call: a symbol or a register
abbrev pub target_text : CallInstDest → List ℕ
target_text (Direct name) = 117 ∷ decimal name.0
target_text (Indirect reg) = reg_text reg

-- its number lies in its range
abbrev pub IsCallTarget : CallInstDest → Type 0
IsCallTarget (Direct name) = name.0 < 4294967296
IsCallTarget (Indirect reg) = IsReg reg

-- the target that a word spells
abbrev pub call_target_of : List ℕ → CallInstDest
call_target_of w = if slice_index w 0 == 37 then Indirect (reg_of w) else Direct (record { 0 = name_of w })

-- what a relocation names: `Absolute(u1,0)`
abbrev pub reloc_text : SymbolReloc → List ℕ
reloc_text (Absolute name offset) =
    codes "Absolute" ++ (40 ∷ ((117 ∷ decimal name.0) ++ (44 ∷ (signed_decimal offset ++ (41 ∷ [])))))

-- its numbers lie in their ranges
abbrev pub IsReloc : SymbolReloc → Type 0
IsReloc (Absolute name offset) = (name.0 < 4294967296) × IsBelow (signed_limit S64) offset

-- what a relocation names, read behind one mark
abbrev pub reloc_of : List ℕ → SymbolReloc
reloc_of s =
    Absolute (record { 0 = name_of (word (after_word s)) }) (integer_of S64 (word (after_word (after_word s))))

-- a pair of registers: `vreg=preg`
abbrev pub pair_text : Reg → Reg → List ℕ
pair_text v p = reg_text v ++ (equals_sign ∷ reg_text p)

-- where a result comes back, and its type: `=preg:I64` or `=@OFFSET:I64`
abbrev pub location_text : RetLocation → List ℕ
location_text (L.Reg r ty) = equals_sign ∷ (reg_text r ++ (colon ∷ type_text ty))
location_text (L.Stack off ty) = equals_sign ∷ at_sign ∷ (signed_decimal off ++ (colon ∷ type_text ty))

-- a result of a call: `vreg=preg:I64` or `vreg=@OFFSET:I64`
abbrev pub result_text : CallRetPair → List ℕ
result_text d = reg_text d.vreg ++ location_text d.location

-- its register or its offset lies in its range
abbrev pub IsLocation : RetLocation → Type 0
IsLocation (L.Reg r ty) = IsReg r
IsLocation (L.Stack off ty) = IsBelow (signed_limit S64) off

-- its register lies in its range, and so does where it comes back
abbrev pub IsResult : CallRetPair → Type 0
IsResult d = IsReg d.vreg × IsLocation d.location

-- where a result comes back, and its type, read from the `=` on
abbrev pub location_of : List ℕ → RetLocation
location_of s =
    if slice_index s 1 == 64 then L.Stack (integer_of S64 (word (drop 1 s))) (value_type_of (word (after_word (drop 1 s))))
    else L.Reg (reg_of (word s)) (value_type_of (word (after_word s)))

-- the result behind one mark
abbrev pub call_result_of : List ℕ → CallRetPair
call_result_of s = record { vreg = reg_of (word s); location = location_of (after_word s) }

-- handlers: `TAG:LABEL`, or `*:LABEL` for all tags
abbrev pub handler_text : TryCallHandler → List ℕ
handler_text (Tag tag label) = decimal tag ++ (colon ∷ decimal label.0)
handler_text (Default label) = (42 ∷ []) ++ (colon ∷ decimal label.0)

-- its tag and its label have 32 bits
abbrev pub IsHandler : TryCallHandler → Type 0
IsHandler (Tag tag label) = (tag < 4294967296) × (label.0 < 4294967296)
IsHandler (Default label) = label.0 < 4294967296

-- the handler behind one mark
abbrev pub handler_of : List ℕ → TryCallHandler
handler_of s =
    if bytes_eq (word s) (codes "*") then Default (record { 0 = natural_of W32 (word (after_word s)) })
    else Tag (natural_of W32 (word s)) (record { 0 = natural_of W32 (word (after_word s)) })

-- where a call goes on, and its handlers: `-`, or `CONT[TAG:LABEL,*:LABEL]`
pub data TryPart : Type 0 where
  NoTry : TryPart
  Goes : ℕ → List TryCallHandler → TryPart

-- where a call goes on, and its handlers, from what is known of it
abbrev pub try_part : Option TryCallInfo → TryPart
try_part None = NoTry
try_part (Some t) = Goes t.continuation.0 t.exception_handlers.items

-- the text of where a call goes on, and of its handlers
abbrev pub try_text : TryPart → List ℕ
try_text NoTry = codes "-"
try_text (Goes c hs) = decimal c ++ list_text handler_text hs

-- where it goes on has 32 bits, and its handlers lie in their ranges
abbrev pub IsTry : TryPart → Type 0
IsTry NoTry = Unit {0}
IsTry (Goes c hs) = (c < 4294967296) × AllItems IsHandler hs

-- where a call goes on, and its handlers, read behind one mark
abbrev pub try_of : List ℕ → TryPart
try_of s =
    if bytes_eq (word s) (codes "-") then NoTry else Goes (natural_of W32 (word s)) (list_of handler_of (after_word s))

-- what follows them
abbrev pub after_try : List ℕ → List ℕ
after_try s = if bytes_eq (word s) (codes "-") then after_word s else past 93 s

-- an argument that comes in: `vreg=preg`
abbrev pub arg_text : ArgPair → List ℕ
arg_text p = pair_text p.vreg p.preg

-- both registers lie in their ranges
abbrev pub IsArg : ArgPair → Type 0
IsArg p = IsReg p.vreg × IsReg p.preg

-- the argument behind one mark
abbrev pub arg_of : List ℕ → ArgPair
arg_of s = record { vreg = reg_of (word s); preg = reg_of (word (after_word s)) }

-- a result that goes out: `vreg=preg`
abbrev pub ret_text : RetPair → List ℕ
ret_text p = pair_text p.vreg p.preg

-- both registers lie in their ranges
abbrev pub IsRet : RetPair → Type 0
IsRet p = IsReg p.vreg × IsReg p.preg

-- the result behind one mark
abbrev pub ret_of : List ℕ → RetPair
ret_of s = record { vreg = reg_of (word s); preg = reg_of (word (after_word s)) }

-- an argument of a call: `vreg=preg`
abbrev pub use_text : CallArgPair → List ℕ
use_text p = pair_text p.vreg p.preg

-- both registers lie in their ranges
abbrev pub IsUse : CallArgPair → Type 0
IsUse p = IsReg p.vreg × IsReg p.preg

-- the argument behind one mark
abbrev pub use_of : List ℕ → CallArgPair
use_of s = record { vreg = reg_of (word s); preg = reg_of (word (after_word s)) }

-- a label by its number
abbrev pub label_text : MachLabel → List ℕ
label_text l = decimal l.0

-- its number has 32 bits
abbrev pub IsLabel : MachLabel → Type 0
IsLabel l = l.0 < 4294967296

-- the label behind one mark
abbrev pub label_of : List ℕ → MachLabel
label_of s = record { 0 = natural_of W32 (word s) }
