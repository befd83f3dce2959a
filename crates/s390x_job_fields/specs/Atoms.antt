-- Registers, conditions, trap codes and access flags: spelling, range and reading.
use Rattle.std.specs.Prelude.{ℕ, ◌%◌, ◌<◌, ◌≤◌, Bool, true, false, Option, Some, None, List, [], ◌∷◌, ◌++◌, codes, nat_lt, ◌&&◌, if◌then◌else◌, ◌==◌, slice_index, drop}
use Rattle.std.specs.Fmt.{decimal}
use Rattle.std.specs.Str.{bytes_eq}
use Rattle.s390x_base.specs.Registers.{RealRegister, general, vector, IsRegister}
use Rattle.s390x_base.specs.Traps.{IsKind}
use Rattle.s390x_base.specs.declared.regs.RegClass.{RegClass}
use Rattle.s390x_base.specs.declared.regs.RegClass.TheVariants.{Int, Float}
use Rattle.s390x_base.specs.declared.regs.Reg.{Reg}
use Rattle.s390x_base.specs.declared.regs.Reg.TheVariants.{Real, Virtual}
use Rattle.s390x_base.specs.declared.trap.TrapKind.{TrapKind}
use Rattle.s390x_base.specs.declared.trap.TrapKind.TheVariants.{StackOverflow, IntegerOverflow, HeapOutOfBounds, IntegerDivisionByZero, BadConversionToInteger, User}
use Rattle.s390x_base.specs.AccessFlags.{AccessFlags}
use Rattle.s390x_job_fields.specs.Marks.{word, after_word}
use Rattle.s390x_job_fields.specs.Numbers.{decimal_of, natural_of, W32}

-- the letter of a real register's class: `%r0` to `%r15`, `%v0` to `%v31`
abbrev pub real_letter : RegClass → ℕ
real_letter Int = 114
real_letter Float = 118

-- the letter of a virtual register's class: `%iN`, `%xN`
abbrev pub virtual_letter : RegClass → ℕ
virtual_letter Int = 105
virtual_letter Float = 120

-- the text of a real register
abbrev pub real_text : RealRegister → List ℕ
real_text r = 37 ∷ real_letter r.class ∷ decimal r.number

-- the text of a register
abbrev pub reg_text : Reg → List ℕ
reg_text (Real r) = real_text r
reg_text (Virtual n c) = 37 ∷ virtual_letter c ∷ decimal n

-- the number lies in the range of its class; a virtual one has 32 bits
abbrev pub IsReg : Reg → Type 0
IsReg (Real r) = IsRegister r
IsReg (Virtual n c) = n < 4294967296

-- the real register that a word spells
abbrev pub real_register_of : List ℕ → RealRegister
real_register_of w =
    if slice_index w 1 == 118 then vector (decimal_of (drop 2 w) % 32) else general (decimal_of (drop 2 w) % 16)

-- the register that a word spells
abbrev pub reg_of : List ℕ → Reg
reg_of w =
    if slice_index w 1 == 105 then Virtual (natural_of W32 (drop 2 w)) Int
    else if slice_index w 1 == 120 then Virtual (natural_of W32 (drop 2 w)) Float
    else Real (real_register_of w)

-- conditions: the mask, 1 to 14
abbrev pub IsMask : ℕ → Type 0
IsMask n = (1 ≤ n) × (n ≤ 14)

-- the mask that a word spells; 1 for any other word
abbrev pub mask_of : List ℕ → ℕ
mask_of w = if nat_lt 0 (decimal_of w) && nat_lt (decimal_of w) 15 then decimal_of w else 1

-- a trap code by its name
abbrev pub trap_text : TrapKind → List ℕ
trap_text StackOverflow = codes "stk_ovf"
trap_text IntegerOverflow = codes "int_ovf"
trap_text HeapOutOfBounds = codes "heap_oob"
trap_text IntegerDivisionByZero = codes "int_divz"
trap_text BadConversionToInteger = codes "bad_toint"
trap_text (User n) = codes "user" ++ decimal n

-- the number of a user code, behind `user`; 1 where none stands there
abbrev pub user_number_of : List ℕ → ℕ
user_number_of w =
    if nat_lt 0 (decimal_of (drop 4 w)) && nat_lt (decimal_of (drop 4 w)) 251 then decimal_of (drop 4 w) else 1

-- the trap code that a word spells; a user code for any other word
abbrev pub trap_of : List ℕ → TrapKind
trap_of w =
    if bytes_eq w (codes "stk_ovf") then StackOverflow
    else if bytes_eq w (codes "int_ovf") then IntegerOverflow
    else if bytes_eq w (codes "heap_oob") then HeapOutOfBounds
    else if bytes_eq w (codes "int_divz") then IntegerDivisionByZero
    else if bytes_eq w (codes "bad_toint") then BadConversionToInteger
    else User (user_number_of w)

-- `a` for an access that is known to be aligned, else `u`
abbrev pub aligned_text : Bool → List ℕ
aligned_text true = 97 ∷ []
aligned_text false = 117 ∷ []

-- `!` and a trap code, where there is one
abbrev pub trap_suffix : Option TrapKind → List ℕ
trap_suffix None = []
trap_suffix (Some k) = 33 ∷ trap_text k

-- what is known of an access: whether it is aligned, and its trap code
abbrev pub access_text : AccessFlags → List ℕ
access_text f = aligned_text f.aligned ++ trap_suffix f.trap

-- the trap code, where there is one, lies in its range
abbrev pub IsSuffix : Option TrapKind → Type 0
IsSuffix None = Unit {0}
IsSuffix (Some k) = IsKind k

-- the trap code behind a `!`; none where no `!` stands there
abbrev pub suffix_of : List ℕ → Option TrapKind
suffix_of s = if slice_index s 0 == 33 then Some (trap_of (word s)) else None

-- what is known of an access, read behind one mark
abbrev pub access_of : List ℕ → AccessFlags
access_of s = record { aligned = slice_index (word s) 0 == 97; trap = suffix_of (after_word s) }

-- `true` or `false`
abbrev pub bool_text : Bool → List ℕ
bool_text true = codes "true"
bool_text false = codes "false"

-- whether the word is `true`
abbrev pub bool_of : List ℕ → Bool
bool_of w = bytes_eq w (codes "true")

-- the number of a symbol's name that a word `uN` spells
abbrev pub name_of : List ℕ → ℕ
name_of w = natural_of W32 (drop 1 w)
