-- Bytes and starting values in hex, and the facilities of the line `flags`.
use Rattle.std.specs.Prelude.{ℕ, zero, suc, ◌+◌, ◌-◌, ◌*◌, ◌/◌, ◌%◌, ◌^◌, Bool, true, false, List, [], ◌∷◌, ◌++◌, codes, nat_lt, if◌then◌else◌, slice_index, Result, Ok, Err}
use Rattle.std.specs.Fmt.{decimal}
use Rattle.std.specs.Str.{bytes_eq}
use Rattle.hex.specs.Hex.{encode_lower, decode_of, lower_digits}
use Rattle.hex.specs.declared.error.FromHexError.{FromHexError}
use Rattle.s390x_base.specs.declared.regs.RegClass.{RegClass}
use Rattle.s390x_base.specs.declared.regs.RegClass.TheVariants.{Int, Float}
use Rattle.s390x_inst.specs.declared.state.IsaFlags.{IsaFlags}
use Rattle.s390x_job_fields.specs.Marks.{word, after_word}
use Rattle.s390x_job_fields.specs.Numbers.{decimal_of}

-- bytes in lower-case hex, `-` for none
abbrev pub bytes_text : List ℕ → List ℕ
bytes_text [] = codes "-"
bytes_text (b ∷ bs) = encode_lower (b ∷ bs)

-- the bytes that hex gave; none where it failed
abbrev pub decoded_bytes : Result (List ℕ) FromHexError → List ℕ
decoded_bytes (Ok bs) = bs
decoded_bytes (Err e) = []

-- the bytes that a word spells; none for any other word
abbrev pub bytes_of_text : List ℕ → List ℕ
bytes_of_text w = if bytes_eq w (codes "-") then [] else decoded_bytes (decode_of w)

-- so many hex digits, the last one of the least weight
abbrev pub digits_text : ℕ → ℕ → List ℕ
digits_text zero v = []
digits_text (suc k) v = digits_text k (v / 16) ++ (slice_index lower_digits (v % 16) ∷ [])

-- a vector register's value: 32 hex digits
unfoldable pub vector_text : ℕ → List ℕ
vector_text v = digits_text 32 v

-- the value of a hex digit
abbrev pub digit_of : ℕ → ℕ
digit_of c = if nat_lt c 58 then c - 48 else c - 87

-- the number a with the hex digits behind it, modulo 2 ^ 128
abbrev pub hex_from : ℕ → List ℕ → ℕ
hex_from a [] = a
hex_from a (c ∷ cs) = hex_from ((a * 16 + digit_of c) % 2 ^ 128) cs

-- a register's starting value: a general one in decimal, a vector one in hex
abbrev pub value_text : RegClass → ℕ → List ℕ
value_text Int v = decimal v
value_text Float v = vector_text v

-- one past the greatest value of a register
abbrev pub value_limit : RegClass → ℕ
value_limit Int = 2 ^ 64
value_limit Float = 2 ^ 128

-- the value that a word spells
abbrev pub value_of : RegClass → List ℕ → ℕ
value_of Int w = decimal_of w
value_of Float w = hex_from 0 w

-- a space and the name of a facility, where it is set
abbrev pub facility_text : Bool → List ℕ → List ℕ
facility_text true name = 32 ∷ name
facility_text false name = []

-- the flags that are set, each after a space: the facilities, and then whether relative loads, stores and compares are absent
abbrev pub facilities_text : IsaFlags → List ℕ
facilities_text f =
    facility_text f.has_mie3 (codes "mie3") ++ (facility_text f.has_mie4 (codes "mie4") ++ (facility_text f.has_vxrs_ext2 (codes "vxrs_ext2") ++ (facility_text f.has_vxrs_ext3 (codes "vxrs_ext3") ++ facility_text f.no_relative_memory (codes "norel"))))

-- whether the next word is this one
abbrev pub is_next : List ℕ → List ℕ → Bool
is_next name s = bytes_eq (word s) name

-- what follows it then; else the text as it is
abbrev pub after_next : List ℕ → List ℕ → List ℕ
after_next name s = if bytes_eq (word s) name then after_word s else s

-- the flags that the words of a text name, in the order in which they are printed
abbrev pub facilities_of : List ℕ → IsaFlags
facilities_of s =
    let t = after_next (codes "mie3") s in
    let u = after_next (codes "mie4") t in
    let v = after_next (codes "vxrs_ext2") u in
    let w = after_next (codes "vxrs_ext3") v in
    record {
      has_mie3 = is_next (codes "mie3") s;
      has_mie4 = is_next (codes "mie4") t;
      has_vxrs_ext2 = is_next (codes "vxrs_ext2") u;
      has_vxrs_ext3 = is_next (codes "vxrs_ext3") v;
      no_relative_memory = is_next (codes "norel") w;
    }
