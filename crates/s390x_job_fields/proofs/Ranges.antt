-- Whatever is read lies in its range.
use Rattle.std.proofs.Common.{◌≡◌, ℕ, ◌+◌, ◌-◌, ◌*◌, ◌%◌, ◌<◌, ◌≤◌, ◌^◌, true, List, [], ◌∷◌, refl, inl, inr, arith}
use Rattle.std.specs.Prelude.{◌==◌, ◌&&◌, nat_lt, nat_le, slice_index, codes, drop, length, Result, Ok, Err}
use Rattle.std.specs.Str.{bytes_eq}
use Rattle.std.proofs.lemmas.Bool.{and_parts}
use Rattle.std.proofs.lemmas.Bool.Decides.{nat_tests}
use Rattle.hex.specs.Hex.{IsBytes, decode_of}
use Rattle.hex.specs.declared.error.FromHexError.{FromHexError}
use Rattle.hex.proofs.HexLemmas.{decode_of-ok}
use Rattle.s390x_base.specs.Registers.{IsRegister}
use Rattle.s390x_base.specs.Traps.{IsKind}
use Rattle.s390x_base.specs.declared.regs.RegClass.{RegClass}
use Rattle.s390x_base.specs.declared.regs.RegClass.TheVariants.{Int, Float}
use Rattle.s390x_base.specs.declared.trap.TrapKind.TheVariants.{User}
use Rattle.s390x_job_fields.specs.Marks.{word, after_word}
use Rattle.s390x_job_fields.specs.Numbers.{Width, W8, W12, W16, W32, W64, width_bits, SignedWidth, signed_limit, IsBelow, decimal_from, decimal_of, natural_of, minus_of, plus_of, signed_below, integer_of, S8, S16, S20, S32, S64}
use Rattle.s390x_job_fields.specs.Atoms.{real_register_of, reg_of, IsReg, mask_of, IsMask, user_number_of, trap_of, suffix_of, IsSuffix}
use Rattle.s390x_job_fields.specs.Memory.{IsMemory, memory_with, form_of}
use Rattle.s390x_job_fields.specs.declared.memory.MemoryForm.{MemoryForm}
use Rattle.s390x_job_fields.specs.declared.memory.MemoryForm.TheVariants as F
use Rattle.s390x_job_fields.specs.Lists.{AllItems, elements, list_of, begins_element}
use Rattle.s390x_job_fields.specs.Marks.{upto}
use Rattle.s390x_job_fields.specs.Sets.{is_in}
use Rattle.s390x_job_fields.specs.Calls.{IsCallTarget, call_target_of, IsLocation, IsResult, location_of, call_result_of, IsHandler, handler_of, IsTry, try_of, arg_of, IsArg, ret_of, IsRet, use_of, IsUse, label_of, IsLabel}
use Rattle.s390x_job_fields.specs.Bytes.{bytes_of_text, decoded_bytes, hex_from, digit_of, value_limit, value_of}
use Rattle.s390x_job_fields.specs.Fields.{IsOption, option_of, Kind, KArgs, KBytes, KCond, KDefs, KInteger, KLabels, KMemory, KName, KNatural, KOption, KPair, KReal, KReg, KReloc, KRets, KSet, KShifted, KStart, KTarget, KTrap, KTry, KUses, kind_of, IsField, value_as}
use Rattle.s390x_job_fields.proofs.Members.{either}
use Rattle.s390x_job_fields.proofs.Registers.{members-again}

decimal_small : (s : List ℕ) (a : ℕ) → a < 2 ^ 64 → decimal_from a s < 2 ^ 64
decimal_small [] a h = h
decimal_small (c ∷ s) a h = decimal_small s (((a * 10) % 2 ^ 64 + (c - 48)) % 2 ^ 64) (omega arith)

natural_ok : (w : Width) (s : List ℕ) → natural_of w s < 2 ^ width_bits w
natural_ok W8 s = omega arith
natural_ok w s = omega arith

minus_small : (limit m : ℕ) → nat_lt 0 m ≡ true → nat_le m limit ≡ true → m - 1 < limit
minus_small limit m e f = grind (arith, nat_tests)

plus_small : (limit m : ℕ) → nat_lt m limit ≡ true → m < limit
plus_small limit m e = grind (arith, nat_tests)

is_least : (n : ℕ) → nat_lt 0 n ≡ true → 1 ≤ n
is_least n e = grind (arith, nat_tests)

mask_small : (n : ℕ) → (nat_lt 0 n && nat_lt n 15) ≡ true → IsMask n
mask_small n h = let p = and_parts (nat_lt 0 n) (nat_lt n 15) h in (is_least n p.0, omega (arith, plus_small 15 n p.1))

user_small : (n : ℕ) → (nat_lt 0 n && nat_lt n 251) ≡ true → IsKind (User n)
user_small n h = let p = and_parts (nat_lt 0 n) (nat_lt n 251) h in (is_least n p.0, omega (arith, plus_small 251 n p.1))

minus_ok : (limit m : ℕ) → 0 < limit → IsBelow limit (minus_of limit m)
minus_ok limit m h =
    elim (either (nat_lt 0 m)) [ inl e ↦ elim (either (nat_le m limit)) [ inl f ↦ rw (e, f) (minus_small limit m e f) | inr f ↦ rw (e, f) h ] | inr e ↦ rw e h ]

plus_ok : (limit m : ℕ) → 0 < limit → IsBelow limit (plus_of limit m)
plus_ok limit m h = elim (either (nat_lt m limit)) [ inl e ↦ rw e (plus_small limit m e) | inr e ↦ rw e h ]

signed_ok : (limit : ℕ) (s : List ℕ) → 0 < limit → IsBelow limit (signed_below limit s)
signed_ok limit s h =
    elim (either (slice_index s 0 == 45)) [ inl e ↦ rw e (minus_ok limit (decimal_of (drop 1 s)) h) | inr e ↦ rw e (plus_ok limit (decimal_of s) h) ]

limit_some : (w : SignedWidth) → 0 < signed_limit w
limit_some S8 = omega arith
limit_some w = omega arith

integer_ok : (w : SignedWidth) (s : List ℕ) → IsBelow (signed_limit w) (integer_of w s)
integer_ok w s = signed_ok (signed_limit w) s (limit_some w)

real_ok : (w : List ℕ) → IsRegister (real_register_of w)
real_ok w = elim (either (slice_index w 1 == 118)) [ inl e ↦ rw e (omega arith) | inr e ↦ rw e (omega arith) ]

reg_ok : (w : List ℕ) → IsReg (reg_of w)
reg_ok w =
    elim (either (slice_index w 1 == 105)) [ inl e ↦ rw e (natural_ok W32 (drop 2 w)) | inr e ↦ elim (either (slice_index w 1 == 120)) [ inl f ↦ rw (e, f) (natural_ok W32 (drop 2 w)) | inr f ↦ rw (e, f) (real_ok w) ] ]

mask_ok : (w : List ℕ) → IsMask (mask_of w)
mask_ok w =
    elim (either (nat_lt 0 (decimal_of w) && nat_lt (decimal_of w) 15)) [ inl e ↦ rw e (mask_small (decimal_of w) e) | inr e ↦ rw e (omega arith, omega arith) ]

user_ok : (w : List ℕ) → IsKind (User (user_number_of w))
user_ok w =
    elim (either (nat_lt 0 (decimal_of (drop 4 w)) && nat_lt (decimal_of (drop 4 w)) 251)) [ inl e ↦ rw e (user_small (decimal_of (drop 4 w)) e) | inr e ↦ rw e (omega arith, omega arith) ]

trap_ok : (w : List ℕ) → IsKind (trap_of w)
trap_ok w =
    elim (either (bytes_eq w (codes "stk_ovf"))) [
      | inl a ↦ rw a tt
      | inr a ↦
          elim (either (bytes_eq w (codes "int_ovf"))) [
            | inl b ↦ rw (a, b) tt
            | inr b ↦
                elim (either (bytes_eq w (codes "heap_oob"))) [
                  | inl c ↦ rw (a, b, c) tt
                  | inr c ↦
                      elim (either (bytes_eq w (codes "int_divz"))) [
                        | inl d ↦ rw (a, b, c, d) tt
                        | inr d ↦
                            elim (either (bytes_eq w (codes "bad_toint"))) [ inl e ↦ rw (a, b, c, d, e) tt | inr e ↦ rw (a, b, c, d, e) (user_ok w) ]
                      ]
                ]
          ]
    ]

suffix_ok : (s : List ℕ) → IsSuffix (suffix_of s)
suffix_ok s = elim (either (slice_index s 0 == 33)) [ inl e ↦ rw e (trap_ok (word s)) | inr e ↦ rw e tt ]

memory_shape_ok : (f : MemoryForm) (s : List ℕ) → IsMemory (memory_with f s)
memory_shape_ok F.BXD12 s = (reg_ok (word s), reg_ok (word (after_word s)), natural_ok W12 (word (after_word (after_word s))), suffix_ok (after_word (after_word (after_word (after_word s)))))
memory_shape_ok F.BXD20 s = (reg_ok (word s), reg_ok (word (after_word s)), integer_ok S20 (word (after_word (after_word s))), suffix_ok (after_word (after_word (after_word (after_word s)))))
memory_shape_ok F.Label s = natural_ok W32 (word s)
memory_shape_ok F.Constant s = natural_ok W32 (word s)
memory_shape_ok F.Symbol s = (natural_ok W32 (drop 1 (word s)), integer_ok S32 (word (after_word s)), suffix_ok (after_word (after_word (after_word s))))
memory_shape_ok F.RegOffset s = (reg_ok (word s), integer_ok S64 (word (after_word s)), suffix_ok (after_word (after_word (after_word s))))
memory_shape_ok f s = integer_ok S64 (word s)

elements_ok : {A : Type 0} (P : A → Type 0) (reading : List ℕ → A) → ((s : List ℕ) → P (reading s)) → (s : List ℕ) → AllItems P (elements reading s)
elements_ok P reading h [] = tt
elements_ok P reading h (x ∷ s) =
    elim (either (begins_element x)) [ inl e ↦ rw e (h (x ∷ s), elements_ok P reading h s) | inr e ↦ rw e (elements_ok P reading h s) ]

list_ok : {A : Type 0} (P : A → Type 0) (reading : List ℕ → A) → ((s : List ℕ) → P (reading s)) → (s : List ℕ) → AllItems P (list_of reading s)
list_ok P reading h s =
    elim (either (length (upto 93 s) == 1)) [ inl e ↦ rw e tt | inr e ↦ rw e (elements_ok P reading h (upto 93 s)) ]

target_ok : (w : List ℕ) → IsCallTarget (call_target_of w)
target_ok w = elim (either (slice_index w 0 == 37)) [ inl e ↦ rw e (reg_ok w) | inr e ↦ rw e (natural_ok W32 (drop 1 w)) ]

location_ok : (s : List ℕ) → IsLocation (location_of s)
location_ok s = elim (either (slice_index s 1 == 64)) [ inl e ↦ rw e (integer_ok S64 (word (drop 1 s))) | inr e ↦ rw e (reg_ok (word s)) ]

handler_ok : (s : List ℕ) → IsHandler (handler_of s)
handler_ok s =
    elim (either (bytes_eq (word s) (codes "*"))) [ inl e ↦ rw e (natural_ok W32 (word (after_word s))) | inr e ↦ rw e (natural_ok W32 (word s), natural_ok W32 (word (after_word s))) ]

try_ok : (s : List ℕ) → IsTry (try_of s)
try_ok s =
    elim (either (bytes_eq (word s) (codes "-"))) [ inl e ↦ rw e tt | inr e ↦ rw e (natural_ok W32 (word s), list_ok IsHandler handler_of handler_ok (after_word s)) ]

option_ok : (w : Width) (s : List ℕ) → IsOption w (option_of w s)
option_ok w s = elim (either (bytes_eq s (codes "-"))) [ inl e ↦ rw e tt | inr e ↦ rw e (natural_ok w s) ]

hex_small : (s : List ℕ) (a : ℕ) → a < 2 ^ 128 → hex_from a s < 2 ^ 128
hex_small [] a h = h
hex_small (c ∷ s) a h = hex_small s ((a * 16 + digit_of c) % 2 ^ 128) (omega arith)

value_small : (c : RegClass) (w : List ℕ) → value_of c w < value_limit c
value_small Int w = decimal_small w 0 (omega arith)
value_small Float w = hex_small w 0 (omega arith)

-- decoded bytes are bytes
no_bytes : IsBytes []
no_bytes i = omega arith

decoded_ok : (s : List ℕ) (r : Result (List ℕ) FromHexError) → decode_of s ≡ r → IsBytes (decoded_bytes r)
decoded_ok s (Ok bs) h = (decode_of-ok s bs h).3
decoded_ok s (Err e) h = no_bytes

bytes_ok : (w : List ℕ) → IsBytes (bytes_of_text w)
bytes_ok w = elim (either (bytes_eq w (codes "-"))) [ inl e ↦ rw e no_bytes | inr e ↦ rw e (decoded_ok w (decode_of w) refl) ]

pub value-ok : (k : Kind) (s : List ℕ) → IsField (value_as k s)
value-ok KReg s = reg_ok (word s)
value-ok KReal s = real_ok (word s)
value-ok KPair s = (reg_ok (word s), reg_ok (word (after_word s)))
value-ok (KNatural w) s = natural_ok w (word s)
value-ok (KInteger w) s = integer_ok w (word s)
value-ok (KShifted w) s = (natural_ok w (word s), natural_ok W8 (word (after_word s)))
value-ok KMemory s = memory_shape_ok (form_of (word s)) (after_word s)
value-ok KCond s = mask_ok (word s)
value-ok KTrap s = trap_ok (word s)
value-ok KLabels s = list_ok IsLabel label_of (λ t. natural_ok W32 (word t)) (drop 1 s)
value-ok KArgs s = list_ok IsArg arg_of (λ t. (reg_ok (word t), reg_ok (word (after_word t)))) (drop 1 s)
value-ok KRets s = list_ok IsRet ret_of (λ t. (reg_ok (word t), reg_ok (word (after_word t)))) (drop 1 s)
value-ok KUses s = list_ok IsUse use_of (λ t. (reg_ok (word t), reg_ok (word (after_word t)))) (drop 1 s)
value-ok KDefs s = list_ok IsResult call_result_of (λ t. (reg_ok (word t), location_ok (after_word t))) (drop 1 s)
value-ok KSet s = members-again (is_in (list_of (λ t. real_register_of (word t)) (drop 1 s)))
value-ok KTarget s = target_ok (word s)
value-ok KTry s = try_ok s
value-ok (KOption w) s = option_ok w (word s)
value-ok KReloc s = (natural_ok W32 (drop 1 (word (after_word s))), integer_ok S64 (word (after_word (after_word s))))
value-ok KName s = natural_ok W32 (drop 1 (word s))
value-ok KBytes s = bytes_ok (word s)
value-ok KStart s = (real_ok (word s), value_small (real_register_of (word s)).class (word (after_word s)))
value-ok k s = tt

pub value-kind : (k : Kind) (s : List ℕ) → kind_of (value_as k s) ≡ k
value-kind KReg s = refl
value-kind k s = refl
