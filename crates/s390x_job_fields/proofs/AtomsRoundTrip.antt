-- Registers, conditions and trap codes: reading gives back what was printed, and each spelling is a word.
use Rattle.std.proofs.Common.{◌≡◌, ℕ, ◌<◌, ◌^◌, Bool, true, false, Option, Some, None, List, ◌∷◌, ◌++◌, refl, ap, ◌∙◌, arith, append_assoc}
use Rattle.std.specs.Prelude.{◌==◌, nat_lt, slice_index, codes}
use Rattle.std.specs.Fmt.{decimal}
use Rattle.std.proofs.lemmas.Bool.Decides.{nat_tests}
use Rattle.s390x_base.specs.Registers.{RealRegister, IsRegister}
use Rattle.s390x_base.specs.Traps.{IsKind}
use Rattle.s390x_base.specs.declared.regs.RegClass.{RegClass}
use Rattle.s390x_base.specs.declared.regs.RegClass.TheVariants.{Int, Float}
use Rattle.s390x_base.specs.declared.regs.Reg.{Reg}
use Rattle.s390x_base.specs.declared.regs.Reg.TheVariants.{Real, Virtual}
use Rattle.s390x_base.specs.declared.trap.TrapKind.{TrapKind}
use Rattle.s390x_base.specs.declared.trap.TrapKind.TheVariants.{User}
use Rattle.s390x_base.specs.AccessFlags.{AccessFlags}
use Rattle.s390x_job_fields.specs.Marks.{among}
use Rattle.s390x_job_fields.specs.Numbers.{W32}
use Rattle.s390x_job_fields.specs.Atoms.{real_text, reg_text, IsReg, real_register_of, reg_of, IsMask, mask_of, trap_text, trap_of, aligned_text, trap_suffix, access_text, IsSuffix, suffix_of, access_of, bool_text, bool_of, name_of}
use Rattle.s390x_job_fields.proofs.Avoids.{Avoids, Avoids-test, Avoids-append, Avoids-fewer, covers, marks, IsOneWord, Ends, word-is, after-is}
use Rattle.s390x_job_fields.proofs.Digits.{decimal-round_trip, decimal-one_word, natural-round_trip, small_mod}

real_round_trip : (c : RegClass) (n : ℕ) → IsRegister (record { class = c; number = n }) → real_register_of (real_text (record { class = c; number = n })) ≡ record { class = c; number = n }
real_round_trip Int n h = rw (decimal-round_trip n (omega (arith, h)), small_mod n 16 h) refl
real_round_trip Float n h = rw (decimal-round_trip n (omega (arith, h)), small_mod n 32 h) refl

pub real-round_trip : (r : RealRegister) → IsRegister r → real_register_of (real_text r) ≡ r
real-round_trip r h = real_round_trip r.class r.number h

real_small : (c : RegClass) (n : ℕ) → IsRegister (record { class = c; number = n }) → n < 2 ^ 64
real_small Int n h = omega (arith, h)
real_small Float n h = omega (arith, h)

real_one_word : (c : RegClass) (n : ℕ) → IsRegister (record { class = c; number = n }) → IsOneWord (real_text (record { class = c; number = n }))
real_one_word Int n h = (refl, (refl, decimal-one_word n (real_small Int n h)))
real_one_word Float n h = (refl, (refl, decimal-one_word n (real_small Float n h)))

pub real-one_word : (r : RealRegister) → IsRegister r → IsOneWord (real_text r)
real-one_word r h = real_one_word r.class r.number h

reg_round_trip : (c : RegClass) (n : ℕ) → IsRegister (record { class = c; number = n }) → reg_of (real_text (record { class = c; number = n })) ≡ Real (record { class = c; number = n })
reg_round_trip Int n h = ap Real (real_round_trip Int n h)
reg_round_trip Float n h = ap Real (real_round_trip Float n h)

pub reg-round_trip : (r : Reg) → IsReg r → reg_of (reg_text r) ≡ r
reg-round_trip (Real r) h = reg_round_trip r.class r.number h
reg-round_trip (Virtual n Int) h = ap (λ m. Virtual m Int) (natural-round_trip W32 n h)
reg-round_trip (Virtual n Float) h = ap (λ m. Virtual m Float) (natural-round_trip W32 n h)

pub reg-one_word : (r : Reg) → IsReg r → IsOneWord (reg_text r)
reg-one_word (Real r) h = real-one_word r h
reg-one_word (Virtual n Int) h = (refl, (refl, decimal-one_word n (omega arith)))
reg-one_word (Virtual n Float) h = (refl, (refl, decimal-one_word n (omega arith)))

pub mask-round_trip : (n : ℕ) → IsMask n → mask_of (decimal n) ≡ n
mask-round_trip n h =
    let a : nat_lt 0 n ≡ true = grind (arith, nat_tests, h.0) in
    let b : nat_lt n 15 ≡ true = grind (arith, nat_tests, h.1) in
    rw (decimal-round_trip n (omega (arith, h.1)), a, b) refl

user_round_trip : (n : ℕ) → IsKind (User n) → trap_of (codes "user" ++ decimal n) ≡ User n
user_round_trip n h =
    let a : nat_lt 0 n ≡ true = grind (arith, nat_tests, h.0) in
    let b : nat_lt n 251 ≡ true = grind (arith, nat_tests, h.1) in
    rw (decimal-round_trip n (omega (arith, h.1)), a, b) refl

pub trap-round_trip : (k : TrapKind) → IsKind k → trap_of (trap_text k) ≡ k
trap-round_trip (User n) h = user_round_trip n h
trap-round_trip k h = refl

pub trap-one_word : (k : TrapKind) → IsKind k → IsOneWord (trap_text k)
trap-one_word (User n) h = Avoids-append marks (codes "user") (decimal n) (Avoids-test marks (codes "user") refl) (decimal-one_word n (omega (arith, h.1)))
trap-one_word k h = Avoids-test marks (trap_text k) refl

pub bool-round_trip : (b : Bool) → bool_of (bool_text b) ≡ b
bool-round_trip true = refl
bool-round_trip false = refl

pub bool-one_word : (b : Bool) → IsOneWord (bool_text b)
bool-one_word true = Avoids-test marks (bool_text true) refl
bool-one_word false = Avoids-test marks (bool_text false) refl

pub name-round_trip : (n : ℕ) → n < 4294967296 → name_of (117 ∷ decimal n) ≡ n
name-round_trip n h = natural-round_trip W32 n h

pub name-one_word : (n : ℕ) → n < 4294967296 → IsOneWord (117 ∷ decimal n)
name-one_word n h = (refl, decimal-one_word n (omega arith))

-- access flags, behind a mark
abbrev with_flags : Bool → Option TrapKind → AccessFlags
with_flags a t = record { aligned = a; trap = t }

aligned_round_trip : (b : Bool) → (slice_index (aligned_text b) 0 == 97) ≡ b
aligned_round_trip true = refl
aligned_round_trip false = refl

aligned_one_word : (b : Bool) → IsOneWord (aligned_text b)
aligned_one_word true = (refl, tt)
aligned_one_word false = (refl, tt)

suffix_round_trip : (t : Option TrapKind) (r : List ℕ) → IsSuffix t → suffix_of (trap_suffix t ++ (41 ∷ r)) ≡ t
suffix_round_trip None r h = refl
suffix_round_trip (Some k) r h =
    rw (word-is 33 (trap_text k) (41 ∷ r) (trap-one_word k h) refl, trap-round_trip k h) refl

suffix_end : (t : Option TrapKind) (r : List ℕ) → Ends (trap_suffix t ++ (41 ∷ r))
suffix_end None r = refl
suffix_end (Some k) r = refl

joined_round_trip : (a : Bool) (t : Option TrapKind) (f : AccessFlags) → a ≡ f.aligned → t ≡ f.trap → record { aligned = a; trap = t } ≡ f
joined_round_trip a t f d e = ap (λ b. with_flags b t) d ∙ ap (with_flags f.aligned) e

-- flags, as the last field before a closing parenthesis
pub access-round_trip : (x : ℕ) (f : AccessFlags) (r : List ℕ) → IsSuffix f.trap → access_of (x ∷ (access_text f ++ (41 ∷ r))) ≡ f
access-round_trip x f r h =
    let e = append_assoc (aligned_text f.aligned) (trap_suffix f.trap) (41 ∷ r) in
    let n = suffix_end f.trap r in
    let w = word-is x (aligned_text f.aligned) (trap_suffix f.trap ++ (41 ∷ r)) (aligned_one_word f.aligned) n in
    let a = after-is x (aligned_text f.aligned) (trap_suffix f.trap ++ (41 ∷ r)) (aligned_one_word f.aligned) n in
    ap (λ s. access_of (x ∷ s)) e ∙ joined_round_trip _ _ f (ap (λ t. slice_index t 0 == 97) w ∙ aligned_round_trip f.aligned) (ap suffix_of a ∙ suffix_round_trip f.trap r h)

access_avoids : (bad : List ℕ) (t : Option TrapKind) → IsSuffix t → covers marks bad ≡ true → among 33 bad ≡ false → Avoids bad (trap_suffix t)
access_avoids bad None h c n = tt
access_avoids bad (Some k) h c n = (n, Avoids-fewer marks bad c (trap_text k) (trap-one_word k h))

pub access-avoids : (bad : List ℕ) (f : AccessFlags) → IsSuffix f.trap → covers marks bad ≡ true → among 33 bad ≡ false → Avoids bad (access_text f)
access-avoids bad f h c n =
    Avoids-append bad (aligned_text f.aligned) (trap_suffix f.trap) (Avoids-fewer marks bad c (aligned_text f.aligned) (aligned_one_word f.aligned)) (access_avoids bad f.trap h c n)
