-- What lies in memory: the code of the processors, and the word to which they add.
use Rattle.std.specs.Prelude.{◌≡◌, ℕ, ◌+◌, ◌-◌, ◌%◌, ◌^◌, Bool, false, ◌&&◌, ◌||◌, not, cond, nat_eq, nat_le, nat_lt, if◌then◌else◌, List, [], ◌∷◌, Option, Some, None, slice_index}
use Rattle.s390x_operations.specs.State.{Memory, CodeImage, is_within, overlaps}
use Rattle.s390x_smp.specs.declared.error.SmpError.{SmpError}
use Rattle.s390x_smp.specs.declared.error.SmpError.TheVariants.{MisalignedBase, ImageTooHigh, BadWord}

-- ark %r4,%r2,%r3; cs %r2,%r4,0(%r5); jgl to the first; br %r14. laal %r4,%r3,0(%r5); br %r14. As an assembler gives them
abbrev pub code : List ℕ
code = 0xb9 ∷ 0xf8 ∷ 0x30 ∷ 0x42 ∷ 0xba ∷ 0x24 ∷ 0x50 ∷ 0x00 ∷ 0xc0 ∷ 0x44 ∷ 0xff ∷ 0xff ∷ 0xff ∷ 0xfc ∷ 0x07 ∷ 0xfe ∷ 0xeb ∷ 0x43 ∷ 0x50 ∷ 0x00 ∷ 0x00 ∷ 0xfa ∷ 0x07 ∷ 0xfe ∷ []

-- the code at its address
abbrev pub image_at : ℕ → CodeImage
image_at base = record { base = base; bytes = code }

-- the address is one of the word's four
abbrev pub is_in_word : (word a : ℕ) → Bool
is_in_word word a = nat_le word a && nat_lt a (word + 4)

-- the code's byte at an address, 0 elsewhere
abbrev pub image_byte : (base a : ℕ) → ℕ
image_byte base a = if is_within (image_at base) a then slice_index code (a - base) else 0

-- the image and the word are accessible and nothing else; every byte but the word's is the image's
pub record HasImage (base word : ℕ) (m : Memory) : Type 0 where
  pub has : (a : ℕ) → m.has a ≡ (is_within (image_at base) a || is_in_word word a)
  pub get : (a : ℕ) → is_in_word word a ≡ false → m.get a ≡ image_byte base a

-- why there is none with this base and this address of the word: the image as linking it is refused, then the word
abbrev pub start_cause : (base word : ℕ) → Option SmpError
start_cause base word =
    cond (nat_eq (base % 4) 0)
    (cond (nat_le (base + 24) (2 ^ 64)) (cond (nat_eq (word % 4) 0 && not (overlaps (image_at base) word 4)) None (Some BadWord)) (Some ImageTooHigh))
    (Some MisalignedBase)
