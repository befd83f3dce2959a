-- A branch patched to its target has half the distance in its field.
use Rattle.std.proofs.Common.{◌≡◌, ℕ, ◌+◌, ◌-◌, ◌*◌, ◌/◌, ◌%◌, ◌^◌, ◌<◌, List, [], ◌∷◌, ◌++◌, ap, ◌∙◌, arith}
use Rattle.std.specs.Int.{w32, to_be_bytes}
use Rattle.s390x_buffer.specs.Patch.{patch}
use Rattle.s390x_buffer.specs.declared.label_use.LabelUse.TheVariants.{BranchRIL, PCRel32}
use Rattle.s390x_format.specs.Formats.{length_of, layout_of}
use Rattle.s390x_format.specs.Layout.{number, bits}
use Rattle.s390x_format.specs.Reading.{be_bytes}
use Rattle.s390x_rows.specs.declared.opcodes.TheConstants as opcodes
use Rattle.s390x_typed_steps.specs.MachineInstruction.{ril_b, ril_c, bytes_of}
use Rattle.s390x_typed_steps.specs.Rows.{half_distance, table_distance, word_bytes}

-- c0, the mask beside 4, and a word
abbrev with_word : (m h : ℕ) → ℕ
with_word m h = 211106232532992 + (m * 68719476736 + (17179869184 + (h * 1 + 0)))

first_byte : (m h : ℕ) → m < 16 → h < 4294967296 → (211106232532992 + (m * 68719476736 + 17179869184)) / 1099511627776 % 256 ≡ with_word m h / 1099511627776 % 256
first_byte m h lm lh = omega arith

second_byte : (m h : ℕ) → m < 16 → h < 4294967296 → (211106232532992 + (m * 68719476736 + 17179869184)) / 4294967296 % 256 ≡ with_word m h / 4294967296 % 256
second_byte m h lm lh = omega arith

third_byte : (m h : ℕ) → h < 4294967296 → h / 16777216 % 256 ≡ with_word m h / 16777216 % 256
third_byte m h lh = omega arith

fourth_byte : (m h : ℕ) → h / 65536 % 256 ≡ with_word m h / 65536 % 256
fourth_byte m h = omega arith

fifth_byte : (m h : ℕ) → h / 256 % 256 ≡ with_word m h / 256 % 256
fifth_byte m h = omega arith

sixth_byte : (m h : ℕ) → h % 256 ≡ with_word m h / 1 % 256
sixth_byte m h = omega arith

six : (a b c d e f a' b' c' d' e' f' : ℕ) → a ≡ a' → b ≡ b' → c ≡ c' → d ≡ d' → e ≡ e' → f ≡ f' → a ∷ b ∷ c ∷ d ∷ e ∷ f ∷ [] ≡ a' ∷ b' ∷ c' ∷ d' ∷ e' ∷ f' ∷ []
six a b c d e f a' b' c' d' e' f' h1 h2 h3 h4 h5 h6 = cc

-- a word below 2 ^ 32 is whole in its field
whole_word : (x : ℕ) → x % 4294967296 ≡ x % 4294967296 / 2 ^ 0 % 2 ^ 32
whole_word x = omega arith

below_word : (x : ℕ) → x % 4294967296 < 4294967296
below_word x = omega arith

mask_below : (mask : ℕ) → mask / 2 ^ 0 % 2 ^ 4 < 16
mask_below mask = omega arith

pub patched_branch : (mask p target : ℕ) → patch BranchRIL 0 p target (bytes_of (ril_c opcodes.BRCL mask 0)) ≡ bytes_of (ril_c opcodes.BRCL mask (half_distance p target))
unfolding length_of layout_of number bits be_bytes
patched_branch mask p target =
    let m : ℕ = mask / 2 ^ 0 % 2 ^ 4 in
    let x : ℕ = (8589934592 + target - p) / 2 in
    let h : ℕ = x % 4294967296 in
    let lm : m < 16 = mask_below mask in
    let lh : h < 4294967296 = below_word x in
    six _ _ _ _ _ _ _ _ _ _ _ _
    (first_byte m h lm lh ∙ ap (λ y. with_word m y / 1099511627776 % 256) (whole_word x))
    (second_byte m h lm lh ∙ ap (λ y. with_word m y / 4294967296 % 256) (whole_word x))
    (third_byte m h lh ∙ ap (λ y. with_word m y / 16777216 % 256) (whole_word x))
    (fourth_byte m h ∙ ap (λ y. with_word m y / 65536 % 256) (whole_word x))
    (fifth_byte m h ∙ ap (λ y. with_word m y / 256 % 256) (whole_word x))
    (sixth_byte m h ∙ ap (λ y. with_word m y / 1 % 256) (whole_word x))

-- ---- a register in the mask's place, and any opcode

-- the opcode's first two digits, the register, the opcode's last digit, and a word
abbrev with_opcode : (a m b h : ℕ) → ℕ
with_opcode a m b h = a * 1099511627776 + (m * 68719476736 + (b * 4294967296 + (h * 1 + 0)))

register_first : (a m b h : ℕ) → a < 256 → m < 16 → b < 16 → h < 4294967296 → (a * 1099511627776 + (m * 68719476736 + (b * 4294967296 + 0))) / 1099511627776 % 256 ≡ with_opcode a m b h / 1099511627776 % 256
register_first a m b h la lm lb lh = omega arith

register_second : (a m b h : ℕ) → a < 256 → m < 16 → b < 16 → h < 4294967296 → (a * 1099511627776 + (m * 68719476736 + (b * 4294967296 + 0))) / 4294967296 % 256 ≡ with_opcode a m b h / 4294967296 % 256
register_second a m b h la lm lb lh = omega arith

register_third : (a m b h : ℕ) → h < 4294967296 → h / 16777216 % 256 ≡ with_opcode a m b h / 16777216 % 256
register_third a m b h lh = omega arith

register_fourth : (a m b h : ℕ) → h / 65536 % 256 ≡ with_opcode a m b h / 65536 % 256
register_fourth a m b h = omega arith

register_fifth : (a m b h : ℕ) → h / 256 % 256 ≡ with_opcode a m b h / 256 % 256
register_fifth a m b h = omega arith

register_sixth : (a m b h : ℕ) → h % 256 ≡ with_opcode a m b h / 1 % 256
register_sixth a m b h = omega arith

below_byte : (opcode : ℕ) → opcode / 2 ^ 4 % 2 ^ 8 < 256
below_byte opcode = omega arith

pub patched_relative : (opcode register p target : ℕ) → patch BranchRIL 0 p target (bytes_of (ril_b opcode register 0)) ≡ bytes_of (ril_b opcode register (half_distance p target))
unfolding length_of layout_of number bits be_bytes
patched_relative opcode register p target =
    let a : ℕ = opcode / 2 ^ 4 % 2 ^ 8 in
    let m : ℕ = register / 2 ^ 0 % 2 ^ 4 in
    let b : ℕ = opcode / 2 ^ 0 % 2 ^ 4 in
    let x : ℕ = (8589934592 + target - p) / 2 in
    let h : ℕ = x % 4294967296 in
    let la : a < 256 = below_byte opcode in
    let lm : m < 16 = mask_below register in
    let lb : b < 16 = mask_below opcode in
    let lh : h < 4294967296 = below_word x in
    six _ _ _ _ _ _ _ _ _ _ _ _
    (register_first a m b h la lm lb lh ∙ ap (λ y. with_opcode a m b y / 1099511627776 % 256) (whole_word x))
    (register_second a m b h la lm lb lh ∙ ap (λ y. with_opcode a m b y / 4294967296 % 256) (whole_word x))
    (register_third a m b h lh ∙ ap (λ y. with_opcode a m b y / 16777216 % 256) (whole_word x))
    (register_fourth a m b h ∙ ap (λ y. with_opcode a m b y / 65536 % 256) (whole_word x))
    (register_fifth a m b h ∙ ap (λ y. with_opcode a m b y / 256 % 256) (whole_word x))
    (register_sixth a m b h ∙ ap (λ y. with_opcode a m b y / 1 % 256) (whole_word x))

-- ---- the distance stands in the last four bytes

-- the first two bytes of an address relative to the instruction
abbrev head_number : (opcode register : ℕ) → ℕ
head_number opcode register = opcode / 2 ^ 4 % 2 ^ 8 * 1099511627776 + (register / 2 ^ 0 % 2 ^ 4 * 68719476736 + (opcode / 2 ^ 0 % 2 ^ 4 * 4294967296 + 0))

abbrev pub relative_head : (opcode register : ℕ) → List ℕ
relative_head opcode register = head_number opcode register / 1099511627776 % 256 ∷ head_number opcode register / 4294967296 % 256 ∷ []

whole_below : (h : ℕ) → h / 2 ^ 0 % 2 ^ 32 < 4294967296
whole_below h = omega arith

whole_third : (h : ℕ) → h / 16777216 % 256 ≡ h / 2 ^ 0 % 2 ^ 32 / 16777216 % 256
whole_third h = omega arith

whole_fourth : (h : ℕ) → h / 65536 % 256 ≡ h / 2 ^ 0 % 2 ^ 32 / 65536 % 256
whole_fourth h = omega arith

whole_fifth : (h : ℕ) → h / 256 % 256 ≡ h / 2 ^ 0 % 2 ^ 32 / 256 % 256
whole_fifth h = omega arith

whole_sixth : (h : ℕ) → h % 256 ≡ h / 2 ^ 0 % 2 ^ 32 % 256
whole_sixth h = omega arith

pub relative_split : (opcode register h : ℕ) → relative_head opcode register ++ to_be_bytes w32 h ≡ bytes_of (ril_b opcode register h)
unfolding length_of layout_of number bits be_bytes
relative_split opcode register h =
    let a : ℕ = opcode / 2 ^ 4 % 2 ^ 8 in
    let m : ℕ = register / 2 ^ 0 % 2 ^ 4 in
    let b : ℕ = opcode / 2 ^ 0 % 2 ^ 4 in
    let x : ℕ = h / 2 ^ 0 % 2 ^ 32 in
    let la : a < 256 = below_byte opcode in
    let lm : m < 16 = mask_below register in
    let lb : b < 16 = mask_below opcode in
    let lx : x < 4294967296 = whole_below h in
    six _ _ _ _ _ _ _ _ _ _ _ _
    (register_first a m b x la lm lb lx)
    (register_second a m b x la lm lb lx)
    (whole_third h ∙ register_third a m b x lx)
    (whole_fourth h ∙ register_fourth a m b x)
    (whole_fifth h ∙ register_fifth a m b x)
    (whole_sixth h ∙ register_sixth a m b x)

-- ---- a word of a table

-- what is added to the word is the distance from it
word_sum : (before p target : ℕ) → (before / 16777216 % 256 * 16777216 + before / 65536 % 256 * 65536 + before / 256 % 256 * 256 + before % 256 + (4294967296 + target - p) % 4294967296) % 4294967296 ≡ table_distance p before target
word_sum before p target = omega arith

pub patched_word : (before p target : ℕ) → patch PCRel32 0 p target (word_bytes before) ≡ word_bytes (table_distance p before target)
patched_word before p target = ap word_bytes (word_sum before p target)
