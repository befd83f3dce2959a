-- The letters of a mnemonic tell the mask that chose them.
use Rattle.std.proofs.Common.{◌≡◌, ℕ, zero, suc, ◌+◌, ◌*◌, ◌%◌, ◌<◌, length, refl, arith, inl, inr}
use Rattle.std.specs.Prelude.{◌⊎◌}
use Rattle.s390x_format.specs.declared.spelling.Suffix.{Suffix}
use Rattle.s390x_format.specs.declared.spelling.Suffix.TheVariants.{Size, HalfwordSize, SizeAndCode, Condition, Trap, Jump, Return}
use Rattle.s390x_disassembler.specs.Spelling.{letters_for, name_in}
use Rattle.s390x_disassembler.specs.Names.{place_in}

-- the place of the letters of a value is the value
abbrev pub IsPlaced : Suffix → ℕ → Type 0
IsPlaced s v = place_in (letters_for s) (name_in (letters_for s) v) % 256 ≡ v

pub size_placed : (v : ℕ) → v < 5 → IsPlaced Size v
unfolding name_in place_in
size_placed (suc (suc (suc (suc (suc v))))) lt = absurd (omega arith)
size_placed v lt = refl

pub half_placed : (v : ℕ) → v < 5 → IsPlaced HalfwordSize v
unfolding name_in place_in
half_placed (suc (suc (suc (suc (suc v))))) lt = absurd (omega arith)
half_placed v lt = refl

plain_placed : (v : ℕ) → v < 5 → IsPlaced SizeAndCode (v + 8 * 0)
unfolding name_in place_in
plain_placed (suc (suc (suc (suc (suc v))))) lt = absurd (omega arith)
plain_placed v lt = refl

set_placed : (v : ℕ) → v < 5 → IsPlaced SizeAndCode (v + 8 * 1)
unfolding name_in place_in
set_placed (suc (suc (suc (suc (suc v))))) lt = absurd (omega arith)
set_placed v lt = refl

pub code_placed : (v c : ℕ) → v < 5 → c < 2 → IsPlaced SizeAndCode (v + 8 * c)
code_placed v zero lv lc = plain_placed v lv
code_placed v (suc zero) lv lc = set_placed v lv
code_placed v (suc (suc c)) lv lc = absurd (omega arith)

-- sixteen values, one by one
sixteen : (P : ℕ → Type 0) → P 0 → P 1 → P 2 → P 3 → P 4 → P 5 → P 6 → P 7 → P 8 → P 9 → P 10 → P 11 → P 12 → P 13 → P 14 → P 15 → (v : ℕ) → v < 16 → P v
sixteen P a b c d e f g h i j k l m n o p zero lt = a
sixteen P a b c d e f g h i j k l m n o p (suc zero) lt = b
sixteen P a b c d e f g h i j k l m n o p (suc (suc zero)) lt = c
sixteen P a b c d e f g h i j k l m n o p (suc (suc (suc zero))) lt = d
sixteen P a b c d e f g h i j k l m n o p (suc (suc (suc (suc zero)))) lt = e
sixteen P a b c d e f g h i j k l m n o p (suc (suc (suc (suc (suc zero))))) lt = f
sixteen P a b c d e f g h i j k l m n o p (suc (suc (suc (suc (suc (suc zero)))))) lt = g
sixteen P a b c d e f g h i j k l m n o p (suc (suc (suc (suc (suc (suc (suc zero))))))) lt = h
sixteen P a b c d e f g h i j k l m n o p (suc (suc (suc (suc (suc (suc (suc (suc zero)))))))) lt = i
sixteen P a b c d e f g h i j k l m n o p (suc (suc (suc (suc (suc (suc (suc (suc (suc zero))))))))) lt = j
sixteen P a b c d e f g h i j k l m n o p (suc (suc (suc (suc (suc (suc (suc (suc (suc (suc zero)))))))))) lt = k
sixteen P a b c d e f g h i j k l m n o p (suc (suc (suc (suc (suc (suc (suc (suc (suc (suc (suc zero))))))))))) lt = l
sixteen P a b c d e f g h i j k l m n o p (suc (suc (suc (suc (suc (suc (suc (suc (suc (suc (suc (suc zero)))))))))))) lt = m
sixteen P a b c d e f g h i j k l m n o p (suc (suc (suc (suc (suc (suc (suc (suc (suc (suc (suc (suc (suc zero))))))))))))) lt = n
sixteen P a b c d e f g h i j k l m n o p (suc (suc (suc (suc (suc (suc (suc (suc (suc (suc (suc (suc (suc (suc zero)))))))))))))) lt = o
sixteen P a b c d e f g h i j k l m n o p (suc (suc (suc (suc (suc (suc (suc (suc (suc (suc (suc (suc (suc (suc (suc zero))))))))))))))) lt = p
sixteen P a b c d e f g h i j k l m n o p (suc (suc (suc (suc (suc (suc (suc (suc (suc (suc (suc (suc (suc (suc (suc (suc v)))))))))))))))) lt = absurd (omega arith)

pub jump_placed : (v : ℕ) → v < 16 → IsPlaced Jump v
unfolding name_in place_in
jump_placed = sixteen (IsPlaced Jump) refl refl refl refl refl refl refl refl refl refl refl refl refl refl refl refl

pub return_placed : (v : ℕ) → v < 16 → IsPlaced Return v
unfolding name_in place_in
return_placed = sixteen (IsPlaced Return) refl refl refl refl refl refl refl refl refl refl refl refl refl refl refl refl

-- or there are none
abbrev pub IsPlacedOrNone : Suffix → ℕ → Type 0
IsPlacedOrNone s v = IsPlaced s v ⊎ (length (name_in (letters_for s) v) ≡ 0)

pub condition_placed : (v : ℕ) → v < 16 → IsPlacedOrNone Condition v
unfolding name_in place_in
condition_placed = sixteen (IsPlacedOrNone Condition) (inr refl) (inl refl) (inl refl) (inl refl) (inl refl) (inl refl) (inl refl) (inl refl) (inl refl) (inl refl) (inl refl) (inl refl) (inl refl) (inl refl) (inl refl) (inr refl)

pub trap_placed : (v : ℕ) → v < 16 → IsPlacedOrNone Trap v
unfolding name_in place_in
trap_placed = sixteen (IsPlacedOrNone Trap) (inr refl) (inr refl) (inl refl) (inr refl) (inl refl) (inr refl) (inl refl) (inr refl) (inl refl) (inr refl) (inl refl) (inr refl) (inl refl) (inr refl) (inr refl) (inr refl)
