-- A mnemonic is one row's alone.
use Rattle.std.proofs.Common.{◌≡◌, ℕ, zero, suc, ◌<◌, ◌+◌, Bool, true, false, ◌&&◌, ◌==◌, nat_lt, if◌then◌else◌, List, [], ◌∷◌, ◌++◌, length, take, drop, get_or, refl, sym, ap, ap₂, subst, ◌∙◌, eqb-true, arith}
use Rattle.std.specs.Str.{bytes_eq}
use Rattle.std.proofs.lemmas.Bool.{and_parts, and_from}
use Rattle.s390x_format.specs.declared.spelling.Form.{Form}
use Rattle.s390x_format.specs.declared.spelling.Suffix.{Suffix}
use Rattle.s390x_format.specs.declared.spelling.Suffix.TheVariants.{Plain}
use Rattle.s390x_disassembler.specs.Spelling.{letters_for, name_in}
use Rattle.s390x_disassembler.specs.Bare.{no_spelling}
use Rattle.s390x_disassembler.specs.Text.{spellings}
use Rattle.s390x_disassembler.specs.Names.{place_in, is_ending, may_name, row_named}
use Rattle.s390x_disassembler.proofs.Numbers.{if_yes, if_no}

-- the same as `may_name`, by the first letter first
abbrev pub may_quickly : List ℕ → Bool → List ℕ → Bool
may_quickly [] rest m = rest
may_quickly (c ∷ cs) rest [] = false
may_quickly (c ∷ cs) rest (d ∷ ds) = if c == d then rest else false

unfoldable pub quick_place : List (List ℕ × Suffix × Form) → List ℕ → ℕ
quick_place [] m = zero
quick_place (row ∷ rows) m = let later = suc (quick_place rows m) in let rest = may_name row m in if may_quickly row.0 rest m then zero else later

other_first : (c d : ℕ) (cs ds : List ℕ) (e : Bool) → (c == d) ≡ false → (bytes_eq (c ∷ cs) (take (length (c ∷ cs)) (d ∷ ds)) && e) ≡ false
other_first c d cs ds e nay = ap (λ (b : Bool). (b && bytes_eq cs (take (length cs) ds)) && e) nay

first_case : (c d : ℕ) (cs ds : List ℕ) (e b : Bool) → (c == d) ≡ b → (if c == d then (bytes_eq (c ∷ cs) (take (length (c ∷ cs)) (d ∷ ds)) && e) else false) ≡ (bytes_eq (c ∷ cs) (take (length (c ∷ cs)) (d ∷ ds)) && e)
first_case c d cs ds e true h = if_yes (c == d) _ false h
first_case c d cs ds e false h = if_no (c == d) _ false h ∙ sym (other_first c d cs ds e h)

by_first : (s : Suffix) (stem m : List ℕ) → may_quickly stem (bytes_eq stem (take (length stem) m) && is_ending s (drop (length stem) m)) m ≡ (bytes_eq stem (take (length stem) m) && is_ending s (drop (length stem) m))
by_first s [] m = refl
by_first s (c ∷ cs) [] = refl
by_first s (c ∷ cs) (d ∷ ds) = first_case c d cs ds (is_ending s (drop (length (c ∷ cs)) (d ∷ ds))) (c == d) refl

quick_same : (row : List ℕ × Suffix × Form) (m : List ℕ) → may_quickly row.0 (may_name row m) m ≡ may_name row m
unfolding may_name
quick_same row m = by_first row.1 row.0 m

place_same : (rows : List (List ℕ × Suffix × Form)) (m : List ℕ) → quick_place rows m ≡ row_named rows m
unfolding quick_place row_named
place_same [] m = refl
place_same (row ∷ rows) m = ap₂ (λ (b : Bool) (n : ℕ). if b then zero else suc n) (quick_same row m) (place_same rows m)

-- a row's mnemonics are found at its place
abbrev pub finds_names : ℕ → List ℕ → List (List ℕ) → List (List ℕ × Suffix × Form) → Bool
finds_names i stem [] table = true
finds_names i stem (n ∷ ns) table = (quick_place table (stem ++ n) == i) && finds_names i stem ns table

abbrev pub finds_all : ℕ → List (List ℕ × Suffix × Form) → List (List ℕ × Suffix × Form) → Bool
finds_all i [] table = true
finds_all i (row ∷ rows) table = finds_names i row.0 ([] ∷ letters_for row.1) table && finds_all (i + 1) rows table

finds_split : (i k : ℕ) (rows table : List (List ℕ × Suffix × Form)) → finds_all i (take k rows) table ≡ true → finds_all (i + k) (drop k rows) table ≡ true → finds_all i rows table ≡ true
finds_split i zero rows table h g = subst (λ (n : ℕ). finds_all n rows table ≡ true) (omega arith) g
finds_split i (suc k) [] table h g = refl
finds_split i (suc k) (row ∷ rows) table h g =
    let p = and_parts (finds_names i row.0 ([] ∷ letters_for row.1) table) (finds_all (i + 1) (take k rows) table) h in
    let e : i + suc k ≡ i + 1 + k = omega arith in
    and_from _ _ p.0 (finds_split (i + 1) k rows table p.1 (subst (λ (n : ℕ). finds_all n (drop k rows) table ≡ true) e g))

-- fifty rows at a time
found_0 : finds_all 0 (take 50 (drop 0 spellings)) spellings ≡ true
unfolding place_in is_ending may_name quick_place
found_0 = refl

found_50 : finds_all 50 (take 50 (drop 50 spellings)) spellings ≡ true
unfolding place_in is_ending may_name quick_place
found_50 = refl

found_100 : finds_all 100 (take 50 (drop 100 spellings)) spellings ≡ true
unfolding place_in is_ending may_name quick_place
found_100 = refl

found_150 : finds_all 150 (take 50 (drop 150 spellings)) spellings ≡ true
unfolding place_in is_ending may_name quick_place
found_150 = refl

found_200 : finds_all 200 (take 50 (drop 200 spellings)) spellings ≡ true
unfolding place_in is_ending may_name quick_place
found_200 = refl

found_250 : finds_all 250 (take 50 (drop 250 spellings)) spellings ≡ true
unfolding place_in is_ending may_name quick_place
found_250 = refl

found_300 : finds_all 300 (take 50 (drop 300 spellings)) spellings ≡ true
unfolding place_in is_ending may_name quick_place
found_300 = refl

found_350 : finds_all 350 (take 50 (drop 350 spellings)) spellings ≡ true
unfolding place_in is_ending may_name quick_place
found_350 = refl

found_400 : finds_all 400 (take 50 (drop 400 spellings)) spellings ≡ true
unfolding place_in is_ending may_name quick_place
found_400 = refl

from_400 : finds_all 400 (drop 400 spellings) spellings ≡ true
from_400 = found_400

from_350 : finds_all 350 (drop 350 spellings) spellings ≡ true
from_350 = finds_split 350 50 (drop 350 spellings) spellings found_350 from_400

from_300 : finds_all 300 (drop 300 spellings) spellings ≡ true
from_300 = finds_split 300 50 (drop 300 spellings) spellings found_300 from_350

from_250 : finds_all 250 (drop 250 spellings) spellings ≡ true
from_250 = finds_split 250 50 (drop 250 spellings) spellings found_250 from_300

from_200 : finds_all 200 (drop 200 spellings) spellings ≡ true
from_200 = finds_split 200 50 (drop 200 spellings) spellings found_200 from_250

from_150 : finds_all 150 (drop 150 spellings) spellings ≡ true
from_150 = finds_split 150 50 (drop 150 spellings) spellings found_150 from_200

from_100 : finds_all 100 (drop 100 spellings) spellings ≡ true
from_100 = finds_split 100 50 (drop 100 spellings) spellings found_100 from_150

from_50 : finds_all 50 (drop 50 spellings) spellings ≡ true
from_50 = finds_split 50 50 (drop 50 spellings) spellings found_50 from_100

from_0 : finds_all 0 (drop 0 spellings) spellings ≡ true
from_0 = finds_split 0 50 (drop 0 spellings) spellings found_0 from_50

pub all_found : finds_all 0 spellings spellings ≡ true
all_found = from_0

found_name : (i : ℕ) (stem : List ℕ) (names : List (List ℕ)) (table : List (List ℕ × Suffix × Form)) (v : ℕ) → quick_place table (stem ++ []) ≡ i → finds_names i stem names table ≡ true → quick_place table (stem ++ get_or names v []) ≡ i
found_name i stem [] table v none h = none
found_name i stem (n ∷ ns) table zero none h = eqb-true _ i (and_parts (quick_place table (stem ++ n) == i) (finds_names i stem ns table) h).0
found_name i stem (n ∷ ns) table (suc v) none h = found_name i stem ns table v none (and_parts (quick_place table (stem ++ n) == i) (finds_names i stem ns table) h).1

named_in : (i j : ℕ) (rows table : List (List ℕ × Suffix × Form)) (v : ℕ) → j < length rows → finds_all i rows table ≡ true → quick_place table ((get_or rows j no_spelling).0 ++ get_or (letters_for (get_or rows j no_spelling).1) v []) ≡ i + j
named_in i j [] table v lt h = absurd (omega (arith, lt))
named_in i zero (row ∷ rows) table v lt h =
    let p = (and_parts (finds_names i row.0 ([] ∷ letters_for row.1) table) (finds_all (i + 1) rows table) h).0 in
    let q = and_parts (quick_place table (row.0 ++ []) == i) (finds_names i row.0 (letters_for row.1) table) p in
    let e : i ≡ i + 0 = omega arith in
    found_name i row.0 (letters_for row.1) table v (eqb-true _ i q.0) q.1 ∙ e
named_in i (suc j) (row ∷ rows) table v lt h =
    let p = (and_parts (finds_names i row.0 ([] ∷ letters_for row.1) table) (finds_all (i + 1) rows table) h).1 in
    let e : i + 1 + j ≡ i + suc j = omega arith in
    named_in (i + 1) j rows table v (omega (arith, lt)) p ∙ e

-- the mnemonic of a row, with letters, is its alone
pub named : (j v : ℕ) → j < length spellings → row_named spellings ((get_or spellings j no_spelling).0 ++ name_in (letters_for (get_or spellings j no_spelling).1) v) ≡ j
unfolding name_in
named j v lt = let e : 0 + j ≡ j = omega arith in sym (place_same spellings _) ∙ named_in 0 j spellings spellings v lt all_found ∙ e

-- ---- mnemonics are letters
abbrev pub is_plain : List ℕ → Bool
is_plain [] = true
is_plain (c ∷ cs) = nat_lt 58 c && is_plain cs

abbrev pub are_plain : List (List ℕ) → Bool
are_plain [] = true
are_plain (n ∷ ns) = is_plain n && are_plain ns

abbrev pub stems_plain : List (List ℕ × Suffix × Form) → Bool
stems_plain [] = true
stems_plain (row ∷ rows) = is_plain row.0 && stems_plain rows

pub plain_stems : stems_plain spellings ≡ true
plain_stems = refl

pub plain_letters : (s : Suffix) → are_plain (letters_for s) ≡ true
plain_letters Plain = refl
plain_letters _ = refl

plain_at : (names : List (List ℕ)) (v : ℕ) → are_plain names ≡ true → is_plain (get_or names v []) ≡ true
plain_at [] v h = refl
plain_at (n ∷ ns) zero h = (and_parts (is_plain n) (are_plain ns) h).0
plain_at (n ∷ ns) (suc v) h = plain_at ns v (and_parts (is_plain n) (are_plain ns) h).1

stem_at : (rows : List (List ℕ × Suffix × Form)) (j : ℕ) → stems_plain rows ≡ true → is_plain (get_or rows j no_spelling).0 ≡ true
stem_at [] j h = refl
stem_at (row ∷ rows) zero h = (and_parts (is_plain row.0) (stems_plain rows) h).0
stem_at (row ∷ rows) (suc j) h = stem_at rows j (and_parts (is_plain row.0) (stems_plain rows) h).1

plain_both : (a b : List ℕ) → is_plain a ≡ true → is_plain b ≡ true → is_plain (a ++ b) ≡ true
plain_both [] b x y = y
plain_both (c ∷ a) b x y = let p = and_parts (nat_lt 58 c) (is_plain a) x in and_from (nat_lt 58 c) (is_plain (a ++ b)) p.0 (plain_both a b p.1 y)

pub plain_name : (j v : ℕ) → is_plain ((get_or spellings j no_spelling).0 ++ name_in (letters_for (get_or spellings j no_spelling).1) v) ≡ true
unfolding name_in
plain_name j v = plain_both (get_or spellings j no_spelling).0 (name_in (letters_for (get_or spellings j no_spelling).1) v) (stem_at spellings j plain_stems) (plain_at (letters_for (get_or spellings j no_spelling).1) v (plain_letters (get_or spellings j no_spelling).1))
