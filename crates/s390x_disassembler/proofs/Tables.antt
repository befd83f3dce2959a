-- Looking through the tables of spellings and of letters.
use Rattle.std.proofs.Common.{◌≡◌, ℕ, zero, suc, ◌+◌, ◌-◌, ◌*◌, ◌/◌, ◌%◌, ◌^◌, ◌<◌, ◌≤◌, true, false, List, [], ◌∷◌, ◌++◌, length, map, drop, get_or, slice_index_or, append-nil, refl, sym, ap, subst, ◌∙◌, Bor, arith}
use Rattle.std.specs.Str.{bytes_eq}
use Rattle.std.proofs.lemmas.List.{length-map, get_or_default}
use Rattle.s390x_format.specs.declared.row.MachineRow.{MachineRow}
use Rattle.s390x_format.specs.Reading.{be_bytes, no_row}
use Rattle.s390x_format.specs.declared.spelling.Form.{Form}
use Rattle.s390x_format.specs.declared.spelling.Suffix.{Suffix}
use Rattle.s390x_disassembler.specs.Text.{plain_row}
use Rattle.s390x_disassembler.specs.Names.{may_name, place_in, row_named}
use Rattle.s390x_disassembler.specs.Bare.{no_spelling, IsSpelledRead, IsRowRead}
use Rattle.s390x_disassembler.proofs.Numbers.{if_yes, if_no}

pub row_step : (rows : List (Bor (List ℕ) × Suffix × Form)) (i : ℕ) (m : List ℕ) (d : Bor (List ℕ) × Suffix × Form) → i < length rows → may_name (plain_row (slice_index_or rows i d)) m ≡ false
    → row_named (map (λ row. plain_row row) (drop i rows)) m ≡ suc (row_named (map (λ row. plain_row row) (drop (i + 1) rows)) m)
unfolding row_named
row_step [] i m d lt h = absurd (omega (arith, lt))
row_step (row ∷ rows) zero m d lt h = if_no (may_name (plain_row row) m) zero _ h
row_step (row ∷ rows) (suc i) m d lt h = let e : suc (i + 1) ≡ suc i + 1 = omega arith in row_step rows i m d (omega (arith, lt)) h ∙ ap (λ (k : ℕ). suc (row_named (map (λ r. plain_row r) (drop k (row ∷ rows))) m)) e

pub row_here : (rows : List (Bor (List ℕ) × Suffix × Form)) (i : ℕ) (m : List ℕ) (d : Bor (List ℕ) × Suffix × Form) → i < length rows → may_name (plain_row (slice_index_or rows i d)) m ≡ true → row_named (map (λ row. plain_row row) (drop i rows)) m ≡ 0
unfolding row_named
row_here [] i m d lt h = absurd (omega (arith, lt))
row_here (row ∷ rows) zero m d lt h = if_yes (may_name (plain_row row) m) zero _ h
row_here (row ∷ rows) (suc i) m d lt h = row_here rows i m d (omega (arith, lt)) h

pub row_none : (rows : List (Bor (List ℕ) × Suffix × Form)) (i : ℕ) (m : List ℕ) → length rows ≤ i → row_named (map (λ row. plain_row row) (drop i rows)) m ≡ 0
unfolding row_named
row_none [] zero m le = refl
row_none [] (suc i) m le = refl
row_none (row ∷ rows) zero m le = absurd (omega (arith, le))
row_none (row ∷ rows) (suc i) m le = row_none rows i m (omega (arith, le))

pub row_there : (rows : List (Bor (List ℕ) × Suffix × Form)) (i : ℕ) (d : Bor (List ℕ) × Suffix × Form) → i < length rows → get_or (map (λ row. plain_row row) rows) i no_spelling ≡ plain_row (slice_index_or rows i d)
row_there [] i d lt = absurd (omega (arith, lt))
row_there (row ∷ rows) zero d lt = refl
row_there (row ∷ rows) (suc i) d lt = row_there rows i d (omega (arith, lt))

pub name_step : (names : List (Bor (List ℕ))) (i : ℕ) (m : List ℕ) (d : Bor (List ℕ)) → i < length names → bytes_eq (slice_index_or names i d).now m ≡ false
    → place_in (map (λ name. name.now) (drop i names)) m ≡ suc (place_in (map (λ name. name.now) (drop (i + 1) names)) m)
unfolding place_in
name_step [] i m d lt h = absurd (omega (arith, lt))
name_step (n ∷ names) zero m d lt h = if_no (bytes_eq n.now m) zero _ h
name_step (n ∷ names) (suc i) m d lt h = let e : suc (i + 1) ≡ suc i + 1 = omega arith in name_step names i m d (omega (arith, lt)) h ∙ ap (λ (k : ℕ). suc (place_in (map (λ name. name.now) (drop k (n ∷ names))) m)) e

pub name_here : (names : List (Bor (List ℕ))) (i : ℕ) (m : List ℕ) (d : Bor (List ℕ)) → i < length names → bytes_eq (slice_index_or names i d).now m ≡ true → place_in (map (λ name. name.now) (drop i names)) m ≡ 0
unfolding place_in
name_here [] i m d lt h = absurd (omega (arith, lt))
name_here (n ∷ names) zero m d lt h = if_yes (bytes_eq n.now m) zero _ h
name_here (n ∷ names) (suc i) m d lt h = name_here names i m d (omega (arith, lt)) h

pub name_none : (names : List (Bor (List ℕ))) (i : ℕ) (m : List ℕ) → length names ≤ i → place_in (map (λ name. name.now) (drop i names)) m ≡ 0
unfolding place_in
name_none [] zero m le = refl
name_none [] (suc i) m le = refl
name_none (n ∷ names) zero m le = absurd (omega (arith, le))
name_none (n ∷ names) (suc i) m le = name_none names i m (omega (arith, le))

-- the next byte of a number
pub be_step : (count i n : ℕ) → i < count → be_bytes (count - i) n ≡ (n / 2 ^ (8 * (count - 1 - i)) % 256) ∷ be_bytes (count - (i + 1)) n
unfolding be_bytes
be_step count i n lt =
    let e : count - i ≡ suc (count - (i + 1)) = omega (arith, lt) in
    let f : count - (i + 1) ≡ count - 1 - i = omega (arith, lt) in
    ap (λ (k : ℕ). be_bytes k n) e ∙ ap (λ (k : ℕ). (n / 2 ^ (8 * k) % 256) ∷ be_bytes (count - (i + 1)) n) f

pub be_done : (count i n : ℕ) (bytes whole : List ℕ) → count ≤ i → bytes ++ be_bytes (count - i) n ≡ whole → bytes ≡ whole
unfolding be_bytes
be_done count i n bytes whole le h =
    let e : count - i ≡ 0 = omega (arith, le) in
    sym (append-nil bytes) ∙ ap (λ (k : ℕ). bytes ++ be_bytes k n) (sym e) ∙ h

-- the row at the place of the mnemonic is read
pub named_read : (a i : ℕ) (ss : List (Bor (List ℕ) × Suffix × Form)) (rows : List MachineRow) (m text bytes : List ℕ) (row : MachineRow) (d : Bor (List ℕ) × Suffix × Form) → i ≡ row_named (map (λ row. plain_row row) ss) m → i < length ss → row ≡ get_or rows i no_row
    → IsSpelledRead a row (plain_row (slice_index_or ss i d)) m text bytes → IsRowRead a (map (λ row. plain_row row) ss) rows m text bytes
named_read a i ss rows m text bytes row d is lt there reads at l1 l2 named =
    let same : i ≡ at = is ∙ named in
    subst (λ (k : ℕ). IsSpelledRead a (get_or rows k no_row) (get_or (map (λ row. plain_row row) ss) k no_spelling) m text bytes) same
    (subst (λ (s : List ℕ × Suffix × Form). IsSpelledRead a (get_or rows i no_row) s m text bytes) (sym (row_there ss i d lt)) (subst (λ (r : MachineRow). IsSpelledRead a r (plain_row (slice_index_or ss i d)) m text bytes) there reads))

pub unnamed_read : (a i : ℕ) (ss : List (Bor (List ℕ) × Suffix × Form)) (rows : List MachineRow) (m text bytes : List ℕ) → i ≡ row_named (map (λ row. plain_row row) ss) m → (i < length ss → i < length rows → ⊥) → IsRowRead a (map (λ row. plain_row row) ss) rows m text bytes
unnamed_read a i ss rows m text bytes is nay at l1 l2 named values more sp =
    let same : i ≡ at = is ∙ named in
    absurd (nay (omega (arith, same, l1, length-map ss (λ row. plain_row row))) (omega (arith, same, l2)))

pub named_here : (a i : ℕ) (ss : List (Bor (List ℕ) × Suffix × Form)) (rows : List MachineRow) (m text bytes : List ℕ) (e : MachineRow) (d : Bor (List ℕ) × Suffix × Form) → i ≡ row_named (map (λ row. plain_row row) ss) m → i < length ss → i < length rows
    → IsSpelledRead a (slice_index_or rows i e) (plain_row (slice_index_or ss i d)) m text bytes → IsRowRead a (map (λ row. plain_row row) ss) rows m text bytes
named_here a i ss rows m text bytes e d is lt there h = named_read a i ss rows m text bytes (slice_index_or rows i e) d is lt (get_or_default rows i e no_row there) h
