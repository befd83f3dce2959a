-- A line without its address and its bytes is read as the bytes of which it is written.
use Rattle.std.proofs.Common.{◌≡◌, ℕ, ◌%◌, ◌^◌, ◌<◌, Bool, true, false, not, ◌&&◌, ◌==◌, nat_lt, ltb-true, eqb-true, eq-eqb, ne_eqb, if◌then◌else◌, List, [], ◌∷◌, ◌++◌, codes, length, drop, get_or, append_assoc, refl, sym, ap, ap₂, subst, ◌∙◌, arith, Option, Some, None}
use Rattle.std.specs.Prelude.{Result, IfOk}
use Rattle.std.specs.Str.{bytes_eq}
use Rattle.std.proofs.lemmas.Result.{IfOk-weaker}
use Rattle.std.specs.Char.{digit_value}
use Rattle.std.specs.Fmt.{digits}
use Rattle.std.specs.Str.Parse.{AllDigits}
use Rattle.std.proofs.lemmas.Fmt.{digits_is_IsNumeral}
use Rattle.std.proofs.lemmas.Bool.{and_parts}
use Rattle.std.proofs.lemmas.List.{drop_at}
use Rattle.s390x_format.specs.declared.decoder.Located.{Located}
use Rattle.s390x_format.specs.declared.table.TheConstants.{MACHINE_ROWS}
use Rattle.s390x_format.specs.Reading.{no_row}
use Rattle.s390x_format.specs.View.{fields_of}
use Rattle.s390x_format.specs.Fetch.{IsLocated, machine_rows}
use Rattle.s390x_disassembler.specs.Words.{NoBlank}
use Rattle.s390x_disassembler.specs.Forms.{operands_of}
use Rattle.s390x_disassembler.specs.Spelling.{letters_of, choice}
use Rattle.s390x_disassembler.specs.Names.{row_named}
use Rattle.s390x_disassembler.specs.Text.{spellings, found_text, data_text, pairs_text, bytes_text, operands_text}
use Rattle.s390x_disassembler.specs.Lines.{IsFound}
use Rattle.s390x_disassembler.specs.Bare.{no_spelling, is_unit, IsRowRead, AreGroups, IsGroupRead, IsBareRead, IsInstructionRead}
use Rattle.s390x_disassembler.proofs.Pieces.{one_pair, one_byte}
use Rattle.s390x_disassembler.proofs.Distinct.{first_blank}
use Rattle.s390x_disassembler.proofs.Names.{is_plain, named}
use Rattle.s390x_disassembler.proofs.Written.{located_row, plain_mnemonic, first_operand, unit_some}
use Rattle.s390x_disassembler.proofs.Numbers.{if_yes, if_no}

-- the word before the first blank of a text
abbrev pub IsWord : List ℕ → List ℕ → Type 0
IsWord text w = (xs p : List ℕ) → NoBlank xs → text ≡ xs ++ (32 ∷ p) → w ≡ xs

no_blank : (m : List ℕ) → is_plain m ≡ true → NoBlank m
no_blank [] h = tt
no_blank (c ∷ m) h = let p = and_parts (nat_lt 58 c) (is_plain m) h in ((λ e. omega (arith, e, ltb-true 58 c p.0)), no_blank m p.1)

-- a text that begins with a word and a blank
record Worded (text m tail : List ℕ) : Type 0 where
  text_is : text ≡ m ++ tail
  blank : tail ≡ 32 ∷ drop 1 tail
  word : NoBlank m

word_is : (text w m tail : List ℕ) → IsWord text w → Worded text m tail → w ≡ m
word_is text w m tail h t = h m (drop 1 tail) t.word (t.text_is ∙ ap (λ (u : List ℕ). m ++ u) t.blank)

rest_is : (text w m tail : List ℕ) → IsWord text w → Worded text m tail → drop (length w) text ≡ tail
rest_is text w m tail h t = ap (λ (u : List ℕ). drop (length u) text) (word_is text w m tail h t) ∙ ap (drop (length m)) t.text_is ∙ drop_at m tail (length m) refl

-- ---- instructions
row_worded : (a : ℕ) (u : List ℕ) (l : Located) (text more : List ℕ) → is_unit u ≡ true → (h : IsLocated u l) → text ≡ found_text a u (Some l) ++ (10 ∷ more)
    → Worded text ((get_or spellings l.at no_spelling).0 ++ letters_of (get_or spellings l.at no_spelling).1 (fields_of (get_or MACHINE_ROWS l.at no_row).format h.fetch.slots))
    (operands_text 32 a (letters_of (get_or spellings l.at no_spelling).1 (fields_of (get_or MACHINE_ROWS l.at no_row).format h.fetch.slots)) (fields_of (get_or MACHINE_ROWS l.at no_row).format h.fetch.slots) (operands_of (get_or spellings l.at no_spelling).2) ++ (10 ∷ more))
row_worded a u l text more unit h e =
    let r = located_row a u l h in
    let first = first_operand (get_or spellings l.at no_spelling).2 a (letters_of (get_or spellings l.at no_spelling).1 (fields_of (get_or MACHINE_ROWS l.at no_row).format h.fetch.slots)) (fields_of (get_or MACHINE_ROWS l.at no_row).format h.fetch.slots) in
    record {
      text_is = e ∙ ap (λ (t : List ℕ). t ++ (10 ∷ more)) r.text ∙ append_assoc ((get_or spellings l.at no_spelling).0 ++ letters_of (get_or spellings l.at no_spelling).1 (fields_of (get_or MACHINE_ROWS l.at no_row).format h.fetch.slots)) _ (10 ∷ more);
      blank = begins_so _ _ (10 ∷ more) first;
      word = no_blank _ (plain_mnemonic l.at (fields_of (get_or MACHINE_ROWS l.at no_row).format h.fetch.slots));
    }
  where
    begins_so : (t p s : List ℕ) → t ≡ 32 ∷ p → t ++ s ≡ 32 ∷ drop 1 (t ++ s)
    begins_so [] p s e = absurd (omega (arith, ap length e))
    begins_so (x ∷ t) p s e = ap (λ (c : ℕ). c ∷ (t ++ s)) (ap (λ (z : List ℕ). get_or z 0 0) e)

name_is_plain : (a : ℕ) (u : List ℕ) (l : Located) (text w more : List ℕ) → is_unit u ≡ true → IsLocated u l → IsWord text w → text ≡ found_text a u (Some l) ++ (10 ∷ more) → is_plain w ≡ true
name_is_plain a u l text w more unit h word e =
    ap is_plain (word_is text w _ _ word (row_worded a u l text more unit h e)) ∙ plain_mnemonic l.at (fields_of (get_or MACHINE_ROWS l.at no_row).format h.fetch.slots)

row_read : (a : ℕ) (u : List ℕ) (l : Located) (text w rest bytes more : List ℕ) → is_unit u ≡ true → IsLocated u l → IsWord text w → rest ≡ drop (length w) text → IsRowRead a spellings MACHINE_ROWS w rest bytes → text ≡ found_text a u (Some l) ++ (10 ∷ more) → bytes ≡ u
unfolding machine_rows letters_of
row_read a u l text w rest bytes more unit h word is reads e =
    let r = located_row a u l h in
    let t = row_worded a u l text more unit h e in
    let m = word_is text w _ _ word t in
    let below : l.at < length MACHINE_ROWS = h.row.below in
    let name : row_named spellings w ≡ l.at = ap (row_named spellings) m ∙ named l.at (choice (get_or spellings l.at no_spelling).1 (fields_of (get_or MACHINE_ROWS l.at no_row).format h.fetch.slots)) below in
    reads l.at below below name h.fetch.slots more (record { fit = r.fit; opcode = r.opcode; allowed = r.allowed; legible = r.legible; mnemonic = m; text_is = is ∙ rest_is text w _ _ word t }) ∙ sym (r.bytes unit)

pub instruction_read : (a : ℕ) (text w rest bytes : List ℕ) → IsWord text w → rest ≡ drop (length w) text → IsRowRead a spellings MACHINE_ROWS w rest bytes → IsInstructionRead a text bytes
instruction_read a text w rest bytes word is reads u l more unit h e = row_read a u l text w rest bytes more unit h word is reads e

-- ---- data
pair_groups : AreGroups 2 pairs_text
pair_groups = record { none = λ s. refl; some = λ s bs le. one_pair s bs le }

byte_groups : AreGroups 1 bytes_text
byte_groups = record { none = λ s. refl; some = λ s bs le. one_byte s bs le }

short_word : NoBlank (codes ".short")
short_word = ((λ e. omega (arith, e)), ((λ e. omega (arith, e)), ((λ e. omega (arith, e)), ((λ e. omega (arith, e)), ((λ e. omega (arith, e)), ((λ e. omega (arith, e)), tt))))))

byte_word : NoBlank (codes ".byte")
byte_word = ((λ e. omega (arith, e)), ((λ e. omega (arith, e)), ((λ e. omega (arith, e)), ((λ e. omega (arith, e)), ((λ e. omega (arith, e)), tt)))))

pairs_begin : (u more : List ℕ) → 0 < length u → length u % 2 ≡ 0 → pairs_text 32 u ++ more ≡ 32 ∷ drop 1 (pairs_text 32 u ++ more)
pairs_begin [] more some even = absurd (omega (arith, some))
pairs_begin (b ∷ []) more some even = absurd (omega (arith, even))
pairs_begin (b ∷ c ∷ u) more some even = refl

bytes_begin : (u more : List ℕ) → 0 < length u → bytes_text 32 u ++ more ≡ 32 ∷ drop 1 (bytes_text 32 u ++ more)
bytes_begin [] more some = absurd (omega (arith, some))
bytes_begin (b ∷ u) more some = refl

even_worded : (u text more : List ℕ) → 0 < length u → (length u % 2 == 0) ≡ true → text ≡ data_text u ++ (10 ∷ more) → Worded text (codes ".short") (pairs_text 32 u ++ (10 ∷ more))
unfolding data_text
even_worded u text more some even e = record {
  text_is = e ∙ ap (λ (t : List ℕ). t ++ (10 ∷ more)) (if_yes (length u % 2 == 0) _ _ even) ∙ append_assoc (codes ".short") (pairs_text 32 u) (10 ∷ more);
  blank = pairs_begin u (10 ∷ more) some (eqb-true _ 0 even);
  word = short_word;
}

odd_worded : (u text more : List ℕ) → 0 < length u → (length u % 2 == 0) ≡ false → text ≡ data_text u ++ (10 ∷ more) → Worded text (codes ".byte") (bytes_text 32 u ++ (10 ∷ more))
unfolding data_text
odd_worded u text more some odd e = record {
  text_is = e ∙ ap (λ (t : List ℕ). t ++ (10 ∷ more)) (if_no (length u % 2 == 0) _ _ odd) ∙ append_assoc (codes ".byte") (bytes_text 32 u) (10 ∷ more);
  blank = bytes_begin u (10 ∷ more) some;
  word = byte_word;
}

-- ---- lines
not_plain_short : (w : List ℕ) → w ≡ codes ".short" → is_plain w ≡ true → ⊥
not_plain_short w e h = let f : is_plain w ≡ false = ap is_plain e in cc

not_plain_byte : (w : List ℕ) → w ≡ codes ".byte" → is_plain w ≡ true → ⊥
not_plain_byte w e h = let f : is_plain w ≡ false = ap is_plain e in cc

short_not_byte : (w : List ℕ) → w ≡ codes ".short" → w ≡ codes ".byte" → ⊥
short_not_byte w e h = omega (arith, ap length e, ap length h)

pub short_read : (a : ℕ) (text w rest bytes : List ℕ) → IsWord text w → rest ≡ drop (length w) text → w ≡ codes ".short" → IsGroupRead 2 rest bytes → IsBareRead a text bytes
short_read a text w rest bytes word is short reads u (Some l) more hu unit h e = absurd (not_plain_short w short (name_is_plain a u l text w more unit h word e))
short_read a text w rest bytes word is short reads u None more hu unit h e = chosen (length u % 2 == 0) refl
  where
    chosen : (b : Bool) → (length u % 2 == 0) ≡ b → bytes ≡ u
    chosen true even = reads pairs_text u more pair_groups hu (eqb-true _ 0 even) (is ∙ rest_is text w _ _ word (even_worded u text more (unit_some u unit) even e))
    chosen false odd = absurd (short_not_byte w short (word_is text w _ _ word (odd_worded u text more (unit_some u unit) odd e)))

pub byte_read : (a : ℕ) (text w rest bytes : List ℕ) → IsWord text w → rest ≡ drop (length w) text → w ≡ codes ".byte" → IsGroupRead 1 rest bytes → IsBareRead a text bytes
byte_read a text w rest bytes word is byte reads u (Some l) more hu unit h e = absurd (not_plain_byte w byte (name_is_plain a u l text w more unit h word e))
byte_read a text w rest bytes word is byte reads u None more hu unit h e = chosen (length u % 2 == 0) refl
  where
    chosen : (b : Bool) → (length u % 2 == 0) ≡ b → bytes ≡ u
    chosen true even = absurd (short_not_byte w (word_is text w _ _ word (even_worded u text more (unit_some u unit) even e)) byte)
    chosen false odd = reads bytes_text u more byte_groups hu (omega arith) (is ∙ rest_is text w _ _ word (odd_worded u text more (unit_some u unit) odd e))

pub name_read : (a : ℕ) (text w rest bytes : List ℕ) → IsWord text w → rest ≡ drop (length w) text → (w ≡ codes ".short" → ⊥) → (w ≡ codes ".byte" → ⊥) → IsRowRead a spellings MACHINE_ROWS w rest bytes → IsBareRead a text bytes
name_read a text w rest bytes word is short byte reads u (Some l) more hu unit h e = row_read a u l text w rest bytes more unit h word is reads e
name_read a text w rest bytes word is short byte reads u None more hu unit h e = chosen (length u % 2 == 0) refl
  where
    chosen : (b : Bool) → (length u % 2 == 0) ≡ b → bytes ≡ u
    chosen true even = absurd (short (word_is text w _ _ word (even_worded u text more (unit_some u unit) even e)))
    chosen false odd = absurd (byte (word_is text w _ _ word (odd_worded u text more (unit_some u unit) odd e)))

-- ---- a line with its address is none without
abbrev no_colon : List ℕ → Bool
no_colon [] = true
no_colon (c ∷ cs) = not (c == 58) && no_colon cs

plain_colon : (m : List ℕ) → is_plain m ≡ true → no_colon m ≡ true
plain_colon [] h = refl
plain_colon (c ∷ m) h = let p = and_parts (nat_lt 58 c) (is_plain m) h in ap₂ (λ (b d : Bool). not b && d) (ne_eqb c 58 (λ e. omega (arith, e, ltb-true 58 c p.0))) (plain_colon m p.1)

colon_last : (xs : List ℕ) → no_colon (xs ++ (58 ∷ [])) ≡ true → ⊥
colon_last [] h = cc
colon_last (x ∷ xs) h = colon_last xs (and_parts (not (x == 58)) (no_colon (xs ++ (58 ∷ []))) h).1

digits_blank : (ds : List ℕ) → AllDigits 16 ds → NoBlank (ds ++ (58 ∷ []))
digits_blank [] d = ((λ e. omega (arith, e)), tt)
digits_blank (c ∷ ds) d = ((λ e. let f : digit_value c ≡ 36 = ap digit_value e in omega (arith, d.0, f)), digits_blank ds d.1)

record HasColonless (text : List ℕ) : Type 0 where
  m : List ℕ
  tail : List ℕ
  words : Worded text m tail
  colon : no_colon m ≡ true

colonless : (a : ℕ) (u : List ℕ) (x : Option Located) (text more : List ℕ) → is_unit u ≡ true → IsFound u x → text ≡ found_text a u x ++ (10 ∷ more) → HasColonless text
colonless a u (Some l) text more unit h e = record { m = (get_or spellings l.at no_spelling).0 ++ letters_of (get_or spellings l.at no_spelling).1 (fields_of (get_or MACHINE_ROWS l.at no_row).format h.fetch.slots); tail = _; words = row_worded a u l text more unit h e; colon = plain_colon ((get_or spellings l.at no_spelling).0 ++ letters_of (get_or spellings l.at no_spelling).1 (fields_of (get_or MACHINE_ROWS l.at no_row).format h.fetch.slots)) (plain_mnemonic l.at (fields_of (get_or MACHINE_ROWS l.at no_row).format h.fetch.slots)) }
colonless a u None text more unit h e = chosen (length u % 2 == 0) refl
  where
    chosen : (b : Bool) → (length u % 2 == 0) ≡ b → HasColonless text
    chosen true even = record { m = codes ".short"; tail = _; words = even_worded u text more (unit_some u unit) even e; colon = refl }
    chosen false odd = record { m = codes ".byte"; tail = _; words = odd_worded u text more (unit_some u unit) odd e; colon = refl }

pub no_address : (a b : ℕ) (u : List ℕ) (x : Option Located) (text rest more : List ℕ) → b < 2 ^ 64 → is_unit u ≡ true → IsFound u x → text ≡ found_text a u x ++ (10 ∷ more) → text ≡ digits 16 false b ++ (58 ∷ (32 ∷ rest)) → ⊥
no_address a b u x text rest more small unit h e columns =
    let w = colonless a u x text more unit h e in
    let d = (digits_is_IsNumeral 16 false (omega arith) (omega arith) b (omega (arith, small))).0.1 in
    let same = first_blank (digits 16 false b ++ (58 ∷ [])) w.m rest (drop 1 w.tail) (digits_blank (digits 16 false b) d) w.words.word
    (append_assoc (digits 16 false b) (58 ∷ []) (32 ∷ rest) ∙ sym columns ∙ w.words.text_is ∙ ap (λ (t : List ℕ). w.m ++ t) w.words.blank) in
    colon_last (digits 16 false b) (ap no_colon same.before ∙ w.colon)

-- ---- the same where the mnemonic was compared
pub same_text : (xs ys : List ℕ) → bytes_eq xs ys ≡ true → xs ≡ ys
same_text [] [] e = refl
same_text [] (y ∷ ys) e = cc
same_text (x ∷ xs) [] e = cc
same_text (x ∷ xs) (y ∷ ys) e = let p = and_parts (x == y) (bytes_eq xs ys) e in ap₂ (λ (z : ℕ) (zs : List ℕ). z ∷ zs) (eqb-true x y p.0) (same_text xs ys p.1)

pub other_text : (xs ys : List ℕ) → bytes_eq xs ys ≡ false → xs ≡ ys → ⊥
other_text xs ys nay e = let h : bytes_eq xs xs ≡ false = ap (bytes_eq xs) e ∙ nay in true_false (bytes_eq xs xs) (itself xs) h
  where
    true_false : (b : Bool) → b ≡ true → b ≡ false → ⊥
    true_false b x y = cc

    both : (a b : Bool) → a ≡ true → b ≡ true → (a && b) ≡ true
    both true b x y = y
    both false b x y = cc

    itself : (zs : List ℕ) → bytes_eq zs zs ≡ true
    itself [] = refl
    itself (z ∷ zs) = both (z == z) (bytes_eq zs zs) (eq-eqb z z refl) (itself zs)

pub short_ok : {T E : Type 0} (r : Result T E) (items : T → List ℕ) (a : ℕ) (text w rest : List ℕ) → IsWord text w → rest ≡ drop (length w) text → bytes_eq w (codes ".short") ≡ true → IfOk r (λ b. IsGroupRead 2 rest (items b)) → IfOk r (λ b. IsBareRead a text (items b))
short_ok r items a text w rest word is e h = IfOk-weaker r (λ b. IsGroupRead 2 rest (items b)) (λ b. IsBareRead a text (items b)) (λ b g. short_read a text w rest (items b) word is (same_text w (codes ".short") e) g) h

pub byte_ok : {T E : Type 0} (r : Result T E) (items : T → List ℕ) (a : ℕ) (text w rest : List ℕ) → IsWord text w → rest ≡ drop (length w) text → bytes_eq w (codes ".byte") ≡ true → IfOk r (λ b. IsGroupRead 1 rest (items b)) → IfOk r (λ b. IsBareRead a text (items b))
byte_ok r items a text w rest word is e h = IfOk-weaker r (λ b. IsGroupRead 1 rest (items b)) (λ b. IsBareRead a text (items b)) (λ b g. byte_read a text w rest (items b) word is (same_text w (codes ".byte") e) g) h

pub name_ok : (a : ℕ) (text w rest bytes : List ℕ) → IsWord text w → rest ≡ drop (length w) text → bytes_eq w (codes ".short") ≡ false → bytes_eq w (codes ".byte") ≡ false → IsRowRead a spellings MACHINE_ROWS w rest bytes → IsBareRead a text bytes
name_ok a text w rest bytes word is e f reads = name_read a text w rest bytes word is (other_text w (codes ".short") e) (other_text w (codes ".byte") f) reads

-- the bytes that are stored are those that were read
pub stored_ok : {T E : Type 0} (r : Result T E) (items : T → List ℕ) (a : ℕ) (text bytes lent : List ℕ) → lent ≡ bytes → IfOk r (λ b. items b ≡ lent) → IsBareRead a text bytes → IfOk r (λ b. IsBareRead a text (items b))
stored_ok r items a text bytes lent e h reads = IfOk-weaker r (λ b. items b ≡ lent) (λ b. IsBareRead a text (items b)) (λ b g. subst (λ (t : List ℕ). IsBareRead a text t) (sym (g ∙ e)) reads) h
