-- Places of names among symbols.
use Rattle.std.proofs.Common.{◌≡◌, ℕ, suc, ◌≤◌, Bool, true, false, cond, Option, Some, None, option_map, List, [], ◌∷◌, ◌++◌, length, get_or, refl, sym, ap, ◌∙◌, arith, bytes_eq}
use Rattle.std.specs.Prelude.{String}
use Rattle.std.specs.BTreeMap.{BTreeMap, get_by_text}
use Rattle.std.specs.Map.{update}
use Rattle.std.proofs.lemmas.Slice.Eq.{bytes_eq-Decides}
use Rattle.s390x_elf.specs.Symbols.{Symbol, null_symbol}
use Rattle.s390x_elf.specs.Object.{first_or_later, place, named_symbol}
use Rattle.s390x_elf.specs.Tables.{number_behind, symbol_number, Indexes}

-- the symbol with the number of a name is the one with the name
behind_one : (b : Bool) (s : Symbol) (ss : List Symbol) (o : Option ℕ) →
    get_or (null_symbol ∷ s ∷ ss) (number_behind (first_or_later b o)) null_symbol ≡ cond b s (get_or (null_symbol ∷ ss) (number_behind o) null_symbol)
behind_one true s ss o = refl
behind_one false s ss None = refl
behind_one false s ss (Some n) = refl

pub numbered_is_named : (ss : List Symbol) (name : List ℕ) → get_or (null_symbol ∷ ss) (symbol_number ss name) null_symbol ≡ named_symbol ss name
numbered_is_named [] name = refl
numbered_is_named (s ∷ ss) name =
    behind_one (bytes_eq name s.name) s ss (place ss name)
    ∙ ap (λ (t : Symbol). cond (bytes_eq name s.name) s t) (numbered_is_named ss name)

number_within_one : (b : Bool) (o : Option ℕ) (n : ℕ) → number_behind o ≤ n → number_behind (first_or_later b o) ≤ suc n
number_within_one true o n h = omega arith
number_within_one false None n h = omega arith
number_within_one false (Some m) n h = omega arith

pub number_within : (ss : List Symbol) (name : List ℕ) → symbol_number ss name ≤ length ss
number_within [] name = omega arith
number_within (s ∷ ss) name = number_within_one (bytes_eq name s.name) (place ss name) (length ss) (number_within ss name)

-- the place of a name behind one more symbol whose name none of the others has
same_bytes : (xs ys : List ℕ) → bytes_eq xs ys ≡ true → xs ≡ ys
same_bytes xs ys h = (bytes_eq-Decides xs ys).0 h

true_of_same : (xs ys : List ℕ) → xs ≡ ys → bytes_eq xs ys ≡ true
true_of_same xs ys h = (bytes_eq-Decides xs ys).1 h

same_tests : (a b : Bool) → (a ≡ true → b ≡ true) → (b ≡ true → a ≡ true) → a ≡ b
same_tests true b f g = sym (f refl)
same_tests false true f g = g refl
same_tests false false f g = refl

turned : (xs ys : List ℕ) → bytes_eq xs ys ≡ bytes_eq ys xs
turned xs ys = same_tests (bytes_eq xs ys) (bytes_eq ys xs) (λ h. true_of_same ys xs (sym (same_bytes xs ys h))) (λ h. true_of_same xs ys (sym (same_bytes ys xs h)))

not_first : (b : Bool) (o : Option ℕ) → first_or_later b o ≡ None → (b ≡ false) × (o ≡ None)
not_first true o h = cc
not_first false None h = (refl, refl)
not_first false (Some n) h = cc

-- b: the name is the symbol's; a: it is the new one's
behind : (a b : Bool) (o p : Option ℕ) (n : ℕ) → p ≡ cond a (Some n) o → (a ≡ true → b ≡ false) → first_or_later b p ≡ cond a (Some (suc n)) (first_or_later b o)
behind true true o p n e h = cc (h refl)
behind true false o p n e h = ap (option_map suc) e
behind false b o p n e h = ap (first_or_later b) e

one_or_none : Bool → Option ℕ
one_or_none b = cond b (Some 0) None

alone : (b : Bool) → first_or_later b None ≡ one_or_none b
unfolding one_or_none
alone true = refl
alone false = refl

pub place_behind : (ss : List Symbol) (s : Symbol) (name : List ℕ) → place ss s.name ≡ None → place (ss ++ s ∷ []) name ≡ cond (bytes_eq s.name name) (Some (length ss)) (place ss name)
unfolding one_or_none
place_behind [] s name h = alone (bytes_eq name s.name) ∙ ap one_or_none (turned name s.name)
place_behind (t ∷ ss) s name h =
    let apart = not_first (bytes_eq s.name t.name) (place ss s.name) h in
    let other : bytes_eq s.name name ≡ true → bytes_eq name t.name ≡ false =
    λ e. ap (λ (n : List ℕ). bytes_eq n t.name) (sym (same_bytes s.name name e)) ∙ apart.0 in
    behind (bytes_eq s.name name) (bytes_eq name t.name) (place ss name) (place (ss ++ s ∷ []) name) (length ss) (place_behind ss s name apart.1) other

-- a map has the places of one more symbol, whose name none of the others has
pub places_behind : {Y : Type 0} (old new : BTreeMap (String Y) ℕ) (ss : List Symbol) (s : Symbol) (key : List ℕ) (n : ℕ) → Indexes old ss → place ss s.name ≡ None → key ≡ s.name → n ≡ length ss →
    ((name : List ℕ) → get_by_text new name ≡ update bytes_eq (get_by_text old) key (Some n) name) → Indexes new (ss ++ s ∷ [])
places_behind old new ss s key n places none same count h = λ name.
    h name
    ∙ ap (λ (k : List ℕ). cond (bytes_eq k name) (Some n) (get_by_text old name)) same
    ∙ ap (λ (m : ℕ). cond (bytes_eq s.name name) (Some m) (get_by_text old name)) count
    ∙ ap (λ (o : Option ℕ). cond (bytes_eq s.name name) (Some (length ss)) o) (places name)
    ∙ sym (place_behind ss s name none)
