-- What the ABI's formulas make of an object's relocations is what `link` makes of the code's.
use Rattle.std.proofs.Common.{◌≡◌, ℕ, ℤ, pos, ◌+ℤ◌, ◌-ℤ◌, ◌+◌, Bool, true, false, cond, ◌&&◌, Option, Some, None, is_some, List, [], ◌∷◌, ◌++◌, length, map, get_or, refl, sym, ap, subst, ◌∙◌, bytes_eq, append_assoc, append-nil, All}
use Rattle.std.specs.Int.RustNames.{int_div}
use Rattle.std.proofs.lemmas.Slice.Eq.{bytes_eq-Decides}
use Rattle.std.proofs.lemmas.List.Elements.{All-head, All-tail, All-cons, All-nil}
use Rattle.s390x_base.specs.declared.ir.Reloc.{Reloc}
use Rattle.s390x_base.specs.declared.ir.Reloc.TheVariants.{S390xPCRel32Dbl, S390xPLTRel32Dbl, Abs8}
use Rattle.s390x_buffer.specs.declared.entries.RelocEntry.{RelocEntry}
use Rattle.s390x_image.specs.Symbols.{Symbols, address_of}
use Rattle.s390x_image.specs.Fields.{address_or_zero, with_bytes_at, with_fields_filled, field_of}
use Rattle.s390x_image.specs.Causes.{first_link_cause, is_address, is_even, is_signed_word, absolute_cause, half_cause, field_cause, symbol_cause, reloc_cause, relocs_cause}
use Rattle.s390x_image.specs.declared.error.LinkError.{LinkError}
use Rattle.s390x_image.specs.declared.error.LinkError.TheVariants.{AddressOverflow, OddSymbol, TooFar}
use Rattle.s390x_elf.specs.Symbols.{Symbol, Relocation}
use Rattle.s390x_elf.specs.Linking.{symbol_address, relocation_field, fits_field, fits_at, relocated_bytes}
use Rattle.s390x_elf.specs.Names.{Naming}
use Rattle.s390x_elf.specs.Object.{Function, function_symbol, undefined_symbol, first_or_later, place, with_name, with_used_names, global_symbols, named_symbol, type_of, relocation_of, name_address, Agrees}
use Rattle.s390x_elf.proofs.Places.{place_behind}

pub same_field : (k : Reloc) (s a p : ℤ) → relocation_field (type_of k) s a p ≡ field_of k (s +ℤ a) ((s +ℤ a) -ℤ p)
same_field S390xPCRel32Dbl s a p = refl
same_field k s a p = refl

-- a relocation's symbol has the address that a table gives its name
abbrev pub HasAddress : (named : Naming) → (base : ℕ) (others : List ℕ → ℕ) → Symbols → List Symbol → RelocEntry → Type 0
HasAddress named base others table ss r = address_or_zero (address_of table r.name) ≡ symbol_address base others (named_symbol ss (named r.name))

pub same_fields : (named : Naming) → (base : ℕ) (others : List ℕ → ℕ) (table : Symbols) (ss : List Symbol) (rs : List RelocEntry) (bytes : List ℕ) → All (HasAddress named base others table ss) rs →
    relocated_bytes base others (map (relocation_of named ss) rs) bytes ≡ with_fields_filled base table rs bytes
same_fields named base others table ss [] bytes h = refl
same_fields named base others table ss (r ∷ rs) bytes h =
    let there : ℕ = symbol_address base others (named_symbol ss (named r.name)) in
    let here : address_or_zero (address_of table r.name) ≡ there = All-head (HasAddress named base others table ss) r rs h in
    same_fields named base others table ss rs (with_bytes_at bytes r.offset (relocation_field (type_of r.kind) (pos there) r.addend (pos (base + r.offset)))) (All-tail (HasAddress named base others table ss) r rs h)
    ∙ ap (λ (symbol : ℕ). with_fields_filled base table rs (with_bytes_at bytes r.offset (relocation_field (type_of r.kind) (pos symbol) r.addend (pos (base + r.offset))))) (sym here)
    ∙ ap (λ (field : List ℕ). with_fields_filled base table rs (with_bytes_at bytes r.offset field)) (same_field r.kind (pos (address_or_zero (address_of table r.name))) r.addend (pos (base + r.offset)))

-- the names that relocations add to symbols
added : (named : Naming) → List Symbol → List RelocEntry → List (List ℕ)
added named ss [] = []
added named ss (r ∷ rs) = cond (is_some (place ss (named r.name))) (added named ss rs) (named r.name ∷ added named (ss ++ undefined_symbol (named r.name) ∷ []) rs)

added_one : (named : Naming) → (b : Bool) (ss : List Symbol) (s : Symbol) (n : List ℕ) (rs : List RelocEntry) (us vs : List (List ℕ)) → s ≡ undefined_symbol n →
    with_used_names named ss rs ≡ ss ++ map undefined_symbol us → with_used_names named (ss ++ s ∷ []) rs ≡ (ss ++ s ∷ []) ++ map undefined_symbol vs →
    with_used_names named (cond b ss (ss ++ s ∷ [])) rs ≡ ss ++ map undefined_symbol (cond b us (n ∷ vs))
added_one named true ss s n rs us vs e f g = f
added_one named false ss s n rs us vs e f g = g ∙ append_assoc ss (s ∷ []) (map undefined_symbol vs) ∙ ap (λ (t : Symbol). ss ++ t ∷ map undefined_symbol vs) e

used_names : (named : Naming) → (ss : List Symbol) (rs : List RelocEntry) → with_used_names named ss rs ≡ ss ++ map undefined_symbol (added named ss rs)
unfolding added
used_names named ss [] = sym (append-nil ss)
used_names named ss (r ∷ rs) =
    let n : List ℕ = named r.name in
    let s : Symbol = undefined_symbol n in
    added_one named (is_some (place ss n)) ss s n rs (added named ss rs) (added named (ss ++ s ∷ []) rs) refl (used_names named ss rs) (used_names named (ss ++ s ∷ []) rs)

-- a name that symbols have resolves to the function's address, or to what others give it
undefined_step : (base : ℕ) (others : List ℕ → ℕ) (b : Bool) (u n : List ℕ) (o : Option ℕ) (t : Symbol) → (b ≡ true → n ≡ u) → (is_some o ≡ true → symbol_address base others t ≡ others n) →
    is_some (first_or_later b o) ≡ true → symbol_address base others (cond b (undefined_symbol u) t) ≡ others n
undefined_step base others true u n o t same next h = ap others (sym (same refl))
undefined_step base others false u n None t same next h = cc
undefined_step base others false u n (Some m) t same next h = next refl

undefined_resolves : (base : ℕ) (others : List ℕ → ℕ) (us : List (List ℕ)) (n : List ℕ) → is_some (place (map undefined_symbol us) n) ≡ true →
    symbol_address base others (named_symbol (map undefined_symbol us) n) ≡ others n
undefined_resolves base others [] n h = cc
undefined_resolves base others (u ∷ us) n h =
    undefined_step base others (bytes_eq n u) u n (place (map undefined_symbol us) n) (named_symbol (map undefined_symbol us) n) ((bytes_eq-Decides n u).0) (undefined_resolves base others us n) h

function_step : (base : ℕ) (others : List ℕ → ℕ) (b : Bool) (f : Function) (o : Option ℕ) (t : Symbol) (rest : ℕ) → (is_some o ≡ true → symbol_address base others t ≡ rest) →
    is_some (first_or_later b o) ≡ true → symbol_address base others (cond b (function_symbol f) t) ≡ cond b (base + f.start) rest
function_step base others true f o t rest next h = refl
function_step base others false f None t rest next h = cc
function_step base others false f (Some m) t rest next h = next refl

resolves : (base : ℕ) (others : List ℕ → ℕ) (fs : List Function) (us : List (List ℕ)) (n : List ℕ) → is_some (place (map function_symbol fs ++ map undefined_symbol us) n) ≡ true →
    symbol_address base others (named_symbol (map function_symbol fs ++ map undefined_symbol us) n) ≡ name_address base others fs n
resolves base others [] us n h = undefined_resolves base others us n h
resolves base others (f ∷ fs) us n h =
    function_step base others (bytes_eq n f.name) f (place (map function_symbol fs ++ map undefined_symbol us) n) (named_symbol (map function_symbol fs ++ map undefined_symbol us) n) (name_address base others fs n) (resolves base others fs us n) h

-- the names that relocations use are among the symbols
kept_one : (b : Bool) (o p : Option ℕ) → (is_some o ≡ true → is_some p ≡ true) → is_some (first_or_later b o) ≡ true → is_some (first_or_later b p) ≡ true
kept_one true o p f h = refl
kept_one false None p f h = cc
kept_one false (Some n) None f h = f refl
kept_one false (Some n) (Some m) f h = refl

kept : (ss : List Symbol) (s : Symbol) (n : List ℕ) → is_some (place ss n) ≡ true → is_some (place (ss ++ s ∷ []) n) ≡ true
kept [] s n h = cc
kept (t ∷ ss) s n h = kept_one (bytes_eq n t.name) (place ss n) (place (ss ++ s ∷ []) n) (kept ss s n) h

kept_with : (b : Bool) (ss : List Symbol) (s : Symbol) (n : List ℕ) → is_some (place ss n) ≡ true → is_some (place (cond b ss (ss ++ s ∷ [])) n) ≡ true
kept_with true ss s n h = h
kept_with false ss s n h = kept ss s n h

kept_all : (named : Naming) → (ss : List Symbol) (rs : List RelocEntry) (n : List ℕ) → is_some (place ss n) ≡ true → is_some (place (with_used_names named ss rs) n) ≡ true
kept_all named ss [] n h = h
kept_all named ss (r ∷ rs) n h =
    kept_all named (with_name ss (named r.name)) rs n (kept_with (is_some (place ss (named r.name))) ss (undefined_symbol (named r.name)) n h)

there_case : (o : Option ℕ) (ss : List Symbol) (s : Symbol) (n : List ℕ) → place ss n ≡ o → (place ss n ≡ None → is_some (place (ss ++ s ∷ []) n) ≡ true) →
    is_some (place (cond (is_some o) ss (ss ++ s ∷ [])) n) ≡ true
there_case None ss s n e f = f e
there_case (Some m) ss s n e f = ap is_some e

there : (ss : List Symbol) (n : List ℕ) → is_some (place (with_name ss n) n) ≡ true
there ss n =
    let s : Symbol = undefined_symbol n in
    there_case (place ss n) ss s n refl
    (λ h. ap is_some (place_behind ss s n h) ∙ ap (λ (b : Bool). is_some (cond b (Some (length ss)) (place ss n))) ((bytes_eq-Decides n n).1 refl))

-- a name that relocations use is among the symbols
abbrev pub IsThere : (named : Naming) → List Symbol → RelocEntry → Type 0
IsThere named ss r = is_some (place ss (named r.name)) ≡ true

pub used_are_there : (named : Naming) → (ss : List Symbol) (rs : List RelocEntry) → All (IsThere named (with_used_names named ss rs)) rs
used_are_there named ss [] = All-nil (IsThere named ss)
used_are_there named ss (r ∷ rs) =
    let next : List Symbol = with_name ss (named r.name) in
    All-cons (IsThere named (with_used_names named next rs)) r rs (kept_all named next rs (named r.name) (there ss (named r.name))) (used_are_there named next rs)

addresses : (named : Naming) → (base : ℕ) (others : List ℕ → ℕ) (fs : List Function) (us : List (List ℕ)) (table : Symbols) (rs : List RelocEntry) →
    Agrees named (name_address base others fs) table rs → All (IsThere named (map function_symbol fs ++ map undefined_symbol us)) rs → All (HasAddress named base others table (map function_symbol fs ++ map undefined_symbol us)) rs
addresses named base others fs us table rs agree found = λ k d h. ap address_or_zero (agree k d h) ∙ sym (resolves base others fs us (named (get_or rs k d).name) (found k d h))

-- relocations whose names are among the symbols have the addresses of a table that agrees
pub resolved : (named : Naming) → (base : ℕ) (others : List ℕ → ℕ) (table : Symbols) (fs : List Function) (all rs : List RelocEntry) → Agrees named (name_address base others fs) table rs →
    All (IsThere named (global_symbols named fs all)) rs → All (HasAddress named base others table (global_symbols named fs all)) rs
resolved named base others table fs all rs agree found =
    let start : List Symbol = map function_symbol fs in
    let us : List (List ℕ) = added named start all in
    let e : global_symbols named fs all ≡ start ++ map undefined_symbol us = used_names named start all in
    subst (λ (ss : List Symbol). All (HasAddress named base others table ss) rs) (sym e)
    (addresses named base others fs us table rs agree (subst (λ (ss : List Symbol). All (IsThere named ss) rs) e found))

pub linked_as_filled : (named : Naming) → (base : ℕ) (others : List ℕ → ℕ) (table : Symbols) (fs : List Function) (rs : List RelocEntry) (bytes : List ℕ) → Agrees named (name_address base others fs) table rs →
    relocated_bytes base others (map (relocation_of named (global_symbols named fs rs)) rs) bytes ≡ with_fields_filled base table rs bytes
linked_as_filled named base others table fs rs bytes agree =
    let start : List Symbol = map function_symbol fs in
    let us : List (List ℕ) = added named start rs in
    let e : global_symbols named fs rs ≡ start ++ map undefined_symbol us = used_names named start rs in
    let found : All (IsThere named (start ++ map undefined_symbol us)) rs = subst (λ (ss : List Symbol). All (IsThere named ss) rs) e (used_are_there named start rs) in
    ap (λ (ss : List Symbol). relocated_bytes base others (map (relocation_of named ss) rs) bytes) e
    ∙ same_fields named base others table (start ++ map undefined_symbol us) rs bytes (addresses named base others fs us table rs agree found)

-- where `link` has no cause, each value fits its field
pub no_first : (o p : Option LinkError) → first_link_cause o p ≡ None → (o ≡ None) × (p ≡ None)
no_first None p h = (refl, h)
no_first (Some e) p h = cc

address_test : (b : Bool) (e : LinkError) → cond b None (Some e) ≡ None → b ≡ true
address_test true e h = refl
address_test false e h = cc

half_tests : (a b : Bool) (e f : LinkError) → cond a (cond b None (Some e)) (Some f) ≡ None → (a && b) ≡ true
half_tests true true e f h = refl
half_tests true false e f h = cc
half_tests false b e f h = cc

field_test : (k : Reloc) (s a p : ℤ) → field_cause k (s +ℤ a) ((s +ℤ a) -ℤ p) ≡ None → fits_field (type_of k) s a p ≡ true
field_test S390xPCRel32Dbl s a p h =
    half_tests (is_even ((s +ℤ a) -ℤ p)) (is_signed_word (int_div ((s +ℤ a) -ℤ p) (pos 2))) TooFar OddSymbol (no_first (absolute_cause ((s +ℤ a) -ℤ pos 2)) (half_cause ((s +ℤ a) -ℤ p)) h).1
field_test S390xPLTRel32Dbl s a p h =
    half_tests (is_even ((s +ℤ a) -ℤ p)) (is_signed_word (int_div ((s +ℤ a) -ℤ p) (pos 2))) TooFar OddSymbol (no_first (absolute_cause ((s +ℤ a) -ℤ pos 2)) (half_cause ((s +ℤ a) -ℤ p)) h).1
field_test Abs8 s a p h = address_test (is_address (s +ℤ a)) AddressOverflow h

pub symbol_test : (base : ℕ) (r : RelocEntry) (o : Option ℕ) → symbol_cause base r o ≡ None → fits_field (type_of r.kind) (pos (address_or_zero o)) r.addend (pos (base + r.offset)) ≡ true
symbol_test base r None h = cc
symbol_test base r (Some symbol) h = field_test r.kind (pos symbol) r.addend (pos (base + r.offset)) h

abbrev pub FitsAt : (base : ℕ) (others : List ℕ → ℕ) → Relocation → Type 0
FitsAt base others r = fits_at base others r ≡ true

fields_fit : (named : Naming) → (base : ℕ) (others : List ℕ → ℕ) (table : Symbols) (ss : List Symbol) (rs : List RelocEntry) → All (HasAddress named base others table ss) rs → relocs_cause base table rs ≡ None →
    All (FitsAt base others) (map (relocation_of named ss) rs)
fields_fit named base others table ss [] h k = All-nil (FitsAt base others)
fields_fit named base others table ss (r ∷ rs) h k =
    let both = no_first (reloc_cause base table r) (relocs_cause base table rs) k in
    let here : fits_field (type_of r.kind) (pos (address_or_zero (address_of table r.name))) r.addend (pos (base + r.offset)) ≡ true = symbol_test base r (address_of table r.name) both.0 in
    let there : fits_at base others (relocation_of named ss r) ≡ true =
    ap (λ (symbol : ℕ). fits_field (type_of r.kind) (pos symbol) r.addend (pos (base + r.offset))) (sym (All-head (HasAddress named base others table ss) r rs h)) ∙ here in
    All-cons (FitsAt base others) (relocation_of named ss r) (map (relocation_of named ss) rs) there (fields_fit named base others table ss rs (All-tail (HasAddress named base others table ss) r rs h) both.1)

pub linked_fields_fit : (named : Naming) → (base : ℕ) (others : List ℕ → ℕ) (table : Symbols) (fs : List Function) (rs : List RelocEntry) → Agrees named (name_address base others fs) table rs → relocs_cause base table rs ≡ None →
    All (λ (r : Relocation). fits_at base others r ≡ true) (map (relocation_of named (global_symbols named fs rs)) rs)
linked_fields_fit named base others table fs rs agree none =
    let start : List Symbol = map function_symbol fs in
    let us : List (List ℕ) = added named start rs in
    let e : global_symbols named fs rs ≡ start ++ map undefined_symbol us = used_names named start rs in
    let found : All (IsThere named (start ++ map undefined_symbol us)) rs = subst (λ (ss : List Symbol). All (IsThere named ss) rs) e (used_are_there named start rs) in
    subst (λ (ss : List Symbol). All (FitsAt base others) (map (relocation_of named ss) rs)) (sym e)
    (fields_fit named base others table (start ++ map undefined_symbol us) rs (addresses named base others fs us table rs agree found) none)

-- the same of `link_cause`
pub no_link_cause : (o p : Option LinkError) → first_link_cause o p ≡ None → p ≡ None
no_link_cause o p h = (no_first o p h).1
