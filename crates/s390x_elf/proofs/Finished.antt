-- The object of functions in a text, and how it is linked.
use Rattle.std.proofs.Common.{◌≡◌, ℕ, ◌+◌, ◌^◌, ◌<◌, Bool, true, false, cond, nat_eq, nat_le, is_some, Option, Some, None, List, [], ◌∷◌, ◌++◌, length, map, codes, refl, sym, ap, subst, ◌∙◌, arith, append_assoc, All, string_bytes}
use Rattle.std.specs.List.{list_any}
use Rattle.std.proofs.lemmas.List.Elements.{All-nil, All-cons, All-head, All-tail}
use Rattle.s390x_buffer.specs.declared.entries.RelocEntry.{RelocEntry}
use Rattle.s390x_buffer.specs.declared.entries.MachBufferFinalized.{MachBufferFinalized}
use Rattle.s390x_image.specs.Causes.{base_cause, relocs_cause}
use Rattle.s390x_elf.specs.declared.error.ObjectError.{ObjectError}
use Rattle.s390x_elf.specs.declared.error.ObjectError.TheVariants.{EmptyName, ZeroByte, DuplicateName, EmptyMember, TooLong}
use Rattle.s390x_elf.specs.Reading.{IsText}
use Rattle.s390x_elf.specs.File.{Section, sections}
use Rattle.s390x_elf.specs.Symbols.{Symbol, Relocation, named_section, relocations_for}
use Rattle.s390x_elf.specs.Linking.{fits_at, relocated_bytes}
use Rattle.s390x_elf.specs.declared.names.GivenName.{GivenName}
use Rattle.s390x_elf.specs.Names.{Naming, name_in}
use Rattle.s390x_elf.specs.Object.{Function, function_symbol, place, global_symbols, string_table, relocation_of, whole_function, IsObjectOf, IsLinkedAsFilled, IsLinkedAsNamed}
use Rattle.s390x_elf.specs.Causes.{first_cause, name_cause, function_cause, functions_cause, given_cause, names_cause, text_cause}
use Rattle.s390x_elf.specs.Tables.{AreObjectSections, SymbolFits, RelocFits, FunctionFits, object_sections}
use Rattle.s390x_elf.specs.Writing.{file_bytes}
use Rattle.s390x_elf.specs.Answers.{IsFileWithTables}
use Rattle.s390x_elf.specs.Metadata.{HasTables}
use Rattle.s390x_elf.specs.TableBytes.{metadata_sections}
use Rattle.s390x_elf.proofs.TablesRead.{metadata_follows, tables_from_sections}
use Rattle.s390x_elf.proofs.ReadObject.{MayFollow, NamesTexts, name_text, text_from_test, function_fits, used_fit, object_read}
use Rattle.s390x_elf.proofs.Linked.{linked_as_filled, linked_fields_fit, no_link_cause}

second_test : (a b : Bool) → cond a (Some EmptyName) (cond b (Some ZeroByte) None) ≡ None → b ≡ false
second_test true b h = cc
second_test false true h = cc
second_test false false h = refl

name_is_text : (name : List ℕ) → name_cause name ≡ None → IsText name
name_is_text name h = text_from_test name (second_test (nat_eq (length name) 0) (list_any (λ (b : ℕ). nat_eq b 0) name) h)

no_first : (o p : Option ObjectError) → first_cause o p ≡ None → (o ≡ None) × (p ≡ None)
no_first None p h = (refl, h)
no_first (Some e) p h = cc

-- functions without a cause have symbols that fit
functions_fit : (earlier : List Symbol) (fs : List Function) → functions_cause earlier fs ≡ None → All FunctionFits fs → All SymbolFits (map function_symbol fs)
functions_fit earlier [] h k = All-nil SymbolFits
functions_fit earlier (f ∷ fs) h k =
    let both = no_first (function_cause earlier f) (functions_cause (earlier ++ function_symbol f ∷ []) fs) h in
    let named = no_first (name_cause f.name) (cond (is_some (place earlier f.name)) (Some DuplicateName) (cond (nat_eq f.size 0) (Some EmptyMember) None)) both.0 in
    let here : FunctionFits f = All-head FunctionFits f fs k in
    All-cons SymbolFits (function_symbol f) (map function_symbol fs) (function_fits f (name_is_text f.name named.0) here.start here.size)
    (functions_fit (earlier ++ function_symbol f ∷ []) fs both.1 (All-tail FunctionFits f fs k))

one_text : (b : Bool) (name other : List ℕ) → IsText name → IsText other → IsText (cond b name other)
one_text true name other h k = h
one_text false name other h k = k

-- given names without a cause are texts, and so are all names then
pub given_texts : (names : List GivenName) → given_cause names ≡ None → NamesTexts (name_in names)
given_texts [] h = λ symbol small. name_text symbol small
given_texts (g ∷ gs) h =
    let both = no_first (name_cause (string_bytes g.name)) (given_cause gs) h in
    λ symbol small. one_text (nat_eq g.symbol.0 symbol.0) (string_bytes g.name) (name_in gs symbol) (name_is_text (string_bytes g.name) both.0) (given_texts gs both.1 symbol small)

-- the global symbols of functions and given names without a cause fit their entries
pub globals_fit : (names : List GivenName) (fs : List Function) (rs : List RelocEntry) → functions_cause [] fs ≡ None → given_cause names ≡ None → All FunctionFits fs → All RelocFits rs → All SymbolFits (global_symbols (name_in names) fs rs)
globals_fit names fs rs none given sized fit = used_fit (name_in names) (given_texts names given) (map function_symbol fs) rs (functions_fit [] fs none sized) fit

-- a file of an object's sections is read as the object, whatever follows them
pub object_from_sections : (named : Naming) (fs : List Function) (alignment : ℕ) (bytes : List ℕ) (rs : List RelocEntry) (ss extra : List Section) (file : List ℕ) → AreObjectSections named fs alignment bytes rs ss → MayFollow extra →
    file ≡ file_bytes (ss ++ extra) → length file < 2 ^ 64 → IsObjectOf named fs alignment bytes rs file
object_from_sections named fs alignment bytes rs ss extra file are follow written small =
    let whole : file ≡ file_bytes (object_sections named (global_symbols named fs rs) alignment bytes rs ++ extra) = written ∙ ap (λ (parts : List Section). file_bytes (parts ++ extra)) are.sections in
    subst (λ (b : List ℕ). IsObjectOf named fs alignment bytes rs b) (sym whole)
    (object_read named fs alignment bytes rs extra follow are.alignment_fits are.symbols_fit are.relocations_fit are.names_fit (subst (λ (b : List ℕ). length b < 2 ^ 64) whole small))

-- the same of a file with tables behind them
pub object_from_file : (named : Naming) (fs : List Function) (alignment : ℕ) (bytes : List ℕ) (rs : List RelocEntry) (ss : List Section) (all : List MachBufferFinalized) (file : List ℕ) → AreObjectSections named fs alignment bytes rs ss →
    IsFileWithTables ss all file → IsObjectOf named fs alignment bytes rs file
object_from_file named fs alignment bytes rs ss all file are is = object_from_sections named fs alignment bytes rs ss (metadata_sections all) file are (metadata_follows all) is.bytes is.size

pub tables_from_file : (named : Naming) (fs : List Function) (alignment : ℕ) (bytes : List ℕ) (rs : List RelocEntry) (ss : List Section) (all : List MachBufferFinalized) (file : List ℕ) → AreObjectSections named fs alignment bytes rs ss →
    IsFileWithTables ss all file → length fs ≡ length all → HasTables fs all file
tables_from_file named fs alignment bytes rs ss all file are is same = tables_from_sections named fs alignment bytes rs ss all file are is.bytes is.size same is.fits

-- what is read as the object is linked as its relocations fill it
pub object_is_filled : (named : Naming) (fs : List Function) (alignment : ℕ) (bytes : List ℕ) (rs : List RelocEntry) (file : List ℕ) → IsObjectOf named fs alignment bytes rs file → IsLinkedAsFilled named fs bytes rs file
object_is_filled named fs alignment bytes rs file object = λ base others table agree none.
    let fits : All (λ (r : Relocation). fits_at base others r ≡ true) (relocations_for (sections file) (codes ".text")) =
    subst (λ (all : List Relocation). All (λ (r : Relocation). fits_at base others r ≡ true) all) (sym object.relocations) (linked_fields_fit named base others table fs rs agree none) in (
      fits,
      ap (λ (all : List Relocation). relocated_bytes base others all (named_section (sections file) (codes ".text")).content) object.relocations
          ∙ ap (λ (s : Section). relocated_bytes base others (map (relocation_of named (global_symbols named fs rs)) rs) s.content) object.text
          ∙ linked_as_filled named base others table fs rs bytes agree,
    )

-- the object of finished code is linked as the image
pub filled_is_image : (names : List GivenName) (name : List ℕ) (code : MachBufferFinalized) (file : List ℕ) → IsLinkedAsFilled (name_in names) (whole_function name code) code.bytes.items code.relocs.items file →
    IsLinkedAsNamed names name code file
filled_is_image names name code file linked = λ base others table agree none.
    linked base others table agree (no_link_cause (base_cause code.alignment (length code.bytes.items) base) (relocs_cause base table code.relocs.items) none)

test_false : (n : ℕ) → n < 4294967296 → nat_le 4294967296 n ≡ false
test_false n h = grind arith

names_by_length : (given : List GivenName) (fs : List Function) (rs : List RelocEntry) (ss : List Symbol) (names : List ℕ) (b : Bool) → functions_cause [] fs ≡ None → given_cause given ≡ None → ss ≡ global_symbols (name_in given) fs rs → names ≡ 0 ∷ string_table ss →
    nat_le 4294967296 (length names) ≡ b → text_cause given fs rs ≡ cond b (Some TooLong) None
names_by_length given fs rs ss names b none fine e n h =
    let size : length names ≡ 1 + length (string_table (global_symbols (name_in given) fs rs)) = ap length n ∙ ap (λ (symbols : List Symbol). length (0 ∷ string_table symbols)) e ∙ omega arith in
    ap (λ (o : Option ObjectError). first_cause o (first_cause (given_cause given) (names_cause (global_symbols (name_in given) fs rs)))) none
    ∙ ap (λ (o : Option ObjectError). first_cause o (names_cause (global_symbols (name_in given) fs rs))) fine
    ∙ ap (λ (k : ℕ). cond (nat_le 4294967296 k) (Some TooLong) None) (sym size)
    ∙ ap (λ (t : Bool). cond t (Some TooLong) None) h

pub short_enough : (given : List GivenName) (fs : List Function) (rs : List RelocEntry) (ss : List Symbol) (names : List ℕ) → functions_cause [] fs ≡ None → given_cause given ≡ None → ss ≡ global_symbols (name_in given) fs rs → names ≡ 0 ∷ string_table ss →
    length names < 4294967296 → text_cause given fs rs ≡ None
short_enough given fs rs ss names none fine e n h = names_by_length given fs rs ss names false none fine e n (test_false (length names) h)

-- a function without a cause has a name of its own
own_name : (o : Option ObjectError) (p : Option ℕ) (later : Option ObjectError) → first_cause o (cond (is_some p) (Some DuplicateName) later) ≡ None → p ≡ None
own_name None None later h = refl
own_name None (Some n) later h = cc
own_name (Some e) p later h = cc

pub name_is_own : (ss : List Symbol) (f : Function) → function_cause ss f ≡ None → place ss f.name ≡ None
name_is_own ss f h = own_name (name_cause f.name) (place ss f.name) (cond (nat_eq f.size 0) (Some EmptyMember) None) h

pub name_is_fine : (name : List ℕ) → nat_eq (length name) 0 ≡ false → list_any (λ (b : ℕ). nat_eq b 0) name ≡ false → name_cause name ≡ None
name_is_fine name h k =
    ap (λ (b : Bool). cond b (Some EmptyName) (cond (list_any (λ (x : ℕ). nat_eq x 0) name) (Some ZeroByte) None)) h ∙ ap (λ (b : Bool). cond b (Some ZeroByte) None) k

-- one more function behind others
pub functions_on : (ss ss' : List Symbol) (f : Function) (left before : List Function) (all : List Symbol) → ss ++ map function_symbol before ≡ all → before ≡ f ∷ left → ss' ≡ ss ++ function_symbol f ∷ [] →
    ss' ++ map function_symbol left ≡ all
functions_on ss ss' f left before all h e k =
    ap (λ (s : List Symbol). s ++ map function_symbol left) k ∙ append_assoc ss (function_symbol f ∷ []) (map function_symbol left)
    ∙ ap (λ (fs : List Function). ss ++ map function_symbol fs) (sym e) ∙ h

pub cause_on : (ss ss' : List Symbol) (f : Function) (left before : List Function) (all : Option ObjectError) → functions_cause ss before ≡ all → before ≡ f ∷ left → ss' ≡ ss ++ function_symbol f ∷ [] →
    function_cause ss f ≡ None → functions_cause ss' left ≡ all
cause_on ss ss' f left before all h e k none =
    ap (λ (s : List Symbol). functions_cause s left) k
    ∙ sym (ap (λ (o : Option ObjectError). first_cause o (functions_cause (ss ++ function_symbol f ∷ []) left)) none)
    ∙ ap (λ (fs : List Function). functions_cause ss fs) (sym e) ∙ h
