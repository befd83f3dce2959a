-- The object of members from the sections of their text.
use Rattle.std.proofs.Common.{◌≡◌, ℕ, suc, ◌<◌, None, Some, Option, List, [], ◌∷◌, length, map, refl, sym, ap, subst, ◌∙◌, arith}
use Rattle.std.proofs.lemmas.List.{length-map}
use Rattle.s390x_buffer.specs.declared.entries.MachBufferFinalized.{MachBufferFinalized}
use Rattle.s390x_buffer.specs.declared.entries.RelocEntry.{RelocEntry}
use Rattle.s390x_elf.specs.declared.error.ObjectError.{ObjectError}
use Rattle.s390x_elf.specs.declared.members.ObjectMember.{ObjectMember}
use Rattle.s390x_elf.specs.declared.members.Text.{Text}
use Rattle.s390x_elf.specs.declared.metadata.Coded.{Coded}
use Rattle.s390x_elf.specs.declared.names.GivenName.{GivenName}
use Rattle.s390x_elf.specs.declared.symbols.TextFunction.{TextFunction}
use Rattle.s390x_elf.specs.Answers.{IsFileWithTables}
use Rattle.s390x_elf.specs.Causes.{first_cause, text_cause}
use Rattle.s390x_elf.specs.File.{Section}
use Rattle.s390x_elf.specs.Members.{IsObjectOfMembers, IsTextOfMembers, functions_behind, greatest_alignment, members_cause, places_cause, relocs_behind, text_behind, end_of}
use Rattle.s390x_elf.specs.Metadata.{HasTablesOfMembers, member_codes}
use Rattle.s390x_elf.specs.Names.{Naming, name_in}
use Rattle.s390x_elf.specs.Object.{Function, function_of}
use Rattle.s390x_elf.specs.TableBytes.{code_of}
use Rattle.s390x_elf.specs.Tables.{AreObjectSections}
use Rattle.s390x_elf.proofs.Finished.{object_from_file, tables_from_file}

functions_count : (end : Option ℕ) (ms : List ObjectMember) → length (functions_behind end ms) ≡ length ms
functions_count end [] = refl
functions_count end (m ∷ ms) = ap suc (functions_count (Some (end_of end m)) ms)

-- the sections of the text are those of the members
members_sections : (named : Naming) (ms : List ObjectMember) (text : Text) (functions : List TextFunction) (bytes : List ℕ) (rs : List RelocEntry) (ss : List Section) → IsTextOfMembers ms text → functions ≡ text.functions.items →
    bytes ≡ text.bytes.items → rs ≡ text.relocs.items → AreObjectSections named (map function_of functions) text.alignment bytes rs ss →
    AreObjectSections named (functions_behind None ms) (greatest_alignment 1 ms) (text_behind None ms) (relocs_behind None ms) ss
members_sections named ms text functions bytes rs ss is f b r are =
    subst (λ (fs : List Function). AreObjectSections named fs (greatest_alignment 1 ms) (text_behind None ms) (relocs_behind None ms) ss) (ap (map function_of) f ∙ is.functions)
    (subst (λ (a : ℕ). AreObjectSections named (map function_of functions) a (text_behind None ms) (relocs_behind None ms) ss) is.alignment
    (subst (λ (bs : List ℕ). AreObjectSections named (map function_of functions) text.alignment bs (relocs_behind None ms) ss) (b ∙ is.bytes)
    (subst (λ (xs : List RelocEntry). AreObjectSections named (map function_of functions) text.alignment bytes xs ss) (r ∙ is.relocs) are)))

pub members_object : (names : List GivenName) (ms : List ObjectMember) (text : Text) (functions : List TextFunction) (bytes : List ℕ) (rs : List RelocEntry) (ss : List Section) (all : List MachBufferFinalized) (file : List ℕ) →
    IsTextOfMembers ms text → functions ≡ text.functions.items → bytes ≡ text.bytes.items → rs ≡ text.relocs.items → AreObjectSections (name_in names) (map function_of functions) text.alignment bytes rs ss →
    IsFileWithTables ss all file → IsObjectOfMembers names ms file
members_object names ms text functions bytes rs ss all file is f b r are with_tables =
    object_from_file (name_in names) (functions_behind None ms) (greatest_alignment 1 ms) (text_behind None ms) (relocs_behind None ms) ss all file (members_sections (name_in names) ms text functions bytes rs ss is f b r are) with_tables

pub members_tables : (names : List GivenName) (ms : List ObjectMember) (text : Text) (functions : List TextFunction) (bytes : List ℕ) (rs : List RelocEntry) (ss : List Section) (codes : List Coded) (file : List ℕ) →
    IsTextOfMembers ms text → functions ≡ text.functions.items → bytes ≡ text.bytes.items → rs ≡ text.relocs.items → AreObjectSections (name_in names) (map function_of functions) text.alignment bytes rs ss →
    map code_of codes ≡ member_codes ms → IsFileWithTables ss (map code_of codes) file → HasTablesOfMembers ms file
members_tables names ms text functions bytes rs ss codes file is f b r are e with_tables =
    let count : length (functions_behind None ms) ≡ length (member_codes ms) = functions_count None ms ∙ sym (length-map ms (λ (m : ObjectMember). m.code)) in
    tables_from_file (name_in names) (functions_behind None ms) (greatest_alignment 1 ms) (text_behind None ms) (relocs_behind None ms) ss (member_codes ms) file (members_sections (name_in names) ms text functions bytes rs ss is f b r are)
    (subst (λ (cs : List MachBufferFinalized). IsFileWithTables ss cs file) e with_tables) count

pub members_uncaused : (names : List GivenName) (ms : List ObjectMember) (text : Text) (functions : List TextFunction) (rs : List RelocEntry) → IsTextOfMembers ms text → functions ≡ text.functions.items → rs ≡ text.relocs.items →
    places_cause None ms ≡ None → text_cause names (map function_of functions) rs ≡ None → members_cause names ms ≡ None
members_uncaused names ms text functions rs is f r placed none =
    ap (λ (o : Option ObjectError). first_cause o (text_cause names (functions_behind None ms) (relocs_behind None ms))) placed
    ∙ ap (λ (fs : List Function). text_cause names fs (relocs_behind None ms)) (sym (ap (map function_of) f ∙ is.functions))
    ∙ ap (λ (xs : List RelocEntry). text_cause names (map function_of functions) xs) (sym (r ∙ is.relocs))
    ∙ none

-- as many codes as functions
pub codes_few : (ms : List ObjectMember) (text : Text) (functions : List TextFunction) (codes : List Coded) → IsTextOfMembers ms text → functions ≡ text.functions.items → map code_of codes ≡ member_codes ms → length functions < 4294967295 →
    length codes < 4294967295
codes_few ms text functions codes is f e few =
    let mapped : length (map code_of codes) ≡ length codes = length-map codes code_of in
    let members : length (member_codes ms) ≡ length ms = length-map ms (λ (m : ObjectMember). m.code) in
    let same : length (map code_of codes) ≡ length (member_codes ms) = ap length e in
    let behind : length (functions_behind None ms) ≡ length ms = functions_count None ms in
    let shown : length (map function_of functions) ≡ length (functions_behind None ms) = ap length (ap (map function_of) f ∙ is.functions) in
    let counted : length (map function_of functions) ≡ length functions = length-map functions function_of in
    omega (arith, mapped, members, same, behind, shown, counted, few)
