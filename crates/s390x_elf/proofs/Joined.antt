-- The text of several members, linked: each member's code as `link` fills it.
use Rattle.std.proofs.Common.{◌≡◌, ℕ, pos, ◌+◌, ◌-◌, ◌≤◌, max, true, Option, Some, None, List, [], ◌∷◌, ◌++◌, length, take, drop, map, codes, refl, sym, ap, subst, ◌∙◌, arith, append_assoc, length-append, All}
use Rattle.std.proofs.Math.Seq.{take-append-add, drop-append-add}
use Rattle.std.proofs.lemmas.List.{take-append-le, drop-append-le, length-take-le, length-drop, length-replicate, map-append}
use Rattle.std.proofs.lemmas.List.Elements.{All-head, All-tail, All-cons, All-nil, All-append}
use Rattle.s390x_buffer.proofs.Placing.{round_up-ge}
use Rattle.s390x_buffer.specs.declared.entries.RelocEntry.{RelocEntry}
use Rattle.s390x_image.specs.Symbols.{Symbols, address_of}
use Rattle.s390x_image.specs.Fields.{LiesIn, address_or_zero, field_length, field_of, field_distance, target_of, with_bytes_at, with_fields_filled}
use Rattle.s390x_image.specs.Causes.{base_cause, reloc_cause, relocs_cause}
use Rattle.s390x_image.proofs.Filled.{length-field}
use Rattle.s390x_elf.specs.declared.members.ObjectMember.{ObjectMember}
use Rattle.s390x_elf.specs.File.{Section, sections}
use Rattle.s390x_elf.specs.Symbols.{Symbol, Relocation, named_section}
use Rattle.s390x_elf.specs.Linking.{symbol_address, relocation_field, fits_field, fits_at, relocated_bytes}
use Rattle.s390x_elf.specs.Names.{Naming, name_in}
use Rattle.s390x_elf.specs.Object.{Function, function_symbol, type_of, relocation_of, global_symbols, named_symbol, name_address}
use Rattle.s390x_elf.specs.declared.names.GivenName.{GivenName}
use Rattle.s390x_elf.specs.Members.{start_behind, start_of, end_of, end_or_zero, zeros, text_behind, member_relocation, functions_behind, relocs_behind, images_behind, IsLinkable, AreLinkable, IsObjectOfMembers, IsLinkedAsMembers}
use Rattle.s390x_elf.proofs.Linked.{HasAddress, IsThere, FitsAt, same_field, symbol_test, no_first, resolved, used_are_there, no_link_cause}

-- a field stored into a part of bytes is stored into the part
stored_inside : (before bytes behind new : List ℕ) (at : ℕ) → at + length new ≤ length bytes →
    with_bytes_at (before ++ (bytes ++ behind)) (length before + at) new ≡ before ++ (with_bytes_at bytes at new ++ behind)
stored_inside before bytes behind new at h =
    let near : at ≤ length bytes = omega arith in
    let shift : length before + at + length new ≡ length before + (at + length new) = omega arith in
    let head : take (length before + at) (before ++ (bytes ++ behind)) ≡ before ++ take at bytes =
    take-append-add before (bytes ++ behind) at ∙ ap (λ (b : List ℕ). before ++ b) (take-append-le at bytes behind near) in
    let tail : drop (length before + at + length new) (before ++ (bytes ++ behind)) ≡ drop (at + length new) bytes ++ behind =
    ap (λ (n : ℕ). drop n (before ++ (bytes ++ behind))) shift ∙ drop-append-add before (bytes ++ behind) (at + length new) ∙ drop-append-le (at + length new) bytes behind h in
    ap (λ (b : List ℕ). b ++ (new ++ drop (length before + at + length new) (before ++ (bytes ++ behind)))) head
    ∙ ap (λ (b : List ℕ). (before ++ take at bytes) ++ (new ++ b)) tail
    ∙ append_assoc before (take at bytes) (new ++ (drop (at + length new) bytes ++ behind))
    ∙ ap (λ (b : List ℕ). before ++ (take at bytes ++ b)) (sym (append_assoc new (drop (at + length new) bytes) behind))
    ∙ ap (λ (b : List ℕ). before ++ b) (sym (append_assoc (take at bytes) (new ++ drop (at + length new) bytes) behind))

-- a stored field leaves the length as it is
stored_long : (bytes new : List ℕ) (at : ℕ) → at + length new ≤ length bytes → length (with_bytes_at bytes at new) ≡ length bytes
stored_long bytes new at h =
    let near : at ≤ length bytes = omega arith in
    omega (arith, h, length-append (take at bytes) (new ++ drop (at + length new) bytes), length-append new (drop (at + length new) bytes), length-take-le at bytes near, length-drop (at + length new) bytes)

-- the field of a relocation whose member starts at a place, by the formulas and by `link`
same_value : (base start : ℕ) (others : List ℕ → ℕ) (address : ℕ) (there : ℕ) (r : RelocEntry) → address ≡ there →
    relocation_field (type_of r.kind) (pos there) r.addend (pos (base + (start + r.offset))) ≡ field_of r.kind (target_of address r) (field_distance (base + start) address r)
same_value base start others address there r e =
    let place : base + (start + r.offset) ≡ base + start + r.offset = omega arith in
    ap (λ (s : ℕ). relocation_field (type_of r.kind) (pos s) r.addend (pos (base + (start + r.offset)))) (sym e)
    ∙ ap (λ (p : ℕ). relocation_field (type_of r.kind) (pos address) r.addend (pos p)) place
    ∙ same_field r.kind (pos address) r.addend (pos (base + start + r.offset))

-- a relocation's field fits where its bytes lie in the code
field_inside : (r : RelocEntry) (bytes new : List ℕ) → LiesIn (length bytes) r → length new ≡ field_length r.kind → r.offset + length new ≤ length bytes
field_inside r bytes new h e = omega (arith, h, e)

-- relocations of a part that stands at a place in bytes are applied to the part
applied_inside : (named : Naming) (base start : ℕ) (others : List ℕ → ℕ) (table : Symbols) (ss : List Symbol) (rs : List RelocEntry) (before bytes behind : List ℕ) →
    length before ≡ start → All (HasAddress named base others table ss) rs → All (LiesIn (length bytes)) rs →
    relocated_bytes base others (map (relocation_of named ss) (map (member_relocation start) rs)) (before ++ (bytes ++ behind)) ≡ before ++ (with_fields_filled (base + start) table rs bytes ++ behind)
applied_inside named base start others table ss [] before bytes behind e h k = refl
applied_inside named base start others table ss (r ∷ rs) before bytes behind e h k =
    let there : ℕ = symbol_address base others (named_symbol ss (named r.name)) in
    let here : ℕ = address_or_zero (address_of table r.name) in
    let new : List ℕ = field_of r.kind (target_of here r) (field_distance (base + start) here r) in
    let left : List Relocation = map (relocation_of named ss) (map (member_relocation start) rs) in
    let all : List ℕ = before ++ (bytes ++ behind) in
    let known : here ≡ there = All-head (HasAddress named base others table ss) r rs h in
    let value : relocation_field (type_of r.kind) (pos there) r.addend (pos (base + (start + r.offset))) ≡ new = same_value base start others here there r known in
    let inside : r.offset + length new ≤ length bytes = field_inside r bytes new (All-head (LiesIn (length bytes)) r rs k) (length-field r.kind (target_of here r) (field_distance (base + start) here r)) in
    let one : with_bytes_at all (start + r.offset) (relocation_field (type_of r.kind) (pos there) r.addend (pos (base + (start + r.offset)))) ≡ before ++ (with_bytes_at bytes r.offset new ++ behind) =
    ap (λ (b : List ℕ). with_bytes_at all (start + r.offset) b) value
    ∙ ap (λ (n : ℕ). with_bytes_at all (n + r.offset) new) (sym e)
    ∙ stored_inside before bytes behind new r.offset inside in
    let lies : All (LiesIn (length (with_bytes_at bytes r.offset new))) rs =
    subst (λ (n : ℕ). All (LiesIn n) rs) (sym (stored_long bytes new r.offset inside)) (All-tail (LiesIn (length bytes)) r rs k) in
    ap (λ (b : List ℕ). relocated_bytes base others left b) one
    ∙ applied_inside named base start others table ss rs before (with_bytes_at bytes r.offset new) behind e (All-tail (HasAddress named base others table ss) r rs h) lies

filled_long : (base : ℕ) (table : Symbols) (rs : List RelocEntry) (bytes : List ℕ) → All (LiesIn (length bytes)) rs → length (with_fields_filled base table rs bytes) ≡ length bytes
filled_long base table [] bytes k = refl
filled_long base table (r ∷ rs) bytes k =
    let here : ℕ = address_or_zero (address_of table r.name) in
    let new : List ℕ = field_of r.kind (target_of here r) (field_distance base here r) in
    let inside : r.offset + length new ≤ length bytes = field_inside r bytes new (All-head (LiesIn (length bytes)) r rs k) (length-field r.kind (target_of here r) (field_distance base here r)) in
    let same : length (with_bytes_at bytes r.offset new) ≡ length bytes = stored_long bytes new r.offset inside in
    filled_long base table rs (with_bytes_at bytes r.offset new) (subst (λ (n : ℕ). All (LiesIn n) rs) (sym same) (All-tail (LiesIn (length bytes)) r rs k)) ∙ same

-- relocations behind others are applied behind them
applied_append : (base : ℕ) (others : List ℕ → ℕ) (xs ys : List Relocation) (bytes : List ℕ) → relocated_bytes base others (xs ++ ys) bytes ≡ relocated_bytes base others ys (relocated_bytes base others xs bytes)
applied_append base others [] ys bytes = refl
applied_append base others (x ∷ xs) ys bytes = applied_append base others xs ys (with_bytes_at bytes x.r_offset (relocation_field x.r_type (pos (symbol_address base others x.r_sym)) x.r_addend (pos (base + x.r_offset))))

-- what holds of all of two lists holds of each
all_front : {X : Type 0} (P : X → Type 0) (xs ys : List X) → All P (xs ++ ys) → All P xs
all_front P [] ys h = All-nil P
all_front P (x ∷ xs) ys h = All-cons P x xs (All-head P x (xs ++ ys) h) (all_front P xs ys (All-tail P x (xs ++ ys) h))

all_back : {X : Type 0} (P : X → Type 0) (xs ys : List X) → All P (xs ++ ys) → All P ys
all_back P [] ys h = h
all_back P (x ∷ xs) ys h = all_back P xs ys (All-tail P x (xs ++ ys) h)

unmoved : (named : Naming) (ss : List Symbol) (start : ℕ) (rs : List RelocEntry) → All (IsThere named ss) (map (member_relocation start) rs) → All (IsThere named ss) rs
unmoved named ss start [] h = All-nil (IsThere named ss)
unmoved named ss start (r ∷ rs) h =
    All-cons (IsThere named ss) r rs (All-head (IsThere named ss) (member_relocation start r) (map (member_relocation start) rs) h) (unmoved named ss start rs (All-tail (IsThere named ss) (member_relocation start r) (map (member_relocation start) rs) h))

-- a member starts behind the one before it
starts_behind : (end : Option ℕ) (alignment : ℕ) → end_or_zero end ≤ start_behind end alignment
starts_behind None alignment = omega arith
starts_behind (Some end) alignment = let one : 1 ≤ max alignment 1 = omega arith in omega (arith, round_up-ge (end + 2) (max alignment 1) one)

-- the parts of a whole
apart : (before gap bytes rest : List ℕ) → before ++ ((gap ++ bytes) ++ rest) ≡ (before ++ gap) ++ (bytes ++ rest)
apart before gap bytes rest = ap (λ (b : List ℕ). before ++ b) (append_assoc gap bytes rest) ∙ sym (append_assoc before gap (bytes ++ rest))

together : (before gap bytes rest : List ℕ) → (before ++ gap) ++ (bytes ++ rest) ≡ (before ++ (gap ++ bytes)) ++ rest
together before gap bytes rest = sym (apart before gap bytes rest) ∙ sym (append_assoc before (gap ++ bytes) rest)

rejoined : (a b : ℕ) → a ≤ b → a + (b - a) ≡ b
rejoined a b h = omega arith

gap_long : (end : Option ℕ) (alignment : ℕ) (before : List ℕ) → length before ≡ end_or_zero end → length (before ++ zeros (start_behind end alignment - end_or_zero end)) ≡ start_behind end alignment
gap_long end alignment before e =
    length-append before (zeros (start_behind end alignment - end_or_zero end))
    ∙ ap (λ (n : ℕ). length before + n) (length-replicate {A = ℕ} (start_behind end alignment - end_or_zero end) 0)
    ∙ ap (λ (n : ℕ). n + (start_behind end alignment - end_or_zero end)) e
    ∙ rejoined (end_or_zero end) (start_behind end alignment) (starts_behind end alignment)

pub joined : (named : Naming) (base : ℕ) (others : List ℕ → ℕ) (fs : List Function) (all : List RelocEntry) (end : Option ℕ) (before : List ℕ) (tables : List Symbols) (ms : List ObjectMember) →
    AreLinkable named (name_address base others fs) base end tables ms → All (IsThere named (global_symbols named fs all)) (relocs_behind end ms) → length before ≡ end_or_zero end →
    relocated_bytes base others (map (relocation_of named (global_symbols named fs all)) (relocs_behind end ms)) (before ++ text_behind end ms) ≡ before ++ images_behind base end tables ms
joined named base others fs all end before [] [] h found e = refl
joined named base others fs all end before [] (m ∷ ms) h found e = absurd h
joined named base others fs all end before (table ∷ tables) [] h found e = absurd h
joined named base others fs all end before (table ∷ tables) (m ∷ ms) h found e =
    let ss : List Symbol = global_symbols named fs all in
    let start : ℕ = start_of end m in
    let next : Option ℕ = Some (end_of end m) in
    let gap : List ℕ = zeros (start - end_or_zero end) in
    let rs : List RelocEntry = m.code.relocs.items in
    let bytes : List ℕ = m.code.bytes.items in
    let later : List RelocEntry = relocs_behind next ms in
    let rest : List ℕ = text_behind next ms in
    let image : List ℕ = with_fields_filled (base + start) table rs bytes in
    let one : IsLinkable named (name_address base others fs) (base + start) table m = h.0 in
    let front : List Relocation = map (relocation_of named ss) (map (member_relocation start) rs) in
    let known : All (HasAddress named base others table ss) rs =
    resolved named base others table fs all rs one.addresses (unmoved named ss start rs (all_front (IsThere named ss) (map (member_relocation start) rs) later found)) in
    let at : length (before ++ gap) ≡ start = gap_long end m.code.alignment before e in
    let size : length image ≡ length bytes = filled_long (base + start) table rs bytes one.fields in
    let ends : length (before ++ (gap ++ image)) ≡ end_of end m =
    ap length (sym (append_assoc before gap image)) ∙ length-append (before ++ gap) image ∙ ap (λ (n : ℕ). n + length image) at ∙ ap (λ (n : ℕ). start + n) size in
    ap (λ (xs : List Relocation). relocated_bytes base others xs (before ++ ((gap ++ bytes) ++ rest))) (map-append (relocation_of named ss) (map (member_relocation start) rs) later)
    ∙ applied_append base others front (map (relocation_of named ss) later) (before ++ ((gap ++ bytes) ++ rest))
    ∙ ap (λ (b : List ℕ). relocated_bytes base others (map (relocation_of named ss) later) (relocated_bytes base others front b)) (apart before gap bytes rest)
    ∙ ap (λ (b : List ℕ). relocated_bytes base others (map (relocation_of named ss) later) b) (applied_inside named base start others table ss rs (before ++ gap) bytes rest at known one.fields)
    ∙ ap (λ (b : List ℕ). relocated_bytes base others (map (relocation_of named ss) later) b) (together before gap image rest)
    ∙ joined named base others fs all next (before ++ (gap ++ image)) tables ms h.1 (all_back (IsThere named ss) (map (member_relocation start) rs) later found) ends
    ∙ append_assoc before (gap ++ image) (images_behind base next tables ms)

-- each value fits its field
moved_fit : (named : Naming) (base start : ℕ) (others : List ℕ → ℕ) (table : Symbols) (ss : List Symbol) (rs : List RelocEntry) → All (HasAddress named base others table ss) rs → relocs_cause (base + start) table rs ≡ None →
    All (FitsAt base others) (map (relocation_of named ss) (map (member_relocation start) rs))
moved_fit named base start others table ss [] h k = All-nil (FitsAt base others)
moved_fit named base start others table ss (r ∷ rs) h k =
    let both = no_first (reloc_cause (base + start) table r) (relocs_cause (base + start) table rs) k in
    let place : base + start + r.offset ≡ base + (start + r.offset) = omega arith in
    let here : fits_field (type_of r.kind) (pos (address_or_zero (address_of table r.name))) r.addend (pos (base + start + r.offset)) ≡ true = symbol_test (base + start) r (address_of table r.name) both.0 in
    let there : fits_at base others (relocation_of named ss (member_relocation start r)) ≡ true =
    ap (λ (symbol : ℕ). fits_field (type_of r.kind) (pos symbol) r.addend (pos (base + (start + r.offset)))) (sym (All-head (HasAddress named base others table ss) r rs h))
    ∙ ap (λ (p : ℕ). fits_field (type_of r.kind) (pos (address_or_zero (address_of table r.name))) r.addend (pos p)) (sym place)
    ∙ here in
    All-cons (FitsAt base others) (relocation_of named ss (member_relocation start r)) (map (relocation_of named ss) (map (member_relocation start) rs)) there
    (moved_fit named base start others table ss rs (All-tail (HasAddress named base others table ss) r rs h) both.1)

pub joined_fit : (named : Naming) (base : ℕ) (others : List ℕ → ℕ) (fs : List Function) (all : List RelocEntry) (end : Option ℕ) (tables : List Symbols) (ms : List ObjectMember) →
    AreLinkable named (name_address base others fs) base end tables ms → All (IsThere named (global_symbols named fs all)) (relocs_behind end ms) →
    All (FitsAt base others) (map (relocation_of named (global_symbols named fs all)) (relocs_behind end ms))
joined_fit named base others fs all end [] [] h found = All-nil (FitsAt base others)
joined_fit named base others fs all end [] (m ∷ ms) h found = absurd h
joined_fit named base others fs all end (table ∷ tables) [] h found = absurd h
joined_fit named base others fs all end (table ∷ tables) (m ∷ ms) h found =
    let ss : List Symbol = global_symbols named fs all in
    let start : ℕ = start_of end m in
    let next : Option ℕ = Some (end_of end m) in
    let rs : List RelocEntry = m.code.relocs.items in
    let later : List RelocEntry = relocs_behind next ms in
    let one : IsLinkable named (name_address base others fs) (base + start) table m = h.0 in
    let known : All (HasAddress named base others table ss) rs =
    resolved named base others table fs all rs one.addresses (unmoved named ss start rs (all_front (IsThere named ss) (map (member_relocation start) rs) later found)) in
    let none : relocs_cause (base + start) table rs ≡ None = no_link_cause (base_cause m.code.alignment (length m.code.bytes.items) (base + start)) (relocs_cause (base + start) table rs) one.no_cause in
    subst (λ (xs : List Relocation). All (FitsAt base others) xs) (sym (map-append (relocation_of named ss) (map (member_relocation start) rs) later))
    (All-append (FitsAt base others) (map (relocation_of named ss) (map (member_relocation start) rs)) (map (relocation_of named ss) later) (moved_fit named base start others table ss rs known none)
    (joined_fit named base others fs all next tables ms h.1 (all_back (IsThere named ss) (map (member_relocation start) rs) later found)))

-- what is read as the object of members is linked as they are
pub members_linked : (names : List GivenName) (ms : List ObjectMember) (file : List ℕ) → IsObjectOfMembers names ms file → IsLinkedAsMembers names ms file
members_linked names ms file object = λ base others tables linkable.
    let named : Naming = name_in names in
    let fs : List Function = functions_behind None ms in
    let rs : List RelocEntry = relocs_behind None ms in
    let found : All (IsThere named (global_symbols named fs rs)) rs = used_are_there named (map function_symbol fs) rs in (
      subst (λ (all : List Relocation). All (FitsAt base others) all) (sym object.relocations) (joined_fit named base others fs rs None tables ms linkable found),
      ap (λ (all : List Relocation). relocated_bytes base others all (named_section (sections file) (codes ".text")).content) object.relocations
          ∙ ap (λ (s : Section). relocated_bytes base others (map (relocation_of named (global_symbols named fs rs)) rs) s.content) object.text
          ∙ joined named base others fs rs None [] tables ms linkable found refl,
    )
