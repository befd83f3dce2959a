-- How tables of metadata grow, a function at a time.
use Rattle.std.proofs.Common.{◌≡◌, ℕ, ◌+◌, ◌^◌, ◌<◌, Bool, true, false, ◌||◌, List, [], ◌∷◌, ◌++◌, length, map, sym, ap, subst, ◌∙◌, arith, append_assoc, append-nil, length-append, All}
use Rattle.std.specs.Prelude.{Vec}
use Rattle.std.specs.declared.alloc.Global.{Global}
use Rattle.std.specs.Int.{w64, to_be_bytes}
use Rattle.std.proofs.lemmas.List.{map_push}
use Rattle.std.proofs.lemmas.List.Concat.{flat_map-append}
use Rattle.std.proofs.lemmas.List.Elements.{All-append}
use Rattle.s390x_buffer.specs.declared.entries.MachBufferFinalized.{MachBufferFinalized}
use Rattle.s390x_elf.specs.declared.metadata.Table.{Table}
use Rattle.s390x_elf.specs.declared.metadata.TableKind.{TableKind}
use Rattle.s390x_elf.specs.declared.file.SectionParts.{SectionParts}
use Rattle.s390x_elf.specs.File.{Section}
use Rattle.s390x_elf.specs.Metadata.{part, parts}
use Rattle.s390x_elf.specs.Writing.{section_of}
use Rattle.s390x_elf.specs.TableBytes.{IsTable, IsWide, part_entry, part_entries, wides}

-- the bytes of a vector are fewer than 2 ^ 64
pub vec_small : (v : Vec ℕ Global) → length v.items < 2 ^ 64
vec_small v = omega (arith, v.ok.0, v.ok.1, v.small)

-- one more part behind others
pub content_on : (kind : TableKind) (bytes bytes' : List ℕ) (code : MachBufferFinalized) (left before : List MachBufferFinalized) (all : List ℕ) → bytes ++ wides (parts kind before) ≡ all → before ≡ code ∷ left →
    bytes' ≡ bytes ++ wides (part kind code) → bytes' ++ wides (parts kind left) ≡ all
content_on kind bytes bytes' code left before all h k e =
    ap (λ (b : List ℕ). b ++ wides (parts kind left)) e
    ∙ append_assoc bytes (wides (part kind code)) (wides (parts kind left))
    ∙ ap (λ (b : List ℕ). bytes ++ b) (sym (flat_map-append (to_be_bytes w64) (part kind code) (parts kind left)))
    ∙ ap (λ (cs : List MachBufferFinalized). bytes ++ wides (parts kind cs)) (sym k)
    ∙ h

pub relocations_on : (kind : TableKind) (relas relas' bytes bytes' : List ℕ) (n : ℕ) (code : MachBufferFinalized) (left before : List MachBufferFinalized) (all : List ℕ) → relas ++ part_entries kind (length bytes) n before ≡ all →
    before ≡ code ∷ left → relas' ≡ relas ++ part_entry (length bytes) n → bytes' ≡ bytes ++ wides (part kind code) → relas' ++ part_entries kind (length bytes') (n + 1) left ≡ all
relocations_on kind relas relas' bytes bytes' n code left before all h k r e =
    let behind : length bytes' ≡ length bytes + length (wides (part kind code)) = ap length e ∙ length-append bytes (wides (part kind code)) in
    ap (λ (x : List ℕ). x ++ part_entries kind (length bytes') (n + 1) left) r
    ∙ ap (λ (m : ℕ). (relas ++ part_entry (length bytes) n) ++ part_entries kind m (n + 1) left) behind
    ∙ append_assoc relas (part_entry (length bytes) n) (part_entries kind (length bytes + length (wides (part kind code))) (n + 1) left)
    ∙ ap (λ (cs : List MachBufferFinalized). relas ++ part_entries kind (length bytes) n cs) (sym k)
    ∙ h

pub fits_on : (kind : TableKind) (before : List MachBufferFinalized) (code : MachBufferFinalized) (all : List MachBufferFinalized) → all ≡ before ++ code ∷ [] → All IsWide (parts kind before) → All IsWide (part kind code) →
    All IsWide (parts kind all)
fits_on kind before code all e h k =
    let split : parts kind (before ++ code ∷ []) ≡ parts kind before ++ part kind code =
    flat_map-append (part kind) before (code ∷ []) ∙ ap (λ (ns : List ℕ). parts kind before ++ ns) (append-nil (part kind code)) in
    subst (λ (cs : List MachBufferFinalized). All IsWide (parts kind cs)) (sym e) (subst (λ (ns : List ℕ). All IsWide ns) (sym split) (All-append IsWide (parts kind before) (part kind code) h k))

-- the whole table
pub table_whole : (kind : TableKind) (all left : List MachBufferFinalized) (table : Table) (n : ℕ) → left ≡ [] → table.content.items ++ wides (parts kind left) ≡ wides (parts kind all) →
    table.relocations.items ++ part_entries kind (length table.content.items) n left ≡ part_entries kind 0 1 all → All IsWide (parts kind all) → IsTable kind all table
table_whole kind all left table n none h r fits =
    let content : table.content.items ≡ wides (parts kind all) =
    sym (append-nil table.content.items) ∙ ap (λ (cs : List MachBufferFinalized). table.content.items ++ wides (parts kind cs)) (sym none) ∙ h in
    record {
      content = content;
      relocations = sym (append-nil table.relocations.items) ∙ ap (λ (cs : List MachBufferFinalized). table.relocations.items ++ part_entries kind (length table.content.items) n cs) (sym none) ∙ r;
      fits = record { numbers = fits; size = subst (λ (b : List ℕ). length b < 2 ^ 64) content (vec_small table.content) };
    }

-- whether one of what is left passes
pub any_on : (b r all : Bool) → (b || r) ≡ all → b ≡ false → r ≡ all
any_on false r all h e = h
any_on true r all h e = cc

pub any_here : (b r all : Bool) → (b || r) ≡ all → b ≡ true → all ≡ true
any_here true r all h e = sym h
any_here false r all h e = cc

-- two sections behind others
pub two_more : (p0 p1 p2 : List SectionParts) (a b : SectionParts) (x y : Section) → p1 ≡ p0 ++ a ∷ [] → p2 ≡ p1 ++ b ∷ [] → section_of a ≡ x → section_of b ≡ y → map section_of p2 ≡ map section_of p0 ++ (x ∷ y ∷ [])
two_more p0 p1 p2 a b x y first second ea eb =
    ap (map section_of) second
    ∙ map_push section_of p1 b
    ∙ ap (λ (ps : List SectionParts). map section_of ps ++ section_of b ∷ []) first
    ∙ ap (λ (ss : List Section). ss ++ section_of b ∷ []) (map_push section_of p0 a)
    ∙ append_assoc (map section_of p0) (section_of a ∷ []) (section_of b ∷ [])
    ∙ ap (λ (s : Section). map section_of p0 ++ (s ∷ section_of b ∷ [])) ea
    ∙ ap (λ (s : Section). map section_of p0 ++ (x ∷ s ∷ [])) eb
