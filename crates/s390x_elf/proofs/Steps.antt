-- How the bytes of a file grow, a section at a time.
use Rattle.std.proofs.Common.{◌≡◌, ℕ, ◌+◌, ◌-◌, ◌<◌, List, [], ◌∷◌, ◌++◌, length, drop, map, get_or, refl, sym, ap, subst, ◌∙◌, arith, append_assoc, append-nil, length-append}
use Rattle.std.specs.List.{flat_map}
use Rattle.std.proofs.lemmas.List.{drop_more, drop_all}
use Rattle.std.proofs.lemmas.List.Concat.{flat_map-append}
use Rattle.s390x_elf.specs.File.{Section, null_section}
use Rattle.s390x_elf.specs.Symbols.{Symbol}
use Rattle.s390x_elf.specs.Object.{string_table}
use Rattle.s390x_elf.specs.Tables.{symbol_entry, symbol_entries}
use Rattle.s390x_elf.specs.Writing.{file_header_bytes, section_header_bytes, header_table, names_of, contents_of, names_name, string_section, names_section, headers_end, file_bytes}

-- one more of a list that is left
pub left_one : {X Y : Type 0} (f : X → Y) (xs : List X) (i : ℕ) (x : X) → i < length xs → x ≡ get_or xs i x → map f (drop i xs) ≡ f x ∷ map f (drop (i + 1) xs)
left_one f xs i x h e = ap (map f) (drop_more xs i x h) ∙ ap (λ y. f y ∷ map f (drop (i + 1) xs)) (sym e)

pub left_none : {X Y : Type 0} (f : X → Y) (xs : List X) (i : ℕ) → length xs ≡ i → map f (drop i xs) ≡ []
left_none f xs i h = ap (map f) (drop_all i xs (omega arith))

-- what stands in the parts of a file, with the sections that are left and the last one, is what all lead to
pub record Leads (start : ℕ) (headers names contents : List ℕ) (left : List Section) (last : Section) (all : List Section) : Type 0 where
  pub headers_lead : headers ++ header_table (length names) (start + length contents) (left ++ last ∷ []) ≡ section_header_bytes 0 0 null_section ++ header_table 1 start (all ++ last ∷ [])
  pub names_lead : names ++ names_of left ≡ 0 ∷ names_of all
  pub contents_lead : contents ++ contents_of left ≡ contents_of all

pub leads_first : (start : ℕ) (all : List Section) (last : Section) → Leads start (section_header_bytes 0 0 null_section) (0 ∷ []) [] all last all
leads_first start all last =
    let e : start + 0 ≡ start = omega arith in
    record {
      headers_lead = ap (λ (n : ℕ). section_header_bytes 0 0 null_section ++ header_table 1 n (all ++ last ∷ [])) e;
      names_lead = refl;
      contents_lead = refl;
    }

pub leads_start : (start : ℕ) (headers names contents : List ℕ) (all : List Section) (last : Section) → headers ≡ section_header_bytes 0 0 null_section → names ≡ 0 ∷ [] → contents ≡ [] →
    Leads start headers names contents all last all
leads_start start headers names contents all last h n c =
    subst (λ (b : List ℕ). Leads start b names contents all last all) (sym h)
    (subst (λ (b : List ℕ). Leads start (section_header_bytes 0 0 null_section) b contents all last all) (sym n)
    (subst (λ (b : List ℕ). Leads start (section_header_bytes 0 0 null_section) (0 ∷ []) b all last all) (sym c) (leads_first start all last)))

pub leads_on : (start : ℕ) (headers names contents headers' names' contents' : List ℕ) (s : Section) (left before : List Section) (last : Section) (all : List Section) →
    Leads start headers names contents before last all → before ≡ s ∷ left → headers' ≡ headers ++ section_header_bytes (length names) (start + length contents) s → names' ≡ names ++ (s.name ++ 0 ∷ []) → contents' ≡ contents ++ s.content →
    Leads start headers' names' contents' left last all
leads_on start headers names contents headers' names' contents' s left before last all leads_before e h n c =
    let leads : Leads start headers names contents (s ∷ left) last all = subst (λ (l : List Section). Leads start headers names contents l last all) e leads_before in
    let header : List ℕ = section_header_bytes (length names) (start + length contents) s in
    let name_at : length names' ≡ length names + (length s.name + 1) = ap length n ∙ omega (arith, length-append names (s.name ++ 0 ∷ []), length-append s.name (0 ∷ [])) in
    let content_at : start + length contents' ≡ (start + length contents) + length s.content = ap (λ (b : List ℕ). start + length b) c ∙ omega (arith, length-append contents s.content) in
    record {
      headers_lead =
          ap (λ (b : List ℕ). b ++ header_table (length names') (start + length contents') (left ++ last ∷ [])) h
          ∙ ap (λ (k : ℕ). (headers ++ header) ++ header_table k (start + length contents') (left ++ last ∷ [])) name_at
          ∙ ap (λ (k : ℕ). (headers ++ header) ++ header_table (length names + (length s.name + 1)) k (left ++ last ∷ [])) content_at
          ∙ append_assoc headers header (header_table (length names + (length s.name + 1)) ((start + length contents) + length s.content) (left ++ last ∷ []))
          ∙ leads.headers_lead;
      names_lead = ap (λ (b : List ℕ). b ++ names_of left) n ∙ append_assoc names (s.name ++ 0 ∷ []) (names_of left) ∙ leads.names_lead;
      contents_lead = ap (λ (b : List ℕ). b ++ contents_of left) c ∙ append_assoc contents s.content (contents_of left) ∙ leads.contents_lead;
    }

-- the whole file
whole : (all before : List Section) (headers names contents headers' contents' file : List ℕ) →
    Leads (headers_end (length all)) headers names contents before (names_section all) all → before ≡ [] →
    headers' ≡ headers ++ section_header_bytes (length names) (headers_end (length all) + length contents) (string_section names_name (names ++ (names_name ++ 0 ∷ []))) →
    contents' ≡ contents ++ (names ++ (names_name ++ 0 ∷ [])) → file ≡ (file_header_bytes (length all + 2) (length all + 1) ++ headers') ++ contents' → file ≡ file_bytes all
whole all before headers names contents headers' contents' file leads_before e h c f =
    let leads : Leads (headers_end (length all)) headers names contents [] (names_section all) all =
    subst (λ (l : List Section). Leads (headers_end (length all)) headers names contents l (names_section all) all) e leads_before in
    let start : ℕ = headers_end (length all) in
    let last : Section = names_section all in
    let names_are : names ≡ 0 ∷ names_of all = sym (append-nil names) ∙ leads.names_lead in
    let contents_are : contents ≡ contents_of all = sym (append-nil contents) ∙ leads.contents_lead in
    let table : List ℕ = header_table 1 start (all ++ last ∷ []) in
    let null : List ℕ = section_header_bytes 0 0 null_section in
    let front : List ℕ = file_header_bytes (length all + 2) (length all + 1) in
    let headers_are : headers' ≡ null ++ table =
    h ∙ ap (λ (b : List ℕ). headers ++ section_header_bytes (length names) (start + length contents) (string_section names_name (b ++ (names_name ++ 0 ∷ [])))) names_are
    ∙ leads.headers_lead in
    let all_contents : contents' ≡ contents_of (all ++ last ∷ []) =
    c ∙ ap (λ (b : List ℕ). contents ++ (b ++ (names_name ++ 0 ∷ []))) names_are
    ∙ ap (λ (b : List ℕ). b ++ last.content) contents_are
    ∙ ap (λ (b : List ℕ). contents_of all ++ b) (sym (append-nil last.content))
    ∙ sym (flat_map-append (λ (s : Section). s.content) all (last ∷ [])) in
    f ∙ ap (λ (b : List ℕ). (front ++ b) ++ contents') headers_are
    ∙ ap (λ (b : List ℕ). (front ++ (null ++ table)) ++ b) all_contents
    ∙ append_assoc front (null ++ table) (contents_of (all ++ last ∷ []))
    ∙ ap (λ (b : List ℕ). front ++ b) (append_assoc null table (contents_of (all ++ last ∷ [])))

-- the same by the count of sections
pub whole_file : (count : ℕ) (all before : List Section) (headers names contents headers' contents' file : List ℕ) → count ≡ length all →
    Leads (headers_end count) headers names contents before (names_section all) all → before ≡ [] →
    headers' ≡ headers ++ section_header_bytes (length names) (headers_end count + length contents) (string_section names_name (names ++ (names_name ++ 0 ∷ []))) →
    contents' ≡ contents ++ (names ++ (names_name ++ 0 ∷ [])) → file ≡ (file_header_bytes (count + 2) (count + 2 - 1) ++ headers') ++ contents' → file ≡ file_bytes all
whole_file count all before headers names contents headers' contents' file same leads e h c f =
    let less : count + 2 - 1 ≡ count + 1 = omega arith in
    whole all before headers names contents headers' contents' file
    (subst (λ (n : ℕ). Leads (headers_end n) headers names contents before (names_section all) all) same leads) e
    (h ∙ ap (λ (n : ℕ). headers ++ section_header_bytes (length names) (headers_end n + length contents) (string_section names_name (names ++ (names_name ++ 0 ∷ [])))) same)
    c
    (f ∙ ap (λ (n : ℕ). (file_header_bytes (count + 2) n ++ headers') ++ contents') less ∙ ap (λ (n : ℕ). (file_header_bytes (n + 2) (n + 1) ++ headers') ++ contents') same)

-- one more piece behind others
pub flat_on : {X Y : Type 0} (f : X → List Y) (bytes bytes' : List Y) (x : X) (left : List X) (all : List Y) → bytes ++ flat_map f (x ∷ left) ≡ all → bytes' ≡ bytes ++ f x → bytes' ++ flat_map f left ≡ all
flat_on {X} {Y} f bytes bytes' x left all h e = ap (λ (b : List Y). b ++ flat_map f left) e ∙ append_assoc bytes (f x) (flat_map f left) ∙ h

-- one more symbol behind others
pub entry_on : (bytes bytes' : List ℕ) (n n' : ℕ) (s : Symbol) (left before : List Symbol) (all : List ℕ) → bytes ++ symbol_entries n before ≡ all → before ≡ s ∷ left →
    bytes' ≡ bytes ++ symbol_entry n s → n' ≡ n + (length s.name + 1) → bytes' ++ symbol_entries n' left ≡ all
entry_on bytes bytes' n n' s left before all h e b k =
    ap (λ (x : List ℕ). x ++ symbol_entries n' left) b
    ∙ ap (λ (m : ℕ). (bytes ++ symbol_entry n s) ++ symbol_entries m left) k
    ∙ append_assoc bytes (symbol_entry n s) (symbol_entries (n + (length s.name + 1)) left)
    ∙ ap (λ (ss : List Symbol). bytes ++ symbol_entries n ss) (sym e)
    ∙ h

pub name_on : (n n' total : ℕ) (s : Symbol) (left before : List Symbol) → n + length (string_table before) ≡ total → before ≡ s ∷ left → n' ≡ n + (length s.name + 1) → n' + length (string_table left) ≡ total
name_on n n' total s left before h e k =
    let front : n + length (string_table (s ∷ left)) ≡ total = ap (λ (ss : List Symbol). n + length (string_table ss)) (sym e) ∙ h in
    omega (arith, length-append (s.name ++ 0 ∷ []) (string_table left), length-append s.name (0 ∷ []))

-- five sections
pub five_sections : (a b c d e a' b' c' d' e' : Section) → a ≡ a' → b ≡ b' → c ≡ c' → d ≡ d' → e ≡ e' → a ∷ b ∷ c ∷ d ∷ e ∷ [] ≡ a' ∷ b' ∷ c' ∷ d' ∷ e' ∷ []
five_sections a b c d e a' b' c' d' e' h1 h2 h3 h4 h5 = λ i. h1 i ∷ h2 i ∷ h3 i ∷ h4 i ∷ h5 i ∷ []

-- five that were put behind one another
pub five : {X : Type 0} (p0 p1 p2 p3 p4 p5 : List X) (a b c d e : X) → p0 ≡ [] → p1 ≡ p0 ++ a ∷ [] → p2 ≡ p1 ++ b ∷ [] → p3 ≡ p2 ++ c ∷ [] → p4 ≡ p3 ++ d ∷ [] → p5 ≡ p4 ++ e ∷ [] →
    p5 ≡ a ∷ b ∷ c ∷ d ∷ e ∷ []
five {X} p0 p1 p2 p3 p4 p5 a b c d e h0 h1 h2 h3 h4 h5 =
    let e1 : p1 ≡ a ∷ [] = h1 ∙ ap (λ (xs : List X). xs ++ a ∷ []) h0 in
    let e2 : p2 ≡ a ∷ b ∷ [] = h2 ∙ ap (λ (xs : List X). xs ++ b ∷ []) e1 in
    let e3 : p3 ≡ a ∷ b ∷ c ∷ [] = h3 ∙ ap (λ (xs : List X). xs ++ c ∷ []) e2 in
    let e4 : p4 ≡ a ∷ b ∷ c ∷ d ∷ [] = h4 ∙ ap (λ (xs : List X). xs ++ d ∷ []) e3 in
    h5 ∙ ap (λ (xs : List X). xs ++ e ∷ []) e4
