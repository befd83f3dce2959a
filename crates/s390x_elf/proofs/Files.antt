-- A file that was written from sections is read as these sections.
use Rattle.std.proofs.Common.{◌≡◌, ℕ, suc, ◌+◌, ◌*◌, ◌^◌, ◌<◌, List, [], ◌∷◌, ◌++◌, length, take, drop, map, get_or, refl, sym, ap, ◌∙◌, arith, append_assoc, append-nil, length-append, All}
use Rattle.std.proofs.lemmas.List.Elements.{All-head, All-tail, All-append, All-cons, All-nil}
use Rattle.std.proofs.lemmas.List.Concat.{flat_map-append}
use Rattle.std.proofs.lemmas.Nat.{from_be_bytes-to_be_bytes_2, from_be_bytes-to_be_bytes_4, from_be_bytes-to_be_bytes_8}
use Rattle.s390x_elf.specs.Reading.{doubleword_at, text_at, pieces}
use Rattle.s390x_elf.specs.File.{file_header, Section, section, content_of, section_headers, sections, null_section}
use Rattle.s390x_elf.specs.Writing.{file_header_bytes, section_header_bytes, header_table, names_of, contents_of, names_section, headers_end, file_bytes, FieldsFit}
use Rattle.s390x_elf.proofs.Parts.{text_read, content_read}

-- a section is read from its header, where its name and its content stand as that tells
section_read : (file names : List ℕ) (name_at content_at : ℕ) (s : Section) → FieldsFit s → name_at < 2 ^ 32 → content_at < 2 ^ 64 → length s.content < 2 ^ 64 →
    text_at names name_at ≡ s.name → take (length s.content) (drop content_at file) ≡ s.content → section file names (section_header_bytes name_at content_at s) ≡ s
section_read file names name_at content_at s fit name_small content_small size_small name content = λ i. record {
  name = (ap (text_at names) (from_be_bytes-to_be_bytes_4 name_at name_small) ∙ name) i;
  sh_type = from_be_bytes-to_be_bytes_4 s.sh_type fit.sh_type i;
  sh_flags = from_be_bytes-to_be_bytes_8 s.sh_flags fit.sh_flags i;
  sh_addr = from_be_bytes-to_be_bytes_8 s.sh_addr fit.sh_addr i;
  sh_link = from_be_bytes-to_be_bytes_4 s.sh_link fit.sh_link i;
  sh_info = from_be_bytes-to_be_bytes_4 s.sh_info fit.sh_info i;
  sh_addralign = from_be_bytes-to_be_bytes_8 s.sh_addralign fit.sh_addralign i;
  sh_entsize = from_be_bytes-to_be_bytes_8 s.sh_entsize fit.sh_entsize i;
  content = (ap (λ (n : ℕ). take n (drop (doubleword_at (section_header_bytes name_at content_at s) 24) file)) (from_be_bytes-to_be_bytes_8 (length s.content) size_small)
      ∙ ap (λ (n : ℕ). take (length s.content) (drop n file)) (from_be_bytes-to_be_bytes_8 content_at content_small)
      ∙ content) i;
}

-- the headers of sections one by one
header_list : (name_at content_at : ℕ) → List Section → List (List ℕ)
header_list name_at content_at [] = []
header_list name_at content_at (s ∷ ss) = section_header_bytes name_at content_at s ∷ header_list (name_at + (length s.name + 1)) (content_at + length s.content) ss

header_pieces : (name_at content_at : ℕ) (ss : List Section) (rest : List ℕ) → pieces 64 (length ss) (header_table name_at content_at ss ++ rest) ≡ header_list name_at content_at ss
unfolding header_list
header_pieces name_at content_at [] rest = refl
header_pieces name_at content_at (s ∷ ss) rest =
    ap (λ (hs : List (List ℕ)). section_header_bytes name_at content_at s ∷ hs) (header_pieces (name_at + (length s.name + 1)) (content_at + length s.content) ss rest)

header_table_length : (name_at content_at : ℕ) (ss : List Section) → length (header_table name_at content_at ss) ≡ 64 * length ss
header_table_length name_at content_at [] = refl
header_table_length name_at content_at (s ∷ ss) =
    let next = header_table_length (name_at + (length s.name + 1)) (content_at + length s.content) ss in
    let front : length (section_header_bytes name_at content_at s) ≡ 64 = refl in
    omega (arith, length-append (section_header_bytes name_at content_at s) (header_table (name_at + (length s.name + 1)) (content_at + length s.content) ss))

module _ (file : List ℕ) (file_small : length file < 2 ^ 64) where
  -- what the last header tells
  last_content : (ss : List Section) (x : Section) (name_at content_at : ℕ) (before behind : List ℕ) → file ≡ before ++ (contents_of (ss ++ x ∷ []) ++ behind) → content_at ≡ length before →
      content_of file (get_or (header_list name_at content_at (ss ++ x ∷ [])) (length ss) []) ≡ x.content
  unfolding header_list
  last_content [] x name_at content_at before behind e h =
      let split : file ≡ before ++ (x.content ++ behind) = e ∙ ap (λ (bytes : List ℕ). before ++ (bytes ++ behind)) (append-nil x.content) in
      let whole : length file ≡ length before + length (x.content ++ behind) = ap length split ∙ length-append before (x.content ++ behind) in
      let inner = length-append x.content behind in
      let size_small : length x.content < 2 ^ 64 = omega arith in
      let content_small : content_at < 2 ^ 64 = omega arith in
      ap (λ (n : ℕ). take n (drop (doubleword_at (section_header_bytes name_at content_at x) 24) file)) (from_be_bytes-to_be_bytes_8 (length x.content) size_small)
      ∙ ap (λ (n : ℕ). take (length x.content) (drop n file)) (from_be_bytes-to_be_bytes_8 content_at content_small)
      ∙ content_read file before x.content behind content_at split h
  last_content (s ∷ ss) x name_at content_at before behind e h =
      let next : content_at + length s.content ≡ length (before ++ s.content) = omega (arith, length-append before s.content) in
      let split : file ≡ (before ++ s.content) ++ (contents_of (ss ++ x ∷ []) ++ behind) =
      e ∙ ap (λ (bytes : List ℕ). before ++ bytes) (append_assoc s.content (contents_of (ss ++ x ∷ [])) behind) ∙ sym (append_assoc before s.content (contents_of (ss ++ x ∷ []) ++ behind)) in
      last_content ss x (name_at + (length s.name + 1)) (content_at + length s.content) (before ++ s.content) behind split next

  -- sections are read from their headers, where their names and their contents stand one behind the other
  sections_read : (names : List ℕ) → length names < 2 ^ 32 → (ss : List Section) (name_at content_at : ℕ) (before behind first last : List ℕ) → All FieldsFit ss →
      file ≡ before ++ (contents_of ss ++ behind) → content_at ≡ length before → names ≡ first ++ (names_of ss ++ last) → name_at ≡ length first →
      map (section file names) (header_list name_at content_at ss) ≡ ss
  unfolding header_list
  sections_read names names_small [] name_at content_at before behind first last fit e h f k = refl
  sections_read names names_small (s ∷ ss) name_at content_at before behind first last fit e h f k =
      let split : file ≡ before ++ (s.content ++ (contents_of ss ++ behind)) = e ∙ ap (λ (bytes : List ℕ). before ++ bytes) (append_assoc s.content (contents_of ss) behind) in
      let regroup : (names_of (s ∷ ss) ++ last) ≡ (s.name ++ 0 ∷ []) ++ (names_of ss ++ last) = append_assoc (s.name ++ 0 ∷ []) (names_of ss) last in
      let names_split : names ≡ first ++ (s.name ++ 0 ∷ (names_of ss ++ last)) = f ∙ ap (λ (bytes : List ℕ). first ++ bytes) (regroup ∙ append_assoc s.name (0 ∷ []) (names_of ss ++ last)) in
      let whole : length file ≡ length before + length (s.content ++ (contents_of ss ++ behind)) = ap length split ∙ length-append before (s.content ++ (contents_of ss ++ behind)) in
      let inner = length-append s.content (contents_of ss ++ behind) in
      let names_whole : length names ≡ length first + length (s.name ++ 0 ∷ (names_of ss ++ last)) = ap length names_split ∙ length-append first (s.name ++ 0 ∷ (names_of ss ++ last)) in
      let size_small : length s.content < 2 ^ 64 = omega arith in
      let content_small : content_at < 2 ^ 64 = omega arith in
      let name_small : name_at < 2 ^ 32 = omega arith in
      let here : FieldsFit s = All-head FieldsFit s ss fit in
      let head : section file names (section_header_bytes name_at content_at s) ≡ s =
      section_read file names name_at content_at s here name_small content_small size_small
      (text_read names first s.name (names_of ss ++ last) name_at names_split k here.name)
      (content_read file before s.content (contents_of ss ++ behind) content_at split h) in
      let next_content : content_at + length s.content ≡ length (before ++ s.content) = omega (arith, length-append before s.content) in
      let next_name : name_at + (length s.name + 1) ≡ length (first ++ (s.name ++ 0 ∷ [])) = omega (arith, length-append first (s.name ++ 0 ∷ []), length-append s.name (0 ∷ [])) in
      let tail : map (section file names) (header_list (name_at + (length s.name + 1)) (content_at + length s.content) ss) ≡ ss =
      sections_read names names_small ss (name_at + (length s.name + 1)) (content_at + length s.content) (before ++ s.content) behind (first ++ (s.name ++ 0 ∷ [])) last (All-tail FieldsFit s ss fit)
      (split ∙ sym (append_assoc before s.content (contents_of ss ++ behind))) next_content
      (f ∙ ap (λ (bytes : List ℕ). first ++ bytes) regroup ∙ sym (append_assoc first (s.name ++ 0 ∷ []) (names_of ss ++ last))) next_name in
      λ i. head i ∷ tail i

-- the headers of a written file
module _ (ss : List Section) (few : length ss + 2 < 2 ^ 16) where
  headers_read : section_headers (file_bytes ss) ≡ section_header_bytes 0 0 null_section ∷ header_list 1 (headers_end (length ss)) (ss ++ names_section ss ∷ [])
  unfolding file_header
  headers_read =
      let all : List Section = ss ++ names_section ss ∷ [] in
      let count : length ss + 2 ≡ suc (length all) = omega (arith, length-append ss (names_section ss ∷ [])) in
      let behind : List ℕ = header_table 1 (headers_end (length ss)) all ++ contents_of all in
      ap (λ (n : ℕ). pieces 64 n (section_header_bytes 0 0 null_section ++ behind)) (from_be_bytes-to_be_bytes_2 (length ss + 2) few ∙ count)
      ∙ ap (λ (hs : List (List ℕ)). section_header_bytes 0 0 null_section ∷ hs) (header_pieces 1 (headers_end (length ss)) all (contents_of all))

  number_read : (file_header (file_bytes ss)).e_shstrndx ≡ suc (length ss)
  unfolding file_header
  number_read = let small : length ss + 1 < 2 ^ 16 = omega arith in from_be_bytes-to_be_bytes_2 (length ss + 1) small ∙ omega arith

-- the header that every file of `count` sections and the two others has
pub file_header_read : (ss : List Section) → length ss + 2 < 2 ^ 16 → file_header (file_bytes ss) ≡
    record { e_ident = 127 ∷ 69 ∷ 76 ∷ 70 ∷ 2 ∷ 2 ∷ 1 ∷ 0 ∷ 0 ∷ 0 ∷ 0 ∷ 0 ∷ 0 ∷ 0 ∷ 0 ∷ 0 ∷ []; e_type = 1; e_machine = 22; e_version = 1; e_entry = 0; e_phoff = 0; e_shoff = 64; e_flags = 0; e_ehsize = 64; e_phentsize = 0; e_phnum = 0; e_shentsize = 64; e_shnum = length ss + 2; e_shstrndx = length ss + 1 }
unfolding file_header
file_header_read ss few = let small : length ss + 1 < 2 ^ 16 = omega arith in λ i. record {
  e_ident = 127 ∷ 69 ∷ 76 ∷ 70 ∷ 2 ∷ 2 ∷ 1 ∷ 0 ∷ 0 ∷ 0 ∷ 0 ∷ 0 ∷ 0 ∷ 0 ∷ 0 ∷ 0 ∷ [];
  e_type = 1;
  e_machine = 22;
  e_version = 1;
  e_entry = 0;
  e_phoff = 0;
  e_shoff = 64;
  e_flags = 0;
  e_ehsize = 64;
  e_phentsize = 0;
  e_phnum = 0;
  e_shentsize = 64;
  e_shnum = from_be_bytes-to_be_bytes_2 (length ss + 2) few i;
  e_shstrndx = from_be_bytes-to_be_bytes_2 (length ss + 1) small i;
}

-- the sections of a written file
pub file_read : (ss : List Section) → length ss + 2 < 2 ^ 16 → length (file_bytes ss) < 2 ^ 64 → length (names_section ss).content < 2 ^ 32 → All FieldsFit ss →
    sections (file_bytes ss) ≡ null_section ∷ (ss ++ names_section ss ∷ [])
unfolding sections
file_read ss few file_small names_small fit =
    let last : Section = names_section ss in
    let all : List Section = ss ++ last ∷ [] in
    let file : List ℕ = file_bytes ss in
    let start : ℕ = headers_end (length ss) in
    let headers : List (List ℕ) = section_header_bytes 0 0 null_section ∷ header_list 1 start all in
    let table : List ℕ = header_table 1 start all in
    let front : List ℕ = file_header_bytes (length ss + 2) (length ss + 1) in
    let null : List ℕ = section_header_bytes 0 0 null_section in
    let before : List ℕ = front ++ (null ++ table) in
    let split : file ≡ before ++ (contents_of all ++ []) =
    ap (λ (bytes : List ℕ). front ++ bytes) (sym (append_assoc null table (contents_of all)))
    ∙ sym (append_assoc front (null ++ table) (contents_of all))
    ∙ ap (λ (bytes : List ℕ). before ++ bytes) (sym (append-nil (contents_of all))) in
    let count : length all ≡ length ss + 1 = length-append ss (last ∷ []) in
    let front_length : length front ≡ 64 = refl in
    let null_length : length null ≡ 64 = refl in
    let table_length : length table ≡ 64 * length all = header_table_length 1 start all in
    let begins : start ≡ length before = omega (arith, length-append front (null ++ table), length-append null table) in
    let names_eq : last.content ≡ (0 ∷ []) ++ (names_of all ++ []) =
    sym (ap (λ (bytes : List ℕ). 0 ∷ bytes) (append-nil (names_of all) ∙ flat_map-append (λ (s : Section). s.name ++ 0 ∷ []) ss (last ∷ []))) in
    let last_fit : FieldsFit last = record { name = tt; sh_type = omega arith; sh_flags = omega arith; sh_addr = omega arith; sh_link = omega arith; sh_info = omega arith; sh_addralign = omega arith; sh_entsize = omega arith } in
    let all_fit : All FieldsFit all = All-append FieldsFit ss (last ∷ []) fit (All-cons FieldsFit last [] last_fit (All-nil FieldsFit)) in
    let names_read : content_of file (get_or headers (suc (length ss)) []) ≡ last.content = last_content file file_small ss last 1 start before [] split begins in
    ap (λ (n : ℕ). map (section file (content_of file (get_or (section_headers file) n []))) (section_headers file)) (number_read ss few)
    ∙ ap (λ (hs : List (List ℕ)). map (section file (content_of file (get_or hs (suc (length ss)) []))) hs) (headers_read ss few)
    ∙ ap (λ (names : List ℕ). map (section file names) headers) names_read
    ∙ ap (λ (rest : List Section). null_section ∷ rest) (sections_read file file_small last.content names_small all 1 start before [] (0 ∷ []) [] all_fit split begins names_eq refl)
