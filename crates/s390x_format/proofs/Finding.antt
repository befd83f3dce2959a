-- What bytes that are a row's tell, and when they are.
use Rattle.std.proofs.Common.{◌≡◌, ℕ, zero, suc, ◌+◌, ◌-◌, ◌*◌, ◌/◌, ◌%◌, ◌^◌, ◌<◌, ◌≤◌, Bool, true, false, if◌then◌else◌, List, [], ◌∷◌, length, get_or, take, refl, sym, ap, ap₂, subst, ◌∙◌, arith, length-take, Option, Some, None, inl, inr, nat_lt}
use Rattle.std.proofs.Math.ListN.{get_or-eq_default}
use Rattle.std.proofs.Math.Nat.{mod-eq_of_lt, add_comm, add-mul-div_right, add-mul-mod_self_right, mul_assoc}
use Rattle.std.proofs.Math.Pow.{pow_pos, pow-add}
use Rattle.std.proofs.lemmas.Nat.{shr_high}
use Rattle.std.proofs.lemmas.Bool.{cases_lt}
use Rattle.std.proofs.lemmas.List.{get_or-take}
use Rattle.std.specs.Prelude.{IfSome}
use Rattle.s390x_format.specs.declared.row.MachineRow.{MachineRow}
use Rattle.s390x_format.specs.declared.kind.FormatKind.{FormatKind}
use Rattle.s390x_format.specs.declared.reading.Reading.{Reading}
use Rattle.s390x_format.specs.declared.reading.PlacedReading.{PlacedReading}
use Rattle.s390x_format.specs.declared.reading.LeadingBytes.{LeadingBytes}
use Rattle.s390x_format.specs.declared.index.RestPlace.{RestPlace}
use Rattle.s390x_format.specs.Layout.{number}
use Rattle.s390x_format.specs.Formats.{layout_of, length_of, place_of}
use Rattle.s390x_format.specs.Rows.{are_rows, rises, first_of, fetch_length_of}
use Rattle.s390x_format.specs.declared.index.FirstByte.{FirstByte}
use Rattle.s390x_format.specs.Index.{no_first_byte, is_index, rest_of, place_in, are_placed}
use Rattle.s390x_format.specs.Reading.{be_bytes, be_number, opcode_at, rest_at, no_row, HasOpcode, IsLeading, IsReadAs, IsReading, IsPlacedReading}
use Rattle.s390x_format.proofs.Packing.{layout_slot, field-number, number_lt}
use Rattle.s390x_format.proofs.FormatFacts.{layout_ok, layout_bits_of, length_some}
use Rattle.s390x_format.proofs.Bytes.{be_number-be_bytes, be_number_lt}
use Rattle.s390x_format.proofs.Searching.{Tight, indexed_at, placed_at, row_placed, span_ends, spanned}
use Rattle.s390x_format.proofs.Fetching.{row_at, same_place, field_opcode, first_place, rest_place}

first_byte : (k n : ℕ) → 1 ≤ k → get_or (be_bytes k n) 0 0 ≡ n / 2 ^ (8 * k - 8) % 256
unfolding be_bytes
first_byte zero n h = absurd (omega arith)
first_byte (suc k) n h = let e : 8 * k ≡ 8 * suc k - 8 = omega arith in ap (λ (z : ℕ). n / 2 ^ z % 256) e

-- what the first byte tells of bytes that are a row's
pub record Known (rows : List MachineRow) (firsts : List FirstByte) (bs : List ℕ) (d : Reading) : Type 0 where
  pub at : ℕ
  pub below : at < length rows
  pub enough : fetch_length_of (get_or bs 0 0) ≤ length bs
  pub some : 2 ≤ fetch_length_of (get_or bs 0 0)
  pub code : (get_or rows at no_row).opcode ≡ opcode_at (get_or firsts (get_or bs 0 0) no_first_byte).rest (8 * fetch_length_of (get_or bs 0 0)) (be_number (take (fetch_length_of (get_or bs 0 0)) bs))
  pub first : first_of (place_of (get_or rows at no_row).format) (get_or rows at no_row).opcode ≡ get_or bs 0 0
  pub read : IsReadAs (get_or rows at no_row) (fetch_length_of (get_or bs 0 0)) (be_number (take (fetch_length_of (get_or bs 0 0)) bs)) d

pub whole_number : (f : FormatKind) (fs : List ℕ) → be_number (be_bytes (length_of f) (number (layout_of f) fs)) ≡ number (layout_of f) fs
whole_number f fs =
    let small : number (layout_of f) fs < 2 ^ (8 * length_of f) = subst (λ (z : ℕ). number (layout_of f) fs < 2 ^ z) (layout_bits_of f) (number_lt (layout_of f) fs) in
    (be_number-be_bytes (length_of f) (number (layout_of f) fs)).1 ∙ mod-eq_of_lt small

pub known : (rows : List MachineRow) (firsts : List FirstByte) (bs : List ℕ) (d : Reading) → are_rows rows ≡ true → is_index rows firsts ≡ true → IsReading rows bs d → Known rows firsts bs d
known rows firsts bs d ok index h =
    let r : MachineRow = get_or rows h.at no_row in
    let f : FormatKind = d.row.format in
    let k : ℕ = length_of f in
    let n : ℕ = number (layout_of f) d.slots in
    let s = row_at rows h.at ok h.in_table in
    let two : 2 ≤ k = length_some f in
    let first : get_or bs 0 0 ≡ n / 2 ^ (8 * k - 8) % 256 =
    sym (get_or-take k bs 0 0 (omega arith)) ∙ ap (λ (xs : List ℕ). get_or xs 0 0) h.bytes_are ∙ first_byte k n (omega arith) in
    let op : opcode_at (place_of f) (8 * k) n ≡ d.row.opcode =
    sym (field_opcode f n) ∙ field-number (layout_of f) d.slots 0 (layout_slot _ 0 (layout_ok f) (omega arith)).0 (h.fit.1 0 (omega arith)) ∙ h.code in
    let b : first_of (place_of r.format) r.opcode ≡ get_or bs 0 0 =
    rw (← h.format, ← h.opcode, ← op) (first_place (place_of f) (8 * k) n ∙ sym first) in
    let shape : (get_or firsts (get_or bs 0 0) no_first_byte).rest ≡ place_of f = placed_at rows firsts h.at (get_or bs 0 0) index h.in_table b ∙ ap place_of (sym h.format) in
    let count : fetch_length_of (get_or bs 0 0) ≡ k = ap fetch_length_of (sym b) ∙ s ∙ ap length_of (sym h.format) in
    let num : be_number (take k bs) ≡ n = ap be_number h.bytes_are ∙ whole_number f d.slots in
    let long : length (take k bs) ≡ k = ap length h.bytes_are ∙ (be_number-be_bytes k n).0 in
    let le : k ≤ length bs = omega (arith, long, length-take k bs) in
    record {
      at = h.at;
      below = h.in_table;
      enough = rw count le;
      some = rw count two;
      code = rw (count, shape, num) (sym h.opcode ∙ sym op);
      first = b;
      read = rw (count, num) (record {
        format = h.format;
        opcode = h.opcode;
        bytes_are = ap length_of (sym h.format);
        fit = rw h.format at h.fit;
        code = h.code ∙ h.opcode;
        number_is = ap (λ (g : FormatKind). number (layout_of g) d.slots) (sym h.format);
        allowed = h.allowed;
      });
    }

power_group : (b x y : ℕ) → b * (x * 256 * y) ≡ b * x * 256 * y
power_group b x y = simp mul_assoc

-- a digit below 2 ^ (8 * j) sees no multiple of it
digit_above : (k j b m : ℕ) → suc k ≤ j → (b * 2 ^ (8 * j) + m) / 2 ^ (8 * k) % 256 ≡ m / 2 ^ (8 * k) % 256
digit_above k j b m le =
    let e : 8 * j ≡ (8 * (j - suc k) + 8) + 8 * k = omega arith in
    let p : b * 2 ^ (8 * j) ≡ (b * 2 ^ (8 * (j - suc k)) * 256) * 2 ^ (8 * k) =
    ap (λ (z : ℕ). b * 2 ^ z) e ∙ rw (pow-add 2 (8 * (j - suc k) + 8) (8 * k), pow-add 2 (8 * (j - suc k)) 8) (power_group b (2 ^ (8 * (j - suc k))) (2 ^ (8 * k))) in
    let q : (b * 2 ^ (8 * j) + m) / 2 ^ (8 * k) ≡ m / 2 ^ (8 * k) + b * 2 ^ (8 * (j - suc k)) * 256 =
    ap (λ (z : ℕ). (z + m) / 2 ^ (8 * k)) p ∙ ap (λ (z : ℕ). z / 2 ^ (8 * k)) (add_comm ((b * 2 ^ (8 * (j - suc k)) * 256) * 2 ^ (8 * k)) m)
    ∙ add-mul-div_right m (b * 2 ^ (8 * (j - suc k)) * 256) (pow_pos (8 * k)) in
    ap (λ (z : ℕ). z % 256) q ∙ add-mul-mod_self_right (m / 2 ^ (8 * k)) (b * 2 ^ (8 * (j - suc k))) 256

-- the k low bytes see nothing above them
low_bytes_at : (k j b m : ℕ) → k ≤ j → be_bytes k (b * 2 ^ (8 * j) + m) ≡ be_bytes k m
unfolding be_bytes
low_bytes_at zero j b m le = refl
low_bytes_at (suc k) j b m le = ap₂ (λ (x : ℕ) (xs : List ℕ). x ∷ xs) (digit_above k j b m le) (low_bytes_at k j b m (omega arith))

low_bytes : (k b m : ℕ) → be_bytes k (b * 2 ^ (8 * k) + m) ≡ be_bytes k m
low_bytes k b m = low_bytes_at k k b m (omega arith)

pub be_bytes-be_number : (bs : List ℕ) → ((i : ℕ) → get_or bs i 0 < 256) → be_bytes (length bs) (be_number bs) ≡ bs
unfolding be_bytes be_number
be_bytes-be_number [] h = refl
be_bytes-be_number (b ∷ bs) h =
    let small : be_number bs < 2 ^ (8 * length bs) = be_number_lt bs (λ i. h (suc i)) in
    ap₂ (λ (x : ℕ) (xs : List ℕ). x ∷ xs)
    (ap (λ (z : ℕ). z % 256) (shr_high b (8 * length bs) (be_number bs) small) ∙ mod-eq_of_lt (h 0))
    (low_bytes (length bs) b (be_number bs) ∙ be_bytes-be_number bs (λ i. h (suc i)))

-- the first few bytes are those of their number
taken : (bs : List ℕ) (count : ℕ) → ((i : ℕ) → get_or bs i 0 < 256) → count ≤ length bs → be_bytes count (be_number (take count bs)) ≡ take count bs
taken bs count bytes le =
    let long : length (take count bs) ≡ count = omega (arith, length-take count bs) in
    let each : (i : ℕ) → get_or (take count bs) i 0 < 256 = λ i. elim (cases_lt i count) [
      | inl lt ↦ rw (get_or-take count bs i 0 lt) (bytes i)
      | inr ge ↦ rw (get_or-eq_default (take count bs) 0 (subst (λ (z : ℕ). z ≤ i) (sym long) ge)) (omega arith)
    ] in
    ap (λ (z : ℕ). be_bytes z (be_number (take count bs))) (sym long) ∙ be_bytes-be_number (take count bs) each

second_in : (k n : ℕ) → 2 ≤ k → get_or (be_bytes k n) 1 0 ≡ n / 2 ^ (8 * k - 16) % 256
unfolding be_bytes
second_in zero n h = absurd (omega arith)
second_in (suc zero) n h = absurd (omega arith)
second_in (suc (suc k)) n h = let e : 8 * k ≡ 8 * suc (suc k) - 16 = omega arith in ap (λ (z : ℕ). n / 2 ^ z % 256) e

-- the second byte in the leading number
pub second_byte : (bs : List ℕ) (l : LeadingBytes) → ((i : ℕ) → get_or bs i 0 < 256) → IsLeading bs l → 2 ≤ l.count → get_or bs 1 0 ≡ l.number / 2 ^ (8 * l.count - 16) % 256
second_byte bs l bytes is two =
    sym (get_or-take l.count bs 1 0 (omega (arith, two))) ∙ ap (λ (xs : List ℕ). get_or xs 1 0) (sym (taken bs l.count bytes is.enough))
    ∙ second_in l.count (be_number (take l.count bs)) two ∙ ap (λ (n : ℕ). n / 2 ^ (8 * l.count - 16) % 256) (sym is.number_is)

pub fetched : (rows : List MachineRow) (bs : List ℕ) (d : Reading) (at count : ℕ) → ((i : ℕ) → get_or bs i 0 < 256) → at < length rows → count ≤ length bs →
    IsReadAs (get_or rows at no_row) count (be_number (take count bs)) d → IsReading rows bs d
fetched rows bs d at count bytes below le r =
    let back : be_bytes count (be_number (take count bs)) ≡ take count bs = taken bs count bytes le in
    let e : length_of d.row.format ≡ count = ap length_of r.format ∙ r.bytes_are in
    let n : number (layout_of d.row.format) d.slots ≡ be_number (take count bs) = ap (λ (g : FormatKind). number (layout_of g) d.slots) r.format ∙ r.number_is in
    record {
      at = at;
      in_table = below;
      format = r.format;
      opcode = r.opcode;
      fit = rw r.format r.fit;
      code = r.code ∙ sym r.opcode;
      allowed = r.allowed;
      bytes_are = rw (e, n) (sym back);
    }

-- the place of a row with the opcode is that of the row that the bytes are of
pub found : (rows : List MachineRow) (bs : List ℕ) (d : Reading) (o at : ℕ) → rises 0 rows ≡ true → (firsts : List FirstByte) → (h : Known rows firsts bs d) → (get_or rows h.at no_row).opcode ≡ o → HasOpcode rows o at → h.at ≡ at
found rows bs d o at up firsts h e f = same_place rows h.at at up h.below f.below (e ∙ sym f.same)

pub fetched_some : (rows : List MachineRow) (bs : List ℕ) (count o at : ℕ) (x : Option PlacedReading) → ((i : ℕ) → get_or bs i 0 < 256) → count ≤ length bs → HasOpcode rows o at →
    IfSome x (λ p. (p.at ≡ at) × IsReadAs (get_or rows at no_row) count (be_number (take count bs)) p.reading) → IfSome x (λ p. IsPlacedReading rows bs p)
fetched_some rows bs count o at None bytes le f h = tt
fetched_some rows bs count o at (Some p) bytes le f h = record {
  reading = fetched rows bs p.reading at count bytes f.below le h.1;
  row = record {
    below = subst (λ (i : ℕ). i < length rows) (sym h.0) f.below;
    same = ap (λ (i : ℕ). (get_or rows i no_row).opcode) h.0 ∙ sym h.1.opcode;
  };
}

-- the row that the bytes are of stands where the index and the offsets place it
pub placed : (rows : List MachineRow) (firsts : List FirstByte) (offsets bs : List ℕ) (d : Reading) (l : LeadingBytes) (rest : ℕ) → is_index rows firsts ≡ true → are_placed 0 rows firsts offsets ≡ true →
    (k : Known rows firsts bs d) → IsLeading bs l → rest ≡ rest_at (get_or firsts l.first no_first_byte).rest (8 * l.count) l.number → k.at ≡ place_in firsts offsets l.first rest
placed rows firsts offsets bs d l rest index ok k is e =
    let r : MachineRow = get_or rows k.at no_row in
    let b : ℕ = get_or bs 0 0 in
    let p : RestPlace = (get_or firsts b no_first_byte).rest in
    let count : l.count ≡ fetch_length_of b = is.count ∙ ap fetch_length_of is.first in
    let num : l.number ≡ be_number (take (fetch_length_of b) bs) = is.number_is ∙ ap (λ (c : ℕ). be_number (take c bs)) count in
    let shape : p ≡ place_of r.format = placed_at rows firsts k.at b index k.below k.first in
    let code : rest_of p r.opcode ≡ rest_at p (8 * fetch_length_of b) (be_number (take (fetch_length_of b) bs)) = ap (λ (o : ℕ). rest_of p o) k.code ∙ rest_place p _ _ in
    let here : rest ≡ rest_of (place_of r.format) r.opcode =
    e ∙ ap (λ (z : ℕ). rest_at (get_or firsts z no_first_byte).rest (8 * l.count) l.number) is.first
    ∙ ap (λ (c : ℕ). rest_at p (8 * c) l.number) count ∙ ap (λ (n : ℕ). rest_at p (8 * fetch_length_of b) n) num
    ∙ sym code ∙ ap (λ (q : RestPlace). rest_of q r.opcode) shape in
    sym (ap (λ (z : ℕ). place_in firsts offsets l.first z) here
    ∙ ap (λ (z : ℕ). place_in firsts offsets z (rest_of (place_of r.format) r.opcode)) (is.first ∙ sym k.first)
    ∙ row_placed rows firsts offsets k.at ok k.below)

-- it stands before the end of the part of its first byte
pub placed_below : (rows : List MachineRow) (firsts : List FirstByte) (bs : List ℕ) (d : Reading) (l : LeadingBytes) → is_index rows firsts ≡ true → (k : Known rows firsts bs d) → IsLeading bs l →
    k.at < (get_or firsts l.first no_first_byte).end
placed_below rows firsts bs d l index k is = (indexed_at rows firsts k.at l.first index k.below (k.first ∙ sym is.first)).1

one_of_three : (s t : Bool) → 2 ≤ (if s then 2 else (if t then 4 else 6))
one_of_three true t = omega arith
one_of_three false true = omega arith
one_of_three false false = omega arith

two_at_least : (b : ℕ) → 2 ≤ fetch_length_of b
two_at_least b = one_of_three (nat_lt b 64) (nat_lt b 192)

-- an instruction has some bytes
pub some_bytes : (bs : List ℕ) (l : LeadingBytes) → IsLeading bs l → 2 ≤ l.count
some_bytes bs l is = subst (λ (n : ℕ). 2 ≤ n) (sym is.count) (two_at_least l.first)

after : (s o n : ℕ) → n ≡ s + o → s ≤ n
after s o n e = omega (arith, e)

-- a row before that end is in the table, and has as many bytes as the first one tells
pub record Measured (rows : List MachineRow) (l : LeadingBytes) (at : ℕ) : Type 0 where
  pub below : at < length rows
  pub bytes : length_of (get_or rows at no_row).format ≡ l.count

pub measured : (rows : List MachineRow) (firsts : List FirstByte) (offsets bs : List ℕ) (l : LeadingBytes) (rest at : ℕ) → are_rows rows ≡ true → is_index rows firsts ≡ true → IsLeading bs l →
    at ≡ place_in firsts offsets l.first rest → at < (get_or firsts l.first no_first_byte).end → Measured rows l at
measured rows firsts offsets bs l rest at ok index is e lt =
    let start : (get_or firsts l.first no_first_byte).start ≤ at =
    after (get_or firsts l.first no_first_byte).start (get_or offsets ((get_or firsts l.first no_first_byte).offsets + rest) 0) at e in
    let tight : Tight (get_or firsts l.first no_first_byte) rows l.first = span_ends rows firsts l.first index in
    let below : at < length rows = omega (arith, lt, tight.end) in
    let first = spanned rows firsts l.first at index start lt in
    record { below = below; bytes = sym (row_at rows at ok below) ∙ ap fetch_length_of first ∙ sym is.count }

-- a reading at a place in the table is one of the row that stands there
pub read_there : (rows : List MachineRow) (bs : List ℕ) (count at : ℕ) (x : Option PlacedReading) → ((i : ℕ) → get_or bs i 0 < 256) → count ≤ length bs → at < length rows →
    IfSome x (λ p. (p.at ≡ at) × IsReadAs (get_or rows at no_row) count (be_number (take count bs)) p.reading) → IfSome x (λ p. IsPlacedReading rows bs p)
read_there rows bs count at x bytes le below h = fetched_some rows bs count (get_or rows at no_row).opcode at x bytes le (record { below = below; same = refl }) h

-- the row that the bytes are of reads the leading number
pub read_here : (rows : List MachineRow) (firsts : List FirstByte) (bs : List ℕ) (d : Reading) (l : LeadingBytes) (at : ℕ) → (k : Known rows firsts bs d) → IsLeading bs l → k.at ≡ at → IsReadAs (get_or rows at no_row) l.count l.number d
read_here rows firsts bs d l at k is e =
    let count : l.count ≡ fetch_length_of (get_or bs 0 0) = is.count ∙ ap fetch_length_of is.first in
    let num : l.number ≡ be_number (take (fetch_length_of (get_or bs 0 0)) bs) = is.number_is ∙ ap (λ (c : ℕ). be_number (take c bs)) count in
    rw (num, count, ← e) k.read

-- its opcode is that of the leading number
pub code_here : (rows : List MachineRow) (firsts : List FirstByte) (bs : List ℕ) (d : Reading) (l : LeadingBytes) (o : ℕ) → (k : Known rows firsts bs d) → IsLeading bs l →
    o ≡ opcode_at (get_or firsts l.first no_first_byte).rest (8 * l.count) l.number → (get_or rows k.at no_row).opcode ≡ o
code_here rows firsts bs d l o k is e =
    let b : ℕ = get_or bs 0 0 in
    let p : RestPlace = (get_or firsts b no_first_byte).rest in
    let count : l.count ≡ fetch_length_of b = is.count ∙ ap fetch_length_of is.first in
    let num : l.number ≡ be_number (take (fetch_length_of b) bs) = is.number_is ∙ ap (λ (c : ℕ). be_number (take c bs)) count in
    k.code ∙ sym (e ∙ ap (λ (z : ℕ). opcode_at (get_or firsts z no_first_byte).rest (8 * l.count) l.number) is.first
    ∙ ap (λ (c : ℕ). opcode_at p (8 * c) l.number) count ∙ ap (λ (n : ℕ). opcode_at p (8 * fetch_length_of b) n) num)
