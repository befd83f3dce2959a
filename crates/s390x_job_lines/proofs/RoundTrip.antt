-- Reading a line gives back the line that was printed, and what is read is in its ranges.
use Rattle.std.proofs.Common.{◌≡◌, ℕ, zero, suc, Bool, true, false, ◌&&◌, List, [], ◌∷◌, ◌++◌, refl, sym, ap, ◌∙◌, subst, append_assoc}
use Rattle.std.specs.Prelude.{codes, if◌then◌else◌, slice_index_or}
use Rattle.std.proofs.lemmas.Bool.{and_parts}
use Rattle.s390x_job_fields.specs.Marks.{before_mark, from_mark}
use Rattle.s390x_job_lines.specs.Names.{line_name_of, name_text}
use Rattle.s390x_inst.specs.declared.state.IsaFlags.{IsaFlags}
use Rattle.s390x_job_fields.specs.Bytes.{facility_text, facilities_text}
use Rattle.s390x_job_lines.specs.Kinds.{kinds}
use Rattle.s390x_job_lines.specs.Slots.{slot_of}
use Rattle.s390x_job_lines.specs.declared.name_hash.TheConstants.{ALL_NAMES}
use Rattle.s390x_job_fields.specs.Fields.{Field, Kind, KFlags, FFlags, kind_of, spell, value_as, after_as}
use Rattle.s390x_job_lines.specs.Line.{Line, fields_text, line_text, AllFields, kinds_of, IsLine, line_fields_of, line_with, line_of}
use Rattle.s390x_job_lines.specs.declared.name.LineName.{LineName}
use Rattle.s390x_job_lines.specs.declared.name.LineName.TheVariants as N
use Rattle.s390x_job_lines.proofs.Slots.{name-round_trip, name-slot}
use Rattle.s390x_job_fields.proofs.Avoids.{Avoids, avoids, Avoids-append, Avoids-fewer, Avoids-test, marks, IsOneWord, Ends, front-is, back-is}
use Rattle.s390x_job_fields.proofs.Fields.{Rest, field-round_trip, field-after, field-feed}
use Rattle.s390x_job_fields.proofs.Ranges.{value-ok, value-kind}

abbrev all_of : (LineName → Bool) → List LineName → Bool
all_of f [] = true
all_of f (x ∷ xs) = f x && all_of f xs

holds_at : (f : LineName → Bool) (xs : List LineName) (k : ℕ) → all_of f xs ≡ true → f N.EndLine ≡ true → f (slice_index_or xs k N.EndLine) ≡ true
holds_at f [] k h e = e
holds_at f (x ∷ xs) zero h e = (and_parts (f x) (all_of f xs) h).0
holds_at f (x ∷ xs) (suc k) h e = holds_at f xs k (and_parts (f x) (all_of f xs) h).1 e

-- what holds of each name that the table lists holds of each name, since it stands at its slot
each_name : (f : LineName → Bool) → all_of f ALL_NAMES ≡ true → f N.EndLine ≡ true → (n : LineName) → f n ≡ true
each_name f h e n =
    subst (λ m. f m ≡ true) (name-slot n) (holds_at f ALL_NAMES (slot_of (name_text n)) h e)

name-one_word : (n : LineName) → IsOneWord (name_text n)
name-one_word n = Avoids-test marks (name_text n) (each_name (λ m. avoids marks (name_text m)) refl refl n)

-- facilities stand last
abbrev is_facilities : Kind → Bool
is_facilities KFlags = true
is_facilities k = false

abbrev proper : List Kind → Bool
proper [] = true
proper (k ∷ []) = true
proper (k ∷ l ∷ ks) = if is_facilities k then false else proper (l ∷ ks)

kinds_proper : (n : LineName) → proper (kinds n) ≡ true
kinds_proper n = each_name (λ m. proper (kinds m)) refl refl n

flags_split : (f : IsaFlags) (r : List ℕ) → facilities_text f ++ r ≡ facility_text f.has_mie3 (codes "mie3") ++ (facility_text f.has_mie4 (codes "mie4") ++ (facility_text f.has_vxrs_ext2 (codes "vxrs_ext2") ++ (facility_text f.has_vxrs_ext3 (codes "vxrs_ext3") ++ (facility_text f.no_relative_memory (codes "norel") ++ r))))
flags_split f r = simp append_assoc

facility_ends : (b : Bool) (name r : List ℕ) → Ends r → Ends (facility_text b name ++ r)
facility_ends true name r h = refl
facility_ends false name r h = h

flags_ends : (f : IsaFlags) (r : List ℕ) → Ends r → Ends (facilities_text f ++ r)
flags_ends f r h =
    subst Ends (sym (flags_split f r)) (facility_ends f.has_mie3 (codes "mie3") _ (facility_ends f.has_mie4 (codes "mie4") _ (facility_ends f.has_vxrs_ext2 (codes "vxrs_ext2") _ (facility_ends f.has_vxrs_ext3 (codes "vxrs_ext3") _ (facility_ends f.no_relative_memory (codes "norel") r h)))))

spell_ends : (f : Field) (r : List ℕ) → Ends r → Ends (spell f ++ r)
spell_ends (FFlags f) r h = flags_ends f r h
spell_ends f r h = refl

spelled_ends : (fs : List Field) → Ends (fields_text fs)
spelled_ends [] = tt
spelled_ends (f ∷ fs) = spell_ends f (fields_text fs) (spelled_ends fs)

rest_of : (f : Field) (r : List ℕ) → Ends r → (b : Bool) → (if is_facilities (kind_of f) then false else b) ≡ true → Rest f r × (b ≡ true)
rest_of (FFlags f) r e b h = absurd cc
rest_of f r e b h = (e, h)

proper_rest : (f g : Field) (fs : List Field) → proper (kinds_of (f ∷ g ∷ fs)) ≡ true → Rest f (fields_text (g ∷ fs)) × (proper (kinds_of (g ∷ fs)) ≡ true)
proper_rest f g fs h = rest_of f (fields_text (g ∷ fs)) (spelled_ends (g ∷ fs)) (proper (kinds_of (g ∷ fs))) h

last_rest : (f : Field) → Rest f []
last_rest (FFlags f) = refl
last_rest f = tt

fields_round_trip : (fs : List Field) → AllFields fs → proper (kinds_of fs) ≡ true → line_fields_of (kinds_of fs) (fields_text fs) ≡ fs
fields_round_trip [] h p = refl
fields_round_trip (f ∷ []) h p = ap (λ x. x ∷ []) (field-round_trip f h.0 [] (last_rest f))
fields_round_trip (f ∷ g ∷ fs) h p =
    let q = proper_rest f g fs p in
    let v = field-round_trip f h.0 (fields_text (g ∷ fs)) q.0 in
    let a = field-after f h.0 (fields_text (g ∷ fs)) q.0 in
    ap (λ x. x ∷ line_fields_of (kinds_of (g ∷ fs)) (after_as (kind_of f) (fields_text (f ∷ g ∷ fs)))) v
    ∙ ap (λ t. f ∷ line_fields_of (kinds_of (g ∷ fs)) t) a
    ∙ ap (λ x. f ∷ x) (fields_round_trip (g ∷ fs) h.1 q.1)

line_make : LineName → List Field → Line
line_make n fs = record { name = n; fields = fs }

pub line-round_trip : (l : Line) → IsLine l → line_of (line_text l) ≡ l
unfolding line_make
line-round_trip l h =
    let s = name-one_word l.name in
    let f = front-is (name_text l.name) (fields_text l.fields) s (spelled_ends l.fields) in
    let b = back-is (name_text l.name) (fields_text l.fields) s (spelled_ends l.fields) in
    let n = ap line_name_of f ∙ name-round_trip l.name in
    ap (λ m. line_with m (from_mark (line_text l))) n
    ∙ ap (λ t. line_with l.name t) b
    ∙ ap (λ ks. line_make l.name (line_fields_of ks (fields_text l.fields))) h.kinds_fit
    ∙ ap (line_make l.name) (fields_round_trip l.fields h.fields_fit (subst (λ ks. proper ks ≡ true) h.kinds_fit (kinds_proper l.name)))

fields_feed : (fs : List Field) → AllFields fs → Avoids (10 ∷ []) (fields_text fs)
fields_feed [] h = tt
fields_feed (f ∷ fs) h = Avoids-append (10 ∷ []) (spell f) (fields_text fs) (field-feed f h.0) (fields_feed fs h.1)

-- no line feed stands in a line
pub line-feed : (l : Line) → IsLine l → Avoids (10 ∷ []) (line_text l)
line-feed l h =
    Avoids-append (10 ∷ []) (name_text l.name) (fields_text l.fields) (Avoids-fewer marks (10 ∷ []) refl (name_text l.name) (name-one_word l.name)) (fields_feed l.fields h.fields_fit)

-- whatever is read is in its ranges
read_fields : (ks : List Kind) (s : List ℕ) → AllFields (line_fields_of ks s)
read_fields [] s = tt
read_fields (k ∷ ks) s = (value-ok k s, read_fields ks (after_as k s))

read_kinds : (ks : List Kind) (s : List ℕ) → ks ≡ kinds_of (line_fields_of ks s)
read_kinds [] s = refl
read_kinds (k ∷ ks) s = ap (λ x. x ∷ ks) (sym (value-kind k s)) ∙ ap (λ x. kind_of (value_as k s) ∷ x) (read_kinds ks (after_as k s))

pub read-ok : (s : List ℕ) → IsLine (line_of s)
read-ok s =
    let n = line_name_of (before_mark s) in
    record { kinds_fit = read_kinds (kinds n) (from_mark s); fields_fit = read_fields (kinds n) (from_mark s) }
