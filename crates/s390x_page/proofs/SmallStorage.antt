-- A byte of the small machine's storage is changed.
use Rattle.std.proofs.Common.{◌≡◌, ℕ, ◌-◌, ◌<◌, ◌≤◌, Bool, true, false, ◌==◌, if◌then◌else◌, length, slice_index, refl, sym, ap, ◌∙◌, arith}
use Rattle.std.specs.Prelude.{nat_le, nat_lt, slice_set}
use Rattle.std.proofs.lemmas.Bool.{and_parts, leb-true, eqb-true, eqb-false}
use Rattle.std.proofs.lemmas.List.{get_or-set_same, get_or-set_other}
use Rattle.s390x_operations.specs.State.{update}
use Rattle.s390x_page.specs.Stepping.{byte_of, is_held}
use Rattle.s390x_page.specs.declared.storage.Storage.{Storage}

-- where an address is held
pub above : (s : Storage) (a : ℕ) → is_held s a ≡ true → s.start ≤ a
above s a h = leb-true s.start a (and_parts (nat_le s.start a) (nat_lt (a - s.start) 1024) h).0

pub inside : (s : Storage) (a : ℕ) → is_held s a ≡ true → a - s.start < 1024
inside s a h = leb-true _ _ (and_parts (nat_le s.start a) (nat_lt (a - s.start) 1024) h).1

-- the storage with another byte
abbrev changed : Storage → ℕ → ℕ → Storage
changed s a v = record { start = s.start; bytes = slice_set s.bytes (a - s.start) v }

pub byte_changed : (s : Storage) (a v b : ℕ) → length s.bytes ≡ 1024 → is_held s a ≡ true → byte_of (changed s a v) b ≡ update (byte_of s) a v b
byte_changed s a v b long here = by (b == a) (is_held s b) refl refl
  where
    by : (x y : Bool) → (b == a) ≡ x → is_held s b ≡ y → byte_of (changed s a v) b ≡ update (byte_of s) a v b
    by true y e f =
        let same : b ≡ a = eqb-true b a e in
        ap (λ n. byte_of (changed s a v) n) same
        ∙ ap (λ h. if h then slice_index (slice_set s.bytes (a - s.start) v) (a - s.start) else 0) here
        ∙ get_or-set_same s.bytes (a - s.start) v 0 (omega (arith, long, inside s a here))
        ∙ sym (ap (λ h. if h then v else byte_of s b) e)
    by false true e f =
        ap (λ h. if h then slice_index (slice_set s.bytes (a - s.start) v) (b - s.start) else 0) f
        ∙ get_or-set_other s.bytes (a - s.start) (b - s.start) v 0 (λ same. eqb-false b a e (omega (arith, same, above s a here, above s b f)))
        ∙ sym (ap (λ h. if h then slice_index s.bytes (b - s.start) else 0) f)
        ∙ sym (ap (λ h. if h then v else byte_of s b) e)
    by false false e f =
        ap (λ h. if h then slice_index (slice_set s.bytes (a - s.start) v) (b - s.start) else 0) f
        ∙ sym (ap (λ h. if h then slice_index s.bytes (b - s.start) else 0) f)
        ∙ sym (ap (λ h. if h then v else byte_of s b) e)
