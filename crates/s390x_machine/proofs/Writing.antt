-- Bytes of a whole region become those of a number.
use Rattle.std.proofs.Common.{◌≡◌, ℕ, zero, suc, ◌-◌, ◌/◌, ◌%◌, ◌<◌, Bool, ◌||◌, if◌then◌else◌, List, [], ◌∷◌, Some, length, get_or, slice_index, refl, sym, ap, ap₂, ◌∙◌, subst, arith}
use Rattle.std.specs.Prelude.{slice_set}
use Rattle.std.specs.BTreeMap.{BTreeMap, get}
use Rattle.std.specs.Option.{unwrap_or}
use Rattle.std.specs.Ordering.{nat_cmp}
use Rattle.std.specs.Vec.{with_item, with_items}
use Rattle.std.proofs.lemmas.List.{get_or-set_same, length-set, set-set, with_items_is}
use Rattle.s390x_operations.specs.State.{Write, bytes_to, update, wrapping_add64, write_get}
use Rattle.s390x_machine.specs.Regions.{byte_by, byte_in, contains, has_address, held_in, write_bytes, HoldsAll, IsHolder}
use Rattle.s390x_machine.specs.declared.flat.Region.{Region}
use Rattle.s390x_machine.proofs.Folding.{byte_replaced}
use Rattle.s390x_machine.proofs.Regions.{byte_after, held_after, held_here, holder_after, IsChanged}

-- a region, with n of its bytes from an address on those of a number
pub record IsWritten (r new : Region) (a n v : ℕ) : Type 0 where
  pub start : new.start ≡ r.start
  pub bytes : new.bytes.items ≡ write_bytes r.start (bytes_to a n v) r.bytes.items

-- regions whose bytes are those of others, but for n of them from an address on
pub record AreWritten (rs ss : List Region) (older : BTreeMap ℕ ℕ) (a n v : ℕ) : Type 0 where
  pub held : (b : ℕ) → held_in ss b ≡ held_in rs b
  pub byte : (b : ℕ) → byte_by ss older b ≡ write_get (bytes_to a n v) (byte_by rs older) b
  pub stays : (b k : ℕ) → IsHolder rs b k → IsHolder ss b k

-- ---- none of them: the region has the same bytes

contains_same : (r new : Region) (b : ℕ) → new.start ≡ r.start → new.bytes.items ≡ r.bytes.items → contains new b ≡ contains r b
contains_same r new b start bytes = ap₂ (λ (s : ℕ) (bs : List ℕ). has_address s bs b) start bytes

held_same : (rs : List Region) (i : ℕ) (z new : Region) (b : ℕ) → new.start ≡ (get_or rs i z).start → new.bytes.items ≡ (get_or rs i z).bytes.items → held_in (slice_set rs i new) b ≡ held_in rs b
unfolding held_in
held_same [] i z new b start bytes = refl
held_same (r ∷ rs) zero z new b start bytes = ap (λ x. x || held_in rs b) (contains_same r new b start bytes)
held_same (r ∷ rs) (suc i) z new b start bytes = ap (λ x. contains r b || x) (held_same rs i z new b start bytes)

byte_same : (rs : List Region) (i : ℕ) (z new : Region) (b : ℕ) → new.start ≡ (get_or rs i z).start → new.bytes.items ≡ (get_or rs i z).bytes.items → byte_in (slice_set rs i new) b ≡ byte_in rs b
unfolding byte_in
byte_same [] i z new b start bytes = refl
byte_same (r ∷ rs) zero z new b start bytes = ap₂ (λ (s : ℕ) (bs : List ℕ). if has_address s bs b then slice_index bs (b - s) else byte_in rs b) start bytes
byte_same (r ∷ rs) (suc i) z new b start bytes = ap (λ x. if contains r b then slice_index r.bytes.items (b - r.start) else x) (byte_same rs i z new b start bytes)

-- an address is contained in region k as before
contains_at : (rs : List Region) (i : ℕ) (z new : Region) (b k : ℕ) (y : Region) → new.start ≡ (get_or rs i z).start → new.bytes.items ≡ (get_or rs i z).bytes.items → i < length rs → contains (get_or (slice_set rs i new) k y) b ≡ contains (get_or rs k y) b
contains_at (r ∷ rs) zero z new b zero y start bytes lt = contains_same r new b start bytes
contains_at (r ∷ rs) (suc i) z new b (suc k) y start bytes lt = contains_at rs i z new b k y start bytes (omega (arith, lt))
contains_at rs i z new b k y start bytes lt = refl

holder_same : (rs : List Region) (i : ℕ) (z new : Region) → new.start ≡ (get_or rs i z).start → new.bytes.items ≡ (get_or rs i z).bytes.items → i < length rs → (b k : ℕ) → IsHolder rs b k → IsHolder (slice_set rs i new) b k
holder_same rs i z new start bytes lt b k h = (
  subst (λ (n : ℕ). k < n) (sym (length-set rs i new)) h.0,
  (λ y. contains_at rs i z new b k y start bytes lt ∙ h.1 y),
  (λ j y less. contains_at rs i z new b j y start bytes lt ∙ h.2 j y less),
)

-- ---- each of them

pub are_written : (n : ℕ) (rs : List Region) (older : BTreeMap ℕ ℕ) (i a v : ℕ) (z new : Region) → i < length rs → HoldsAll (Some i) rs a n → IsWritten (get_or rs i z) new a n v → AreWritten rs (slice_set rs i new) older a n v
are_written zero rs older i a v z new lt holds w = record {
  held = λ b. held_same rs i z new b w.start w.bytes;
  byte = λ b. ap₂ (λ (h : Bool) (x : ℕ). if h then x else unwrap_or (get nat_cmp older b) 0) (held_same rs i z new b w.start w.bytes) (byte_same rs i z new b w.start w.bytes);
  stays = holder_same rs i z new w.start w.bytes lt;
}
are_written (suc n) rs older i a v z new lt holds w =
    let r = get_or rs i z in
    let b = wrapping_add64 a n in
    let middle : Region = record { start = r.start; bytes = with_item r.bytes (b - r.start) (v % 256) } in
    let changed : IsChanged r middle b (v % 256) = record { start = refl; bytes = refl } in
    let here : IsHolder rs b i = holds n (omega arith) in
    let ss = slice_set rs i middle in
    let held : (c : ℕ) → held_in ss c ≡ held_in rs c = λ c. held_after rs i b (v % 256) z middle c changed lt in
    let byte : (c : ℕ) → byte_by ss older c ≡ update (byte_by rs older) b (v % 256) c =
    λ c. byte_replaced rs ss older b (v % 256) c (held_here rs b i z lt here.2 (here.1 z)) (held c) (byte_after rs i b (v % 256) z middle c changed lt here.2 (here.1 z)) in
    let bytes : byte_by ss older ≡ update (byte_by rs older) b (v % 256) = λ j c. byte c j in
    let stays : (c k : ℕ) → IsHolder rs c k → IsHolder ss c k = holder_after rs i b (v % 256) z middle changed lt in
    let there : i < length ss = subst (λ (m : ℕ). i < m) (sym (length-set rs i middle)) lt in
    let rest : IsWritten middle new a n (v / 256) = record { start = w.start; bytes = w.bytes } in
    let left : IsWritten (get_or ss i z) new a n (v / 256) = subst (λ (q : Region). IsWritten q new a n (v / 256)) (sym (get_or-set_same rs i middle z lt)) rest in
    let after : AreWritten ss (slice_set ss i new) older a n (v / 256) = are_written n ss older i a (v / 256) z new there (λ k less. stays (wrapping_add64 a k) i (holds k (omega arith))) left in
    let whole : AreWritten rs (slice_set ss i new) older a (suc n) v = record {
      held = λ c. after.held c ∙ held c;
      byte = λ c. after.byte c ∙ ap (λ (f : ℕ → ℕ). write_get (bytes_to a n (v / 256)) f c) bytes;
      stays = λ c k h. after.stays c k (stays c k h);
    } in
    subst (λ (ts : List Region). AreWritten rs ts older a (suc n) v) (set-set rs i middle new) whole

-- ---- eight of them

same_set : (bs cs : List ℕ) (p x y : ℕ) → bs ≡ cs → x ≡ y → slice_set bs p x ≡ slice_set cs p y
same_set bs cs p x y e h = ap₂ (λ (u : List ℕ) (z : ℕ). slice_set u p z) e h

-- eight bytes hold a number's low 64 bits
pub low_bits : (start : ℕ) (bytes : List ℕ) (a v : ℕ) → write_bytes start (bytes_to a 8 (v % 18446744073709551616)) bytes ≡ write_bytes start (bytes_to a 8 v) bytes
low_bits start bytes a v =
    let w = v % 18446744073709551616 in
    let b0 : w % 256 ≡ v % 256 = omega arith in
    let b1 : w / 256 % 256 ≡ v / 256 % 256 = omega arith in
    let b2 : w / 256 / 256 % 256 ≡ v / 256 / 256 % 256 = omega arith in
    let b3 : w / 256 / 256 / 256 % 256 ≡ v / 256 / 256 / 256 % 256 = omega arith in
    let b4 : w / 256 / 256 / 256 / 256 % 256 ≡ v / 256 / 256 / 256 / 256 % 256 = omega arith in
    let b5 : w / 256 / 256 / 256 / 256 / 256 % 256 ≡ v / 256 / 256 / 256 / 256 / 256 % 256 = omega arith in
    let b6 : w / 256 / 256 / 256 / 256 / 256 / 256 % 256 ≡ v / 256 / 256 / 256 / 256 / 256 / 256 % 256 = omega arith in
    let b7 : w / 256 / 256 / 256 / 256 / 256 / 256 / 256 % 256 ≡ v / 256 / 256 / 256 / 256 / 256 / 256 / 256 % 256 = omega arith in
    same_set _ _ _ _ _ (same_set _ _ _ _ _ (same_set _ _ _ _ _ (same_set _ _ _ _ _ (same_set _ _ _ _ _ (same_set _ _ _ _ _ (same_set _ _ _ _ _ (same_set bytes bytes _ _ _ refl b0) b1) b2) b3) b4) b5) b6) b7

written_length : (start : ℕ) (ws : List Write) (bytes : List ℕ) → length (write_bytes start ws bytes) ≡ length bytes
written_length start [] bytes = refl
written_length start (w ∷ ws) bytes = written_length start ws (slice_set bytes (w.address - start) w.byte) ∙ length-set bytes (w.address - start) w.byte

-- a region whose bytes were written, eight of them
pub is_written : (r z : Region) (old new : List ℕ) (a v : ℕ) → z ≡ r → old ≡ z.bytes.items → new ≡ write_bytes z.start (bytes_to a 8 (v % 18446744073709551616)) old →
    IsWritten r (record { start = z.start; bytes = with_items z.bytes new }) a 8 v
is_written r z old new a v e at is =
    let whole : new ≡ write_bytes z.start (bytes_to a 8 v) z.bytes.items = is ∙ low_bits z.start old a v ∙ ap (λ (bs : List ℕ). write_bytes z.start (bytes_to a 8 v) bs) at in
    let long : length new ≡ z.bytes.len = ap (λ (bs : List ℕ). length bs) whole ∙ written_length z.start (bytes_to a 8 v) z.bytes.items ∙ sym z.bytes.ok.0 in
    record {
      start = ap (λ (q : Region). q.start) e;
      bytes = with_items_is z.bytes new long ∙ whole ∙ ap (λ (q : Region). write_bytes q.start (bytes_to a 8 v) q.bytes.items) e;
    }
