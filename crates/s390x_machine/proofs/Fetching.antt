-- A row whose bytes lie in the image is what the machine does at its place, wherever the image lies in memory.
use Rattle.std.proofs.Common.{◌≡◌, ℕ, zero, suc, ◌+◌, ◌-◌, ◌%◌, ◌^◌, ◌<◌, ◌≤◌, List, [], ◌∷◌, ◌++◌, length, get_or, Bool, ◌&&◌, IsTrue, slice_index, refl, sym, ap, ap₂, ◌∙◌, subst, arith, length-append, le-leb, lt-ltb}
use Rattle.std.proofs.lemmas.List.{get_or_append_left, get_or-append-add}
use Rattle.s390x_format.specs.declared.kind.FormatKind.{FormatKind}
use Rattle.s390x_format.specs.declared.kind.FormatKind.TheVariants.{E}
use Rattle.s390x_format.specs.declared.decoder.Decoded.{Decoded}
use Rattle.s390x_format.specs.Layout.{SlotsFit}
use Rattle.s390x_format.specs.Formats.{layout_of, length_of}
use Rattle.s390x_format.specs.Reading.{encode}
use Rattle.s390x_format.specs.Rows.{fetch_length_of}
use Rattle.s390x_format.specs.Fetch.{IsFetch, machine_rows}
use Rattle.s390x_format.specs.Encoded.{IsEncoded, decoded_of}
use Rattle.s390x_format.proofs.Encoding.{encode-length}
use Rattle.s390x_format.proofs.FormatFacts.{length_some}
use Rattle.s390x_typed_steps.specs.MachineInstruction.{MachineInstruction, bytes_of, size_of}
use Rattle.s390x_operations.specs.State.{Registers, Memory, State, wrapping_add64, CodeImage, is_within, IsLoaded, bytes_from, bytes_at, reaches}
use Rattle.s390x_machine.specs.declared.action_type.Action.{Action}
use Rattle.s390x_machine.specs.Fetch.{Fetched, Misplaced, Missing, Unknown, Found, IsReached, IsFound, Fetches, length_at, instruction_bytes}
use Rattle.s390x_machine.specs.Machine.{Event, ActionStep, FetchedStep}
use Rattle.s390x_machine.specs.Layout.{Layout}
use Rattle.s390x_machine.proofs.Decoding.{one_fetch, none_begins, encoded_fetched, encoded_length}
use Rattle.s390x_machine.proofs.Simulation.{RowAt}

pub size_even : (kind : FormatKind) → length_of kind % 2 ≡ 0
unfolding length_of
size_even E = refl
size_even _ = refl

pub is_within_at : (image : CodeImage) (i : ℕ) → i < length image.bytes → IsTrue (is_within image (image.base + i))
is_within_at image i lt =
    let a : image.base ≤ image.base + i = omega arith in
    let b : image.base + i < image.base + length image.bytes = omega arith in
    ap₂ (λ x y. x && y) (le-leb image.base (image.base + i) a) (lt-ltb (image.base + i) (image.base + length image.bytes) b)

-- the bytes from a place on are those of a list
pub bytes_are : (f : ℕ → ℕ) (a i : ℕ) (xs : List ℕ) → ((j : ℕ) → j < length xs → f (wrapping_add64 a (i + j)) ≡ get_or xs j 0) → bytes_from f a i (length xs) ≡ xs
bytes_are f a i [] h = refl
bytes_are f a i (x ∷ xs) h =
    let e : i + 0 ≡ i = omega arith in
    let first : f (wrapping_add64 a i) ≡ x = ap (λ n. f (wrapping_add64 a n)) (sym e) ∙ h 0 (omega arith) in
    ap₂ (λ (y : ℕ) (ys : List ℕ). y ∷ ys) first (bytes_are f a (suc i) xs (λ j lt.
    let s : suc i + j ≡ i + suc j = omega arith in
    ap (λ n. f (wrapping_add64 a n)) s ∙ h (suc j) (omega arith)))

both : (a b : Bool) → IsTrue a → IsTrue b → IsTrue (a && b)
both a b p q = ap₂ (λ x y. x && y) p q

pub reached_all : (has : ℕ → Bool) (a n : ℕ) → ((i : ℕ) → i < n → IsTrue (has (wrapping_add64 a i))) → IsTrue (reaches has a n)
reached_all has a zero h = refl
reached_all has a (suc n) h = both (has (wrapping_add64 a n)) (reaches has a n) (h n (omega arith)) (reached_all has a n (λ i lt. h i (omega arith)))

-- the bytes stand in the image at an even offset
pub record StandsAt (image : CodeImage) (offset : ℕ) (bytes : List ℕ) : Type 0 where
  pub earlier : List ℕ
  pub later : List ℕ
  pub at : offset ≡ length earlier
  pub is : image.bytes ≡ earlier ++ (bytes ++ later)

-- byte i of them in the image
pub image_byte : (image : CodeImage) (offset i : ℕ) (bytes : List ℕ) → StandsAt image offset bytes → i < length bytes → slice_index image.bytes (offset + i) ≡ get_or bytes i 0
image_byte image offset i bytes s lt =
    ap (λ k. slice_index image.bytes (k + i)) s.at ∙ ap (λ l. slice_index l (length s.earlier + i)) s.is ∙ get_or-append-add s.earlier (bytes ++ s.later) i 0 ∙ get_or_append_left bytes s.later 0 i lt

-- byte i of them in memory
pub byte_at : (image : CodeImage) (m : Memory) (offset i : ℕ) (bytes : List ℕ) → image.base + length image.bytes ≤ 2 ^ 64 → IsLoaded image m → StandsAt image offset bytes → i < length bytes →
    IsTrue (m.has (wrapping_add64 (wrapping_add64 image.base offset) i)) × (m.get (wrapping_add64 (wrapping_add64 image.base offset) i) ≡ get_or bytes i 0)
byte_at image m offset i bytes fits is_loaded s lt =
    let n1 = ap length s.is in
    let n2 = length-append s.earlier (bytes ++ s.later) in
    let n3 = length-append bytes s.later in
    let inside : offset + i < length image.bytes = omega (arith, n1, n2, n3, s.at) in
    let p : wrapping_add64 (wrapping_add64 image.base offset) i ≡ image.base + (offset + i) = omega (arith, inside, fits) in
    let within = is_within_at image (offset + i) inside in
    let back : image.base + (offset + i) - image.base ≡ offset + i = omega arith in (
      subst (λ a. IsTrue (m.has a)) (sym p) (is_loaded.has (image.base + (offset + i)) within),
      ap m.get p ∙ is_loaded.get (image.base + (offset + i)) within ∙ ap (λ k. slice_index image.bytes k) back ∙ image_byte image offset i bytes s lt,
    )

-- what is fetched is the row, and nothing else
settled : (m : Memory) (p : ℕ) (d : Decoded) → IsFound m p d → (f : Fetched) → Fetches m p f → f ≡ Found d
settled m p d found Misplaced h = absurd (omega (arith, found.even, h))
settled m p d found Missing h = absurd (h.1 found.reached)
settled m p d found Unknown h = absurd (h.2 d found.row)
settled m p d found (Found e) h = ap Found (one_fetch (instruction_bytes m p) e d h.row found.row)

-- where the first byte is zero, there is no instruction
nothing : (m : Memory) (p : ℕ) → p % 2 ≡ 0 → IsReached m p → get_or (instruction_bytes m p) 0 0 ≡ 0 → (f : Fetched) → Fetches m p f → f ≡ Unknown
nothing m p even reached first Misplaced h = absurd (omega (arith, even, h))
nothing m p even reached first Missing h = absurd (h.1 reached)
nothing m p even reached first Unknown h = refl
nothing m p even reached first (Found d) h = absurd (none_begins (instruction_bytes m p) d h.row first)

pub nothing_at : (image : CodeImage) (m : Memory) (offset second : ℕ) → image.base % 2 ≡ 0 → offset % 2 ≡ 0 → image.base + length image.bytes ≤ 2 ^ 64 → IsLoaded image m → StandsAt image offset (0 ∷ second ∷ []) → (f : Fetched) → Fetches m (wrapping_add64 image.base offset) f → f ≡ Unknown
nothing_at image m offset second even_base even_offset fits is_loaded s f h =
    let p = wrapping_add64 image.base offset in
    let each = λ (i : ℕ) (lt : i < 2). byte_at image m offset i (0 ∷ second ∷ []) fits is_loaded s lt in
    let same : wrapping_add64 p 0 ≡ p = omega arith in
    let here : m.get (wrapping_add64 p 0) ≡ 0 = (each 0 (omega arith)).1 in
    let tells : length_at m p ≡ 2 = ap fetch_length_of (ap m.get (sym same) ∙ here) in
    let reached : IsReached m p = (subst (λ a. IsTrue (m.has a)) same (each 0 (omega arith)).0, subst (λ n. IsTrue (reaches m.has p n)) (sym tells) (reached_all m.has p 2 (λ i lt. (each i lt).0))) in
    let first : get_or (instruction_bytes m p) 0 0 ≡ 0 = ap (λ n. get_or (bytes_at m.get p n) 0 0) tells ∙ here in
    nothing m p (omega (arith, even_base, even_offset)) reached first f h

-- what stands at a place is one thing
pub one_thing : (m : Memory) (p : ℕ) (f g : Fetched) → Fetches m p f → Fetches m p g → f ≡ g
one_thing m p Misplaced Missing h k = absurd (omega (arith, h, k.0))
one_thing m p Misplaced Unknown h k = absurd (omega (arith, h, k.0))
one_thing m p Misplaced (Found d) h k = absurd (omega (arith, h, k.even))
one_thing m p Missing Misplaced h k = absurd (omega (arith, h.0, k))
one_thing m p Missing Unknown h k = absurd (h.1 k.1)
one_thing m p Missing (Found d) h k = absurd (h.1 k.reached)
one_thing m p Unknown Misplaced h k = absurd (omega (arith, h.0, k))
one_thing m p Unknown Missing h k = absurd (k.1 h.1)
one_thing m p Unknown (Found d) h k = absurd (h.2 d k.row)
one_thing m p (Found d) g h k = sym (settled m p d h g k)
one_thing m p f g h k = refl

pub found_at : (image : CodeImage) (m : Memory) (offset : ℕ) (kind : FormatKind) (slots : List ℕ) → image.base % 2 ≡ 0 → offset % 2 ≡ 0 → image.base + length image.bytes ≤ 2 ^ 64 → IsLoaded image m → StandsAt image offset (encode kind slots) → SlotsFit (layout_of kind) slots → IsEncoded machine_rows kind slots →
    IsFound m (wrapping_add64 image.base offset) (decoded_of kind slots)
found_at image m offset kind slots even_base even_offset fits is_loaded s fit e =
    let p = wrapping_add64 image.base offset in
    let long : length (encode kind slots) ≡ length_of kind = encode-length kind slots in
    let some = length_some kind in
    let each = λ (i : ℕ) (lt : i < length (encode kind slots)). byte_at image m offset i (encode kind slots) fits is_loaded s lt in
    let zero_in : 0 < length (encode kind slots) = omega (arith, long, some) in
    let same : wrapping_add64 p 0 ≡ p = omega arith in
    let tells : length_at m p ≡ length_of kind = ap fetch_length_of (ap m.get (sym same) ∙ (each 0 zero_in).1) ∙ encoded_length kind slots fit e in
    let here : instruction_bytes m p ≡ encode kind slots =
    ap (λ n. bytes_at m.get p n) (tells ∙ sym long) ∙ bytes_are m.get p 0 (encode kind slots) (λ j lt. let z : 0 + j ≡ j = omega arith in ap (λ n. m.get (wrapping_add64 p n)) z ∙ (each j lt).1) in
    record {
      even = omega (arith, even_base, even_offset);
      reached = (subst (λ a. IsTrue (m.has a)) same (each 0 zero_in).0, subst (λ n. IsTrue (reaches m.has p n)) (sym tells) (reached_all m.has p (length_of kind) (λ i lt. (each i (omega (arith, long, lt))).0)));
      row = subst (λ bytes. IsFetch bytes (decoded_of kind slots)) (sym here) (encoded_fetched kind slots fit e);
    }

-- a row at its place
pub row_at : (L : Layout) (offset : ℕ) (m : MachineInstruction) (act : Registers → Action) → L.image.base % 2 ≡ 0 → offset % 2 ≡ 0 → L.image.base + length L.image.bytes ≤ 2 ^ 64 → StandsAt L.image offset (bytes_of m) → SlotsFit (layout_of m.format) m.slots → IsEncoded machine_rows m.format m.slots →
    ((s : State) (event : Event) (t : State) → s.address ≡ wrapping_add64 L.image.base offset → FetchedStep (Found (decoded_of m.format m.slots)) s event t → ActionStep (act s.core.registers) (size_of m) s event t) → RowAt L (wrapping_add64 L.image.base offset) act (size_of m)
row_at L offset m act even_base even_offset fits s fit e means state at is_loaded event t step =
    let found = found_at L.image state.core.memory offset m.format m.slots even_base even_offset fits is_loaded s fit e in
    let same = settled state.core.memory (wrapping_add64 L.image.base offset) (decoded_of m.format m.slots) found step.fetched (subst (λ p. Fetches state.core.memory p step.fetched) at step.fetches) in
    means state event t at (subst (λ f. FetchedStep f state event t) same step.acts)
