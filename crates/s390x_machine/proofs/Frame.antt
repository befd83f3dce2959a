-- The image stays in memory.
use Rattle.std.proofs.Common.{Option, Some, None, ◌≡◌, ℕ, zero, suc, ◌-◌, ◌%◌, ◌/◌, List, [], ◌∷◌, ◌++◌, Bool, true, false, cond, ◌||◌, ◌==◌, IsTrue, IsFalse, slice_index, refl, sym, ap, ◌∙◌, true≢false, eqb-true}
use Rattle.s390x_operations.specs.State.{Memory, Core, update, wrapping_add64, Write, write_get, core_after_writes, bytes_to, StoreEvent, after_store, IsDisjoint, CodeImage, is_within, overlaps, IsLoaded, MayWrite, number_at}
use Rattle.s390x_operations.specs.Access.{Access, Untouched, Reads, Stores, Locks, change_result, store_event, store_event_at, stores_into}

pub or_left : (a b : Bool) → IsFalse (a || b) → IsFalse a
or_left true b e = e
or_left false b e = refl

pub or_right : (a b : Bool) → IsFalse (a || b) → IsFalse b
or_right true b e = absurd (true≢false e)
or_right false b e = e

lies_update : (image : CodeImage) (has : ℕ → Bool) (f : ℕ → ℕ) (a v : ℕ) → IsLoaded image (record { has = has; get = f }) → IsFalse (is_within image a) → IsLoaded image (record { has = has; get = update f a v })
lies_update image has f a v l out = record {
  has = l.has;
  get = λ k h. go k h (k == a) refl;
}
  where
    go : (k : ℕ) → IsTrue (is_within image k) → (t : Bool) → (k == a) ≡ t → cond t v (f k) ≡ slice_index image.bytes (k - image.base)
    go k h false e = l.get k h
    go k h true e = absurd (true≢false (sym h ∙ ap (λ n. is_within image n) (eqb-true k a e) ∙ out))

pub lies_written : (image : CodeImage) (has : ℕ → Bool) (f : ℕ → ℕ) (ws : List Write) → IsLoaded image (record { has = has; get = f }) → MayWrite image has ws → IsLoaded image (record { has = has; get = write_get ws f })
lies_written image has f [] l may = l
lies_written image has f (w ∷ ws) l may = lies_written image has (update f w.address w.byte) ws (lies_update image has f w.address w.byte l may.1) may.3

pub lies_bytes : (image : CodeImage) (has : ℕ → Bool) (f : ℕ → ℕ) (a n v : ℕ) → IsLoaded image (record { has = has; get = f }) → IsFalse (overlaps image a n) → IsLoaded image (record { has = has; get = write_get (bytes_to a n v) f })
lies_bytes image has f a zero v l out = l
lies_bytes image has f a (suc n) v l out =
    lies_bytes image has (update f (wrapping_add64 a n) (v % 256)) a n (v / 256) (lies_update image has f (wrapping_add64 a n) (v % 256) l (or_left _ _ out)) (or_right _ _ out)

pub loaded_after_store : (image : CodeImage) (x : Option StoreEvent) (m : Memory) → IsLoaded image m → IsDisjoint image x → IsLoaded image (after_store x m)
loaded_after_store image None m l out = l
loaded_after_store image (Some x) m l out = lies_bytes image m.has m.get x.address x.size x.value l out

apart_at : (image : CodeImage) (a n : ℕ) (o : Option ℕ) → IsFalse (overlaps image a n) → IsDisjoint image (store_event_at a n o)
apart_at image a n None out = tt
apart_at image a n (Some v) out = out

-- an access that doesn't touch the image stores nothing into it
pub apart_of : (image : CodeImage) (x : Access) (m : Memory) → IsFalse (stores_into image x) → IsDisjoint image (store_event x m)
apart_of image Untouched m out = tt
apart_of image (Reads aligned a n) m out = tt
apart_of image (Stores aligned a n v) m out = out
apart_of image (Locks a n change) m out = apart_at image a n (change_result change (number_at m.get a n)) out

write_append : (ws vs : List Write) (f : ℕ → ℕ) → write_get vs (write_get ws f) ≡ write_get (ws ++ vs) f
write_append [] vs f = refl
write_append (w ∷ ws) vs f = write_append ws vs (update f w.address w.byte)

pub written_append : (ws vs : List Write) (c : Core) → core_after_writes vs (core_after_writes ws c) ≡ core_after_writes (ws ++ vs) c
written_append ws vs c = ap (λ (g : ℕ → ℕ). record { registers = c.registers; memory = record { has = c.memory.has; get = g } }) (write_append ws vs c.memory.get)
