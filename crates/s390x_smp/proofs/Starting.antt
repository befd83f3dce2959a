-- How a simulation starts.
use Rattle.std.proofs.Common.{◌≡◌, ℕ, zero, suc, ◌+◌, ◌-◌, ◌%◌, ◌^◌, ◌<◌, List, [], ◌∷◌, ◌++◌, length, get_or, slice_index, replicate, Option, Some, None, Bool, true, false, cond, ◌==◌, ◌&&◌, ◌||◌, IsTrue, nat_le, nat_lt, inl, inr, refl, sym, ap, ap₂, ◌∙◌, subst, arith, leb-true, ltb-true, lt-ltb}
use Rattle.std.proofs.lemmas.Bool.{cases_lt, or_parts}
use Rattle.std.specs.BTreeMap.{get}
use Rattle.std.specs.Option.{is_some, unwrap_or}
use Rattle.std.specs.Ordering.{nat_cmp}
use Rattle.s390x_operations.specs.State.{is_within, number_at, wrapping_add64}
use Rattle.s390x_machine.specs.Regions.{byte_in, byte_of, covers, held_in, is_held}
use Rattle.s390x_machine.specs.State.{memory_of}
use Rattle.s390x_machine.specs.declared.flat.FlatMemory.{FlatMemory}
use Rattle.s390x_machine.specs.declared.machine.Machine.{Machine}
use Rattle.s390x_schedule.specs.Schedule.{Processor, processor_of, processors_of}
use Rattle.s390x_smp.specs.Image.{HasImage, code, image_at, image_byte, is_in_word, start_cause}
use Rattle.s390x_smp.specs.Simulation.{IsAdding, IsSimulation, IsStart, Simulation, is_placed, start_offset, start_processor, total}
use Rattle.s390x_smp.proofs.Memories.{none_within, usable}
use Rattle.s390x_smp.proofs.Places.{placed_from}
use Rattle.s390x_smp.proofs.Totals.{total_none}

-- ---- the memory

-- a region's addresses, counted from its start
covered : (s n a : ℕ) → (nat_le s a && nat_lt (a - s) n) ≡ (nat_le s a && nat_lt a (s + n))
covered s n a = go (nat_le s a) (nat_lt (a - s) n) (nat_lt a (s + n)) refl refl refl
  where
    go : (x y z : Bool) → nat_le s a ≡ x → nat_lt (a - s) n ≡ y → nat_lt a (s + n) ≡ z → (x && y) ≡ (x && z)
    go false y z e f g = refl
    go true true z e f g = let low = leb-true s a e in let high = ltb-true (a - s) n f in let h : a < s + n = omega (arith, low, high) in sym (lt-ltb a (s + n) h) ∙ g
    go true false true e f g = let low = leb-true s a e in let high = ltb-true a (s + n) g in let h : a - s < n = omega (arith, low, high) in sym f ∙ lt-ltb (a - s) n h
    go true false false e f g = refl

-- a byte that isn't accessible is 0
unheld : (m : FlatMemory) (a : ℕ) → is_held m a ≡ false → byte_of m a ≡ 0
unheld m a e =
    let p = or_parts (held_in m.regions.items a) (is_some (get nat_cmp m.older a)) e in
    ap (λ b. cond b (byte_in m.regions.items a) (unwrap_or (get nat_cmp m.older a) 0)) p.0 ∙ none (get nat_cmp m.older a) p.1
  where
    none : (o : Option ℕ) → is_some o ≡ false → unwrap_or o 0 ≡ 0
    none None e = refl
    none (Some x) e = absurd (cc)

zero_there : (i : ℕ) → slice_index (0 ∷ 0 ∷ 0 ∷ 0 ∷ []) i ≡ 0
zero_there (suc (suc (suc zero))) = refl
zero_there i = refl

-- what the two regions leave
pub record Regions (base word : ℕ) (empty first second : FlatMemory) : Type 0 where
  pub none : (a : ℕ) → is_held empty a ≡ false
  pub word_held : (a : ℕ) → is_held first a ≡ (covers word (0 ∷ 0 ∷ 0 ∷ 0 ∷ []) a || is_held empty a)
  pub word_filled : (a : ℕ) → byte_of first a ≡ cond (covers word (0 ∷ 0 ∷ 0 ∷ 0 ∷ []) a) (slice_index (0 ∷ 0 ∷ 0 ∷ 0 ∷ []) (a - word)) (byte_of empty a)
  pub code_held : (a : ℕ) → is_held second a ≡ (covers base code a || is_held first a)
  pub code_filled : (a : ℕ) → byte_of second a ≡ cond (covers base code a) (slice_index code (a - base)) (byte_of first a)

false_right : (b : Bool) → (b || false) ≡ b
false_right true = refl
false_right false = refl

module _ (base word : ℕ) (empty first second : FlatMemory) (r : Regions base word empty first second) where
  first_zero : (a : ℕ) → byte_of first a ≡ 0
  first_zero a = r.word_filled a ∙ go (covers word (0 ∷ 0 ∷ 0 ∷ 0 ∷ []) a)
    where
      go : (b : Bool) → cond b (slice_index (0 ∷ 0 ∷ 0 ∷ 0 ∷ []) (a - word)) (byte_of empty a) ≡ 0
      go true = zero_there (a - word)
      go false = unheld empty a (r.none a)

  byte_is : (a : ℕ) → byte_of second a ≡ image_byte base a
  byte_is a = r.code_filled a ∙ ap₂ (λ (b : Bool) (n : ℕ). cond b (slice_index code (a - base)) n) (covered base 24 a) (first_zero a)

  pub started_image : HasImage base word (memory_of (is_held second) (byte_of second))
  started_image = record {
    has = λ a. r.code_held a ∙ ap₂ (λ (x y : Bool). x || y) (covered base 24 a) (r.word_held a ∙ ap₂ (λ (x y : Bool). x || y) (covered word 4 a) (r.none a) ∙ false_right (is_in_word word a));
    get = λ a out. byte_is a;
  }

  -- a byte outside the image is 0
  outside_zero : (a : ℕ) → is_within (image_at base) a ≡ false → byte_of second a ≡ 0
  outside_zero a out = byte_is a ∙ ap (λ b. cond b (slice_index code (a - base)) 0) out

  pub started_word : start_cause base word ≡ None → word < 2 ^ 64 → number_at (byte_of second) word 4 ≡ 0
  started_word none below =
      let b0 = zero_at 0 (omega arith) in
      let b1 = zero_at 1 (omega arith) in
      let b2 = zero_at 2 (omega arith) in
      let b3 = zero_at 3 (omega arith) in
      omega (arith, b0, b1, b2, b3)
    where
      zero_at : (i : ℕ) → i < 4 → byte_of second (wrapping_add64 word i) ≡ 0
      zero_at i lt =
          let u = usable base word none in
          outside_zero (wrapping_add64 word i) (none_within (image_at base) word 4 i u.apart lt)

-- ---- the processors

-- so many processors at their beginnings
pub record StartedTo (base word : ℕ) (addends : List ℕ) (machines : List Machine) (n : ℕ) : Type 0 where
  pub count : length machines ≡ n
  pub each : (p : ℕ) → p < n → processors_of machines p ≡ start_processor base word p (get_or addends p 0)

before : (ms : List Machine) (m : Machine) (p : ℕ) → p < length ms → processors_of (ms ++ m ∷ []) p ≡ processors_of ms p
before [] m p lt = absurd (omega (arith, lt))
before (x ∷ ms) m zero lt = refl
before (x ∷ ms) m (suc p) lt = before ms m p (omega (arith, lt))

last : (ms : List Machine) (m : Machine) (p : ℕ) → p ≡ length ms → processors_of (ms ++ m ∷ []) p ≡ processor_of m
last [] m zero e = refl
last [] m (suc p) e = absurd (omega (arith, e))
last (x ∷ ms) m zero e = absurd (omega (arith, e))
last (x ∷ ms) m (suc p) e = last ms m p (omega (arith, e))

long : (ms : List Machine) (m : Machine) → length (ms ++ m ∷ []) ≡ length ms + 1
long [] m = refl
long (x ∷ ms) m = let e = long ms m in omega (arith, e)

pub one_more : (base word : ℕ) (addends : List ℕ) (ms all : List Machine) (m : Machine) (n : ℕ) → all ≡ ms ++ m ∷ [] → StartedTo base word addends ms n → processor_of m ≡ start_processor base word n (get_or addends n 0) → StartedTo base word addends all (n + 1)
one_more base word addends ms all m n is s e = subst (λ xs. StartedTo base word addends xs (n + 1)) (sym is) (record {
  count = long ms m ∙ ap (λ k. k + 1) s.count;
  each = λ p lt.
      let count = s.count in
      elim (cases_lt p n) [
        | inl less ↦ before ms m p (omega (arith, less, count)) ∙ s.each p less
        | inr more ↦
            let here : p ≡ n = omega (arith, lt, more) in
            last ms m p (omega (arith, here, count)) ∙ e ∙ ap (λ k. start_processor base word k (get_or addends k 0)) (sym here)
      ];
})

-- ---- the whole

at_beginning : (base word p addend : ℕ) → IsAdding base word addend (p % 2 == 0) (start_processor base word p addend)
at_beginning base word p addend = record { addend_is = refl; word_is = refl; link_is = refl; at = go (p % 2 == 0) (start_processor base word p addend) refl }
  where
    go : (b : Bool) (x : Processor) → x.address ≡ base + start_offset b → IsTrue (is_placed b base addend x)
    go true x e = let f : x.address ≡ base = omega (arith, e) in placed_from true base addend x (inl f)
    go false x e = placed_from false base addend x (inl e)

none_stored : (n p z : ℕ) → z ≡ 0 → get_or (replicate n z) p 0 ≡ 0
none_stored zero p z e = refl
none_stored (suc n) zero z e = e
none_stored (suc n) (suc p) z e = none_stored n p z e

long_zeros : (n z : ℕ) → length (replicate n z) ≡ n
long_zeros zero z = refl
long_zeros (suc n) z = ap suc (long_zeros n z)

-- a start is a simulation
pub start_simulates : (s : Simulation) (base word : ℕ) (addends : List ℕ) → start_cause base word ≡ None → word < 2 ^ 64 → IsStart base word addends s → IsSimulation s
start_simulates s base word addends none below h = record {
  usable = ap₂ start_cause h.base_is h.word_is ∙ none;
  below = let e = h.word_is in omega (arith, e, below);
  machines = h.machines.count ∙ sym (ap length h.addends_are);
  stores = ap length h.stores ∙ long_zeros (length addends) 0 ∙ sym (ap length h.addends_are);
  bounded = λ p. let e : get_or s.stores p 0 ≡ 0 = ap (λ ns. get_or ns p 0) h.stores ∙ none_stored (length addends) p 0 refl in omega (arith, e);
  each = λ p lt.
      subst (λ b. IsAdding b s.word (get_or s.addends p 0) (p % 2 == 0) (processors_of s.machines p)) (sym h.base_is)
      (subst (λ w. IsAdding base w (get_or s.addends p 0) (p % 2 == 0) (processors_of s.machines p)) (sym h.word_is)
      (subst (λ xs. IsAdding base word (get_or xs p 0) (p % 2 == 0) (processors_of s.machines p)) (sym h.addends_are)
      (subst (λ x. IsAdding base word (get_or addends p 0) (p % 2 == 0) x) (sym (h.machines.each p (subst (λ xs. p < length xs) h.addends_are lt)))
      (at_beginning base word p (get_or addends p 0)))));
  image = subst (λ b. HasImage b s.word s.memory) (sym h.base_is) (subst (λ w. HasImage base w s.memory) (sym h.word_is) h.image);
  sum =
      h.zero
      ∙ sym (ap₂ (λ xs ns. total xs ns % 2 ^ 32) h.addends_are h.stores ∙ ap (λ n. n % 2 ^ 32) (total_none addends (length addends)));
}

-- no cause
pub no_cause : {X : Type 0} (o : Option X) → ((x : X) → o ≡ Some x → ⊥) → o ≡ None
no_cause None h = refl
no_cause (Some x) h = absurd (h x refl)
