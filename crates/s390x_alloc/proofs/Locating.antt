-- How a map of locations follows what is held.
use Rattle.std.proofs.Common.{◌≡◌, ℕ, zero, suc, ◌+◌, ◌<◌, ◌≤◌, Bool, true, false, cond, List, [], ◌∷◌, ◌++◌, length, Option, Some, None, ◌⊎◌, inl, inr, slice_get, refl, sym, ap, subst, ◌∙◌, arith}
use Rattle.std.specs.Prelude.{◌&&◌, ◌||◌, not, filter, nat_eq}
use Rattle.std.specs.List.{list_any}
use Rattle.std.proofs.lemmas.Bool.{cases_lt, cond-true, eqb-true, false≢true}
use Rattle.s390x_base.specs.Registers.{RealRegister}
use Rattle.s390x_base.specs.declared.regs.Reg.{Reg}
use Rattle.s390x_base.specs.declared.regs.Reg.TheVariants.{Real, Virtual}
use Rattle.s390x_base.specs.declared.regs.RegClass.{RegClass}
use Rattle.s390x_base.specs.declared.regs.RegClass.TheVariants.{Int, Float}
use Rattle.s390x_base.specs.declared.sets.PRegSet.{PRegSet}
use Rattle.s390x_alloc.specs.declared.location_map.LocationMap.{LocationMap}
use Rattle.s390x_alloc.specs.declared.place_values.PlaceValues.{PlaceValues}
use Rattle.s390x_alloc.specs.declared.plan.EntryPair.{EntryPair}
use Rattle.s390x_alloc.specs.declared.plan.Place.{Place}
use Rattle.s390x_alloc.specs.declared.plan.Place.TheVariants.{Reg as InReg}
use Rattle.s390x_alloc.specs.declared.register_homes.RegisterHomes.{RegisterHomes}
use Rattle.s390x_alloc.specs.declared.register_set.RegisterSet.{RegisterSet}
use Rattle.s390x_alloc.specs.Contents.{carried_pairs, holds, is_in_set, contents_after_move, with_output, without_place}
use Rattle.s390x_alloc.specs.Moves.{holds_other_class, is_of_other_class}
use Rattle.s390x_alloc.specs.Locations.{IsAlone, IsApart, IsMapOf, at_value, in_set, is_located, is_value_of, pair_of, value_of}
use Rattle.s390x_alloc.specs.Registers.{HasNoOther, HasOther, has_register, is_home, same_virtual}
use Rattle.s390x_alloc.specs.Same.{same_class, same_pair, same_place, same_register}
use Rattle.s390x_alloc.proofs.Sameness.{class-same, number-self, pair-same, place-same, place-self}

-- ---- truth values

or_assoc : (a b c : Bool) → ((a || b) || c) ≡ (a || (b || c))
or_assoc true b c = refl
or_assoc false b c = refl

and_swap : (a b : Bool) → (a && b) ≡ (b && a)
and_swap true true = refl
and_swap true false = refl
and_swap false true = refl
and_swap false false = refl

-- a value that is dropped where a test holds
dropped : (b t : Bool) → cond b false t ≡ (t && not b)
dropped true true = refl
dropped true false = refl
dropped false true = refl
dropped false false = refl

-- two tests with the same consequences
one_truth : (a b : Bool) → (a ≡ true → b ≡ true) → (b ≡ true → a ≡ true) → a ≡ b
one_truth true true f g = refl
one_truth true false f g = absurd (false≢true (f refl))
one_truth false true f g = absurd (false≢true (g refl))
one_truth false false f g = refl

-- ---- the same, the other way round

pub place_turned : (p q : Place) → same_place p q ≡ same_place q p
place_turned p q = one_truth (same_place p q) (same_place q p) (λ h. turned p q h) (λ h. turned q p h)
  where
    turned : (x y : Place) → same_place x y ≡ true → same_place y x ≡ true
    turned x y h = ap (λ z. same_place z x) (sym (place-same x y h)) ∙ place-self x

virtual_same : (n : ℕ) (c : RegClass) (m : ℕ) (d : RegClass) → same_virtual n c m d ≡ true → (n ≡ m) × (c ≡ d)
virtual_same n c m d h = let a = both (nat_eq n m) (same_class c d) h in (eqb-true n m a.0, class-same c d a.1)
  where
    both : (a b : Bool) → (a && b) ≡ true → (a ≡ true) × (b ≡ true)
    both true true e = (refl, refl)
    both true false e = absurd cc
    both false b e = absurd cc

virtual_self : (n : ℕ) (c : RegClass) → same_virtual n c n c ≡ true
virtual_self n Int = ap (λ b. b && true) (number-self n)
virtual_self n Float = ap (λ b. b && true) (number-self n)

virtual_turned : (n : ℕ) (c : RegClass) (m : ℕ) (d : RegClass) → same_virtual n c m d ≡ same_virtual m d n c
virtual_turned n c m d = one_truth (same_virtual n c m d) (same_virtual m d n c) (λ h. turned n c m d h) (λ h. turned m d n c h)
  where
    turned : (n : ℕ) (c : RegClass) (m : ℕ) (d : RegClass) → same_virtual n c m d ≡ true → same_virtual m d n c ≡ true
    turned n c m d h =
        let e = virtual_same n c m d h in
        ap (λ k. same_virtual k d n c) (sym e.0) ∙ ap (λ x. same_virtual n x n c) (sym e.1) ∙ virtual_self n c

-- ---- which pairs are held

holds_append : (xs ys : List EntryPair) (x : EntryPair) → holds (xs ++ ys) x ≡ (holds xs x || holds ys x)
holds_append [] ys x = refl
holds_append (y ∷ xs) ys x = ap (λ b. same_pair y x || b) (holds_append xs ys x) ∙ sym (or_assoc (same_pair y x) (holds xs x) (holds ys x))

holds_filter : (keep : EntryPair → Bool) (xs : List EntryPair) (x : EntryPair) → holds (filter keep xs) x ≡ (holds xs x && keep x)
holds_filter keep [] x = refl
holds_filter keep (y ∷ xs) x =
    pushed (keep y)
    ∙ ap (λ b. cond (keep y) (same_pair y x || b) b) (holds_filter keep xs x)
    ∙ kept (keep y) (same_pair y x) (holds xs x) (keep x) (λ e. ap keep (pair-same y x e))
  where
    pushed : (b : Bool) → holds (cond b (y ∷ filter keep xs) (filter keep xs)) x ≡ cond b (same_pair y x || holds (filter keep xs) x) (holds (filter keep xs) x)
    pushed true = refl
    pushed false = refl

    kept : (k s h j : Bool) → (s ≡ true → k ≡ j) → cond k (s || (h && j)) (h && j) ≡ ((s || h) && j)
    kept true true h j e = e refl
    kept false true true true e = refl
    kept false true false true e = e refl
    kept k s h j e = refl

holds_carried : (to from : Place) (xs : List EntryPair) (q : Place) (n : ℕ) (c : RegClass) → holds (carried_pairs to from xs) (pair_of q n c) ≡ (same_place to q && holds xs (pair_of from n c))
holds_carried to from [] q n c = never (same_place to q)
  where
    never : (b : Bool) → false ≡ (b && false)
    never true = refl
    never false = refl
holds_carried to from (y ∷ xs) q n c =
    pushed (same_place y.place from)
    ∙ ap (λ b. cond (same_place y.place from) ((same_place to q && same_register y.vreg (Virtual n c)) || b) b) (holds_carried to from xs q n c)
    ∙ gathered (same_place y.place from) (same_place to q) (same_register y.vreg (Virtual n c)) (holds xs (pair_of from n c))
  where
    moved_pair : EntryPair
    moved_pair = record { place = to; vreg = y.vreg }

    pushed : (b : Bool) → holds (cond b (record { place = to; vreg = y.vreg } ∷ carried_pairs to from xs) (carried_pairs to from xs)) (pair_of q n c)
        ≡ cond b ((same_place to q && same_register y.vreg (Virtual n c)) || holds (carried_pairs to from xs) (pair_of q n c)) (holds (carried_pairs to from xs) (pair_of q n c))
    pushed true = refl
    pushed false = refl

    gathered : (a t r h : Bool) → cond a ((t && r) || (t && h)) (t && h) ≡ (t && ((a && r) || h))
    gathered true true r h = refl
    gathered true false r h = refl
    gathered false true r h = refl
    gathered false false r h = refl

-- ---- a place is cleared, or gets what another one has

located_cond : (sets : List RegisterSet) (b : Bool) (x y : Option ℕ) (n : ℕ) (c : RegClass) → at_value sets (cond b x y) n c ≡ cond b (at_value sets x n c) (at_value sets y n c)
located_cond sets true x y n c = refl
located_cond sets false x y n c = refl

some_of_none : (b : Bool) (o : Option ℕ) (v : ℕ) → cond b None o ≡ Some v → (b ≡ false) × (o ≡ Some v)
some_of_none true o v h = absurd cc
some_of_none false o v h = (refl, h)

some_of_either : (b : Bool) (x o : Option ℕ) (v : ℕ) → cond b x o ≡ Some v → ((b ≡ true) × (x ≡ Some v)) ⊎ ((b ≡ false) × (o ≡ Some v))
some_of_either true x o v h = inl (refl, h)
some_of_either false x o v h = inr (refl, h)

-- the values are others, and the sets and homes stay
abbrev pub with_values : PlaceValues → LocationMap → LocationMap
with_values values m = record { values = values; sets = m.sets; homes = m.homes }

module _ (m : LocationMap) (held : List EntryPair) (is : IsMapOf m held) (values : PlaceValues) where
  -- places that pass a test are cleared
  map_cleared : (test : Place → Bool) → ((q : Place) → value_of values q ≡ cond (test q) None (value_of m.values q)) → IsMapOf (with_values values m) (filter (λ (x : EntryPair). not (test x.place)) held)
  map_cleared test now = record {
    same = λ q n c.
        ap (λ o. at_value m.sets.items o n c) (now q)
        ∙ located_cond m.sets.items (test q) None (value_of m.values q) n c
        ∙ dropped (test q) (is_located m q n c)
        ∙ ap (λ b. b && not (test q)) (is.same q n c)
        ∙ sym (holds_filter (λ (x : EntryPair). not (test x.place)) held (pair_of q n c));
    homes = is.homes;
    below = λ q v h. is.below q v (some_of_none (test q) (value_of m.values q) v (sym (now q) ∙ h)).1;
  }

  pub map_dropped : (p : Place) → ((q : Place) → value_of values q ≡ cond (same_place q p) None (value_of m.values q)) → IsMapOf (with_values values m) (without_place p held)
  map_dropped p now = map_cleared (λ q. same_place q p) now

  pub map_set_dropped : (s : PRegSet) → ((q : Place) → value_of values q ≡ cond (is_in_set s q) None (value_of m.values q)) → IsMapOf (with_values values m) (filter (λ (x : EntryPair). not (is_in_set s x.place)) held)
  map_set_dropped s now = map_cleared (is_in_set s) now

  pub map_moved : (to from : Place) → ((q : Place) → value_of values q ≡ cond (same_place q to) (value_of m.values from) (value_of m.values q)) → IsMapOf (with_values values m) (contents_after_move to from held)
  map_moved to from now = record {
    same = λ q n c.
        ap (λ o. at_value m.sets.items o n c) (now q)
        ∙ located_cond m.sets.items (same_place q to) (value_of m.values from) (value_of m.values q) n c
        ∙ ap (λ b. cond (same_place q to) b (is_located m q n c)) (is.same from n c)
        ∙ ap (λ b. cond (same_place q to) (holds held (pair_of from n c)) b) (is.same q n c)
        ∙ either (same_place q to) (holds held (pair_of from n c)) (holds held (pair_of q n c))
        ∙ ap (λ b. (holds held (pair_of q n c) && not (same_place q to)) || (b && holds held (pair_of from n c))) (place_turned q to)
        ∙ ap (λ b. b || (same_place to q && holds held (pair_of from n c))) (sym (holds_filter (λ (x : EntryPair). not (same_place x.place to)) held (pair_of q n c)))
        ∙ ap (λ b. holds (without_place to held) (pair_of q n c) || b) (sym (holds_carried to from held q n c))
        ∙ sym (holds_append (without_place to held) (carried_pairs to from held) (pair_of q n c));
    homes = is.homes;
    below = λ q v h. elim (some_of_either (same_place q to) (value_of m.values from) (value_of m.values q) v (sym (now q) ∙ h)) [
      | inl e ↦ is.below from v e.1
      | inr e ↦ is.below q v e.1
    ];
  }
    where
      either : (b x y : Bool) → cond b x y ≡ ((y && not b) || (b && x))
      either true x true = refl
      either true x false = refl
      either false x true = refl
      either false x false = refl

-- ---- a register is taken out of all sets

pub map_forgotten : (m new : LocationMap) (held : List EntryPair) (k : ℕ) (d : RegClass) → IsMapOf m held → new.values ≡ m.values → length new.sets.items ≡ length m.sets.items →
    ((v n : ℕ) (c : RegClass) → is_value_of new.sets.items v n c ≡ (not (same_virtual n c k d) && is_value_of m.sets.items v n c)) →
    ((n : ℕ) (c : RegClass) (h : ℕ) → same_virtual n c k d ≡ false → is_home new.homes n c h ≡ is_home m.homes n c h) →
    IsMapOf new (filter (λ (x : EntryPair). not (same_register x.vreg (Virtual k d))) held)
map_forgotten m new held k d is values count sets homes = record {
  same = λ q n c.
      ap (λ (w : PlaceValues). at_value new.sets.items (value_of w q) n c) values
      ∙ at_each (value_of m.values q) n c
      ∙ ap (λ b. not (same_virtual n c k d) && b) (is.same q n c)
      ∙ and_swap (not (same_virtual n c k d)) (holds held (pair_of q n c))
      ∙ sym (holds_filter (λ (x : EntryPair). not (same_register x.vreg (Virtual k d))) held (pair_of q n c));
  homes = λ v n c h. kept v n c (same_virtual n c k d) refl (sym (sets v n c) ∙ h);
  below = λ q v h. subst (λ l. v < l) (sym count) (is.below q v (sym (ap (λ (w : PlaceValues). value_of w q) values) ∙ h));
}
  where
    at_each : (o : Option ℕ) (n : ℕ) (c : RegClass) → at_value new.sets.items o n c ≡ (not (same_virtual n c k d) && at_value m.sets.items o n c)
    at_each None n c = and_swap false (not (same_virtual n c k d))
    at_each (Some v) n c = sets v n c

    kept : (v n : ℕ) (c : RegClass) (b : Bool) → same_virtual n c k d ≡ b → (not (same_virtual n c k d) && is_value_of m.sets.items v n c) ≡ true → is_home new.homes n c v ≡ true
    kept v n c true e h = absurd (false≢true (ap (λ b. not b && is_value_of m.sets.items v n c) (sym e) ∙ h))
    kept v n c false e h = homes n c v e ∙ is.homes v n c (ap (λ b. not b && is_value_of m.sets.items v n c) (sym e) ∙ h)

-- the register is taken out of the sets in which it may be
module _ (m : LocationMap) (held : List EntryPair) (k : ℕ) (d : RegClass) (values : List ℕ) (is : IsMapOf m held) (taken : (h : ℕ) → list_any (nat_eq h) values ≡ is_home m.homes k d h) where
  forgotten_set : (v n : ℕ) (c : RegClass) → (not (list_any (nat_eq v) values && same_virtual n c k d) && is_value_of m.sets.items v n c) ≡ (not (same_virtual n c k d) && is_value_of m.sets.items v n c)
  forgotten_set v n c = sorted (same_virtual n c k d) (is_value_of m.sets.items v n c) (list_any (nat_eq v) values) listed
    where
      listed : same_virtual n c k d ≡ true → is_value_of m.sets.items v n c ≡ true → list_any (nat_eq v) values ≡ true
      listed same has =
          let e = virtual_same n c k d same in
          taken v ∙ ap (λ x. is_home m.homes x d v) (sym e.0) ∙ ap (λ x. is_home m.homes n x v) (sym e.1) ∙ is.homes v n c has

      sorted : (s t a : Bool) → (s ≡ true → t ≡ true → a ≡ true) → (not (a && s) && t) ≡ (not s && t)
      sorted true true false e = absurd (false≢true (e refl refl))
      sorted true false true e = refl
      sorted false t true e = refl
      sorted s t a e = refl

  pub map_forgotten_all : (new : LocationMap) → new.values ≡ m.values → length new.sets.items ≡ length m.sets.items →
      ((v n : ℕ) (c : RegClass) → is_value_of new.sets.items v n c ≡ (not (list_any (nat_eq v) values && same_virtual n c k d) && is_value_of m.sets.items v n c)) →
      ((n : ℕ) (c : RegClass) (h : ℕ) → same_virtual n c k d ≡ false → is_home new.homes n c h ≡ is_home m.homes n c h) →
      IsMapOf new (filter (λ (x : EntryPair). not (same_register x.vreg (Virtual k d))) held)
  map_forgotten_all new same count sets homes = map_forgotten m new held k d is same count (λ v n c. sets v n c ∙ forgotten_set v n c) homes

-- ---- a new value stands in a place

get_old : {T : Type 0} (xs : List T) (x : T) (v : ℕ) → v < length xs → slice_get (xs ++ x ∷ []) v ≡ slice_get xs v
get_old [] x v lt = absurd (omega (arith, lt))
get_old (y ∷ xs) x zero lt = refl
get_old (y ∷ xs) x (suc v) lt = get_old xs x v (omega (arith, lt))

get_new : {T : Type 0} (xs : List T) (x : T) → slice_get (xs ++ x ∷ []) (length xs) ≡ Some x
get_new [] x = refl
get_new (y ∷ xs) x = get_new xs x

get_above : {T : Type 0} (xs : List T) (x : T) (v : ℕ) → length xs < v → slice_get (xs ++ x ∷ []) v ≡ None
get_above [] x zero lt = absurd (omega (arith, lt))
get_above [] x (suc v) lt = refl
get_above (y ∷ xs) x zero lt = absurd (omega (arith, lt))
get_above (y ∷ xs) x (suc v) lt = get_above xs x v (omega (arith, lt))

module _ (m new : LocationMap) (held : List EntryPair) (p : Place) (empty : RegisterSet) (is : IsMapOf m held)
    (none : (n : ℕ) (c : RegClass) → has_register empty n c ≡ false) (sets : new.sets.items ≡ m.sets.items ++ empty ∷ []) (homes : new.homes ≡ m.homes)
    (now : (q : Place) → value_of new.values q ≡ cond (same_place q p) (Some (length m.sets.items)) (value_of m.values q)) where
  -- the new set has no registers
  nothing_new : (n : ℕ) (c : RegClass) → is_value_of new.sets.items (length m.sets.items) n c ≡ false
  nothing_new n c = ap (λ (l : List RegisterSet). is_value_of l (length m.sets.items) n c) sets ∙ ap (λ o. in_set o n c) (get_new m.sets.items empty) ∙ none n c

  old_stays : (o : Option ℕ) → ((v : ℕ) → o ≡ Some v → v < length m.sets.items) → (n : ℕ) (c : RegClass) → at_value new.sets.items o n c ≡ at_value m.sets.items o n c
  old_stays None below n c = refl
  old_stays (Some v) below n c = ap (λ (l : List RegisterSet). is_value_of l v n c) sets ∙ ap (λ o. in_set o n c) (get_old m.sets.items empty v (below v refl))

  long : length new.sets.items ≡ length m.sets.items + 1
  long = ap length sets ∙ one_longer m.sets.items
    where
      one_longer : (xs : List RegisterSet) → length (xs ++ empty ∷ []) ≡ length xs + 1
      one_longer [] = refl
      one_longer (x ∷ xs) = omega (arith, one_longer xs)

  pub map_put : IsMapOf new (without_place p held)
  map_put = record {
    same = λ q n c.
        ap (λ o. at_value new.sets.items o n c) (now q)
        ∙ located_cond new.sets.items (same_place q p) (Some (length m.sets.items)) (value_of m.values q) n c
        ∙ ap (λ b. cond (same_place q p) b (at_value new.sets.items (value_of m.values q) n c)) (nothing_new n c)
        ∙ ap (λ b. cond (same_place q p) false b) (old_stays (value_of m.values q) (is.below q) n c)
        ∙ dropped (same_place q p) (is_located m q n c)
        ∙ ap (λ b. b && not (same_place q p)) (is.same q n c)
        ∙ sym (holds_filter (λ (x : EntryPair). not (same_place x.place p)) held (pair_of q n c));
    homes = λ v n c h. ap (λ (w : RegisterHomes). is_home w n c v) homes ∙ is.homes v n c (had v n c h);
    below = λ q v h. elim (some_of_either (same_place q p) (Some (length m.sets.items)) (value_of m.values q) v (sym (now q) ∙ h)) [
      | inl e ↦ let here : length m.sets.items ≡ v = cc in omega (arith, here, long)
      | inr e ↦ let below : v < length m.sets.items = is.below q v e.1 in omega (arith, below, long)
    ];
  }
    where
      same_some : (v w : ℕ) → ◌≡◌ {A = Option ℕ} (Some v) (Some w) → v ≡ w
      same_some v w e = cc

      none_from : (v : ℕ) → length m.sets.items ≤ v → (n : ℕ) (c : RegClass) → is_value_of new.sets.items v n c ≡ false
      none_from v le n c = elim (cases_lt (length m.sets.items) v) [
        | inl lt ↦ ap (λ (l : List RegisterSet). is_value_of l v n c) sets ∙ ap (λ o. in_set o n c) (get_above m.sets.items empty v lt)
        | inr ge ↦ let at : length m.sets.items ≡ v = omega (arith, le, ge) in subst (λ w. is_value_of new.sets.items w n c ≡ false) at (nothing_new n c)
      ]

      had : (v n : ℕ) (c : RegClass) → is_value_of new.sets.items v n c ≡ true → is_value_of m.sets.items v n c ≡ true
      had v n c h = elim (cases_lt v (length m.sets.items)) [
        | inl lt ↦ sym (old_stays (Some v) (λ w e. subst (λ z. z < length m.sets.items) (same_some v w e) lt) n c) ∙ h
        | inr le ↦ absurd (false≢true (sym (none_from v le n c) ∙ h))
      ]

  pub alone_put : IsAlone new p (length m.sets.items)
  alone_put = record {
    here = now p ∙ cond-true (same_place p p) (Some (length m.sets.items)) (value_of m.values p) (place-self p);
    alone = λ q h. elim (some_of_either (same_place q p) (Some (length m.sets.items)) (value_of m.values q) (length m.sets.items) (sym (now q) ∙ h)) [
      | inl e ↦ e.0
      | inr e ↦ let below : length m.sets.items < length m.sets.items = is.below q (length m.sets.items) e.1 in absurd (omega (arith, below))
    ];
  }

  pub apart_put : IsApart m → IsApart new
  apart_put apart a b v ha hb = elim (some_of_either (same_place a p) (Some (length m.sets.items)) (value_of m.values a) v (sym (now a) ∙ ha)) [
    | inl e ↦ elim (some_of_either (same_place b p) (Some (length m.sets.items)) (value_of m.values b) v (sym (now b) ∙ hb)) [
      | inl f ↦ ap (λ z. same_place z b) (place-same a p e.0) ∙ place_turned p b ∙ f.0
      | inr f ↦ let at : length m.sets.items ≡ v = cc in let below : v < length m.sets.items = is.below b v f.1 in absurd (omega (arith, at, below))
    ]
    | inr e ↦ elim (some_of_either (same_place b p) (Some (length m.sets.items)) (value_of m.values b) v (sym (now b) ∙ hb)) [
      | inl f ↦ let at : length m.sets.items ≡ v = cc in let below : v < length m.sets.items = is.below a v e.1 in absurd (omega (arith, at, below))
      | inr f ↦ apart a b v e.1 f.1
    ]
  ]

-- ---- a register gets a value that stands in one place alone

pub map_added : (m new : LocationMap) (held : List EntryPair) (p : Place) (w k : ℕ) (d : RegClass) → IsMapOf m held → IsAlone m p w → new.values ≡ m.values → length new.sets.items ≡ length m.sets.items →
    ((v n : ℕ) (c : RegClass) → is_value_of new.sets.items v n c ≡ ((nat_eq v w && same_virtual n c k d) || is_value_of m.sets.items v n c)) →
    ((n : ℕ) (c : RegClass) (h : ℕ) → is_home new.homes n c h ≡ ((same_virtual n c k d && nat_eq h w) || is_home m.homes n c h)) →
    IsMapOf new (held ++ pair_of p k d ∷ [])
map_added m new held p w k d is alone values count sets homes = record {
  same = λ q n c.
      ap (λ (z : PlaceValues). at_value new.sets.items (value_of z q) n c) values
      ∙ at_each q (value_of m.values q) refl n c
      ∙ ap (λ b. (same_place p q && same_virtual k d n c) || b) (is.same q n c)
      ∙ turned (same_place p q && same_virtual k d n c) (holds held (pair_of q n c))
      ∙ sym (holds_append held (pair_of p k d ∷ []) (pair_of q n c));
  homes = λ v n c h. homed v n c (or_either (nat_eq v w && same_virtual n c k d) (is_value_of m.sets.items v n c) (sym (sets v n c) ∙ h));
  below = λ q v h. subst (λ l. v < l) (sym count) (is.below q v (sym (ap (λ (z : PlaceValues). value_of z q) values) ∙ h));
}
  where
    turned : (a b : Bool) → (a || b) ≡ (b || (a || false))
    turned true true = refl
    turned true false = refl
    turned false true = refl
    turned false false = refl

    or_either : (a b : Bool) → (a || b) ≡ true → (a ≡ true) ⊎ (b ≡ true)
    or_either true b h = inl refl
    or_either false b h = inr h

    homed : (v n : ℕ) (c : RegClass) → ((nat_eq v w && same_virtual n c k d) ≡ true) ⊎ (is_value_of m.sets.items v n c ≡ true) → is_home new.homes n c v ≡ true
    homed v n c (inl e) = homes n c v ∙ ap (λ b. b || is_home m.homes n c v) (and_swap (same_virtual n c k d) (nat_eq v w) ∙ e)
    homed v n c (inr e) = homes n c v ∙ later (same_virtual n c k d && nat_eq v w) (is_home m.homes n c v) (is.homes v n c e)
      where
        later : (a b : Bool) → b ≡ true → (a || b) ≡ true
        later true b h = refl
        later false b h = h

    -- the value of a place is the one that gets the register exactly where the place is the one
    here : (q : Place) (v : ℕ) → value_of m.values q ≡ Some v → nat_eq v w ≡ same_place p q
    here q v e = one_truth (nat_eq v w) (same_place p q)
        (λ h. place_turned p q ∙ alone.alone q (e ∙ ap Some (eqb-true v w h)))
        (λ h. let at : ◌≡◌ {A = Option ℕ} (Some v) (Some w) = sym e ∙ ap (λ z. value_of m.values z) (sym (place-same p q h)) ∙ alone.here in let same : v ≡ w = cc in ap (λ z. nat_eq z w) same ∙ number-self w)

    at_each : (q : Place) (o : Option ℕ) → value_of m.values q ≡ o → (n : ℕ) (c : RegClass) → at_value new.sets.items o n c ≡ ((same_place p q && same_virtual k d n c) || at_value m.sets.items o n c)
    at_each q None e n c = nowhere (same_place p q) refl
      where
        nowhere : (b : Bool) → same_place p q ≡ b → false ≡ ((same_place p q && same_virtual k d n c) || false)
        nowhere true h = absurd (none_some (sym e ∙ ap (λ z. value_of m.values z) (sym (place-same p q h)) ∙ alone.here))
          where
            none_some : ◌≡◌ {A = Option ℕ} None (Some w) → ⊥
            none_some x = cc
        nowhere false h = sym (ap (λ b. (b && same_virtual k d n c) || false) h)
    at_each q (Some v) e n c =
        sets v n c
        ∙ ap (λ b. (b && same_virtual n c k d) || is_value_of m.sets.items v n c) (here q v e)
        ∙ ap (λ b. (same_place p q && b) || is_value_of m.sets.items v n c) (virtual_turned n c k d)

-- ---- lists that hold the same

pub map_again : (m : LocationMap) (xs ys : List EntryPair) → ((q : Place) (n : ℕ) (c : RegClass) → holds xs (pair_of q n c) ≡ holds ys (pair_of q n c)) → IsMapOf m xs → IsMapOf m ys
map_again m xs ys alike is = record { same = λ q n c. is.same q n c ∙ alike q n c; homes = is.homes; below = is.below }

-- where nothing stands, nothing is dropped
pub map_unheld : (m new : LocationMap) (held : List EntryPair) (p : Place) → IsMapOf m held → value_of m.values p ≡ None → IsMapOf new (without_place p held) → IsMapOf new held
map_unheld m new held p is none after = map_again new (without_place p held) held alike after
  where
    alike : (q : Place) (n : ℕ) (c : RegClass) → holds (without_place p held) (pair_of q n c) ≡ holds held (pair_of q n c)
    alike q n c = holds_filter (λ (x : EntryPair). not (same_place x.place p)) held (pair_of q n c) ∙ stays (same_place q p) refl
      where
        kept : (b : Bool) → (b && true) ≡ b
        kept true = refl
        kept false = refl

        stays : (b : Bool) → same_place q p ≡ b → (holds held (pair_of q n c) && not (same_place q p)) ≡ holds held (pair_of q n c)
        stays true e =
            let nothing : holds held (pair_of q n c) ≡ false = ap (λ z. holds held (pair_of z n c)) (place-same q p e) ∙ sym (is.same p n c) ∙ ap (λ o. at_value m.sets.items o n c) none in
            ap (λ b. b && not (same_place q p)) nothing ∙ sym nothing
        stays false e = ap (λ b. holds held (pair_of q n c) && not b) e ∙ kept (holds held (pair_of q n c))

-- a pair of a real register is no pair of a virtual one
pub map_real_added : (m : LocationMap) (held : List EntryPair) (p : Place) (r : RealRegister) → IsMapOf m held → IsMapOf m (held ++ record { place = p; vreg = Real r } ∷ [])
map_real_added m held p r is = map_again m held (held ++ record { place = p; vreg = Real r } ∷ []) alike is
  where
    none_more : (h s : Bool) → h ≡ (h || ((s && false) || false))
    none_more true s = refl
    none_more false true = refl
    none_more false false = refl

    alike : (q : Place) (n : ℕ) (c : RegClass) → holds held (pair_of q n c) ≡ holds (held ++ record { place = p; vreg = Real r } ∷ []) (pair_of q n c)
    alike q n c = none_more (holds held (pair_of q n c)) (same_place p q) ∙ sym (holds_append held (record { place = p; vreg = Real r } ∷ []) (pair_of q n c))

-- a value of a place, where no two places have the same
pub alone_at : (m : LocationMap) (p : Place) (v : ℕ) → IsApart m → value_of m.values p ≡ Some v → IsAlone m p v
alone_at m p v apart at = record { here = at; alone = λ q h. apart q p v h at }

-- a register that is taken out of all sets, and then put alone into a place, is an output
pub output_holds : (p : RealRegister) (k : ℕ) (d : RegClass) (held : List EntryPair) (q : Place) (n : ℕ) (c : RegClass) →
    holds (without_place (InReg p) (filter (λ (x : EntryPair). not (same_register x.vreg (Virtual k d))) held) ++ pair_of (InReg p) k d ∷ []) (pair_of q n c) ≡ holds (with_output p (Virtual k d) held) (pair_of q n c)
output_holds p k d held q n c =
    let x = pair_of q n c in
    let a = same_place q (InReg p) in
    let b = same_register (Virtual n c) (Virtual k d) in
    let last = pair_of (InReg p) k d ∷ [] in
    let apart = filter (λ (y : EntryPair). not (same_register y.vreg (Virtual k d))) held in
    let other = filter (λ (y : EntryPair). not (same_place y.place (InReg p) || same_register y.vreg (Virtual k d))) held in
    holds_append (without_place (InReg p) apart) last x
    ∙ ap (λ h. h || holds last x) (holds_filter (λ (y : EntryPair). not (same_place y.place (InReg p))) apart x)
    ∙ ap (λ h. (h && not a) || holds last x) (holds_filter (λ (y : EntryPair). not (same_register y.vreg (Virtual k d))) held x)
    ∙ ap (λ h. h || holds last x) (both (holds held x) a b)
    ∙ sym (ap (λ h. h || holds last x) (holds_filter (λ (y : EntryPair). not (same_place y.place (InReg p) || same_register y.vreg (Virtual k d))) held x))
    ∙ sym (holds_append other last x)
  where
    both : (h a b : Bool) → ((h && not b) && not a) ≡ (h && not (a || b))
    both true true true = refl
    both true true false = refl
    both true false true = refl
    both true false false = refl
    both false a b = refl

-- a real register is no virtual one
pub real_output_holds : (p r : RealRegister) (held : List EntryPair) (q : Place) (n : ℕ) (c : RegClass) → holds (without_place (InReg p) held) (pair_of q n c) ≡ holds (with_output p (Real r) held) (pair_of q n c)
real_output_holds p r held q n c =
    let x = pair_of q n c in
    let a = same_place q (InReg p) in
    let other = filter (λ (y : EntryPair). not (same_place y.place (InReg p) || same_register y.vreg (Real r))) held in
    holds_filter (λ (y : EntryPair). not (same_place y.place (InReg p))) held x
    ∙ none_more (holds held x) a (same_place (InReg p) q)
    ∙ sym (ap (λ h. h || holds (record { place = InReg p; vreg = Real r } ∷ []) x) (holds_filter (λ (y : EntryPair). not (same_place y.place (InReg p) || same_register y.vreg (Real r))) held x))
    ∙ sym (holds_append other (record { place = InReg p; vreg = Real r } ∷ []) x)
  where
    none_more : (h a s : Bool) → (h && not a) ≡ ((h && not (a || false)) || ((s && false) || false))
    none_more true true true = refl
    none_more true true false = refl
    none_more true false s = refl
    none_more false a true = refl
    none_more false a false = refl

-- ---- a register of another class

other_held : (p : Place) (c : RegClass) (held : List EntryPair) (n : ℕ) (d : RegClass) → same_class d c ≡ false → holds held (pair_of p n d) ≡ true → holds_other_class p c held ≡ true
other_held p c [] n d other h = absurd (false≢true h)
other_held p c (x ∷ held) n d other h = first (same_pair x (pair_of p n d)) refl (λ k. other_held p c held n d other k)
  where
    later : (a b : Bool) → b ≡ true → (a || b) ≡ true
    later true b k = refl
    later false b k = k

    first : (b : Bool) → same_pair x (pair_of p n d) ≡ b → (holds held (pair_of p n d) ≡ true → holds_other_class p c held ≡ true) → holds_other_class p c (x ∷ held) ≡ true
    first true e behind =
        let at : x ≡ pair_of p n d = pair-same x (pair_of p n d) e in
        let here : (same_place x.place p && is_of_other_class c x.vreg) ≡ true =
        ap (λ (y : EntryPair). same_place y.place p && is_of_other_class c y.vreg) at ∙ ap (λ b. b && not (same_class d c)) (place-self p) ∙ ap not other in
        ap (λ b. b || holds_other_class p c held) here
    first false e behind =
        let rest : holds_other_class p c held ≡ true = behind (ap (λ b. b || holds held (pair_of p n d)) (sym e) ∙ h) in
        later (same_place x.place p && is_of_other_class c x.vreg) (holds_other_class p c held) rest

none_held : (p : Place) (c : RegClass) (held : List EntryPair) → ((n : ℕ) (d : RegClass) → same_class d c ≡ false → holds held (pair_of p n d) ≡ false) → holds_other_class p c held ≡ false
none_held p c [] none = refl
none_held p c (x ∷ held) none =
    ap (λ b. b || holds_other_class p c held) (first x.vreg refl (same_place x.place p) refl)
    ∙ none_held p c held (λ n d other. (neither (same_pair x (pair_of p n d)) (holds held (pair_of p n d)) (none n d other)).1)
  where
    neither : (a b : Bool) → (a || b) ≡ false → (a ≡ false) × (b ≡ false)
    neither true b h = absurd (false≢true (sym h))
    neither false b h = (refl, h)

    first : (r : Reg) → x.vreg ≡ r → (s : Bool) → same_place x.place p ≡ s → (same_place x.place p && is_of_other_class c x.vreg) ≡ false
    first (Real q) e s at = ap (λ y. same_place x.place p && is_of_other_class c y) e ∙ and_swap (same_place x.place p) false
    first (Virtual n d) e false at = ap (λ b. b && is_of_other_class c x.vreg) at
    first (Virtual n d) e true at = ap (λ y. same_place x.place p && is_of_other_class c y) e ∙ ap (λ b. b && not (same_class d c)) at ∙ class_of (same_class d c) refl
      where
        class_of : (b : Bool) → same_class d c ≡ b → not (same_class d c) ≡ false
        class_of true k = ap not k
        class_of false k =
            let here : same_pair x (pair_of p n d) ≡ true = ap (λ b. b && same_register x.vreg (Virtual n d)) at ∙ ap (λ y. same_register y (Virtual n d)) e ∙ virtual_self n d in
            absurd (false≢true (sym (neither (same_pair x (pair_of p n d)) (holds held (pair_of p n d)) (none n d k)).0 ∙ here))

-- what the set of a place's value says
pub other_class : (m : LocationMap) (held : List EntryPair) (p : Place) (c : RegClass) (v : ℕ) (s : RegisterSet) (b : Bool) → IsMapOf m held → value_of m.values p ≡ Some v → slice_get m.sets.items v ≡ Some s →
    (b ≡ true → HasOther c s) → (b ≡ false → HasNoOther c s) → b ≡ holds_other_class p c held
other_class m held p c v s true is at set some none =
    let h = some refl in
    sym (other_held p c held h.number h.class h.other
    (sym (is.same p h.number h.class) ∙ ap (λ o. at_value m.sets.items o h.number h.class) at ∙ ap (λ o. in_set o h.number h.class) set ∙ h.has))
other_class m held p c v s false is at set some none =
    sym (none_held p c held (λ n d other. sym (is.same p n d) ∙ ap (λ o. at_value m.sets.items o n d) at ∙ ap (λ o. in_set o n d) set ∙ none refl n d other))

pub no_class : (m : LocationMap) (held : List EntryPair) (p : Place) (c : RegClass) → IsMapOf m held → ((n : ℕ) (d : RegClass) → is_located m p n d ≡ false) → false ≡ holds_other_class p c held
no_class m held p c is nothing = sym (none_held p c held (λ n d other. sym (is.same p n d) ∙ nothing n d))
