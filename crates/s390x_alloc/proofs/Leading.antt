-- Lists of predecessors that grow block by block.
use Rattle.std.proofs.Common.{◌≡◌, ℕ, zero, suc, ◌+◌, ◌-◌, ◌<◌, ◌≤◌, Bool, true, false, cond, List, [], ◌∷◌, ◌++◌, length, get_or, take, drop, drop-cons, slice_get, Option, Some, None, ◌⊎◌, inl, inr, append_assoc, refl, sym, ap, ◌∙◌, arith}
use Rattle.std.specs.Prelude.{◌&&◌, ◌||◌, not, nat_eq}
use Rattle.std.specs.Global.{Vec}
use Rattle.std.proofs.lemmas.Bool.{eqb-true}
use Rattle.std.proofs.lemmas.List.{take-append-le, take_all}
use Rattle.s390x_base.specs.declared.ir.MachLabel.{MachLabel}
use Rattle.s390x_inst.specs.declared.function.Block.{Block}
use Rattle.s390x_alloc.specs.declared.fault.PlanFault.{PlanFault}
use Rattle.s390x_alloc.specs.declared.fault.PlanFault.TheVariants.{Entry, NoMemory}
use Rattle.s390x_alloc.specs.declared.plan.BlockPlan.{BlockPlan}
use Rattle.s390x_alloc.specs.declared.plan.EntryPair.{EntryPair}
use Rattle.s390x_alloc.specs.Entries.{ends_with, entry_fault, entry_or, first_unfounded, is_that, numbers_at, predecessors, put_once}
use Rattle.s390x_alloc.specs.Faults.{IsTold}
use Rattle.s390x_alloc.specs.Shape.{is_label_in, precedes}
use Rattle.s390x_alloc.proofs.Sameness.{number-self}
use Rattle.s390x_operands.proofs.Looping.{cons_of}

last_of : (xs : List ℕ) (n : ℕ) → slice_get (xs ++ n ∷ []) (length (xs ++ n ∷ []) - 1) ≡ Some n
last_of [] n = refl
last_of (x ∷ []) n = refl
last_of (x ∷ y ∷ ys) n =
    let m : ℕ = length (ys ++ n ∷ []) in
    let next : suc (suc m) - 1 ≡ suc (suc m - 1) = omega arith in
    ap (λ k. slice_get (x ∷ y ∷ (ys ++ n ∷ [])) k) next ∙ last_of (y ∷ ys) n

ends_with_more : (xs : List ℕ) (n h : ℕ) → ends_with (xs ++ n ∷ []) h ≡ nat_eq n h
ends_with_more xs n h = ap (λ o. is_that o h) (last_of xs n)

-- to put a number twice is to put it once
put_twice : (a b : Bool) (n : ℕ) (xs : List ℕ) → put_once b n (put_once a n xs) ≡ put_once (a || b) n xs
put_twice false b n xs = refl
put_twice true false n xs = refl
put_twice true true n xs = again (ends_with xs n) refl
  where
    again : (e : Bool) → ends_with xs n ≡ e → put_once true n (put_once true n xs) ≡ put_once true n xs
    again true h =
        let none : put_once true n xs ≡ xs = ap (λ c. cond (not c) (xs ++ n ∷ []) xs) h in
        ap (λ l. put_once true n l) none
    again false h =
        let one : put_once true n xs ≡ xs ++ n ∷ [] = ap (λ c. cond (not c) (xs ++ n ∷ []) xs) h in
        let ends : ends_with (xs ++ n ∷ []) n ≡ true = ends_with_more xs n n ∙ number-self n in
        ap (λ l. put_once true n l) one ∙ ap (λ c. cond (not c) ((xs ++ n ∷ []) ++ n ∷ []) (xs ++ n ∷ [])) ends ∙ sym one

pub put_both : (a b : Bool) (n : ℕ) (xs ys zs : List ℕ) → ys ≡ put_once a n xs → zs ≡ put_once b n ys → zs ≡ put_once (a || b) n xs
put_both a b n xs ys zs first second = second ∙ ap (λ l. put_once b n l) first ∙ put_twice a b n xs

-- one more label
pub label_turn : (labels : List MachLabel) (k : ℕ) (d : MachLabel) (n here : ℕ) (before after t : List ℕ) → k < length labels → after ≡ put_once (nat_eq (get_or labels k d).0 n) here before →
    put_once (is_label_in (drop k labels) n) here before ≡ t → put_once (is_label_in (drop (k + 1) labels) n) here after ≡ t
label_turn labels k d n here before after t lt is h =
    let next : suc k ≡ k + 1 = omega arith in
    let cons : drop k labels ≡ get_or labels k d ∷ drop (k + 1) labels = drop-cons labels k d lt ∙ ap (λ m. get_or labels k d ∷ drop m labels) next in
    ap (λ xs. put_once (is_label_in (drop (k + 1) labels) n) here xs) is
    ∙ put_twice (nat_eq (get_or labels k d).0 n) (is_label_in (drop (k + 1) labels) n) here before
    ∙ sym (ap (λ ls. put_once (is_label_in ls n) here before) cons)
    ∙ h

-- one more block
pub block_led : (count n : ℕ) (bs : List Block) (k : ℕ) (b : Block) (before after t : List ℕ) → k < length bs → b ≡ get_or bs k b → ends_with before k ≡ false → after ≡ put_once (precedes count k b.insts.items n) k before →
    before ++ predecessors count n k (drop k bs) ≡ t → after ++ predecessors count n (k + 1) (drop (k + 1) bs) ≡ t
block_led count n bs k b before after t lt at other is h =
    ap (λ xs. xs ++ rest) is
    ∙ led (precedes count k b.insts.items n)
    ∙ sym (ap (λ l. before ++ predecessors count n k l) (cons_of bs k b lt at))
    ∙ h
  where
    rest : List ℕ
    rest = predecessors count n (k + 1) (drop (k + 1) bs)

    led : (p : Bool) → put_once p k before ++ predecessors count n (k + 1) (drop (k + 1) bs) ≡ before ++ cond p (k ∷ predecessors count n (k + 1) (drop (k + 1) bs)) (predecessors count n (k + 1) (drop (k + 1) bs))
    led false = refl
    led true =
        let one : put_once true k before ≡ before ++ k ∷ [] = ap (λ c. cond (not c) (before ++ k ∷ []) before) other in
        ap (λ l. l ++ predecessors count n (k + 1) (drop (k + 1) bs)) one ∙ append_assoc before (k ∷ []) (predecessors count n (k + 1) (drop (k + 1) bs))

-- no later block is the last one yet
pub later_none : (p : Bool) (k h : ℕ) (before after : List ℕ) → k + 1 ≤ h → ends_with before h ≡ false → after ≡ put_once p k before → ends_with after h ≡ false
later_none p k h before after le other is = ap (λ l. ends_with l h) is ∙ none (p && not (ends_with before k))
  where
    apart : nat_eq k h ≡ false
    apart = different (nat_eq k h) refl
      where
        different : (b : Bool) → nat_eq k h ≡ b → nat_eq k h ≡ false
        different true e = let same : k ≡ h = eqb-true k h e in absurd (omega (arith, same, le))
        different false e = e

    none : (b : Bool) → ends_with (cond b (before ++ k ∷ []) before) h ≡ false
    none true = ends_with_more before k h ∙ apart
    none false = other

-- what is written back into a list of the same length is the whole of it
pub written_back : {T : Type 0} (n : ℕ) (new rest : List T) → length new ≡ n → take n (new ++ rest) ≡ new
written_back n new rest same = take-append-le n new rest (omega (arith, same)) ∙ take_all n new (omega (arith, same))

-- a list by its number
pub list_at : (lists : List (Vec ℕ)) (k : ℕ) (v : Vec ℕ) → k < length lists → v ≡ get_or lists k v → v.items ≡ numbers_at lists k
list_at [] k v lt at = absurd (omega (arith, lt))
list_at (x ∷ lists) zero v lt at = ap (λ (w : Vec ℕ). w.items) at
list_at (x ∷ lists) (suc k) v lt at = list_at lists k v (omega (arith, lt)) at

-- the pairs of one block more
module _ (all : List Block) (count : ℕ) (ends : List (List EntryPair)) (ps : List BlockPlan) where
  entry_here : (k : ℕ) (p : BlockPlan) (before : List ℕ) → k < length ps → p ≡ get_or ps k p → before ≡ predecessors count k 0 all →
      entry_fault all count ends k (drop k ps) ≡ entry_or k (first_unfounded ends before k 0 p.entry.items) (entry_fault all count ends (k + 1) (drop (k + 1) ps))
  entry_here k p before lt at is =
      ap (λ l. entry_fault all count ends k l) (cons_of ps k p lt at)
      ∙ ap (λ l. entry_or k (first_unfounded ends l k 0 p.entry.items) (entry_fault all count ends (k + 1) (drop (k + 1) ps))) (sym is)

  pub entry_goes : (k : ℕ) (p : BlockPlan) (before : List ℕ) (t : Option PlanFault) → k < length ps → p ≡ get_or ps k p → before ≡ predecessors count k 0 all → None ≡ first_unfounded ends before k 0 p.entry.items →
      entry_fault all count ends k (drop k ps) ≡ t → entry_fault all count ends (k + 1) (drop (k + 1) ps) ≡ t
  entry_goes k p before t lt at is none h =
      ap (λ o. entry_or k o (entry_fault all count ends (k + 1) (drop (k + 1) ps))) none ∙ sym (entry_here k p before lt at is) ∙ h

  pub entry_found : (k : ℕ) (p : BlockPlan) (before : List ℕ) (t : Option PlanFault) (pair : ℕ) (f : PlanFault) → k < length ps → p ≡ get_or ps k p → before ≡ predecessors count k 0 all → Some pair ≡ first_unfounded ends before k 0 p.entry.items →
      IsTold (Entry k pair) f → entry_fault all count ends k (drop k ps) ≡ t → (f ≡ NoMemory) ⊎ (t ≡ Some f)
  entry_found k p before t pair f lt at is some (inl none) h = inl none
  entry_found k p before t pair f lt at is some (inr same) h =
      inr (sym h ∙ entry_here k p before lt at is ∙ sym (ap (λ o. entry_or k o (entry_fault all count ends (k + 1) (drop (k + 1) ps))) some) ∙ ap Some (sym same))
