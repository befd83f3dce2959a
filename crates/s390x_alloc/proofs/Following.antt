-- How the map of a block's locations follows its edits, and those of all blocks.
use Rattle.std.proofs.Common.{◌≡◌, ℕ, zero, suc, ◌+◌, ◌<◌, ◌≤◌, Bool, true, false, cond, List, [], ◌∷◌, ◌++◌, length, get_or, drop, slice_get, Some, None, Result, Ok, Err, refl, sym, ap, subst, ◌∙◌}
use Rattle.std.proofs.lemmas.List.{drop_all}
use Rattle.s390x_base.specs.declared.regs.RegClass.{RegClass}
use Rattle.s390x_inst.specs.declared.function.Block.{Block}
use Rattle.s390x_inst.specs.declared.inst.Inst.{Inst}
use Rattle.s390x_inst.specs.declared.state.FrameLayout.{FrameLayout}
use Rattle.s390x_operands.specs.declared.constraint.Reported.{Reported}
use Rattle.s390x_operands.proofs.Looping.{cons_of}
use Rattle.s390x_alloc.specs.declared.fault.EditCause.{EditCause}
use Rattle.s390x_alloc.specs.declared.fault.PlanFault.{PlanFault}
use Rattle.s390x_alloc.specs.declared.fault.PlanFault.TheVariants.{Order}
use Rattle.s390x_alloc.specs.declared.assigned.GivenOperand.{GivenOperand}
use Rattle.s390x_alloc.specs.declared.location_map.LocationMap.{LocationMap}
use Rattle.s390x_alloc.specs.declared.plan.BlockPlan.{BlockPlan}
use Rattle.s390x_alloc.specs.declared.plan.Edit.{Edit}
use Rattle.s390x_alloc.specs.declared.plan.EntryPair.{EntryPair}
use Rattle.s390x_alloc.specs.declared.plan.Place.{Place}
use Rattle.s390x_alloc.specs.Blocks.{IsFault, after_block, after_blocks, after_edit, after_edits, steps_in}
use Rattle.s390x_alloc.specs.Entries.{is_held_there}
use Rattle.s390x_alloc.specs.Faults.{IsTold}
use Rattle.s390x_alloc.specs.Contents.{with_operand, with_operands, without_item, without_items}
use Rattle.s390x_alloc.specs.Locations.{AreMapsOf, IsMapOf, LeadsTo, is_located, pair_of}
use Rattle.s390x_alloc.proofs.Turning.{block_turn, edit_turn, edits_missing}

-- the map is of a list from which the rest of some steps leads to the last one
pub record Reaches (m : LocationMap) (rest : List EntryPair → List EntryPair) (last : List EntryPair) : Type 0 where
  pub now : List EntryPair
  pub map : IsMapOf m now
  pub goes : rest now ≡ last

-- ---- an instruction

pub items_turn : (m next : LocationMap) (items : List Reported) (k : ℕ) (x : Reported) (last : List EntryPair) → k < length items → x ≡ get_or items k x → ((list : List EntryPair) → IsMapOf m list → IsMapOf next (without_item x list)) →
    Reaches m (without_items (drop k items)) last → Reaches next (without_items (drop (k + 1) items)) last
items_turn m next items k x last lt at does r = record {
  now = without_item x r.now;
  map = does r.now r.map;
  goes = sym (ap (λ l. without_items l r.now) (cons_of items k x lt at)) ∙ r.goes;
}

pub items_done : (m : LocationMap) (items : List Reported) (k : ℕ) (last : List EntryPair) → length items ≤ k → Reaches m (without_items (drop k items)) last → IsMapOf m last
items_done m items k last le r = subst (λ (l : List EntryPair). IsMapOf m l) (sym (ap (λ l. without_items l r.now) (drop_all k items le)) ∙ r.goes) r.map

pub operands_turn : (m next : LocationMap) (xs : List GivenOperand) (k : ℕ) (x : GivenOperand) (last : List EntryPair) → k < length xs → x ≡ get_or xs k x → ((list : List EntryPair) → IsMapOf m list → IsMapOf next (with_operand x.kind x.reg x.given list)) →
    Reaches m (with_operands (drop k xs)) last → Reaches next (with_operands (drop (k + 1) xs)) last
operands_turn m next xs k x last lt at does r = record {
  now = with_operand x.kind x.reg x.given r.now;
  map = does r.now r.map;
  goes = sym (ap (λ l. with_operands l r.now) (cons_of xs k x lt at)) ∙ r.goes;
}

pub operands_done : (m : LocationMap) (xs : List GivenOperand) (k : ℕ) (last : List EntryPair) → length xs ≤ k → Reaches m (with_operands (drop k xs)) last → IsMapOf m last
operands_done m xs k last le r = subst (λ (l : List EntryPair). IsMapOf m l) (sym (ap (λ l. with_operands l r.now) (drop_all k xs le)) ∙ r.goes) r.map

-- ---- the pairs with which blocks begin

pub there : (ms : List LocationMap) (lists : List (List EntryPair)) (k : ℕ) (m : LocationMap) → AreMapsOf ms lists → slice_get ms k ≡ Some m →
    (p : Place) (n : ℕ) (c : RegClass) → is_located m p n c ≡ is_held_there (slice_get lists k) (pair_of p n c)
there [] lists zero m are at p n c = absurd cc
there [] lists (suc k) m are at p n c = absurd cc
there (x ∷ ms) [] k m are at p n c = absurd are
there (x ∷ ms) (l ∷ lists) zero m are at p n c = let same : x ≡ m = cc in ap (λ y. is_located y p n c) (sym same) ∙ are.0.same p n c
there (x ∷ ms) (l ∷ lists) (suc k) m are at p n c = there ms lists k m are.1 at p n c

pub nowhere : (ms : List LocationMap) (lists : List (List EntryPair)) (k : ℕ) → AreMapsOf ms lists → slice_get ms k ≡ None → (x : EntryPair) → false ≡ is_held_there (slice_get lists k) x
nowhere [] [] zero are at x = refl
nowhere [] [] (suc k) are at x = refl
nowhere [] (l ∷ lists) k are at x = absurd are
nowhere (y ∷ ms) [] k are at x = absurd are
nowhere (y ∷ ms) (l ∷ lists) zero are at x = absurd cc
nowhere (y ∷ ms) (l ∷ lists) (suc k) are at x = nowhere ms lists k are.1 at x

-- ---- edits

-- the map is of what is held behind so many edits
pub record HeldAt (layout : FrameLayout) (ends : Bool) (block : ℕ) (es : List Edit) (is : List Inst) (number taken : ℕ) (entry : List EntryPair) (m : LocationMap) : Type 0 where
  pub now : List EntryPair
  pub map : IsMapOf m now
  pub goes : after_edits layout ends block number (drop number es) (drop taken is) now ≡ after_edits layout ends block 0 es is entry

module _ (layout : FrameLayout) (ends : Bool) (block : ℕ) (es : List Edit) (is : List Inst) (number taken : ℕ) (entry : List EntryPair) (m : LocationMap) (at : HeldAt layout ends block es is number taken entry m) where
  pub held_turn : (next : LocationMap) (e : Edit) → number < length es → e ≡ get_or es number e → ((list : List EntryPair) → IsMapOf m list → LeadsTo (after_edit layout ends e (drop taken is) list) next) →
      HeldAt layout ends block es is (number + 1) (taken + steps_in e) entry next
  held_turn next e lt same does = behind (after_edit layout ends e (drop taken is) at.now) refl (does at.now at.map)
    where
      behind : (r : Result (List EntryPair) EditCause) → after_edit layout ends e (drop taken is) at.now ≡ r → LeadsTo r next → HeldAt layout ends block es is (number + 1) (taken + steps_in e) entry next
      behind (Ok l) goes leads = record { now = l; map = leads; goes = edit_turn layout ends block es is number taken e at.now l (after_edits layout ends block 0 es is entry) lt same goes at.goes }
      behind (Err c) goes leads = absurd leads

  pub held_missing : (n : ℕ) (f : PlanFault) → length es ≤ number → n ≡ number → 0 < length (drop taken is) → IsTold (Order block n) f → IsFault (after_edits layout ends block 0 es is entry) f
  held_missing n f le same some told = edits_missing layout ends block es is number n taken at.now (after_edits layout ends block 0 es is entry) f le same some told at.goes

-- ---- blocks

-- what was pushed stands at the end
pub pushed : {T : Type 0} (ok : Bool) (new old more : List T) → new ≡ cond ok more old → ok ≡ true → new ≡ more
pushed true new old more is e = is
pushed false new old more is e = absurd cc

-- the maps are of what is held at the ends of so many blocks
pub record EndsAt (layout : FrameLayout) (bs : List Block) (ps : List BlockPlan) (number : ℕ) (ms : List LocationMap) : Type 0 where
  pub lists : List (List EntryPair)
  pub maps : AreMapsOf ms lists
  pub goes : after_blocks layout (length bs) lists number (drop number bs) (drop number ps) ≡ after_blocks layout (length bs) [] 0 bs ps

maps_more : (ms : List LocationMap) (lists : List (List EntryPair)) (m : LocationMap) (l : List EntryPair) → AreMapsOf ms lists → IsMapOf m l → AreMapsOf (ms ++ m ∷ []) (lists ++ l ∷ [])
maps_more [] [] m l are is = (is, tt)
maps_more [] (k ∷ lists) m l are is = absurd are
maps_more (x ∷ ms) [] m l are is = absurd are
maps_more (x ∷ ms) (k ∷ lists) m l are is = (are.0, maps_more ms lists m l are.1 is)

module _ (layout : FrameLayout) (bs : List Block) (ps : List BlockPlan) (number : ℕ) (ms : List LocationMap) (at : EndsAt layout bs ps number ms) where
  pub ends_turn : (b : Block) (p : BlockPlan) (m : LocationMap) → number < length bs → b ≡ get_or bs number b → number < length ps → p ≡ get_or ps number p → LeadsTo (after_block layout (length bs) number b p) m → EndsAt layout bs ps (number + 1) (ms ++ m ∷ [])
  ends_turn b p m lt same lt' same' leads = behind (after_block layout (length bs) number b p) refl leads
    where
      behind : (r : Result (List EntryPair) PlanFault) → after_block layout (length bs) number b p ≡ r → LeadsTo r m → EndsAt layout bs ps (number + 1) (ms ++ m ∷ [])
      behind (Ok l) goes is = record {
        lists = at.lists ++ l ∷ [];
        maps = maps_more ms at.lists m l at.maps is;
        goes = block_turn layout (length bs) bs ps number b p at.lists l (after_blocks layout (length bs) [] 0 bs ps) lt same lt' same' goes at.goes;
      }
      behind (Err f) goes is = absurd is
