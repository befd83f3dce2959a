-- Where a plan has no fault, each instruction of a walk reads alike.
use Rattle.std.proofs.Common.{◌≡◌, ℕ, zero, suc, ◌+◌, Bool, true, false, cond, List, [], ◌∷◌, ◌++◌, length, Option, Some, None, Result, Ok, Err, inl, inr, slice_get, refl, sym, ap, subst, ◌∙◌, append_assoc, arith, count_by}
use Rattle.std.specs.Prelude.{nat_eq, not, ◌&&◌, IsOk}
use Rattle.std.proofs.lemmas.Bool.{and_parts, cond-true, eqb-true, false≢true, or_cases}
use Rattle.std.proofs.lemmas.List.{append-nil}
use Rattle.s390x_base.specs.declared.regs.Reg.{Reg}
use Rattle.s390x_inst.specs.declared.function.Block.{Block}
use Rattle.s390x_inst.specs.declared.inst.Inst.{Inst}
use Rattle.s390x_inst.specs.declared.state.FrameLayout.{FrameLayout}
use Rattle.s390x_operands.specs.Operands.{operands, operands_cause}
use Rattle.s390x_alloc.specs.declared.fault.EditCause.{EditCause}
use Rattle.s390x_alloc.specs.declared.fault.PlanFault.{PlanFault}
use Rattle.s390x_alloc.specs.declared.fault.PlanFault.TheVariants.{Blocks, Shape, Unsupported}
use Rattle.s390x_alloc.specs.declared.plan.BlockPlan.{BlockPlan}
use Rattle.s390x_alloc.specs.declared.plan.Edit.{Edit}
use Rattle.s390x_alloc.specs.declared.plan.Edit.TheVariants.{Move, Step}
use Rattle.s390x_alloc.specs.declared.plan.EntryPair.{EntryPair}
use Rattle.s390x_alloc.specs.Blocks.{after_block, after_blocks, after_edits, after_move, fault_or, or_block_fault, or_fault}
use Rattle.s390x_alloc.specs.Checked.{plan_contents, then_entries, unless_entry}
use Rattle.s390x_alloc.specs.Entries.{all_hold, entry_fault, entry_or, first_unfounded, is_founded, is_held_there, is_virtual, predecessors}
use Rattle.s390x_alloc.specs.Assigned.{given_operands, is_operand}
use Rattle.s390x_alloc.specs.Contents.{holds, contents_after_move, contents_after_step}
use Rattle.s390x_alloc.specs.Moves.{is_no_move}
use Rattle.s390x_alloc.specs.Same.{same_pair}
use Rattle.s390x_alloc.specs.Shape.{block_ending, first_misshapen, first_unsupported, is_empty, is_end, precedes}
use Rattle.s390x_alloc.specs.Steps.{cause_or, first_unheld, first_unsuited, count_cause, step_cause, unheld, unless_cause, unreported_cause, constraint_cause}
use Rattle.s390x_alloc.specs.Walks.{EditsReadAlike, EveryWalkReadsAlike, Fresh, GoesOn, Values, Visit, VisitsReadAlike, after_edits_of, after_inst, values_after_copy, edits_of, insts_of, is_successor}
use Rattle.s390x_alloc.proofs.Agreeing.{Agrees, agrees_moved, agrees_stepped, reads_all}
use Rattle.s390x_alloc.proofs.Sameness.{pair-same, passed_first}

-- ---- an instruction that is given its registers

pub later_none : (a b : Option EditCause) → cause_or a b ≡ None → b ≡ None
later_none None b h = h
later_none (Some c) b h = absurd cc

none_unheld : (o : Option ℕ) → unheld o ≡ None → o ≡ None
none_unheld None h = refl
none_unheld (Some n) h = absurd cc

-- no operand reads what isn't held
all_held : (i : Inst) (regs : List Reg) (held : List EntryPair) → step_cause i regs held ≡ None → first_unheld held 0 (given_operands (operands i) regs) ≡ None
all_held i regs held h =
    let a = later_none (unreported_cause (operands_cause false i)) _ h in
    let b = later_none (count_cause (nat_eq (count_by is_operand (operands i)) (length regs))) _ a in
    none_unheld _ (later_none (constraint_cause (first_unsuited regs 0 (given_operands (operands i) regs))) _ b)

-- ---- an edit without a fault

abbrev Behind : Type 0
Behind = List EntryPair → Result (List EntryPair) PlanFault

step_goes : (block edit : ℕ) (c : Option EditCause) (held final : List EntryPair) (k : Behind) → or_fault block edit (unless_cause c held) k ≡ Ok final → (c ≡ None) × (k held ≡ Ok final)
step_goes block edit None held final k h = (refl, h)
step_goes block edit (Some c) held final k h = absurd cc

move_goes : (block edit : ℕ) (a b : Bool) (held final : List EntryPair) (k : Behind) → or_fault block edit (after_move a b held) k ≡ Ok final → k held ≡ Ok final
move_goes block edit true b held final k h = absurd cc
move_goes block edit false true held final k h = absurd cc
move_goes block edit false false held final k h = h

same_ok : {T E : Type 0} (x y : T) → ◌≡◌ {A = Result T E} (Ok x) (Ok y) → x ≡ y
same_ok x y h = cc

-- ---- the edits of a block

module _ (layout : FrameLayout) (ends : Bool) (block : ℕ) (fresh : ℕ → Fresh) where
  pub edits_read : (edit number : ℕ) (es : List Edit) (is : List Inst) (held final : List EntryPair) (v : Values) → after_edits layout ends block edit es is held ≡ Ok final → Agrees held v →
      EditsReadAlike fresh number es is v × Agrees final (after_edits_of fresh number es is v)
  edits_read edit number [] [] held final v h a = (tt, subst (λ l. Agrees l v) (same_ok {E = PlanFault} held final h) a)
  edits_read edit number [] (i ∷ is) held final v h a = absurd cc
  edits_read edit number (Move to from ∷ es) is held final v h a =
      let k = λ (l : List EntryPair). after_edits layout ends block (edit + 1) es is l in
      edits_read (edit + 1) (number + 1) es is (contents_after_move to from held) final (values_after_copy to from v) (move_goes block edit (ends && is_empty is) (is_no_move layout to from held) (contents_after_move to from held) final k h) (agrees_moved to from held v a)
  edits_read edit number (Step regs ∷ es) [] held final v h a = absurd cc
  edits_read edit number (Step regs ∷ es) (i ∷ is) held final v h a =
      let k = λ (l : List EntryPair). after_edits layout ends block (edit + 1) es is l in
      let xs = given_operands (operands i) regs.items in
      let next = contents_after_step (operands i) xs held in
      let goes = step_goes block edit (step_cause i regs.items held) next final k h in
      let r = edits_read (edit + 1) (number + 1) es is next final (after_inst (fresh number) (operands i) xs v) goes.1 (agrees_stepped (fresh number) (operands i) xs held v a) in
      ((reads_all 0 xs held v a (all_held i regs.items held goes.0), r.0), r.1)

-- without instructions nothing is read
nothing_read : (fresh : ℕ → Fresh) (number : ℕ) (es : List Edit) (v : Values) → EditsReadAlike fresh number es [] v
nothing_read fresh number [] v = tt
nothing_read fresh number (Move to from ∷ es) v = nothing_read fresh (number + 1) es (values_after_copy to from v)
nothing_read fresh number (Step regs ∷ es) v = tt

-- ---- blocks without a fault

later_of : (f : ℕ → PlanFault) (o : Option ℕ) (r : Result (List EntryPair) PlanFault) (final : List EntryPair) → fault_or f o r ≡ Ok final → r ≡ Ok final
later_of f None r final h = h
later_of f (Some n) r final h = absurd cc

edits_of_block : (layout : FrameLayout) (count block : ℕ) (b : Block) (p : BlockPlan) (final : List EntryPair) → after_block layout count block b p ≡ Ok final →
    after_edits layout (is_end (block_ending b.insts.items)) block 0 p.edits.items b.insts.items p.entry.items ≡ Ok final
edits_of_block layout count block b p final h =
    later_of (Shape block) (first_misshapen count 0 b.insts.items) _ final (later_of (Unsupported block) (first_unsupported 0 b.insts.items) _ final h)

-- each of these blocks has no fault, and this is held at its end
abbrev AllEnd : FrameLayout → (count block : ℕ) → List Block → List BlockPlan → List (List EntryPair) → Type 0
AllEnd layout count block [] ps hs = Unit {0}
AllEnd layout count block (b ∷ bs) [] hs = ⊥
AllEnd layout count block (b ∷ bs) (p ∷ ps) [] = ⊥
AllEnd layout count block (b ∷ bs) (p ∷ ps) (h ∷ hs) = (after_block layout count block b p ≡ Ok h) × AllEnd layout count (block + 1) bs ps hs

block_goes : (r : Result (List EntryPair) PlanFault) (k : List EntryPair → Result (List (List EntryPair)) PlanFault) (ends : List (List EntryPair)) → or_block_fault r k ≡ Ok ends → (h : List EntryPair) × (r ≡ Ok h) × (k h ≡ Ok ends)
block_goes (Ok held) k ends h = (held, refl, h)
block_goes (Err f) k ends h = absurd cc

-- what is held at the ends of these blocks stands behind what was told before
record Told (layout : FrameLayout) (count block : ℕ) (bs : List Block) (ps : List BlockPlan) (before ends : List (List EntryPair)) : Type 0 where
  held : List (List EntryPair)
  behind : ends ≡ before ++ held
  all : AllEnd layout count block bs ps held

module _ (layout : FrameLayout) (count : ℕ) where
  all_end : (before ends : List (List EntryPair)) (block : ℕ) (bs : List Block) (ps : List BlockPlan) → length bs ≡ length ps → after_blocks layout count before block bs ps ≡ Ok ends → Told layout count block bs ps before ends
  all_end before ends block [] ps n h = record { held = []; behind = sym (same_ok {E = PlanFault} before ends h) ∙ sym (append-nil before); all = tt }
  all_end before ends block (b ∷ bs) [] n h = absurd (omega (arith, n))
  all_end before ends block (b ∷ bs) (p ∷ ps) n h =
      let goes = block_goes (after_block layout count block b p) (λ (l : List EntryPair). after_blocks layout count (before ++ l ∷ []) (block + 1) bs ps) ends h in
      let rest = all_end (before ++ goes.0 ∷ []) ends (block + 1) bs ps (omega (arith, n)) goes.2 in
      record { held = goes.0 ∷ rest.held; behind = rest.behind ∙ append_assoc before (goes.0 ∷ []) rest.held; all = (goes.1, rest.all) }

-- the plan of a block, and what is held at its end
record Ended (layout : FrameLayout) (count block : ℕ) (b : Block) (p : Option BlockPlan) (end : Option (List EntryPair)) : Type 0 where
  plan : BlockPlan
  held : List EntryPair
  plan_is : p ≡ Some plan
  held_is : end ≡ Some held
  goes : after_block layout count block b plan ≡ Ok held

module _ (layout : FrameLayout) (count : ℕ) where
  ended : (block : ℕ) (bs : List Block) (ps : List BlockPlan) (hs : List (List EntryPair)) → AllEnd layout count block bs ps hs → (i : ℕ) (b : Block) → slice_get bs i ≡ Some b →
      Ended layout count (block + i) b (slice_get ps i) (slice_get hs i)
  ended block [] ps hs all i b h = absurd cc
  ended block (x ∷ bs) [] hs all i b h = absurd all
  ended block (x ∷ bs) (p ∷ ps) [] all i b h = absurd all
  ended block (x ∷ bs) (p ∷ ps) (held ∷ hs) all zero b h =
      let same : x ≡ b = cc in
      let here : block ≡ block + zero = omega arith in
      record { plan = p; held = held; plan_is = refl; held_is = refl; goes = subst (λ y. after_block layout count (block + zero) y p ≡ Ok held) same (subst (λ n. after_block layout count n x p ≡ Ok held) here all.0) }
  ended block (x ∷ bs) (p ∷ ps) (held ∷ hs) all (suc i) b h =
      let there : (block + 1) + i ≡ block + suc i = omega arith in
      subst (λ n. Ended layout count n b (slice_get ps i) (slice_get hs i)) there (ended (block + 1) bs ps hs all.1 i b h)

-- ---- the pairs with which blocks begin

entry_none : (block : ℕ) (o : Option ℕ) (later : Option PlanFault) → entry_or block o later ≡ None → (o ≡ None) × (later ≡ None)
entry_none block None later h = (refl, h)
entry_none block (Some pair) later h = absurd cc

-- each pair of an entry is founded
each_founded : (ends : List (List EntryPair)) (before : List ℕ) (block number : ℕ) (xs : List EntryPair) → first_unfounded ends before block number xs ≡ None → (x : EntryPair) → holds xs x ≡ true → is_founded ends before block x ≡ true
each_founded ends before block number [] h x k = absurd (false≢true k)
each_founded ends before block number (y ∷ xs) h x k =
    let r = passed_first (is_founded ends before block y) number (first_unfounded ends before block (number + 1) xs) h in
    elim (or_cases (same_pair y x) (holds xs x) k) [
      | inl s ↦ ap (λ (z : EntryPair). is_founded ends before block z) (sym (pair-same y x s)) ∙ r.0
      | inr s ↦ each_founded ends before block (number + 1) xs r.1 x s
    ]

entry_at : (all : List Block) (count : ℕ) (ends : List (List EntryPair)) (block : ℕ) (ps : List BlockPlan) → entry_fault all count ends block ps ≡ None → (i : ℕ) (p : BlockPlan) → slice_get ps i ≡ Some p →
    first_unfounded ends (predecessors count (block + i) 0 all) (block + i) 0 p.entry.items ≡ None
entry_at all count ends block [] h i p k = absurd cc
entry_at all count ends block (q ∷ ps) h zero p k =
    let r = entry_none block (first_unfounded ends (predecessors count block 0 all) block 0 q.entry.items) (entry_fault all count ends (block + 1) ps) h in
    let same : q ≡ p = cc in
    let here : block ≡ block + zero = omega arith in
    subst (λ n. first_unfounded ends (predecessors count n 0 all) n 0 p.entry.items ≡ None) here (subst (λ (y : BlockPlan). first_unfounded ends (predecessors count block 0 all) block 0 y.entry.items ≡ None) same r.0)
entry_at all count ends block (q ∷ ps) h (suc i) p k =
    let r = entry_none block (first_unfounded ends (predecessors count block 0 all) block 0 q.entry.items) (entry_fault all count ends (block + 1) ps) h in
    let there : (block + 1) + i ≡ block + suc i = omega arith in
    subst (λ n. first_unfounded ends (predecessors count n 0 all) n 0 p.entry.items ≡ None) there (entry_at all count ends (block + 1) ps r.1 i p k)

-- what holds at the ends of all predecessors holds at that of each
held_before : (ends : List (List EntryPair)) (count block : ℕ) (x : EntryPair) (number : ℕ) (bs : List Block) → all_hold ends (predecessors count block number bs) x ≡ true → (i : ℕ) (b : Block) → slice_get bs i ≡ Some b →
    precedes count (number + i) b.insts.items block ≡ true → is_held_there (slice_get ends (number + i)) x ≡ true
held_before ends count block x number [] h i b k goes = absurd cc
held_before ends count block x number (y ∷ bs) h zero b k goes =
    let same : y ≡ b = cc in
    let here : number + zero ≡ number = omega arith in
    let goes' : precedes count number y.insts.items block ≡ true = subst (λ (z : Block). precedes count number z.insts.items block ≡ true) (sym same) (subst (λ n. precedes count n b.insts.items block ≡ true) here goes) in
    let rest = predecessors count block (number + 1) bs in
    let h' : all_hold ends (number ∷ rest) x ≡ true = ap (λ l. all_hold ends l x) (sym (cond-true (precedes count number y.insts.items block) (number ∷ rest) rest goes')) ∙ h in
    subst (λ n. is_held_there (slice_get ends n) x ≡ true) (sym here) (and_parts (is_held_there (slice_get ends number) x) (all_hold ends rest x) h').0
held_before ends count block x number (y ∷ bs) h (suc i) b k goes =
    let there : (number + 1) + i ≡ number + suc i = omega arith in
    let rest = predecessors count block (number + 1) bs in
    subst (λ n. is_held_there (slice_get ends n) x ≡ true) there
    (held_before ends count block x (number + 1) bs (later_hold (precedes count number y.insts.items block) number rest h) i b k (subst (λ n. precedes count n b.insts.items block ≡ true) (sym there) goes))
  where
    later_hold : (c : Bool) (n : ℕ) (l : List ℕ) → all_hold ends (cond c (n ∷ l) l) x ≡ true → all_hold ends l x ≡ true
    later_hold true n l e = (and_parts (is_held_there (slice_get ends n) x) (all_hold ends l x) e).1
    later_hold false n l e = e

-- ---- walks

zero_plus : (n : ℕ) → 0 + n ≡ n
zero_plus n = omega arith

module _ (layout : FrameLayout) (blocks : List Block) (plans : List BlockPlan) (ends : List (List EntryPair))
    (all : AllEnd layout (length blocks) 0 blocks plans ends) (entries : entry_fault blocks (length blocks) ends 0 plans ≡ None) where
  -- the values where a block begins agree with its entry
  abbrev Starts : ℕ → Values → Type 0
  Starts n v = (p : BlockPlan) → slice_get plans n ≡ Some p → Agrees p.entry.items v

  founded_at : (n : ℕ) (p : BlockPlan) → slice_get plans n ≡ Some p → (x : EntryPair) → holds p.entry.items x ≡ true → is_founded ends (predecessors (length blocks) n 0 blocks) n x ≡ true
  founded_at n p at x h =
      let e = entry_at blocks (length blocks) ends 0 plans entries n p at in
      each_founded ends (predecessors (length blocks) n 0 blocks) n 0 p.entry.items (subst (λ m. first_unfounded ends (predecessors (length blocks) m 0 blocks) m 0 p.entry.items ≡ None) (zero_plus n) e) x h

  -- nothing is held where the first block begins
  starts_first : (v : Values) → Starts 0 v
  starts_first v p at x h = absurd (false≢true (and_parts (not (nat_eq 0 0) && is_virtual x.vreg) (all_hold ends (predecessors (length blocks) 0 0 blocks) x) (founded_at 0 p at x h)).0)

  starts_next : (from to : ℕ) (b : Block) (held : List EntryPair) (v : Values) → slice_get blocks from ≡ Some b → slice_get ends from ≡ Some held → precedes (length blocks) from b.insts.items to ≡ true → Agrees held v → Starts to v
  starts_next from to b held v at end goes a p has x h =
      let f = and_parts (not (nat_eq to 0) && is_virtual x.vreg) (all_hold ends (predecessors (length blocks) to 0 blocks) x) (founded_at to p has x h) in
      let before = held_before ends (length blocks) to x 0 blocks f.1 from b at (subst (λ m. precedes (length blocks) m b.insts.items to ≡ true) (sym (zero_plus from)) goes) in
      a x (ap (λ o. is_held_there o x) (sym end) ∙ subst (λ m. is_held_there (slice_get ends m) x ≡ true) (zero_plus from) before)

  -- the block reads alike, and the values behind it agree with what its successors begin with
  visited : (fresh : ℕ → Fresh) (n : ℕ) (v : Values) (o : Option Block) → slice_get blocks n ≡ o → Starts n v →
      EditsReadAlike fresh 0 (edits_of (slice_get plans n)) (insts_of o) v × ((to : ℕ) → is_successor (length blocks) n o to ≡ true → Starts to (after_edits_of fresh 0 (edits_of (slice_get plans n)) (insts_of o) v))
  visited fresh n v None at starts = (nothing_read fresh 0 (edits_of (slice_get plans n)) v, λ to h. absurd (false≢true h))
  visited fresh n v (Some b) at starts =
      let e = ended layout (length blocks) 0 blocks plans ends all n b at in
      let go = edits_of_block layout (length blocks) (0 + n) b e.plan e.held e.goes in
      let r = edits_read layout (is_end (block_ending b.insts.items)) (0 + n) fresh 0 0 e.plan.edits.items b.insts.items e.plan.entry.items e.held v go (starts e.plan e.plan_is) in
      let whole = subst (λ es. EditsReadAlike fresh 0 es b.insts.items v × Agrees e.held (after_edits_of fresh 0 es b.insts.items v)) (ap edits_of (sym e.plan_is)) r in
      (whole.0, λ to h. starts_next n to b e.held (after_edits_of fresh 0 (edits_of (slice_get plans n)) b.insts.items v) at e.held_is h whole.1)

  -- a walk from a block on
  walked : (x : Visit) (xs : List Visit) (v : Values) → GoesOn blocks x.block xs → Starts x.block v → VisitsReadAlike blocks plans (x ∷ xs) v
  walked x [] v goes starts = ((visited x.fresh x.block v (slice_get blocks x.block) refl starts).0, tt)
  walked x (y ∷ xs) v goes starts =
      let r = visited x.fresh x.block v (slice_get blocks x.block) refl starts in
      (r.0, walked y xs (after_edits_of x.fresh 0 (edits_of (slice_get plans x.block)) (insts_of (slice_get blocks x.block)) v) goes.1 (r.1 y.block goes.0))

  every_walk : EveryWalkReadsAlike blocks plans
  every_walk [] is v = tt
  every_walk (x ∷ xs) is v = walked x xs v is.1 (subst (λ n. Starts n v) (sym is.0) (starts_first v))

-- ---- a plan without a fault

ended_plan : (blocks : List Block) (plans : List BlockPlan) (r : Result (List (List EntryPair)) PlanFault) (ends : List (List EntryPair)) → then_entries blocks plans r ≡ Ok ends →
    (r ≡ Ok ends) × (entry_fault blocks (length blocks) ends 0 plans ≡ None)
ended_plan blocks plans (Err f) ends h = absurd cc
ended_plan blocks plans (Ok found) ends h =
    let r = unless (entry_fault blocks (length blocks) found 0 plans) found h in
    (ap Ok r.1, ap (λ l. entry_fault blocks (length blocks) l 0 plans) (sym r.1) ∙ r.0)
  where
    unless : (o : Option PlanFault) (found : List (List EntryPair)) → unless_entry o found ≡ Ok ends → (o ≡ None) × (found ≡ ends)
    unless None found e = (refl, same_ok {E = PlanFault} found ends e)
    unless (Some f) found e = absurd cc

counted : (b : Bool) (r : Result (List (List EntryPair)) PlanFault) (ends : List (List EntryPair)) → cond b r (Err Blocks) ≡ Ok ends → (b ≡ true) × (r ≡ Ok ends)
counted true r ends h = (refl, h)
counted false r ends h = absurd cc

walks_read_alike : (layout : FrameLayout) (blocks : List Block) (plans : List BlockPlan) (ends : List (List EntryPair)) → plan_contents layout blocks plans ≡ Ok ends → EveryWalkReadsAlike blocks plans
walks_read_alike layout blocks plans ends h =
    let c = counted (nat_eq (length blocks) (length plans)) _ ends h in
    let e = ended_plan blocks plans (after_blocks layout (length blocks) [] 0 blocks plans) ends c.1 in
    let told = all_end layout (length blocks) [] ends 0 blocks plans (eqb-true (length blocks) (length plans) c.0) e.0 in
    every_walk layout blocks plans ends (subst (λ l. AllEnd layout (length blocks) 0 blocks plans l) (sym told.behind) told.all) e.1

-- there are as many blocks as plans
pub same_count : (layout : FrameLayout) (blocks : List Block) (plans : List BlockPlan) → IsOk (plan_contents layout blocks plans) → length blocks ≡ length plans
same_count layout blocks plans h = eqb-true (length blocks) (length plans) (compared (nat_eq (length blocks) (length plans)) _ h)
  where
    compared : (b : Bool) (r : Result (List (List EntryPair)) PlanFault) → IsOk (cond b r (Err Blocks)) → b ≡ true
    compared true r k = refl
    compared false r k = absurd (false≢true k)

-- the theorem
pub faultless_walks : (layout : FrameLayout) (blocks : List Block) (plans : List BlockPlan) → IsOk (plan_contents layout blocks plans) → EveryWalkReadsAlike blocks plans
faultless_walks layout blocks plans h = found (plan_contents layout blocks plans) refl h
  where
    found : (r : Result (List (List EntryPair)) PlanFault) → plan_contents layout blocks plans ≡ r → IsOk r → EveryWalkReadsAlike blocks plans
    found (Ok ends) is k = walks_read_alike layout blocks plans ends is
    found (Err f) is k = absurd (false≢true k)
