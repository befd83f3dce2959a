-- The pairs with which blocks begin: each of them stands at the end of every block that leads there.
use Rattle.std.specs.Prelude.{◌≡◌, ℕ, ◌+◌, ◌-◌, ◌⊎◌, Bool, true, false, ◌&&◌, not, nat_eq, cond, List, [], ◌∷◌, ◌++◌, length, Option, Some, None, slice_get}
use Rattle.std.specs.Global.{Vec}
use Rattle.s390x_base.specs.declared.regs.Reg.{Reg}
use Rattle.s390x_base.specs.declared.regs.Reg.TheVariants.{Real, Virtual}
use Rattle.s390x_inst.specs.declared.function.Block.{Block}
use Rattle.s390x_alloc.specs.declared.fault.PlanFault.{PlanFault}
use Rattle.s390x_alloc.specs.declared.fault.PlanFault.TheVariants.{Entry, NoMemory}
use Rattle.s390x_alloc.specs.declared.plan.BlockPlan.{BlockPlan}
use Rattle.s390x_alloc.specs.declared.plan.EntryPair.{EntryPair}
use Rattle.s390x_alloc.specs.Contents.{holds}
use Rattle.s390x_alloc.specs.Shape.{precedes}

-- the numbers of those of `count` blocks that have a block as a successor, where the first of these has this number
abbrev pub predecessors : (count block : ℕ) → (number : ℕ) → List Block → List ℕ
predecessors count block number [] = []
predecessors count block number (b ∷ bs) = cond (precedes count number b.insts.items block) (number ∷ predecessors count block (number + 1) bs) (predecessors count block (number + 1) bs)

-- a number is the last one of these
abbrev pub is_that : Option ℕ → ℕ → Bool
is_that None n = false
is_that (Some m) n = nat_eq m n

abbrev pub ends_with : List ℕ → ℕ → Bool
ends_with xs n = is_that (slice_get xs (length xs - 1)) n

-- a number behind these, where it is to be put there and isn't the last one
abbrev pub put_once : (is_put : Bool) → ℕ → List ℕ → List ℕ
put_once is_put n xs = cond (is_put && not (ends_with xs n)) (xs ++ n ∷ []) xs

-- the list with a number
abbrev pub items_of : Option (Vec ℕ) → List ℕ
items_of None = []
items_of (Some v) = v.items

abbrev pub numbers_at : List (Vec ℕ) → ℕ → List ℕ
numbers_at lists n = items_of (slice_get lists n)

-- what is held somewhere, where that is told, holds the pair
abbrev pub is_held_there : Option (List EntryPair) → EntryPair → Bool
is_held_there None x = false
is_held_there (Some held) x = holds held x

-- the pair is held at the ends of all these blocks
abbrev pub all_hold : (ends : List (List EntryPair)) → List ℕ → EntryPair → Bool
all_hold ends [] x = true
all_hold ends (q ∷ qs) x = is_held_there (slice_get ends q) x && all_hold ends qs x

abbrev pub is_virtual : Reg → Bool
is_virtual (Real p) = false
is_virtual (Virtual n c) = true

-- a block may begin with a pair: it isn't the first block, the pair tells of a virtual register, and is held at the ends of all that lead there
abbrev pub is_founded : (ends : List (List EntryPair)) → (before : List ℕ) → (block : ℕ) → EntryPair → Bool
is_founded ends before block x = (not (nat_eq block 0) && is_virtual x.vreg) && all_hold ends before x

-- the first pair with which a block may not begin, where the first of these has this number
abbrev pub first_unfounded : (ends : List (List EntryPair)) → (before : List ℕ) → (block number : ℕ) → List EntryPair → Option ℕ
first_unfounded ends before block number [] = None
first_unfounded ends before block number (x ∷ xs) = cond (is_founded ends before block x) (first_unfounded ends before block (number + 1) xs) (Some number)

abbrev pub entry_or : (block : ℕ) → Option ℕ → Option PlanFault → Option PlanFault
entry_or block None later = later
entry_or block (Some pair) later = Some (Entry block pair)

-- the first fault of the pairs of these blocks, of which the first has this number, where all blocks are those of a whole list
abbrev pub entry_fault : (all : List Block) → (count : ℕ) → (ends : List (List EntryPair)) → (block : ℕ) → List BlockPlan → Option PlanFault
entry_fault all count ends block [] = None
entry_fault all count ends block (p ∷ ps) = entry_or block (first_unfounded ends (predecessors count block 0 all) block 0 p.entry.items) (entry_fault all count ends (block + 1) ps)

-- the fault is the one that was found; want of memory is free
abbrev pub IsFirst : (found : Option PlanFault) → Option PlanFault → Type 0
IsFirst found None = found ≡ None
IsFirst found (Some f) = (f ≡ NoMemory) ⊎ (found ≡ Some f)
