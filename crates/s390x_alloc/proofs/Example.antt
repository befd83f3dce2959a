-- The plan of the example has no fault, and the walk is one.
use Rattle.std.proofs.Common.{ℕ, ◌<◌, ◌^◌, List, [], ◌∷◌, length, Vec, Global, refl, arith}
use Rattle.std.specs.Prelude.{pos}
use Rattle.s390x_base.specs.Registers.{general}
use Rattle.s390x_base.specs.declared.regs.Reg.{Reg}
use Rattle.s390x_base.specs.declared.regs.Reg.TheVariants.{Real, Virtual}
use Rattle.s390x_base.specs.declared.regs.RegClass.TheVariants.{Int}
use Rattle.s390x_inst.specs.declared.function.Block.{Block}
use Rattle.s390x_inst.specs.declared.inst.Inst.TheVariants.{Jump, Mov64, Mov64SImm16, Ret}
use Rattle.s390x_alloc.specs.declared.plan.BlockPlan.{BlockPlan}
use Rattle.s390x_alloc.specs.declared.plan.Edit.{Edit}
use Rattle.s390x_alloc.specs.declared.plan.Edit.TheVariants.{Move, Step}
use Rattle.s390x_alloc.specs.declared.plan.Place.{Place}
use Rattle.s390x_alloc.specs.declared.plan.Place.TheVariants.{Reg as InReg, Slot}
use Rattle.s390x_alloc.specs.Example.{SpillIsAccepted, first_value}
use Rattle.s390x_alloc.specs.Walks.{Fresh, Visit}

-- a vector of these
vec : {X : Type 0} (items : List X) → length items < 2 ^ 63 → Vec X Global
vec items small = record { ptr = denote.RawPtr.null_ptr; len = length items; cap = length items; alloc = record { memory = record { seal = tt } }; items = items; ok = (refl, omega arith); small = small }

abbrev step : (regs : List Reg) → length regs < 2 ^ 63 → Edit
step regs small = Step (vec regs small)

head : Block
head = record { insts = vec (Mov64SImm16 first_value (pos 5) ∷ Jump (record { 0 = 1 }) ∷ []) (omega arith) }

tail : Block
tail = record { insts = vec (Mov64 (Virtual 1 Int) first_value ∷ Ret (Real (general 14)) ∷ []) (omega arith) }

head_plan : BlockPlan
head_plan = record {
  entry = vec [] (omega arith);
  edits = vec (step (Real (general 2) ∷ []) (omega arith) ∷ Move (Slot 1) (InReg (general 2)) ∷ step [] (omega arith) ∷ []) (omega arith);
}

tail_plan : BlockPlan
tail_plan = record {
  entry = vec (record { place = Slot 1; vreg = first_value } ∷ []) (omega arith);
  edits = vec (Move (InReg (general 6)) (Slot 1) ∷ step (Real (general 2) ∷ Real (general 6) ∷ []) (omega arith) ∷ step [] (omega arith) ∷ []) (omega arith);
}

nothing_lost : ℕ → Fresh
nothing_lost n = record { lost = λ (p : Place). 0; output = λ (k : ℕ). 5 }

visit : ℕ → Visit
visit n = record { block = n; fresh = nothing_lost }

pub spill_is_accepted : SpillIsAccepted
unfolding vec head tail head_plan tail_plan visit
spill_is_accepted = record {
  blocks = head ∷ tail ∷ [];
  plans = head_plan ∷ tail_plan ∷ [];
  walk = visit 0 ∷ visit 1 ∷ [];
  insts_are = refl;
  edits_are = refl;
  entries_are = refl;
  faultless = refl;
  goes = (refl, (refl, tt));
  visits = refl;
}
