-- What a typed step is made of, outside the ends of loops: a whole instruction, one with what the end of its block leaves of its branches, one whose operand's
-- address is loaded first, or a step of those that a call or a tail call consists of.
use Rattle.std.specs.Prelude.{ℕ, List, Option, Bool}
use Rattle.s390x_base.specs.declared.regs.Reg.{Reg}
use Rattle.s390x_buffer.specs.declared.entries.TryHandler.{TryHandler}
use Rattle.s390x_inst.specs.declared.calls.CallInstDest.{CallInstDest}
use Rattle.s390x_inst.specs.declared.inst.Inst.{Inst}

-- what is recorded at the return place of a call, or behind the jump of a tail call
pub data Site : Type 0 where
  -- a call without handlers, or a tail call
  AtCall : Site
  -- a call with handlers, and the distance from the stack pointer to the frame pointer
  AtTry : (handlers : List TryHandler) → (sp_to_fp : ℕ) → Site
  -- a call that may be patched, and how many bytes it has
  AtPatchable : (length : ℕ) → Site
  -- the stack map of a safepoint
  AtStackMap : (map : ℕ) → Site

-- a call: the register that gets the return place, the target, how many bytes the callee takes from the stack, and what is recorded at its return place
pub record Calling : Type 0 where
  pub link : Reg
  pub target : CallInstDest
  pub popped : ℕ
  pub sites : List Site

-- what the end of a block leaves of the branches of its last step
pub data Remainder : Type 0 where
  NothingLeft : Remainder
  -- one under a mask to a block
  BranchLeft : (mask block : ℕ) → Remainder

pub data StepBody : Type 0 where
  Whole : Inst → StepBody
  -- an instruction of whose branches this is left
  Folded : Remainder → Inst → StepBody
  -- an access of an operand that is relative to the instruction, by a machine that lacks the row for that: the address is loaded first
  Loaded : Inst → StepBody
  -- the call itself, before the loads of its results
  CallStep : Calling → StepBody
  -- the load of a result whose type has none: emission refuses it
  NoLoad : StepBody
  -- before a tail call's frame is taken down, without bytes: its target, the first saved general register, and whether the target stands in `%r1`, which a later
  -- step needs
  TailOpening : (target : CallInstDest) → (first_saved : Option ℕ) → (is_lost : Bool) → StepBody
  -- the jump of a tail call, to the target where it then stands
  TailJump : (target : CallInstDest) → StepBody
