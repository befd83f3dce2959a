-- Retry loops among the instructions of a function: which they are, and that a function has one.
use Rattle.std.specs.Prelude.{◌≡◌, ℕ, ◌+◌, ◌⊎◌, List, [], ◌∷◌, Bool, true, false, not, ◌&&◌, ◌||◌, IsTrue, IsFalse, is_some}
use Rattle.s390x_inst.specs.declared.inst.Inst.{Inst}
use Rattle.s390x_inst.specs.declared.inst.Inst.TheVariants as I
use Rattle.s390x_typed_steps.specs.Tree.{Tree, empty, leaf, loop_node, Whole}
use Rattle.s390x_typed_steps.specs.Steps.{step_count}
use Rattle.s390x_typed_steps.specs.SingleInstruction.{stop_code}
use Rattle.s390x_machine.specs.Storage.{operand_step}
use Rattle.s390x_operations.specs.Effects.{is_selected}
use Rattle.s390x_operations.specs.declared.stop.ConditionCode.TheVariants.{Code0}

-- ---- which instructions

-- It goes elsewhere or ends the run, or has members of its own. One that is forgotten here is refused by `work` of `proofs/RegisterWork`: what it does is no
-- register work
abbrev pub is_control : Inst → Bool
is_control (I.Jump dest) = true
is_control (I.CondBr taken not_taken mask) = true
is_control (I.IndirectBr rn targets) = true
is_control (I.JTSequence ridx other mask targets) = true
is_control (I.Ret link) = true
is_control (I.Call link info) = true
is_control (I.ReturnCall info) = true
is_control (I.Trap code) = true
is_control (I.TrapIf mask code) = true
is_control I.Debugtrap = true
is_control (I.CondBreak mask) = true
is_control (I.Loop' mask body all) = true
is_control _ = false

-- an instruction without an operand in memory and without a possible stop, which goes on to the next one: it works on registers and immediates, gives the
-- address of a block, the value of a symbol or a part of the stack, or does nothing
abbrev pub is_register_work : Inst → Bool
is_register_work i = not (is_some (operand_step i)) && not (is_some (stop_code i)) && not (is_control i)

-- a member before the swap
abbrev pub is_member : Inst → Bool
is_member (I.CondBreak mask) = true
is_member i = is_register_work i

abbrev pub is_swap : Inst → Bool
is_swap (I.AtomicCas32 rd ri rn mem) = true
is_swap (I.AtomicCas64 rd ri rn mem) = true
is_swap _ = false

abbrev pub is_empty : Tree → Bool
is_empty empty = true
is_empty _ = false

-- the members of a retry loop: register work and breaks, and last a compare and swap
abbrev pub is_retry_body : Tree → Bool
is_retry_body empty = false
is_retry_body (leaf (Whole i) rest) = (is_swap i && is_empty rest) || (is_member i && is_retry_body rest)
is_retry_body _ = false

-- ---- where a loop stands

-- among instructions whose steps begin at number k a loop under this mask with these members opens, at step n
abbrev pub Opens : (n mask : ℕ) → (members : Tree) → (k : ℕ) → Tree → Type 0
Opens n mask members k empty = ⊥
Opens n mask members k (leaf b rest) = Opens n mask members (k + 1) rest
Opens n mask members k (loop_node mask' members' rest) =
    ((n ≡ k) × (mask' ≡ mask) × (members' ≡ members)) ⊎ (Opens n mask members (k + 1) members' ⊎ Opens n mask members (k + 2 + step_count members') rest)

-- among the blocks of a function a loop under this mask with these members opens, at step n
abbrev pub OpensInBlocks : (n mask : ℕ) → (members : Tree) → (k : ℕ) → List Tree → Type 0
OpensInBlocks n mask members k [] = ⊥
OpensInBlocks n mask members k (t ∷ ts) = Opens n mask members k t ⊎ OpensInBlocks n mask members (k + step_count t) ts

-- a loop of a function whose members are those of a retry loop, and whose mask lacks code 0's bit, opens at step n
pub record RetryAt (ts : List Tree) (n : ℕ) : Type 0 where
  pub mask : ℕ
  pub members : Tree
  pub opens : OpensInBlocks n mask members 0 ts
  pub body : IsTrue (is_retry_body members)
  pub retries : IsFalse (is_selected mask Code0)
