-- Where the branches of code lead, and the words of its tables.
use Rattle.std.specs.Prelude.{◌≡◌, ℕ, ◌+◌, ◌*◌, Some, None, slice_get, if◌then◌else◌}
use Rattle.s390x_base.specs.declared.ir.MachLabel.{MachLabel}
use Rattle.s390x_inst.specs.declared.inst.Inst.TheVariants.{Jump, CondBr, JTSequence}
use Rattle.s390x_lanes.specs.declared.operators.Signedness.TheVariants.{Signed}
use Rattle.s390x_operations.specs.Bits.{extended_bits}
use Rattle.s390x_operations.specs.Effects.{is_selected}
use Rattle.s390x_operations.specs.State.{CodeImage, IsLoaded, Memory, State, number_at, wrapping_add64}
use Rattle.s390x_operations.specs.declared.size.Size.TheVariants.{Doubleword}
use Rattle.s390x_operations.specs.declared.size.Width.TheVariants.{Bits32}
use Rattle.s390x_typed_steps.specs.StepBody.{BranchLeft}
use Rattle.s390x_typed_steps.specs.Steps.{Step, Plain, Shortened, Back, Break}
use Rattle.s390x_machine.specs.Layout.{Layout, block_address, step_address}
use Rattle.s390x_machine.specs.Machine.{Event, Executed, MachineStep}

-- Wherever the image lies in memory, the machine's step at an offset of it is a branch of six bytes: to the target where the mask selects the condition code, else
-- on; and nothing else changes
abbrev pub BranchesTo : CodeImage → (offset mask target : ℕ) → Type 0
BranchesTo image offset mask target =
    (s : State) → s.address ≡ wrapping_add64 image.base offset → IsLoaded image s.core.memory → (event : Event) (t : State) → MachineStep s event t →
    (event ≡ Executed None) × (t ≡ record { core = s.core; address = if is_selected mask s.core.registers.code then target else wrapping_add64 s.address 6 })

-- Wherever the image lies in memory, word j of the table at an offset of it, with its sign, leads from the table's address to the target
abbrev pub WordLeads : CodeImage → (table j target : ℕ) → Type 0
WordLeads image table j target =
    (m : Memory) → IsLoaded image m → wrapping_add64 (wrapping_add64 image.base table) (extended_bits Signed Bits32 Doubleword (number_at m.get (wrapping_add64 image.base (table + 4 * j)) 4)) ≡ target

-- Where the branches of step k lead: those of a jump and of a choice to their blocks, what is left of them to its block, the back branch of a loop and a break to
-- their steps. A jump by a table branches to its other block, and its table stands 20 bytes behind its beginning
abbrev pub StepLeads : Layout → (k : ℕ) → Step → Type 0
StepLeads L k (Plain (Jump dest)) = BranchesTo L.image (L.offsets.step k) 15 (block_address L dest.0)
StepLeads L k (Plain (CondBr taken not_taken mask)) = BranchesTo L.image (L.offsets.step k) mask (block_address L taken.0) × BranchesTo L.image (L.offsets.step k + 6) 15 (block_address L not_taken.0)
StepLeads L k (Plain (JTSequence ridx other mask targets)) =
    BranchesTo L.image (L.offsets.step k) mask (block_address L other.0) × ((j : ℕ) (l : MachLabel) → slice_get targets.items j ≡ Some l → WordLeads L.image (L.offsets.step k + 20) j (block_address L l.0))
StepLeads L k (Shortened (BranchLeft mask b) i) = BranchesTo L.image (L.offsets.step k) mask (block_address L b)
StepLeads L k (Back mask target) = BranchesTo L.image (L.offsets.step k) mask (step_address L target)
StepLeads L k (Break mask target) = BranchesTo L.image (L.offsets.step k) mask (step_address L target)
StepLeads L k s = Unit {0}
