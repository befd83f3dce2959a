-- The branches of placed code lead where its layout says.
use Rattle.std.proofs.Common.{◌≡◌, ℕ, suc, ◌+◌, ◌-◌, ◌*◌, ◌%◌, ◌^◌, ◌<◌, ◌≤◌, inl, inr, [], ◌∷◌, List, length, Some, None, if◌then◌else◌, refl, sym, ap, ◌∙◌, subst, arith, slice_get}
use Rattle.s390x_base.specs.Regs.{number_of}
use Rattle.s390x_base.specs.declared.ir.MachLabel.{MachLabel}
use Rattle.s390x_inst.specs.declared.inst.Inst.{Inst}
use Rattle.s390x_inst.specs.declared.inst.Inst.TheVariants.{Jump, CondBr, JTSequence}
use Rattle.s390x_format.specs.Formats.{length_of}
use Rattle.s390x_lanes.specs.declared.operators.Signedness.TheVariants.{Signed}
use Rattle.s390x_operations.specs.Bits.{extended_bits}
use Rattle.s390x_operations.specs.Effects.{is_selected}
use Rattle.s390x_operations.specs.State.{State, wrapping_add64}
use Rattle.s390x_operations.specs.declared.size.Size.TheVariants.{Doubleword}
use Rattle.s390x_operations.specs.declared.size.Width.TheVariants.{Bits32}
use Rattle.s390x_rows.specs.declared.opcodes.TheConstants as opcodes
use Rattle.s390x_typed_steps.specs.Parts.{CodePart, Branch, ToBlock, ToStep, table_parts, step_parts}
use Rattle.s390x_typed_steps.specs.MachineInstruction.{bytes_of, ril_c}
use Rattle.s390x_typed_steps.specs.Rows.{half_distance, table_distance, word_bytes}
use Rattle.s390x_typed_steps.specs.StepBody.{NothingLeft, BranchLeft}
use Rattle.s390x_typed_steps.specs.Steps.{Step, Plain, LoadedStep, Shortened, Opening, Back, Break, CallingStep, NoLoadStep, TailOpeningStep, TailJumpStep}
use Rattle.s390x_machine.specs.declared.action_type.Action.TheVariants.{Branch as BranchAction}
use Rattle.s390x_machine.specs.CodeAt.{AllCodeAt, AreBlocks, ImageAt, IsBlock, IsFoldedRight, IsValidInstruction, IsValidStep, LeadsOn}
use Rattle.s390x_machine.specs.Layout.{Layout, block_address, step_address}
use Rattle.s390x_machine.specs.Machine.{ActionStep, Event, Executed, Interrupted}
use Rattle.s390x_machine.proofs.Built.{StepAt, step_even, step_small, stand_as, size_as}
use Rattle.s390x_machine.proofs.Fetching.{StandsAt}
use Rattle.s390x_machine.proofs.RegisterNumbers.{small_mask}
use Rattle.s390x_machine.proofs.Rows.{brcl_at}
use Rattle.s390x_machine.proofs.Simulation.{RowAt}
use Rattle.s390x_machine.proofs.Standing.{step_at, step_within as bytes_within}
use Rattle.s390x_machine.proofs.Tables.{extended_low, extended_high, listed_block, word_at, words_stand}
use Rattle.s390x_machine.proofs.Trapping.{within_image}
use Rattle.s390x_emit_laws.specs.Places.{BranchesTo, WordLeads, StepLeads}

-- ---- branches

branch_acts : (mask target : ℕ) (s : State) (event : Event) (t : State) → ActionStep (BranchAction mask target) 6 s event t → (event ≡ Executed None) × (t ≡ record { core = s.core; address = if is_selected mask s.core.registers.code then target else wrapping_add64 s.address 6 })
branch_acts mask target s (Executed x) t h = (ap Executed h.2, ap (λ c. record { core = c; address = t.address }) h.0 ∙ ap (λ a. record { core = s.core; address = a }) h.1)
branch_acts mask target s (Interrupted kind) t h = absurd h

leads_by : (L : Layout) (offset mask target : ℕ) → RowAt L (wrapping_add64 L.image.base offset) (λ r. BranchAction mask target) 6 → BranchesTo L.image offset mask target
leads_by L offset mask target row s at is_loaded event t step = branch_acts mask target s event t (row s at is_loaded event t step)

-- ---- the words of a table

-- the address of a table plus a word of it is the target's
pub reaches : (base table j target : ℕ) → table + j < 2 ^ 31 → target < 2 ^ 31 → wrapping_add64 (wrapping_add64 base table) (extended_bits Signed Bits32 Doubleword (table_distance (table + j) j target)) ≡ wrapping_add64 base target
reaches base table j target lt small =
    elim (Rattle.std.proofs.lemmas.Bool.cases_lt target table) [
      | inl less ↦
          let d : ℕ = table - target in
          let w : table_distance (table + j) j target ≡ 2 ^ 32 - d = omega arith in
          let y : extended_bits Signed Bits32 Doubleword (table_distance (table + j) j target) ≡ 2 ^ 64 - d = extended_high (table_distance (table + j) j target) (omega (arith, w)) (omega (arith, w)) ∙ omega (arith, w) in
          ap (wrapping_add64 (wrapping_add64 base table)) y ∙ omega arith
      | inr more ↦
          let d : ℕ = target - table in
          let w : table_distance (table + j) j target ≡ d = omega arith in
          let y : extended_bits Signed Bits32 Doubleword (table_distance (table + j) j target) ≡ d = extended_low (table_distance (table + j) j target) (omega (arith, w)) ∙ w in
          ap (wrapping_add64 (wrapping_add64 base table)) y ∙ omega arith
    ]

-- ---- the steps

-- a branch at an offset of placed code, to an even offset
branch_leads : (L : Layout) → ImageAt L → (offset mask target : ℕ) → offset % 2 ≡ 0 → offset < 2 ^ 31 → mask < 16 → target % 2 ≡ 0 → target < 2 ^ 31 → StandsAt L.image offset (bytes_of (ril_c opcodes.BRCL mask (half_distance offset target))) → BranchesTo L.image offset mask (wrapping_add64 L.image.base target)
unfolding length_of
branch_leads L image offset mask target even small lm even_target small_target stands =
    leads_by L offset mask (wrapping_add64 L.image.base target) (brcl_at L image offset even mask target lm small even_target small_target stands)

module _ {L : Layout} {k : ℕ} {s : Step} (x : StepAt L k s) where
  -- the first part of a step is a branch to a block
  first_to_block : (mask b : ℕ) (more : List CodePart) → step_parts s ≡ Branch mask (ToBlock b) ∷ more → mask < 16 → IsBlock L b → BranchesTo L.image (L.offsets.step k) mask (block_address L b)
  first_to_block mask b more parts lm known =
      branch_leads L x.image (L.offsets.step k) mask (L.offsets.block b) (step_even x) (step_small x) lm (x.image.block_places b known).0 (x.image.block_places b known).1 (stand_as x _ parts).0

  -- the one part of a step is a branch to a step
  to_step : (mask j : ℕ) → step_parts s ≡ Branch mask (ToStep j) ∷ [] → mask < 16 → j ≤ length L.steps → BranchesTo L.image (L.offsets.step k) mask (step_address L j)
  to_step mask j parts lm le =
      branch_leads L x.image (L.offsets.step k) mask (L.offsets.step j) (step_even x) (step_small x) lm (x.image.step_places j le).0 (x.image.step_places j le).1 (stand_as x _ parts).0

  -- the second branch of a choice
  second_to_block : (mask a b : ℕ) → step_parts s ≡ Branch mask (ToBlock a) ∷ Branch 15 (ToBlock b) ∷ [] → IsBlock L b → BranchesTo L.image (L.offsets.step k + 6) 15 (block_address L b)
  second_to_block mask a b parts known =
      let o = L.offsets.step k in
      let size : L.offsets.step (suc k) ≡ o + 12 = size_as x _ parts in
      branch_leads L x.image (o + 6) 15 (L.offsets.block b) (omega (arith, step_even x)) (omega (arith, size, bytes_within L k s x.code, x.image.short)) (omega arith) (x.image.block_places b known).0 (x.image.block_places b known).1 (stand_as x _ parts).1.0

  -- a word of the table of a step
  table_leads : (index mask other : ℕ) (targets : List MachLabel) → step_parts s ≡ table_parts index mask other targets → AreBlocks L targets → (j : ℕ) (l : MachLabel) → slice_get targets j ≡ Some l → WordLeads L.image (L.offsets.step k + 20) j (block_address L l.0)
  unfolding length_of
  table_leads index mask other targets parts are j l e m is_loaded =
      let o = L.offsets.step k in
      let stands = stand_as x _ parts in
      let w = words_stand L (o + 6 + 6 + 6 + 2) 0 targets stands.1.1.1.1 j l e in
      let z : o + 6 + 6 + 6 + 2 ≡ o + 20 = omega arith in
      let n : 0 + 4 * j ≡ 4 * j = omega arith in
      let w1 : StandsAt L.image (o + 20 + 4 * j) (word_bytes (table_distance (o + 20 + 4 * j) (0 + 4 * j) (L.offsets.block l.0))) = subst (λ q. StandsAt L.image (q + 4 * j) (word_bytes (table_distance (q + 4 * j) (0 + 4 * j) (L.offsets.block l.0)))) z w in
      let w2 : StandsAt L.image (o + 20 + 4 * j) (word_bytes (table_distance (o + 20 + 4 * j) (4 * j) (L.offsets.block l.0))) = subst (λ b. StandsAt L.image (o + 20 + 4 * j) (word_bytes (table_distance (o + 20 + 4 * j) b (L.offsets.block l.0)))) n w1 in
      let block : IsBlock L l.0 = listed_block L targets are j l e in
      ap (λ v. wrapping_add64 (wrapping_add64 L.image.base (o + 20)) (extended_bits Signed Bits32 Doubleword v)) (word_at L.image m (o + 20 + 4 * j) (table_distance (o + 20 + 4 * j) (4 * j) (L.offsets.block l.0)) (omega arith) x.image.fits is_loaded w2)
      ∙ reaches L.image.base (o + 20) (4 * j) (L.offsets.block l.0) (omega (arith, within_image L (o + 20 + 4 * j) _ w2, x.image.short)) (x.image.block_places l.0 block).1

-- what is left of a step's branches leads to a block of the step's
left_leads : {L : Layout} {k : ℕ} (mask b : ℕ) (i : Inst) (x : StepAt L k (Shortened (BranchLeft mask b) i)) → IsValidInstruction L i → LeadsOn L k (BranchLeft mask b) i → BranchesTo L.image (L.offsets.step k) mask (block_address L b)
left_leads {L} {k} mask b (CondBr taken not_taken m) x valid (inl (same, is, on)) =
    first_to_block x mask b [] refl (subst (λ n. n < 16) (sym same) (small_mask m valid.2)) (subst (IsBlock L) (sym is) valid.0)
left_leads {L} {k} mask b (CondBr taken not_taken m) x valid (inr (same, is, on)) =
    first_to_block x mask b [] refl (omega (arith, same)) (subst (IsBlock L) (sym is) valid.1)
left_leads mask b _ x valid on = absurd on

step_leads : {L : Layout} {k : ℕ} (s : Step) → StepAt L k s → IsValidStep L s → IsFoldedRight L k s → StepLeads L k s
step_leads (Plain (Jump dest)) x valid right = first_to_block x 15 dest.0 [] refl (omega arith) valid
step_leads (Plain (CondBr taken not_taken mask)) x valid right =
    (first_to_block x mask taken.0 _ refl (small_mask mask valid.2) valid.0, second_to_block x mask taken.0 not_taken.0 refl valid.1)
step_leads (Plain (JTSequence ridx other mask targets)) x valid right =
    (first_to_block x mask other.0 _ refl (small_mask mask valid.5) valid.3, table_leads x (number_of ridx) mask other.0 targets.items refl valid.4)
step_leads (Plain i) x valid right = tt
step_leads (Shortened NothingLeft i) x valid right = tt
step_leads (Shortened (BranchLeft mask b) i) x valid right = left_leads mask b i x valid right
step_leads (Back mask target) x valid right = to_step x mask target refl (small_mask mask valid.0) valid.1
step_leads (Break mask target) x valid right = to_step x mask target refl (small_mask mask valid.0) valid.1
step_leads s x valid right = tt

pub branches_lead : (L : Layout) → AllCodeAt L → (k : ℕ) (s : Step) → slice_get L.steps k ≡ Some s → StepLeads L k s
branches_lead L all k s at = let x = step_at L all k s at in step_leads s x x.code.valid x.code.folded
