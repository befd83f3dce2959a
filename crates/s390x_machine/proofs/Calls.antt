-- The rows that call and those that go to a symbol, and the steps of calls and of tail calls' jumps.
use Rattle.std.proofs.Common.{◌≡◌, ◌≢◌, ℕ, suc, ◌+◌, ◌%◌, ◌^◌, ◌<◌, List, [], ◌∷◌, Some, Bool, true, false, cond, ◌==◌, IsTrue, refl, sym, ap, ◌∙◌, subst, arith, eqb-true, slice_get}
use Rattle.std.specs.Prelude.{pos, ◌+ℤ◌, ◌*ℤ◌}
use Rattle.std.specs.Int.{cast_signed}
use Rattle.s390x_rows.specs.declared.opcodes.TheConstants as opcodes
use mir.Syntax.{w32}
use Rattle.std.proofs.lemmas.Bool.{and_parts}
use Rattle.s390x_base.specs.Regs.{number_of}
use Rattle.s390x_base.specs.declared.regs.Reg.{Reg}
use Rattle.s390x_inst.specs.declared.calls.CallInstDest.{CallInstDest}
use Rattle.s390x_inst.specs.declared.calls.CallInstDest.TheVariants.{Direct, Indirect}
use Rattle.s390x_format.specs.declared.kind.FormatKind.TheVariants.{Rr, RilB, RilC}
use Rattle.s390x_format.specs.Formats.{length_of}
use Rattle.s390x_format.specs.Lookup.{row_for}
use Rattle.s390x_format.proofs.Encoding.{listed}
use Rattle.s390x_format.specs.Fetch.{machine_rows}
use Rattle.s390x_format.specs.Encoded.{IsEncoded}
use Rattle.s390x_typed_steps.specs.MachineInstruction.{bytes_of, rr, ril_b, ril_c}
use Rattle.s390x_typed_steps.specs.Calls.{is_target, call_size}
use Rattle.s390x_typed_steps.specs.General.{is_general, is_nonzero}
use Rattle.s390x_typed_steps.specs.Parts.{CodePart, call_part, tail_part, site_parts, part_size, parts_size, step_parts, step_size}
use Rattle.s390x_typed_steps.specs.StepBody.{Site, Calling}
use Rattle.s390x_typed_steps.specs.Steps.{Step, CallingStep}
use Rattle.s390x_operations.specs.State.{State, wrapping_add64}
use Rattle.s390x_operations.specs.Numbers.{low}
use Rattle.s390x_operations.specs.declared.size.Size.TheVariants.{Doubleword}
use Rattle.s390x_machine.specs.declared.action_type.Action.TheVariants.{Branch, BranchAndSave}
use Rattle.s390x_machine.specs.Machine.{Event, ActionStep}
use Rattle.s390x_machine.specs.Semantics.{semantics_in, semantics_of}
use Rattle.s390x_machine.specs.Layout.{Layout, step_address}
use Rattle.s390x_machine.specs.CodeAt.{AllCodeAt, ImageAt, PartReaches, PartsReach}
use Rattle.s390x_machine.specs.Match.{return_address}
use Rattle.s390x_machine.specs.OneStep.{StepRuns}
use Rattle.s390x_machine.specs.StepKinds.{Calls, TailCalls, called_address}
use Rattle.s390x_machine.specs.Typed.{kind_of_step}
use Rattle.s390x_machine.proofs.Branches.{tail_runs}
use Rattle.s390x_machine.proofs.Built.{StepAt, step_even, step_form, stand_as, size_as}
use Rattle.s390x_machine.proofs.Composites.{call_runs}
use Rattle.s390x_machine.proofs.Fetching.{StandsAt, row_at}
use Rattle.s390x_machine.proofs.Rows.{fits_rr, fits_ril_b, fits_ril_c, brcl_listed, bcr_at, general_number, nonzero_number}
use Rattle.s390x_machine.proofs.Simulation.{RowAt}
use Rattle.s390x_machine.proofs.Standing.{inside_first, next_place}

basr_listed : (a b : ℕ) → IsEncoded machine_rows Rr (rr opcodes.BASR a b).slots
unfolding machine_rows row_for
basr_listed a b = listed machine_rows Rr (rr opcodes.BASR a b).slots (omega arith) (refl, refl, refl)

brasl_listed : (a half : ℕ) → IsEncoded machine_rows RilB (ril_b opcodes.BRASL a half).slots
unfolding machine_rows row_for
brasl_listed a half = listed machine_rows RilB (ril_b opcodes.BRASL a half).slots (omega arith) (refl, refl, refl)

-- half of a distance leads from an offset to an address
abbrev pub LeadsTo : Layout → (offset half address : ℕ) → Type 0
LeadsTo L offset half address = (half < 2 ^ 32) × (low Doubleword (pos (wrapping_add64 L.image.base offset) +ℤ pos 2 *ℤ cast_signed w32 half) ≡ address)

module _ (L : Layout) (image : ImageAt L) (offset : ℕ) (even : offset % 2 ≡ 0) where
  -- BRANCH AND SAVE to the address in a register
  pub basr_at : (link b : ℕ) → link < 16 → b < 16 → b ≢ 0 → StandsAt L.image offset (bytes_of (rr opcodes.BASR link b)) → RowAt L (wrapping_add64 L.image.base offset) (λ r. BranchAndSave link (r.general b)) (length_of Rr)
  unfolding semantics_in semantics_of
  basr_at link b ll lb some s = row_at L offset (rr opcodes.BASR link b) (λ r. BranchAndSave link (r.general b)) image.even even image.fits s (fits_rr opcodes.BASR link b (omega arith) ll lb) (basr_listed link b) (λ state event t at h. saved (b == 0) refl state event t h)
    where
      saved : (n : Bool) → (b == 0) ≡ n → (state : State) (event : Event) (t : State) →
          ActionStep (BranchAndSave link (cond n (wrapping_add64 state.address 2) (state.core.registers.general b))) (length_of Rr) state event t → ActionStep (BranchAndSave link (state.core.registers.general b)) (length_of Rr) state event t
      saved true e state event t h = absurd (some (eqb-true b 0 e))
      saved false e state event t h = h

  -- BRANCH RELATIVE AND SAVE LONG to an address
  pub brasl_at : (link half target : ℕ) → link < 16 → LeadsTo L offset half target → StandsAt L.image offset (bytes_of (ril_b opcodes.BRASL link half)) → RowAt L (wrapping_add64 L.image.base offset) (λ r. BranchAndSave link target) (length_of RilB)
  unfolding semantics_in semantics_of
  brasl_at link half target ll leads s =
      row_at L offset (ril_b opcodes.BRASL link half) (λ r. BranchAndSave link target) image.even even image.fits s (fits_ril_b opcodes.BRASL link half (omega arith) ll leads.0) (brasl_listed link half) (λ state event t at h.
      subst (λ a. ActionStep (BranchAndSave link a) (length_of RilB) state event t) (ap (λ p. low Doubleword (pos p +ℤ pos 2 *ℤ cast_signed w32 half)) at ∙ leads.1) h)

  -- BRANCH RELATIVE ON CONDITION LONG, which is always taken, to an address
  pub goes_at : (half target : ℕ) → LeadsTo L offset half target → StandsAt L.image offset (bytes_of (ril_c opcodes.BRCL 15 half)) → RowAt L (wrapping_add64 L.image.base offset) (λ r. Branch 15 target) (length_of RilC)
  unfolding semantics_in semantics_of
  goes_at half target leads s =
      row_at L offset (ril_c opcodes.BRCL 15 half) (λ r. Branch 15 target) image.even even image.fits s (fits_ril_c opcodes.BRCL 15 half (omega arith) (omega arith) leads.0) (brcl_listed 15 half) (λ state event t at h.
      subst (λ a. ActionStep (Branch 15 a) (length_of RilC) state event t) (ap (λ p. low Doubleword (pos p +ℤ pos 2 *ℤ cast_signed w32 half)) at ∙ leads.1) h)

-- sites have no bytes
sites_size : (ss : List Site) → parts_size (site_parts ss) ≡ 0
sites_size [] = refl
sites_size (s ∷ ss) = omega (arith, sites_size ss)

module _ {L : Layout} {k : ℕ} {s : Step} (x : StepAt L k s) where
  -- the first part of a step reaches its symbol
  first_reached : (part : CodePart) (parts : List CodePart) → step_parts s ≡ part ∷ parts → PartReaches L (L.offsets.step k) part
  first_reached part parts is = (subst (λ ps. PartsReach L (L.offsets.step k) ps) is x.code.reached).0

  -- a step of one such row and sites has the row's bytes
  row_size : (part : CodePart) (ss : List Site) → step_parts s ≡ part ∷ site_parts ss → L.offsets.step (suc k) ≡ L.offsets.step k + part_size part
  row_size part ss is = omega (arith, size_as x (part ∷ site_parts ss) is, sites_size ss)

  pub calling_runs : (link : Reg) (target : CallInstDest) (ss : List Site) → kind_of_step L (Some s) ≡ Some (Calls (number_of link) (called_address L target)) → step_parts s ≡ call_part link target ∷ site_parts ss → IsTrue (is_general link) → IsTrue (is_target target) → StepRuns L k
  unfolding length_of
  calling_runs link (Direct name) ss is parts general valid =
      let o = L.offsets.step k in
      let part = call_part link (Direct name) in
      let size : L.offsets.step (suc k) ≡ o + 6 = row_size part ss parts in
      let row = brasl_at L x.image o (step_even x) (number_of link) (L.offsets.environment.symbol_distance o name (pos 0)) (L.offsets.environment.symbol_value name (pos 0)) (general_number link general) (first_reached part (site_parts ss) parts) (stand_as x (part ∷ site_parts ss) parts).0 in
      call_runs L k (number_of link) 6 (called_address L (Direct name)) (step_form x _ is) row (next_place L k 6 size) (inside_first L k 6 size (omega arith))
  calling_runs link (Indirect reg) ss is parts general valid =
      let o = L.offsets.step k in
      let part = call_part link (Indirect reg) in
      let size : L.offsets.step (suc k) ≡ o + 2 = row_size part ss parts in
      let registers = and_parts (is_general reg) (is_nonzero reg) valid in
      let row = basr_at L x.image o (step_even x) (number_of link) (number_of reg) (general_number link general) (general_number reg registers.0) (nonzero_number reg registers.0 registers.1) (stand_as x (part ∷ site_parts ss) parts).0 in
      call_runs L k (number_of link) 2 (called_address L (Indirect reg)) (step_form x _ is) row (next_place L k 2 size) (inside_first L k 2 size (omega arith))

  pub tail_jump_runs : (target : CallInstDest) (ss : List Site) → kind_of_step L (Some s) ≡ Some (TailCalls (called_address L target)) → step_parts s ≡ tail_part target ∷ site_parts ss → IsTrue (is_target target) → StepRuns L k
  unfolding length_of
  tail_jump_runs (Direct name) ss is parts valid =
      let o = L.offsets.step k in
      let part = tail_part (Direct name) in
      let size : L.offsets.step (suc k) ≡ o + 6 = row_size part ss parts in
      let row = goes_at L x.image o (step_even x) (L.offsets.environment.symbol_distance o name (pos 0)) (L.offsets.environment.symbol_value name (pos 0)) (first_reached part (site_parts ss) parts) (stand_as x (part ∷ site_parts ss) parts).0 in
      tail_runs L k 6 (called_address L (Direct name)) (step_form x _ is) row (inside_first L k 6 size (omega arith))
  tail_jump_runs (Indirect reg) ss is parts valid =
      let o = L.offsets.step k in
      let part = tail_part (Indirect reg) in
      let size : L.offsets.step (suc k) ≡ o + 2 = row_size part ss parts in
      let registers = and_parts (is_general reg) (is_nonzero reg) valid in
      let row = bcr_at L x.image o (step_even x) 15 (number_of reg) (omega arith) (general_number reg registers.0) (nonzero_number reg registers.0 registers.1) (stand_as x (part ∷ site_parts ss) parts).0 in
      tail_runs L k 2 (called_address L (Indirect reg)) (step_form x _ is) row (inside_first L k 2 size (omega arith))

-- a call's return place is the next step's
called_size : (c : Calling) → step_size (CallingStep c) ≡ call_size c.target
unfolding length_of
called_size c = go c.target
  where
    go : (target : CallInstDest) → parts_size (call_part c.link target ∷ site_parts c.sites) ≡ call_size target
    go (Direct name) = omega (arith, sites_size c.sites)
    go (Indirect reg) = omega (arith, sites_size c.sites)

pub returns_to : (L : Layout) → AllCodeAt L → (k : ℕ) (c : Calling) → slice_get L.steps k ≡ Some (CallingStep c) → return_address L k c ≡ step_address L (suc k)
returns_to L all k c at =
    let same : L.offsets.step (suc k) ≡ L.offsets.step k + call_size c.target = (all.steps k (CallingStep c) at).size ∙ ap (λ n. L.offsets.step k + n) (called_size c) in
    ap (λ n. wrapping_add64 L.image.base n) (sym same)
