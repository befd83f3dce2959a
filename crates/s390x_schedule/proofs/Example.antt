-- Two functions in one image meet the premises, and a run goes through both.
use Rattle.std.proofs.Common.{false, zero, suc, slice_get, Some, ◌≡◌, ℕ, ◌%◌, [], ◌∷◌, ◌++◌, inr, None, refl, sym, subst, arith}
use Rattle.s390x_base.specs.Registers.{general}
use Rattle.s390x_base.specs.declared.regs.Reg.TheVariants.{Real}
use Rattle.s390x_inst.specs.declared.inst.Inst.TheVariants.{Ret}
use Rattle.s390x_inst.specs.declared.state.IsaFlags.{IsaFlags}
use Rattle.s390x_format.specs.declared.kind.FormatKind.TheVariants.{Rr, Rre, RilB}
use Rattle.s390x_format.specs.Encoded.{IsEncoded, decoded_of}
use Rattle.s390x_format.specs.Fetch.{machine_rows}
use Rattle.s390x_format.specs.Formats.{layout_of, length_of}
use Rattle.s390x_format.specs.Layout.{number, bits, SlotsFit}
use Rattle.s390x_format.specs.Lookup.{row_for}
use Rattle.s390x_format.specs.Reading.{be_bytes}
use Rattle.s390x_format.proofs.Encoding.{listed}
use Rattle.s390x_rows.specs.declared.opcodes.TheConstants as opcodes
use Rattle.s390x_typed_steps.specs.Causes.{blocks_cause}
use Rattle.s390x_typed_steps.specs.Image.{step_offset, function_code}
use Rattle.s390x_typed_steps.specs.MachineInstruction.{MachineInstruction, bytes_of, rr, rre, ril_b}
use Rattle.s390x_typed_steps.specs.Parts.{step_parts}
use Rattle.s390x_typed_steps.specs.Ranges.{BlocksInRange}
use Rattle.s390x_typed_steps.specs.StepBody.{Calling}
use Rattle.s390x_typed_steps.specs.Steps.{Step, Plain, CallingStep, function_steps}
use Rattle.s390x_operations.specs.State.{State, IsLoaded, wrapping_add64}
use Rattle.s390x_machine.specs.CodeAt.{PartsReach}
use Rattle.s390x_machine.specs.Fetch.{IsFound}
use Rattle.s390x_machine.specs.declared.instruction_fetch.Fetched.TheVariants.{Found}
use Rattle.s390x_machine.specs.Functions.{StandsAsCode}
use Rattle.s390x_machine.specs.Layout.{Layout}
use Rattle.s390x_machine.specs.Machine.{Executed, FetchedStep, MachineStep, Run}
use Rattle.s390x_machine.specs.Match.{concatenation, return_address}
use Rattle.s390x_machine.specs.Semantics.{semantics_in, semantics_of}
use Rattle.s390x_machine.specs.Typed.{Returned, Called, At, Ended, goes_on}
use Rattle.s390x_machine.proofs.Checked.{checked_steps}
use Rattle.s390x_machine.proofs.FoldedSteps.{whole_right}
use Rattle.s390x_machine.proofs.Fetching.{StandsAt, found_at}
use Rattle.s390x_machine.proofs.Functions.{function_placed}
use Rattle.s390x_machine.proofs.Rows.{fits_rr, fits_rre, fits_ril_b, agr_listed, bcr_listed}
use Rattle.s390x_schedule.specs.Joint.{IsMember, AreMembers, GoesOn, Running, Finished}
use Rattle.s390x_schedule.specs.JointMatch.{JointRun}
use Rattle.s390x_schedule.specs.Example.{image, caller_image, callee_image, environment, keeps, calls, adds, caller_trees, callee_trees, caller, callee, members, core, core_after_save, core_after_call, core_after_sum, transition, groups, CallsAndReturns}

-- ---- the members

-- a machine of the base alone
base : IsaFlags
base = record { has_mie3 = false; has_mie4 = false; has_vxrs_ext2 = false; has_vxrs_ext3 = false; no_relative_memory = false }

-- emission has no cause against either function
caller_checked : (flags : IsaFlags) → blocks_cause flags (record { blocks = 1; aligns = [] }) 1 caller_trees ≡ None
caller_checked flags = refl

callee_checked : (flags : IsaFlags) → blocks_cause flags (record { blocks = 1; aligns = [] }) 1 callee_trees ≡ None
callee_checked flags = refl

caller_ranges : BlocksInRange caller_trees
caller_ranges = (((tt, tt), (tt, ((tt, tt), tt))), tt)

callee_ranges : BlocksInRange callee_trees
callee_ranges = (((tt, tt), ((tt, tt), tt)), tt)

-- the bytes are the functions' code
caller_code : caller_image.bytes ≡ function_code environment caller_trees ++ []
unfolding number bits layout_of length_of be_bytes
caller_code = refl

callee_code : callee_image.bytes ≡ function_code environment callee_trees ++ []
unfolding number bits layout_of length_of be_bytes
callee_code = refl

-- the call's distance leads to the second function
caller_reaches : (k : ℕ) (s : Step) → slice_get (function_steps caller_trees) k ≡ Some s → PartsReach caller (step_offset (function_steps caller_trees) k) (step_parts s)
unfolding length_of
caller_reaches zero s e = let same : Plain keeps ≡ s = cc in subst (λ x. PartsReach caller (step_offset (function_steps caller_trees) zero) (step_parts x)) same (tt, tt)
caller_reaches (suc zero) s e = let same : CallingStep calls ≡ s = cc in subst (λ x. PartsReach caller (step_offset (function_steps caller_trees) (suc zero)) (step_parts x)) same ((omega arith, refl), (tt, tt))
caller_reaches (suc (suc zero)) s e = let same : Plain (Ret (Real (general 6))) ≡ s = cc in subst (λ x. PartsReach caller (step_offset (function_steps caller_trees) (suc (suc zero))) (step_parts x)) same (tt, tt)
caller_reaches (suc (suc (suc k))) s e = absurd (cc)

callee_reaches : (k : ℕ) (s : Step) → slice_get (function_steps callee_trees) k ≡ Some s → PartsReach callee (step_offset (function_steps callee_trees) k) (step_parts s)
callee_reaches zero s e = let same : Plain adds ≡ s = cc in subst (λ x. PartsReach callee (step_offset (function_steps callee_trees) zero) (step_parts x)) same (tt, tt)
callee_reaches (suc zero) s e = let same : Plain (Ret (Real (general 14))) ≡ s = cc in subst (λ x. PartsReach callee (step_offset (function_steps callee_trees) (suc zero)) (step_parts x)) same (tt, tt)
callee_reaches (suc (suc k)) s e = absurd (cc)

caller_stands : StandsAsCode environment caller_trees caller_image
caller_stands = record {
  constants = [];
  bytes = caller_code;
  even = refl;
  fits = omega arith;
  short = omega arith;
  valid = checked_steps base environment caller_trees 1 caller_image (caller_checked base) caller_ranges;
  folded = whole_right caller caller_trees caller_ranges;
  reached = caller_reaches;
  stand = λ c lt. absurd (omega arith);
}

callee_stands : StandsAsCode environment callee_trees callee_image
callee_stands = record {
  constants = [];
  bytes = callee_code;
  even = refl;
  fits = omega arith;
  short = omega arith;
  valid = checked_steps base environment callee_trees 1 callee_image (callee_checked base) callee_ranges;
  folded = whole_right callee callee_trees callee_ranges;
  reached = callee_reaches;
  stand = λ c lt. absurd (omega arith);
}

caller_is : IsMember image caller
caller_is = record {
  part = record { earlier = []; later = 0x00 ∷ 0x00 ∷ 0x00 ∷ 0x00 ∷ 0xb9 ∷ 0x08 ∷ 0x00 ∷ 0x24 ∷ 0x07 ∷ 0xfe ∷ []; bytes = refl; base = refl };
  some = omega arith;
  placed = function_placed environment caller_trees caller_image caller_stands;
}

callee_is : IsMember image callee
callee_is = record {
  part = record {
    earlier = 0xb9 ∷ 0x04 ∷ 0x00 ∷ 0x6e ∷ 0xc0 ∷ 0xe5 ∷ 0x00 ∷ 0x00 ∷ 0x00 ∷ 0x06 ∷ 0x07 ∷ 0xf6 ∷ 0x00 ∷ 0x00 ∷ 0x00 ∷ 0x00 ∷ [];
    later = [];
    bytes = refl;
    base = refl;
  };
  some = omega arith;
  placed = function_placed environment callee_trees callee_image callee_stands;
}

are : AreMembers image members
are zero L e = let same : caller ≡ L = cc in subst (λ x. IsMember image x) same caller_is
are (suc zero) L e = let same : callee ≡ L = cc in subst (λ x. IsMember image x) same callee_is
are (suc (suc m)) L e = absurd (cc)

is_loaded : IsLoaded image core.memory
is_loaded = record { has = λ a h. h; get = λ a h. refl }

-- ---- the machine's run

step_at : (m : MachineInstruction) (o : ℕ) (s t : State) → o % 2 ≡ 0 → s.core.memory ≡ core.memory → s.address ≡ wrapping_add64 4096 o → StandsAt image o (bytes_of m) → SlotsFit (layout_of m.format) m.slots → IsEncoded machine_rows m.format m.slots → FetchedStep (Found (decoded_of m.format m.slots)) s (Executed None) t → MachineStep s (Executed None) t
step_at m o s t even memory at stands fit listed acts = record {
  fetched = Found (decoded_of m.format m.slots);
  fetches = subst (λ p. IsFound s.core.memory p (decoded_of m.format m.slots)) (sym at) (found_at image s.core.memory o m.format m.slots refl even (omega arith) (subst (λ x. IsLoaded image x) (sym memory) is_loaded) stands fit listed);
  acts = acts;
}

lgr_stands : StandsAt image 0 (bytes_of (rre opcodes.LGR 6 14))
unfolding number bits layout_of length_of be_bytes
lgr_stands = record { earlier = []; later = 0xc0 ∷ 0xe5 ∷ 0x00 ∷ 0x00 ∷ 0x00 ∷ 0x06 ∷ 0x07 ∷ 0xf6 ∷ 0x00 ∷ 0x00 ∷ 0x00 ∷ 0x00 ∷ 0xb9 ∷ 0x08 ∷ 0x00 ∷ 0x24 ∷ 0x07 ∷ 0xfe ∷ []; at = refl; is = refl }

brasl_stands : StandsAt image 4 (bytes_of (ril_b opcodes.BRASL 14 6))
unfolding number bits layout_of length_of be_bytes
brasl_stands = record { earlier = 0xb9 ∷ 0x04 ∷ 0x00 ∷ 0x6e ∷ []; later = 0x07 ∷ 0xf6 ∷ 0x00 ∷ 0x00 ∷ 0x00 ∷ 0x00 ∷ 0xb9 ∷ 0x08 ∷ 0x00 ∷ 0x24 ∷ 0x07 ∷ 0xfe ∷ []; at = refl; is = refl }

last_stands : StandsAt image 10 (bytes_of (rr opcodes.BCR 15 6))
unfolding number bits layout_of length_of be_bytes
last_stands = record { earlier = 0xb9 ∷ 0x04 ∷ 0x00 ∷ 0x6e ∷ 0xc0 ∷ 0xe5 ∷ 0x00 ∷ 0x00 ∷ 0x00 ∷ 0x06 ∷ []; later = 0x00 ∷ 0x00 ∷ 0x00 ∷ 0x00 ∷ 0xb9 ∷ 0x08 ∷ 0x00 ∷ 0x24 ∷ 0x07 ∷ 0xfe ∷ []; at = refl; is = refl }

agr_stands : StandsAt image 16 (bytes_of (rre opcodes.AGR 2 4))
unfolding number bits layout_of length_of be_bytes
agr_stands = record {
  earlier = 0xb9 ∷ 0x04 ∷ 0x00 ∷ 0x6e ∷ 0xc0 ∷ 0xe5 ∷ 0x00 ∷ 0x00 ∷ 0x00 ∷ 0x06 ∷ 0x07 ∷ 0xf6 ∷ 0x00 ∷ 0x00 ∷ 0x00 ∷ 0x00 ∷ [];
  later = 0x07 ∷ 0xfe ∷ [];
  at = refl;
  is = refl;
}

back_stands : StandsAt image 20 (bytes_of (rr opcodes.BCR 15 14))
unfolding number bits layout_of length_of be_bytes
back_stands = record {
  earlier = 0xb9 ∷ 0x04 ∷ 0x00 ∷ 0x6e ∷ 0xc0 ∷ 0xe5 ∷ 0x00 ∷ 0x00 ∷ 0x00 ∷ 0x06 ∷ 0x07 ∷ 0xf6 ∷ 0x00 ∷ 0x00 ∷ 0x00 ∷ 0x00 ∷ 0xb9 ∷ 0x08 ∷ 0x00 ∷ 0x24 ∷ [];
  later = [];
  at = refl;
  is = refl;
}

lgr_listed : IsEncoded machine_rows Rre (rre opcodes.LGR 6 14).slots
unfolding machine_rows row_for
lgr_listed = listed machine_rows Rre (rre opcodes.LGR 6 14).slots (omega arith) (refl, refl, refl)

brasl_listed : IsEncoded machine_rows RilB (ril_b opcodes.BRASL 14 6).slots
unfolding machine_rows row_for
brasl_listed = listed machine_rows RilB (ril_b opcodes.BRASL 14 6).slots (omega arith) (refl, refl, refl)

lgr_step : (s t : State) → s.core.memory ≡ core.memory → s.address ≡ 4096 → FetchedStep (Found (decoded_of Rre (rre opcodes.LGR 6 14).slots)) s (Executed None) t → MachineStep s (Executed None) t
lgr_step s t memory at acts = step_at (rre opcodes.LGR 6 14) 0 s t refl memory at lgr_stands (fits_rre opcodes.LGR 6 14 (omega arith) (omega arith) (omega arith)) lgr_listed acts

brasl_step : (s t : State) → s.core.memory ≡ core.memory → s.address ≡ 4100 → FetchedStep (Found (decoded_of RilB (ril_b opcodes.BRASL 14 6).slots)) s (Executed None) t → MachineStep s (Executed None) t
brasl_step s t memory at acts = step_at (ril_b opcodes.BRASL 14 6) 4 s t refl memory at brasl_stands (fits_ril_b opcodes.BRASL 14 6 (omega arith) (omega arith) (omega arith)) brasl_listed acts

agr_step : (s t : State) → s.core.memory ≡ core.memory → s.address ≡ 4112 → FetchedStep (Found (decoded_of Rre (rre opcodes.AGR 2 4).slots)) s (Executed None) t → MachineStep s (Executed None) t
agr_step s t memory at acts = step_at (rre opcodes.AGR 2 4) 16 s t refl memory at agr_stands (fits_rre opcodes.AGR 2 4 (omega arith) (omega arith) (omega arith)) (agr_listed 2 4) acts

back_step : (s t : State) → s.core.memory ≡ core.memory → s.address ≡ 4116 → FetchedStep (Found (decoded_of Rr (rr opcodes.BCR 15 14).slots)) s (Executed None) t → MachineStep s (Executed None) t
back_step s t memory at acts = step_at (rr opcodes.BCR 15 14) 20 s t refl memory at back_stands (fits_rr opcodes.BCR 15 14 (omega arith) (omega arith) (omega arith)) (bcr_listed 15 14) acts

last_step : (s t : State) → s.core.memory ≡ core.memory → s.address ≡ 4106 → FetchedStep (Found (decoded_of Rr (rr opcodes.BCR 15 6).slots)) s (Executed None) t → MachineStep s (Executed None) t
last_step s t memory at acts = step_at (rr opcodes.BCR 15 6) 10 s t refl memory at last_stands (fits_rr opcodes.BCR 15 6 (omega arith) (omega arith) (omega arith)) (bcr_listed 15 6) acts

run : Run image (record { core = core; address = 4096 }) (concatenation groups)
unfolding length_of semantics_in semantics_of
run = (
  record { may = tt; goes = lgr_step (record { core = core; address = 4096 }) (record { core = core_after_save; address = 4100 }) refl refl (record { reached = refl; allowed = refl; results = refl; code = refl; memory = refl }, refl, refl) },
  (
    record { may = tt; goes = brasl_step (record { core = core_after_save; address = 4100 }) (record { core = core_after_call; address = 4112 }) refl refl (refl, refl) },
    (
      record { may = tt; goes = agr_step (record { core = core_after_call; address = 4112 }) (record { core = core_after_sum; address = 4116 }) refl refl (record { reached = refl; allowed = refl; results = refl; code = refl; memory = refl }, refl, refl) },
      (
        record { may = tt; goes = back_step (record { core = core_after_sum; address = 4116 }) (record { core = core_after_sum; address = 4106 }) refl refl (refl, refl, refl) },
        (record { may = tt; goes = last_step (record { core = core_after_sum; address = 4106 }) (record { core = core_after_sum; address = 8192 }) refl refl (refl, refl, refl) }, tt),
      ),
    ),
  ),
)

-- ---- the joint run

-- 8192 is no return place of the first function, whose only call returns to 4106, nor of the second one, which has none
not_in_caller : (k : ℕ) (c : Calling) → slice_get caller.steps k ≡ Some (CallingStep c) → 8192 ≡ return_address caller k c → ⊥
unfolding length_of
not_in_caller (suc zero) c at is =
    let same : calls ≡ c = cc in
    let e : 8192 ≡ return_address caller 1 calls = subst (λ d. 8192 ≡ return_address caller 1 d) (sym same) is in
    absurd (omega (arith, e))
not_in_caller (suc (suc zero)) c at is = absurd (cc)
not_in_caller k c at is = absurd (cc)

not_in_callee : (k : ℕ) (c : Calling) → slice_get callee.steps k ≡ Some (CallingStep c) → ⊥
not_in_callee (suc zero) c at = absurd (cc)
not_in_callee k c at = absurd (cc)

no_return : (m k : ℕ) (L : Layout) (c : Calling) → slice_get members m ≡ Some L → slice_get L.steps k ≡ Some (CallingStep c) → 8192 ≡ return_address L k c → ⊥
no_return zero k L c listed at is =
    let same : caller ≡ L = cc in
    not_in_caller k c (subst (λ (x : Layout). slice_get x.steps k ≡ Some (CallingStep c)) (sym same) at) (subst (λ x. 8192 ≡ return_address x k c) (sym same) is)
no_return (suc zero) k L c listed at is = let same : callee ≡ L = cc in not_in_callee k c (subst (λ (x : Layout). slice_get x.steps k ≡ Some (CallingStep c)) (sym same) at)
no_return (suc (suc m)) k L c listed at is = absurd (cc)

nowhere : (m k : ℕ) → GoesOn members (Returned 8192) m k → ⊥
nowhere m k leads = let x = leads.1 in no_return m leads.0 x.layout x.calling x.listed x.calls x.is

joint : JointRun members (Running 0 0) core groups (Finished 0 (Returned 8192)) core_after_sum
unfolding length_of
joint = (
  Running 0 1,
  core_after_save,
  record { layout = caller; listed = refl; own = At 1; steps = goes_on 0 (record { reached = refl; allowed = refl; results = refl; code = refl; memory = refl }) refl; continues = refl },
  (omega arith, inr ((λ none. absurd (omega (arith, none))), record { before = []; last = transition core_after_save 4100; is = refl; nothing = tt; stores = refl }), refl),
  (caller, refl, refl),
  (
    Running 1 0,
    core_after_call,
    record { layout = caller; listed = refl; own = Ended (Called 4112); steps = (refl, refl); continues = (record { layout = callee; listed = refl; is = refl }, refl) },
    (omega arith, (refl, tt), omega arith),
    (callee, refl, refl),
    (
      Running 1 1,
      core_after_sum,
      record { layout = callee; listed = refl; own = At 1; steps = goes_on 0 (record { reached = refl; allowed = refl; results = refl; code = refl; memory = refl }) refl; continues = refl },
      (omega arith, inr ((λ none. absurd (omega (arith, none))), record { before = []; last = transition core_after_sum 4116; is = refl; nothing = tt; stores = refl }), refl),
      (callee, refl, refl),
      (
        Running 0 2,
        core_after_sum,
        record { layout = callee; listed = refl; own = Ended (Returned 4106); steps = (refl, refl); continues = (1, record { layout = caller; listed = refl; calling = calls; calls = refl; is = refl }, refl) },
        (omega arith, (refl, tt), omega arith),
        (caller, refl, refl),
        (
          Finished 0 (Returned 8192),
          core_after_sum,
          record { layout = caller; listed = refl; own = Ended (Returned 8192); steps = (refl, refl); continues = (refl, refl, nowhere) },
          (omega arith, (refl, tt), omega arith),
          tt,
          (refl, refl),
        ),
      ),
    ),
  ),
)

pub calls_and_returns : CallsAndReturns
calls_and_returns = record { are = are; lies = is_loaded; run = run; joint = joint; ends = (caller, refl, refl) }
