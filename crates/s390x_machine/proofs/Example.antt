-- The function of two blocks meets the premises, and its run is one of the machine.
use Rattle.std.proofs.Common.{false, zero, suc, slice_get, Some, ◌≡◌, ℕ, ◌%◌, [], ◌∷◌, ◌++◌, None, refl, sym, subst, arith}
use Rattle.s390x_base.specs.Registers.{general}
use Rattle.s390x_base.specs.declared.regs.Reg.TheVariants.{Real}
use Rattle.s390x_inst.specs.declared.inst.Inst.TheVariants.{CondBr, Ret}
use Rattle.s390x_inst.specs.declared.state.IsaFlags.{IsaFlags}
use Rattle.s390x_format.specs.declared.kind.FormatKind.TheVariants.{Rr, Rre, RilC}
use Rattle.s390x_format.specs.Layout.{number, bits, SlotsFit}
use Rattle.s390x_format.specs.Formats.{layout_of, length_of}
use Rattle.s390x_format.specs.Reading.{be_bytes}
use Rattle.s390x_format.specs.Fetch.{machine_rows}
use Rattle.s390x_format.specs.Encoded.{IsEncoded, decoded_of}
use Rattle.s390x_rows.specs.declared.opcodes.TheConstants as opcodes
use Rattle.s390x_typed_steps.specs.Causes.{blocks_cause}
use Rattle.s390x_typed_steps.specs.Image.{unlinked_environment, step_offset, function_code}
use Rattle.s390x_typed_steps.specs.MachineInstruction.{MachineInstruction, bytes_of, rr, rre, ril_c}
use Rattle.s390x_typed_steps.specs.Parts.{step_parts}
use Rattle.s390x_typed_steps.specs.Ranges.{BlocksInRange}
use Rattle.s390x_typed_steps.specs.Steps.{Step, Plain, Shortened, function_steps}
use Rattle.s390x_typed_steps.specs.Tree.{BranchLeft}
use Rattle.s390x_machine.specs.CodeAt.{PartsReach}
use Rattle.s390x_operations.specs.State.{State, IsLoaded, wrapping_add64}
use Rattle.s390x_machine.specs.Fetch.{Found}
use Rattle.s390x_machine.specs.Functions.{function_layout, StandsAsCode}
use Rattle.s390x_machine.specs.Semantics.{semantics_in, semantics_of}
use Rattle.s390x_machine.specs.Machine.{Event, Executed, FetchedStep, MachineStep}
use Rattle.s390x_machine.specs.Example.{image, label, adds, trees, remaining_trees, core, once, twice, LoopRuns}
use Rattle.s390x_machine.proofs.Checked.{folded_steps}
use Rattle.s390x_machine.proofs.FoldedSteps.{folded_right}
use Rattle.s390x_machine.proofs.Fetching.{StandsAt, found_at}
use Rattle.s390x_machine.proofs.Rows.{fits_rr, fits_rre, fits_ril_c, agr_listed, bcr_listed, brcl_listed}

-- the bytes are the function's code, as emission gives it
code : image.bytes ≡ function_code (unlinked_environment remaining_trees []) remaining_trees ++ []
unfolding number bits layout_of length_of be_bytes
code = refl

-- emission has no cause against it, and its mask is that of a condition
pub checked : (flags : IsaFlags) → blocks_cause flags (record { blocks = 2; aligns = [] }) 2 trees ≡ None
checked flags = refl

-- a machine of the base alone
base : IsaFlags
base = record { has_mie3 = false; has_mie4 = false; has_vxrs_ext2 = false; has_vxrs_ext3 = false; no_relative_memory = false }

pub ranges : BlocksInRange trees
ranges = (((tt, tt), ((omega arith, omega arith), tt)), (((tt, tt), tt), tt))

-- no symbol is named
reaches : (k : ℕ) (s : Step) → slice_get (function_steps remaining_trees) k ≡ Some s → PartsReach (function_layout (unlinked_environment remaining_trees []) remaining_trees image) (step_offset (function_steps remaining_trees) k) (step_parts s)
reaches zero s e = let same : Plain adds ≡ s = cc in subst (λ x. PartsReach (function_layout (unlinked_environment remaining_trees []) remaining_trees image) (step_offset (function_steps remaining_trees) zero) (step_parts x)) same (tt, tt)
reaches (suc zero) s e = let same : Shortened (BranchLeft 4 0) (CondBr (label 0) (label 1) 4) ≡ s = cc in subst (λ x. PartsReach (function_layout (unlinked_environment remaining_trees []) remaining_trees image) (step_offset (function_steps remaining_trees) (suc zero)) (step_parts x)) same (tt, tt)
reaches (suc (suc zero)) s e = let same : Plain (Ret (Real (general 14))) ≡ s = cc in subst (λ x. PartsReach (function_layout (unlinked_environment remaining_trees []) remaining_trees image) (step_offset (function_steps remaining_trees) (suc (suc zero))) (step_parts x)) same (tt, tt)
reaches (suc (suc (suc k))) s e = absurd (cc)

pub stands : StandsAsCode (unlinked_environment remaining_trees []) remaining_trees image
stands = record {
  constants = [];
  bytes = code;
  even = refl;
  fits = omega arith;
  short = omega arith;
  valid = folded_steps base (unlinked_environment remaining_trees []) trees 2 image (checked base) ranges;
  folded = folded_right (unlinked_environment remaining_trees []) trees image ranges;
  reached = reaches;
  stand = λ c lt. absurd (omega arith);
}

pub is_loaded : IsLoaded image core.memory
is_loaded = record { has = λ a h. h; get = λ a h. refl }

-- ---- the run

step_at : (m : MachineInstruction) (o : ℕ) (s : State) (event : Event) (t : State) → o % 2 ≡ 0 → s.core.memory ≡ core.memory → s.address ≡ wrapping_add64 4096 o → StandsAt image o (bytes_of m) → SlotsFit (layout_of m.format) m.slots → IsEncoded machine_rows m.format m.slots → FetchedStep (Found (decoded_of m.format m.slots)) s event t → MachineStep s event t
step_at m o s event t even memory at stands fit listed acts = record {
  fetched = Found (decoded_of m.format m.slots);
  fetches = subst (λ p. Rattle.s390x_machine.specs.Fetch.IsFound s.core.memory p (decoded_of m.format m.slots)) (sym at) (found_at image s.core.memory o m.format m.slots refl even (omega arith) (subst (λ x. IsLoaded image x) (sym memory) is_loaded) stands fit listed);
  acts = acts;
}

add_stands : StandsAt image 0 (bytes_of (rre opcodes.AGR 2 4))
unfolding number bits layout_of length_of be_bytes
add_stands = record { earlier = []; later = 0xc0 ∷ 0x44 ∷ 0xff ∷ 0xff ∷ 0xff ∷ 0xfe ∷ 0x07 ∷ 0xfe ∷ []; at = refl; is = refl }

first_stands : StandsAt image 4 (bytes_of (ril_c opcodes.BRCL 4 4294967294))
unfolding number bits layout_of length_of be_bytes
first_stands = record { earlier = 0xb9 ∷ 0x08 ∷ 0x00 ∷ 0x24 ∷ []; later = 0x07 ∷ 0xfe ∷ []; at = refl; is = refl }

return_stands : StandsAt image 10 (bytes_of (rr opcodes.BCR 15 14))
unfolding number bits layout_of length_of be_bytes
return_stands = record { earlier = 0xb9 ∷ 0x08 ∷ 0x00 ∷ 0x24 ∷ 0xc0 ∷ 0x44 ∷ 0xff ∷ 0xff ∷ 0xff ∷ 0xfe ∷ []; later = []; at = refl; is = refl }

add_step : (s t : State) → s.core.memory ≡ core.memory → s.address ≡ 4096 → FetchedStep (Found (decoded_of Rre (rre opcodes.AGR 2 4).slots)) s (Executed None) t → MachineStep s (Executed None) t
add_step s t memory at acts = step_at (rre opcodes.AGR 2 4) 0 s (Executed None) t refl memory at add_stands (fits_rre opcodes.AGR 2 4 (omega arith) (omega arith) (omega arith)) (agr_listed 2 4) acts

first_step_taken : (s t : State) → s.core.memory ≡ core.memory → s.address ≡ 4100 → FetchedStep (Found (decoded_of RilC (ril_c opcodes.BRCL 4 4294967294).slots)) s (Executed None) t → MachineStep s (Executed None) t
first_step_taken s t memory at acts = step_at (ril_c opcodes.BRCL 4 4294967294) 4 s (Executed None) t refl memory at first_stands (fits_ril_c opcodes.BRCL 4 4294967294 (omega arith) (omega arith) (omega arith)) (brcl_listed 4 4294967294) acts

return_step : (s t : State) → s.core.memory ≡ core.memory → s.address ≡ 4106 → FetchedStep (Found (decoded_of Rr (rr opcodes.BCR 15 14).slots)) s (Executed None) t → MachineStep s (Executed None) t
return_step s t memory at acts = step_at (rr opcodes.BCR 15 14) 10 s (Executed None) t refl memory at return_stands (fits_rr opcodes.BCR 15 14 (omega arith) (omega arith) (omega arith)) (bcr_listed 15 14) acts

pub loop_runs : LoopRuns
unfolding length_of semantics_in semantics_of
loop_runs = (
  stands,
  is_loaded,
  (
    record { may = tt; goes = add_step (record { core = core; address = 4096 }) (record { core = once; address = 4100 }) refl refl (record { reached = refl; allowed = refl; results = refl; code = refl; memory = refl }, refl, refl) },
    (
      record { may = tt; goes = first_step_taken (record { core = once; address = 4100 }) (record { core = once; address = 4096 }) refl refl (refl, refl, refl) },
      (
        record { may = tt; goes = add_step (record { core = once; address = 4096 }) (record { core = twice; address = 4100 }) refl refl (record { reached = refl; allowed = refl; results = refl; code = refl; memory = refl }, refl, refl) },
        (
          record { may = tt; goes = first_step_taken (record { core = twice; address = 4100 }) (record { core = twice; address = 4106 }) refl refl (refl, refl, refl) },
          (record { may = tt; goes = return_step (record { core = twice; address = 4106 }) (record { core = twice; address = 8192 }) refl refl (refl, refl, refl) }, tt),
        ),
      ),
    ),
  ),
)
