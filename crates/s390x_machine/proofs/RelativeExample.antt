-- The function that names a constant and a symbol meets the premises, and its run is one of the machine.
use Rattle.std.proofs.Common.{false, zero, suc, ◌<◌, slice_get, Some, ◌≡◌, ℕ, ◌%◌, [], ◌∷◌, ◌++◌, None, refl, sym, subst, arith}
use Rattle.s390x_inst.specs.declared.state.IsaFlags.{IsaFlags}
use Rattle.s390x_format.specs.declared.kind.FormatKind.TheVariants.{RilB}
use Rattle.s390x_format.specs.Layout.{number, bits, SlotsFit}
use Rattle.s390x_format.specs.Formats.{layout_of, length_of}
use Rattle.s390x_format.specs.Lookup.{row_for}
use Rattle.s390x_format.specs.Reading.{be_bytes}
use Rattle.s390x_format.specs.Fetch.{machine_rows}
use Rattle.s390x_format.specs.Encoded.{IsEncoded, decoded_of}
use Rattle.s390x_format.proofs.Encoding.{listed}
use Rattle.s390x_rows.specs.declared.opcodes.TheConstants as opcodes
use Rattle.s390x_typed_steps.specs.Causes.{blocks_cause}
use Rattle.s390x_typed_steps.specs.Image.{step_offset, function_code}
use Rattle.s390x_typed_steps.specs.MachineInstruction.{MachineInstruction, bytes_of, ril_b}
use Rattle.s390x_typed_steps.specs.Parts.{step_parts}
use Rattle.s390x_typed_steps.specs.Ranges.{BlocksInRange}
use Rattle.s390x_typed_steps.specs.Steps.{Step, Plain, function_steps}
use Rattle.s390x_operations.specs.State.{State, IsLoaded, wrapping_add64}
use Rattle.s390x_machine.specs.Fetch.{Unknown, Found, instruction_bytes}
use Rattle.s390x_machine.specs.Functions.{function_layout, StandsAsCode}
use Rattle.s390x_machine.specs.Semantics.{semantics_in, semantics_of}
use Rattle.s390x_machine.specs.Machine.{Event, Executed, Interrupted, FetchedStep, MachineStep, Run}
use Rattle.s390x_machine.specs.CodeAt.{PartsReach, ConstantStands}
use Rattle.s390x_machine.specs.RelativeExample.{image, loads, names, stops, trees, environment, core, with_constant, with_both, stopped_state, trace, RelativeRuns}
use Rattle.s390x_operations.specs.declared.stop.StopKind.TheVariants.{Operation}
use Rattle.s390x_machine.proofs.Checked.{checked_steps}
use Rattle.s390x_machine.proofs.FoldedSteps.{whole_right}
use Rattle.s390x_machine.proofs.Decoding.{none_begins}
use Rattle.s390x_machine.proofs.Fetching.{StandsAt, found_at}
use Rattle.s390x_machine.proofs.Rows.{fits_ril_b, larl_listed}

-- the bytes are the function's code, and then two bytes without use and the constant
code : image.bytes ≡ function_code environment trees ++ (0 ∷ 0 ∷ 0 ∷ 0 ∷ 0 ∷ 42 ∷ [])
unfolding number bits layout_of length_of be_bytes
code = refl

-- a machine of the base alone
base : IsaFlags
base = record { has_mie3 = false; has_mie4 = false; has_vxrs_ext2 = false; has_vxrs_ext3 = false; no_relative_memory = false }

-- emission for it has no cause against the code
checked : blocks_cause base (record { blocks = 1; aligns = 4 ∷ [] }) 2 trees ≡ None
unfolding base
checked = refl

pub ranges : BlocksInRange trees
ranges = (((tt, tt), ((tt, tt), ((tt, tt), tt))), tt)

-- the symbol's distance leads to it
reaches : (k : ℕ) (s : Step) → slice_get (function_steps trees) k ≡ Some s → PartsReach (function_layout environment trees image) (step_offset (function_steps trees) k) (step_parts s)
unfolding length_of
reaches zero s e = let same : Plain loads ≡ s = cc in subst (λ x. PartsReach (function_layout environment trees image) (step_offset (function_steps trees) zero) (step_parts x)) same (tt, tt)
reaches (suc zero) s e = let same : Plain names ≡ s = cc in subst (λ x. PartsReach (function_layout environment trees image) (step_offset (function_steps trees) (suc zero)) (step_parts x)) same ((omega arith, refl), tt)
reaches (suc (suc zero)) s e = let same : Plain stops ≡ s = cc in subst (λ x. PartsReach (function_layout environment trees image) (step_offset (function_steps trees) (suc (suc zero))) (step_parts x)) same (tt, tt)
reaches (suc (suc (suc k))) s e = absurd (cc)

-- the constant stands on its boundary
constant_stands : (c : ℕ) → c < 1 → ConstantStands (function_layout environment trees image) c
unfolding length_of
constant_stands c lt =
    let first : 0 ≡ c = omega (arith, lt) in
    subst (λ n. ConstantStands (function_layout environment trees image) n) first (record { within = omega arith; even = refl; alignment = refl; aligned = refl })

stands : StandsAsCode environment trees image
stands = record {
  constants = 0 ∷ 0 ∷ 0 ∷ 0 ∷ 0 ∷ 42 ∷ [];
  bytes = code;
  even = refl;
  fits = omega arith;
  short = omega arith;
  valid = checked_steps base environment trees 2 image checked ranges;
  folded = whole_right (function_layout environment trees image) trees ranges;
  reached = reaches;
  stand = constant_stands;
}

is_loaded : IsLoaded image core.memory
is_loaded = record { has = λ a h. h; get = λ a h. refl }

-- ---- the run

step_at : (m : MachineInstruction) (o : ℕ) (s : State) (event : Event) (t : State) → o % 2 ≡ 0 → s.core.memory ≡ core.memory → s.address ≡ wrapping_add64 4096 o → StandsAt image o (bytes_of m) → SlotsFit (layout_of m.format) m.slots → IsEncoded machine_rows m.format m.slots → FetchedStep (Found (decoded_of m.format m.slots)) s event t → MachineStep s event t
step_at m o s event t even memory at stands fit listed acts = record {
  fetched = Found (decoded_of m.format m.slots);
  fetches = subst (λ p. Rattle.s390x_machine.specs.Fetch.IsFound s.core.memory p (decoded_of m.format m.slots)) (sym at) (found_at image s.core.memory o m.format m.slots refl even (omega arith) (subst (λ x. IsLoaded image x) (sym memory) is_loaded) stands fit listed);
  acts = acts;
}

load_stands : StandsAt image 0 (bytes_of (ril_b opcodes.LRL 2 8))
unfolding number bits layout_of length_of be_bytes
load_stands = record { earlier = []; later = 0xc0 ∷ 0x30 ∷ 0x00 ∷ 0x00 ∷ 0x07 ∷ 0xfd ∷ 0x00 ∷ 0x00 ∷ 0x00 ∷ 0x00 ∷ 0x00 ∷ 0x00 ∷ 0x00 ∷ 0x2a ∷ []; at = refl; is = refl }

address_stands : StandsAt image 6 (bytes_of (ril_b opcodes.LARL 3 2045))
unfolding number bits layout_of length_of be_bytes
address_stands = record { earlier = 0xc4 ∷ 0x2d ∷ 0x00 ∷ 0x00 ∷ 0x00 ∷ 0x08 ∷ []; later = 0x00 ∷ 0x00 ∷ 0x00 ∷ 0x00 ∷ 0x00 ∷ 0x00 ∷ 0x00 ∷ 0x2a ∷ []; at = refl; is = refl }

lrl_listed : (a half : ℕ) → IsEncoded machine_rows RilB (ril_b opcodes.LRL a half).slots
unfolding machine_rows row_for
lrl_listed a half = listed machine_rows RilB (ril_b opcodes.LRL a half).slots (omega arith) (refl, refl, refl)

load_step : (s t : State) → s.core.memory ≡ core.memory → s.address ≡ 4096 → FetchedStep (Found (decoded_of RilB (ril_b opcodes.LRL 2 8).slots)) s (Executed None) t → MachineStep s (Executed None) t
load_step s t memory at acts = step_at (ril_b opcodes.LRL 2 8) 0 s (Executed None) t refl memory at load_stands (fits_ril_b opcodes.LRL 2 8 (omega arith) (omega arith) (omega arith)) (lrl_listed 2 8) acts

address_step : (s t : State) → s.core.memory ≡ core.memory → s.address ≡ 4102 → FetchedStep (Found (decoded_of RilB (ril_b opcodes.LARL 3 2045).slots)) s (Executed None) t → MachineStep s (Executed None) t
address_step s t memory at acts = step_at (ril_b opcodes.LARL 3 2045) 6 s (Executed None) t refl memory at address_stands (fits_ril_b opcodes.LARL 3 2045 (omega arith) (omega arith) (omega arith)) (larl_listed 3 2045) acts

-- no row begins with a byte of zeros
stop_step : MachineStep stopped_state (Interrupted Operation) stopped_state
stop_step = record {
  fetched = Unknown;
  fetches = (refl, (refl, refl), λ d h. none_begins (instruction_bytes core.memory 4108) d h refl);
  acts = (refl, refl);
}

run : Run image (record { core = core; address = 4096 }) trace
unfolding length_of semantics_in semantics_of
run = (
  record { may = tt; goes = load_step (record { core = core; address = 4096 }) (record { core = with_constant; address = 4102 }) refl refl (record { reached = refl; allowed = refl; results = refl; code = refl; memory = refl }, refl, refl) },
  (
    record { may = tt; goes = address_step (record { core = with_constant; address = 4102 }) (record { core = with_both; address = 4108 }) refl refl (record { reached = refl; allowed = refl; results = refl; code = refl; memory = refl }, refl, refl) },
    (record { may = tt; goes = stop_step }, tt),
  ),
)

pub relative_runs : RelativeRuns
unfolding length_of
relative_runs = record { stands = stands; lies = is_loaded; run = run; code = refl }
