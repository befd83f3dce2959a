-- Two processors in the function that adds meet the premises.
use Rattle.std.proofs.Common.{◌≡◌, ℕ, zero, suc, ◌%◌, ◌^◌, ◌<◌, List, [], ◌∷◌, length, Some, None, true, false, Vec, Global, inl, inr, refl, sym, ap, cond, ◌-◌, slice_index, subst, arith, slice_get, nat_lt, ◌&&◌}
use Rattle.std.proofs.lemmas.Bool.{or_left}
use Rattle.std.specs.Prelude.{nat_le}
use Rattle.s390x_base.specs.Registers.{general}
use Rattle.s390x_base.specs.declared.regs.Reg.TheVariants.{Real}
use Rattle.s390x_inst.specs.declared.args.MemArg.TheVariants.{BXD12}
use Rattle.s390x_buffer.specs.declared.entries.MachBufferFinalized.{MachBufferFinalized}
use Rattle.s390x_format.specs.declared.kind.FormatKind.TheVariants.{RrfAb, Rs}
use Rattle.s390x_format.specs.Encoded.{IsEncoded, decoded_of}
use Rattle.s390x_format.specs.Fetch.{machine_rows}
use Rattle.s390x_format.specs.Formats.{layout_of, length_of}
use Rattle.s390x_format.specs.Layout.{number, bits, SlotsFit}
use Rattle.s390x_format.specs.Reading.{be_bytes}
use Rattle.s390x_format.specs.Lookup.{row_for}
use Rattle.s390x_format.proofs.Encoding.{listed}
use Rattle.s390x_rows.specs.declared.opcodes.TheConstants as opcodes
use Rattle.s390x_typed_steps.specs.MachineInstruction.{MachineInstruction, bytes_of, rrf_ab, rs}
use Rattle.s390x_typed_steps.specs.Folding.{folded_trees}
use Rattle.s390x_typed_steps.specs.Ranges.{BlocksInRange}
use Rattle.s390x_typed_steps.specs.Steps.{Step, Plain}
use Rattle.s390x_operations.specs.State.{State, IsLoaded, is_within, wrapping_add64}
use Rattle.s390x_machine.specs.Fetch.{IsFound}
use Rattle.s390x_machine.specs.declared.instruction_fetch.Fetched.TheVariants.{Found}
use Rattle.s390x_machine.specs.Machine.{Event, Executed, FetchedStep, MachineStep}
use Rattle.s390x_machine.specs.Semantics.{semantics_in, semantics_of}
use Rattle.s390x_machine.proofs.Fetching.{StandsAt, found_at}
use Rattle.s390x_machine.proofs.Frame.{loaded_after_store}
use Rattle.s390x_machine.proofs.Rows.{fits_rrf_ab, fits_rs}
use Rattle.s390x_schedule.specs.Schedule.{Scheduled}
use Rattle.s390x_emit_int.specs.Function.{IsFinishedCode}
use Rattle.s390x_interference.specs.Example.{adds, adding_members, adding_trees}
use Rattle.s390x_interference.specs.Loops.{RetryAt}
use Rattle.s390x_interference.specs.Retry.{Retry, IsMember}
use Rattle.s390x_interference.specs.Shared.{image, memory, world, store_of_five, ticks, layout, LoopIsShared}
use Rattle.s390x_interference.proofs.RegisterWork.{register_work}

-- ---- the code

-- a vector of these
abbrev pub vec : {X : Type 0} (items : List X) → length items < 2 ^ 63 → Vec X Global
vec items small = record { ptr = denote.RawPtr.null_ptr; len = length items; cap = length items; alloc = record { memory = record { seal = tt } }; items = items; ok = (refl, omega arith); small = small }

abbrev code : MachBufferFinalized
code = record {
  bytes = vec image.bytes (omega arith);
  block_starts = vec (0 ∷ []) (omega arith);
  constant_starts = vec [] (omega arith);
  starts = vec (0 ∷ 0 ∷ 4 ∷ 8 ∷ 14 ∷ []) (omega arith);
  relocs = vec [] (omega arith);
  traps = vec [] (omega arith);
  call_sites = vec [] (omega arith);
  try_call_sites = vec [] (omega arith);
  patchable_sites = vec [] (omega arith);
  stack_maps = vec [] (omega arith);
  alignment = 4;
}

finished : IsFinishedCode (folded_trees adding_trees) [] code
unfolding number bits layout_of length_of be_bytes
finished = record {
  bytes = refl;
  block_starts = refl;
  constant_starts = refl;
  starts = refl;
  relocs = refl;
  traps = refl;
  call_sites = refl;
  try_call_sites = refl;
  patchable_sites = refl;
  stack_maps = refl;
  alignment = refl;
  short = omega arith;
}

-- ---- the loop

at : RetryAt (folded_trees adding_trees) 0
at = record { mask = 4; members = adding_members; opens = inl (inl (refl, refl, refl)); body = refl; retries = refl }

members : (k : ℕ) → 0 < k → k < 2 → (s : Step) × (slice_get (layout code).steps k ≡ Some s) × IsMember (layout code) 4 s
members zero above below = absurd (omega (arith, above))
members (suc zero) above below = (Plain adds, refl, register_work (layout code) adds refl)
members (suc (suc k)) above below = absurd (omega (arith, below))

abbrev loop : Retry (layout code)
loop = record {
  opening = 0;
  swap = 2;
  wide = false;
  rd = Real (general 2);
  ri = Real (general 2);
  rn = Real (general 4);
  operand = BXD12 (Real (general 5)) (Real (general 0)) 0 (record { aligned = true; trap = None });
  mask = 4;
  opens = refl;
  order = omega arith;
  members = members;
  swaps = refl;
  back = refl;
  retries = refl;
}

-- ---- the steps

lies : IsLoaded image memory
lies = record { has = λ a h. or_left (is_within image a) (nat_le 65536 a && nat_lt a 65540) h; get = λ a h. ap (λ b. cond b (slice_index image.bytes (a - 4096)) 0) h }

step_at : (m : MachineInstruction) (o : ℕ) (s : State) (event : Event) (t : State) → o % 2 ≡ 0 → IsLoaded image s.core.memory → s.address ≡ wrapping_add64 4096 o → StandsAt image o (bytes_of m) → SlotsFit (layout_of m.format) m.slots → IsEncoded machine_rows m.format m.slots → FetchedStep (Found (decoded_of m.format m.slots)) s event t → MachineStep s event t
step_at m o s event t even is_loaded at stands fit listed acts = record {
  fetched = Found (decoded_of m.format m.slots);
  fetches = subst (λ p. IsFound s.core.memory p (decoded_of m.format m.slots)) (sym at) (found_at image s.core.memory o m.format m.slots refl even (omega arith) is_loaded stands fit listed);
  acts = acts;
}

add_stands : StandsAt image 0 (bytes_of (rrf_ab opcodes.ARK 4 2 3 0))
unfolding number bits layout_of length_of be_bytes
add_stands = record { earlier = []; later = 0xba ∷ 0x24 ∷ 0x50 ∷ 0x00 ∷ 0xc0 ∷ 0x44 ∷ 0xff ∷ 0xff ∷ 0xff ∷ 0xfc ∷ 0x07 ∷ 0xfe ∷ []; at = refl; is = refl }

swap_stands : StandsAt image 4 (bytes_of (rs opcodes.CS 2 4 5 0))
unfolding number bits layout_of length_of be_bytes
swap_stands = record { earlier = 0xb9 ∷ 0xf8 ∷ 0x30 ∷ 0x42 ∷ []; later = 0xc0 ∷ 0x44 ∷ 0xff ∷ 0xff ∷ 0xff ∷ 0xfc ∷ 0x07 ∷ 0xfe ∷ []; at = refl; is = refl }

add_listed : IsEncoded machine_rows RrfAb (rrf_ab opcodes.ARK 4 2 3 0).slots
unfolding machine_rows row_for
add_listed = listed machine_rows RrfAb (rrf_ab opcodes.ARK 4 2 3 0).slots (omega arith) (refl, refl, refl)

swap_listed : IsEncoded machine_rows Rs (rs opcodes.CS 2 4 5 0).slots
unfolding machine_rows row_for
swap_listed = listed machine_rows Rs (rs opcodes.CS 2 4 5 0).slots (omega arith) (refl, refl, refl)

add_step : (s t : State) → IsLoaded image s.core.memory → s.address ≡ 4096 → FetchedStep (Found (decoded_of RrfAb (rrf_ab opcodes.ARK 4 2 3 0).slots)) s (Executed None) t → MachineStep s (Executed None) t
add_step s t is_loaded at acts = step_at (rrf_ab opcodes.ARK 4 2 3 0) 0 s (Executed None) t refl is_loaded at add_stands (fits_rrf_ab opcodes.ARK 4 2 3 (omega arith) (omega arith) (omega arith) (omega arith)) add_listed acts

swap_step : (s : State) (event : Event) (t : State) → IsLoaded image s.core.memory → s.address ≡ 4100 → FetchedStep (Found (decoded_of Rs (rs opcodes.CS 2 4 5 0).slots)) s event t → MachineStep s event t
swap_step s event t is_loaded at acts = step_at (rs opcodes.CS 2 4 5 0) 4 s event t refl is_loaded at swap_stands (fits_rs opcodes.CS 2 4 5 0 (omega arith) (omega arith) (omega arith) (omega arith) (omega arith)) swap_listed acts

scheduled : Scheduled world (0 ∷ 1 ∷ 0 ∷ 1 ∷ []) ticks
unfolding length_of semantics_in semantics_of
scheduled = (
  refl,
  add_step _ _ lies refl (record { reached = refl; allowed = refl; results = refl; code = refl; memory = refl }, refl, refl),
  inr (
    tt,
    (
      refl,
      add_step _ _ lies refl (record { reached = refl; allowed = refl; results = refl; code = refl; memory = refl }, refl, refl),
      inr (
        tt,
        (
          refl,
          swap_step _ _ _ lies refl (record { reached = refl; allowed = refl; results = refl; code = refl; memory = refl }, refl, refl),
          inr (
            tt,
            (
              refl,
              swap_step _ _ _ (loaded_after_store image (Some store_of_five) memory lies refl) refl (record { reached = refl; allowed = refl; results = refl; code = refl; memory = refl }, refl, refl),
              inr (tt, refl),
            ),
          ),
        ),
      ),
    ),
  ),
)

masks : BlocksInRange adding_trees
masks = (((omega arith, omega arith), ((tt, tt), ((tt, omega arith), tt)), ((tt, tt), tt)), tt)

pub shared : LoopIsShared
unfolding length_of
shared = record {
  code = code;
  checked = λ flags. refl;
  masks = masks;
  finished = finished;
  links = refl;
  is = refl;
  at = at;
  loop = loop;
  lies = lies;
  scheduled = scheduled;
  leaves = (tt, (tt, (refl, (tt, tt))));
  stand = λ p. refl;
  succeeds = inl (tt, refl, refl);
  once = refl;
  never = refl;
}
