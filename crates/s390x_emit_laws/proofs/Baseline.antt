-- The function that loads, calls and leaves meets the premises, and its runs are the machine's.
use Rattle.std.proofs.Common.{◌≡◌, ℕ, ◌%◌, ◌<◌, ◌^◌, List, [], ◌∷◌, length, Some, None, Vec, Global, refl, sym, ap, ap₂, ◌∙◌, subst, arith}
use Rattle.std.specs.Prelude.{pos}
use Rattle.s390x_base.specs.declared.ir.Reloc.TheVariants.{S390xPLTRel32Dbl}
use Rattle.s390x_buffer.specs.declared.entries.MachBufferFinalized.{MachBufferFinalized}
use Rattle.s390x_buffer.specs.declared.entries.RelocEntry.{RelocEntry}
use Rattle.s390x_format.specs.declared.kind.FormatKind.TheVariants.{RilB, RilC, Rxy}
use Rattle.s390x_format.specs.Encoded.{IsEncoded, decoded_of}
use Rattle.s390x_format.specs.Fetch.{machine_rows}
use Rattle.s390x_format.specs.Formats.{layout_of, length_of}
use Rattle.s390x_format.specs.Layout.{number, bits, SlotsFit}
use Rattle.s390x_format.specs.Lookup.{row_for}
use Rattle.s390x_format.specs.Reading.{be_bytes}
use Rattle.s390x_format.proofs.Encoding.{listed}
use Rattle.s390x_image.specs.Causes.{first_link_cause, symbol_cause}
use Rattle.s390x_image.specs.Fields.{address_or_zero, fill, with_fields_filled}
use Rattle.s390x_image.specs.Symbols.{no_symbols, address_of, address_of-with_address}
use Rattle.s390x_rows.specs.declared.opcodes.TheConstants as opcodes
use Rattle.s390x_typed_steps.specs.Folding.{folded_trees}
use Rattle.s390x_typed_steps.specs.MachineInstruction.{MachineInstruction, bytes_of, ril_b, ril_c, rxy}
use Rattle.s390x_operations.specs.State.{State, IsLoaded, wrapping_add64}
use Rattle.s390x_machine.specs.Fetch.{IsFound}
use Rattle.s390x_machine.specs.declared.instruction_fetch.Fetched.TheVariants.{Found}
use Rattle.s390x_machine.specs.Machine.{Event, Executed, FetchedStep, MachineStep, Run}
use Rattle.s390x_machine.specs.Semantics.{semantics_in, semantics_of}
use Rattle.s390x_machine.proofs.Fetching.{StandsAt, found_at}
use Rattle.s390x_machine.proofs.Rows.{fits_ril_b, fits_ril_c, fits_rxy, brcl_listed, larl_listed, lg_listed}
use Rattle.s390x_emit_int.specs.Example.{symbols}
use Rattle.s390x_emit_int.specs.Function.{IsFinishedCode}
use Rattle.s390x_emit_laws.specs.Baseline.{image, trees, core, with_address, with_bytes, with_link, trace, later, LoadsCallsAndLeaves}

-- ---- the code

-- a vector of these
vec : {X : Type 0} (items : List X) → length items < 2 ^ 63 → Vec X Global
vec items small = record { ptr = denote.RawPtr.null_ptr; len = length items; cap = length items; alloc = record { memory = record { seal = tt } }; items = items; ok = (refl, omega arith); small = small }

abbrev unlinked_bytes : List ℕ
unlinked_bytes =
    0xc0 ∷ 0x10 ∷ 0x00 ∷ 0x00 ∷ 0x00 ∷ 0x00 ∷ 0xe3 ∷ 0x20 ∷ 0x10 ∷ 0x00 ∷ 0x00 ∷ 0x04 ∷ 0xc0 ∷ 0xe5 ∷ 0x00 ∷ 0x00 ∷ 0x00 ∷ 0x00 ∷ 0xc0 ∷ 0xf4 ∷ 0x00 ∷ 0x00 ∷ 0x00 ∷ 0x00 ∷ []

-- the relocations of the call and of the jump
abbrev to_callee : ℕ → RelocEntry
to_callee offset = record { offset = offset; kind = S390xPLTRel32Dbl; name = record { 0 = 1 }; addend = pos 2 }

code : MachBufferFinalized
code = record {
  bytes = vec unlinked_bytes (omega arith);
  block_starts = vec (0 ∷ []) (omega arith);
  constant_starts = vec [] (omega arith);
  starts = vec (0 ∷ 12 ∷ 18 ∷ 18 ∷ []) (omega arith);
  relocs = vec (to_callee 14 ∷ to_callee 20 ∷ []) (omega arith);
  traps = vec [] (omega arith);
  call_sites = vec (18 ∷ 24 ∷ []) (omega arith);
  try_call_sites = vec [] (omega arith);
  patchable_sites = vec [] (omega arith);
  stack_maps = vec [] (omega arith);
  alignment = 4;
}

finished : IsFinishedCode (folded_trees trees) [] code
unfolding vec code number bits layout_of length_of be_bytes
finished = record {
  bytes = refl;
  block_starts = refl;
  constant_starts = refl;
  starts = refl;
  relocs = refl;
  traps = refl;
  call_sites = refl;
  try_call_sites = refl;
  patchable_sites = refl;
  stack_maps = refl;
  alignment = refl;
  short = omega arith;
}

-- the symbol's address is found, and the fields are filled as an assembler gives them
found : address_of symbols (record { 0 = 1 }) ≡ Some 8192
found = address_of-with_address no_symbols (record { 0 = 1 }) 8192 (record { 0 = 1 })

linked_bytes : with_fields_filled 4096 symbols (to_callee 14 ∷ to_callee 20 ∷ []) unlinked_bytes ≡ image.bytes
unfolding be_bytes
linked_bytes =
    ap (λ o. fill 4096 (address_or_zero (address_of symbols (record { 0 = 1 }))) (to_callee 20) (fill 4096 (address_or_zero o) (to_callee 14) unlinked_bytes)) found
    ∙ ap (λ o. fill 4096 (address_or_zero o) (to_callee 20) (fill 4096 8192 (to_callee 14) unlinked_bytes)) found

is_loaded : IsLoaded image core.memory
is_loaded = record { has = λ a h. h; get = λ a h. refl }

-- ---- the runs

step_at : (m : MachineInstruction) (o : ℕ) (s : State) (event : Event) (t : State) → o % 2 ≡ 0 → s.core.memory ≡ core.memory → s.address ≡ wrapping_add64 4096 o → StandsAt image o (bytes_of m) → SlotsFit (layout_of m.format) m.slots → IsEncoded machine_rows m.format m.slots → FetchedStep (Found (decoded_of m.format m.slots)) s event t → MachineStep s event t
step_at m o s event t even memory at stands fit listed acts = record {
  fetched = Found (decoded_of m.format m.slots);
  fetches = subst (λ p. IsFound s.core.memory p (decoded_of m.format m.slots)) (sym at) (found_at image s.core.memory o m.format m.slots refl even (omega arith) (subst (λ x. IsLoaded image x) (sym memory) is_loaded) stands fit listed);
  acts = acts;
}

address_stands : StandsAt image 0 (bytes_of (ril_b opcodes.LARL 1 0))
unfolding number bits layout_of length_of be_bytes
address_stands = record { earlier = []; later = 0xe3 ∷ 0x20 ∷ 0x10 ∷ 0x00 ∷ 0x00 ∷ 0x04 ∷ 0xc0 ∷ 0xe5 ∷ 0x00 ∷ 0x00 ∷ 0x07 ∷ 0xfa ∷ 0xc0 ∷ 0xf4 ∷ 0x00 ∷ 0x00 ∷ 0x07 ∷ 0xf7 ∷ []; at = refl; is = refl }

load_stands : StandsAt image 6 (bytes_of (rxy opcodes.LG 2 1 0 0))
unfolding number bits layout_of length_of be_bytes
load_stands = record { earlier = 0xc0 ∷ 0x10 ∷ 0x00 ∷ 0x00 ∷ 0x00 ∷ 0x00 ∷ []; later = 0xc0 ∷ 0xe5 ∷ 0x00 ∷ 0x00 ∷ 0x07 ∷ 0xfa ∷ 0xc0 ∷ 0xf4 ∷ 0x00 ∷ 0x00 ∷ 0x07 ∷ 0xf7 ∷ []; at = refl; is = refl }

call_stands : StandsAt image 12 (bytes_of (ril_b opcodes.BRASL 14 2042))
unfolding number bits layout_of length_of be_bytes
call_stands = record { earlier = 0xc0 ∷ 0x10 ∷ 0x00 ∷ 0x00 ∷ 0x00 ∷ 0x00 ∷ 0xe3 ∷ 0x20 ∷ 0x10 ∷ 0x00 ∷ 0x00 ∷ 0x04 ∷ []; later = 0xc0 ∷ 0xf4 ∷ 0x00 ∷ 0x00 ∷ 0x07 ∷ 0xf7 ∷ []; at = refl; is = refl }

jump_stands : StandsAt image 18 (bytes_of (ril_c opcodes.BRCL 15 2039))
unfolding number bits layout_of length_of be_bytes
jump_stands = record { earlier = 0xc0 ∷ 0x10 ∷ 0x00 ∷ 0x00 ∷ 0x00 ∷ 0x00 ∷ 0xe3 ∷ 0x20 ∷ 0x10 ∷ 0x00 ∷ 0x00 ∷ 0x04 ∷ 0xc0 ∷ 0xe5 ∷ 0x00 ∷ 0x00 ∷ 0x07 ∷ 0xfa ∷ []; later = []; at = refl; is = refl }

brasl_listed : (a half : ℕ) → IsEncoded machine_rows RilB (ril_b opcodes.BRASL a half).slots
unfolding machine_rows row_for
brasl_listed a half = listed machine_rows RilB (ril_b opcodes.BRASL a half).slots (omega arith) (refl, refl, refl)

address_step : (s t : State) → s.core.memory ≡ core.memory → s.address ≡ 4096 → FetchedStep (Found (decoded_of RilB (ril_b opcodes.LARL 1 0).slots)) s (Executed None) t → MachineStep s (Executed None) t
address_step s t memory at acts = step_at (ril_b opcodes.LARL 1 0) 0 s (Executed None) t refl memory at address_stands (fits_ril_b opcodes.LARL 1 0 (omega arith) (omega arith) (omega arith)) (larl_listed 1 0) acts

load_step : (s t : State) → s.core.memory ≡ core.memory → s.address ≡ 4102 → FetchedStep (Found (decoded_of Rxy (rxy opcodes.LG 2 1 0 0).slots)) s (Executed None) t → MachineStep s (Executed None) t
load_step s t memory at acts = step_at (rxy opcodes.LG 2 1 0 0) 6 s (Executed None) t refl memory at load_stands (fits_rxy opcodes.LG 2 1 0 0 (omega arith) (omega arith) (omega arith) (omega arith) (omega arith)) (lg_listed 2) acts

call_step : (s t : State) → s.core.memory ≡ core.memory → s.address ≡ 4108 → FetchedStep (Found (decoded_of RilB (ril_b opcodes.BRASL 14 2042).slots)) s (Executed None) t → MachineStep s (Executed None) t
call_step s t memory at acts = step_at (ril_b opcodes.BRASL 14 2042) 12 s (Executed None) t refl memory at call_stands (fits_ril_b opcodes.BRASL 14 2042 (omega arith) (omega arith) (omega arith)) (brasl_listed 14 2042) acts

jump_step : (s t : State) → s.core.memory ≡ core.memory → s.address ≡ 4114 → FetchedStep (Found (decoded_of RilC (ril_c opcodes.BRCL 15 2039).slots)) s (Executed None) t → MachineStep s (Executed None) t
jump_step s t memory at acts = step_at (ril_c opcodes.BRCL 15 2039) 18 s (Executed None) t refl memory at jump_stands (fits_ril_c opcodes.BRCL 15 2039 (omega arith) (omega arith) (omega arith)) (brcl_listed 15 2039) acts

run : Run image (record { core = core; address = 4096 }) trace
unfolding length_of semantics_in semantics_of
run = (
  record { may = tt; goes = address_step (record { core = core; address = 4096 }) (record { core = with_address; address = 4102 }) refl refl (record { reached = refl; allowed = refl; results = refl; code = refl; memory = refl }, refl, refl) },
  (
    record { may = tt; goes = load_step (record { core = with_address; address = 4102 }) (record { core = with_bytes; address = 4108 }) refl refl (record { reached = refl; allowed = refl; results = refl; code = refl; memory = refl }, refl, refl) },
    (record { may = tt; goes = call_step (record { core = with_bytes; address = 4108 }) (record { core = with_link; address = 8192 }) refl refl (refl, refl) }, tt),
  ),
)

leaving : Run image (record { core = core; address = 4114 }) later
unfolding length_of semantics_in semantics_of
leaving = (record { may = tt; goes = jump_step (record { core = core; address = 4114 }) (record { core = core; address = 8192 }) refl refl (refl, refl, refl) }, tt)

pub loads_calls_and_leaves : LoadsCallsAndLeaves
unfolding vec code length_of
loads_calls_and_leaves = record {
  stands = record {
    code = code;
    checked = λ flags. refl;
    masks = (((tt, tt), (tt, (tt, (tt, tt)))), tt);
    finished = finished;
    links = ap₂ (λ o p. first_link_cause (symbol_cause 4096 (to_callee 14) o) (first_link_cause (symbol_cause 4096 (to_callee 20) p) None)) found found;
    lies = subst (λ l. IsLoaded (record { base = 4096; bytes = l }) core.memory) (sym linked_bytes) is_loaded;
    run = subst (λ l. Run (record { base = 4096; bytes = l }) (record { core = core; address = 4096 }) trace) (sym linked_bytes) run;
  };
  loads_first = refl;
  calls = refl;
  leaves = refl;
  returns = subst (λ l. Run (record { base = 4096; bytes = l }) (record { core = core; address = 4114 }) later) (sym linked_bytes) leaving;
}
