-- The finished code of both functions, and that the theorem's premises hold of it.
use Rattle.std.proofs.Common.{◌≡◌, ℕ, ◌<◌, ◌^◌, List, [], ◌∷◌, length, Some, None, Vec, Global, refl, sym, ap, subst, arith}
use Rattle.std.specs.Prelude.{pos}
use Rattle.s390x_format.specs.Layout.{number, bits}
use Rattle.s390x_format.specs.Formats.{layout_of, length_of}
use Rattle.s390x_format.specs.Reading.{be_bytes}
use Rattle.s390x_buffer.specs.declared.entries.MachBufferFinalized.{MachBufferFinalized}
use Rattle.s390x_base.specs.declared.ir.Reloc.TheVariants.{S390xPCRel32Dbl, S390xPLTRel32Dbl}
use Rattle.s390x_base.specs.declared.trap.TrapKind.TheVariants.{User}
use Rattle.s390x_buffer.specs.declared.entries.RelocEntry.{RelocEntry}
use Rattle.s390x_image.specs.Causes.{first_link_cause, symbol_cause}
use Rattle.s390x_image.specs.Fields.{address_or_zero, fill, with_fields_filled}
use Rattle.s390x_image.specs.Symbols.{no_symbols, address_of, address_of-with_address}
use Rattle.s390x_operations.specs.State.{IsLoaded}
use Rattle.s390x_machine.specs.Machine.{Run}
use Rattle.s390x_machine.specs.Example.{image, remaining_trees}
use Rattle.s390x_machine.specs.RelativeExample as Relative
use Rattle.s390x_machine.proofs.Example.{ranges, loop_runs}
use Rattle.s390x_machine.proofs.RelativeExample as Relatively
use Rattle.s390x_emit_int.specs.CallExample as Call
use Rattle.s390x_emit_int.specs.Function.{IsFinishedCode}
use Rattle.s390x_emit_int.specs.Example.{LinkedLoopRuns, LinkedTrapRuns, LinkedCallStands, symbols}

-- a vector of these
vec : {X : Type 0} (items : List X) → length items < 2 ^ 63 → Vec X Global
vec items small = record { ptr = denote.RawPtr.null_ptr; len = length items; cap = length items; alloc = record { memory = record { seal = tt } }; items = items; ok = (refl, omega arith); small = small }

code : MachBufferFinalized
code = record {
  bytes = vec image.bytes (omega arith);
  block_starts = vec (0 ∷ 10 ∷ []) (omega arith);
  constant_starts = vec [] (omega arith);
  starts = vec (0 ∷ 4 ∷ 10 ∷ []) (omega arith);
  relocs = vec [] (omega arith);
  traps = vec [] (omega arith);
  call_sites = vec [] (omega arith);
  try_call_sites = vec [] (omega arith);
  patchable_sites = vec [] (omega arith);
  stack_maps = vec [] (omega arith);
  alignment = 4;
}

finished : IsFinishedCode remaining_trees [] code
unfolding vec code number bits layout_of length_of be_bytes
finished = record {
  bytes = refl;
  block_starts = refl;
  constant_starts = refl;
  starts = refl;
  relocs = refl;
  traps = refl;
  call_sites = refl;
  try_call_sites = refl;
  patchable_sites = refl;
  stack_maps = refl;
  alignment = refl;
  short = omega arith;
}

pub linked_loop_runs : LinkedLoopRuns
unfolding vec code length_of
linked_loop_runs = record {
  code = code;
  checked = λ flags. refl;
  masks = ranges;
  finished = finished;
  links = refl;
  lies = loop_runs.1;
  run = loop_runs.2;
}

-- ---- the function with a constant, a symbol and a trap

abbrev unlinked_bytes : List ℕ
unlinked_bytes = 0xc4 ∷ 0x2d ∷ 0x00 ∷ 0x00 ∷ 0x00 ∷ 0x08 ∷ 0xc0 ∷ 0x30 ∷ 0x00 ∷ 0x00 ∷ 0x00 ∷ 0x00 ∷ 0x00 ∷ 0x00 ∷ 0x00 ∷ 0x00 ∷ 0x00 ∷ 0x00 ∷ 0x00 ∷ 0x2a ∷ []

-- the relocation of the address
abbrev to_symbol : RelocEntry
to_symbol = record { offset = 8; kind = S390xPCRel32Dbl; name = record { 0 = 1 }; addend = pos 2 }

trap_code : MachBufferFinalized
trap_code = record {
  bytes = vec unlinked_bytes (omega arith);
  block_starts = vec (0 ∷ []) (omega arith);
  constant_starts = vec (16 ∷ []) (omega arith);
  starts = vec (0 ∷ 6 ∷ 12 ∷ []) (omega arith);
  relocs = vec (to_symbol ∷ []) (omega arith);
  traps = vec (record { offset = 13; code = User 7 } ∷ []) (omega arith);
  call_sites = vec [] (omega arith);
  try_call_sites = vec [] (omega arith);
  patchable_sites = vec [] (omega arith);
  stack_maps = vec [] (omega arith);
  alignment = 4;
}

trap_finished : IsFinishedCode Relative.trees Relative.constants trap_code
unfolding vec trap_code number bits layout_of length_of be_bytes
trap_finished = record {
  bytes = refl;
  block_starts = refl;
  constant_starts = refl;
  starts = refl;
  relocs = refl;
  traps = refl;
  call_sites = refl;
  try_call_sites = refl;
  patchable_sites = refl;
  stack_maps = refl;
  alignment = refl;
  short = omega arith;
}

-- the symbol's address is found
found : address_of symbols (record { 0 = 1 }) ≡ Some 8192
found = address_of-with_address no_symbols (record { 0 = 1 }) 8192 (record { 0 = 1 })

-- the field is filled as an assembler gives it
linked_bytes : with_fields_filled 4096 symbols (to_symbol ∷ []) unlinked_bytes ≡ Relative.image.bytes
unfolding be_bytes
linked_bytes = ap (λ o. fill 4096 (address_or_zero o) to_symbol unlinked_bytes) found

pub linked_trap_runs : LinkedTrapRuns
unfolding vec trap_code length_of
linked_trap_runs = record {
  code = trap_code;
  checked = λ flags. refl;
  masks = Relatively.ranges;
  finished = trap_finished;
  links = ap (λ o. first_link_cause (symbol_cause 4096 to_symbol o) None) found;
  lies = subst (λ l. IsLoaded (record { base = 4096; bytes = l }) Relative.core.memory) (sym linked_bytes) Relatively.relative_runs.lies;
  run = subst (λ l. Run (record { base = 4096; bytes = l }) (record { core = Relative.core; address = 4096 }) Relative.trace) (sym linked_bytes) Relatively.relative_runs.run;
}

-- ---- the function with a call

abbrev unlinked_call : List ℕ
unlinked_call = 0xc0 ∷ 0xe5 ∷ 0x00 ∷ 0x00 ∷ 0x00 ∷ 0x00 ∷ 0x07 ∷ 0xf7 ∷ []

-- the relocation of the call
abbrev to_callee : RelocEntry
to_callee = record { offset = 2; kind = S390xPLTRel32Dbl; name = record { 0 = 1 }; addend = pos 2 }

call_code : MachBufferFinalized
call_code = record {
  bytes = vec unlinked_call (omega arith);
  block_starts = vec (0 ∷ []) (omega arith);
  constant_starts = vec [] (omega arith);
  starts = vec (0 ∷ 6 ∷ []) (omega arith);
  relocs = vec (to_callee ∷ []) (omega arith);
  traps = vec [] (omega arith);
  call_sites = vec (6 ∷ []) (omega arith);
  try_call_sites = vec [] (omega arith);
  patchable_sites = vec [] (omega arith);
  stack_maps = vec [] (omega arith);
  alignment = 4;
}

call_finished : IsFinishedCode Call.trees [] call_code
unfolding vec call_code number bits layout_of length_of be_bytes
call_finished = record {
  bytes = refl;
  block_starts = refl;
  constant_starts = refl;
  starts = refl;
  relocs = refl;
  traps = refl;
  call_sites = refl;
  try_call_sites = refl;
  patchable_sites = refl;
  stack_maps = refl;
  alignment = refl;
  short = omega arith;
}

linked_call : with_fields_filled 4096 symbols (to_callee ∷ []) unlinked_call ≡ Call.image.bytes
unfolding be_bytes
linked_call = ap (λ o. fill 4096 (address_or_zero o) to_callee unlinked_call) found

call_loaded : IsLoaded Call.image Call.core.memory
call_loaded = record { has = λ a h. h; get = λ a h. refl }

pub linked_call_stands : LinkedCallStands
unfolding vec call_code length_of
linked_call_stands = record {
  stands = record {
    code = call_code;
    checked = λ flags. refl;
    masks = ((tt, ((tt, tt), tt)), tt);
    finished = call_finished;
    links = ap (λ o. first_link_cause (symbol_cause 4096 to_callee o) None) found;
    lies = subst (λ l. IsLoaded (record { base = 4096; bytes = l }) Call.core.memory) (sym linked_call) call_loaded;
    run = tt;
  };
  calls = refl;
}
