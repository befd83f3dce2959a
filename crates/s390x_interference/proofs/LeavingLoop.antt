-- A processor leaves a retry loop by a break.
use Rattle.std.proofs.Common.{◌≡◌, ℕ, zero, suc, ◌<◌, [], ◌∷◌, Some, None, true, false, inl, inr, refl, ap, cond, ◌-◌, slice_index, arith, slice_get, nat_lt, ◌&&◌}
use Rattle.std.proofs.lemmas.Bool.{or_left}
use Rattle.std.specs.Prelude.{nat_le}
use Rattle.s390x_base.specs.Registers.{general}
use Rattle.s390x_base.specs.declared.regs.Reg.TheVariants.{Real}
use Rattle.s390x_inst.specs.declared.args.MemArg.TheVariants.{BXD12}
use Rattle.s390x_buffer.specs.declared.entries.MachBufferFinalized.{MachBufferFinalized}
use Rattle.s390x_format.specs.declared.kind.FormatKind.TheVariants.{RilC}
use Rattle.s390x_format.specs.Encoded.{decoded_of}
use Rattle.s390x_format.specs.Formats.{layout_of, length_of}
use Rattle.s390x_format.specs.Layout.{number, bits}
use Rattle.s390x_format.specs.Reading.{be_bytes}
use Rattle.s390x_rows.specs.declared.opcodes.TheConstants as opcodes
use Rattle.s390x_typed_steps.specs.MachineInstruction.{bytes_of, ril_c}
use Rattle.s390x_typed_steps.specs.Folding.{folded_trees}
use Rattle.s390x_typed_steps.specs.Ranges.{BlocksInRange}
use Rattle.s390x_typed_steps.specs.Steps.{Step, Break}
use Rattle.s390x_operations.specs.State.{IsLoaded, is_within}
use Rattle.s390x_machine.specs.declared.instruction_fetch.Fetched.TheVariants.{Found}
use Rattle.s390x_machine.specs.Machine.{Executed, MachineStep}
use Rattle.s390x_machine.specs.Semantics.{semantics_in, semantics_of}
use Rattle.s390x_machine.proofs.Fetching.{StandsAt, found_at}
use Rattle.s390x_machine.proofs.Rows.{fits_ril_c, brcl_listed}
use Rattle.s390x_schedule.specs.Schedule.{Scheduled}
use Rattle.s390x_emit_int.specs.Function.{IsFinishedCode}
use Rattle.s390x_interference.specs.Example.{leaving_members, leaving_trees}
use Rattle.s390x_interference.specs.Leaving.{image, memory, world, ticks, layout, LoopIsLeft}
use Rattle.s390x_interference.specs.Loops.{RetryAt}
use Rattle.s390x_interference.specs.Retry.{Retry, IsMember}
use Rattle.s390x_interference.specs.Shared.{adder}
use Rattle.s390x_interference.proofs.SharedLoop.{vec}

-- ---- the code

abbrev code : MachBufferFinalized
code = record {
  bytes = vec image.bytes (omega arith);
  block_starts = vec (0 ∷ []) (omega arith);
  constant_starts = vec [] (omega arith);
  starts = vec (0 ∷ 0 ∷ 6 ∷ 10 ∷ 16 ∷ []) (omega arith);
  relocs = vec [] (omega arith);
  traps = vec [] (omega arith);
  call_sites = vec [] (omega arith);
  try_call_sites = vec [] (omega arith);
  patchable_sites = vec [] (omega arith);
  stack_maps = vec [] (omega arith);
  alignment = 4;
}

finished : IsFinishedCode (folded_trees leaving_trees) [] code
unfolding number bits layout_of length_of be_bytes
finished = record {
  bytes = refl;
  block_starts = refl;
  constant_starts = refl;
  starts = refl;
  relocs = refl;
  traps = refl;
  call_sites = refl;
  try_call_sites = refl;
  patchable_sites = refl;
  stack_maps = refl;
  alignment = refl;
  short = omega arith;
}

-- ---- the loop

at : RetryAt (folded_trees leaving_trees) 0
at = record { mask = 4; members = leaving_members; opens = inl (inl (refl, refl, refl)); body = refl; retries = refl }

members : (k : ℕ) → 0 < k → k < 2 → (s : Step) × (slice_get (layout code).steps k ≡ Some s) × IsMember (layout code) 4 s
members zero above below = absurd (omega (arith, above))
members (suc zero) above below = (Break 8 4, refl, refl)
members (suc (suc k)) above below = absurd (omega (arith, below))

abbrev loop : Retry (layout code)
loop = record {
  opening = 0;
  swap = 2;
  wide = false;
  rd = Real (general 2);
  ri = Real (general 2);
  rn = Real (general 4);
  operand = BXD12 (Real (general 5)) (Real (general 0)) 0 (record { aligned = true; trap = None });
  mask = 4;
  opens = refl;
  order = omega arith;
  members = members;
  swaps = refl;
  back = refl;
  retries = refl;
}

-- ---- the step

lies : IsLoaded image memory
lies = record { has = λ a h. or_left (is_within image a) (nat_le 65536 a && nat_lt a 65540) h; get = λ a h. ap (λ b. cond b (slice_index image.bytes (a - 4096)) 0) h }

break_stands : StandsAt image 0 (bytes_of (ril_c opcodes.BRCL 8 8))
unfolding number bits layout_of length_of be_bytes
break_stands = record { earlier = []; later = 0xba ∷ 0x24 ∷ 0x50 ∷ 0x00 ∷ 0xc0 ∷ 0x44 ∷ 0xff ∷ 0xff ∷ 0xff ∷ 0xfb ∷ 0x07 ∷ 0xfe ∷ []; at = refl; is = refl }

break_step : MachineStep (record { core = record { registers = adder 5; memory = memory }; address = 4096 }) (Executed None) (record { core = record { registers = adder 5; memory = memory }; address = 4112 })
unfolding length_of semantics_in semantics_of
break_step = record {
  fetched = Found (decoded_of RilC (ril_c opcodes.BRCL 8 8).slots);
  fetches = found_at image memory 0 RilC (ril_c opcodes.BRCL 8 8).slots refl refl (omega arith) lies break_stands (fits_ril_c opcodes.BRCL 8 8 (omega arith) (omega arith) (omega arith)) (brcl_listed 8 8);
  acts = (refl, refl, refl);
}

scheduled : Scheduled world (0 ∷ []) ticks
scheduled = (refl, break_step, inr (tt, refl))

masks : BlocksInRange leaving_trees
masks = (((omega arith, omega arith), (((omega arith, omega arith), tt), ((tt, omega arith), tt)), ((tt, tt), tt)), tt)

pub left_loop : LoopIsLeft
unfolding length_of
left_loop = record {
  code = code;
  checked = λ flags. refl;
  masks = masks;
  finished = finished;
  links = refl;
  is = refl;
  at = at;
  loop = loop;
  lies = lies;
  scheduled = scheduled;
  leaves = (tt, tt);
  stands = refl;
  breaks = (1, omega arith, omega arith, refl, refl);
  never = refl;
}
