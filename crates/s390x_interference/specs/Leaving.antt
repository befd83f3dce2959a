-- A processor that leaves a retry loop by a break: what the theorem says of that can be met too.
use Rattle.std.specs.Prelude.{◌≡◌, ◌-◌, List, [], ◌∷◌, None, ◌||◌, ◌&&◌, nat_le, nat_lt, if◌then◌else◌, slice_index}
use Rattle.s390x_inst.specs.declared.state.IsaFlags.{IsaFlags}
use Rattle.s390x_buffer.specs.declared.entries.MachBufferFinalized.{MachBufferFinalized}
use Rattle.s390x_image.specs.Causes.{link_cause}
use Rattle.s390x_image.specs.Symbols.{no_symbols}
use Rattle.s390x_typed_steps.specs.Folding.{folded_trees}
use Rattle.s390x_typed_steps.specs.Ranges.{BlocksInRange}
use Rattle.s390x_operations.specs.State.{Memory, CodeImage, IsLoaded, is_within}
use Rattle.s390x_machine.specs.Functions.{function_layout}
use Rattle.s390x_machine.specs.Layout.{Layout, step_address}
use Rattle.s390x_schedule.specs.Schedule.{World, view, Tick, Scheduled, transitions_of}
use Rattle.s390x_emit_int.specs.Function.{checked_cause, IsFinishedCode}
use Rattle.s390x_emit_int.specs.Headline.{linked_environment, linked_image}
use Rattle.s390x_interference.specs.Example.{leaving_trees}
use Rattle.s390x_interference.specs.Loops.{RetryAt}
use Rattle.s390x_interference.specs.Retry.{Retry, loop_run, stores_of, EndsByBreak}
use Rattle.s390x_interference.specs.Schedules.{AllLeaveImage}
use Rattle.s390x_interference.specs.Shared.{adder, tick}

-- jge behind the loop; cs %r2, %r4, 0(%r5); jgl to the first; br %r14: as an assembler gives them
abbrev pub image : CodeImage
image = record { base = 4096; bytes = 0xc0 ∷ 0x84 ∷ 0x00 ∷ 0x00 ∷ 0x00 ∷ 0x08 ∷ 0xba ∷ 0x24 ∷ 0x50 ∷ 0x00 ∷ 0xc0 ∷ 0x44 ∷ 0xff ∷ 0xff ∷ 0xff ∷ 0xfb ∷ 0x07 ∷ 0xfe ∷ [] }

-- the image, and the word, which is zero
abbrev pub memory : Memory
memory = record { has = λ a. is_within image a || (nat_le 65536 a && nat_lt a 65540); get = λ a. if is_within image a then slice_index image.bytes (a - 4096) else 0 }

-- a processor at the loop, with code 0
abbrev pub world : World
world = record { processor = λ q. record { registers = adder 5; address = 4096 }; memory = memory }

-- it leaves at once
abbrev pub ticks : List Tick
ticks = tick 0 None (adder 5) memory 4112 ∷ []

-- the layout of the function's finished code, linked at 4096
abbrev pub layout : MachBufferFinalized → Layout
layout code = function_layout (linked_environment no_symbols 4096 (folded_trees leaving_trees) []) (folded_trees leaving_trees) (linked_image code 4096 no_symbols)

-- The function has no cause, this is its finished code, and linking has no cause; it has a retry loop; the linked code lies in memory, the processor stands at the
-- loop, this is a schedule of it, and it doesn't store into the code. Its run ends by a break, and stores nothing
pub record LoopIsLeft : Type 0 where
  pub code : MachBufferFinalized
  pub checked : (flags : IsaFlags) → checked_cause flags leaving_trees [] ≡ None
  pub masks : BlocksInRange leaving_trees
  pub finished : IsFinishedCode (folded_trees leaving_trees) [] code
  pub links : link_cause code 4096 no_symbols ≡ None
  pub is : linked_image code 4096 no_symbols ≡ image
  pub at : RetryAt (folded_trees leaving_trees) 0
  pub loop : Retry (layout code)
  pub lies : IsLoaded (linked_image code 4096 no_symbols) world.memory
  pub scheduled : Scheduled world (0 ∷ []) ticks
  pub leaves : AllLeaveImage (linked_image code 4096 no_symbols) ticks
  pub stands : (view world 0).address ≡ step_address (layout code) 1
  pub breaks : EndsByBreak (layout code) loop (view world 0) (loop_run (layout code) loop (view world 0) (transitions_of 0 [] ticks))
  pub never : stores_of (loop_run (layout code) loop (view world 0) (transitions_of 0 [] ticks)) ≡ []
