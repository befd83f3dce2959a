-- Two processors in the function that adds: what the theorem asks for can be met, and both outcomes of the swap come.
use Rattle.std.specs.Prelude.{◌≡◌, ℕ, ◌-◌, List, [], ◌∷◌, Option, Some, None, ◌&&◌, ◌||◌, ◌==◌, nat_le, nat_lt, if◌then◌else◌, slice_index}
use Rattle.s390x_inst.specs.declared.state.IsaFlags.{IsaFlags}
use Rattle.s390x_buffer.specs.declared.entries.MachBufferFinalized.{MachBufferFinalized}
use Rattle.s390x_image.specs.Causes.{link_cause}
use Rattle.s390x_image.specs.Symbols.{no_symbols}
use Rattle.s390x_typed_steps.specs.Folding.{folded_trees}
use Rattle.s390x_typed_steps.specs.Ranges.{BlocksInRange}
use Rattle.s390x_operations.specs.State.{Registers, Memory, CodeImage, StoreEvent, IsLoaded, is_within, set_general, with_code, after_store}
use Rattle.s390x_operations.specs.declared.stop.ConditionCode.TheVariants.{Code0, Code1, Code2}
use Rattle.s390x_machine.specs.Functions.{function_layout}
use Rattle.s390x_machine.specs.Layout.{Layout, step_address}
use Rattle.s390x_machine.specs.Machine.{Executed}
use Rattle.s390x_schedule.specs.Schedule.{World, view, Tick, Scheduled, transitions_of}
use Rattle.s390x_emit_int.specs.Function.{checked_cause, IsFinishedCode}
use Rattle.s390x_emit_int.specs.Headline.{linked_environment, linked_image}
use Rattle.s390x_interference.specs.Example.{adding_trees}
use Rattle.s390x_interference.specs.Loops.{RetryAt}
use Rattle.s390x_interference.specs.Retry.{Retry, loop_run, stores_of, EndsBySwap}
use Rattle.s390x_interference.specs.Schedules.{AllLeaveImage}

-- ark %r4, %r2, %r3; cs %r2, %r4, 0(%r5); jgl to the first; br %r14: as an assembler gives them
abbrev pub image : CodeImage
image = record { base = 4096; bytes = 0xb9 ∷ 0xf8 ∷ 0x30 ∷ 0x42 ∷ 0xba ∷ 0x24 ∷ 0x50 ∷ 0x00 ∷ 0xc0 ∷ 0x44 ∷ 0xff ∷ 0xff ∷ 0xff ∷ 0xfc ∷ 0x07 ∷ 0xfe ∷ [] }

-- what a processor adds, to the word at 65536, which it takes to be zero
abbrev pub adder : (addend : ℕ) → Registers
adder addend = record { general = λ i. if i == 3 then addend else (if i == 5 then 65536 else 0); vector = λ i. 0; access = λ i. 0; code = Code0 }

-- the image, and the word, which is zero
abbrev pub memory : Memory
memory = record { has = λ a. is_within image a || (nat_le 65536 a && nat_lt a 65540); get = λ a. if is_within image a then slice_index image.bytes (a - 4096) else 0 }

-- the first processor adds 5, the other one 7, and both stand at the loop
abbrev pub world : World
world = record { processor = λ q. record { registers = adder (if q == 0 then 5 else 7); address = 4096 }; memory = memory }

-- with the sum, which is above zero
abbrev pub registers_after_sum : (addend : ℕ) → Registers
registers_after_sum addend = with_code Code2 (set_general (adder addend) 4 addend)

-- the word becomes 5
abbrev pub store_of_five : StoreEvent
store_of_five = record { address = 65536; size = 4; value = 5 }

abbrev pub tick : (p : ℕ) → Option StoreEvent → Registers → Memory → ℕ → Tick
tick p x r m a = record { processor = p; event = Executed x; after = record { core = record { registers = r; memory = m }; address = a } }

-- both add, the first one's swap succeeds, and the other one's finds 5
abbrev pub ticks : List Tick
ticks =
    tick 0 None (registers_after_sum 5) memory 4100
    ∷ tick 1 None (registers_after_sum 7) memory 4100
    ∷ tick 0 (Some store_of_five) (with_code Code0 (set_general (registers_after_sum 5) 2 0)) (after_store (Some store_of_five) memory) 4104
    ∷ tick 1 None (with_code Code1 (set_general (registers_after_sum 7) 2 5)) (after_store (Some store_of_five) memory) 4104 ∷ []

-- the layout of the function's finished code, linked at 4096
abbrev pub layout : MachBufferFinalized → Layout
layout code = function_layout (linked_environment no_symbols 4096 (folded_trees adding_trees) []) (folded_trees adding_trees) (linked_image code 4096 no_symbols)

-- The function has no cause, this is its finished code, and linking has no cause; it has a retry loop; the linked code lies in memory, both processors
-- stand at the loop, this is a schedule of them, and none stores into the code. The first one's run stores once and ends by its swap, the other one's
-- stores nothing
pub record LoopIsShared : Type 0 where
  pub code : MachBufferFinalized
  pub checked : (flags : IsaFlags) → checked_cause flags adding_trees [] ≡ None
  pub masks : BlocksInRange adding_trees
  pub finished : IsFinishedCode (folded_trees adding_trees) [] code
  pub links : link_cause code 4096 no_symbols ≡ None
  pub is : linked_image code 4096 no_symbols ≡ image
  pub at : RetryAt (folded_trees adding_trees) 0
  pub loop : Retry (layout code)
  pub lies : IsLoaded (linked_image code 4096 no_symbols) world.memory
  pub scheduled : Scheduled world (0 ∷ 1 ∷ 0 ∷ 1 ∷ []) ticks
  pub leaves : AllLeaveImage (linked_image code 4096 no_symbols) ticks
  pub stand : (p : ℕ) → (view world p).address ≡ step_address (layout code) 1
  pub succeeds : EndsBySwap (layout code) loop (view world 0) (loop_run (layout code) loop (view world 0) (transitions_of 0 [] ticks))
  pub once : stores_of (loop_run (layout code) loop (view world 0) (transitions_of 0 [] ticks)) ≡ store_of_five ∷ []
  pub never : stores_of (loop_run (layout code) loop (view world 1) (transitions_of 1 [] ticks)) ≡ []
