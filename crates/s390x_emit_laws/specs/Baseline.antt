-- A function of one block in memory at 4096, on a machine without rows relative to the instruction: it loads its own first bytes, calls a symbol, and then leaves by a
-- tail call of it. Runs of it from the block and from the call's return place meet the theorem's premises.
use Rattle.std.specs.Prelude.{◌≡◌, ◌-◌, List, [], ◌∷◌, Some, None, false, slice_get, slice_index}
use Rattle.s390x_base.specs.Registers.{general}
use Rattle.s390x_base.specs.declared.regs.Reg.TheVariants.{Real}
use Rattle.s390x_inst.specs.declared.args.MemArg.TheVariants.{Label}
use Rattle.s390x_inst.specs.declared.calls.CallInstDest.{CallInstDest}
use Rattle.s390x_inst.specs.declared.calls.CallInstDest.TheVariants.{Direct}
use Rattle.s390x_inst.specs.declared.inst.Inst.{Inst}
use Rattle.s390x_inst.specs.declared.inst.Inst.TheVariants.{Load64}
use Rattle.s390x_typed_steps.specs.Folding.{folded_trees}
use Rattle.s390x_typed_steps.specs.StepBody.{AtCall, Calling}
use Rattle.s390x_typed_steps.specs.Steps.{CallingStep, LoadedStep, TailJumpStep, function_steps}
use Rattle.s390x_typed_steps.specs.Tree.{Tree, empty, leaf, Loaded, CallStep, TailOpening, TailJump}
use Rattle.s390x_operations.specs.State.{Registers, Core, CodeImage, is_within, set_general}
use Rattle.s390x_operations.specs.declared.stop.ConditionCode.TheVariants.{Code0}
use Rattle.s390x_machine.specs.Functions.{function_layout}
use Rattle.s390x_machine.specs.Machine.{Transition, Run}
use Rattle.s390x_machine.specs.Match.{return_address}
use Rattle.s390x_machine.specs.RelativeExample.{transition}
use Rattle.s390x_emit_int.specs.Example.{LinkedRun, symbols}
use Rattle.s390x_emit_int.specs.Headline.{linked_environment, linked_image}

-- larl %r1, its own first byte; lg %r2, 0(%r1); brasl %r14, 8192; jg 8192: as an assembler gives them
abbrev pub image : CodeImage
image = record {
  base = 4096;
  bytes =
      0xc0 ∷ 0x10 ∷ 0x00 ∷ 0x00 ∷ 0x00 ∷ 0x00 ∷ 0xe3 ∷ 0x20 ∷ 0x10 ∷ 0x00 ∷ 0x00 ∷ 0x04 ∷ 0xc0 ∷ 0xe5 ∷ 0x00 ∷ 0x00 ∷ 0x07 ∷ 0xfa ∷ 0xc0 ∷ 0xf4 ∷ 0x00 ∷ 0x00 ∷ 0x07 ∷ 0xf7 ∷ [];
}

-- the block's first eight bytes into `%r2`
abbrev pub loads : Inst
loads = Load64 (Real (general 2)) (Label (record { 0 = 0 }))

abbrev pub target : CallInstDest
target = Direct (record { 0 = 1 })

-- the call, which has no handlers, and whose callee takes nothing from the stack
abbrev pub calling : Calling
calling = record { link = Real (general 14); target = target; popped = 0; sites = AtCall ∷ [] }

-- the block
abbrev pub trees : List Tree
trees = leaf (Loaded loads) (leaf (CallStep calling) (leaf (TailOpening target None false) (leaf (TailJump target) empty))) ∷ []

abbrev pub registers : Registers
registers = record { general = λ i. 0; vector = λ i. 0; access = λ i. 0; code = Code0 }

-- the image and nothing else is accessible
abbrev pub core : Core
core = record { registers = registers; memory = record { has = λ a. is_within image a; get = λ a. slice_index image.bytes (a - 4096) } }

-- `%r1` is the operand's address
abbrev pub with_address : Core
with_address = record { registers = set_general registers 1 4096; memory = core.memory }

-- `%r2` is what lies there
abbrev pub with_bytes : Core
with_bytes = record { registers = set_general with_address.registers 2 0xc01000000000e320; memory = core.memory }

-- `%r14` is the return place
abbrev pub with_link : Core
with_link = record { registers = set_general with_bytes.registers 14 4114; memory = core.memory }

-- the load of the address, the load, and the call
abbrev pub trace : List Transition
trace = transition with_address 4102 ∷ transition with_bytes 4108 ∷ transition with_link 8192 ∷ []

-- from the return place, with any registers: here those of the beginning
abbrev pub later : List Transition
later = transition core 8192 ∷ []

-- all that the theorem asks for, of a run from the block and of one from the return place of the call; the steps are a load whose operand's address is loaded first, the
-- call and a tail call's jump
pub record LoadsCallsAndLeaves : Type 0 where
  pub stands : LinkedRun symbols trees [] core trace
  pub loads_first : slice_get (function_steps (folded_trees trees)) 0 ≡ Some (LoadedStep loads)
  pub calls : slice_get (function_steps (folded_trees trees)) 1 ≡ Some (CallingStep calling)
  pub leaves : slice_get (function_steps (folded_trees trees)) 3 ≡ Some (TailJumpStep target)
  pub returns : Run (linked_image stands.code 4096 symbols) (record { core = core; address = return_address (function_layout (linked_environment symbols 4096 (folded_trees trees) []) (folded_trees trees) (linked_image stands.code 4096 symbols)) 1 calling }) later
