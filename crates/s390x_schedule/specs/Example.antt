-- Two functions in one image at 4096. The first one keeps its return address in `%r6` and calls the second one, which adds `%r4` to `%r2` and returns; then the first one
-- returns too.
use Rattle.std.specs.Prelude.{ℕ, ◌-◌, List, None, [], ◌∷◌, if◌then◌else◌, ◌==◌, slice_index}
use Rattle.s390x_base.specs.Registers.{general}
use Rattle.s390x_base.specs.declared.regs.Reg.TheVariants.{Real}
use Rattle.s390x_inst.specs.declared.calls.CallInstDest.TheVariants.{Direct}
use Rattle.s390x_inst.specs.declared.inst.Inst.{Inst}
use Rattle.s390x_inst.specs.declared.inst.Inst.TheVariants.{AluRRR, Mov64, Ret}
use Rattle.s390x_inst.specs.declared.ops.ALUOp.TheVariants.{Add64}
use Rattle.s390x_typed_steps.specs.Rows.{LinkEnvironment}
use Rattle.s390x_typed_steps.specs.StepBody.{AtCall, Calling}
use Rattle.s390x_typed_steps.specs.Tree.{Tree, Whole, CallStep, empty, leaf}
use Rattle.s390x_operations.specs.State.{Registers, Core, CodeImage, is_within, IsLoaded, set_general, with_code}
use Rattle.s390x_operations.specs.declared.stop.ConditionCode.TheVariants.{Code0, Code2}
use Rattle.s390x_machine.specs.Functions.{function_layout}
use Rattle.s390x_machine.specs.Layout.{Layout, block_address}
use Rattle.s390x_machine.specs.Machine.{Executed, Transition, Run}
use Rattle.s390x_machine.specs.Match.{concatenation}
use Rattle.s390x_machine.specs.Typed.{Returned}
use Rattle.s390x_schedule.specs.Joint.{AreMembers, Running, Finished}
use Rattle.s390x_schedule.specs.JointMatch.{JointRun, JointEndsMatch}

-- lgr %r6, %r14; brasl %r14, the second function; br %r6; four bytes between; agr %r2, %r4; br %r14: as an assembler gives them
abbrev pub image : CodeImage
image = record {
  base = 4096;
  bytes =
      0xb9 ∷ 0x04 ∷ 0x00 ∷ 0x6e ∷ 0xc0 ∷ 0xe5 ∷ 0x00 ∷ 0x00 ∷ 0x00 ∷ 0x06 ∷ 0x07 ∷ 0xf6 ∷ 0x00 ∷ 0x00 ∷ 0x00 ∷ 0x00 ∷ 0xb9 ∷ 0x08 ∷ 0x00 ∷ 0x24 ∷ 0x07 ∷ 0xfe ∷ [];
}

-- the parts of the two functions
abbrev pub caller_image : CodeImage
caller_image = record { base = 4096; bytes = 0xb9 ∷ 0x04 ∷ 0x00 ∷ 0x6e ∷ 0xc0 ∷ 0xe5 ∷ 0x00 ∷ 0x00 ∷ 0x00 ∷ 0x06 ∷ 0x07 ∷ 0xf6 ∷ [] }

abbrev pub callee_image : CodeImage
callee_image = record { base = 4112; bytes = 0xb9 ∷ 0x08 ∷ 0x00 ∷ 0x24 ∷ 0x07 ∷ 0xfe ∷ [] }

-- no constants; each symbol is the second function, whose start is 12 bytes behind the call
abbrev pub environment : LinkEnvironment
environment = record { constant = λ c. 0; aligns = []; symbol_value = λ name offset. 4112; symbol_distance = λ origin name offset. 6 }

-- the instructions
abbrev pub keeps : Inst
keeps = Mov64 (Real (general 6)) (Real (general 14))

abbrev pub calls : Calling
calls = record { link = Real (general 14); target = Direct (record { 0 = 2 }); popped = 0; sites = AtCall ∷ [] }

abbrev pub adds : Inst
adds = AluRRR Add64 (Real (general 2)) (Real (general 2)) (Real (general 4))

-- the first function, and the second one
abbrev pub caller_trees : List Tree
caller_trees = leaf (Whole keeps) (leaf (CallStep calls) (leaf (Whole (Ret (Real (general 6)))) empty)) ∷ []

abbrev pub callee_trees : List Tree
callee_trees = leaf (Whole adds) (leaf (Whole (Ret (Real (general 14)))) empty) ∷ []

abbrev pub caller : Layout
caller = function_layout environment caller_trees caller_image

abbrev pub callee : Layout
callee = function_layout environment callee_trees callee_image

abbrev pub members : List Layout
members = caller ∷ callee ∷ []

-- `%r2` is 2, `%r4` is 1 and `%r14` is 8192
abbrev pub registers : Registers
registers = record {
  general = λ i. if i == 2 then 2 else (if i == 4 then 1 else (if i == 14 then 8192 else 0));
  vector = λ i. 0;
  access = λ i. 0;
  code = Code0;
}

-- the image and nothing else is accessible
abbrev pub core : Core
core = record { registers = registers; memory = record { has = λ a. is_within image a; get = λ a. slice_index image.bytes (a - 4096) } }

-- `%r6` is the return address
abbrev pub core_after_save : Core
core_after_save = record { registers = set_general registers 6 8192; memory = core.memory }

-- `%r14` is the call's return place
abbrev pub core_after_call : Core
core_after_call = record { registers = set_general core_after_save.registers 14 4106; memory = core.memory }

-- the sum is 3
abbrev pub core_after_sum : Core
core_after_sum = record { registers = with_code Code2 (set_general core_after_call.registers 2 3); memory = core.memory }

-- a transition without writes of others that stores nothing, after which the core and the address are these
abbrev pub transition : Core → ℕ → Transition
transition c address = record { writes = []; event = Executed None; after = record { core = c; address = address } }

-- each transition is a group
abbrev pub groups : List (List Transition)
groups = (transition core_after_save 4100 ∷ []) ∷ (transition core_after_call 4112 ∷ []) ∷ (transition core_after_sum 4116 ∷ []) ∷ (transition core_after_sum 4106 ∷ []) ∷ (transition core_after_sum 8192 ∷ []) ∷ []

-- the two functions lie in the image, which lies in memory; the machine runs so from the first one's block, through the second one and back; and so do the joint steps
pub record CallsAndReturns : Type 0 where
  pub are : AreMembers image members
  pub lies : IsLoaded image core.memory
  pub run : Run image (record { core = core; address = block_address caller 0 }) (concatenation groups)
  pub joint : JointRun members (Running 0 0) core groups (Finished 0 (Returned 8192)) core_after_sum
  pub ends : JointEndsMatch image members (Finished 0 (Returned 8192)) core_after_sum (record { core = core_after_sum; address = 8192 }) []
