-- A function of one block in memory at 4096 that calls a symbol and then returns.
use Rattle.std.specs.Prelude.{◌-◌, List, [], ◌∷◌, if◌then◌else◌, ◌==◌, slice_index}
use Rattle.s390x_base.specs.Registers.{general}
use Rattle.s390x_base.specs.declared.regs.Reg.TheVariants.{Real}
use Rattle.s390x_inst.specs.declared.calls.CallInstDest.TheVariants.{Direct}
use Rattle.s390x_inst.specs.declared.inst.Inst.TheVariants.{Ret}
use Rattle.s390x_typed_steps.specs.StepBody.{AtCall, Calling}
use Rattle.s390x_typed_steps.specs.Tree.{Tree, empty, leaf, Whole, CallStep}
use Rattle.s390x_operations.specs.State.{Registers, Core, CodeImage, is_within}
use Rattle.s390x_operations.specs.declared.stop.ConditionCode.TheVariants.{Code0}

-- brasl %r14, 8192; br %r7: as an assembler gives them
abbrev pub image : CodeImage
image = record { base = 4096; bytes = 0xc0 ∷ 0xe5 ∷ 0x00 ∷ 0x00 ∷ 0x08 ∷ 0x00 ∷ 0x07 ∷ 0xf7 ∷ [] }

-- the call, which has no handlers, and whose callee takes nothing from the stack
abbrev pub calling : Calling
calling = record { link = Real (general 14); target = Direct (record { 0 = 1 }); popped = 0; sites = AtCall ∷ [] }

-- the block
abbrev pub trees : List Tree
trees = leaf (CallStep calling) (leaf (Whole (Ret (Real (general 7)))) empty) ∷ []

-- `%r7` is 12288
abbrev pub registers : Registers
registers = record { general = λ i. if i == 7 then 12288 else 0; vector = λ i. 0; access = λ i. 0; code = Code0 }

-- the image and nothing else is accessible
abbrev pub core : Core
core = record { registers = registers; memory = record { has = λ a. is_within image a; get = λ a. slice_index image.bytes (a - 4096) } }
