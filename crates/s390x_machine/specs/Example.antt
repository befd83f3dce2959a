-- A function of two blocks in memory at 4096, and a run of it. The first block adds `%r4` to `%r2` and begins again where the sum is negative; the second one returns.
use Rattle.std.specs.Prelude.{ℕ, ◌-◌, List, [], ◌∷◌, None, if◌then◌else◌, ◌==◌, slice_index}
use Rattle.s390x_base.specs.Registers.{general}
use Rattle.s390x_base.specs.declared.regs.Reg.TheVariants.{Real}
use Rattle.s390x_base.specs.declared.ir.MachLabel.{MachLabel}
use Rattle.s390x_inst.specs.declared.ops.ALUOp.TheVariants.{Add64}
use Rattle.s390x_inst.specs.declared.inst.Inst.{Inst}
use Rattle.s390x_inst.specs.declared.inst.Inst.TheVariants.{AluRRR, CondBr, Ret}
use Rattle.s390x_typed_steps.specs.Tree.{Tree, empty, leaf, Whole}
use Rattle.s390x_typed_steps.specs.Folding.{folded_trees}
use Rattle.s390x_typed_steps.specs.Image.{unlinked_environment}
use Rattle.s390x_operations.specs.State.{Registers, Core, CodeImage, is_within, IsLoaded, set_general, with_code}
use Rattle.s390x_operations.specs.declared.stop.ConditionCode.TheVariants.{Code0, Code1}
use Rattle.s390x_machine.specs.Machine.{Transition, Executed, Run}
use Rattle.s390x_machine.specs.Layout.{block_address}
use Rattle.s390x_machine.specs.Functions.{function_layout, StandsAsCode}

-- agr %r2, %r4; jgl to the first block; br %r14: as an assembler gives them. The second block stands behind the first one, so that no branch leads there
abbrev pub image : CodeImage
image = record {
  base = 4096;
  bytes = 0xb9 ∷ 0x08 ∷ 0x00 ∷ 0x24 ∷ 0xc0 ∷ 0x44 ∷ 0xff ∷ 0xff ∷ 0xff ∷ 0xfe ∷ 0x07 ∷ 0xfe ∷ [];
}

-- the label of a block
abbrev pub label : ℕ → MachLabel
label n = record { 0 = n }

-- `%r4` is added to `%r2`
abbrev pub adds : Inst
adds = AluRRR Add64 (Real (general 2)) (Real (general 2)) (Real (general 4))

-- the two blocks
abbrev pub trees : List Tree
trees = leaf (Whole adds) (leaf (Whole (CondBr (label 0) (label 1) 4)) empty) ∷ leaf (Whole (Ret (Real (general 14)))) empty ∷ []

-- what their ends leave of them
abbrev pub remaining_trees : List Tree
remaining_trees = folded_trees trees

-- `%r2` is -2, `%r4` is 1 and `%r14` is 8192
abbrev pub registers : Registers
registers = record {
  general = λ i. if i == 2 then 18446744073709551614 else (if i == 4 then 1 else (if i == 14 then 8192 else 0));
  vector = λ i. 0;
  access = λ i. 0;
  code = Code0;
}

-- the image and nothing else is accessible
abbrev pub core : Core
core = record { registers = registers; memory = record { has = λ a. is_within image a; get = λ a. slice_index image.bytes (a - 4096) } }

-- `%r2` becomes a sum
abbrev pub with_sum : ℕ → Registers → Registers
with_sum x r = set_general r 2 x

-- after the first addition: the sum is -1
abbrev pub once : Core
once = record { registers = with_code Code1 (with_sum 18446744073709551615 registers); memory = core.memory }

-- after the second one: the sum is 0
abbrev pub twice : Core
twice = record { registers = with_code Code0 (with_sum 0 once.registers); memory = core.memory }

-- a transition without writes of others that stores nothing, after which the core and the address are these
abbrev pub transition : Core → ℕ → Transition
transition c address = record { writes = []; event = Executed None; after = record { core = c; address = address } }

-- -1 and round, 0 and on to the second block, and back to the caller
abbrev pub trace : List Transition
trace = transition once 4100 ∷ transition once 4096 ∷ transition twice 4100 ∷ transition twice 4106 ∷ transition twice 8192 ∷ []

-- the image is the function's code and lies in memory, and the machine runs so from the first block
abbrev pub LoopRuns : Type 0
LoopRuns = StandsAsCode (unlinked_environment remaining_trees []) remaining_trees image × IsLoaded image core.memory × Run image (record { core = core; address = block_address (function_layout (unlinked_environment remaining_trees []) remaining_trees image) 0 }) trace
