-- A function of one block in memory at 4096 that loads its constant and the address of a symbol, both by their distances, and stops by a trap; and a run of it.
use Rattle.std.specs.Prelude.{ℕ, ◌-◌, ◌/◌, pos, ◌≡◌, List, [], ◌∷◌, Some, None, slice_index}
use Rattle.s390x_base.specs.Registers.{general}
use Rattle.s390x_base.specs.declared.regs.Reg.TheVariants.{Real}
use Rattle.s390x_base.specs.declared.trap.TrapKind.TheVariants.{User}
use Rattle.s390x_buffer.specs.State.{Constant as DeclaredConstant}
use Rattle.s390x_inst.specs.Memory.{trusted}
use Rattle.s390x_inst.specs.declared.args.MemArg.TheVariants.{Constant, Symbol}
use Rattle.s390x_inst.specs.declared.inst.Inst.{Inst}
use Rattle.s390x_inst.specs.declared.inst.Inst.TheVariants.{Load32, LoadAddr, Trap}
use Rattle.s390x_typed_steps.specs.Tree.{Tree, empty, leaf, Whole}
use Rattle.s390x_typed_steps.specs.Causes.{aligns_of}
use Rattle.s390x_typed_steps.specs.Image.{constant_offset}
use Rattle.s390x_typed_steps.specs.Rows.{LinkEnvironment}
use Rattle.s390x_typed_steps.specs.Traps.{function_traps}
use Rattle.s390x_operations.specs.State.{Registers, Core, State, CodeImage, is_within, IsLoaded, set_general}
use Rattle.s390x_operations.specs.declared.stop.ConditionCode.TheVariants.{Code0}
use Rattle.s390x_operations.specs.declared.stop.StopKind.TheVariants.{Operation}
use Rattle.s390x_machine.specs.Codes.{trap_code_at}
use Rattle.s390x_machine.specs.Machine.{Transition, Executed, Interrupted, Run}
use Rattle.s390x_machine.specs.Layout.{block_address}
use Rattle.s390x_machine.specs.Functions.{function_layout, StandsAsCode}

-- lrl %r2, the word behind the code; larl %r3, 8192; two bytes of no instruction; two bytes without use, and the word, 42: as an assembler gives them
abbrev pub image : CodeImage
image = record {
  base = 4096;
  bytes = 0xc4 ∷ 0x2d ∷ 0x00 ∷ 0x00 ∷ 0x00 ∷ 0x08 ∷ 0xc0 ∷ 0x30 ∷ 0x00 ∷ 0x00 ∷ 0x07 ∷ 0xfd ∷ 0x00 ∷ 0x00 ∷ 0x00 ∷ 0x00 ∷ 0x00 ∷ 0x00 ∷ 0x00 ∷ 0x2a ∷ [];
}

-- the constant
abbrev pub constants : List DeclaredConstant
constants = record { bytes = 0 ∷ 0 ∷ 0 ∷ 42 ∷ []; align = 4 } ∷ []

-- the constant into `%r2`
abbrev pub loads : Inst
loads = Load32 (Real (general 2)) (Constant (record { 0 = 0 }))

-- the symbol's address into `%r3`
abbrev pub names : Inst
names = LoadAddr (Real (general 3)) (Symbol (record { 0 = 1 }) (pos 0) trusted)

-- the trap
abbrev pub stops : Inst
stops = Trap (User 7)

-- the block
abbrev pub trees : List Tree
trees = leaf (Whole loads) (leaf (Whole names) (leaf (Whole stops) empty)) ∷ []

-- the constant stands behind the code, and the symbol at 8192
abbrev pub environment : LinkEnvironment
environment = record {
  constant = constant_offset trees constants;
  aligns = aligns_of constants;
  symbol_value = λ name offset. 8192;
  symbol_distance = λ address name offset. (4096 - address) / 2;
}

abbrev pub registers : Registers
registers = record { general = λ i. 0; vector = λ i. 0; access = λ i. 0; code = Code0 }

-- the image and nothing else is accessible
abbrev pub core : Core
core = record { registers = registers; memory = record { has = λ a. is_within image a; get = λ a. slice_index image.bytes (a - 4096) } }

-- `%r2` is the constant
abbrev pub with_constant : Core
with_constant = record { registers = set_general registers 2 42; memory = core.memory }

-- `%r3` is the symbol's address too
abbrev pub with_both : Core
with_both = record { registers = set_general with_constant.registers 3 8192; memory = core.memory }

-- a transition without writes of others that stores nothing, after which the core and the address are these
abbrev pub transition : Core → ℕ → Transition
transition c address = record { writes = []; event = Executed None; after = record { core = c; address = address } }

-- the state in which the machine stops
abbrev pub stopped_state : State
stopped_state = record { core = with_both; address = 4108 }

-- the load, the address, and the stop
abbrev pub trace : List Transition
trace = transition with_constant 4102 ∷ transition with_both 4108 ∷ record { writes = []; event = Interrupted Operation; after = stopped_state } ∷ []

-- the image is the function's code and lies in memory, and the machine runs so from the block, to a stop that has the trap's code
pub record RelativeRuns : Type 0 where
  pub stands : StandsAsCode environment trees image
  pub lies : IsLoaded image core.memory
  pub run : Run image (record { core = core; address = block_address (function_layout environment trees image) 0 }) trace
  pub code : trap_code_at image (function_traps trees) stopped_state.address Operation ≡ Some (User 7)
