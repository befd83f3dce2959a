-- A jump, a jump by a table, a load and an addition, each behind bytes that no typed step has. The jumps go to a block before them, and the load is of its first bytes.
use Rattle.std.specs.Prelude.{◌≡◌, ℕ, false, [], ◌∷◌, get_or, Some, Vec}
use Rattle.std.specs.Global.{Global}
use Rattle.s390x_base.specs.declared.ir.MachLabel.{MachLabel}
use Rattle.s390x_base.specs.Registers.{general}
use Rattle.s390x_base.specs.declared.regs.Reg.TheVariants.{Real}
use Rattle.s390x_buffer.specs.State.{BufferState, fresh_buffer}
use Rattle.s390x_inst.specs.Emission.{Emission}
use Rattle.s390x_inst.specs.declared.args.MemArg.TheVariants.{Label}
use Rattle.s390x_inst.specs.declared.inst.Inst.{Inst}
use Rattle.s390x_inst.specs.declared.inst.Inst.TheVariants.{AluRRR, JTSequence, Jump, Load32ZExt16}
use Rattle.s390x_inst.specs.declared.ops.ALUOp.TheVariants.{Add64}
use Rattle.s390x_inst.specs.declared.state.IsaFlags.{IsaFlags}
use Rattle.s390x_typed_steps.specs.Steps.{Step, Plain}
use Rattle.s390x_operations.specs.State.{CodeImage}
use Rattle.s390x_machine.specs.CodeAt.{StepAt}
use Rattle.s390x_machine.specs.Layout.{Layout}
use Rattle.s390x_emit_laws.specs.Alone.{IsAppended, StandsAlone}
use Rattle.s390x_emit_laws.specs.Behind.{StandsBehind}

-- the jump
abbrev pub jump : Step
jump = Plain (Jump (record { 0 = 0 }))

-- four bytes, and brcl to the first of them, as an assembler gives it. Steps 0 and 1 are the jump and what stands behind it, and number 2 is the block's
abbrev pub layout : Layout
layout = record {
  image = record { base = 4096; bytes = 0x00 ∷ 0x01 ∷ 0x02 ∷ 0x03 ∷ 0xc0 ∷ 0xf4 ∷ 0xff ∷ 0xff ∷ 0xff ∷ 0xfe ∷ [] };
  steps = jump ∷ [];
  offsets = record {
    step = λ k. get_or (4 ∷ 10 ∷ 0 ∷ []) k 0;
    block = λ b. 0;
    environment = record { constant = λ c. 0; aligns = []; symbol_value = λ name offset. 0; symbol_distance = λ origin name offset. 0 };
  };
  block_count = 1;
  first_step = λ b. 2;
  traps = [];
}

-- it stands there
abbrev pub JumpStands : Type 0
JumpStands = StepAt layout 0 jump

-- a machine of the base alone
abbrev pub base_machine : IsaFlags
base_machine = record { has_mie3 = false; has_mie4 = false; has_vxrs_ext2 = false; has_vxrs_ext3 = false; no_relative_memory = false }

-- agr %r2, %r4
abbrev pub addition : Inst
addition = AluRRR Add64 (Real (general 2)) (Real (general 2)) (Real (general 4))

-- a buffer into which a caller has put four bytes
abbrev pub used_buffer : BufferState
used_buffer = record (fresh_buffer 0 []) { bytes = 0x00 ∷ 0x01 ∷ 0x02 ∷ 0x03 ∷ [] }

-- the addition by itself, as an assembler gives it, at the address of the fifth byte
abbrev pub addition_image : CodeImage
addition_image = record { base = 4100; bytes = 0xb9 ∷ 0x08 ∷ 0x00 ∷ 0x24 ∷ [] }

-- `emit` appends it there in any state of emission, and it stands by itself
abbrev pub AdditionStands : Type 0
AdditionStands = (off : ℕ → ℕ) (e : Emission) → IsAppended off base_machine e used_buffer addition × StandsAlone off base_machine e used_buffer addition addition_image

-- a buffer with one block, whose label a caller has bound before putting these bytes
abbrev pub buffer_with_block : BufferState
buffer_with_block = record (fresh_buffer 1 []) { bytes = 0x00 ∷ 0x01 ∷ 0x02 ∷ 0x03 ∷ []; labels = Some 0 ∷ [] }

-- `emit` appends the jump to the block there in any state of emission, and it stands in the image of the whole buffer
abbrev pub JumpIsAppended : Type 0
JumpIsAppended = (e : Emission) → IsAppended (λ l. 0) base_machine e buffer_with_block (Jump (record { 0 = 0 })) × StandsBehind (λ l. 0) base_machine e buffer_with_block (Jump (record { 0 = 0 })) layout.image

-- a load of a halfword that names the block
abbrev pub load : Inst
load = Load32ZExt16 (Real (general 2)) (Label (record { 0 = 0 }))

-- the four bytes, and llhrl %r2 of the first two of them, as an assembler gives it
abbrev pub load_image : CodeImage
load_image = record { base = 4096; bytes = 0x00 ∷ 0x01 ∷ 0x02 ∷ 0x03 ∷ 0xc4 ∷ 0x22 ∷ 0xff ∷ 0xff ∷ 0xff ∷ 0xfe ∷ [] }

-- `emit` appends the load there in any state of emission, and it stands in the image of the whole buffer
abbrev pub LoadIsAppended : Type 0
LoadIsAppended = (e : Emission) → IsAppended (λ l. 0) base_machine e buffer_with_block load × StandsBehind (λ l. 0) base_machine e buffer_with_block load load_image

-- a jump to the block by a table, or at once where the code is 0
abbrev pub table_jump : Vec MachLabel Global → Inst
table_jump targets = JTSequence (Real (general 2)) (record { 0 = 0 }) 8 targets

-- the four bytes; brcl to the other block, larl, agf and br, as an assembler gives them; and the word
abbrev pub table_image : CodeImage
table_image = record {
  base = 4096;
  bytes =
      0x00 ∷ 0x01 ∷ 0x02 ∷ 0x03 ∷ 0xc0 ∷ 0x84 ∷ 0xff ∷ 0xff ∷ 0xff ∷ 0xfe ∷ 0xc0 ∷ 0x10 ∷ 0x00 ∷ 0x00 ∷ 0x00 ∷ 0x07 ∷ 0xe3 ∷ 0x12 ∷ 0x10 ∷ 0x00 ∷ 0x00 ∷ 0x18 ∷ 0x07 ∷ 0xf1 ∷ 0xff ∷ 0xff ∷ 0xff ∷ 0xe8 ∷ [];
}

-- the block's label, and that of the table
abbrev pub table_labels : ℕ → ℕ
table_labels l = get_or (0 ∷ 24 ∷ []) l 0

-- with the block as the one target, `emit` appends that jump there in any state of emission, and it stands in the image of the whole buffer
pub record TableIsAppended : Type 0 where
  pub targets : Vec MachLabel Global
  pub block : targets.items ≡ record { 0 = 0 } ∷ []
  pub appended : (e : Emission) → IsAppended table_labels base_machine e buffer_with_block (table_jump targets)
  pub stands : (e : Emission) → StandsBehind table_labels base_machine e buffer_with_block (table_jump targets) table_image
