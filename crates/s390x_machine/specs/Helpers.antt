-- What helpers have to do: they write `%r1` alone, and leave the operand's address as it was (cranelift-codegen, `mem_finalize` in `emit.rs`).
use Rattle.std.specs.Prelude.{◌≡◌, ℕ, ◌^◌, ◌<◌, true, false, ◌⊎◌, List, [], ◌∷◌, Option, Some, IsTrue}
use Rattle.s390x_base.specs.Regs.{number_of}
use Rattle.s390x_base.specs.declared.regs.Reg.{Reg}
use Rattle.s390x_inst.specs.declared.args.MemArg.{MemArg}
use Rattle.s390x_inst.specs.declared.args.MemArg.TheVariants.{BXD12, BXD20, Label, Constant, Symbol}
use Rattle.s390x_inst.specs.declared.inst.Inst.{Inst}
use Rattle.s390x_typed_steps.specs.Operands.{finalized_operand, loses_base, operand_general, offset_fits}
use Rattle.s390x_typed_steps.specs.Causes.{is_helped}
use Rattle.s390x_typed_steps.specs.Ranges.{OperandInRange}
use Rattle.s390x_typed_steps.specs.declared.mem_inst_type.MemInstType.{MemInstType}
use Rattle.s390x_operations.specs.State.{Registers, Core}
use Rattle.s390x_operations.specs.Effects.{MayExecute}
use Rattle.s390x_machine.specs.StepKinds.{StepKind, Performs, instruction_kind}
use Rattle.s390x_machine.specs.Layout.{Layout}
use Rattle.s390x_machine.specs.Storage.{operand_address, needs_scratch}
use Rattle.s390x_machine.specs.Typed.{loosen}

-- an operation may go from one core to another
abbrev pub KindMayExecute : StepKind → Core → Core → Type 0
KindMayExecute (Performs needs operation code) c t = MayExecute (operation c.registers) c t
KindMayExecute _ c t = ⊥

-- helpers may go from one core to another, one after another, each as an instruction of its own
abbrev pub HelpersMayExecute : Layout → List Inst → Core → Core → Type 0
HelpersMayExecute L [] c t = t ≡ c
HelpersMayExecute L (i ∷ is) c t = (mid : Core) × KindMayExecute (instruction_kind L i) c mid × HelpersMayExecute L is mid t

-- one operand's address with some registers is another's with others
abbrev pub IsSameAddress : Option (Registers → ℕ) → Registers → Option (Registers → ℕ) → Registers → Type 0
IsSameAddress (Some a) r (Some b) q = a r ≡ b q
IsSameAddress _ r _ q = ⊥

-- where helpers load the address of the symbol that an operand names, it is, with its offset, one below 2 ^ 64
abbrev pub HasAddress : Layout → MemInstType → MemArg → Type 0
HasAddress L mi (Symbol name offset flags) = is_helped (finalized_operand mi (Symbol name offset flags)).helpers ≡ true → L.offsets.environment.symbol_value name offset < 2 ^ 64
HasAddress L mi m = Unit {0}

-- an operand that names a place, or has real registers and an offset of 32 bits, and whose base isn't overwritten; `operands_are_addressable`: so has
-- each step that accesses memory, in a function's code
pub record IsAddressable (L : Layout) (mi : MemInstType) (m : MemArg) : Type 0 where
  pub general : IsTrue (operand_general m)
  pub fits : IsTrue (offset_fits m)
  pub kept : loses_base m ≡ false
  pub range : OperandInRange m
  pub address : HasAddress L mi m

-- after the helpers the operand of the access has the address that the given one had before, and only `%r1` has changed, where it is needed
abbrev pub HelpersKeep : Layout → MemInstType → MemArg → Type 0
HelpersKeep L mi m = (c t : Core) → HelpersMayExecute L (finalized_operand mi m).helpers c t → IsSameAddress (operand_address L (finalized_operand mi m).operand) t.registers (operand_address L m) c.registers × (v : ℕ) × (t ≡ loosen (needs_scratch mi m) v c)

-- rows take this index: they have one, or it is none
abbrev pub TakesIndex : MemInstType → Reg → Type 0
TakesIndex mi index = (mi.have_index ≡ true) ⊎ (number_of index ≡ 0)

-- rows take an operand as it stands
abbrev pub TakesOperand : MemInstType → MemArg → Type 0
TakesOperand mi (BXD12 base index disp flags) = (mi.have_d12 ≡ true) × TakesIndex mi index
TakesOperand mi (BXD20 base index disp flags) = (mi.have_d20 ≡ true) × TakesIndex mi index
TakesOperand mi (Label target) = mi.have_pcrel ≡ true
TakesOperand mi (Constant constant) = mi.have_pcrel ≡ true
TakesOperand mi (Symbol name offset flags) = (mi.have_pcrel ≡ true) × ((flags.aligned ≡ true) ⊎ (mi.have_unaligned_pcrel ≡ true))
TakesOperand mi _ = ⊥
