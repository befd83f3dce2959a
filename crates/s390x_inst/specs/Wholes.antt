-- Loads and stores of a whole vector register: one view of their variants.
use Rattle.std.specs.Prelude.{ℕ, Option, Some, None}
use denote.Enum.Declared.{tag_of}
use Rattle.s390x_base.specs.declared.regs.Reg.{Reg}
use Rattle.s390x_inst.specs.declared.args.MemArg.{MemArg}
use Rattle.s390x_inst.specs.declared.vec_inst.VecInst.{VecInst}
use Rattle.s390x_inst.specs.declared.vec_inst.VecInst.TheVariants as V
use Rattle.s390x_inst.specs.declared.whole.WholeAccess.{WholeAccess}
use Rattle.s390x_inst.specs.declared.whole.Direction.{Direction}
use Rattle.s390x_inst.specs.declared.whole.Direction.TheVariants.{Load, Store}
use Rattle.s390x_inst.specs.declared.whole.WholeLayout.{WholeLayout}
use Rattle.s390x_inst.specs.declared.whole.WholeLayout.TheVariants as W
use Rattle.s390x_inst.specs.contracts.whole.WholeLayout as the_layout

-- the load or the store of a whole register that an instruction is
abbrev pub as_whole : VecInst → Option WholeAccess
as_whole (V.VecLoad rd mem) = Some (record { direction = Load; layout = W.Straight; rd = rd; mem = mem })
as_whole (V.VecLoadRev rd mem) = Some (record { direction = Load; layout = W.Reversed; rd = rd; mem = mem })
as_whole (V.VecLoadByte16Rev rd mem) = Some (record { direction = Load; layout = W.Bytes16; rd = rd; mem = mem })
as_whole (V.VecLoadByte32Rev rd mem) = Some (record { direction = Load; layout = W.Bytes32; rd = rd; mem = mem })
as_whole (V.VecLoadByte64Rev rd mem) = Some (record { direction = Load; layout = W.Bytes64; rd = rd; mem = mem })
as_whole (V.VecLoadElt16Rev rd mem) = Some (record { direction = Load; layout = W.Elements16; rd = rd; mem = mem })
as_whole (V.VecLoadElt32Rev rd mem) = Some (record { direction = Load; layout = W.Elements32; rd = rd; mem = mem })
as_whole (V.VecLoadElt64Rev rd mem) = Some (record { direction = Load; layout = W.Elements64; rd = rd; mem = mem })
as_whole (V.VecStore rd mem) = Some (record { direction = Store; layout = W.Straight; rd = rd; mem = mem })
as_whole (V.VecStoreRev rd mem) = Some (record { direction = Store; layout = W.Reversed; rd = rd; mem = mem })
as_whole (V.VecStoreByte16Rev rd mem) = Some (record { direction = Store; layout = W.Bytes16; rd = rd; mem = mem })
as_whole (V.VecStoreByte32Rev rd mem) = Some (record { direction = Store; layout = W.Bytes32; rd = rd; mem = mem })
as_whole (V.VecStoreByte64Rev rd mem) = Some (record { direction = Store; layout = W.Bytes64; rd = rd; mem = mem })
as_whole (V.VecStoreElt16Rev rd mem) = Some (record { direction = Store; layout = W.Elements16; rd = rd; mem = mem })
as_whole (V.VecStoreElt32Rev rd mem) = Some (record { direction = Store; layout = W.Elements32; rd = rd; mem = mem })
as_whole (V.VecStoreElt64Rev rd mem) = Some (record { direction = Store; layout = W.Elements64; rd = rd; mem = mem })
as_whole _ = None

-- the instruction that such a load or store is
abbrev pub whole_instruction : Direction → WholeLayout → Reg → MemArg → VecInst
whole_instruction Load W.Straight = V.VecLoad
whole_instruction Load W.Reversed = V.VecLoadRev
whole_instruction Load W.Bytes16 = V.VecLoadByte16Rev
whole_instruction Load W.Bytes32 = V.VecLoadByte32Rev
whole_instruction Load W.Bytes64 = V.VecLoadByte64Rev
whole_instruction Load W.Elements16 = V.VecLoadElt16Rev
whole_instruction Load W.Elements32 = V.VecLoadElt32Rev
whole_instruction Load W.Elements64 = V.VecLoadElt64Rev
whole_instruction Store W.Straight = V.VecStore
whole_instruction Store W.Reversed = V.VecStoreRev
whole_instruction Store W.Bytes16 = V.VecStoreByte16Rev
whole_instruction Store W.Bytes32 = V.VecStoreByte32Rev
whole_instruction Store W.Bytes64 = V.VecStoreByte64Rev
whole_instruction Store W.Elements16 = V.VecStoreElt16Rev
whole_instruction Store W.Elements32 = V.VecStoreElt32Rev
whole_instruction Store W.Elements64 = V.VecStoreElt64Rev

-- by the load or the store that an instruction is, or what else is said of it
abbrev pub by_whole {ℓ} : {A : Type ℓ} → (WholeAccess → A) → (other : A) → Option WholeAccess → A
by_whole f other None = other
by_whole f other (Some w) = f w

-- one of two, for a load and for a store
abbrev pub by_direction {ℓ} : {A : Type ℓ} → Direction → (load store : A) → A
by_direction Load l s = l
by_direction Store l s = s

-- its row in each table of layouts, which stand there in the order of their declaration
abbrev pub layout_place : WholeLayout → ℕ
layout_place layout = tag_of the_layout.the_type layout
