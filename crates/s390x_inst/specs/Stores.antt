-- Stores of a general register: one view of their variants.
use Rattle.std.specs.Prelude.{ℕ, Option, Some, None}
use denote.Enum.Declared.{tag_of}
use Rattle.s390x_base.specs.declared.regs.Reg.{Reg}
use Rattle.s390x_inst.specs.declared.args.MemArg.{MemArg}
use Rattle.s390x_inst.specs.declared.inst.Inst.{Inst}
use Rattle.s390x_inst.specs.declared.inst.Inst.TheVariants as I
use Rattle.s390x_inst.specs.declared.store.Store.{Store}
use Rattle.s390x_inst.specs.declared.store.StoreOp.{StoreOp}
use Rattle.s390x_inst.specs.contracts.store.StoreOp as the_store
use Rattle.s390x_inst.specs.declared.store.StoreOp.TheVariants as S

-- the store that an instruction is
abbrev pub as_store : Inst → Option Store
as_store (I.Store8 rd mem) = Some (record { op = S.Store8; rd = rd; mem = mem })
as_store (I.Store16 rd mem) = Some (record { op = S.Store16; rd = rd; mem = mem })
as_store (I.Store32 rd mem) = Some (record { op = S.Store32; rd = rd; mem = mem })
as_store (I.Store64 rd mem) = Some (record { op = S.Store64; rd = rd; mem = mem })
as_store (I.StoreRev16 rd mem) = Some (record { op = S.StoreRev16; rd = rd; mem = mem })
as_store (I.StoreRev32 rd mem) = Some (record { op = S.StoreRev32; rd = rd; mem = mem })
as_store (I.StoreRev64 rd mem) = Some (record { op = S.StoreRev64; rd = rd; mem = mem })
as_store _ = None

-- the instruction that a store is
abbrev pub store_instruction : StoreOp → Reg → MemArg → Inst
store_instruction S.Store8 = I.Store8
store_instruction S.Store16 = I.Store16
store_instruction S.Store32 = I.Store32
store_instruction S.Store64 = I.Store64
store_instruction S.StoreRev16 = I.StoreRev16
store_instruction S.StoreRev32 = I.StoreRev32
store_instruction S.StoreRev64 = I.StoreRev64

-- by the store that an instruction is, or what else is said of it
abbrev pub by_store {ℓ} : {A : Type ℓ} → (Store → A) → (other : A) → Option Store → A
by_store f other None = other
by_store f other (Some s) = f s

-- its row in each table of stores: the stores stand there in the order of their declaration
abbrev pub store_place : StoreOp → ℕ
store_place op = tag_of the_store.the_type op
