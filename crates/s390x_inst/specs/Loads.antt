-- Loads of a general register: one view of their variants.
use Rattle.std.specs.Prelude.{ℕ, Option, Some, None}
use denote.Enum.Declared.{tag_of}
use Rattle.s390x_base.specs.declared.regs.Reg.{Reg}
use Rattle.s390x_inst.specs.declared.args.MemArg.{MemArg}
use Rattle.s390x_inst.specs.declared.inst.Inst.{Inst}
use Rattle.s390x_inst.specs.declared.inst.Inst.TheVariants as I
use Rattle.s390x_inst.specs.declared.load.Load.{Load}
use Rattle.s390x_inst.specs.declared.load.LoadOp.{LoadOp}
use Rattle.s390x_inst.specs.contracts.load.LoadOp as the_load
use Rattle.s390x_inst.specs.declared.load.LoadOp.TheVariants as L

-- the load that an instruction is
abbrev pub as_load : Inst → Option Load
as_load (I.Load32 rd mem) = Some (record { op = L.Load32; rd = rd; mem = mem })
as_load (I.Load32ZExt8 rd mem) = Some (record { op = L.Load32ZExt8; rd = rd; mem = mem })
as_load (I.Load32SExt8 rd mem) = Some (record { op = L.Load32SExt8; rd = rd; mem = mem })
as_load (I.Load32ZExt16 rd mem) = Some (record { op = L.Load32ZExt16; rd = rd; mem = mem })
as_load (I.Load32SExt16 rd mem) = Some (record { op = L.Load32SExt16; rd = rd; mem = mem })
as_load (I.Load64 rd mem) = Some (record { op = L.Load64; rd = rd; mem = mem })
as_load (I.Load64ZExt8 rd mem) = Some (record { op = L.Load64ZExt8; rd = rd; mem = mem })
as_load (I.Load64SExt8 rd mem) = Some (record { op = L.Load64SExt8; rd = rd; mem = mem })
as_load (I.Load64ZExt16 rd mem) = Some (record { op = L.Load64ZExt16; rd = rd; mem = mem })
as_load (I.Load64SExt16 rd mem) = Some (record { op = L.Load64SExt16; rd = rd; mem = mem })
as_load (I.Load64ZExt32 rd mem) = Some (record { op = L.Load64ZExt32; rd = rd; mem = mem })
as_load (I.Load64SExt32 rd mem) = Some (record { op = L.Load64SExt32; rd = rd; mem = mem })
as_load (I.LoadRev16 rd mem) = Some (record { op = L.LoadRev16; rd = rd; mem = mem })
as_load (I.LoadRev32 rd mem) = Some (record { op = L.LoadRev32; rd = rd; mem = mem })
as_load (I.LoadRev64 rd mem) = Some (record { op = L.LoadRev64; rd = rd; mem = mem })
as_load _ = None

-- the instruction that a load is
abbrev pub load_instruction : LoadOp → Reg → MemArg → Inst
load_instruction L.Load32 = I.Load32
load_instruction L.Load32ZExt8 = I.Load32ZExt8
load_instruction L.Load32SExt8 = I.Load32SExt8
load_instruction L.Load32ZExt16 = I.Load32ZExt16
load_instruction L.Load32SExt16 = I.Load32SExt16
load_instruction L.Load64 = I.Load64
load_instruction L.Load64ZExt8 = I.Load64ZExt8
load_instruction L.Load64SExt8 = I.Load64SExt8
load_instruction L.Load64ZExt16 = I.Load64ZExt16
load_instruction L.Load64SExt16 = I.Load64SExt16
load_instruction L.Load64ZExt32 = I.Load64ZExt32
load_instruction L.Load64SExt32 = I.Load64SExt32
load_instruction L.LoadRev16 = I.LoadRev16
load_instruction L.LoadRev32 = I.LoadRev32
load_instruction L.LoadRev64 = I.LoadRev64

-- by the load that an instruction is, or what else is said of it
abbrev pub by_load {ℓ} : {A : Type ℓ} → (Load → A) → (other : A) → Option Load → A
by_load f other None = other
by_load f other (Some l) = f l

-- its row in each table of loads: the loads stand there in the order of their declaration
abbrev pub load_place : LoadOp → ℕ
load_place op = tag_of the_load.the_type op
