-- The line of a load, of a store, and of a load or a store of a whole vector register.
use Rattle.std.proofs.Common.{◌≡◌, refl}
use Rattle.s390x_base.specs.declared.regs.Reg.{Reg}
use Rattle.s390x_inst.specs.declared.args.MemArg.{MemArg}
use Rattle.s390x_inst.specs.declared.load.LoadOp.{LoadOp}
use Rattle.s390x_inst.specs.declared.load.LoadOp.TheVariants as LoadOps
use Rattle.s390x_inst.specs.declared.store.StoreOp.{StoreOp}
use Rattle.s390x_inst.specs.declared.store.StoreOp.TheVariants as StoreOps
use Rattle.s390x_inst.specs.declared.whole.Direction.{Direction}
use Rattle.s390x_inst.specs.declared.whole.Direction.TheVariants.{Load, Store}
use Rattle.s390x_inst.specs.declared.whole.WholeLayout.{WholeLayout}
use Rattle.s390x_inst.specs.declared.whole.WholeLayout.TheVariants.{Straight}
use Rattle.s390x_inst.specs.Loads.{load_instruction}
use Rattle.s390x_inst.specs.Stores.{store_instruction}
use Rattle.s390x_inst.specs.Wholes.{whole_instruction}
use Rattle.s390x_job_lines.specs.Instructions.{access_line, inst_line, vector_line}
use Rattle.s390x_job_lines.specs.declared.name.LineName.TheVariants as N

-- a clause without the first load, store or layout is a copy for each other one
pub is_load_line : (op : LoadOp) (rd : Reg) (mem : MemArg) → inst_line (load_instruction op rd mem) ≡ access_line (N.Load op) rd mem
is_load_line LoadOps.Load64 rd mem = refl
is_load_line op rd mem = refl

pub is_store_line : (op : StoreOp) (rd : Reg) (mem : MemArg) → inst_line (store_instruction op rd mem) ≡ access_line (N.Store op) rd mem
is_store_line StoreOps.Store64 rd mem = refl
is_store_line op rd mem = refl

pub is_whole_line : (direction : Direction) (layout : WholeLayout) (rd : Reg) (mem : MemArg) → vector_line (whole_instruction direction layout rd mem) ≡ access_line (N.Whole direction layout) rd mem
is_whole_line Load Straight rd mem = refl
is_whole_line Load layout rd mem = refl
is_whole_line Store Straight rd mem = refl
is_whole_line Store layout rd mem = refl
