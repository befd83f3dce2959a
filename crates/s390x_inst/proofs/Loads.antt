-- A load is read from its instruction, and the load that is read is the instruction.
use Rattle.std.proofs.Common.{◌≡◌, Option, Some, None, refl, sym, ap, ◌∙◌, subst}
use Rattle.s390x_base.specs.declared.regs.Reg.{Reg}
use Rattle.s390x_inst.specs.declared.args.MemArg.{MemArg}
use Rattle.s390x_inst.specs.declared.inst.Inst.{Inst}
use Rattle.s390x_inst.specs.declared.inst.Inst.TheVariants.{Fence}
use Rattle.s390x_inst.specs.declared.load.Load.{Load}
use Rattle.s390x_inst.specs.declared.load.LoadOp.{LoadOp}
use Rattle.s390x_inst.specs.Loads.{as_load, load_instruction, by_load}

-- the last clause is a copy for each other instruction
written_or_self : (i : Inst) → by_load (λ l. load_instruction l.op l.rd l.mem) i (as_load i) ≡ i
written_or_self Fence = refl
written_or_self i = refl

pub load_is_written : (i : Inst) (l : Load) → as_load i ≡ Some l → i ≡ load_instruction l.op l.rd l.mem
load_is_written i l e = sym (written_or_self i) ∙ ap (by_load (λ k. load_instruction k.op k.rd k.mem) i) e

-- what holds of each load and of each other instruction holds of all
pub each_instruction : (P : Inst → Type 0) → ((op : LoadOp) (rd : Reg) (mem : MemArg) → P (load_instruction op rd mem)) → ((i : Inst) → as_load i ≡ None → P i) → (i : Inst) → P i
each_instruction P load other i = go (as_load i) refl
  where
    go : (o : Option Load) → as_load i ≡ o → P i
    go None e = other i e
    go (Some l) e = subst P (sym (load_is_written i l e)) (load l.op l.rd l.mem)
