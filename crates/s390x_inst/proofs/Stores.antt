-- A store is read from its instruction, and the store that is read is the instruction.
use Rattle.std.proofs.Common.{◌≡◌, Option, Some, None, refl, sym, ap, ◌∙◌, subst}
use Rattle.s390x_base.specs.declared.regs.Reg.{Reg}
use Rattle.s390x_inst.specs.declared.args.MemArg.{MemArg}
use Rattle.s390x_inst.specs.declared.inst.Inst.{Inst}
use Rattle.s390x_inst.specs.declared.inst.Inst.TheVariants.{Fence}
use Rattle.s390x_inst.specs.declared.store.Store.{Store}
use Rattle.s390x_inst.specs.declared.store.StoreOp.{StoreOp}
use Rattle.s390x_inst.specs.Stores.{as_store, store_instruction, by_store}

-- the last clause is a copy for each other instruction
written_or_self : (i : Inst) → by_store (λ s. store_instruction s.op s.rd s.mem) i (as_store i) ≡ i
written_or_self Fence = refl
written_or_self i = refl

pub store_is_written : (i : Inst) (s : Store) → as_store i ≡ Some s → i ≡ store_instruction s.op s.rd s.mem
store_is_written i s e = sym (written_or_self i) ∙ ap (by_store (λ k. store_instruction k.op k.rd k.mem) i) e

-- what holds of each store and of each other instruction holds of all
pub each_store : (P : Inst → Type 0) → ((op : StoreOp) (rd : Reg) (mem : MemArg) → P (store_instruction op rd mem)) → ((i : Inst) → as_store i ≡ None → P i) → (i : Inst) → P i
each_store P store other i = go (as_store i) refl
  where
    go : (o : Option Store) → as_store i ≡ o → P i
    go None e = other i e
    go (Some s) e = subst P (sym (store_is_written i s e)) (store s.op s.rd s.mem)
