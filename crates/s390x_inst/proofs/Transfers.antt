-- A load or a store of a general register as one: where a proof goes by instructions, its last clause is a copy for each load and each store.
use Rattle.std.proofs.Common.{◌≡◌, true, is_some, Option, Some, None}
use Rattle.s390x_inst.specs.declared.inst.Inst.{Inst}
use Rattle.s390x_inst.specs.declared.load.Load.{Load}
use Rattle.s390x_inst.specs.declared.store.Store.{Store}
use Rattle.s390x_inst.specs.Loads.{as_load, load_instruction, by_load}
use Rattle.s390x_inst.specs.Stores.{as_store, store_instruction, by_store}

pub data Transfer : Type 0 where
  LoadOf : Load → Transfer
  StoreOf : Store → Transfer

abbrev pub as_transfer : Inst → Option Transfer
as_transfer i = by_load (λ l. Some (LoadOf l)) (by_store (λ s. Some (StoreOf s)) None (as_store i)) (as_load i)

abbrev pub transfer_instruction : Transfer → Inst
transfer_instruction (LoadOf l) = load_instruction l.op l.rd l.mem
transfer_instruction (StoreOf s) = store_instruction s.op s.rd s.mem

-- by the load or the store, or what else is said
abbrev pub by_transfer {ℓ} : {A : Type ℓ} → (Load → A) → (Store → A) → (other : A) → Option Transfer → A
by_transfer f g other None = other
by_transfer f g other (Some (LoadOf l)) = f l
by_transfer f g other (Some (StoreOf s)) = g s

-- in such a clause `the_transfer (as_transfer i) refl` is the load or the store that i is
abbrev pub the_transfer : (o : Option Transfer) → is_some o ≡ true → Transfer
the_transfer (Some t) is = t
the_transfer None is = absurd (cc)
