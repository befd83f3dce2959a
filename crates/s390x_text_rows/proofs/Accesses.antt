-- Loads and stores, whose operand is read where it stands.
use Rattle.std.proofs.Common.{◌≡◌, ℕ, List, [], ◌∷◌, Bool, Some, None, Result, refl, subst, ◌∙◌}
use Rattle.s390x_base.specs.declared.regs.Reg.{Reg}
use Rattle.s390x_inst.specs.Emission.{Emission}
use Rattle.s390x_inst.specs.Loads.{as_load, by_load}
use Rattle.s390x_inst.specs.Stores.{as_store, by_store}
use Rattle.s390x_inst.specs.declared.args.MemArg.{MemArg}
use Rattle.s390x_inst.specs.declared.inst.Inst.{Inst}
use Rattle.s390x_inst.specs.declared.load.Load.{Load}
use Rattle.s390x_inst.specs.declared.store.Store.{Store}
use Rattle.s390x_job_fields.specs.Atoms.{reg_text}
use Rattle.s390x_typed_steps.specs.Memory.{load_rows, store_rows}
use Rattle.s390x_typed_steps.specs.declared.access_rows.RegisterRows.{RegisterRows}
use Rattle.s390x_text_rows.specs.Storage.{rx_of, access_where, load_mnemonics, load_operand, load_text, store_mnemonics, store_operand, immediate_store_text, store_text}
use Rattle.s390x_text_rows.specs.Texts.{Prints, PrintsWhere}
use Rattle.s390x_text_rows.specs.declared.error.TextError.{TextError}

at_rows : (P : RegisterRows → Reg → Type 0) {r s : RegisterRows} {x y : Reg} → r ≡ s → x ≡ y → P r x → P s y
at_rows P {r} {s} {x} {y} h k p = subst (λ z. P s z) k (subst (λ t. P t x) h p)

-- the operand, where it stands
load_has : (i : Inst) (l : Load) → Some l ≡ as_load i → load_operand i ≡ Some l.mem
load_has i l is = subst (λ o. by_load (λ x. Some x.mem) None o ≡ Some l.mem) is refl

store_has : (i : Inst) (s : Store) → Some s ≡ as_store i → store_operand i ≡ Some s.mem
store_has i s is = subst (λ o. by_store (λ x. Some x.mem) None o ≡ Some s.mem) is refl

one_of : {A : Type 0} (a b : A) → Some a ≡ Some b → a ≡ b
one_of a b h = (cc)

pub load_prints : {T : Type 0} (result : Result T TextError) (old new : List ℕ) (has : Bool) (e : Emission) (i : Inst) (l : Load) (reg : Reg) (rows : RegisterRows) (m : MemArg) → Some l ≡ as_load i → reg ≡ l.rd → rows ≡ load_rows l.op → Some m ≡ load_operand i
    → Prints result old new (access_where has (rx_of rows) e (reg_text reg ∷ []) m []) → PrintsWhere (Some result) old new (load_text has e i)
load_prints result old new has e i l reg rows m is same row there p =
    subst (λ o. PrintsWhere (Some result) old new (by_load (λ x. Some (access_where has (load_mnemonics x.op) e (reg_text x.rd ∷ []) x.mem [])) None o)) is
    (at_rows (λ r x. Prints result old new (access_where has (rx_of r) e (reg_text x ∷ []) l.mem [])) row same
    (subst (λ o. Prints result old new (access_where has (rx_of rows) e (reg_text reg ∷ []) o [])) (one_of m l.mem (there ∙ load_has i l is)) p))

pub store_prints : {T : Type 0} (result : Result T TextError) (old new : List ℕ) (has : Bool) (e : Emission) (i : Inst) (s : Store) (rows : RegisterRows) (m : MemArg) → Some s ≡ as_store i → rows ≡ store_rows s.op → Some m ≡ store_operand i
    → Prints result old new (access_where has (rx_of rows) e (reg_text s.rd ∷ []) m []) → PrintsWhere (Some result) old new (store_text has e i)
store_prints result old new has e i s rows m is row there p =
    subst (λ o. PrintsWhere (Some result) old new (by_store (λ x. Some (access_where has (store_mnemonics x.op) e (reg_text x.rd ∷ []) x.mem [])) (immediate_store_text has e i) o)) is
    (subst (λ r. Prints result old new (access_where has (rx_of r) e (reg_text s.rd ∷ []) s.mem [])) row
    (subst (λ o. Prints result old new (access_where has (rx_of rows) e (reg_text s.rd ∷ []) o [])) (one_of m s.mem (there ∙ store_has i s is)) p))

-- a load has an operand, and a store
pub no_load : {A : Type 0} (i : Inst) (l : Load) → Some l ≡ as_load i → None ≡ load_operand i → A
no_load i l is none = let h : None ≡ Some l.mem = none ∙ load_has i l is in absurd (cc)

pub no_store : {A : Type 0} (i : Inst) (s : Store) → Some s ≡ as_store i → None ≡ store_operand i → A
no_store i s is none = let h : None ≡ Some s.mem = none ∙ store_has i s is in absurd (cc)
