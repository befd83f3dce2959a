-- Sizes of elements, and the mnemonics that they choose.
use Rattle.std.proofs.Common.{◌≡◌, ◌⊎◌, inl, inr, ℕ, ◌*◌, ◌<◌, Bool, true, false, Some, None, List, refl, sym, ap, subst, is_some, arith}
use Rattle.std.proofs.lemmas.Bool.{eqb-true, lt-ltb}
use Rattle.std.specs.Prelude.{cond, nat_eq}
use Rattle.s390x_typed_steps.specs.VectorInstruction.{element_code}
use Rattle.s390x_text_rows.specs.Vector.{lane_name}

-- the size of an element in bits
abbrev pub IsSize : ℕ → Type 0
IsSize size = (size ≡ 8) ⊎ ((size ≡ 16) ⊎ ((size ≡ 32) ⊎ (size ≡ 64)))

by_size : (size : ℕ) (a b c d : Bool) → nat_eq size 8 ≡ a → nat_eq size 16 ≡ b → nat_eq size 32 ≡ c → nat_eq size 64 ≡ d
    → is_some {T = ℕ} (cond a (Some 0) (cond b (Some 1) (cond c (Some 2) (cond d (Some 3) None)))) ≡ true → IsSize size
by_size size true b c d p q r s h = inl (eqb-true size 8 p)
by_size size false true c d p q r s h = inr (inl (eqb-true size 16 q))
by_size size false false true d p q r s h = inr (inr (inl (eqb-true size 32 r)))
by_size size false false false true p q r s h = inr (inr (inr (eqb-true size 64 s)))
by_size size false false false false p q r s h = absurd (cc)

pub one_size : (size : ℕ) → is_some (element_code size) ≡ true → IsSize size
one_size size h = by_size size (nat_eq size 8) (nat_eq size 16) (nat_eq size 32) (nat_eq size 64) refl refl refl refl h

-- an element that lies in a vector has a mnemonic by its size
pub named_at : (b h f g : List ℕ) (size lane : ℕ) → IsSize size → lane * size < 128 → is_some (lane_name b h f g size lane) ≡ true
named_at b h f g size lane (inl e) lt =
    let below : lane * 8 < 128 = subst (λ s. lane * s < 128) e lt in
    subst (λ s. is_some (lane_name b h f g s lane) ≡ true) (sym e) (ap (λ t. is_some (cond t (Some b) None)) (lt-ltb lane 16 (omega (arith, below))))
named_at b h f g size lane (inr (inl e)) lt =
    let below : lane * 16 < 128 = subst (λ s. lane * s < 128) e lt in
    subst (λ s. is_some (lane_name b h f g s lane) ≡ true) (sym e) (ap (λ t. is_some (cond t (Some h) None)) (lt-ltb lane 8 (omega (arith, below))))
named_at b h f g size lane (inr (inr (inl e))) lt =
    let below : lane * 32 < 128 = subst (λ s. lane * s < 128) e lt in
    subst (λ s. is_some (lane_name b h f g s lane) ≡ true) (sym e) (ap (λ t. is_some (cond t (Some f) None)) (lt-ltb lane 4 (omega (arith, below))))
named_at b h f g size lane (inr (inr (inr e))) lt =
    let below : lane * 64 < 128 = subst (λ s. lane * s < 128) e lt in
    subst (λ s. is_some (lane_name b h f g s lane) ≡ true) (sym e) (ap (λ t. is_some (cond t (Some g) None)) (lt-ltb lane 2 (omega (arith, below))))
