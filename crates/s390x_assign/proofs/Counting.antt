-- Operands of a list are counted, and registers given to it, one item after the other.
use Rattle.std.proofs.Common.{◌≡◌, ℕ, ◌+◌, ◌<◌, ◌≤◌, List, [], ◌∷◌, ◌++◌, length, get_or, drop, sym, ap, ◌∙◌, arith, append_assoc, append-nil}
use Rattle.std.proofs.lemmas.List.{drop_all}
use Rattle.s390x_base.specs.declared.regs.Reg.{Reg}
use Rattle.s390x_operands.specs.declared.constraint.Reported.{Reported}
use Rattle.s390x_operands.specs.declared.constraint.Reported.TheVariants.{Operand}
use Rattle.s390x_operands.proofs.Looping.{cons_of}
use Rattle.s390x_assign.specs.Assignments.{operand_count, each_at}

count_first : (x : Reported) (xs : List Reported) → operand_count (x ∷ xs) ≡ operand_count (x ∷ []) + operand_count xs
count_first (Operand reg constraint kind pos) xs = omega arith
count_first x xs = omega arith

-- one more item is counted
pub count_turn : (xs : List Reported) (k : ℕ) (x : Reported) (n m t : ℕ) → k < length xs → x ≡ get_or xs k x → m ≡ operand_count (x ∷ []) → n + operand_count (drop k xs) ≡ t → (n + m) + operand_count (drop (k + 1) xs) ≡ t
count_turn xs k x n m t lt at is h =
    let a : operand_count (drop k xs) ≡ operand_count (x ∷ []) + operand_count (drop (k + 1) xs) = ap operand_count (cons_of xs k x lt at) ∙ count_first x (drop (k + 1) xs) in
    omega arith

-- all items are counted
pub count_done : (xs : List Reported) (k n t : ℕ) → length xs ≤ k → n + operand_count (drop k xs) ≡ t → n ≡ t
count_done xs k n t le h =
    let a : operand_count (drop k xs) ≡ 0 = ap operand_count (drop_all k xs le) in
    omega arith

-- one more item has its registers
pub given_turn : {T : Type 0} (f : T → List Reg → T × List Reg) (xs done after : List T) (k : ℕ) (x y : T) (s₀ s₁ : List Reg) (t : List T) → k < length xs → x ≡ get_or xs k x → y ≡ (f x s₀).0 → s₁ ≡ (f x s₀).1 → after ≡ done ++ y ∷ [] → done ++ (each_at f (drop k xs) s₀).0 ≡ t → after ++ (each_at f (drop (k + 1) xs) s₁).0 ≡ t
given_turn f xs done after k x y s₀ s₁ t lt at is left pushed h =
    let a : (each_at f (drop k xs) s₀).0 ≡ (f x s₀).0 ∷ (each_at f (drop (k + 1) xs) (f x s₀).1).0 = ap (λ ys. (each_at f ys s₀).0) (cons_of xs k x lt at) in
    ap (λ l. l ++ (each_at f (drop (k + 1) xs) s₁).0) pushed
    ∙ append_assoc done (y ∷ []) (each_at f (drop (k + 1) xs) s₁).0
    ∙ ap (λ z. done ++ z ∷ (each_at f (drop (k + 1) xs) s₁).0) is
    ∙ ap (λ s. done ++ (f x s₀).0 ∷ (each_at f (drop (k + 1) xs) s).0) left
    ∙ ap (λ l. done ++ l) (sym a)
    ∙ h

pub left_turn : {T : Type 0} (f : T → List Reg → T × List Reg) (xs : List T) (k : ℕ) (x : T) (s₀ s₁ t : List Reg) → k < length xs → x ≡ get_or xs k x → s₁ ≡ (f x s₀).1 → (each_at f (drop k xs) s₀).1 ≡ t → (each_at f (drop (k + 1) xs) s₁).1 ≡ t
left_turn f xs k x s₀ s₁ t lt at left h =
    ap (λ s. (each_at f (drop (k + 1) xs) s).1) left ∙ sym (ap (λ ys. (each_at f ys s₀).1) (cons_of xs k x lt at)) ∙ h

-- all items have their registers
pub given_done : {T : Type 0} (f : T → List Reg → T × List Reg) (xs done : List T) (k : ℕ) (s : List Reg) (t : List T) → length xs ≤ k → done ++ (each_at f (drop k xs) s).0 ≡ t → done ≡ t
given_done f xs done k s t le h = sym (append-nil done) ∙ sym (ap (λ ys. done ++ (each_at f ys s).0) (drop_all k xs le)) ∙ h

pub left_done : {T : Type 0} (f : T → List Reg → T × List Reg) (xs : List T) (k : ℕ) (s t : List Reg) → length xs ≤ k → (each_at f (drop k xs) s).1 ≡ t → s ≡ t
left_done f xs k s t le h = sym (ap (λ ys. (each_at f ys s).1) (drop_all k xs le)) ∙ h
