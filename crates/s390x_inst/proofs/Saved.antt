-- The saved float registers from a number on.
use Rattle.std.proofs.Common.{◌≡◌, ℕ, suc, ◌+◌, ◌-◌, ◌*◌, ◌<◌, ◌≤◌, Bool, true, false, cond, List, [], ◌∷◌, ◌++◌, arith, ap, ◌∙◌, sym, refl, append_assoc, append-nil}
use Rattle.std.specs.List.{filter, range_with_len}
use Rattle.s390x_inst.specs.declared.inst.Inst.{Inst}
use Rattle.s390x_inst.specs.Frames.{is_saved, saved_floats, float_load, float_loads}

-- those from `n` on
pub from : (set n : ℕ) → List ℕ
from set n = filter (is_saved set) (range_with_len n (16 - n))

pub from_first : (set : ℕ) → from set 0 ≡ saved_floats set
unfolding from saved_floats
from_first set = refl

pub from_last : (set : ℕ) → from set 16 ≡ []
unfolding from
from_last set = refl

from_next : (set n : ℕ) → n < 16 → from set n ≡ cond (is_saved set n) (n ∷ from set (n + 1)) (from set (n + 1))
unfolding from
from_next set n h =
    let e : 16 - n ≡ suc (16 - (n + 1)) = omega arith in
    ap (λ m. filter (is_saved set) (range_with_len n m)) e

-- with a register or without it, as its bit says
chosen : (b : Bool) (start k n : ℕ) (rest : List ℕ) (xs : List Inst) → (xs ++ cond b (float_load n (start + 8 * k) ∷ []) []) ++ float_loads start (cond b (k + 1) k) rest ≡ xs ++ float_loads start k (cond b (n ∷ rest) rest)
chosen true start k n rest xs = append_assoc xs (float_load n (start + 8 * k) ∷ []) (float_loads start (k + 1) rest)
chosen false start k n rest xs = append_assoc xs [] (float_loads start k rest)

-- one register on
pub step : (set start k n m : ℕ) (xs ys zs : List Inst) → n < 16 → m ≡ cond (is_saved set n) (k + 1) k → ys ≡ xs ++ cond (is_saved set n) (float_load n (start + 8 * k) ∷ []) [] → xs ++ float_loads start k (from set n) ≡ zs → ys ++ float_loads start m (from set (n + 1)) ≡ zs
step set start k n m xs ys zs h count items rest =
    ap (λ l. l ++ float_loads start m (from set (n + 1))) items
    ∙ ap (λ j. (xs ++ cond (is_saved set n) (float_load n (start + 8 * k) ∷ []) []) ++ float_loads start j (from set (n + 1))) count
    ∙ chosen (is_saved set n) start k n (from set (n + 1)) xs
    ∙ ap (λ l. xs ++ float_loads start k l) (sym (from_next set n h))
    ∙ rest

-- the count of loads is at most that of registers
pub counted : (b : Bool) (k n m : ℕ) → m ≡ cond b (k + 1) k → k ≤ n → m ≤ n + 1
counted true k n m e h = omega (arith, e, h)
counted false k n m e h = omega (arith, e, h)

-- no register is left
pub ended : (set start k n : ℕ) (xs zs : List Inst) → n ≤ 16 → 16 ≤ n → xs ++ float_loads start k (from set n) ≡ zs → xs ≡ zs
ended set start k n xs zs below above h =
    let e : n ≡ 16 = omega (arith, below, above) in
    sym (append-nil xs) ∙ ap (λ l. xs ++ float_loads start k l) (sym (ap (λ i. from set i) e ∙ from_last set)) ∙ h
