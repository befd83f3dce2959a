-- What was drawn so far, and what is drawn behind it.
use Rattle.std.proofs.Common.{◌≡◌, ℕ, zero, suc, ◌+◌, ◌-◌, ◌/◌, ◌%◌, ◌<◌, List, [], ◌∷◌, ◌++◌, length, sym, ap, ◌∙◌, refl, arith, append_assoc}
use Rattle.std.proofs.lemmas.Nat.{mod_below}
use Rattle.s390x_schedule.specs.Schedule.{NameMachines}
use Rattle.s390x_smp.specs.Drawn.{addends_to, drawn_numbers, next_number}

-- one more number of a schedule
pub drawn_more : (n steps i x y : ℕ) (ps pushed all : List ℕ) → i < steps → y ≡ next_number x → pushed ≡ ps ++ (y / 65536 % n) ∷ [] → ps ++ drawn_numbers n (steps - i) x ≡ all → pushed ++ drawn_numbers n (steps - (i + 1)) y ≡ all
drawn_more n steps i x y ps pushed all lt next push h =
    let rest = drawn_numbers n (steps - (i + 1)) in
    let left : steps - i ≡ suc (steps - (i + 1)) = omega (arith, lt) in
    ap (λ l. l ++ rest y) push
    ∙ append_assoc ps ((y / 65536 % n) ∷ []) (rest y)
    ∙ ap (λ z. ps ++ ((z / 65536 % n) ∷ rest z)) next
    ∙ ap (λ m. ps ++ drawn_numbers n m x) (sym left)
    ∙ h

-- one more addend
pub addend_more : (count i : ℕ) (xs pushed all : List ℕ) → i < count → pushed ≡ xs ++ (i + 1) ∷ [] → xs ++ addends_to i (count - i) ≡ all → pushed ++ addends_to (i + 1) (count - (i + 1)) ≡ all
addend_more count i xs pushed all lt push h =
    let left : count - i ≡ suc (count - (i + 1)) = omega (arith, lt) in
    ap (λ l. l ++ addends_to (i + 1) (count - (i + 1))) push
    ∙ append_assoc xs ((i + 1) ∷ []) (addends_to (i + 1) (count - (i + 1)))
    ∙ ap (λ m. xs ++ addends_to i m) (sym left)
    ∙ h

-- what is drawn names processors
pub drawn_named : (n steps x : ℕ) → 0 < n → NameMachines n (drawn_numbers n steps x)
drawn_named n zero x some = tt
drawn_named n (suc steps) x some = (mod_below (next_number x / 65536) n some, drawn_named n steps (next_number x) some)

pub addends_count : (k count : ℕ) → length (addends_to k count) ≡ count
addends_count k zero = refl
addends_count k (suc count) = ap suc (addends_count (k + 1) count)
