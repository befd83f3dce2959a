-- The traps of steps that are counted from another place.
use Rattle.std.proofs.Common.{◌≡◌, ℕ, suc, ◌+◌, ◌-◌, ◌<◌, ◌≤◌, ◌==◌, [], ◌∷◌, ◌++◌, List, length, Some, cond, refl, sym, ap, ◌∙◌, arith, add_assoc, slice_get}
use Rattle.s390x_buffer.specs.declared.entries.TrapEntry.{TrapEntry}
use Rattle.s390x_typed_steps.specs.Image.{step_offset}
use Rattle.s390x_typed_steps.specs.Parts.{CodePart, Row, Trapping, Branch, Relative, RelativeConstant, RelativeSymbol, SymbolValue, TrapHere, TableWord, CallSymbol, SiteHere, part_size, step_parts}
use Rattle.s390x_typed_steps.specs.Steps.{Step, function_steps}
use Rattle.s390x_typed_steps.specs.Traps.{first_code, function_traps, part_traps, parts_traps, step_traps, traps_from}
use Rattle.s390x_typed_steps.specs.Tree.{Tree}
use Rattle.s390x_typed_steps.proofs.Traps.{step_codes}

-- entries so many bytes on
abbrev moved : ℕ → List TrapEntry → List TrapEntry
moved place [] = []
moved place (x ∷ xs) = record { offset = place + x.offset; code = x.code } ∷ moved place xs

moved_append : (place : ℕ) (xs ys : List TrapEntry) → moved place (xs ++ ys) ≡ moved place xs ++ moved place ys
moved_append place [] ys = refl
moved_append place (x ∷ xs) ys = ap (λ l. record { offset = place + x.offset; code = x.code } ∷ l) (moved_append place xs ys)

part_moved : (place p : ℕ) (part : CodePart) → part_traps (place + p) part ≡ moved place (part_traps p part)
part_moved place p (Trapping m byte code) = ap (λ (n : ℕ). record { offset = n; code = code } ∷ []) (add_assoc place p byte)
part_moved place p part = refl

parts_moved : (place p : ℕ) (parts : List CodePart) → parts_traps (place + p) parts ≡ moved place (parts_traps p parts)
parts_moved place p [] = refl
parts_moved place p (part ∷ parts) =
    ap (λ l. l ++ parts_traps (place + p + part_size part) parts) (part_moved place p part)
    ∙ ap (λ n. moved place (part_traps p part) ++ parts_traps n parts) (add_assoc place p (part_size part))
    ∙ ap (λ l. moved place (part_traps p part) ++ l) (parts_moved place (p + part_size part) parts)
    ∙ sym (moved_append place (part_traps p part) (parts_traps (p + part_size part) parts))

steps_moved : (place : ℕ) (at to : ℕ → ℕ) (k : ℕ) (ss : List Step) → ((j : ℕ) → j ≤ k + length ss → to j ≡ place + at j) → traps_from to k ss ≡ moved place (traps_from at k ss)
steps_moved place at to k [] same = refl
steps_moved place at to k (s ∷ ss) same =
    ap (λ p. step_traps p s ++ traps_from to (k + 1) ss) (same k (omega arith))
    ∙ ap (λ l. l ++ traps_from to (k + 1) ss) (parts_moved place (at k) (step_parts s))
    ∙ ap (λ l. moved place (step_traps (at k) s) ++ l) (steps_moved place at to (k + 1) ss (λ j le. same j (omega arith)))
    ∙ sym (moved_append place (step_traps (at k) s) (traps_from at (k + 1) ss))

same_test : (place a b : ℕ) → (place + a == place + b) ≡ (a == b)
same_test place a b = grind arith

first_moved : (place o : ℕ) (xs : List TrapEntry) → first_code (moved place xs) (place + o) ≡ first_code xs o
first_moved place o [] = refl
first_moved place o (x ∷ xs) =
    ap (λ t. cond t (Some x.code) (first_code (moved place xs) (place + o))) (same_test place x.offset o) ∙ ap (λ rest. cond (x.offset == o) (Some x.code) rest) (first_moved place o xs)

-- inside the bytes of step k the table has the traps of that step and no others
pub codes_moved : (place : ℕ) (ts : List Tree) (to : ℕ → ℕ) → ((j : ℕ) → j ≤ length (function_steps ts) → to j ≡ place + step_offset (function_steps ts) j) → (k : ℕ) (s : Step) → slice_get (function_steps ts) k ≡ Some s → suc k ≤ length (function_steps ts) →
    (o : ℕ) → to k ≤ o → o < to (suc k) → first_code (traps_from to 0 (function_steps ts)) o ≡ first_code (step_traps (to k) s) o
codes_moved place ts to same k s at within o low high =
    let own = step_offset (function_steps ts) in
    let here = same k (omega (arith, within)) in
    let next = same (suc k) within in
    let back : place + (o - place) ≡ o = omega (arith, here, low) in
    ap (λ n. first_code (traps_from to 0 (function_steps ts)) n) (sym back)
    ∙ ap (λ xs. first_code xs (place + (o - place))) (steps_moved place own to 0 (function_steps ts) (λ j le. same j (omega (arith, le))))
    ∙ first_moved place (o - place) (function_traps ts)
    ∙ step_codes ts k s at (o - place) (omega (arith, here, low)) (omega (arith, here, next, low, high))
    ∙ sym (first_moved place (o - place) (step_traps (own k) s))
    ∙ ap (λ xs. first_code xs (place + (o - place))) (sym (parts_moved place (own k) (step_parts s)) ∙ ap (λ p. step_traps p s) (sym here))
    ∙ ap (λ n. first_code (step_traps (to k) s) n) back
