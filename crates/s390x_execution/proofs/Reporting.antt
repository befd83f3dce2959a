-- The text of an execution, part by part.
use Rattle.std.proofs.Common.{◌≡◌, ℕ, zero, suc, ◌+◌, ◌<◌, List, [], ◌∷◌, ◌++◌, ◌-◌, map, length, slice_index, refl, sym, ap, ap₂, ◌∙◌, arith, append_assoc, Bool}
use Rattle.s390x_operations.specs.State.{wrapping_add64, bytes_from}
use Rattle.s390x_machine.specs.State.{memory_of, registers_of, state_of}
use Rattle.s390x_machine.specs.declared.machine.Machine.{Machine}
use Rattle.s390x_job.proofs.Texts.{two_texts}
use Rattle.s390x_job.specs.Jobs.{lines_text, registers_lines}
use Rattle.s390x_job.specs.declared.job.MemLine.{MemLine}
use Rattle.s390x_job.specs.declared.job.StartRegs.{StartRegs}
use Rattle.s390x_execution.specs.Text.{content_lines, region_line, registers_held, values_between}

-- the values of a list from its first one on are its items
shifted : (x : ℕ) (xs : List ℕ) (i n : ℕ) → values_between (λ k. slice_index (x ∷ xs) k) (suc i) n ≡ values_between (λ k. slice_index xs k) i n
shifted x xs i zero = refl
shifted x xs i (suc n) = ap (λ l. slice_index xs i ∷ l) (shifted x xs (suc i) n)

items_from : (xs : List ℕ) → values_between (λ k. slice_index xs k) 0 (length xs) ≡ xs
items_from [] = refl
items_from (x ∷ xs) = ap (λ l. x ∷ l) (shifted x xs 0 (length xs) ∙ items_from xs)

pub values_are : (xs : List ℕ) (n : ℕ) → length xs ≡ n → values_between (λ k. slice_index xs k) 0 n ≡ xs
values_are xs n e = ap (λ k. values_between (λ i. slice_index xs i) 0 k) (sym e) ∙ items_from xs

-- four parts of a text, the first in an empty one
pub four_parts : (w x y z old a b c new : List ℕ) → old ≡ [] → a ≡ old ++ w → b ≡ a ++ x → c ≡ b ++ y → new ≡ c ++ z → new ≡ w ++ (x ++ (y ++ z))
four_parts w x y z old a b c new empty p q r s =
    s ∙ ap (λ t. t ++ z) (r ∙ ap (λ t. t ++ y) (q ∙ ap (λ t. t ++ x) (p ∙ ap (λ t. t ++ w) empty)))
    ∙ append_assoc (w ++ x) y z ∙ append_assoc w x (y ++ z)

-- one more byte
pub bytes_more : (f : ℕ → ℕ) (a i count v : ℕ) (old new whole : List ℕ) → i < count → new ≡ old ++ v ∷ [] → v ≡ f (wrapping_add64 a i)
    → old ++ bytes_from f a i (count - i) ≡ whole → new ++ bytes_from f a (i + 1) (count - (i + 1)) ≡ whole
bytes_more f a i count v old new whole lt pushed is h =
    let left : count - i ≡ suc (count - (i + 1)) = omega arith in
    let next : i + 1 ≡ suc i = omega arith in
    ap (λ l. l ++ bytes_from f a (i + 1) (count - (i + 1))) pushed
    ∙ append_assoc old (v ∷ []) (bytes_from f a (i + 1) (count - (i + 1)))
    ∙ ap₂ (λ x k. old ++ (x ∷ bytes_from f a k (count - (i + 1)))) is next
    ∙ ap (λ n. old ++ bytes_from f a i n) (sym left)
    ∙ h

abbrev started : List ℕ → List ℕ → StartRegs
started general vector = record { general = general; vector = vector }

-- the lines of the registers of a machine, and then others
pub held_registers : (m : Machine) (held : ℕ → Bool) (byte : ℕ → ℕ) (regions : List MemLine) (old mid new : List ℕ) → length m.regs ≡ 16 → length m.vregs ≡ 32
    → mid ≡ old ++ lines_text (registers_lines (record { general = m.regs; vector = m.vregs })) → new ≡ mid ++ lines_text (map (region_line (memory_of held byte)) regions)
    → new ≡ old ++ lines_text (content_lines regions (state_of m held byte))
held_registers m held byte regions old mid new general vector first second =
    let same = ap₂ started (sym (values_are m.regs 16 general)) (sym (values_are m.vregs 32 vector)) in
    two_texts (registers_lines (registers_held (registers_of m))) (map (region_line (memory_of held byte)) regions) old mid new
    (first ∙ ap (λ (r : StartRegs). old ++ lines_text (registers_lines r)) same) second
