-- Where a plan's registers do for an instruction, they meet what it reports.
use Rattle.std.proofs.Common.{◌≡◌, ℕ, suc, ◌+◌, Bool, true, false, List, [], ◌∷◌, ◌++◌, length, Option, Some, None, slice_get, refl, sym, ap, subst, ◌∙◌, append_assoc, arith, count_by, add-zero}
use Rattle.std.specs.Prelude.{nat_eq, not, ◌&&◌, filter}
use Rattle.std.proofs.lemmas.Bool.{and_parts, eqb-true, false≢true}
use Rattle.std.proofs.lemmas.List.{length_push}
use Rattle.std.proofs.lemmas.List.Sums.{length-filter}
use Rattle.s390x_base.specs.declared.regs.Reg.{Reg}
use Rattle.s390x_base.specs.declared.regs.Reg.TheVariants.{Real, Virtual}
use Rattle.s390x_inst.specs.declared.inst.Inst.{Inst}
use Rattle.s390x_operands.specs.Meets.{Meets, MeetsEach, SuitsConstraint, SuitsOperand}
use Rattle.s390x_operands.specs.Operands.{operands, operands_cause}
use Rattle.s390x_operands.specs.declared.constraint.OperandConstraint.{OperandConstraint}
use Rattle.s390x_operands.specs.declared.constraint.OperandConstraint.TheVariants.{Any, Reuse, FixedReg, Reg as InRegister}
use Rattle.s390x_operands.specs.declared.constraint.Reported.{Reported}
use Rattle.s390x_operands.specs.declared.constraint.Reported.TheVariants.{Operand, Fixed, Clobbers}
use Rattle.s390x_alloc.specs.declared.fault.EditCause.{EditCause}
use Rattle.s390x_alloc.specs.declared.plan.EntryPair.{EntryPair}
use Rattle.s390x_alloc.specs.Assigned.{given_behind, given_operand, given_operands, is_operand}
use Rattle.s390x_alloc.specs.Same.{is_reserved, same_class}
use Rattle.s390x_alloc.specs.Steps.{cause_or, first_unheld, first_unsuited, is_given, count_cause, operands_fault, step_cause, suits_constraint, suits_operand, unheld, unreported_cause, constraint_cause}
use Rattle.s390x_alloc.proofs.Sameness.{class-same, register-same, passed_first}

operand-suits : (r q : Reg) → suits_operand r q ≡ true → SuitsOperand r q
operand-suits (Real p) q h = register-same q (Real p) h
operand-suits (Virtual n c) (Real q) h = class-same q.class c (and_parts (same_class q.class c) (not (is_reserved q)) h).0
operand-suits (Virtual n c) (Virtual m d) h = absurd (false≢true h)

given-is : (o : Option Reg) (q : Reg) → is_given o q ≡ true → o ≡ Some q
given-is None q h = absurd (false≢true h)
given-is (Some r) q h = ap Some (register-same r q h)

constraint-suits : (c : OperandConstraint) (all : List Reg) (q : Reg) → suits_constraint c all q ≡ true → SuitsConstraint c all q
constraint-suits Any all q h = tt
constraint-suits InRegister all q h = tt
constraint-suits (FixedReg p) all q h = register-same q (Real p) h
constraint-suits (Reuse k) all q h = given-is (slice_get all k) q h

get_behind : (before : List Reg) (q : Reg) (s : List Reg) → slice_get (before ++ q ∷ s) (length before) ≡ Some q
get_behind [] q s = refl
get_behind (x ∷ before) q s = get_behind before q s

-- the operands among these items are given registers that suit them, one each in order
abbrev pub SuitsEach : (all : List Reg) → List Reported → List Reg → Type 0
SuitsEach all [] [] = Unit {0}
SuitsEach all [] (q ∷ s) = ⊥
SuitsEach all (Operand r c k p ∷ xs) [] = ⊥
SuitsEach all (Operand r c k p ∷ xs) (q ∷ s) = (suits_operand r q ≡ true) × ((suits_constraint c all q ≡ true) × SuitsEach all xs s)
SuitsEach all (Fixed p ∷ xs) s = SuitsEach all xs s
SuitsEach all (Clobbers c ∷ xs) s = SuitsEach all xs s

-- the same, where these registers stand behind those of the operands before
suits_each : (number : ℕ) (before s : List Reg) (xs : List Reported) → first_unsuited (before ++ s) number (given_behind (length before) xs (before ++ s)) ≡ None → length (filter is_operand xs) ≡ length s → SuitsEach (before ++ s) xs s
suits_each number before [] [] h n = tt
suits_each number before (q ∷ s) [] h n = absurd (omega (arith, n))
suits_each number before [] (Operand r c k p ∷ xs) h n = let more : suc (length (filter is_operand xs)) ≡ 0 = n in absurd (omega (arith, more))
suits_each number before (q ∷ s) (Operand r c k p ∷ xs) h n =
    let all = before ++ q ∷ s in
    let one = λ (o : Option Reg). given_operand (Operand r c k p) o in
    let told = subst (λ (o : Option Reg). first_unsuited all number (one o ++ given_behind (length before + length (one o)) xs all) ≡ None) (get_behind before q s) h in
    let u = passed_first (suits_operand r q && suits_constraint c all q) number (first_unsuited all (number + 1) (given_behind (length before + 1) xs all)) told in
    let a = and_parts (suits_operand r q) (suits_constraint c all q) u.0 in
    let whole = (before ++ q ∷ []) ++ s in
    let same : all ≡ whole = sym (append_assoc before (q ∷ []) s) in
    let behind = subst (λ (l : List Reg). first_unsuited l (number + 1) (given_behind (length before + 1) xs l) ≡ None) same u.1 in
    let next = subst (λ (m : ℕ). first_unsuited whole (number + 1) (given_behind m xs whole) ≡ None) (sym (length_push before q)) behind in
    let counted : suc (length (filter is_operand xs)) ≡ suc (length s) = n in
    let rest = suits_each (number + 1) (before ++ q ∷ []) s xs next (omega (arith, counted)) in
    (a.0, (a.1, subst (λ (l : List Reg). SuitsEach l xs s) (sym same) rest))
suits_each number before s (Fixed p ∷ xs) h n = suits_each number before s xs (subst (λ (m : ℕ). first_unsuited (before ++ s) number (given_behind m xs (before ++ s)) ≡ None) (add-zero (length before)) h) n
suits_each number before s (Clobbers c ∷ xs) h n = suits_each number before s xs (subst (λ (m : ℕ). first_unsuited (before ++ s) number (given_behind m xs (before ++ s)) ≡ None) (add-zero (length before)) h) n

meets_each : (all : List Reg) (xs : List Reported) (s : List Reg) → SuitsEach all xs s → MeetsEach all xs s
meets_each all [] [] h = tt
meets_each all [] (q ∷ s) h = absurd h
meets_each all (Operand r c k p ∷ xs) [] h = absurd h
meets_each all (Operand r c k p ∷ xs) (q ∷ s) h = (operand-suits r q h.0, (constraint-suits c all q h.1.0, meets_each all xs s h.1.1))
meets_each all (Fixed p ∷ xs) s h = meets_each all xs s h
meets_each all (Clobbers c ∷ xs) s h = meets_each all xs s h

both_none : (a b : Option EditCause) → cause_or a b ≡ None → (a ≡ None) × (b ≡ None)
both_none None b h = (refl, h)
both_none (Some c) b h = absurd cc

none_miscounted : (b : Bool) → count_cause b ≡ None → b ≡ true
none_miscounted true h = refl
none_miscounted false h = absurd cc

pub none_unsuited : (o : Option ℕ) → constraint_cause o ≡ None → o ≡ None
none_unsuited None h = refl
none_unsuited (Some n) h = absurd cc

pub registers_suit : (i : Inst) (regs : List Reg) (held : List EntryPair) → step_cause i regs held ≡ None → SuitsEach regs (operands i) regs
registers_suit i regs held h =
    let xs = given_operands (operands i) regs in
    let a = both_none (unreported_cause (operands_cause false i)) _ h in
    let b = both_none (count_cause (nat_eq (count_by is_operand (operands i)) (length regs))) (operands_fault regs xs held) a.1 in
    let c = both_none (constraint_cause (first_unsuited regs 0 xs)) (unheld (first_unheld held 0 xs)) b.1 in
    suits_each 0 [] regs (operands i) (none_unsuited _ c.0) (length-filter is_operand (operands i) ∙ eqb-true (count_by is_operand (operands i)) (length regs) (none_miscounted _ b.0))

pub registers_meet : (i : Inst) (regs : List Reg) (held : List EntryPair) → step_cause i regs held ≡ None → Meets (operands i) regs
registers_meet i regs held h = meets_each regs (operands i) regs (registers_suit i regs held h)
