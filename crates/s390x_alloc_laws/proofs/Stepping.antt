-- The registers of a step that has no cause of refusal are spared.
use Rattle.std.proofs.Common.{◌≡◌, ℕ, true, not, List, [], ◌∷◌, sym, ap, ◌∙◌}
use Rattle.std.proofs.lemmas.Bool.{and_parts, false≢true}
use Rattle.s390x_base.specs.Registers.{RealRegister, general}
use Rattle.s390x_base.specs.declared.regs.Reg.{Reg}
use Rattle.s390x_base.specs.declared.regs.Reg.TheVariants.{Real, Virtual}
use Rattle.s390x_base.specs.declared.regs.RegClass.{RegClass}
use Rattle.s390x_operands.specs.Operands.{operands}
use Rattle.s390x_operands.specs.declared.constraint.Reported.{Reported}
use Rattle.s390x_operands.specs.declared.constraint.Reported.TheVariants.{Operand, Fixed, Clobbers}
use Rattle.s390x_alloc.specs.Same.{is_reserved, same_class}
use Rattle.s390x_alloc.specs.Steps.{suits_operand}
use Rattle.s390x_alloc.proofs.Meeting.{SuitsEach, registers_meet, registers_suit}
use Rattle.s390x_alloc_laws.specs.Allocatable.{IsOrdinary, Spares}
use Rattle.s390x_alloc_laws.proofs.Laws.{assignments_suffice}
use Rattle.s390x_alloc_laws.specs.Unblamed.{AllExist, Exists, StepsAreNotBlamed}

ordinary : (n : ℕ) (c : RegClass) (q : Reg) → suits_operand (Virtual n c) q ≡ true → Exists q → IsOrdinary q
ordinary n c (Virtual m d) h e = absurd (false≢true h)
ordinary n c (Real p) h e =
    let free = (and_parts (same_class p.class c) (not (is_reserved p)) h).1 in
    let apart = λ (r : RealRegister) (k : p ≡ r). ap (λ (x : RealRegister). not (is_reserved x)) (sym k) ∙ free in
    (e, (λ k. absurd (false≢true (apart (general 0) k))), (λ k. absurd (false≢true (apart (general 1) k))), (λ k. absurd (false≢true (apart (general 15) k))))

spares : (all : List Reg) (xs : List Reported) (s : List Reg) → SuitsEach all xs s → AllExist s → Spares xs s
spares all [] s h e = tt
spares all (Operand r c k p ∷ xs) [] h e = absurd h
spares all (Operand (Virtual n d) c k p ∷ xs) (q ∷ s) h e = (ordinary n d q h.0 e.0, spares all xs s h.1.1 e.1)
spares all (Operand (Real m) c k p ∷ xs) (q ∷ s) h e = spares all xs s h.1.1 e.1
spares all (Fixed p ∷ xs) s h e = spares all xs s h e
spares all (Clobbers p ∷ xs) s h e = spares all xs s h e

pub steps_clear : StepsAreNotBlamed
steps_clear P i j regs held a e h is = assignments_suffice P i a regs j (registers_meet i regs held h) (spares regs (operands i) regs (registers_suit i regs held h) e) is
