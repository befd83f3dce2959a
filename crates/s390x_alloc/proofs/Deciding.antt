-- What is answered where a step is refused.
use Rattle.std.proofs.Common.{◌≡◌, false, List, length, count_by, Option, Some, Result, Ok, Err, ◌⊎◌, inl, inr, sym, ap, subst}
use Rattle.std.specs.Prelude.{nat_eq, IsErrAnd, MatchResult}
use Rattle.s390x_base.specs.declared.regs.Reg.{Reg}
use Rattle.s390x_inst.specs.declared.inst.Inst.{Inst}
use Rattle.s390x_operands.specs.Operands.{operands, operands_cause}
use Rattle.s390x_alloc.specs.declared.fault.EditCause.{EditCause}
use Rattle.s390x_alloc.specs.declared.fault.EditCause.TheVariants.{NoMemory as NoRoom}
use Rattle.s390x_alloc.specs.declared.plan.EntryPair.{EntryPair}
use Rattle.s390x_alloc.specs.Assigned.{given_operands, is_operand}
use Rattle.s390x_alloc.specs.Contents.{contents_after_step}
use Rattle.s390x_alloc.specs.Steps.{IsCause, after_step, cause_or, count_cause, operands_fault, step_cause, unless_cause, unreported_cause}

-- a refusal is handed on
pub again : {T E : Type 0} (P : T → Type 0) (Q : E → Type 0) (r : Result T E) (e : E) → IsErrAnd r (λ y. y ≡ e) → Q e → MatchResult r P Q
again P Q (Ok x) e a q = absurd a
again P Q (Err y) e a q = subst Q (sym a) q

-- the cause of a step whose operands aren't reported
module _ (i : Inst) (regs : List Reg) (held : List EntryPair) where
  refused : (c : EditCause) → step_cause i regs held ≡ Some c → IsCause (after_step i regs held) c
  refused c e = inr (ap (λ o. unless_cause o (contents_after_step (operands i) (given_operands (operands i) regs) held)) e)

  first : (o later : Option EditCause) (c : EditCause) → o ≡ Some c → cause_or o later ≡ Some c
  first o later c e = ap (λ x. cause_or x later) e

  pub step_unreported : (c : EditCause) → (c ≡ NoRoom) ⊎ (unreported_cause (operands_cause false i) ≡ Some c) → IsCause (after_step i regs held) c
  step_unreported c (inl none) = inl none
  step_unreported c (inr e) =
      refused c (first (unreported_cause (operands_cause false i)) (cause_or (count_cause (nat_eq (count_by is_operand (operands i)) (length regs))) (operands_fault regs (given_operands (operands i) regs) held)) c e)
