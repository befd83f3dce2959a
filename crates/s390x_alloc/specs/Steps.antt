-- Why a plan's registers don't do for an instruction.
use Rattle.std.specs.Prelude.{◌≡◌, ℕ, ◌+◌, Bool, true, false, ◌&&◌, not, nat_eq, cond, List, [], ◌∷◌, length, count_by, Option, Some, None, Result, Ok, Err, slice_get, ◌⊎◌}
use Rattle.s390x_base.specs.declared.regs.Reg.{Reg}
use Rattle.s390x_base.specs.declared.regs.Reg.TheVariants.{Real, Virtual}
use Rattle.s390x_inst.specs.declared.inst.Inst.{Inst}
use Rattle.s390x_operands.specs.Operands.{operands, operands_cause}
use Rattle.s390x_operands.specs.declared.constraint.OperandConstraint.{OperandConstraint}
use Rattle.s390x_operands.specs.declared.constraint.OperandConstraint.TheVariants.{Any, Reuse, FixedReg, Reg as InRegister}
use Rattle.s390x_operands.specs.declared.constraint.OperandError.{OperandError}
use Rattle.s390x_operands.specs.declared.constraint.OperandKind.{OperandKind}
use Rattle.s390x_operands.specs.declared.constraint.OperandKind.TheVariants.{Def, Use}
use Rattle.s390x_alloc.specs.declared.fault.EditCause.{EditCause}
use Rattle.s390x_alloc.specs.declared.fault.EditCause.TheVariants.{Unreported, Miscounted, Unsuited, Unheld, NoMemory}
use Rattle.s390x_alloc.specs.declared.assigned.GivenOperand.{GivenOperand}
use Rattle.s390x_alloc.specs.declared.plan.EntryPair.{EntryPair}
use Rattle.s390x_alloc.specs.declared.plan.Place.TheVariants.{Reg as InReg}
use Rattle.s390x_alloc.specs.Assigned.{given_operands, is_operand}
use Rattle.s390x_alloc.specs.Contents.{holds, contents_after_step}
use Rattle.s390x_alloc.specs.Same.{is_reserved, same_class, same_register}

-- ---- constraints

-- an operand that is real already keeps itself, a virtual one gets a real register of its class that isn't reserved
abbrev pub suits_operand : (operand given : Reg) → Bool
suits_operand (Real p) q = same_register q (Real p)
suits_operand (Virtual n c) (Real q) = same_class q.class c && not (is_reserved q)
suits_operand (Virtual n c) (Virtual m d) = false

-- the register is the one at some place of a list
abbrev pub is_given : Option Reg → (given : Reg) → Bool
is_given None q = false
is_given (Some r) q = same_register r q

-- a fixed register is given itself, and a reuse what is given the operand with its index, of which there has to be one
abbrev pub suits_constraint : OperandConstraint → (all : List Reg) → (given : Reg) → Bool
suits_constraint Any all q = true
suits_constraint InRegister all q = true
suits_constraint (FixedReg p) all q = same_register q (Real p)
suits_constraint (Reuse k) all q = is_given (slice_get all k) q

-- the first operand that its register doesn't suit, where the first of these has this number, and all operands are given those of a whole list
abbrev pub first_unsuited : (all : List Reg) → (number : ℕ) → List GivenOperand → Option ℕ
first_unsuited all number [] = None
first_unsuited all number (x ∷ xs) = cond (suits_operand x.reg x.given && suits_constraint x.constraint all x.given) (first_unsuited all (number + 1) xs) (Some number)

-- ---- values

-- a virtual register that is read stands in its place
abbrev pub is_held : OperandKind → Reg → (given : Reg) → List EntryPair → Bool
is_held Def r q held = true
is_held Use (Real p) q held = true
is_held Use (Virtual n c) (Real q) held = holds held (record { place = InReg q; vreg = Virtual n c })
is_held Use (Virtual n c) (Virtual m d) held = false

-- the first operand that reads a register which its place doesn't hold, where the first of these has this number
abbrev pub first_unheld : List EntryPair → (number : ℕ) → List GivenOperand → Option ℕ
first_unheld held number [] = None
first_unheld held number (x ∷ xs) = cond (is_held x.kind x.reg x.given held) (first_unheld held (number + 1) xs) (Some number)

-- ---- an instruction

-- this cause, where there is one, or else a later one
abbrev pub cause_or : Option EditCause → Option EditCause → Option EditCause
cause_or None later = later
cause_or (Some c) later = Some c

abbrev pub unreported_cause : Option OperandError → Option EditCause
unreported_cause None = None
unreported_cause (Some e) = Some (Unreported e)

-- there are as many registers as operands, or not
abbrev pub count_cause : Bool → Option EditCause
count_cause true = None
count_cause false = Some Miscounted

abbrev pub constraint_cause : Option ℕ → Option EditCause
constraint_cause None = None
constraint_cause (Some number) = Some (Unsuited number)

abbrev pub unheld : Option ℕ → Option EditCause
unheld None = None
unheld (Some number) = Some (Unheld number)

-- why the operands and their registers don't do: one isn't suited, or else one isn't held
abbrev pub operands_fault : (all : List Reg) → List GivenOperand → List EntryPair → Option EditCause
operands_fault all xs held = cause_or (constraint_cause (first_unsuited all 0 xs)) (unheld (first_unheld held 0 xs))

-- why an instruction can't be given these registers: it doesn't report its operands, they are more or fewer, one isn't suited, or one reads what isn't held
abbrev pub step_cause : Inst → List Reg → List EntryPair → Option EditCause
step_cause i regs held =
    cause_or (unreported_cause (operands_cause false i)) (cause_or (count_cause (nat_eq (count_by is_operand (operands i)) (length regs))) (operands_fault regs (given_operands (operands i) regs) held))

-- what is held, unless there is a cause
abbrev pub unless_cause : Option EditCause → List EntryPair → Result (List EntryPair) EditCause
unless_cause None held = Ok held
unless_cause (Some c) held = Err c

-- the cause by which an instruction is refused, or what is held behind it
abbrev pub after_step : Inst → List Reg → List EntryPair → Result (List EntryPair) EditCause
after_step i regs held = unless_cause (step_cause i regs held) (contents_after_step (operands i) (given_operands (operands i) regs) held)

-- the cause is the one that was found; want of memory is free
abbrev pub IsCause : Result (List EntryPair) EditCause → EditCause → Type 0
IsCause r c = (c ≡ NoMemory) ⊎ (r ≡ Err c)
