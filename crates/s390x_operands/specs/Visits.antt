-- What a visitor is told, and why a call of it is refused (cranelift-codegen, `machinst/reg.rs`).
use Rattle.std.specs.Prelude.{◌≡◌, Bool, true, false, ◌&&◌, cond, List, [], ◌∷◌, ◌++◌, Option, Some, None, Result, Ok, Err, ◌⊎◌}
use Rattle.s390x_base.specs.declared.regs.Reg.{Reg}
use Rattle.s390x_base.specs.declared.regs.Reg.TheVariants.{Real, Virtual}
use Rattle.s390x_operands.specs.declared.constraint.OperandConstraint.{OperandConstraint}
use Rattle.s390x_operands.specs.declared.constraint.OperandConstraint.TheVariants.{Reuse}
use Rattle.s390x_operands.specs.declared.constraint.OperandKind.{OperandKind}
use Rattle.s390x_operands.specs.declared.constraint.OperandPos.{OperandPos}
use Rattle.s390x_operands.specs.declared.constraint.OperandError.{OperandError}
use Rattle.s390x_operands.specs.declared.constraint.OperandError.TheVariants.{ReuseInLoop, NoMemory}
use Rattle.s390x_operands.specs.declared.constraint.Reported.{Reported}
use Rattle.s390x_operands.specs.declared.constraint.Reported.TheVariants.{Operand, Fixed}

-- the item of a register: a real one is fixed, a virtual one has the constraint
abbrev pub placed_or : OperandConstraint → OperandKind → OperandPos → Reg → Reported
placed_or constraint kind pos (Real p) = Fixed p
placed_or constraint kind pos (Virtual n c) = Operand (Virtual n c) constraint kind pos

-- the constraint is a reuse of another operand
abbrev pub is_reuse_constraint : OperandConstraint → Bool
is_reuse_constraint (Reuse k) = true
is_reuse_constraint _ = false

-- the item is an operand that reuses another one
abbrev pub is_reuse : Reported → Bool
is_reuse (Operand reg constraint kind pos) = is_reuse_constraint constraint
is_reuse _ = false

-- the cause by which a visitor refuses an item, want of memory aside: it denies a reuse
abbrev pub item_cause : (denies : Bool) → Reported → Option OperandError
item_cause denies x = cond (denies && is_reuse x) (Some ReuseInLoop) None

-- an answer is want of memory, or by this cause
abbrev pub IsVisitAnswer : Option OperandError → Result (Unit {0}) OperandError → Type 0
IsVisitAnswer cause (Ok _) = cause ≡ None
IsVisitAnswer cause (Err e) = (e ≡ NoMemory) ⊎ (cause ≡ Some e)

-- success appends the item, a refusal nothing
abbrev pub Appends : Reported → (before after : List Reported) → Result (Unit {0}) OperandError → Type 0
Appends x before after (Ok _) = after ≡ before ++ x ∷ []
Appends x before after (Err e) = after ≡ before

-- one call of a visitor
abbrev pub Takes : (denies : Bool) → Reported → (before after : List Reported) → Result (Unit {0}) OperandError → Type 0
Takes denies x before after r = Appends x before after r × IsVisitAnswer (item_cause denies x) r
