-- A list of requests is what an instruction reports, in order; none stands where a register that has to be real is virtual.
use Rattle.std.specs.Prelude.{◌≡◌, ℕ, ◌+◌, ◌-◌, min, map, Bool, true, ◌||◌, List, [], ◌∷◌, ◌++◌, Option, Some, None, Result, MatchResult, ◌⊎◌}
use Rattle.s390x_operands.specs.declared.constraint.OperandError.{OperandError}
use Rattle.s390x_operands.specs.declared.constraint.OperandError.TheVariants.{NotReal, NoMemory}
use Rattle.s390x_operands.specs.declared.constraint.Reported.{Reported}
use Rattle.s390x_operands.specs.declared.constraint.Reported.TheVariants.{Operand, Fixed}
use Rattle.std.specs.List.{range_with_len}
use Rattle.s390x_base.specs.Registers.{general}
use Rattle.s390x_base.specs.declared.regs.Reg.{Reg}
use Rattle.s390x_base.specs.declared.regs.Reg.TheVariants.{Real}
use Rattle.s390x_inst.specs.declared.args.MemArg.{MemArg}
use Rattle.s390x_inst.specs.declared.args.MemArg.TheVariants.{BXD12, BXD20, RegOffset}
use Rattle.s390x_operands.specs.declared.constraint.OperandConstraint.TheVariants.{Reuse, FixedReg, Reg as InRegister}
use Rattle.s390x_operands.specs.declared.constraint.OperandKind.TheVariants.{Def, Use}
use Rattle.s390x_operands.specs.declared.constraint.OperandPos.TheVariants.{Early, Late}
use Rattle.s390x_operands.specs.Visits.{item_cause, placed_or}

-- what can be reported of the requests
abbrev pub items_of : List (Option Reported) → List Reported
items_of [] = []
items_of (None ∷ xs) = items_of xs
items_of (Some x ∷ xs) = x ∷ items_of xs

-- the first of two causes
abbrev pub first_operand_cause : Option OperandError → Option OperandError → Option OperandError
first_operand_cause None later = later
first_operand_cause (Some e) later = Some e

-- the first cause by which a request is refused, want of memory aside
abbrev pub cause_of : (denies : Bool) → List (Option Reported) → Option OperandError
cause_of denies [] = None
cause_of denies (None ∷ xs) = Some NotReal
cause_of denies (Some x ∷ xs) = first_operand_cause (item_cause denies x) (cause_of denies xs)

-- one list is another with a prefix of a third behind it
pub record AppendsPrefix (before after whole : List Reported) : Type 0 where
  pub prefix : List Reported
  pub rest : List Reported
  pub appended : after ≡ before ++ prefix
  pub parts : whole ≡ prefix ++ rest

-- a visitor took all requests; none had a cause of refusal
pub record Passes (denied : Bool) (xs : List (Option Reported)) (before after : List Reported) (denies denies' : Bool) : Type 0 where
  pub kept : denies' ≡ denies
  pub clear : cause_of (denied || denies) xs ≡ None
  pub appended : after ≡ before ++ items_of xs

-- a visitor took a prefix of the requests, and then refused one for want of memory, or by the first cause
pub record Refuses (denied : Bool) (xs : List (Option Reported)) (before after : List Reported) (denies denies' : Bool) (e : OperandError) : Type 0 where
  pub kept : denies' ≡ denies
  pub extended : AppendsPrefix before after (items_of xs)
  pub cause : (e ≡ NoMemory) ⊎ (cause_of (denied || denies) xs ≡ Some e)

-- requests to a visitor that may deny by itself; reuse is denied to it where `denied` is true, too
abbrev pub Reports : (denied : Bool) → List (Option Reported) → (before after : List Reported) → (denies denies' : Bool) → Result (Unit {0}) OperandError → Type 0
Reports denied xs before after denies denies' r = MatchResult r (λ _. Passes denied xs before after denies denies') (λ e. Refuses denied xs before after denies denies' e)

-- an input
abbrev pub reported_use : Reg → Option Reported
reported_use r = Some (placed_or InRegister Use Early r)

-- an output
abbrev pub reported_def : Reg → Option Reported
reported_def r = Some (placed_or InRegister Def Late r)

-- an output that has to be the operand with index 1
abbrev pub reported_reuse : Reg → Option Reported
reported_reuse r = Some (placed_or (Reuse 1) Def Late r)

-- the register that emission may overwrite
abbrev pub scratch_request : Option Reported
scratch_request = Some (Fixed (general 1))

-- an input in the general register of a number
abbrev pub fixed_use : Reg → ℕ → Option Reported
fixed_use r n = Some (Operand r (FixedReg (general n)) Use Early)

-- an output in the general register of a number
abbrev pub fixed_def : Reg → ℕ → Option Reported
fixed_def r n = Some (Operand r (FixedReg (general n)) Def Late)

-- the registers of a memory operand, and the one that an address may need
abbrev pub memory_requests : MemArg → List (Option Reported)
memory_requests (BXD12 base index disp flags) = reported_use base ∷ reported_use index ∷ scratch_request ∷ []
memory_requests (BXD20 base index disp flags) = reported_use base ∷ reported_use index ∷ scratch_request ∷ []
memory_requests (RegOffset reg off flags) = reported_use reg ∷ scratch_request ∷ []
memory_requests _ = scratch_request ∷ []

-- the general register of a number
abbrev pub fixed_general : ℕ → Option Reported
fixed_general n = Some (Fixed (general n))

-- the general registers from one number to another
abbrev pub general_between : (low high : ℕ) → List (Option Reported)
general_between low high = map fixed_general (range_with_len low (min (high + 1) 16 - low))

-- the general registers in the range of a multiple, whose ends have to be real
abbrev pub range_requests : Reg → Reg → List (Option Reported)
range_requests (Real p) (Real q) = general_between p.number q.number
range_requests _ _ = None ∷ []
