-- What instructions report, and the first one whose operands can't be reported.
use Rattle.std.specs.Prelude.{◌≡◌, ℕ, ◌+◌, false, List, [], ◌∷◌, ◌++◌, Option, Some, None, Result, MatchResult, Vec}
use Rattle.std.specs.declared.alloc.Global.{Global}
use Rattle.s390x_inst.specs.declared.function.Block.{Block}
use Rattle.s390x_inst.specs.declared.inst.Inst.{Inst}
use Rattle.s390x_operands.specs.Operands.{operands, operands_cause}
use Rattle.s390x_operands.specs.declared.constraint.OperandError.{OperandError}
use Rattle.s390x_c_allocation.specs.OperandEntries.{items_entries}
use Rattle.s390x_c_allocation.specs.declared.operand_entries.OperandEntry.{OperandEntry}
use Rattle.s390x_c_allocation.specs.declared.operand_entries.Spot.{Spot}
use Rattle.s390x_c_allocation.specs.declared.report.ReportError.{ReportError}
use Rattle.s390x_c_allocation.specs.declared.report.ReportError.TheVariants as error
use Rattle.s390x_c_allocation.specs.declared.report.Unreported.{Unreported}

-- entries, and the first instruction whose operands can't be reported
pub record Report : Type 0 where
  pub first : Option Unreported
  pub entries : List OperandEntry

-- the first of two
abbrev pub first_of : Option Unreported → Option Unreported → Option Unreported
first_of None later = later
first_of (Some u) later = Some u

-- one report behind another
abbrev pub both : Report → Report → Report
both r s = record { first = first_of r.first s.first; entries = r.entries ++ s.entries }

-- the reports of all elements, which are counted from a number on
abbrev pub each : {A : Type 0} → (ℕ → A → Report) → ℕ → List A → Report
each report k [] = record { first = None; entries = [] }
each report k (x ∷ xs) = both (report k x) (each report (k + 1) xs)

-- an instruction that can't be reported by this cause, want of memory aside
abbrev pub report_failure : Spot → Option OperandError → Option Unreported
report_failure s None = None
report_failure s (Some cause) = Some (record { block = s.block; instruction = s.instruction; cause = cause })

abbrev pub inst_report : Spot → Inst → Report
inst_report s i = record { first = report_failure s (operands_cause false i); entries = items_entries s (operands i) }

-- the instruction of this number in a block
abbrev pub inst_report_in : (block instruction : ℕ) → Inst → Report
inst_report_in b k i = inst_report (record { block = b; instruction = k }) i

-- the instructions of a block
abbrev pub insts_report : (block : ℕ) → List Inst → Report
insts_report b is = each (inst_report_in b) 0 is

abbrev pub block_report : (block : ℕ) → Block → Report
block_report b v = insts_report b v.insts.items

-- the blocks of a function
abbrev pub blocks_report : List Block → Report
blocks_report vs = each block_report 0 vs

-- an error is want of memory, or this first instruction
abbrev pub IsReportError : Option Unreported → ReportError → Type 0
IsReportError first error.NoMemory = Unit {0}
IsReportError first (error.Unreported u) = first ≡ Some u

-- what a call answers that appends a report
abbrev pub Adds : Result (Unit {0}) ReportError → (old new : List OperandEntry) → Report → Type 0
Adds result old new r = MatchResult result (λ _. (r.first ≡ None) × (new ≡ old ++ r.entries)) (λ e. IsReportError r.first e)

-- what a call answers that gives a report
abbrev pub Reporting : Result (Vec OperandEntry Global) ReportError → Report → Type 0
Reporting result r = MatchResult result (λ v. (r.first ≡ None) × (v.items ≡ r.entries)) (λ e. IsReportError r.first e)
