-- What a row, masks and an immediate tell is an operation with its sizes and numbers in range.
use Rattle.std.proofs.Common.{◌≡◌, ℕ, Bool, true, false, cond, List, Option, None, Some, IsTrue, refl, ℤ, slice_index}
use Rattle.s390x_lanes.specs.declared.operators.VectorOperation.{VectorOperation}
use Rattle.s390x_lanes.specs.declared.row.VectorRow.{VectorRow}
use Rattle.s390x_lanes.specs.Rows.{operation_from, kind_allows, is_operation, where_operation, immediate_bits, with_immediate, operation_of}

-- there is none, or its sizes and numbers are in range
abbrev pub IsAllowed : Option VectorOperation → Type 0
IsAllowed None = Unit {0}
IsAllowed (Some operation) = IsTrue (is_operation operation)

tested : (operation : VectorOperation) (b : Bool) → is_operation operation ≡ b → IsAllowed (cond b (Some operation) None)
tested operation true e = e
tested operation false e = tt

row_allowed : (b : Bool) (operation : VectorOperation) → IsAllowed (cond b (where_operation operation) None)
row_allowed true operation = tested operation (is_operation operation) refl
row_allowed false operation = tt

read_allowed : (row : VectorRow) (masks : List ℕ) (k : Option ℕ) → IsAllowed (with_immediate row masks k)
read_allowed row masks None = tt
read_allowed row masks (Some k) =
    row_allowed (kind_allows row.kind row (slice_index masks 0) (slice_index masks 1) (slice_index masks 2) k) (operation_from row.kind (slice_index masks 0) (slice_index masks 1) (slice_index masks 2) k)

pub operation_allowed : (row : VectorRow) (masks : List ℕ) (imm : ℤ) → IsAllowed (operation_of row masks imm)
unfolding operation_of
operation_allowed row masks imm = read_allowed row masks (immediate_bits imm)
