-- Which operation a row, masks and an immediate are. The masks are the masks and 8-bit immediates of the row's format in
-- the order of its operands, and the immediate is its 16-bit one, or the amount of an element shift; what a format lacks is 0.
use Rattle.std.specs.Prelude.{ℕ, ◌/◌, ◌%◌, ◌^◌, Bool, true, false, nat_lt, nat_le, ◌==◌, ◌&&◌, List, slice_index, Option, None, Some, ℤ, pos, negsuc, if◌then◌else◌}
use Rattle.s390x_lanes.specs.Size.{element_bits, lane_count, size_of_code, narrower_of_code}
use Rattle.s390x_lanes.specs.declared.size.ElementSize.TheVariants.{Quadword}
use Rattle.s390x_lanes.specs.declared.operators.VectorOperation.{VectorOperation}
use Rattle.s390x_lanes.specs.declared.operators.VectorOperation.TheVariants as O
use Rattle.s390x_lanes.specs.declared.operators.BinaryOperator.TheVariants.{Add}
use Rattle.s390x_lanes.specs.declared.row.VectorRow.{VectorRow}
use Rattle.s390x_lanes.specs.declared.row.RowKind.{RowKind}
use Rattle.s390x_lanes.specs.declared.row.RowKind.TheVariants.{Binary, Whole, Compare, MultiplyHigh, MultiplyPairs, Divide, Unary, ShiftElements, Pack, Merge, Unpack, Replicate, ByteMask, BitMask, Select, Permute, PermuteDoublewords, ShiftByBits, ShiftByBytes, Move, InsertImmediate, ReplicateImmediate, BitPermute, CompareElement, Blend, Evaluate}

-- the operation of a row with masks a, b, c and immediate k
abbrev pub operation_from : RowKind → ℕ → ℕ → ℕ → ℕ → VectorOperation
operation_from (Binary operator) a b c k = O.Binary operator (size_of_code a)
operation_from (Whole operator) a b c k = O.Binary operator Quadword
operation_from (Compare comparison) a b c k = O.Compare comparison (size_of_code a) (b == 1)
operation_from (MultiplyHigh sign) a b c k = O.MultiplyHigh sign (size_of_code a)
operation_from (MultiplyPairs sign parity) a b c k = O.MultiplyPairs sign parity (size_of_code a)
operation_from (Divide division sign) a b c k = O.Divide division sign (size_of_code a)
operation_from (Unary operator) a b c k = O.Unary operator (size_of_code a)
operation_from (ShiftElements operator) a b c k = O.ShiftElements operator (size_of_code a) k
operation_from (Pack narrowing) a b c k = O.Pack narrowing (narrower_of_code a)
operation_from (Merge half) a b c k = O.Merge half (size_of_code a)
operation_from (Unpack sign half) a b c k = O.Unpack sign half (size_of_code a)
operation_from Replicate a b c k = O.Replicate (size_of_code a) k
operation_from ByteMask a b c k = O.ByteMask k
operation_from BitMask a b c k = O.BitMask (size_of_code c) a b
operation_from Select a b c k = O.Select
operation_from Permute a b c k = O.Permute
operation_from PermuteDoublewords a b c k = O.PermuteDoublewords (a / 4) (a % 4)
operation_from (ShiftByBits operator) a b c k = O.ShiftByBits operator
operation_from (ShiftByBytes operator) a b c k = O.ShiftByBytes operator
operation_from Move a b c k = O.Move
operation_from (InsertImmediate size) a b c k = O.InsertImmediate size k a
operation_from ReplicateImmediate a b c k = O.ReplicateImmediate (size_of_code a) k
operation_from BitPermute a b c k = O.BitPermute
operation_from (CompareElement sign) a b c k = O.CompareElement sign (size_of_code a)
operation_from Blend a b c k = O.Blend
operation_from Evaluate a b c k = O.Evaluate a

-- a mask from the row's least to its greatest
abbrev pub is_mask_within : VectorRow → ℕ → Bool
is_mask_within row m = nat_le row.least m && nat_le m row.greatest

-- the masks and the immediate that a row of a kind may have: one mask from least to greatest, and all that the kind doesn't name 0
abbrev pub kind_allows : RowKind → VectorRow → ℕ → ℕ → ℕ → ℕ → Bool
kind_allows (Compare comparison) row a b c k = is_mask_within row a && nat_le b 1 && (c == 0) && (k == 0)
kind_allows (ShiftElements operator) row a b c k = is_mask_within row a && (b == 0) && (c == 0) && nat_lt k 64
kind_allows Replicate row a b c k = is_mask_within row a && (b == 0) && (c == 0)
kind_allows ByteMask row a b c k = is_mask_within row a && (b == 0) && (c == 0)
kind_allows (InsertImmediate size) row a b c k = is_mask_within row a && (b == 0) && (c == 0)
kind_allows ReplicateImmediate row a b c k = is_mask_within row a && (b == 0) && (c == 0)
kind_allows BitMask row a b c k = is_mask_within row c && (k == 0)
kind_allows _ row a b c k = is_mask_within row a && (b == 0) && (c == 0) && (k == 0)

-- the element sizes, lane numbers and bit numbers of an operation
abbrev pub is_operation : VectorOperation → Bool
is_operation (O.MultiplyPairs sign parity size) = nat_le (element_bits size) 64
is_operation (O.Pack narrowing size) = nat_le (element_bits size) 64
is_operation (O.Merge half size) = nat_le (element_bits size) 64
is_operation (O.Unpack sign half size) = nat_le (element_bits size) 64
is_operation (O.Replicate size index) = nat_lt index (lane_count size)
is_operation (O.BitMask size start end) = nat_le (element_bits size) 64 && nat_lt start (element_bits size) && nat_lt end (element_bits size)
is_operation (O.PermuteDoublewords a b) = nat_lt a 2 && nat_lt b 2
is_operation (O.InsertImmediate size value index) = nat_lt index (lane_count size)
is_operation _ = true

-- the operation, where its sizes and numbers are allowed
abbrev pub where_operation : VectorOperation → Option VectorOperation
where_operation operation = if is_operation operation then Some operation else None

-- the operation of a row with these masks and this immediate, where the row allows them
abbrev pub row_operation : VectorRow → List ℕ → ℕ → Option VectorOperation
row_operation row masks k =
    if kind_allows row.kind row (slice_index masks 0) (slice_index masks 1) (slice_index masks 2) k
    then where_operation (operation_from row.kind (slice_index masks 0) (slice_index masks 1) (slice_index masks 2) k)
    else None

-- an immediate of 16 bits, as a number of 0 to 65535
abbrev pub immediate_bits : ℤ → Option ℕ
immediate_bits (pos n) = if nat_lt n (2 ^ 16) then Some n else None
immediate_bits (negsuc n) = None

-- the operation of a row with masks and the bits of an immediate, where there is one
abbrev pub with_immediate : VectorRow → List ℕ → Option ℕ → Option VectorOperation
with_immediate row masks None = None
with_immediate row masks (Some k) = row_operation row masks k

-- the operation of a row with masks and an immediate
unfoldable pub operation_of : VectorRow → List ℕ → ℤ → Option VectorOperation
operation_of row masks imm = with_immediate row masks (immediate_bits imm)

-- the stepper computes it: not Blend, Evaluate or a high product of 128-bit elements
abbrev pub is_computed : VectorOperation → Bool
is_computed (O.MultiplyHigh sign size) = nat_le (element_bits size) 64
is_computed O.Blend = false
is_computed (O.Evaluate table) = false
is_computed _ = true

-- the operation, where the stepper computes it
abbrev pub where_computed : Option VectorOperation → Option VectorOperation
where_computed None = None
where_computed (Some operation) = if is_computed operation then Some operation else None

-- the operation that a step computes
abbrev pub computed_operation : VectorRow → List ℕ → ℤ → Option VectorOperation
computed_operation row masks imm = where_computed (operation_of row masks imm)

-- stands for the row of an opcode that has none
abbrev pub no_vector_row : VectorRow
no_vector_row = record { kind = Binary Add; least = 0; greatest = 0 }
