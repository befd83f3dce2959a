-- What each operator on vectors does, lane by lane (cranelift-codegen, `inst.isle`): the operation of its elements, and of which size they are.
use Rattle.std.specs.Prelude.{Bool}
use Rattle.s390x_inst.specs.declared.vec_ops.VecBinaryOp.{VecBinaryOp}
use Rattle.s390x_inst.specs.declared.vec_ops.VecBinaryOp.TheVariants as B
use Rattle.s390x_inst.specs.declared.vec_ops.VecUnaryOp.{VecUnaryOp}
use Rattle.s390x_inst.specs.declared.vec_ops.VecUnaryOp.TheVariants as U
use Rattle.s390x_inst.specs.declared.vec_ops.VecShiftOp.{VecShiftOp}
use Rattle.s390x_inst.specs.declared.vec_ops.VecShiftOp.TheVariants as S
use Rattle.s390x_inst.specs.declared.vec_ops.VecIntCmpOp.{VecIntCmpOp}
use Rattle.s390x_inst.specs.declared.vec_ops.VecIntCmpOp.TheVariants as C
use Rattle.s390x_inst.specs.declared.vec_ops.VecIntEltCmpOp.{VecIntEltCmpOp}
use Rattle.s390x_inst.specs.declared.vec_ops.VecIntEltCmpOp.TheVariants as E
use Rattle.s390x_lanes.specs.declared.size.ElementSize.{ElementSize}
use Rattle.s390x_lanes.specs.declared.size.ElementSize.TheVariants.{Byte, Halfword, Word, Doubleword, Quadword}
use Rattle.s390x_lanes.specs.declared.operators.VectorOperation.{VectorOperation}
use Rattle.s390x_lanes.specs.declared.operators.VectorOperation.TheVariants.{Binary, Compare, CompareElement, MultiplyHigh, MultiplyPairs, Divide, Unary, Pack, Merge, Unpack, BitPermute, ShiftByBits, ShiftByBytes}
use Rattle.s390x_lanes.specs.declared.operators.BinaryOperator.TheVariants as Two
use Rattle.s390x_lanes.specs.declared.operators.UnaryOperator.TheVariants as One
use Rattle.s390x_lanes.specs.declared.operators.Comparison.TheVariants.{Equal}
use Rattle.s390x_lanes.specs.declared.operators.Comparison.TheVariants as Order
use Rattle.s390x_lanes.specs.declared.operators.Signedness.TheVariants.{Signed, Unsigned}
use Rattle.s390x_lanes.specs.declared.operators.Parity.TheVariants.{Even, Odd}
use Rattle.s390x_lanes.specs.declared.operators.Division.TheVariants.{Quotient, Remainder}
use Rattle.s390x_lanes.specs.declared.operators.Half.TheVariants.{High, Low}
use Rattle.s390x_lanes.specs.declared.operators.Narrowing.TheVariants.{Modulo, Saturate}
use Rattle.s390x_lanes.specs.declared.operators.ShiftOperator.{ShiftOperator}
use Rattle.s390x_lanes.specs.declared.operators.ShiftOperator.TheVariants.{RotateLeft, ShiftLeft, ShiftRightLogical, ShiftRightArithmetic}

-- an operator on two vectors
abbrev pub binary_operation : VecBinaryOp → VectorOperation
binary_operation B.Add8x16 = Binary Two.Add Byte
binary_operation B.Add16x8 = Binary Two.Add Halfword
binary_operation B.Add32x4 = Binary Two.Add Word
binary_operation B.Add64x2 = Binary Two.Add Doubleword
binary_operation B.Add128 = Binary Two.Add Quadword
binary_operation B.Sub8x16 = Binary Two.Sub Byte
binary_operation B.Sub16x8 = Binary Two.Sub Halfword
binary_operation B.Sub32x4 = Binary Two.Sub Word
binary_operation B.Sub64x2 = Binary Two.Sub Doubleword
binary_operation B.Sub128 = Binary Two.Sub Quadword
binary_operation B.Add128Cout = Binary Two.AddCarryOut Quadword
binary_operation B.Sub128Cout = Binary Two.SubBorrowOut Quadword
binary_operation B.Mul8x16 = Binary Two.Mul Byte
binary_operation B.Mul16x8 = Binary Two.Mul Halfword
binary_operation B.Mul32x4 = Binary Two.Mul Word
binary_operation B.Mul64x2 = Binary Two.Mul Doubleword
binary_operation B.Mul128 = Binary Two.Mul Quadword
binary_operation B.UMulHi8x16 = MultiplyHigh Unsigned Byte
binary_operation B.UMulHi16x8 = MultiplyHigh Unsigned Halfword
binary_operation B.UMulHi32x4 = MultiplyHigh Unsigned Word
binary_operation B.UMulHi64x2 = MultiplyHigh Unsigned Doubleword
binary_operation B.UMulHi128 = MultiplyHigh Unsigned Quadword
binary_operation B.SMulHi8x16 = MultiplyHigh Signed Byte
binary_operation B.SMulHi16x8 = MultiplyHigh Signed Halfword
binary_operation B.SMulHi32x4 = MultiplyHigh Signed Word
binary_operation B.SMulHi64x2 = MultiplyHigh Signed Doubleword
binary_operation B.SMulHi128 = MultiplyHigh Signed Quadword
binary_operation B.UMulEven8x16 = MultiplyPairs Unsigned Even Byte
binary_operation B.UMulEven16x8 = MultiplyPairs Unsigned Even Halfword
binary_operation B.UMulEven32x4 = MultiplyPairs Unsigned Even Word
binary_operation B.UMulEven64x2 = MultiplyPairs Unsigned Even Doubleword
binary_operation B.SMulEven8x16 = MultiplyPairs Signed Even Byte
binary_operation B.SMulEven16x8 = MultiplyPairs Signed Even Halfword
binary_operation B.SMulEven32x4 = MultiplyPairs Signed Even Word
binary_operation B.SMulEven64x2 = MultiplyPairs Signed Even Doubleword
binary_operation B.UMulOdd8x16 = MultiplyPairs Unsigned Odd Byte
binary_operation B.UMulOdd16x8 = MultiplyPairs Unsigned Odd Halfword
binary_operation B.UMulOdd32x4 = MultiplyPairs Unsigned Odd Word
binary_operation B.UMulOdd64x2 = MultiplyPairs Unsigned Odd Doubleword
binary_operation B.SMulOdd8x16 = MultiplyPairs Signed Odd Byte
binary_operation B.SMulOdd16x8 = MultiplyPairs Signed Odd Halfword
binary_operation B.SMulOdd32x4 = MultiplyPairs Signed Odd Word
binary_operation B.SMulOdd64x2 = MultiplyPairs Signed Odd Doubleword
binary_operation B.UDiv32x4 = Divide Quotient Unsigned Word
binary_operation B.UDiv64x2 = Divide Quotient Unsigned Doubleword
binary_operation B.UDiv128 = Divide Quotient Unsigned Quadword
binary_operation B.SDiv32x4 = Divide Quotient Signed Word
binary_operation B.SDiv64x2 = Divide Quotient Signed Doubleword
binary_operation B.SDiv128 = Divide Quotient Signed Quadword
binary_operation B.URem32x4 = Divide Remainder Unsigned Word
binary_operation B.URem64x2 = Divide Remainder Unsigned Doubleword
binary_operation B.URem128 = Divide Remainder Unsigned Quadword
binary_operation B.SRem32x4 = Divide Remainder Signed Word
binary_operation B.SRem64x2 = Divide Remainder Signed Doubleword
binary_operation B.SRem128 = Divide Remainder Signed Quadword
binary_operation B.UMax8x16 = Binary (Two.Max Unsigned) Byte
binary_operation B.UMax16x8 = Binary (Two.Max Unsigned) Halfword
binary_operation B.UMax32x4 = Binary (Two.Max Unsigned) Word
binary_operation B.UMax64x2 = Binary (Two.Max Unsigned) Doubleword
binary_operation B.UMax128 = Binary (Two.Max Unsigned) Quadword
binary_operation B.SMax8x16 = Binary (Two.Max Signed) Byte
binary_operation B.SMax16x8 = Binary (Two.Max Signed) Halfword
binary_operation B.SMax32x4 = Binary (Two.Max Signed) Word
binary_operation B.SMax64x2 = Binary (Two.Max Signed) Doubleword
binary_operation B.SMax128 = Binary (Two.Max Signed) Quadword
binary_operation B.UMin8x16 = Binary (Two.Min Unsigned) Byte
binary_operation B.UMin16x8 = Binary (Two.Min Unsigned) Halfword
binary_operation B.UMin32x4 = Binary (Two.Min Unsigned) Word
binary_operation B.UMin64x2 = Binary (Two.Min Unsigned) Doubleword
binary_operation B.UMin128 = Binary (Two.Min Unsigned) Quadword
binary_operation B.SMin8x16 = Binary (Two.Min Signed) Byte
binary_operation B.SMin16x8 = Binary (Two.Min Signed) Halfword
binary_operation B.SMin32x4 = Binary (Two.Min Signed) Word
binary_operation B.SMin64x2 = Binary (Two.Min Signed) Doubleword
binary_operation B.SMin128 = Binary (Two.Min Signed) Quadword
binary_operation B.UAvg8x16 = Binary (Two.Average Unsigned) Byte
binary_operation B.UAvg16x8 = Binary (Two.Average Unsigned) Halfword
binary_operation B.UAvg32x4 = Binary (Two.Average Unsigned) Word
binary_operation B.UAvg64x2 = Binary (Two.Average Unsigned) Doubleword
binary_operation B.UAvg128 = Binary (Two.Average Unsigned) Quadword
binary_operation B.SAvg8x16 = Binary (Two.Average Signed) Byte
binary_operation B.SAvg16x8 = Binary (Two.Average Signed) Halfword
binary_operation B.SAvg32x4 = Binary (Two.Average Signed) Word
binary_operation B.SAvg64x2 = Binary (Two.Average Signed) Doubleword
binary_operation B.SAvg128 = Binary (Two.Average Signed) Quadword
binary_operation B.And128 = Binary Two.And Quadword
binary_operation B.Orr128 = Binary Two.Or Quadword
binary_operation B.Xor128 = Binary Two.Xor Quadword
binary_operation B.NotAnd128 = Binary Two.NotAnd Quadword
binary_operation B.NotOrr128 = Binary Two.NotOr Quadword
binary_operation B.NotXor128 = Binary Two.NotXor Quadword
binary_operation B.AndNot128 = Binary Two.AndNot Quadword
binary_operation B.OrrNot128 = Binary Two.OrNot Quadword
binary_operation B.BitPermute128 = BitPermute
binary_operation B.LShLByByte128 = ShiftByBytes ShiftLeft
binary_operation B.LShRByByte128 = ShiftByBytes ShiftRightLogical
binary_operation B.AShRByByte128 = ShiftByBytes ShiftRightArithmetic
binary_operation B.LShLByBit128 = ShiftByBits ShiftLeft
binary_operation B.LShRByBit128 = ShiftByBits ShiftRightLogical
binary_operation B.AShRByBit128 = ShiftByBits ShiftRightArithmetic
binary_operation B.Pack16x8 = Pack Modulo Byte
binary_operation B.Pack32x4 = Pack Modulo Halfword
binary_operation B.Pack64x2 = Pack Modulo Word
binary_operation B.PackUSat16x8 = Pack (Saturate Unsigned) Byte
binary_operation B.PackUSat32x4 = Pack (Saturate Unsigned) Halfword
binary_operation B.PackUSat64x2 = Pack (Saturate Unsigned) Word
binary_operation B.PackSSat16x8 = Pack (Saturate Signed) Byte
binary_operation B.PackSSat32x4 = Pack (Saturate Signed) Halfword
binary_operation B.PackSSat64x2 = Pack (Saturate Signed) Word
binary_operation B.MergeLow8x16 = Merge Low Byte
binary_operation B.MergeLow16x8 = Merge Low Halfword
binary_operation B.MergeLow32x4 = Merge Low Word
binary_operation B.MergeLow64x2 = Merge Low Doubleword
binary_operation B.MergeHigh8x16 = Merge High Byte
binary_operation B.MergeHigh16x8 = Merge High Halfword
binary_operation B.MergeHigh32x4 = Merge High Word
binary_operation B.MergeHigh64x2 = Merge High Doubleword

-- an operator on one vector
abbrev pub unary_operation : VecUnaryOp → VectorOperation
unary_operation U.Abs8x16 = Unary One.Abs Byte
unary_operation U.Abs16x8 = Unary One.Abs Halfword
unary_operation U.Abs32x4 = Unary One.Abs Word
unary_operation U.Abs64x2 = Unary One.Abs Doubleword
unary_operation U.Abs128 = Unary One.Abs Quadword
unary_operation U.Neg8x16 = Unary One.Neg Byte
unary_operation U.Neg16x8 = Unary One.Neg Halfword
unary_operation U.Neg32x4 = Unary One.Neg Word
unary_operation U.Neg64x2 = Unary One.Neg Doubleword
unary_operation U.Neg128 = Unary One.Neg Quadword
unary_operation U.Popcnt8x16 = Unary One.PopulationCount Byte
unary_operation U.Popcnt16x8 = Unary One.PopulationCount Halfword
unary_operation U.Popcnt32x4 = Unary One.PopulationCount Word
unary_operation U.Popcnt64x2 = Unary One.PopulationCount Doubleword
unary_operation U.Clz8x16 = Unary One.LeadingZeros Byte
unary_operation U.Clz16x8 = Unary One.LeadingZeros Halfword
unary_operation U.Clz32x4 = Unary One.LeadingZeros Word
unary_operation U.Clz64x2 = Unary One.LeadingZeros Doubleword
unary_operation U.Clz128 = Unary One.LeadingZeros Quadword
unary_operation U.Ctz8x16 = Unary One.TrailingZeros Byte
unary_operation U.Ctz16x8 = Unary One.TrailingZeros Halfword
unary_operation U.Ctz32x4 = Unary One.TrailingZeros Word
unary_operation U.Ctz64x2 = Unary One.TrailingZeros Doubleword
unary_operation U.Ctz128 = Unary One.TrailingZeros Quadword
unary_operation U.UnpackULow8x16 = Unpack Unsigned Low Byte
unary_operation U.UnpackULow16x8 = Unpack Unsigned Low Halfword
unary_operation U.UnpackULow32x4 = Unpack Unsigned Low Word
unary_operation U.UnpackULow64x2 = Unpack Unsigned Low Doubleword
unary_operation U.UnpackUHigh8x16 = Unpack Unsigned High Byte
unary_operation U.UnpackUHigh16x8 = Unpack Unsigned High Halfword
unary_operation U.UnpackUHigh32x4 = Unpack Unsigned High Word
unary_operation U.UnpackUHigh64x2 = Unpack Unsigned High Doubleword
unary_operation U.UnpackSLow8x16 = Unpack Signed Low Byte
unary_operation U.UnpackSLow16x8 = Unpack Signed Low Halfword
unary_operation U.UnpackSLow32x4 = Unpack Signed Low Word
unary_operation U.UnpackSLow64x2 = Unpack Signed Low Doubleword
unary_operation U.UnpackSHigh8x16 = Unpack Signed High Byte
unary_operation U.UnpackSHigh16x8 = Unpack Signed High Halfword
unary_operation U.UnpackSHigh32x4 = Unpack Signed High Word
unary_operation U.UnpackSHigh64x2 = Unpack Signed High Doubleword

-- a comparison of each element, which sets the condition code or not
abbrev pub comparison_operation : VecIntCmpOp → (sets_code : Bool) → VectorOperation
comparison_operation C.CmpEq8x16 sets_code = Compare Equal Byte sets_code
comparison_operation C.CmpEq16x8 sets_code = Compare Equal Halfword sets_code
comparison_operation C.CmpEq32x4 sets_code = Compare Equal Word sets_code
comparison_operation C.CmpEq64x2 sets_code = Compare Equal Doubleword sets_code
comparison_operation C.CmpEq128 sets_code = Compare Equal Quadword sets_code
comparison_operation C.SCmpHi8x16 sets_code = Compare (Order.High Signed) Byte sets_code
comparison_operation C.SCmpHi16x8 sets_code = Compare (Order.High Signed) Halfword sets_code
comparison_operation C.SCmpHi32x4 sets_code = Compare (Order.High Signed) Word sets_code
comparison_operation C.SCmpHi64x2 sets_code = Compare (Order.High Signed) Doubleword sets_code
comparison_operation C.SCmpHi128 sets_code = Compare (Order.High Signed) Quadword sets_code
comparison_operation C.UCmpHi8x16 sets_code = Compare (Order.High Unsigned) Byte sets_code
comparison_operation C.UCmpHi16x8 sets_code = Compare (Order.High Unsigned) Halfword sets_code
comparison_operation C.UCmpHi32x4 sets_code = Compare (Order.High Unsigned) Word sets_code
comparison_operation C.UCmpHi64x2 sets_code = Compare (Order.High Unsigned) Doubleword sets_code
comparison_operation C.UCmpHi128 sets_code = Compare (Order.High Unsigned) Quadword sets_code

-- a comparison of two numbers of 128 bits
abbrev pub element_comparison : VecIntEltCmpOp → VectorOperation
element_comparison E.SCmp128 = CompareElement Signed Quadword
element_comparison E.UCmp128 = CompareElement Unsigned Quadword

-- how a shift moves the bits of each element
abbrev pub shift_operator : VecShiftOp → ShiftOperator
shift_operator S.RotL8x16 = RotateLeft
shift_operator S.RotL16x8 = RotateLeft
shift_operator S.RotL32x4 = RotateLeft
shift_operator S.RotL64x2 = RotateLeft
shift_operator S.LShL8x16 = ShiftLeft
shift_operator S.LShL16x8 = ShiftLeft
shift_operator S.LShL32x4 = ShiftLeft
shift_operator S.LShL64x2 = ShiftLeft
shift_operator S.LShR8x16 = ShiftRightLogical
shift_operator S.LShR16x8 = ShiftRightLogical
shift_operator S.LShR32x4 = ShiftRightLogical
shift_operator S.LShR64x2 = ShiftRightLogical
shift_operator S.AShR8x16 = ShiftRightArithmetic
shift_operator S.AShR16x8 = ShiftRightArithmetic
shift_operator S.AShR32x4 = ShiftRightArithmetic
shift_operator S.AShR64x2 = ShiftRightArithmetic

-- the elements that it shifts
abbrev pub shifted_elements : VecShiftOp → ElementSize
shifted_elements S.RotL8x16 = Byte
shifted_elements S.RotL16x8 = Halfword
shifted_elements S.RotL32x4 = Word
shifted_elements S.RotL64x2 = Doubleword
shifted_elements S.LShL8x16 = Byte
shifted_elements S.LShL16x8 = Halfword
shifted_elements S.LShL32x4 = Word
shifted_elements S.LShL64x2 = Doubleword
shifted_elements S.LShR8x16 = Byte
shifted_elements S.LShR16x8 = Halfword
shifted_elements S.LShR32x4 = Word
shifted_elements S.LShR64x2 = Doubleword
shifted_elements S.AShR8x16 = Byte
shifted_elements S.AShR16x8 = Halfword
shifted_elements S.AShR32x4 = Word
shifted_elements S.AShR64x2 = Doubleword
