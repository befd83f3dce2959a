-- The types of values.
use Rattle.std.specs.Prelude.{ℕ, Bool, true, false}
use Rattle.s390x_base.specs.declared.ir.ValueType.{ValueType}
use Rattle.s390x_base.specs.declared.ir.ValueType.TheVariants.{I8, I16, I32, I64, I128, F16, F32, F64, F128, I8X8, I8X16, I16X8, I32X4, I64X2, F32X4, F64X2}

-- the size in bits
abbrev pub bits_of : ValueType → ℕ
bits_of I8 = 8
bits_of I16 = 16
bits_of I32 = 32
bits_of I64 = 64
bits_of I128 = 128
bits_of F16 = 16
bits_of F32 = 32
bits_of F64 = 64
bits_of F128 = 128
bits_of I8X8 = 64
bits_of I8X16 = 128
bits_of I16X8 = 128
bits_of I32X4 = 128
bits_of I64X2 = 128
bits_of F32X4 = 128
bits_of F64X2 = 128

-- whether the type has several lanes
abbrev pub is_vector_type : ValueType → Bool
is_vector_type I8 = false
is_vector_type I16 = false
is_vector_type I32 = false
is_vector_type I64 = false
is_vector_type I128 = false
is_vector_type F16 = false
is_vector_type F32 = false
is_vector_type F64 = false
is_vector_type F128 = false
is_vector_type I8X8 = true
is_vector_type I8X16 = true
is_vector_type I16X8 = true
is_vector_type I32X4 = true
is_vector_type I64X2 = true
is_vector_type F32X4 = true
is_vector_type F64X2 = true
