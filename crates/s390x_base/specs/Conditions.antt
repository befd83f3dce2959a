-- The masks of conditions (cranelift-codegen, `args.rs`), and the condition codes that they select.
use Rattle.std.specs.Prelude.{ℕ, zero, suc, ◌/◌, ◌%◌, Bool, false, nat_eq}
use Rattle.s390x_base.specs.declared.cond.IntCC.{IntCC}
use Rattle.s390x_base.specs.declared.cond.IntCC.TheVariants.{Equal, NotEqual, SignedLessThan, SignedGreaterThanOrEqual, SignedGreaterThan, SignedLessThanOrEqual, UnsignedLessThan, UnsignedGreaterThanOrEqual, UnsignedGreaterThan, UnsignedLessThanOrEqual}
use Rattle.s390x_base.specs.declared.cond.FloatCC.{FloatCC}
use Rattle.s390x_base.specs.declared.cond.FloatCC.TheVariants.{Ordered, Unordered, Equal as FloatEqual, NotEqual as FloatNotEqual, OrderedNotEqual, UnorderedOrEqual, LessThan, LessThanOrEqual, GreaterThan, GreaterThanOrEqual, UnorderedOrLessThan, UnorderedOrLessThanOrEqual, UnorderedOrGreaterThan, UnorderedOrGreaterThanOrEqual}

-- the mask of the codes at which a condition holds after a comparison of integers
abbrev pub mask_of_intcc : IntCC → ℕ
mask_of_intcc Equal = 8
mask_of_intcc NotEqual = 6
mask_of_intcc SignedLessThan = 4
mask_of_intcc SignedGreaterThanOrEqual = 10
mask_of_intcc SignedGreaterThan = 2
mask_of_intcc SignedLessThanOrEqual = 12
mask_of_intcc UnsignedLessThan = 4
mask_of_intcc UnsignedGreaterThanOrEqual = 10
mask_of_intcc UnsignedGreaterThan = 2
mask_of_intcc UnsignedLessThanOrEqual = 12

-- the mask of the codes at which a condition holds after a comparison of floats, which gives code 3 where they are unordered
abbrev pub mask_of_floatcc : FloatCC → ℕ
mask_of_floatcc Ordered = 14
mask_of_floatcc Unordered = 1
mask_of_floatcc FloatEqual = 8
mask_of_floatcc FloatNotEqual = 7
mask_of_floatcc OrderedNotEqual = 6
mask_of_floatcc UnorderedOrEqual = 9
mask_of_floatcc LessThan = 4
mask_of_floatcc LessThanOrEqual = 12
mask_of_floatcc GreaterThan = 2
mask_of_floatcc GreaterThanOrEqual = 10
mask_of_floatcc UnorderedOrLessThan = 5
mask_of_floatcc UnorderedOrLessThanOrEqual = 13
mask_of_floatcc UnorderedOrGreaterThan = 3
mask_of_floatcc UnorderedOrGreaterThanOrEqual = 11

-- whether a mask selects a condition code: its leftmost bit stands for code 0 (Principles of Operation, chapter 7, BRANCH ON CONDITION)
abbrev pub selects : ℕ → ℕ → Bool
selects mask zero = nat_eq (mask / 8 % 2) 1
selects mask (suc zero) = nat_eq (mask / 4 % 2) 1
selects mask (suc (suc zero)) = nat_eq (mask / 2 % 2) 1
selects mask (suc (suc (suc zero))) = nat_eq (mask % 2) 1
selects mask (suc (suc (suc (suc code)))) = false
