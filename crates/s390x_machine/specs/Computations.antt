-- What the operators of integer instructions compute (Principles of Operation, chapter 7, "General instructions"). Their names are cranelift-codegen's.
use Rattle.std.specs.Prelude.{ℕ, ◌+◌, ◌*◌, ◌^◌, pos, Bool, true, false, cond, nat_eq}
use Rattle.s390x_inst.specs.declared.ops.ALUOp.{ALUOp}
use Rattle.s390x_inst.specs.declared.ops.ALUOp.TheVariants as A
use Rattle.s390x_inst.specs.declared.ops.CmpOp.{CmpOp}
use Rattle.s390x_inst.specs.declared.ops.CmpOp.TheVariants as C
use Rattle.s390x_inst.specs.declared.ops.ShiftOp.{ShiftOp}
use Rattle.s390x_inst.specs.declared.ops.ShiftOp.TheVariants as S
use Rattle.s390x_inst.specs.declared.ops.RxSBGOp.{RxSBGOp}
use Rattle.s390x_inst.specs.declared.ops.RxSBGOp.TheVariants as R
use Rattle.s390x_inst.specs.declared.ops.UnaryOp.{UnaryOp}
use Rattle.s390x_inst.specs.declared.ops.UnaryOp.TheVariants as U
use Rattle.s390x_lanes.specs.declared.operators.Signedness.{Signedness}
use Rattle.s390x_lanes.specs.declared.operators.Signedness.TheVariants.{Signed, Unsigned}
use Rattle.s390x_lanes.specs.declared.operators.ShiftOperator.{ShiftOperator}
use Rattle.s390x_lanes.specs.declared.operators.ShiftOperator.TheVariants.{RotateLeft, ShiftLeft, ShiftRightLogical, ShiftRightArithmetic}
use Rattle.s390x_operations.specs.Bits.{selection, extended_bits}
use Rattle.s390x_operations.specs.Effects.{is_selected}
use Rattle.s390x_operations.specs.State.{Registers}
use Rattle.s390x_operations.specs.declared.size.Size.{Size}
use Rattle.s390x_operations.specs.declared.size.Size.TheVariants.{Word, Doubleword}
use Rattle.s390x_operations.specs.declared.size.Width.{Width}
use Rattle.s390x_operations.specs.declared.size.Width.TheVariants.{Bits8, Bits16, Bits32, Bits64}
use Rattle.s390x_operations.specs.declared.operand.Source.TheVariants.{Value}
use Rattle.s390x_operations.specs.declared.operand.Operand.{Operand}
use Rattle.s390x_operations.specs.declared.operator.Operator.{Operator}
use Rattle.s390x_operations.specs.declared.operator.Operator.TheVariants as O
use Rattle.s390x_operations.specs.declared.operator.SignedOperator.TheVariants.{Add, Subtract, Multiply, Negate, Absolute}
use Rattle.s390x_operations.specs.declared.operator.LogicalOperator.TheVariants as L
use Rattle.s390x_operations.specs.declared.operator.BitOperator.TheVariants.{And, Or, Xor, NotAnd, NotOr, NotXor, AndNot, OrNot}
use Rattle.s390x_operations.specs.declared.operator.SelectedBitsOperator.{SelectedBitsOperator}
use Rattle.s390x_operations.specs.declared.operator.SelectedBitsOperator.TheVariants as Select
use Rattle.s390x_operations.specs.declared.effect.Effect.{Effect}
use Rattle.s390x_operations.specs.declared.effect.Effect.TheVariants.{Compute, Compare, CompareAndTrap, Test, MultiplyPair, DividePair, DivideLogicalPair, FindLeftmostOne, Havoc, Nothing}
use Rattle.s390x_operations.specs.declared.effect.CodeRule.{CodeRule}
use Rattle.s390x_operations.specs.declared.effect.CodeRule.TheVariants.{Kept, Set, Unspecified}
use Rattle.s390x_operations.specs.declared.effect.Operation.{Operation}
use Rattle.s390x_typed_steps.specs.General.{low_word}
use Rattle.s390x_machine.specs.Operands.{value_in, address_by_base, rotated_operand, performed_where}

-- which bits of the second operand are read, and how they are extended to the operation's size
pub record Second : Type 0 where
  pub width : Width
  pub sign : Signedness
  pub reversed : Bool

-- 32 bits, without a sign
abbrev pub unsigned_word : Second
unsigned_word = record { width = Bits32; sign = Unsigned; reversed = false }

-- 32 bits, with their sign
abbrev pub signed_word : Second
signed_word = record { width = Bits32; sign = Signed; reversed = false }

-- 16 bits, with their sign
abbrev pub signed_halfword : Second
signed_halfword = record { width = Bits16; sign = Signed; reversed = false }

-- 16 bits, without a sign
abbrev pub unsigned_halfword : Second
unsigned_halfword = record { width = Bits16; sign = Unsigned; reversed = false }

-- all 64 bits
abbrev pub doubleword : Second
doubleword = record { width = Bits64; sign = Unsigned; reversed = false }

-- an operator on values of a size
pub record Computation : Type 0 where
  pub operator : Operator
  pub size : Size
  pub second : Second

-- on the right halves of registers
abbrev pub on_words : Operator → Computation
on_words operator = record { operator = operator; size = Word; second = unsigned_word }

-- on whole registers
abbrev pub on_doublewords : Operator → Computation
on_doublewords operator = record { operator = operator; size = Doubleword; second = doubleword }

-- on a first operand of a size and a second one that is read like this
abbrev pub with_second : Operator → Size → Second → Computation
with_second operator size second = record { operator = operator; size = size; second = second }

-- what each operator on two operands computes
abbrev pub alu_computation : ALUOp → Computation
alu_computation A.Add32 = on_words (O.Signed Add)
alu_computation A.Add32Ext16 = with_second (O.Signed Add) Word signed_halfword
alu_computation A.Add64 = on_doublewords (O.Signed Add)
alu_computation A.Add64Ext16 = with_second (O.Signed Add) Doubleword signed_halfword
alu_computation A.Add64Ext32 = with_second (O.Signed Add) Doubleword signed_word
alu_computation A.AddLogical32 = on_words (O.Logical L.Add)
alu_computation A.AddLogical64 = on_doublewords (O.Logical L.Add)
alu_computation A.AddLogical64Ext32 = with_second (O.Logical L.Add) Doubleword unsigned_word
alu_computation A.Sub32 = on_words (O.Signed Subtract)
alu_computation A.Sub32Ext16 = with_second (O.Signed Subtract) Word signed_halfword
alu_computation A.Sub64 = on_doublewords (O.Signed Subtract)
alu_computation A.Sub64Ext16 = with_second (O.Signed Subtract) Doubleword signed_halfword
alu_computation A.Sub64Ext32 = with_second (O.Signed Subtract) Doubleword signed_word
alu_computation A.SubLogical32 = on_words (O.Logical L.Subtract)
alu_computation A.SubLogical64 = on_doublewords (O.Logical L.Subtract)
alu_computation A.SubLogical64Ext32 = with_second (O.Logical L.Subtract) Doubleword unsigned_word
alu_computation A.Mul32 = on_words (O.Signed Multiply)
alu_computation A.Mul32Ext16 = with_second (O.Signed Multiply) Word signed_halfword
alu_computation A.Mul32CC = on_words (O.Signed Multiply)
alu_computation A.Mul64 = on_doublewords (O.Signed Multiply)
alu_computation A.Mul64Ext16 = with_second (O.Signed Multiply) Doubleword signed_halfword
alu_computation A.Mul64Ext32 = with_second (O.Signed Multiply) Doubleword signed_word
alu_computation A.Mul64CC = on_doublewords (O.Signed Multiply)
alu_computation A.And32 = on_words (O.Bit And)
alu_computation A.And64 = on_doublewords (O.Bit And)
alu_computation A.Orr32 = on_words (O.Bit Or)
alu_computation A.Orr64 = on_doublewords (O.Bit Or)
alu_computation A.Xor32 = on_words (O.Bit Xor)
alu_computation A.Xor64 = on_doublewords (O.Bit Xor)
alu_computation A.NotAnd32 = on_words (O.Bit NotAnd)
alu_computation A.NotAnd64 = on_doublewords (O.Bit NotAnd)
alu_computation A.NotOrr32 = on_words (O.Bit NotOr)
alu_computation A.NotOrr64 = on_doublewords (O.Bit NotOr)
alu_computation A.NotXor32 = on_words (O.Bit NotXor)
alu_computation A.NotXor64 = on_doublewords (O.Bit NotXor)
alu_computation A.AndNot32 = on_words (O.Bit AndNot)
alu_computation A.AndNot64 = on_doublewords (O.Bit AndNot)
alu_computation A.OrrNot32 = on_words (O.Bit OrNot)
alu_computation A.OrrNot64 = on_doublewords (O.Bit OrNot)

-- the condition code with three operands: unstated after the products that have a form which keeps it
abbrev pub alu_three_rule : ALUOp → CodeRule
alu_three_rule A.Mul32 = Unspecified
alu_three_rule A.Mul64 = Unspecified
alu_three_rule _ = Set

-- with two operands: products keep it
abbrev pub alu_two_rule : ALUOp → CodeRule
alu_two_rule A.Mul32 = Kept
alu_two_rule A.Mul32Ext16 = Kept
alu_two_rule A.Mul64 = Kept
alu_two_rule A.Mul64Ext16 = Kept
alu_two_rule A.Mul64Ext32 = Kept
alu_two_rule _ = Set

-- what each operator on one operand computes: that operand stands as the second one
abbrev pub unary_computation : UnaryOp → Computation
unary_computation U.Abs32 = on_words (O.Signed Absolute)
unary_computation U.Abs64 = on_doublewords (O.Signed Absolute)
unary_computation U.Abs64Ext32 = with_second (O.Signed Absolute) Doubleword signed_word
unary_computation U.Neg32 = on_words (O.Signed Negate)
unary_computation U.Neg64 = on_doublewords (O.Signed Negate)
unary_computation U.Neg64Ext32 = with_second (O.Signed Negate) Doubleword signed_word
unary_computation U.PopcntByte = on_doublewords O.PopulationCountByByte
unary_computation U.PopcntReg = on_doublewords O.PopulationCount
unary_computation U.BSwap32 = with_second O.Move Word (record { width = Bits32; sign = Unsigned; reversed = true })
unary_computation U.BSwap64 = with_second O.Move Doubleword (record { width = Bits64; sign = Unsigned; reversed = true })
unary_computation U.Clz64 = on_doublewords O.LeadingZeros
unary_computation U.Ctz64 = on_doublewords O.TrailingZeros

-- the condition code with one operand: reversals of bytes keep it, and it is unstated after counts of zeros
abbrev pub unary_rule : UnaryOp → CodeRule
unary_rule U.BSwap32 = Kept
unary_rule U.BSwap64 = Kept
unary_rule U.Clz64 = Unspecified
unary_rule U.Ctz64 = Unspecified
unary_rule _ = Set

-- a comparison of values of a size
pub record Comparison : Type 0 where
  pub sign : Signedness
  pub size : Size
  pub second : Second

-- how each comparison reads its operands
abbrev pub comparison : CmpOp → Comparison
comparison C.CmpS32 = record { sign = Signed; size = Word; second = unsigned_word }
comparison C.CmpS32Ext16 = record { sign = Signed; size = Word; second = signed_halfword }
comparison C.CmpS64 = record { sign = Signed; size = Doubleword; second = doubleword }
comparison C.CmpS64Ext16 = record { sign = Signed; size = Doubleword; second = signed_halfword }
comparison C.CmpS64Ext32 = record { sign = Signed; size = Doubleword; second = signed_word }
comparison C.CmpL32 = record { sign = Unsigned; size = Word; second = unsigned_word }
comparison C.CmpL32Ext16 = record { sign = Unsigned; size = Word; second = unsigned_halfword }
comparison C.CmpL64 = record { sign = Unsigned; size = Doubleword; second = doubleword }
comparison C.CmpL64Ext16 = record { sign = Unsigned; size = Doubleword; second = unsigned_halfword }
comparison C.CmpL64Ext32 = record { sign = Unsigned; size = Doubleword; second = unsigned_word }

-- an effect, with what becomes of the condition code
abbrev pub with_rule : CodeRule → Effect → Operation
with_rule rule effect = record { effect = effect; rule = rule }

-- a value as the second operand
abbrev pub operand_of : Second → ℕ → Operand
operand_of s x = record { source = Value x; width = s.width; sign = s.sign; reversed = s.reversed }

-- register d becomes the operator's value on registers n and m
abbrev pub computes : CodeRule → Computation → (d n m : ℕ) → Registers → Operation
computes rule c d n m r = with_rule rule (Compute c.operator c.size d (value_in c.size r n) (operand_of c.second (r.general m)))

-- the code becomes the order of registers n and m
abbrev pub compares : Comparison → (n m : ℕ) → Registers → Operation
compares c n m r = with_rule Set (Compare c.sign c.size (value_in c.size r n) (operand_of c.second (r.general m)))

-- register d becomes the operator's value on register n and an immediate's bits
abbrev pub computes_immediate : CodeRule → Computation → (d n bits : ℕ) → Registers → Operation
computes_immediate rule c d n bits r = with_rule rule (Compute c.operator c.size d (value_in c.size r n) (operand_of c.second bits))

-- the code becomes the order of register n and an immediate's bits
abbrev pub compares_immediate : Comparison → (n bits : ℕ) → Registers → Operation
compares_immediate c n bits r = with_rule Set (Compare c.sign c.size (value_in c.size r n) (operand_of c.second bits))

-- the same operator with an immediate, whose bits are read like this
abbrev pub on_immediate : Computation → Second → Computation
on_immediate c second = record { operator = c.operator; size = c.size; second = second }

-- the same comparison with an immediate, whose bits are read like this
abbrev pub compares_on_immediate : Comparison → Second → Comparison
compares_on_immediate c second = record { sign = c.sign; size = c.size; second = second }

-- so many bytes are taken from the stack pointer, `%r15`. The condition code is unstated
abbrev pub takes_from_stack : (size : ℕ) → Registers → Operation
takes_from_stack size = computes_immediate Unspecified (on_immediate (on_doublewords (O.Logical L.Subtract)) unsigned_word) 15 15 (low_word (pos size))

-- ---- parts of a register

-- the bits of a part of 16 bits, by its number from the right
abbrev pub part_mask : ℕ → ℕ
part_mask shift = 65535 * 2 ^ (16 * shift)

-- the bits of a half of 32 bits, by its number from the right
abbrev pub half_mask : ℕ → ℕ
half_mask shift = 4294967295 * 2 ^ (32 * shift)

-- an operator on the bits under a mask: the others stay, and the code is that of those bits
abbrev pub on_selected : SelectedBitsOperator → ℕ → Computation
on_selected operator mask = on_doublewords (O.SelectedBits operator mask)

-- what each operator does with part of a register: And, Or, and else Xor
abbrev pub part_operator : ALUOp → SelectedBitsOperator
part_operator A.And32 = Select.And
part_operator A.And64 = Select.And
part_operator A.Orr32 = Select.Or
part_operator A.Orr64 = Select.Or
part_operator _ = Select.Xor

-- an immediate of 16 bits at its part of a register
abbrev pub at_part : (shift bits : ℕ) → ℕ
at_part shift bits = bits * 2 ^ (16 * shift)

-- an immediate of 32 bits at its half
abbrev pub at_half : (shift bits : ℕ) → ℕ
at_half shift bits = bits * 2 ^ (32 * shift)

-- a half is inserted: the right one is a move of 32 bits
abbrev pub inserts_half : ℕ → Computation
inserts_half shift = cond (nat_eq shift 0) (on_words O.Move) (on_selected Select.Insert (half_mask shift))

-- ---- extensions

-- how a number of so many bits is read: one bit counts as a byte with its sign
abbrev pub extended_second : (signed : Bool) → (from : ℕ) → Second
extended_second signed from = record {
  width = cond (nat_eq from 1) Bits8 (cond (nat_eq from 8) Bits8 (cond (nat_eq from 16) Bits16 Bits32));
  sign = cond (nat_eq from 1) Signed (cond signed Signed Unsigned);
  reversed = false;
}

-- a number of so many bits becomes one of 32 bits, or of 64
abbrev pub extension : (signed : Bool) → (from to : ℕ) → Computation
extension signed from to = with_second O.Move (cond (nat_eq to 32) Word Doubleword) (extended_second signed from)

-- ---- shifts

-- how a shift moves bits
abbrev pub shift_operator : ShiftOp → ShiftOperator
shift_operator S.RotL32 = RotateLeft
shift_operator S.RotL64 = RotateLeft
shift_operator S.LShL32 = ShiftLeft
shift_operator S.LShL64 = ShiftLeft
shift_operator S.LShR32 = ShiftRightLogical
shift_operator S.LShR64 = ShiftRightLogical
shift_operator S.AShR32 = ShiftRightArithmetic
shift_operator S.AShR64 = ShiftRightArithmetic

-- the part of a register that it shifts
abbrev pub shift_size : ShiftOp → Size
shift_size S.RotL32 = Word
shift_size S.LShL32 = Word
shift_size S.LShR32 = Word
shift_size S.AShR32 = Word
shift_size _ = Doubleword

-- of the amount only low bits count
abbrev pub shift_computation : ShiftOp → Computation
shift_computation op = with_second (O.Shift (shift_operator op)) (shift_size op) (record { width = Bits8; sign = Unsigned; reversed = false })

-- a shift to the right with the sign sets the code
abbrev pub shift_rule : ShiftOp → CodeRule
shift_rule S.AShR32 = Set
shift_rule S.AShR64 = Set
shift_rule _ = Kept

-- register d becomes register n shifted by a base plus a displacement
abbrev pub shifts : ShiftOp → (d n base displacement : ℕ) → Registers → Operation
shifts op d n base displacement r =
    with_rule (shift_rule op) (Compute (shift_computation op).operator (shift_size op) d (value_in (shift_size op) r n) (operand_of (shift_computation op).second (address_by_base r base (pos displacement))))

-- ---- rotations

-- what becomes of the selected bits
abbrev pub rotate_operator : RxSBGOp → SelectedBitsOperator
rotate_operator R.Insert = Select.Insert
rotate_operator R.And = Select.And
rotate_operator R.Or = Select.Or
rotate_operator R.Xor = Select.Xor

-- an insertion leaves the code
abbrev pub rotate_rule : RxSBGOp → CodeRule
rotate_rule R.Insert = Kept
rotate_rule _ = Set

-- the bits of register d from a first to a last one are joined with those of register n, rotated to the left
abbrev pub rotates_into : RxSBGOp → (d n first last amount : ℕ) → Registers → Operation
rotates_into op d n first last amount r =
    with_rule (rotate_rule op) (Compute (O.SelectedBits (rotate_operator op) (selection first last)) Doubleword d (r.general d) (rotated_operand r n amount))

-- the code alone is set by the bits of register d joined with those of register n, rotated to the left
abbrev pub rotates_to_test : RxSBGOp → (d n first last amount : ℕ) → Registers → Operation
rotates_to_test op d n first last amount r = with_rule Set (Test (O.SelectedBits (rotate_operator op) (selection first last)) Doubleword (r.general d) (rotated_operand r n amount))

-- ---- pairs: an even register and the next one

-- a pair becomes the product of registers n and m, with their signs
abbrev pub multiplies_signed : (pair n m : ℕ) → Registers → Operation
multiplies_signed pair n m r = with_rule Kept (MultiplyPair Signed pair (r.general n) (r.general m))

-- a pair becomes the product of its second register and register m, without signs
abbrev pub multiplies_logical : (pair m : ℕ) → Registers → Operation
multiplies_logical pair m r = with_rule Kept (MultiplyPair Unsigned pair (r.general (pair + 1)) (r.general m))

-- a pair becomes the remainder and the quotient of its second register by register m, of which so many bits count, with their signs
abbrev pub divides_signed : Width → (pair m : ℕ) → Registers → Operation
divides_signed width pair m r = with_rule Kept (DividePair pair (r.general (pair + 1)) (extended_bits Signed width Doubleword (r.general m)))

-- a pair becomes the remainder and the quotient of the number that its two parts make by register m, without signs
abbrev pub divides_logical : Size → (pair m : ℕ) → Registers → Operation
divides_logical size pair m r = with_rule Kept (DivideLogicalPair size pair (value_in size r pair) (value_in size r (pair + 1)) (value_in size r m))

-- a pair becomes the number of leading zeros of register n, and it without its leftmost one
abbrev pub finds_leftmost : (pair n : ℕ) → Registers → Operation
finds_leftmost pair n r = with_rule Set (FindLeftmostOne pair (r.general n))

-- ---- comparisons that trap

-- a stop where the mask selects the order of registers n and m
abbrev pub compares_and_traps : Comparison → (n m mask : ℕ) → Registers → Operation
compares_and_traps c n m mask r = with_rule Kept (CompareAndTrap c.sign c.size (value_in c.size r n) (value_in c.size r m) mask)

-- a stop where the mask selects the order of register n and the 16 bits of an immediate
abbrev pub compares_immediate_and_traps : Comparison → (n bits mask : ℕ) → Registers → Operation
compares_immediate_and_traps c n bits mask r = with_rule Kept (CompareAndTrap c.sign c.size (value_in c.size r n) (extended_bits c.sign Bits16 c.size bits) mask)

-- ---- access registers and conditional moves

-- the right half of register d becomes an access register
abbrev pub copies_access : (d access : ℕ) → Registers → Operation
copies_access d access r = with_rule Kept (Compute O.Move Word d (value_in Word r d) (operand_of unsigned_word (r.access access)))

-- register d becomes register m where the mask selects the condition code
abbrev pub moves_where : Size → Second → (mask d m : ℕ) → Registers → Operation
moves_where size second mask d m r = performed_where (is_selected mask r.code) (with_rule Kept (Compute O.Move size d (value_in size r d) (operand_of second (r.general m))))

-- register d becomes an immediate there
abbrev pub moves_immediate_where : Size → (mask d bits : ℕ) → Registers → Operation
moves_immediate_where size mask d bits r = performed_where (is_selected mask r.code) (with_rule Kept (Compute O.Move size d (value_in size r d) (operand_of signed_halfword bits)))

-- register d becomes any value
abbrev pub havocs : (d : ℕ) → Registers → Operation
havocs d r = with_rule Kept (Havoc d)

-- nothing
abbrev pub idles : Registers → Operation
idles r = with_rule Kept Nothing
