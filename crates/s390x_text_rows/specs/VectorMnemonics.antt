-- The mnemonics of vector operators: the stem of the operator's row, and behind it a letter for the size of its elements, b, h, f, g or q for 8 to 128
-- bits (the manual, chapters 21 and 22).
use Rattle.std.specs.Prelude.{ℕ, List, [], ◌++◌, codes, cond, nat_eq}
use Rattle.s390x_format.specs.Stems.{stem_of}
use Rattle.s390x_typed_steps.specs.VectorOpcodes.{binary_row, unary_row, shift_row, comparison_row, element_comparison_row}
use Rattle.s390x_typed_steps.specs.declared.vector_opcode.VectorOpcode.{VectorOpcode}
use Rattle.s390x_text_rows.specs.declared.vector_mnemonics.Letters.{Letters}
use Rattle.s390x_text_rows.specs.declared.vector_mnemonics.Letters.TheVariants.{Empty, B, H, F, G, Q, Hw}
use Rattle.s390x_text_rows.specs.declared.vector_mnemonics.Mnemonic.{Mnemonic}
use Rattle.s390x_typed_steps.specs.Memory.{layout_rows}
use Rattle.s390x_inst.specs.Wholes.{by_direction}
use Rattle.s390x_inst.specs.declared.whole.Direction.{Direction}
use Rattle.s390x_inst.specs.declared.whole.WholeLayout.{WholeLayout}
use Rattle.s390x_inst.specs.declared.vec_ops.VecBinaryOp.{VecBinaryOp}
use Rattle.s390x_inst.specs.declared.vec_ops.VecBinaryOp.TheVariants.{Add128Cout, Sub128Cout, Mul16x8, And128, Orr128, Xor128, NotAnd128, NotOrr128, NotXor128, AndNot128, OrrNot128, BitPermute128, LShLByByte128, LShRByByte128, AShRByByte128, LShLByBit128, LShRByBit128, AShRByBit128}
use Rattle.s390x_inst.specs.declared.vec_ops.VecUnaryOp.{VecUnaryOp}
use Rattle.s390x_inst.specs.declared.vec_ops.VecShiftOp.{VecShiftOp}
use Rattle.s390x_inst.specs.declared.vec_ops.VecIntCmpOp.{VecIntCmpOp}
use Rattle.s390x_inst.specs.declared.vec_ops.VecIntEltCmpOp.{VecIntEltCmpOp}

-- what stands behind a stem
abbrev pub letters_text : Letters → List ℕ
letters_text Empty = []
letters_text B = codes "b"
letters_text H = codes "h"
letters_text F = codes "f"
letters_text G = codes "g"
letters_text Q = codes "q"
letters_text Hw = codes "hw"

-- a mnemonic in two parts
abbrev pub mnemonic_text : Mnemonic → List ℕ
mnemonic_text m = stem_of m.opcode ++ letters_text m.letters

-- the letter of the elements' size, by its code
abbrev pub size_letter : ℕ → List ℕ
size_letter code = cond (nat_eq code 0) (codes "b") (cond (nat_eq code 1) (codes "h") (cond (nat_eq code 2) (codes "f") (cond (nat_eq code 3) (codes "g") (codes "q"))))

-- a row's stem with this letter
abbrev pub sized_mnemonic : VectorOpcode → List ℕ
sized_mnemonic row = stem_of row.opcode ++ size_letter row.code

-- what stands behind the stem of an operator on two vectors: nothing where its row has one size alone, and `hw` where `h` would make another row's stem
abbrev pub binary_letters : VecBinaryOp → ℕ → List ℕ
binary_letters Mul16x8 code = codes "hw"
binary_letters Add128Cout code = []
binary_letters Sub128Cout code = []
binary_letters And128 code = []
binary_letters Orr128 code = []
binary_letters Xor128 code = []
binary_letters NotAnd128 code = []
binary_letters NotOrr128 code = []
binary_letters NotXor128 code = []
binary_letters AndNot128 code = []
binary_letters OrrNot128 code = []
binary_letters BitPermute128 code = []
binary_letters LShLByByte128 code = []
binary_letters LShRByByte128 code = []
binary_letters AShRByByte128 code = []
binary_letters LShLByBit128 code = []
binary_letters LShRByBit128 code = []
binary_letters AShRByBit128 code = []
binary_letters _ code = size_letter code

-- an operator on two vectors
unfoldable pub vec_binary_name : VecBinaryOp → List ℕ
vec_binary_name op = stem_of (binary_row op).opcode ++ binary_letters op (binary_row op).code

-- an operator on one vector; of UnpackSLow16x8 it is `vuplh`, as Cranelift's listings have it, where the manual has `vuplhw`
unfoldable pub vec_unary_name : VecUnaryOp → List ℕ
vec_unary_name op = sized_mnemonic (unary_row op)

-- lanes that are shifted by an amount
unfoldable pub vec_shift_name : VecShiftOp → List ℕ
vec_shift_name op = sized_mnemonic (shift_row op)

-- a comparison of lanes
unfoldable pub vec_compare_name : VecIntCmpOp → List ℕ
vec_compare_name op = sized_mnemonic (comparison_row op)

-- a comparison of lanes that sets the condition code
abbrev pub vec_compare_set_name : VecIntCmpOp → List ℕ
vec_compare_set_name op = vec_compare_name op ++ codes "s"

-- a comparison of two numbers of 128 bits
unfoldable pub vec_element_compare_name : VecIntEltCmpOp → List ℕ
vec_element_compare_name op = sized_mnemonic (element_comparison_row op)

-- what stands behind the stem of a load or a store of a whole register, by the mask of its row: nothing where the row has one size alone
abbrev pub whole_letters : ℕ → List ℕ
whole_letters mask = cond (nat_eq mask 0) [] (size_letter mask)

-- a load or a store of a whole register
unfoldable pub whole_name : Direction → WholeLayout → List ℕ
whole_name direction layout = stem_of (by_direction direction (layout_rows layout).load_opcode (layout_rows layout).store_opcode) ++ whole_letters (layout_rows layout).mask
