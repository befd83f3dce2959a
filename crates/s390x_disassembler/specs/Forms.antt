-- The operands of each form.
use Rattle.std.specs.Prelude.{List}
use Rattle.s390x_disassembler.specs.declared.forms.Operand.{Operand}
use Rattle.s390x_format.specs.declared.spelling.Form.{Form}
use Rattle.s390x_format.specs.declared.spelling.Form.TheVariants.{BranchRegister, General2, Float2, GeneralIndexed, FloatIndexed, StorageByte, General2Storage, GeneralUnsigned, Target, GeneralTarget, GeneralSigned16, GeneralSigned32, GeneralAccess, FloatGeneral, GeneralFloat, General2Mask, General3, General2Count, StorageSigned, VectorIndexedLane, VectorIndexed, GeneralVectorStorage, VectorGeneralStorage, Vector2Storage, VectorSignedLane, VectorUnsigned, VectorSigned, VectorBits, Vector2Lane, Vector2, Vector3, VectorGeneral2, Vector3Mask, Vector4Byte, Vector4, Vector3Control, GeneralSignedMask, General2Bits, GeneralUnsignedMask, General2Signed}
use Rattle.s390x_disassembler.specs.declared.forms.TheConstants.{BRANCH_REGISTER, GENERAL_2, FLOAT_2, GENERAL_INDEXED, FLOAT_INDEXED, STORAGE_BYTE, GENERAL_2_STORAGE, GENERAL_UNSIGNED, TARGET, GENERAL_TARGET, GENERAL_SIGNED_16, GENERAL_SIGNED_32, GENERAL_ACCESS, FLOAT_GENERAL, GENERAL_FLOAT, GENERAL_2_MASK, GENERAL_3, GENERAL_2_COUNT, STORAGE_SIGNED, VECTOR_INDEXED_LANE, VECTOR_INDEXED, GENERAL_VECTOR_STORAGE, VECTOR_GENERAL_STORAGE, VECTOR_2_STORAGE, VECTOR_SIGNED_LANE, VECTOR_UNSIGNED, VECTOR_SIGNED, VECTOR_BITS, VECTOR_2_LANE, VECTOR_2, VECTOR_3, VECTOR_GENERAL_2, VECTOR_3_MASK, VECTOR_4_BYTE, VECTOR_4, VECTOR_3_CONTROL, GENERAL_SIGNED_MASK, GENERAL_2_BITS, GENERAL_UNSIGNED_MASK, GENERAL_2_SIGNED}

-- the operands, in the order in which they are written
unfoldable pub operands_of : Form → List Operand
operands_of BranchRegister = BRANCH_REGISTER
operands_of General2 = GENERAL_2
operands_of Float2 = FLOAT_2
operands_of GeneralIndexed = GENERAL_INDEXED
operands_of FloatIndexed = FLOAT_INDEXED
operands_of StorageByte = STORAGE_BYTE
operands_of General2Storage = GENERAL_2_STORAGE
operands_of GeneralUnsigned = GENERAL_UNSIGNED
operands_of Target = TARGET
operands_of GeneralTarget = GENERAL_TARGET
operands_of GeneralSigned16 = GENERAL_SIGNED_16
operands_of GeneralSigned32 = GENERAL_SIGNED_32
operands_of GeneralAccess = GENERAL_ACCESS
operands_of FloatGeneral = FLOAT_GENERAL
operands_of GeneralFloat = GENERAL_FLOAT
operands_of General2Mask = GENERAL_2_MASK
operands_of General3 = GENERAL_3
operands_of General2Count = GENERAL_2_COUNT
operands_of StorageSigned = STORAGE_SIGNED
operands_of VectorIndexedLane = VECTOR_INDEXED_LANE
operands_of VectorIndexed = VECTOR_INDEXED
operands_of GeneralVectorStorage = GENERAL_VECTOR_STORAGE
operands_of VectorGeneralStorage = VECTOR_GENERAL_STORAGE
operands_of Vector2Storage = VECTOR_2_STORAGE
operands_of VectorSignedLane = VECTOR_SIGNED_LANE
operands_of VectorUnsigned = VECTOR_UNSIGNED
operands_of VectorSigned = VECTOR_SIGNED
operands_of VectorBits = VECTOR_BITS
operands_of Vector2Lane = VECTOR_2_LANE
operands_of Vector2 = VECTOR_2
operands_of Vector3 = VECTOR_3
operands_of VectorGeneral2 = VECTOR_GENERAL_2
operands_of Vector3Mask = VECTOR_3_MASK
operands_of Vector4Byte = VECTOR_4_BYTE
operands_of Vector4 = VECTOR_4
operands_of Vector3Control = VECTOR_3_CONTROL
operands_of GeneralSignedMask = GENERAL_SIGNED_MASK
operands_of General2Bits = GENERAL_2_BITS
operands_of GeneralUnsignedMask = GENERAL_UNSIGNED_MASK
operands_of General2Signed = GENERAL_2_SIGNED
