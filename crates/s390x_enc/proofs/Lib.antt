pub mod ByteByByte
pub mod IntegerCodes
pub mod StorageCodes
pub mod VectorCodes
