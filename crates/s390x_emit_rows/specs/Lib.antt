pub mod SingleInstruction
