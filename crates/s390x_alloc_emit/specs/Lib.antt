pub mod AssignedEmission
