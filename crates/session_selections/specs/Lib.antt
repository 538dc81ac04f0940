pub mod Names
pub mod State
pub mod Answers
pub mod Lines
pub mod ReplicaId
