pub mod State
pub mod Lines
pub mod Forms
pub mod Kept
pub mod Decoding
pub mod Reports
pub mod Laws
