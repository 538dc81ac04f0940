pub mod Joined
pub mod Partly
pub mod PartlyLaws
