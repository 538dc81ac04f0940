pub mod Fates
pub mod Differs
pub mod DifferLaws
pub mod Opened
pub mod Telling
pub mod Laws
pub mod Back
