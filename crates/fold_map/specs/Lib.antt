pub mod Folds
pub mod State
pub mod Calls
pub mod Numbered
pub mod Passed
pub mod Windows
pub mod Laws
