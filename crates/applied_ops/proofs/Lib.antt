pub mod Placing
pub mod Found
