pub mod Fronts
pub mod Growing
pub mod Following
pub mod Places
pub mod Opening
pub mod Crossing
