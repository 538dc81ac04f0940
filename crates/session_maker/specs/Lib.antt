pub mod Draws
pub mod Turns
pub mod Made
pub mod Written
pub mod Laws
