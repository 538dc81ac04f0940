pub mod AsBox
mod Crossing
mod Listing
mod Opens
mod Places
pub mod Pointers
mod Saves
mod Takes
