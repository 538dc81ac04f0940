pub mod Keyed
pub mod Listing
pub mod OfWaiting
mod Rows
pub mod Ready
