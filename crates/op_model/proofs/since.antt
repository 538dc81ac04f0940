pub mod Followed
pub mod SinceBoundaries
