pub mod Stamps
pub mod Clocks
pub mod Versions
pub mod Laws
