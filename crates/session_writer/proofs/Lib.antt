pub mod Values
pub mod Forms
pub mod Compact
pub mod CutLines
pub mod Again
pub mod Written
pub mod Headers
pub mod Decoding
