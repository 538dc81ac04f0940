pub mod Found
pub mod Bytes
pub mod Begins
pub mod Edits
