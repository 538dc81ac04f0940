pub mod Sliding
pub mod Places
pub mod Reading
pub mod Chunks
pub mod Ranges
pub mod Dividing
