pub mod Lines
pub mod Unpacking
pub mod Packing
pub mod Words
pub mod Laws
