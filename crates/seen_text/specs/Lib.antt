pub mod Laws
pub mod Lies
pub mod Texts
