pub mod Further
pub mod Headers
pub mod Plain
