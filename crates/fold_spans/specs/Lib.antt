pub mod Marks
pub mod Spans
pub mod Lengths
pub mod LengthLaws
pub mod Found
pub mod Sweep
pub mod Parts
pub mod Laws
