pub mod Singles
pub mod Characters
pub mod Walks
pub mod Bits
pub mod Fronts
mod Worked
pub mod Ends
pub mod Sums
pub mod Clipping
pub mod PointClips
pub mod PlacePoints
pub mod PlaceSums
