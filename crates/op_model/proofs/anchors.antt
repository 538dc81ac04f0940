pub mod AnchorOrder
pub mod AnchorPlaces
pub mod KnownAnchors
pub mod KeptOrder
pub mod LeftAnchors
pub mod Standing
pub mod FatePlaces
pub mod PlaceBoundaries
