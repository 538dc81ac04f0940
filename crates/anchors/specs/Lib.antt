pub mod Before
pub mod BeforeLaws
pub mod Making
pub mod Spots
pub mod Standing
pub mod Laws
