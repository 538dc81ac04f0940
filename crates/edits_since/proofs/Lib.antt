pub mod Runs
pub mod Walking
pub mod Standing
pub mod Apart
pub mod Moving
pub mod Back
