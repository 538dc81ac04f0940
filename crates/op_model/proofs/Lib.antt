pub mod Elements
pub mod order
pub mod shown
pub mod texts
pub mod histories
pub mod answers
pub mod anchors
pub mod since
pub mod settling
mod rows
pub mod MainLaws
