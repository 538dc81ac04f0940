pub mod Replies
pub mod Beside
pub mod Replay
pub mod Laws
