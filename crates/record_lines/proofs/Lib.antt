pub mod Values
pub mod Returned
pub mod Sessions
pub mod Feeds
pub mod Tokens
pub mod Packs
pub mod Rows
